use Rattle.std.proofs.Common.{refl}
use Rattle.osi_script.proofs.a_frequent_call_is_read_by_its_last_word.{frequent_read}
use Rattle.osi_script.proofs.fronts.frequent_call.Goals as goal

pub returns : goal.returns
returns c =
    frequent_read _ _ _ _ c.in_ok-verb.words.now c.in_ok-call.text.now _ _ _ _ c.in_ok-side.ensures refl
    c.in_ok-verb.ensures c.in_ok-reference.ensures.value c.in_ok-call.ensures
