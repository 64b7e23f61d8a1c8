use Rattle.std.proofs.Common.{refl}
use Rattle.osi_script.proofs.the_beginning_of_a_line_is_read_word_by_word.{call_read}
use Rattle.osi_script.proofs.fronts.call.Goals as goal

pub returns : goal.returns
returns c = call_read _ _ _ _ _ _ _ _ c.in_ok-side.ensures refl c.in_ok-verb.ensures c.in_ok-reference.ensures.value
