-- Which rule applies to a CR.
use Rattle.std.proofs.Common.{◌≡◌, ◌<◌, false, length, Result, OnOk, arith}
use Rattle.osi_carrier.proofs.Vocabulary.{nat_tests, Connect, Selection, selected_by, answers_request, answers, has_peer, is_full, State}

pub has_room : (s : State) → length s.live < 64 → s.given < 65535 → is_full s ≡ false
has_room s few more = grind (arith, nat_tests)

pub is_answered : {A E : Type 0} (result : Result A E) (c : Connect) (s new : State) (sel : Selection) → has_peer c.source s.live ≡ false →
    is_full s ≡ false →
    sel ≡ selected_by c s.local → OnOk result (new ≡ (answers c sel s.class s).state) → OnOk result (new ≡ (answers_request c s).state)
is_answered result c s new sel free room same h = grind arith
