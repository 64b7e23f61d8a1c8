-- Text that is added in two parts, one after the other, is added as a whole.
-- For `push_leaves`.
use Rattle.std.proofs.Common.{arith, OnOk}
use Rattle.osi_report.proofs.Vocabulary.{◌≡◌, List, ℕ, ◌++◌, Result, append_assoc}

pub on_ok_more : {A E : Type 0} (r : Result A E) (new mid old a b c : List ℕ) → mid ≡ old ++ a → c ≡ a ++ b → OnOk r (new ≡ mid ++ b)
    → OnOk r (new ≡ old ++ c)
on_ok_more h new mid old a b c e f k = grind (arith, append_assoc)
