-- When a link gives nothing.
use Rattle.std.proofs.Common.{◌≡◌, Bool, [], Some, None, ◌⊎◌, ◌↔◌, arith, if◌then◌else◌}
use Rattle.osi_class.proofs.Vocabulary.{Ends, Flow, next, zero_standing, two_standing}

some_chosen : {A : Type 0} (b : Bool) (x y : A) → (if b then Some x else Some y) ≡ None → ⊥
some_chosen b x y h = grind arith

pub class_0 : (e : Ends) → (next (zero_standing e) ≡ None) ↔ (e.unsent ≡ [])
class_0 e = grind arith

pub class_2 : (e : Ends) (f : Flow) →
    (next (two_standing e f) ≡ None) ↔ ((f.receiver.waiting ≡ 0) × ((e.unsent ≡ []) ⊎ (f.sender.credit ≡ 0)))
class_2 e f = grind arith
