-- Pieces are carried one after the other.
-- For the code of `carrying`.
use Rattle.osi_pair.specs.Carrying.{Carries}
use Rattle.osi_pair.specs.declared.entries.Entry.{Entry}
use Rattle.osi_pair.proofs.Vocabulary.{waits, IsHeldUp, ◌<◌, ◌≤◌, ◌⊎◌, arith, ◌≡◌, ◌∙◌, ℕ, ◌+◌, ◌-◌, Bool, true, false, List, ◌∷◌, sum, map}
use Rattle.osi_pair.proofs.Vocabulary.{Result, OnOk, OnErr, is_err, sym, ap, subst, add_comm, sum_by-cons, Holding, Crossing, CarriesPiece}
use Rattle.osi_pair.proofs.Vocabulary.{entry_by, Side}

-- one piece more, if the journal is then given room
pub carries_then : (side : Side) (most carried used : ℕ) (old mid : Crossing) (from to : Holding) (said after : List Entry) →
    Carries side most old carried mid →
    CarriesPiece side (most - carried) mid used (record { from = from; to = to; journal = map entry_by said }) → after ≡ said →
    Carries side most old (carried + used) (record { from = from; to = to; journal = map entry_by after })
carries_then side most carried used old mid from to said after h more same =
    let new : Crossing = record { from = from; to = to; journal = map entry_by after } in
    record {
      pieces = used ∷ h.pieces;
      length = ap (λ n. n + used) h.length ∙ add_comm (sum h.pieces) used ∙ sym (sum_by-cons (λ n. n) used h.pieces);
      each = (mid, h.each, subst (λ n. CarriesPiece side (most - n) mid used new) h.length (grind arith));
    }

-- if nothing was refused, what holds of a success holds
pub not_refused : {T E : Type 0} (P : Type 0) (r : Result T E) (b : Bool) → b ≡ is_err r → b ≡ false → OnOk r P → P
not_refused P r b e f h = grind arith

-- if one was refused, what holds of an error holds
pub was_refused : {T E : Type 0} (P : Type 0) (r : Result T E) (b : Bool) → b ≡ is_err r → b ≡ true → OnErr r P → P
was_refused P r b e f h = grind arith

-- an end that takes nothing of something has pending indications
pub held_up : (side : Side) (most carried used : ℕ) (old mid : Crossing) → Carries side most old carried mid →
    (waits mid.to.end.lines ≡ false → 0 < most - carried → 0 < used) → 0 < most - carried → used ≡ 0 → IsHeldUp side most old
held_up side most carried used old mid h some more none =
    record { pieces = h.pieces; between = mid; each = h.each; waiting = grind arith }

-- room that was refused was used up by the last piece
pub refused_late : (len room old before after new : ℕ) → room < len + 82 → (len + 81 < room) ⊎ (before < after) → old ≤ before →
    new ≡ after → old < new
refused_late len room old before after new full h le same = grind arith
