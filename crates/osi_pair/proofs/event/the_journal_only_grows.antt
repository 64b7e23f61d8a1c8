-- The journal only grows.
-- For the code of `Pair`.
use Rattle.osi_pair.proofs.Vocabulary.{length, ◌≤◌, arith, length-append, ◌∙◌, ℕ, List, [], ◌∷◌, ap, append_assoc, append-nil, Crossing}
use Rattle.osi_pair.proofs.Vocabulary.{CarriesPieces, TwoEnds, Entry, Does, Adds, Event, Side}

pub pieces_add : (side : Side) (most : ℕ) (pieces : List ℕ) (old new : Crossing) → CarriesPieces side most pieces old new →
    Adds old.journal new.journal
pieces_add side most [] old new h = grind (arith, append-nil)
pieces_add side most (used ∷ before) old new h = grind (arith, append_assoc, pieces_add side most before old h.0 h.1)

-- so it gets no shorter
pub no_shorter : (old new : List Entry) → Adds old new → length old ≤ length new
no_shorter old new h = let all = ap length h.is ∙ length-append old h.more in omega arith

pub does_add : (event : Event) (old new : TwoEnds) (octets : ℕ) → Does event old octets new → Adds old.journal new.journal
does_add event old new octets h = search (arith, pieces_add, append-nil)
