-- What an end puts in a turn for a connection is those of the units of the turn that are for it, if the marks of the units agree.
-- For all connections of an end and a judge.
use Rattle.osi_blameless.proofs.Vocabulary.{[], List, Option, refl, ℕ, ◌==◌, ◌∷◌, ◌≡◌, AllByRecursion, all_units, Marked, units_at}
use Rattle.osi_blameless.proofs.Vocabulary.{picked_first, picked_rest, arith}
use Rattle.osi_blameless.proofs.standing.what_stands_of_a_connection.{is_for, waiting_for}

-- a unit has the mark of the connection exactly if it is for the reference that the other side gave it
abbrev pub Agree : ℕ → Option ℕ → List Marked → Type 0
Agree r o units = AllByRecursion (λ m. (m.0 == r) ≡ is_for o m.1) units

pub marks_wait : (r : ℕ) (o : Option ℕ) (units : List Marked) → Agree r o units → units_at r units ≡ waiting_for o (all_units units)
marks_wait r o [] h = refl
marks_wait r o (m ∷ units) h = grind (arith, waiting_for, picked_first, is_for, picked_rest, marks_wait r o units h.1)
