-- The indication that is given first, if the lines are in the order of their references.
use Rattle.osi_stack.proofs.Vocabulary.{eqb-true, eq-eqb, absent, RiseFrom, Rows, first_shown, without_first, waiting_of, waiting_at}
use Rattle.osi_stack.proofs.Vocabulary.{TellsLowest, Line, ℕ, [], ◌∷◌, refl, arith}

pub lowest_first : (n : ℕ) (lines : Rows Line) → RiseFrom n lines → TellsLowest (first_shown lines) lines (without_first lines)
lowest_first n [] rise = (λ r. refl, refl)
lowest_first n ((q, line) ∷ lines) rise = grind (arith, absent, waiting_at, waiting_of, eqb-true, eq-eqb, lowest_first q lines rise.1)
