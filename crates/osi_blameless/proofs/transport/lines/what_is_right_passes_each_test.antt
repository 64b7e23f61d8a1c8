-- A unit is right exactly if it passes each test of its row.
-- For all laws of this crate.
use Rattle.osi_blameless.proofs.transport.Vocabulary.{arith, [], Bool, false, List, refl, true, ◌∷◌, ◌≡◌, not, ◌&&◌, first_failed, Test}
use Rattle.osi_blameless.proofs.transport.Vocabulary.{Finding, Kept}

abbrev pub AllPass : List Test → Type 0
AllPass [] = Unit {0}
AllPass (t ∷ ts) = (t.0 ≡ true) × AllPass ts

abbrev pub is_kept : Finding → Bool
is_kept Kept = true
is_kept _ = false

-- none of the tests finds that a unit is right if it fails
abbrev pub tell_a_fault : List Test → Bool
tell_a_fault [] = true
tell_a_fault (t ∷ ts) = not (is_kept t.1) && tell_a_fault ts

pub passes_each : (ts : List Test) → tell_a_fault ts ≡ true → first_failed ts ≡ Kept → AllPass ts
passes_each [] h e = tt
passes_each ((true, f) ∷ ts) h e = (refl, passes_each ts (grind arith) e)
passes_each ((false, f) ∷ ts) h e = absurd (grind arith)

pub is_right : (ts : List Test) → AllPass ts → first_failed ts ≡ Kept
is_right [] h = refl
is_right ((true, f) ∷ ts) (b, more) = is_right ts more
is_right ((false, f) ∷ ts) (b, more) = cc
