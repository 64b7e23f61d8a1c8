-- Which connections that were asked for are reported to be agreed to, or denied.
use Rattle.std.proofs.Common.{◌≡◌, ℕ, ◌==◌, Bool, true, false, ◌||◌, List, [], ◌∷◌, ◌++◌, arith}
use Rattle.osi_stack.proofs.Vocabulary.{or_right, Happening, told_opened as opened, told_refused as refused}

-- that a connection is agreed to, or denied, is among these
abbrev pub answered : ℕ → List Happening → Bool
answered r [] = false
answered r (opened q ∷ events) = (q == r) || answered r events
answered r (refused q reason ∷ events) = (q == r) || answered r events
answered r (event ∷ events) = answered r events

pub answered_front : (r : ℕ) (first later : List Happening) → answered r first ≡ true → answered r (first ++ later) ≡ true
answered_front r [] later h = cc
answered_front r (opened q ∷ first) later h = grind (arith, answered_front r first later)
answered_front r (refused q reason ∷ first) later h = grind (arith, answered_front r first later)
answered_front r (event ∷ first) later h = answered_front r first later h

pub answered_behind : (r : ℕ) (first later : List Happening) → answered r later ≡ true → answered r (first ++ later) ≡ true
answered_behind r [] later h = h
answered_behind r (opened q ∷ first) later h = or_right (q == r) (answered r (first ++ later)) (answered_behind r first later h)
answered_behind r (refused q reason ∷ first) later h = or_right (q == r) (answered r (first ++ later)) (answered_behind r first later h)
answered_behind r (event ∷ first) later h = answered_behind r first later h
