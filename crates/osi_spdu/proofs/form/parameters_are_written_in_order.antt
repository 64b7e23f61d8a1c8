-- Writing parameters one after the other, by a loop.
use Rattle.std.proofs.Common.{◌≡◌, ℕ, zero, suc, ◌+◌, ◌<◌, ◌≤◌, List, [], ◌∷◌, ◌++◌, length, drop, get_or, ap, ◌∙◌, arith}
use Rattle.osi_spdu.proofs.Vocabulary.{flat_map, length-append, drop_more, Code}

pub piece_len : (f : Code → List ℕ) (codes : List Code) (i : ℕ) (c : Code) → i < length codes →
    length (flat_map f (drop i codes)) ≡ length (f (get_or codes i c)) + length (flat_map f (drop (i + 1) codes))
piece_len f codes i c lt = ap length (grind (arith, drop_more)) ∙ length-append (f (get_or codes i c)) (flat_map f (drop (i + 1) codes))

-- the length so far, and the length of the rest
pub record IsCounting (f : Code → List ℕ) (codes : List Code) (i len : ℕ) : Type 0 where
  pub counted : len + length (flat_map f (drop i codes)) ≡ length (flat_map f codes)

-- what is written so far, followed by the rest, is what was there before, followed by all; the same for the room
pub record IsPutting (f : Code → List ℕ) (codes : List Code) (i : ℕ) (items : List ℕ) (spare : ℕ) (before : List ℕ) (room : ℕ) : Type
    0 where
  pub put : items ++ flat_map f (drop i codes) ≡ before ++ flat_map f codes
  pub left : spare + length (flat_map f codes) ≡ room + length (flat_map f (drop i codes))

pub tail_less : (f : Code → List ℕ) (codes : List Code) (i : ℕ) → length (flat_map f (drop i codes)) ≤ length (flat_map f codes)
tail_less f codes zero = omega arith
tail_less f [] (suc i) = omega arith
tail_less f (c ∷ codes) (suc i) = (let r = tail_less f codes i in let l = length-append (f c) (flat_map f codes) in omega arith)
