-- A piece that passes adds to the stream of its side, and to no other: for what reads captures.
use Rattle.osi_side.proofs.Vocabulary.{◌≡◌, ◌∙◌, refl, ap, ℕ, List, [], ◌∷◌, ◌++◌, arith, flat_map-append, Direction, Left, Right}
use Rattle.osi_side.proofs.Vocabulary.{other, Capture, piece, stream}

stream_own : (d : Direction) (octets : List ℕ) → stream d (piece d octets) ≡ octets
stream_own Left [] = refl
stream_own Right [] = refl
stream_own Left (o ∷ octets) = ap (λ (x : List ℕ). o ∷ x) (stream_own Left octets)
stream_own Right (o ∷ octets) = ap (λ (x : List ℕ). o ∷ x) (stream_own Right octets)

stream_other : (d : Direction) (octets : List ℕ) → stream (other d) (piece d octets) ≡ []
stream_other Left [] = refl
stream_other Right [] = refl
stream_other Left (o ∷ octets) = stream_other Left octets
stream_other Right (o ∷ octets) = stream_other Right octets

append_nil : (xs : List ℕ) → xs ++ [] ≡ xs
append_nil [] = refl
append_nil (x ∷ xs) = ap (λ (y : List ℕ). x ∷ y) (append_nil xs)

-- a piece adds to the stream of its side, and to no other
pub stream_fed : (d : Direction) (c : Capture) (octets : List ℕ) → stream d (c ++ piece d octets) ≡ stream d c ++ octets
stream_fed d c octets = (grind (arith, flat_map-append)) ∙ ap (λ (x : List ℕ). stream d c ++ x) (stream_own d octets)

pub stream_beside : (d : Direction) (c : Capture) (octets : List ℕ) → stream (other d) (c ++ piece d octets) ≡ stream (other d) c
stream_beside d c octets = grind (arith, flat_map-append, stream_other, append_nil)
