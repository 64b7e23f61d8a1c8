-- Data that a session lends in parts is what the carrier cuts.
-- For `make_parted_call` of calls.
use Rattle.osi_stack.proofs.Vocabulary.{◌≡◌, refl, ℕ, zero, suc, List, drop, arith, headed, FitsTsdu}
use Rattle.osi_session.specs.Lent.{headed as lent, FitsTsdu as FitsPart}

-- both have the same TSDUs
pub cut_as_lent : (fuel : ℕ) (h m l : List ℕ) (size : ℕ) (o : List ℕ) → headed fuel h m l size o ≡ lent fuel h m l size o
cut_as_lent zero h m l size o = refl
cut_as_lent (suc n) h m l size o = grind (arith, cut_as_lent n m m l size (drop size o))

-- a head of a part is a short head
pub short_head : (size : ℕ) (head : List ℕ) → FitsPart size head → FitsTsdu size head
short_head size head fits = let few = fits.0 in (omega (arith, few), fits.1)
