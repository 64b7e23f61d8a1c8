-- What is true of each phase.
use Rattle.osi_session.proofs.Vocabulary.{and_parts, Phase, every_phase, ◌≡◌, Bool, true, false, not, ◌||◌, arith}

-- a test that each phase passes is passed by this one
pub every_is : (f : Phase → Bool) → every_phase f ≡ true → (p : Phase) → f p ≡ true
every_is f h p = grind (arith, and_parts)

cut_or : (a b : Bool) → (not a || b) ≡ true → a ≡ true → b ≡ true
cut_or a b h k = grind arith

-- a test that another implies in each phase
pub implied : (f g : Phase → Bool) → every_phase (λ p. not (f p) || g p) ≡ true → (p : Phase) → f p ≡ true → g p ≡ true
implied f g h p k = cut_or (f p) (g p) (every_is (λ p. not (f p) || g p) h p) k

cut_not : (a b : Bool) → (not a || not b) ≡ true → a ≡ true → b ≡ false
cut_not a b h0 h1 = grind arith

-- two tests of which no phase passes both
pub excluded : (f g : Phase → Bool) → every_phase (λ p. not (f p) || not (g p)) ≡ true → (p : Phase) → f p ≡ true → g p ≡ false
excluded f g h p k = cut_not (f p) (g p) (every_is (λ p. not (f p) || not (g p)) h p) k
