-- What holds in each phase, or in each pair of phases, by one computation; cases by a test.
-- For every proof that looks at a phase.
use Rattle.std.proofs.Common.{◌≡◌, refl, Bool, true, false, not, ◌&&◌, ◌||◌, ◌⊎◌, if◌then◌else◌, arith}
use Rattle.osi_machine.specs.Floor.{Phase, WaitTransport, WaitCn, Connecting, Answering, Ready, MajorAsked, MajorDue, Releasing, ReleaseDue}
use Rattle.osi_machine.specs.Floor.{Restarting, RestartDue, Aborting, Ended}

-- a test that each phase passes
abbrev pub every : (Phase → Bool) → Bool
every f = f WaitTransport && (f WaitCn && (f Connecting && (f Answering && (f Ready && (f MajorAsked && (f MajorDue
    && (f Releasing && (f ReleaseDue && (f Restarting && (f RestartDue && (f Aborting && f Ended)))))))))))

pub every_is : (f : Phase → Bool) → every f ≡ true → (p : Phase) → f p ≡ true
every_is f h p = grind arith

pub cut_or : (a b : Bool) → (not a || b) ≡ true → a ≡ true → b ≡ true
cut_or a b h k = grind arith

-- a test that another implies in each phase
pub implied : (f g : Phase → Bool) → every (λ p. not (f p) || g p) ≡ true → (p : Phase) → f p ≡ true → g p ≡ true
implied f g h p k = cut_or (f p) (g p) (every_is (λ p. not (f p) || g p) h p) k

cut_not : (a b : Bool) → (not a || not b) ≡ true → a ≡ true → b ≡ false
cut_not a b h k = grind arith

-- two tests that no phase passes together
pub excluded : (f g : Phase → Bool) → every (λ p. not (f p) || not (g p)) ≡ true → (p : Phase) → f p ≡ true → g p ≡ false
excluded f g h p k = cut_not (f p) (g p) (every_is (λ p. not (f p) || not (g p)) h p) k

-- a test of two phases that each pair passes
abbrev pub every_two : (Phase → Phase → Bool) → Bool
every_two f = every (λ p. every (f p))

pub every_two_is : (f : Phase → Phase → Bool) → every_two f ≡ true → (p q : Phase) → f p q ≡ true
every_two_is f h p q = every_is (f p) (every_is (λ r. every (f r)) h p) q

-- a test of two phases that another implies
pub implied_two : (f g : Phase → Phase → Bool) → every_two (λ p q. not (f p q) || g p q) ≡ true → (p q : Phase) → f p q ≡ true
    → g p q ≡ true
implied_two f g h p q k = cut_or (f p q) (g p q) (every_two_is (λ p q. not (f p q) || g p q) h p q) k

-- a test of two phases that two others imply
pub implied_both : (m f g : Phase → Phase → Bool) → every_two (λ p q. not (m p q && f p q) || g p q) ≡ true → (p q : Phase) → m p q ≡ true
    → f p q ≡ true → g p q ≡ true
implied_both m f g h p q k l = implied_two (λ p q. m p q && f p q) g h p q (rw (k, l) refl)

-- by whether a test holds
pub by_test : {A : Type 0} → (b : Bool) → (b ≡ true → A) → (b ≡ false → A) → A
by_test b h k = grind arith

-- one of two statements holds
pub by_either : {A B C : Type 0} → A ⊎ B → (A → C) → (B → C) → C
by_either h f g = grind arith

pub if_first : {A : Type 0} → (b : Bool) (x y : A) → y ≡ x → (if b then x else y) ≡ x
if_first b x y e = grind arith

pub if_second : {A : Type 0} → (b : Bool) (x y : A) → x ≡ y → (if b then x else y) ≡ y
if_second b x y e = grind arith
