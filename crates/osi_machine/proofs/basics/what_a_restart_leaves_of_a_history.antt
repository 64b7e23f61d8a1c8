-- Histories: how many points they have, how these are numbered, and what a restart leaves.
-- For the calls and units that add points or cut them.
use Rattle.std.proofs.Common.{◌≡◌, refl, ap, ℕ, zero, suc, ◌+◌, ◌-◌, ◌≤◌, List, [], ◌∷◌, ◌++◌, arith}
use Rattle.osi_machine.specs.Histories.{Item, Octets, Point, points, upto, cutat, AreNumberedFrom}

pub points_append : (h k : List Item) → points (h ++ k) ≡ points h + points k
points_append [] k = omega arith
points_append (Octets octets ∷ h) k = points_append h k
points_append (Point n kind octets ∷ h) k = let e = points_append h k in omega arith

pub points_upto : (k : ℕ) (h : List Item) → k ≤ points h → points (upto k h) ≡ k
points_upto zero h le = refl
points_upto (suc k) [] le = absurd (omega arith)
points_upto (suc k) (Octets octets ∷ h) le = points_upto (suc k) h le
points_upto (suc k) (Point n kind octets ∷ h) le = let e = points_upto k h (omega arith) in omega arith

-- a cut of a cut
pub upto_twice : (k n : ℕ) (h : List Item) → k ≤ n → upto k (upto n h) ≡ upto k h
upto_twice zero n h le = refl
upto_twice (suc k) zero h le = absurd (omega arith)
upto_twice (suc k) (suc n) [] le = refl
upto_twice (suc k) (suc n) (Octets octets ∷ h) le = ap (λ (r : List Item). Octets octets ∷ r) (upto_twice (suc k) (suc n) h le)
upto_twice (suc k) (suc n) (Point m kind octets ∷ h) le = ap (λ (r : List Item). Point m kind octets ∷ r) (upto_twice k n h (omega arith))

-- the part cut off has the points after these
pub upto_append : (k : ℕ) (h more : List Item) → k ≤ points h → upto k (h ++ more) ≡ upto k h
upto_append zero h more le = refl
upto_append (suc k) [] more le = absurd (omega arith)
upto_append (suc k) (Octets octets ∷ h) more le = ap (λ (r : List Item). Octets octets ∷ r) (upto_append (suc k) h more le)
upto_append (suc k) (Point m kind octets ∷ h) more le = ap (λ (r : List Item). Point m kind octets ∷ r) (upto_append k h more (omega arith))

-- ---- the numbers of the points

pub numbered_cut : (b k : ℕ) (h : List Item) → AreNumberedFrom b h → AreNumberedFrom b (upto k h)
numbered_cut b zero h a = tt
numbered_cut b (suc k) [] a = tt
numbered_cut b (suc k) (Octets octets ∷ h) a = numbered_cut b (suc k) h a
numbered_cut b (suc k) (Point m kind octets ∷ h) a = (a.0, numbered_cut (b + 1) k h a.1)

pub points_below : (k : ℕ) (h : List Item) → points (upto k h) ≤ points h
points_below zero h = omega arith
points_below (suc k) [] = omega arith
points_below (suc k) (Octets octets ∷ h) = points_below (suc k) h
points_below (suc k) (Point m kind octets ∷ h) = let e = points_below k h in omega arith

-- adding at the end changes nothing of what a restart leaves, if that was seen
pub cut_append : (base n : ℕ) (h more v : List Item) → v ≡ cutat base h n → n ≡ base + points v → cutat base (h ++ more) n ≡ cutat base h n
cut_append base n h more v e c = grind (arith, points_below, upto_append)

-- ---- how many points are left

pub points_upto_least : (k : ℕ) (h : List Item) → points (upto k h) ≡ k - (k - points h)
points_upto_least zero h = omega arith
points_upto_least (suc k) [] = omega arith
points_upto_least (suc k) (Octets octets ∷ h) = points_upto_least (suc k) h
points_upto_least (suc k) (Point n kind octets ∷ h) = let e = points_upto_least k h in omega arith

-- a restart leaves equally many points of two histories with equally many points
pub cut_points : (a b n : ℕ) (g h : List Item) → a ≡ b → points g ≡ points h → points (cutat a g n) ≡ points (cutat b h n)
cut_points a b n g h e q = grind (arith, points_upto_least)
