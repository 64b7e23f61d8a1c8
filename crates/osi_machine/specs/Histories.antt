-- The history of a connection: what its two users see, in order.
use Rattle.std.specs.Prelude.{◌≡◌, ℕ, zero, suc, ◌+◌, ◌-◌, Bool, true, false, List, [], ◌∷◌, ◌++◌, ◌⊎◌}

-- a minor point that asks for its confirmation, one that does not, and a major point
pub data PointKind : Type 0 where
  minor_to_confirm : PointKind
  minor_alone : PointKind
  major_point : PointKind

pub data Item : Type 0 where
  Octets : (octets : List ℕ) → Item
  Point : (number : ℕ) (kind : PointKind) (octets : List ℕ) → Item

abbrev pub minor_kind : Bool → PointKind
minor_kind true = minor_to_confirm
minor_kind false = minor_alone

-- the number of points
abbrev pub points : List Item → ℕ
points [] = 0
points (Octets octets ∷ h) = points h
points (Point n kind octets ∷ h) = points h + 1

-- up to and including the k-th point; nothing if k is 0
abbrev pub upto : ℕ → List Item → List Item
upto zero h = []
upto (suc k) [] = []
upto (suc k) (Octets octets ∷ h) = Octets octets ∷ upto (suc k) h
upto (suc k) (Point n kind octets ∷ h) = Point n kind octets ∷ upto k h

-- up to and including the point before n, and nothing if n is the base
abbrev pub cutat : ℕ → List Item → ℕ → List Item
cutat base h n = upto (n - base) h

-- the points have these numbers, one after the other
abbrev pub AreNumberedFrom : ℕ → List Item → Type 0
AreNumberedFrom n [] = Unit {0}
AreNumberedFrom n (Octets octets ∷ h) = AreNumberedFrom n h
AreNumberedFrom n (Point k kind octets ∷ h) = (k ≡ n) × AreNumberedFrom (n + 1) h

-- the first list is a prefix of the second
abbrev pub Begins : {A : Type 0} → List A → List A → Type 0
Begins {A = A} xs ys = (more : List A) × (xs ++ more ≡ ys)

-- one of the two lists is a prefix of the other
abbrev pub Agree : {A : Type 0} → List A → List A → Type 0
Agree xs ys = Begins xs ys ⊎ Begins ys xs
