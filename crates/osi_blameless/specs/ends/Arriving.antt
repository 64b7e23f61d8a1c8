-- The units that arrive at an end and those that it puts, for one connection: before it is open, while it is open, and after.
use Rattle.std.specs.Prelude.{◌≡◌, ◌==◌, ◌&&◌, ℕ, Bool, true, false, List, [], ◌∷◌, ◌++◌, Option, Some, None}
use Rattle.std.specs.List.{AllByRecursion}
use Rattle.osi_tpdu.specs.Value.{Connect, Value, confirm, destination_of, request}
use Rattle.osi_class.specs.Link.{Standing}
use Rattle.osi_carrier.specs.Calls.{open_link}
use Rattle.osi_carrier.specs.State.{State}
use Rattle.osi_blameless.specs.ends.Marked.{Marked, is_of_link}

-- ---- units

-- A DT or an AK is for a connection whose reference it names. A DT of class 0 names none: in class 0 there is no other connection.
abbrev pub names : ℕ → Option ℕ → Bool
names r None = true
names r (Some destination) = destination == r

abbrev pub is_for : ℕ → Value → Bool
is_for r unit = is_of_link unit && names r (destination_of unit)

-- none of these units is of this connection
abbrev pub AreApart : ℕ → List Marked → Type 0
AreApart r units = AllByRecursion (λ m. (m.0 == r) ≡ false) units

-- its link takes those of these units that are for it, and no others
abbrev pub TakesAll : ℕ → List Marked → Type 0
TakesAll r units = AllByRecursion (λ m. (m.0 == r) ≡ is_for r m.1) units

-- its link gives units that are for the reference that the peer gave the connection
abbrev pub GivesTo : (r peer : ℕ) → List Marked → Type 0
GivesTo r peer units = AllByRecursion (λ m. (m.0 == r) ≡ true → is_for peer m.1 ≡ true) units

-- ---- how it opens

-- the unit with which it opens, from this reference of the peer: its CC, or at a called end a CR
abbrev pub Opens : (is_caller : Bool) → (r peer : ℕ) → Value → Type 0
Opens is_caller r peer (confirm destination c) = (destination ≡ r) × (c.source ≡ peer)
Opens is_caller r peer (request c) = (is_caller ≡ false) × (c.source ≡ peer)
Opens is_caller r peer unit = ⊥

-- what is put for that unit: a CC with its reference for a CR
abbrev pub Answers : (r peer : ℕ) → Value → List Marked → Type 0
Answers r peer (request c) units = (cc : Connect) × (cc.source ≡ r) × (units ≡ (0, confirm peer cc) ∷ [])
Answers r peer unit units = units ≡ []

-- ---- its time

-- units before a connection is open, while it is open, and after
pub record Parts (r : ℕ) (units : List Marked) : Type 0 where
  pub before : List Marked
  pub during : List Marked
  pub after : List Marked
  pub is : units ≡ before ++ (during ++ after)
  pub none_before : AreApart r before
  pub none_after : AreApart r after

-- How its time begins: it was open before all of these units; or the last unit that arrives before is the one with which it opens, and
-- what is put for that unit is put last before; or it does not open.
pub data Begins (is_caller : Bool) (r peer : ℕ) (old new : State) {took put : List Marked} (arrived : Parts r took)
    (left : Parts r put) : Type 0 where
  is_open : (link : Standing) → open_link r old ≡ Some (peer, link) → arrived.before ≡ [] → left.before ≡ [] →
      Begins is_caller r peer old new arrived left
  opens : open_link r old ≡ None → (unit : Value) → Opens is_caller r peer unit → (some : List Marked) →
      arrived.before ≡ some ++ (0, unit) ∷ [] → (others answer : List Marked) → Answers r peer unit answer →
      left.before ≡ others ++ answer → Begins is_caller r peer old new arrived left
  is_shut : open_link r old ≡ None → open_link r new ≡ None → arrived.during ++ arrived.after ≡ [] → left.during ++ left.after ≡ [] →
      Begins is_caller r peer old new arrived left

-- While it is open, its link takes all that is for it, and gives units for the peer. If it is still open, there are none after.
pub record Lives (is_caller : Bool) (r : ℕ) (old : State) (took put : List Marked) (new : State) : Type 0 where
  pub peer : ℕ
  pub arrived : Parts r took
  pub left : Parts r put
  pub takes : TakesAll r arrived.during
  pub gives : GivesTo r peer left.during
  pub begins : Begins is_caller r peer old new arrived left
  pub lasts : (at : ℕ) (link : Standing) → open_link r new ≡ Some (at, link) →
      (at ≡ peer) × (arrived.after ≡ []) × (left.after ≡ [])
