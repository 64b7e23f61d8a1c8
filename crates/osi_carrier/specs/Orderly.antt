-- The invariant of the live connections of every carrier, and what one unit changes.
use Rattle.std.specs.Prelude.{◌≡◌, ◌≢◌, ℕ, ◌+◌, ◌≤◌, List, [], ◌∷◌, ◌++◌, length, Option, Some, None, IsSome}
use Rattle.std.specs.List.{AllByRecursion}
use Rattle.osi_tpdu.specs.Value.{Value, destination_of}
use Rattle.osi_class.specs.declared.terms.Class.{Class}
use Rattle.osi_class.specs.declared.terms.Class.TheVariants.{Zero, Two}
use Rattle.osi_carrier.specs.Happenings.{Happening, opened, refused, tsdu, closed, faulted}
use Rattle.osi_carrier.specs.Named.{AreNamed}
use Rattle.osi_carrier.specs.Rising.{RiseBy}
use Rattle.osi_carrier.specs.Rows.{Rows, value_at}
use Rattle.osi_carrier.specs.State.{Connection, State}

-- ---- references

-- each reference is above those before it, and above this number
abbrev pub RiseFrom : {X : Type 0} → ℕ → Rows X → Type 0
RiseFrom n rows = RiseBy (λ row. row.0) n rows

-- each reference is one of those up to this number
abbrev pub AreUpTo : {X : Type 0} → ℕ → Rows X → Type 0
AreUpTo n [] = Unit {0}
AreUpTo n ((r, x) ∷ rows) = (r ≤ n) × AreUpTo n rows

-- the invariant of every carrier: live connections have references that were given, in rising order, at most 65,535
-- were given, at most 64 are live, and none after the end; exactly the live connections have transport selectors
pub record IsOrderly (s : State) : Type 0 where
  pub rise : RiseFrom 0 s.live
  pub up_to : AreUpTo s.given s.live
  pub given : s.given ≤ 65535
  pub live : length s.live ≤ 64
  pub over : IsSome s.ended → s.live ≡ []
  pub named : AreNamed s

-- ---- one unit

-- the reference that a unit names; one that names none is a CR, which would be given the next one
abbrev pub or_next : Option ℕ → ℕ → ℕ
or_next None given = given + 1
or_next (Some r) given = r

abbrev pub only_of : Rows Connection → ℕ
only_of [] = 0
only_of ((r, connection) ∷ rows) = r

abbrev pub connection_by : Option Class → Value → State → ℕ
connection_by None unit s = or_next (destination_of unit) s.given
connection_by (Some Zero) unit s = only_of s.live
connection_by (Some Two) unit s = or_next (destination_of unit) s.given

-- the reference of the connection that a unit is for: in class 0 the only one
abbrev pub connection_of : Value → State → ℕ
connection_of unit s = connection_by s.class unit s

-- the reference that an event is of
abbrev pub told_of : Happening → ℕ
told_of (opened r) = r
told_of (refused r reason) = r
told_of (tsdu r octets) = r
told_of (closed r reason) = r
told_of (faulted r fault) = r

-- All other connections are unchanged, and at most one event is reported, of this connection.
pub record ChangesOne (r : ℕ) (old new : State) : Type 0 where
  pub others : (q : ℕ) → q ≢ r → value_at q new.live ≡ value_at q old.live
  pub told : List Happening
  pub events : new.events ≡ old.events ++ told
  pub about : AllByRecursion (λ event. told_of event ≡ r) told
  pub one : length told ≤ 1
