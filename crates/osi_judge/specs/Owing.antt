-- What is still to pass of a packet that is whole: all of its units, or those after which memory was short.
use Rattle.std.specs.Prelude.{◌≡◌, ℕ, List, [], ◌∷◌, drop, Option, None, Result, Ok, Err}
use Rattle.osi_tpdu.specs.Packet.{units_of}
use Rattle.osi_tpdu.specs.Value.{Value}
use Rattle.osi_tpdu.specs.declared.faults.TpduFault.{TpduFault}
use Rattle.osi_side.specs.declared.directions.Direction.{Direction}
use Rattle.osi_rules.specs.declared.findings.Told.{Told}
use Rattle.osi_judge.specs.declared.marks.Cause.TheVariants.{BadUnit}
use Rattle.osi_judge.specs.declared.proceedings.Proceedings.{Proceedings}
use Rattle.osi_judge.specs.Courses.{Course, units_pass, unread}
use Rattle.osi_judge.specs.Holding.{HoldsCourse, unit_due}

-- nothing is still to pass
pub record HoldsAll (w : Proceedings) (c : Course) : Type 0 where
  pub course : HoldsCourse w c
  pub told : w.told ≡ None
  pub passed : w.passed ≡ 0

-- once these units have passed, of the first of which this may be told already, it comes to this
abbrev pub Comes : Option Told → Direction → (at : ℕ) → List Value → (by_now behind : Course) → Type 0
Comes told d at [] by_now behind = (told ≡ None) × (by_now ≡ behind)
Comes told d at (v ∷ vs) by_now behind = units_pass d at vs (unit_due told d at v by_now) ≡ behind

-- these units are still to pass
pub record OwesUnits (w : Proceedings) (d : Direction) (at : ℕ) (vs : List Value) (c : Course) : Type 0 where
  pub by_now : Course
  pub holds : HoldsCourse w by_now
  pub comes : Comes w.told d at vs by_now c

-- a packet that can't be read is still to pass
pub record OwesFault (w : Proceedings) (d : Direction) (at : ℕ) (fault : TpduFault) (c : Course) : Type 0 where
  pub by_now : Course
  pub holds : HoldsAll w by_now
  pub comes : unread d at (BadUnit fault) by_now ≡ c

abbrev pub OwesRead : Proceedings → Direction → (at : ℕ) → Result (List Value) TpduFault → Course → Type 0
OwesRead w d at (Ok vs) c = OwesUnits w d at (drop w.passed vs) c
OwesRead w d at (Err fault) c = OwesFault w d at fault c

-- A packet with this transport unit is still to pass, but for those of its units that have passed; then it comes to this.
abbrev pub Owes : Proceedings → Direction → (at : ℕ) → (unit : List ℕ) → Course → Type 0
Owes w d at unit c = OwesRead w d at (units_of unit) c

-- of the units of a packet these are left, and are still to pass
pub record OwesLast (w : Proceedings) (d : Direction) (at : ℕ) (vs left : List Value) (c : Course) : Type 0 where
  pub units : drop w.passed vs ≡ left
  pub owes : OwesUnits w d at left c
