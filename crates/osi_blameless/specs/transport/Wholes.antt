-- A whole end of a byte connection and a judge (`EndAndJudge`): the carrier of the end, what the rules of transport know, and the units
-- in flight. `Lines` has the same of one connection.
use Rattle.std.specs.Prelude.{◌≡◌, ◌≤◌, Bool, false, List, [], ◌∷◌, ◌++◌, length, None}
use Rattle.std.specs.List.{AllByRecursion}
use Rattle.osi_tpdu.specs.Value.{Value, HasFieldsInRange}
use Rattle.osi_class.specs.Limits.{longest_tsdu}
use Rattle.osi_class.specs.declared.terms.Local.{Local}
use Rattle.osi_carrier.specs.Calls.{fresh_state, may_connect}
use Rattle.osi_carrier.specs.React.{put_for, react}
use Rattle.osi_carrier.specs.Runs.{UserCall, breaks, closes, connects, put_by, sends, sends_all, user_does}
use Rattle.osi_carrier.specs.State.{State, packets}
use Rattle.osi_rules.specs.declared.directions.Direction.{Direction}
use Rattle.osi_rules.specs.Sides.{other}
use Rattle.osi_rules.specs.Traffic.{State as Traffic, fresh, packet_begins, refused, takes}
use Rattle.osi_blameless.specs.EndAndJudge.{Along, BeginsOwn, Does, EndAndJudge, PassesOther, PassesOwn, Sees}

-- the end is its carrier, and the judge knows what the rules of transport know
abbrev pub Whole : Type 0
Whole = EndAndJudge State Traffic Value

pub data Event : Type 0 where
  -- the end takes the next unit that has come; its user makes a call
  arrives : Event
  calls : UserCall → Event
  -- the next unit of the end begins to pass, and passes
  begins_own : Event
  passes_own : Event
  -- a packet of the other side begins to pass, and a unit of it passes; or what passes is no packet or no unit
  begins_other : Event
  passes_other : Value → Event
  passes_rubbish : Event

-- A call that is accepted. The others have no effect if there is no such connection.
abbrev pub MayCall : UserCall → State → Type 0
MayCall (connects calling called) s = may_connect s ≡ None
MayCall (sends r tsdu) s = length tsdu ≤ longest_tsdu
MayCall (sends_all r tsdus) s = AllByRecursion (λ tsdu. length tsdu ≤ longest_tsdu) tsdus
MayCall (closes r reason) s = Unit {0}
MayCall (breaks reason) s = Unit {0}

-- the effect of each, at an end that sends in this direction
abbrev pub Happens : Direction → Event → Whole → Whole → Type 0
Happens d arrives old new = (unit : Value) × (old.coming ≡ unit ∷ new.coming)
    × Does (react unit old.end) (put_for unit old.end) new.coming old new
Happens d (calls call) old new = MayCall call old.end × Does (user_does call old.end) (put_by call old.end) old.coming old new
Happens d begins_own old new = BeginsOwn (packet_begins d) old new
Happens d passes_own old new = (unit : Value) × PassesOwn unit (λ s. (takes d unit s).state) old new
Happens d begins_other old new = Sees (packet_begins (other d)) old new
Happens d (passes_other unit) old new = HasFieldsInRange unit × PassesOther unit (λ s. (takes (other d) unit s).state) old new
Happens d passes_rubbish old new = Sees (refused (other d)) old new

-- one after the other
abbrev pub HappenAlong : Direction → Whole → List Event → Whole → Type 0
HappenAlong d old events new = Along (Happens d) old events new

-- nothing has happened yet
abbrev pub begin : (is_caller : Bool) → Local → Whole
begin is_caller local = record { end = fresh_state is_caller local; put = []; begun = false; judge = fresh; coming = [] }

-- The end alone comes to this state: by these events it has put these units, and written them.
pub record Becomes (d : Direction) (old : Whole) (new : State) : Type 0 where
  pub events : List Event
  pub put : List Value
  pub coming : List Value
  pub along : HappenAlong d old events (record old { end = new; put = old.put ++ put; coming = coming })
  pub outgoing : new.outgoing ≡ old.end.outgoing ++ packets put
