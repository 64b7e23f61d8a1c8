-- Two carriers that both support class 2, with the octets between them.
use Rattle.std.specs.Prelude.{◌≡◌, ℕ, Bool, List, [], ◌∷◌, drop, ◌⊎◌}
use Rattle.osi_tpdu.specs.Value.{Value}
use Rattle.osi_carrier.specs.Coming.{AreComing}
use Rattle.osi_carrier.specs.Place.{place_at}
use Rattle.osi_carrier.specs.Happenings.{Happening}
use Rattle.osi_carrier.specs.Packets.{Carrying}
use Rattle.osi_carrier.specs.React.{react}
use Rattle.osi_carrier.specs.State.{State, ends}
use Rattle.osi_carrier.specs.declared.ends.EndReason.TheVariants.{NoMemory}
use Rattle.osi_between.specs.Addresses.{reference_of}
use Rattle.osi_between.specs.Course.{answers_at}
use Rattle.osi_between.specs.Joined.{JoinedFrom, ActsFor}

-- Seen from an end (`this`, the caller if `end` is true): what each holds of a packet, followed by what the other has
-- still to hand over, are the packets of the units in flight to it.
pub record AreLinked (end : Bool) (this other : Carrying) (going coming : List Value) : Type 0 where
  pub joined : JoinedFrom end this.state other.state going coming
  pub going_octets : AreComing other.held.octets this.state.outgoing going
  pub coming_octets : AreComing this.held.octets other.state.outgoing coming

-- k of the octets were handed over
abbrev pub handed_over : List ℕ → Carrying → Carrying
handed_over left carrier = record carrier { state = record carrier.state { outgoing = left } }

-- after a call with this state
abbrev pub with_state : State → Carrying → Carrying
with_state state carrier = record carrier { state = state }

-- these events are still to be reported
abbrev pub with_events : List Happening → Carrying → Carrying
with_events events carrier = record carrier { state = record carrier.state { events = events } }

-- an end (`this`, finally `next`) took these units, one after the other
abbrev pub TakesFor : State → State → List Value → List Value → List Value → State → List Value → List Value → Type 0
TakesFor this other going coming [] next behind rest = (next ≡ this) × (behind ≡ going) × (rest ≡ coming)
TakesFor this other going coming (unit ∷ units) next behind rest =
    (after : List Value) × (left : List Value) × (coming ≡ unit ∷ left)
    × ActsFor (reference_of unit) this other (react unit this) going coming after left (answers_at (place_at (reference_of unit) this) unit)
    × TakesFor (react unit this) other after left units next behind rest

-- An end was fed some of the octets that the other has to hand over, and used this many of them: it took units, one
-- after the other, after which the two are linked, or memory ran out.
pub record WasFed (end : Bool) (this other next : Carrying) (going coming : List Value) (used : ℕ) : Type 0 where
  pub done : List Value
  pub left : List Value
  pub behind : List Value
  pub reached : State
  pub takes : TakesFor this.state other.state going coming done reached behind left
  pub linked : (next.state ≡ ends NoMemory reached) ⊎
      ((next.state ≡ reached) × AreLinked end next (handed_over (drop used other.state.outgoing) other) behind left)
