-- What a carrier of class 2 does to one of its connections, and what the rules of transport find of it, as the acts of a line.
use Rattle.std.specs.Prelude.{◌≡◌, ℕ, true, false, List, ◌++◌, Option, Some, None, position, slice_get}
use Rattle.osi_tpdu.specs.Value.{Value}
use Rattle.osi_class.specs.Link.{Standing}
use Rattle.osi_class.specs.declared.terms.Class.TheVariants.{Two}
use Rattle.osi_carrier.specs.Rows.{value_at}
use Rattle.osi_carrier.specs.State.{Connection, State, asked, linked, closing, packets}
use Rattle.osi_rules.specs.declared.connections.Connection.{Connection as AsJudged}
use Rattle.osi_rules.specs.declared.directions.Direction.{Direction}
use Rattle.osi_rules.specs.Sides.{is_closing, is_named, is_open, own, theirs}
use Rattle.osi_rules.specs.Traffic.{State as Traffic, class_for, is_stopped}
use Rattle.osi_blameless.specs.transport.Lines.{Act, ActsAlong, Line}

-- the link of a connection: none if it isn't open
abbrev pub link_now : Option Connection → Option Standing
link_now None = None
link_now (Some asked) = None
link_now (Some (linked peer link)) = Some link
link_now (Some (closing peer)) = None

-- Acts of the line of this connection make of the old link the new one. They take these units, if they are the next to come,
-- and put those, which the carrier writes.
pub record Follows (r peer : ℕ) (taken units : List Value) (old new : State) : Type 0 where
  pub acts : List Act
  pub outgoing : new.outgoing ≡ old.outgoing ++ packets units
  pub along : (d : Direction) (line : Line) (later : List Value) → line.end ≡ link_now (value_at r old.live) →
      line.coming ≡ taken ++ later →
      ActsAlong d r peer line acts (record line { end = link_now (value_at r new.live); put = line.put ++ units; coming = later })

-- ---- the rules of transport

-- This side is judged in class 2, and the connection at this place is the first that this reference names.
pub record IsAtPlace (d : Direction) (s : Traffic) (n place : ℕ) (c : AsJudged) : Type 0 where
  pub judged : is_stopped d s.course ≡ false
  pub class : class_for d s.course ≡ Some Two
  pub first : position (is_named d n) s.connections ≡ Some place
  pub is : slice_get s.connections place ≡ Some c

-- A DR with these references just closes an open connection that is judged: neither side has closed it before.
pub record JustCloses (d : Direction) (s : Traffic) (destination source : ℕ) : Type 0 where
  pub place : ℕ
  pub closed : AsJudged
  pub at : IsAtPlace d s destination place closed
  pub judged : closed.is_judged ≡ true
  pub opened : is_open (own d closed).phase ≡ true
  pub reference : (own d closed).reference ≡ source
  pub first : is_closing (theirs d closed).phase ≡ false
