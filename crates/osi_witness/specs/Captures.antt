-- A capture, as it is held.
use Rattle.std.specs.Prelude.{◌≡◌, ℕ, Bool, List, [], ◌∷◌, Option, None}
use Rattle.osi_session.specs.Standing.{seen_called, seen_calling}
use Rattle.osi_script.specs.declared.sides.Side.{Side}
use Rattle.osi_script.specs.declared.sides.Side.TheVariants.{Left, Right}
use Rattle.osi_witness.specs.declared.captures.Capture.{Capture}
use Rattle.osi_witness.specs.declared.captures.Reader.{Reader}
use Rattle.osi_witness.specs.declared.conversations.Conversation.{Conversation}
use Rattle.osi_witness.specs.declared.places.Stop.{Stop}
use Rattle.osi_witness.specs.Conversations.{first_accepted, first_limit, is_of_class_2}
use Rattle.osi_witness.specs.Places.{earlier_stop}
use Rattle.osi_witness.specs.Told.{IsTraced}

-- the packets of a side
abbrev pub packets_of : Capture → Side → Reader
packets_of c Left = c.left
packets_of c Right = c.right

-- the packet at which a side is told no further, since it breaks a rule of transport or no call sends it
abbrev pub transport_stop : Capture → Side → Option Stop
transport_stop c side = (packets_of c side).stop

-- the offset of the packet of a side that is not whole yet
abbrev pub next_offset : Capture → Side → ℕ
next_offset c side = (packets_of c side).offset

-- the earliest of all stops: of both sides, and of all connections
abbrev pub first_stop_of : Capture → Option Stop
first_stop_of c = first_limit (earlier_stop (transport_stop c Left) (transport_stop c Right)) c.conversations.items

abbrev pub accepted_in : Capture → Option Conversation
accepted_in c = first_accepted c.conversations.items

abbrev pub has_class_2 : Capture → Bool
has_class_2 c = is_of_class_2 (accepted_in c)

-- nothing has passed
pub record IsNothing (c : Capture) : Type 0 where
  pub conversations : c.conversations.items ≡ []
  pub first : first_stop_of c ≡ None
  pub left : next_offset c Left ≡ 0
  pub right : next_offset c Right ≡ 0

-- each side of each connection has a run now, or what was told of it before
abbrev pub AreTraced : (old new : List Conversation) → Type 0
AreTraced [] [] = Unit {0}
AreTraced (c ∷ cs) (d ∷ ds) =
    (IsTraced c.left d.left d.right seen_calling × IsTraced c.right d.right d.left seen_called) × AreTraced cs ds
AreTraced _ _ = ⊥
