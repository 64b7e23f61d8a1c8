-- What a line of a script asks of two ends.
use Rattle.std.specs.Prelude.{◌≡◌, ℕ, List, None}
use Rattle.osi_spdu.specs.declared.fields.TsduMaximumSize.{TsduMaximumSize}
use Rattle.osi_spdu.specs.declared.settings.TokenSetting.{TokenSetting}
use Rattle.osi_session.specs.Calls.{called_by}
use Rattle.osi_pair.specs.Asked.{Asked, asked_of}
use Rattle.osi_pair.specs.declared.events.Event.{Event}
use Rattle.osi_pair.specs.declared.events.Event.TheVariants as event
use Rattle.osi_pair.specs.declared.sides.Side as ends
use Rattle.osi_pair.specs.declared.sides.Side.TheVariants as end
use Rattle.osi_script.specs.Commands.{Command, Ends, Connect, OfUser, Carry, Break, Told}
use Rattle.osi_script.specs.declared.sides.Side.{Side}
use Rattle.osi_script.specs.declared.sides.Side.TheVariants.{Left, Right}

-- the end of a side
abbrev pub side_in : Side → ends.Side
side_in Left = end.Left
side_in Right = end.Right

-- a connection that is asked for with no address
abbrev pub plainly : (requirements serial : ℕ) → TokenSetting → TsduMaximumSize → List ℕ → Asked
plainly requirements serial wishes sizes octets = record {
  requirements = requirements;
  serial = serial;
  wishes = wishes;
  calling_tsap = None;
  called_tsap = None;
  calling_selector = None;
  called_selector = None;
  sizes = sizes;
  octets = octets;
}

-- the event that a line asks for
abbrev pub IsEvent : Command → Event → Type 0
IsEvent (Connect requirements serial wishes sizes octets) (event.Connect asked) = asked_of asked ≡ plainly requirements serial wishes sizes octets
IsEvent (OfUser side reference call) (event.Call s r request) = (s ≡ side_in side) × (r.0 ≡ reference) × (called_by request ≡ call)
IsEvent (Carry side octets) (event.Carry s most) = (s ≡ side_in side) × (most ≡ octets)
IsEvent (Break left right) (event.Break l r) = (l ≡ left) × (r ≡ right)
IsEvent (Told side) (event.Told s) = s ≡ side_in side
IsEvent command other = ⊥

-- the line of the two ends asks nothing of them
abbrev pub IsNoEvent : Command → Type 0
IsNoEvent (Ends caller called size window) = Unit {0}
IsNoEvent command = ⊥
