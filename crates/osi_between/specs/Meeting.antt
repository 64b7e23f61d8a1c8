-- The states of one connection of class 2 at two carriers once both have had it open, and the units in flight for it.
-- Both gave it the same reference. `here` is one of the two, `there` the other.
use Rattle.std.specs.Prelude.{◌≡◌, ◌≢◌, ℕ, ◌<◌, Bool, true, false, List, [], ◌∷◌, ◌++◌, map, Option, Some, None, is_none, if◌then◌else◌}
use Rattle.std.specs.List.{flat_map, list_any, AllByRecursion}
use Rattle.osi_tpdu.specs.Value.{Value, request, confirm, disconnect, disconnected, data0, data2, acknowledge, error}
use Rattle.osi_class.specs.Between.{LinkPair, swapped, AreOfClass}
use Rattle.osi_class.specs.Link.{Given, unit_of}
use Rattle.osi_class.specs.declared.terms.Class.TheVariants.{Two}
use Rattle.osi_carrier.specs.Coming.{IsSendable}
use Rattle.osi_carrier.specs.Happenings.{Happening, tsdu, closed}
use Rattle.osi_carrier.specs.Orderly.{IsOrderly}
use Rattle.osi_carrier.specs.Rows.{Rows, value_at, put, without}
use Rattle.osi_carrier.specs.State.{Connection, asked, linked, closing, State, packets}
use Rattle.osi_between.specs.Addresses.{AreFor, is_last}
use Rattle.osi_between.specs.Messages.{Message, ask, agree, deny, message, bye, over, messages_to, AreLike}
use Rattle.osi_between.specs.OpenLinks.{AreOpen}
use Rattle.osi_between.specs.Progress.{Brings, progress_in, leaves_use}

-- A side that has closed keeps nothing of its link. `LinkPair` then has the link as it was at that time, as if it took
-- nothing any more, and the units still in flight to it are listed beside it.
pub data Meeting : Type 0 where
  -- open at both
  talking : LinkPair → Meeting
  -- a DR with this reason is in flight from here; these units are in flight to here and ignored
  left_here : LinkPair → List Given → ℕ → Meeting
  -- a DR with this reason is in flight to here; these units before it are ignored there
  left_there : LinkPair → List Given → ℕ → Meeting
  -- DRs are in flight both ways, each with the units before it and its reason
  left_both : List Given → ℕ → List Given → ℕ → Meeting
  -- gone there; in flight to here: units that are ignored, then a DC, or the DR that crossed the one from here
  waiting_here : List Given → Option ℕ → Meeting
  -- gone here
  waiting_there : List Given → Option ℕ → Meeting
  -- gone at both
  parted : Meeting

-- seen from the other side
abbrev pub mirror : Meeting → Meeting
mirror (talking p) = talking (swapped p)
mirror (left_here p units reason) = left_there (swapped p) units reason
mirror (left_there p units reason) = left_here (swapped p) units reason
mirror (left_both out reason back other) = left_both back other out reason
mirror (waiting_here units last) = waiting_there units last
mirror (waiting_there units last) = waiting_here units last
mirror parted = parted

-- the connection here
abbrev pub here : ℕ → Meeting → Option Connection
here n (talking p) = Some (linked n p.left)
here n (left_here p units reason) = Some (closing n)
here n (left_there p units reason) = Some (linked n p.left)
here n (left_both out reason back other) = Some (closing n)
here n (waiting_here units last) = Some (closing n)
here n (waiting_there units last) = None
here n parted = None

-- the connection there
abbrev pub there : ℕ → Meeting → Option Connection
there n m = here n (mirror m)

abbrev pub addressed : ℕ → List Given → List Value
addressed n units = map (unit_of n) units

-- a DR that closes
abbrev pub leaving : ℕ → ℕ → Value
leaving n reason = disconnect n n reason []

-- a DC, or the DR that crossed the other
abbrev pub farewell : ℕ → Option ℕ → Value
farewell n None = disconnected n n
farewell n (Some reason) = leaving n reason

-- the units in flight from here, the oldest first
abbrev pub out : ℕ → Meeting → List Value
out n (talking p) = addressed n p.rightward
out n (left_here p units reason) = addressed n p.rightward ++ leaving n reason ∷ []
out n (left_there p units reason) = addressed n units
out n (left_both units reason back other) = addressed n units ++ leaving n reason ∷ []
out n (waiting_here units last) = []
out n (waiting_there units last) = addressed n units ++ farewell n last ∷ []
out n parted = []

-- the units in flight to here
abbrev pub back : ℕ → Meeting → List Value
back n m = out n (mirror m)

-- these units are the last of all
pub record AreLast (units all : List Given) : Type 0 where
  pub ignored : List Given
  pub is : all ≡ ignored ++ units

-- Open links agree, and all units are of class 2. Those in flight to a side that has closed are the last of those that
-- would be, if it had ignored none.
abbrev pub Stands : Meeting → Type 0
Stands (talking p) = AreOpen true p
Stands (left_here p units reason) = AreOpen true p × AreOfClass true units × AreLast units p.leftward
Stands (left_there p units reason) = AreOpen true p × AreOfClass true units × AreLast units p.rightward
Stands (left_both out reason back other) = AreOfClass true out × AreOfClass true back
Stands (waiting_here units last) = AreOfClass true units
Stands (waiting_there units last) = AreOfClass true units
Stands parted = Unit {0}

-- a carrier of class 2 that has the connection in the state of `here`
pub record IsAt (n : ℕ) (s : State) (m : Meeting) : Type 0 where
  pub some : 0 < n
  pub few : n < 65536
  pub lasts : s.ended ≡ None
  pub class : s.class ≡ Some Two
  pub orderly : IsOrderly s
  pub is : value_at n s.live ≡ here n m
  pub stands : Stands m

-- with another connection at a reference, or none
abbrev pub rows_with : ℕ → Option Connection → Rows Connection → Rows Connection
rows_with n None live = without n live
rows_with n (Some connection) live = put n connection live

-- Only this connection changed: its new state is `after`. These units were written, and these events reported.
pub record Changes (n : ℕ) (old new : State) (after : Option Connection) (units : List Value) (told : List Happening) : Type 0 where
  pub here : value_at n new.live ≡ after
  pub live : new.live ≡ rows_with n after old.live
  pub others : (m : ℕ) → m ≢ n → value_at m new.live ≡ value_at m old.live
  pub outgoing : new.outgoing ≡ old.outgoing ++ packets units
  pub events : new.events ≡ old.events ++ told
  pub ended : new.ended ≡ old.ended
  pub class : new.class ≡ old.class
  pub given : new.given ≡ old.given
  pub local : new.local ≡ old.local
  pub is_caller : new.is_caller ≡ old.is_caller

-- what an arriving message reports to the user of an open connection; to that of a closing one, nothing
abbrev pub told_open : ℕ → Message → List Happening
told_open n ask = []
told_open n agree = []
told_open n (deny reason) = []
told_open n (message octets) = tsdu n octets ∷ []
told_open n (bye reason) = closed n reason ∷ []
told_open n over = []

abbrev pub told_at : ℕ → Option Connection → Message → List Happening
told_at n None m = []
told_at n (Some asked) m = []
told_at n (Some (linked peer link)) m = told_open n m
told_at n (Some (closing peer)) m = []

-- the messages in flight to here, and from here
abbrev pub messages_back : ℕ → Meeting → List Message
messages_back n m = messages_to (there n m) (back n m) (here n m)

abbrev pub messages_out : ℕ → Meeting → List Message
messages_out n m = messages_to (here n m) (out n m) (there n m)

-- What is in flight each way when one side acted: some of what was in flight to it arrived, and its user was told; what
-- was in flight from it stays, except for `lost`, and `put` follows it.
pub record Carries (n : ℕ) (old new : Meeting) (events : List Happening) (put : List Message) : Type 0 where
  pub arrived : List Message
  pub stays : List Message
  pub lost : List Message
  pub told : events ≡ flat_map (told_at n (here n old)) arrived
  pub leftward : AreLike (here n new) (messages_back n old) (arrived ++ messages_back n new)
  pub before : messages_out n old ≡ stays ++ lost
  pub after : messages_out n new ≡ stays ++ put

-- a DR
abbrev pub is_leaving : Value → Bool
is_leaving (request c) = false
is_leaving (confirm destination c) = false
is_leaving (disconnect destination source reason user) = true
is_leaving (disconnected destination source) = false
is_leaving (data0 end user) = false
is_leaving (data2 destination number end user) = false
is_leaving (acknowledge credit destination number) = false
is_leaving (error destination cause) = false

-- the answer to a unit: a DC to a DR, if the connection is open
abbrev pub answers_of : Option Connection → Value → List Message
answers_of None unit = []
answers_of (Some asked) unit = []
answers_of (Some (linked peer link)) unit = if is_leaving unit then over ∷ [] else []
answers_of (Some (closing peer)) unit = []

-- One side acted: these units in flight to it were taken (one, or none), `put` follows what is in flight from it, and
-- this is the state of the connection.
pub record Moves (n : ℕ) (old : Meeting) (s t : State) (taken : List Value) (put : List Message) : Type 0 where
  pub new : Meeting
  pub units : List Value
  pub events : List Happening
  pub changes : Changes n s t (here n new) units events
  pub all_for : AreFor n units
  pub sendable : AllByRecursion IsSendable units
  pub there : there n new ≡ there n old
  pub out : out n new ≡ out n old ++ units
  pub back : back n old ≡ taken ++ back n new
  -- exactly a DR or a DC removes the connection here
  pub goes : is_none (here n new) ≡ list_any is_last taken
  pub stands : Stands new
  pub carries : Carries n old new events put
  pub brings : Brings true (progress_in (here n old)) (progress_in (here n new)) (here n old) (here n new) taken carries.arrived put
  pub keeps : leaves_use (progress_in (here n old)) (progress_in (here n new)) ≡ false → carries.lost ≡ []
