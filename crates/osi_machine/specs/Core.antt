-- One connection on which nothing is lost, and which neither side refuses, releases or aborts. Each side has the state
-- of its session and what it has seen.
use Rattle.std.specs.Prelude.{◌≡◌, ℕ, ◌<◌, Bool, true, false, if◌then◌else◌, List, [], ◌∷◌, ◌++◌, Option, Ok, Err}
use Rattle.osi_machine.specs.Floor.{TokenSetting, TsduMaximumSize, State, Connecting, Granted, Answer, Call, Accept, Refuse, Data, Give, Minor, Major, Restart, RestartConfirm, ReleaseAccept, Abort, Meaning, CN, allowed, respond_unit, functional_units, offered, no_token, base_for, serial_for, from_base, awaiting, are_sizes}
use Rattle.osi_machine.specs.Histories.{Item, Octets, Point, minor_kind, major_point, cutat}
use Rattle.osi_machine.specs.Owners.{Owners, ToThem, turned_owners, no_owner, passed_to, settled_by, given_up}
use Rattle.osi_machine.specs.Taking.{is_acted_on, seen, got_in, cut_by, owners_after}

-- one of the two sides: with duplex, what it sent and what it received of what the other sent; and what it has sent and
-- the other has not taken
pub record Party : Type 0 where
  pub session : State
  pub view : List Item
  pub said : List (List ℕ)
  pub got : List (List ℕ)
  pub sent : List Meaning

-- the history, the owner of each token as this side sees it, this side and the other
pub record Core : Type 0 where
  pub history : List Item
  pub owner : Owners
  pub own : Party
  pub peer : Party

-- the same, as the other side sees it
abbrev pub turned : Core → Core
turned w = record { history = w.history; owner = turned_owners w.owner; own = w.peer; peer = w.own }

-- ---- a call

abbrev pub stays_in_core : Call → Bool
stays_in_core (Refuse refusal) = false
stays_in_core (ReleaseAccept octets) = false
stays_in_core (Abort octets) = false
stays_in_core _ = true

-- what a call adds to the history; with duplex each side has a history of data only
abbrev pub says : State → Call → List Item
says s (Data octets) = if s.units.duplex then [] else Octets octets ∷ []
says s (Minor confirm octets) = Point s.numbers.next (minor_kind confirm) octets ∷ []
says s (Major octets) = Point s.numbers.next major_point octets ∷ []
says s c = []

abbrev pub speaks : State → Call → List (List ℕ)
speaks s (Data octets) = if s.units.duplex then octets ∷ [] else []
speaks s c = []

abbrev pub view_called : State → Call → List Item → List Item
view_called s (Restart n wishes octets) v = cutat s.base v n
view_called s c v = v ++ says s c

-- the owners after a call that leaves this state
abbrev pub owners_called : State → Call → Owners → Owners
owners_called after (Give tokens) owner = passed_to ToThem tokens owner
owners_called after (Accept requirements serial sides sizes octets) owner = settled_by after
owners_called after (RestartConfirm sides octets) owner = settled_by after
owners_called after (Restart n wishes octets) owner = given_up owner
owners_called after c owner = owner

abbrev pub party_called : Party → Call → Granted → Party
party_called x c g = record {
  session = g.next;
  view = view_called x.session c x.view;
  said = x.said ++ speaks x.session c;
  got = x.got;
  sent = x.sent ++ g.sent ∷ [];
}

abbrev pub answered : Core → Call → Answer → Core
answered w c (Ok g) = record {
  history = w.history ++ says w.own.session c;
  owner = owners_called g.next c w.owner;
  own = party_called w.own c g;
  peer = w.peer;
}
answered w c (Err e) = w

-- a call of this side; a call that is refused changes nothing
abbrev pub called : Core → Call → Core
called w c = if stays_in_core c then answered w c (allowed w.own.session c) else w

-- ---- a unit that is taken

abbrev pub party_taking : Party → Meaning → Party
party_taking x u = record {
  session = (respond_unit x.session u).next;
  view = if is_acted_on x.session u then seen x.session u x.view else x.view;
  said = x.said;
  got = if is_acted_on x.session u then x.got ++ got_in x.session u else x.got;
  sent = x.sent;
}

-- this side takes the first of these units, which are all that are in flight to it
abbrev pub taking : Core → List Meaning → Core
taking w [] = w
taking w (u ∷ us) = record {
  history = if is_acted_on w.own.session u then cut_by w.own.session u w.history else w.history;
  owner = if is_acted_on w.own.session u then owners_after w.own.session u w.owner else w.owner;
  own = party_taking w.own u;
  peer = record w.peer { sent = us };
}

abbrev pub takes : Core → Core
takes w = taking w w.peer.sent

-- ---- the steps of the two sides

pub data Side : Type 0 where
  Left : Side
  Right : Side

pub data CoreStep : Type 0 where
  call_at : Side → Call → CoreStep
  take_at : Side → CoreStep

-- a step of the right side is that of the left of the turned connection
abbrev pub at_side : Side → (Core → Core) → Core → Core
at_side Left step w = step w
at_side Right step w = turned (step (turned w))

abbrev pub core_step : Core → CoreStep → Core
core_step w (call_at side c) = at_side side (λ v. called v c) w
core_step w (take_at side) = at_side side takes w

abbrev pub core_run : Core → List CoreStep → Core
core_run w [] = w
core_run w (step ∷ steps) = core_run (core_step w step) steps

-- ---- how it begins

-- what a caller offers
pub record Offer : Type 0 where
  pub requirements : ℕ
  pub serial : ℕ
  pub wishes : TokenSetting
  pub calling_selector : Option (List ℕ)
  pub called_selector : Option (List ℕ)
  pub sizes : TsduMaximumSize
  pub octets : List ℕ

-- the number is one that a point may have, and each size is one that a user may give
abbrev pub CanBeOffered : Offer → Type 0
CanBeOffered o = (o.serial < 1000000) × (are_sizes o.sizes ≡ true)

abbrev pub offering : Offer → State
offering o = record {
  phase = Connecting;
  is_caller = true;
  units = functional_units o.requirements;
  wishes = offered (functional_units o.requirements) o.wishes;
  held = no_token;
  proposed = base_for (functional_units o.requirements) o.serial;
  base = 0;
  numbers = from_base 0;
  sizes = o.sizes;
}

abbrev pub offer_sent : Offer → Meaning
offer_sent o = CN true o.requirements (serial_for (functional_units o.requirements) o.serial)
    (offered (functional_units o.requirements) o.wishes) o.calling_selector o.called_selector o.sizes o.octets

abbrev pub party_of : State → List Meaning → Party
party_of s sent = record { session = s; view = []; said = []; got = []; sent = sent }

-- the CN is in flight
abbrev pub core_start : Offer → Core
core_start o = record {
  history = [];
  owner = no_owner;
  own = party_of (offering o) (offer_sent o ∷ []);
  peer = party_of awaiting [];
}
