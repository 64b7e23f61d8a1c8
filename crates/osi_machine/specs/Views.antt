-- The record of one side of a connection, which is what its user asked for and received, and what can be read from it.
use Rattle.std.specs.Prelude.{◌≡◌, ℕ, ◌+◌, ◌==◌, Bool, true, false, ◌&&◌, if◌then◌else◌, List, [], ◌∷◌, ◌++◌, map, None}
use Rattle.osi_session.specs.Shown.{Shown, Connected, Data as data_shown, Minor as minor_shown, Major as major_shown, Restart as restart_shown, Restarted, PeerAbort, BadUnit}
use Rattle.osi_machine.specs.Floor.{FunctionalUnits, State, Call, Accept, Data, Minor, Major, Restart, Meaning, allowed, respond_unit, functional_units, no_units, both_units, base_for, agreed_base, is_restarting}
use Rattle.osi_machine.specs.Histories.{Item, Octets, Point, PointKind, minor_kind, major_point, points, cutat}
use Rattle.osi_machine.specs.Core.{Core, CoreStep, call_at, take_at, Side, Left, Right, Offer, stays_in_core, core_step, core_run, core_start}
use Rattle.osi_machine.specs.Machine.{Entry, call_answered, shown_at, error_of}

-- What a record shows so far: the units and the first number that its side proposed, if it requested the connection;
-- whether duplex is selected; the first number; what was seen of the history; the data that was to be sent, and the
-- data that was received; whether the answer to a restart is awaited; and whether a fault was indicated, of this side
-- or of the other.
pub record Told : Type 0 where
  pub asked_for : FunctionalUnits
  pub proposed : ℕ
  pub duplex : Bool
  pub base : ℕ
  pub view : List Item
  pub requested : List (List ℕ)
  pub indicated : List (List ℕ)
  pub asking : Bool
  pub faulted : Bool

-- data is added
abbrev pub with_data : Told → List ℕ → Told
with_data t octets = record t { view = t.view ++ Octets octets ∷ [] }

abbrev pub with_point : Told → ℕ → PointKind → List ℕ → Told
with_point t n kind octets = record t { view = t.view ++ Point n kind octets ∷ [] }

-- an accepted call; a point gets the base plus the number of points before it
abbrev pub told_call : Told → Call → Told
told_call t (Accept requirements serial sides sizes octets) =
    record t { duplex = (functional_units requirements).duplex; base = base_for (functional_units requirements) serial }
told_call t (Data octets) = record (with_data t octets) { requested = t.requested ++ octets ∷ [] }
told_call t (Minor confirm octets) = with_point t (t.base + points t.view) (minor_kind confirm) octets
told_call t (Major octets) = with_point t (t.base + points t.view) major_point octets
told_call t (Restart n wishes octets) = record t { view = cutat t.base t.view n; asking = true }
told_call t c = t

-- an indication; a point has the number that is indicated
abbrev pub told_shown : Told → Shown → Told
told_shown t (Connected requirements serial sides sizes octets) = record t {
  duplex = (both_units t.asked_for (functional_units requirements)).duplex;
  base = agreed_base (both_units t.asked_for (functional_units requirements)) serial t.proposed;
}
told_shown t (data_shown octets) = record (with_data t octets) { indicated = t.indicated ++ octets ∷ [] }
told_shown t (minor_shown n confirm octets) = with_point t n (minor_kind confirm) octets
told_shown t (major_shown n octets) = with_point t n major_point octets
told_shown t (restart_shown n wishes octets) = record t { view = cutat t.base t.view n; asking = false }
told_shown t (Restarted n sides octets) = record t { asking = false }
told_shown t (PeerAbort bits) = record t { faulted = true }
told_shown t (BadUnit fault) = record t { faulted = true }
told_shown t i = t

abbrev pub told_entry : Told → Entry → Told
told_entry t (call_answered side r c None) = told_call t c
told_entry t (shown_at side r i) = told_shown t i
told_entry t e = t

-- what a record tells, entry by entry
abbrev pub told_by : Told → List Entry → Told
told_by t [] = t
told_by t (e ∷ es) = told_by (told_entry t e) es

abbrev pub is_side : Side → Side → Bool
is_side Left Left = true
is_side Right Right = true
is_side side other = false

-- an entry of this side for this connection
abbrev pub is_of : Side → ℕ → Entry → Bool
is_of side r (call_answered s q c e) = is_side side s && (q == r)
is_of side r (shown_at s q i) = is_side side s && (q == r)
is_of side r e = false

abbrev pub record_of : Side → ℕ → List Entry → List Entry
record_of side r [] = []
record_of side r (e ∷ es) = if is_of side r e then e ∷ record_of side r es else record_of side r es

-- before the first entry, for a caller with this offer
abbrev pub untold : Side → Offer → Told
untold Left o = record {
  asked_for = functional_units o.requirements;
  proposed = base_for (functional_units o.requirements) o.serial;
  duplex = false;
  base = 0;
  view = [];
  requested = [];
  indicated = [];
  asking = false;
  faulted = false;
}
untold Right o = record { asked_for = no_units; proposed = 0; duplex = false; base = 0; view = []; requested = []; indicated = []; asking = false; faulted = false }

-- the view of a side, and whether it has requested a restart and has seen no answer, by the journal
abbrev pub told_of : Side → ℕ → Offer → List Entry → Told
told_of side r o journal = told_by (untold side o) (record_of side r journal)

-- ---- the journal of a connection on which nothing is lost

abbrev pub call_entries : Side → State → Call → List Entry
call_entries side s c = if stays_in_core c then call_answered side 1 c (error_of (allowed s c)) ∷ [] else []

abbrev pub take_entries : Side → State → List Meaning → List Entry
take_entries side s [] = []
take_entries side s (u ∷ us) = map (shown_at side 1) (respond_unit s u).shown

abbrev pub core_entries : Core → CoreStep → List Entry
core_entries w (call_at Left c) = call_entries Left w.own.session c
core_entries w (call_at Right c) = call_entries Right w.peer.session c
core_entries w (take_at Left) = take_entries Left w.own.session w.peer.sent
core_entries w (take_at Right) = take_entries Right w.peer.session w.own.sent

abbrev pub core_journal : Core → List CoreStep → List Entry
core_journal w [] = []
core_journal w (step ∷ steps) = core_entries w step ++ core_journal (core_step w step) steps

-- ---- what the records of both sides tell

abbrev pub left_told : Offer → List CoreStep → Told
left_told o steps = told_of Left 1 o (core_journal (core_start o) steps)

abbrev pub right_told : Offer → List CoreStep → Told
right_told o steps = told_of Right 1 o (core_journal (core_start o) steps)

-- With half-duplex, each record tells what its side has seen, so the two views agree; and it tells whether the side has
-- requested a restart and awaits the answer.
pub record AreTold (o : Offer) (steps : List CoreStep) : Type 0 where
  pub left : (core_run (core_start o) steps).own.session.units.duplex ≡ false → (left_told o steps).view ≡ (core_run (core_start o) steps).own.view
  pub right : (core_run (core_start o) steps).peer.session.units.duplex ≡ false → (right_told o steps).view ≡ (core_run (core_start o) steps).peer.view
  pub left_asking : (left_told o steps).asking ≡ is_restarting (core_run (core_start o) steps).own.session.phase
  pub right_asking : (right_told o steps).asking ≡ is_restarting (core_run (core_start o) steps).peer.session.phase
