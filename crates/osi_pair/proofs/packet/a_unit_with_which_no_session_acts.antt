-- A unit with which no session acts: one that brings no message, one that a closing end drops, and a CR that is
-- refused.
-- For turns, breaks and ends and packets.
use Rattle.osi_between.specs.Messages as carrier
use Rattle.osi_machine.specs.Core as machine
use Rattle.osi_machine.specs.Worlds as worlds
use Rattle.osi_pair.proofs.Vocabulary.{◌≡◌, ℕ, Bool, true, false, if◌then◌else◌, List, [], ◌∷◌, ◌++◌, length, map, Option, Some, None, ◌⊎◌}
use Rattle.osi_pair.proofs.Vocabulary.{arith, append-nil, Terms, delivers, shown_at, connection_at, learns, Line, Turn, Tables}
use Rattle.osi_pair.proofs.Vocabulary.{seen_from, unseen, without_first, message_taken, after_turn, stays, end_of, step, Message, Transport}
use Rattle.osi_pair.proofs.Vocabulary.{agree, deny, over, put, with_same, with_other, with_count, side_in, message_in, terms_in, Word, Side}
use Rattle.osi_pair.proofs.Vocabulary.{noted_in as noted}
use Rattle.osi_pair.proofs.turn.what_remains_when_a_unit_was_taken.{TablesAfter, line_then}
use Rattle.osi_pair.proofs.flight.what_may_arrive_row_by_row.{Row, begins, refuses, agrees, denies, leaves, ignores, ends, before}
use Rattle.osi_pair.proofs.flight.what_may_arrive_row_by_row.{arrived_in, is_row}
use Rattle.osi_pair.proofs.session.a_seat_is_its_progress_and_session.{transport_by}
use Rattle.osi_pair.proofs.flight.what_is_in_flight_when_an_end_acts.{IsLeave}
use Rattle.osi_pair.proofs.words.added_and_cut_words_are_messages.{MayLeave}
use Rattle.osi_pair.proofs.flight.what_a_closing_receiver_has_dropped.{kind_of}

-- ---- a delivery of the tables

-- the state afterwards, if it closes nothing
abbrev pub delivered : Tables → machine.Side → ℕ → Option worlds.Class → Turn → Tables
delivered t s r known turn = noted (map (shown_at s r) turn.shown) (stays (record t { known = known }) s r turn.line)

pub open_by : (t : Tables) (s : machine.Side) (r : ℕ) (keep : ℕ → ℕ) (turn : Turn) → turn.closes ≡ false →
    after_turn t s r keep turn ≡ noted (map (shown_at s r) turn.shown) (stays t s r turn.line)
open_by t s r keep turn e = grind arith

pub step_opens : (t : Tables) (s : machine.Side) (r : ℕ) (keep : ℕ → ℕ) (l : Line) (x : Message) (xs : List Message) (turn : Turn) →
    end_of s t ≡ None → connection_at r t.lines ≡ Some (seen_from s l) → l.peer.channel ≡ x ∷ xs →
    message_taken t.broken t.terms (keep r) l.own.transport (without_first l xs) x ≡ turn → turn.closes ≡ false →
    step t (delivers s r keep) ≡ delivered t s r (learns t.terms l.own.transport x t.known) turn
step_opens t s r keep l x xs turn alive found first is e = grind arith

pub tables_delivered : (s : Side) (n : ℕ) (old : Line) (t : Tables) (known : Option worlds.Class) (turn : Turn) →
    connection_at n t.lines ≡ Some old → TablesAfter s n t (delivered t (side_in s) n known turn) turn.shown turn.line
tables_delivered s n old t known turn found = grind (arith, length, with_count, with_same, with_other)

-- ---- the class is learned from a CC alone

abbrev pub is_awaited : Row → Bool
is_awaited agrees = true
is_awaited (denies reason) = true
is_awaited row = false

pub learns_row : (row : Row) (tr : Transport) (terms : worlds.Terms) (x : Message) (known : Option worlds.Class) →
    tr ≡ transport_by (before row) → is_awaited row ≡ false → learns terms tr x known ≡ known
learns_row row tr terms x known e w = grind arith

-- ---- what is put

-- what the tables put for a row, apart from what a session sends
abbrev pub answer_for : Row → List Message
answer_for begins = agree ∷ []
answer_for (refuses reason) = deny reason ∷ []
answer_for (leaves reason) = over ∷ []
answer_for row = []

abbrev pub unless_broken : Bool → List Message → List Message
unless_broken broken ms = if broken then [] else ms

pub put_unless : (broken : Bool) (ms channel : List Message) → put broken ms channel ≡ channel ++ unless_broken broken ms
put_unless broken ms channel = grind (arith, append-nil)

-- nothing is put if something of what is in flight was cut
pub spare_by : (broken cut : Bool) (ms : List Message) → (broken ≡ false → cut ≡ false) → (cut ≡ false) ⊎ (unless_broken broken ms ≡ [])
spare_by broken cut ms free = grind arith

-- the words of what is put
abbrev pub words_put : Bool → List Word → List Word
words_put broken words = if broken then [] else words

pub put_spare : (broken cut : Bool) (words : List Word) → (broken ≡ false → cut ≡ false) → (cut ≡ false) ⊎ (words_put broken words ≡ [])
put_spare broken cut words free = grind arith

-- what is put if its sender leaves
pub leave_by : (broken cut : Bool) (m : Message) → MayLeave m → (broken ≡ true → cut ≡ true) →
    IsLeave (unless_broken broken (m ∷ [])) ⊎ ((cut ≡ true) × (unless_broken broken (m ∷ []) ≡ []))
leave_by broken cut m may all = grind arith

-- ---- the turns of rows in which no session acts

abbrev pub rests : Row → Bool
rests (refuses reason) = true
rests begins = true
rests (ignores octets) = true
rests (ends m) = true
rests row = false

-- what is put then
abbrev pub sends_then : Row → Bool → List Message → List Message
sends_then begins broken channel = put broken (agree ∷ []) channel
sends_then (refuses reason) broken channel = put broken (deny reason ∷ []) channel
sends_then row broken channel = channel

pub turn_rests : (agreed : Terms) (terms : worlds.Terms) (broken : Bool) (keep : ℕ) (row : Row) (l : Line) (m : Message) (xs : List Message)
    (got : carrier.Message) → terms ≡ terms_in agreed → l.own.transport ≡ transport_by (before row) → is_row agreed row → rests row ≡ true →
    arrived_in row ≡ got ∷ [] → kind_of (message_in m) ≡ kind_of got →
    message_taken broken terms keep l.own.transport (without_first l xs) m ≡ unseen
    (line_then row l.own.session (sends_then row broken l.own.channel) xs l)
turn_rests agreed terms broken keep row l m xs got e f is r g a = grind arith
