-- A message arrives that a session receives: the events of the carrier, and what happens to the session, row by row.
-- For packets.
use Rattle.osi_between.specs.Messages as carrier
use Rattle.osi_machine.specs.Worlds as worlds
use Rattle.osi_session.specs.Listening as words
use Rattle.osi_session.specs.Moves as session
use Rattle.osi_session.specs.Joining.{kept_in}
use Rattle.osi_pair.proofs.Vocabulary.{◌≡◌, ℕ, true, false, List, [], ◌∷◌, Option, Some, None, IfSome, refl, sym, ap, subst, ◌∙◌, ◌⊎◌, inl}
use Rattle.osi_pair.proofs.Vocabulary.{inr, ◌++◌, arith, Units, Happening, tsdu, closed, value_at, in_use, gone, Seat, awaits, Message}
use Rattle.osi_pair.proofs.Vocabulary.{unit, IsInOctets, Meaning, DT, said_by_units, words_of, IsSendable, said_of, written, came, taken}
use Rattle.osi_pair.proofs.Vocabulary.{Standing, react, is_ended, HasNumbersInWords, CanBeSent, excluded, hears, opens, needs_link}
use Rattle.osi_pair.proofs.Vocabulary.{limit_for, to_session, End, came_numbers, Readings, came_is, message_in, is_parting, joining}
use Rattle.osi_pair.proofs.Vocabulary.{IsKeptIn, Listener, kept_none, part_octets, Last, part_comes, told_opened as opened}
use Rattle.osi_pair.proofs.Vocabulary.{told_refused as refused, EndLine as Line}
use Rattle.osi_pair.proofs.packet.a_session_makes_its_move.{heard_by, is_move}
use Rattle.osi_pair.proofs.packet.a_packet_is_one_delivery_or_none.{is_heard}
use Rattle.osi_pair.proofs.session.a_reply_can_be_sent.{CanGo, ReplyLaws, GoesBy, goes_taken, goes_opened, goes_refused, silent_refused}
use Rattle.osi_pair.proofs.session.a_reply_can_be_sent.{ended_refused, goes_broken, silent_broken, ended_broken, offer_goes}
use Rattle.osi_pair.proofs.flight.what_may_arrive_row_by_row.{Row, agrees, denies, tells, leaves, before, after, told_for}
use Rattle.osi_pair.proofs.session.a_seat_is_its_progress_and_session.{transport_by}
use Rattle.osi_pair.proofs.session.a_waiting_session_has_its_request.{IsCalling}
use Rattle.osi_pair.proofs.session.an_end_moves_as_the_tables_do.{as_made, moves_so, moves_apart}
use Rattle.osi_pair.proofs.flight.what_is_in_flight_when_an_end_acts.{is_tsdu}

-- ---- which row it is

abbrev pub AsMove : Row → Type 0
AsMove row = (row ≡ agrees) ⊎ (((reason : ℕ) × (row ≡ denies reason)) ⊎ ((octets : List ℕ) × (row ≡ tells octets)))

-- or the connection is closed
abbrev pub AsHeard : Row → Type 0
AsHeard row = AsMove row ⊎ ((reason : ℕ) × (row ≡ leaves reason))

pub as_move : (row : Row) → is_move row ≡ true → AsMove row
as_move row e = grind arith

pub as_heard : (row : Row) → is_heard row ≡ true → AsHeard row
as_heard row e = grind arith

-- the message with which the unit arrived
abbrev pub got_in : Row → carrier.Message
got_in agrees = carrier.agree
got_in (denies reason) = carrier.deny reason
got_in (tells octets) = carrier.message octets
got_in (leaves reason) = carrier.bye reason
got_in row = carrier.over

-- ---- what is true of a row

-- the phase of a session keeps what it has joined
abbrev pub IsTaker : Standing → Option (List ℕ) → Type 0
IsTaker x joined = IsKeptIn x.state.phase joined

-- The carrier reports one event, which the session handles; what the session sends can be sent. If the connection is
-- then gone, the session has ended, and sends and closes nothing.
pub record HearsBy (n : ℕ) (row : Row) (m : Message) (joined : Option (List ℕ)) (x : Standing) : Type 0 where
  pub event : Happening
  pub told : told_for n row ≡ event ∷ []
  pub heard : words.Input
  pub hears : (e : End) (line : Line) → value_at n e.lines ≡ Some line → hears event e ≡ to_session n heard e
  pub moves : words.react (joining joined x) heard ≡ as_made (react x (heard_by row m))
  -- what it sends is one TSDU
  pub alone : (l : Listener) → limit_for l heard ≡ 0
  pub numbered : HasNumbersInWords heard
  pub goes : GoesBy x (heard_by row m)
  pub ended : is_parting (transport_by (after row)) ≡ true → is_ended (react x (heard_by row m)).next.state.phase ≡ true
  pub waits : transport_by (after row) ≡ worlds.not_yet → (react x (heard_by row m)).next ≡ awaits
  pub silent : after row ≡ gone → ((react x (heard_by row m)).reply ≡ None) × ((react x (heard_by row m)).closes ≡ false)
  pub needs : needs_link (react x (heard_by row m)).next.state.phase ≡ true → after row ≡ in_use

hears_agrees : (n : ℕ) (m : Message) (joined : Option (List ℕ)) (x : Standing) → IsTaker x joined → joined ≡ None →
    ((y : Meaning) → x.waiting ≡ Some y → CanGo y) → IfSome x.waiting IsInOctets → HearsBy n agrees m joined x
hears_agrees n m joined x kept none goes octets = record {
  event = opened n;
  told = refl;
  heard = words.opened;
  hears = λ e line here. ap (λ (o : Option Line). opens n o e) here;
  moves = moves_apart joined x session.opened kept refl
      (ap (kept_in (react x session.opened).next.state.phase) none ∙ kept_none (react x session.opened).next.state.phase);
  alone = λ l. refl;
  numbered = tt;
  goes = goes_opened x goes octets;
  ended = λ e. absurd (grind arith);
  waits = λ e. (let no : worlds.linked ≡ worlds.not_yet = e in cc);
  silent = λ e. (let no : in_use ≡ gone = e in cc);
  needs = λ e. refl;
}

needs_none : (x : Standing) → is_ended x.state.phase ≡ true → needs_link x.state.phase ≡ true → in_use ≡ gone
needs_none x ended needs = grind (arith, excluded)

hears_denies : (n reason : ℕ) (m : Message) (joined : Option (List ℕ)) (x : Standing) → IsTaker x joined → joined ≡ None →
    is_ended (react x (session.refused reason)).next.state.phase ≡ true → IfSome x.waiting IsInOctets → HearsBy n (denies reason) m joined x
hears_denies n reason m joined x kept none past octets = record {
  event = refused n reason;
  told = refl;
  heard = words.refused reason;
  hears = λ e line here. refl;
  moves = grind (arith, react, kept_none, moves_apart joined x (session.refused reason) kept refl (grind (arith, react, kept_none)));
  alone = λ l. refl;
  numbered = tt;
  goes = goes_refused x reason octets;
  ended = λ e. past;
  waits = λ e. (let no : worlds.gone ≡ worlds.not_yet = e in cc);
  silent = λ e. silent_refused x reason;
  needs = λ e. sym (needs_none (react x (session.refused reason)).next past e);
}

-- a session that is lost keeps nothing of what it has joined
lost_keeps : (joined : Option (List ℕ)) (x : Standing) → kept_in (react x session.broken).next.state.phase joined ≡ None
unfolding react
lost_keeps joined x = refl

hears_leaves : (n reason : ℕ) (m : Message) (joined : Option (List ℕ)) (x : Standing) → IsTaker x joined → IfSome x.waiting IsInOctets →
    HearsBy n (leaves reason) m joined x
hears_leaves n reason m joined x kept octets = record {
  event = closed n reason;
  told = refl;
  heard = words.broken;
  hears = λ e line here. refl;
  moves = moves_apart joined x session.broken kept refl (lost_keeps joined x);
  alone = λ l. refl;
  numbered = tt;
  goes = goes_broken x octets;
  ended = λ e. ended_broken x;
  waits = λ e. (let no : worlds.gone ≡ worlds.not_yet = e in cc);
  silent = λ e. silent_broken x;
  needs = λ e. sym (needs_none (react x session.broken).next (ended_broken x) e);
}

-- ---- the three

pub record HearLaws : Type 0 where
  pub replies : ReplyLaws
  pub readings : Readings
  pub units : (units : Units) → HasNumbersInWords (words.taken (said_by_units units))

-- a unit that is in flight can be sent
abbrev pub IsWhole : Message → Type 0
IsWhole (unit u) = IsSendable u
IsWhole m = Unit {0}

waiting_goes : ReplyLaws → (seat : Seat) → IsCalling seat → CanBeSent seat.session.waiting → IfSome seat.session.waiting IsInOctets →
    (y : Meaning) → seat.session.waiting ≡ Some y → CanGo y
waiting_goes laws seat c w h y e = grind (arith, offer_goes)

-- a TSDU that the session hears so
tells_as : HearLaws → (n : ℕ) (octets : List ℕ) (u : Meaning) (joined : Option (List ℕ)) (x : Standing) (heard : words.Input) →
    came octets ≡ heard → words.react (joining joined x) heard ≡ as_made (react x (taken (said_of u))) →
    ((l : Listener) → limit_for l heard ≡ 0) → IfSome x.waiting IsInOctets → HearsBy n (tells octets) (unit u) joined x
tells_as laws n octets u joined x heard same moves alone waits = record {
  event = tsdu n octets;
  told = refl;
  heard = heard;
  moves = moves;
  hears = λ e line here. ap (λ (i : words.Input). to_session n i e) same;
  alone = alone;
  numbered = subst HasNumbersInWords same (came_numbers laws.units octets);
  goes = goes_taken laws.replies x u waits;
  ended = λ e. absurd (grind arith);
  waits = λ e. (let no : worlds.linked ≡ worlds.not_yet = e in cc);
  silent = λ e. (let no : in_use ≡ gone = e in cc);
  needs = λ e. refl;
}

pub tells_by : HearLaws → (n : ℕ) (octets : List ℕ) (m : Message) (joined : Option (List ℕ)) (x : Standing) → joined ≡ None →
    message_in m ∷ [] ≡ carrier.message octets ∷ [] → IsWhole m → IfSome x.waiting IsInOctets → HearsBy n (tells octets) m joined x
tells_by laws n octets (unit u) joined x none e whole waits =
    let is : octets ≡ written u = cc in
    tells_as laws n octets u joined x (words.taken (words_of u)) (ap came is ∙ came_is laws.readings u whole)
    (ap (λ (j : Option (List ℕ)). words.react (joining j x) (words.taken (words_of u))) none ∙ moves_so x (taken (said_of u)))
    (λ l. refl) waits
tells_by laws n octets m joined x none e whole waits = cc

-- the last part of one Data
pub tells_last : HearLaws → (n : ℕ) (octets front last : List ℕ) (joined : Option (List ℕ)) (x : Standing) →
    octets ≡ part_octets Last last →
    words.react (joining joined x) (part_comes Last last) ≡ as_made (react x (taken (said_of (DT (front ++ last))))) →
    IfSome x.waiting IsInOctets → HearsBy n (tells octets) (unit (DT (front ++ last))) joined x
tells_last laws n octets front last joined x is moves waits =
    tells_as laws n octets (DT (front ++ last)) joined x (part_comes Last last)
    (ap came is ∙ ap words.came_as (laws.readings.parts Last last)) moves (λ l. refl) waits

-- what happens to the session at a side
pub hears_row : HearLaws → (n : ℕ) (row : Row) (m : Message) (joined : Option (List ℕ)) (seat : Seat) → IsTaker seat.session joined →
    (is_move row ≡ true → is_tsdu (got_in row) ≡ false → joined ≡ None) →
    ((octets : List ℕ) → row ≡ tells octets → HearsBy n (tells octets) m joined seat.session) → AsHeard row →
    seat.transport ≡ transport_by (before row) → (seat.transport ≡ worlds.waiting → IsCalling seat) → CanBeSent seat.session.waiting →
    IfSome seat.session.waiting IsInOctets → HearsBy n row m joined seat.session
hears_row laws n row m joined seat kept none tsdus (inl (inl is)) tr calls sendable octets =
    grind (arith, hears_agrees, is_move, is_tsdu, waiting_goes, transport_by, before)
hears_row laws n row m joined seat kept none tsdus (inl (inr (inl is))) tr calls sendable octets =
    grind (arith, transport_by, before, hears_denies, is_move, is_tsdu, ended_refused)
hears_row laws n row m joined seat kept none tsdus (inl (inr (inr is))) tr calls sendable octets = grind arith
hears_row laws n row m joined seat kept none tsdus (inr is) tr calls sendable octets = grind (arith, hears_leaves)
