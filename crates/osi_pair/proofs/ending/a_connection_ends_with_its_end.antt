-- What happens to a connection whose end ends: its seat, its line, and what is in flight from it.
-- For breaks and ends.
use Rattle.osi_between.specs.Messages as between
use Rattle.osi_machine.specs.Core as machine
use Rattle.osi_machine.specs.Worlds.{not_yet, gone}
use Rattle.osi_pair.proofs.Vocabulary.{ended_there, take-map, ◌≡◌, refl, ◌∙◌, ap, ℕ, Bool, true, false, if◌then◌else◌, not, List, []}
use Rattle.osi_pair.proofs.Vocabulary.{◌++◌, length, map, take, nat_lt, Option, Some, None, is_some, arith, messages_front, IfSome}
use Rattle.osi_pair.proofs.Vocabulary.{append-nil, Value, Place, never, was_given, place_at, connection_in, Rows, value_at, Connection}
use Rattle.osi_pair.proofs.Vocabulary.{State, units_of, Between, Both, is_cut, to_come, under_way, side, last_of, messages_after, begun_at}
use Rattle.osi_pair.proofs.Vocabulary.{Progress, connection_at, is_given, Seat, Line, awaits, seen_from, ended_lines, Message, IsInOctets}
use Rattle.osi_pair.proofs.Vocabulary.{broken as broken_off, react, kept_at, Holding, transport_in, IsSeated, AreUnderWay, EndReason}
use Rattle.osi_pair.proofs.Vocabulary.{SessionState as Session, append_assoc, list_any-append, take-append-le}
use Rattle.osi_pair.proofs.flight.what_is_in_flight_when_an_end_acts.{Takes, as_now}
use Rattle.osi_pair.proofs.flight.what_is_in_flight_when_an_end_acts as ways
use Rattle.osi_pair.proofs.session.a_reply_can_be_sent.{ended_broken, goes_broken}
use Rattle.osi_pair.proofs.flight.what_a_closing_receiver_has_dropped.{alike_take}

-- ---- a side that has ended

-- what happens to it, if it was given
abbrev pub ended_seat : Bool → ℕ → Seat → Seat
ended_seat true keep s = record { transport = gone; session = (react s.session broken_off).next; channel = take keep s.channel }
ended_seat false keep s = s

abbrev pub ended_line : ℕ → Line → Line
ended_line keep l = record l { own = ended_seat (is_given l.own.transport) keep l.own }

-- what is asked of a seat that is going to end, by whether its carrier has given the reference
pub record IsPlaced (n : ℕ) (c : State) (seat : Seat) : Type 0 where
  pub given : is_given seat.transport ≡ not (nat_lt c.given n)
  pub awaiting : seat.transport ≡ not_yet → seat.session ≡ awaits
  pub octets : IfSome seat.session.waiting IsInOctets

pub given_place : (n : ℕ) (c : State) → is_given (transport_in (place_at n c)) ≡ not (nat_lt c.given n)
given_place n c = grind arith

pub placed_seat : (n : ℕ) (h : Holding) (seat : Seat) → IsSeated n h seat → IsPlaced n h.end.carrier seat
placed_seat n h seat i = record { given = ap is_given i.transport ∙ given_place n h.end.carrier; awaiting = i.awaiting; octets = i.octets }

-- the end of a carrier leaves what was given
pub record HasEnded (c : State) (new : Holding) : Type 0 where
  pub given : new.end.carrier.given ≡ c.given
  pub live : new.end.carrier.live ≡ []
  pub none : (n : ℕ) → kept_at n new.end.lines ≡ None

not_live : (n : ℕ) (live : Rows Connection) → live ≡ [] → is_some (value_at n live) ≡ true → ⊥
not_live n live none some = grind arith

pub not_of : (b : Bool) (x : Bool) → x ≡ not b → b ≡ not x
not_of b x e = grind arith

pub seat_ends : (n : ℕ) (c : State) (new : Holding) (seat : Seat) (keep : ℕ) → HasEnded c new → IsPlaced n c seat →
    IsSeated n new (ended_seat (is_given seat.transport) keep seat)
seat_ends n c new seat keep ended s = grind (arith, not_of, not_live, ended_broken, goes_broken seat.session s.octets)

-- ---- all lines

pub ended_at_line : (side : machine.Side) (keep : ℕ → ℕ) (n : ℕ) (ls : List Line) (l : Line) →
    connection_at n ls ≡ Some (seen_from side l) →
    connection_at n (ended_lines side keep 1 ls) ≡ Some (seen_from side (ended_line (keep n) l))
ended_at_line side keep n ls l e = grind (arith, ended_there side keep n ls (seen_from side l) e)

-- ---- what is in flight

pub record Front (all first : List between.Message) : Type 0 where
  pub gone : List between.Message
  pub parts : all ≡ first ++ gone

-- what is still to be cut into units is lost
front_cut : (o c : Option Connection) (n : ℕ) (units : List Value) (cut : Bool) →
    Front (messages_after (begun_at o) (units_of n units ++ to_come cut c))
    (messages_after (begun_at o) (units_of n units ++ to_come true c))
front_cut o c n units cut = grind (arith, messages_front (units_of n units) (begun_at o) (to_come cut c), append-nil (units_of n units))

pub way_cut : (end : Bool) (n : ℕ) (old new : Both) (b : Between) → is_cut end new ≡ true →
    Front (under_way end n old b) (under_way end n new b)
way_cut end n old new b cut = grind (arith, not, front_cut)

pub way_none : (end : Bool) (n : ℕ) (old new : Both) (b : Between) → connection_in (place_at n (last_of end b)) ≡ None →
    under_way end n old b ≡ under_way end n new b
way_none end n old new b none = grind arith

pub never_given : (n : ℕ) (c : State) → nat_lt c.given n ≡ true → connection_in (place_at n c) ≡ None
never_given n c e = ap (λ (b : Bool). connection_in (if◌then◌else◌ {A = Place} b never (was_given (value_at n c.live)))) e

-- `keep` messages of it remain
pub record EndsWith (o : Option EndReason) (g : Progress) (H : Option (List ℕ) → Type 0) (x : Session) (given : Bool) (seat : Seat)
    (new : List between.Message) : Type 0 where
  pub keep : ℕ
  pub way : AreUnderWay o g true H x (ended_seat given keep seat).channel new

-- what its end takes away was put after what was in flight
pub way_ended : (o : Option EndReason) (g : Progress) (c : Bool) (H : Option (List ℕ) → Type 0) (x : Session) (given : Bool) (seat : Seat)
    (kept more : List Message) (old new : List between.Message) → seat.channel ≡ kept ++ more → (given ≡ false → more ≡ []) →
    Takes x seat.channel → Front old new → (given ≡ false → old ≡ new) → AreUnderWay o g c H x kept old → EndsWith o g H x given seat new
way_ended o g c H x true seat kept more old new parts none takes f same w =
    let k = length new in
    let y = ways.front_at o o g g c true H x kept k old new w (grind (arith, append_assoc, list_any-append)) refl
    (grind (arith, take-map, alike_take)) in
    grind (arith, take-append-le)
way_ended o g c H x false seat kept more old new parts none takes f same w = grind (arith, append-nil, as_now, map)
