-- What happens to a session that a packet reaches, and the state of two ends then: it makes its move, of which nothing was
-- handed to the carrier yet, and nothing was closed; or it joins a part of a Data to what has begun; or it is lost.
-- For packets and the laws of `standing`.
use Rattle.osi_carrier.specs.React.{react as carrier_react}
use Rattle.osi_machine.specs.Worlds as worlds
use Rattle.osi_session.specs.Listening as words
use Rattle.osi_stack.specs.Moving.{noted}
use Rattle.osi_between.specs.Messages as carrier
use Rattle.osi_session.specs.Allowed.{most_data}
use Rattle.osi_pair.proofs.Vocabulary.{◌≡◌, ◌≢◌, ℕ, ◌≤◌, Bool, true, false, nat_lt, List, [], ◌∷◌, length, map, Option, Some, None}
use Rattle.osi_pair.proofs.Vocabulary.{option_map, refl, sym, ap, subst, ◌∙◌, arith, ◌⊎◌, inl, inr, ◌++◌, Held, Value, place_at, IsOrderly}
use Rattle.osi_pair.proofs.Vocabulary.{Rows, value_at, State as Carrier, linked, orderly_unit, orderly_same, reference_of, Between}
use Rattle.osi_pair.proofs.Vocabulary.{under_way, is_cut, last_of, progress_of, in_use, gone, class_of, IsTableRun, AreSoundLines}
use Rattle.osi_pair.proofs.Vocabulary.{IsSoundLine, AreSendable, is_leaving, connection_at, delivers, learns, Line as TableLine, Turn}
use Rattle.osi_pair.proofs.Vocabulary.{Tables, seen_from, after_turn, step, Message, put, replied, SessionLaws, Meaning, DT, Input}
use Rattle.osi_pair.proofs.Vocabulary.{Standing, Move, react, listening, after_packet, concludes, told_all, kept_at, answers, End}
use Rattle.osi_pair.proofs.Vocabulary.{packet_rises, TwoEnds, end_at, other, side_in, is_caller, class_in, carriers_of, message_in}
use Rattle.osi_pair.proofs.Vocabulary.{AreAlike, IsInOrder, Stands, Goes, joining, HasJoined, waiting_in, quieted, Side, IsNoFault}
use Rattle.osi_pair.proofs.Vocabulary.{IsJoinedAs, part_octets, Last, after_message, StaysCalm, left_is, Link, EndLine as Line}
use Rattle.osi_pair.proofs.Vocabulary.{PartPlace, SessionState, IsSound, Both, Listener, HasNumbersInWords, needs_link, put_row, line_after}
use Rattle.osi_pair.proofs.Vocabulary.{put_other, quieted_at, unit, tsdu, put_here, leaves_use, came, came_as, part_comes, to_session}
use Rattle.osi_pair.proofs.Vocabulary.{session_in, came_numbers, hands_none, append-nil, rests, Shown}
use Rattle.osi_pair.proofs.turn.what_remains_when_a_unit_was_taken.{terms_at, DidAt, line_then, last_is, order_of, was_at, PacketAt}
use Rattle.osi_pair.proofs.turn.what_remains_when_a_unit_was_taken.{TablesAfter, is_agree}
use Rattle.osi_pair.proofs.packet.an_end_handles_its_carriers_events.{lines_then, kept_then, one_told, carried_out, lasting, has_session}
use Rattle.osi_pair.proofs.packet.what_a_session_hears_row_by_row.{got_in, HearsBy, HearLaws, IsWhole, hears_row, IsTaker, tells_by}
use Rattle.osi_pair.proofs.packet.what_a_session_hears_row_by_row.{tells_last, as_move, as_heard}
use Rattle.osi_pair.proofs.packet.the_class_is_known.{moved_known, moved_class}
use Rattle.osi_pair.proofs.session.an_end_moves_as_the_tables_do.{as_made, none_joined, kept_of, PartJoins, first_joins, middle_joins}
use Rattle.osi_pair.proofs.session.an_end_moves_as_the_tables_do.{last_moves}
use Rattle.osi_pair.proofs.packet.a_session_makes_its_move.{is_move, heard_by, step_moves}
use Rattle.osi_pair.proofs.session.a_moved_session_keeps_the_order.{session_acts, moves_order, session_moves}
use Rattle.osi_pair.proofs.packet.a_packet_is_one_delivery_or_none.{PacketLaws, ActsAt, acts_at, is_heard, lasting_in, quiet_of, took}
use Rattle.osi_pair.proofs.packet.a_packet_is_one_delivery_or_none.{known_still, session_before}
use Rattle.osi_pair.proofs.session.an_end_with_nothing_pending.{quiet_order, quiet_waits, put_waits, quiet_same}
use Rattle.osi_pair.proofs.session.a_reply_can_be_sent.{CanGo, ended_broken}
use Rattle.osi_pair.proofs.packet.a_unit_with_which_no_session_acts.{delivered, tables_delivered, sends_then, step_opens, learns_row}
use Rattle.osi_pair.proofs.packet.a_unit_with_which_no_session_acts.{is_awaited}
use Rattle.osi_pair.proofs.packet.a_unit_at_rest_keeps_the_match.{acted_end, did_at, line_at, back_one, FoundLine, back_then, other_lines}
use Rattle.osi_pair.proofs.packet.a_unit_at_rest_keeps_the_match.{over_stays, out_row, transport_before, line_same}
use Rattle.osi_pair.proofs.flight.what_may_arrive_row_by_row.{Row, before, after, tells, is_row, told_for, leaves}
use Rattle.osi_pair.proofs.session.a_seat_is_its_progress_and_session.{transport_by, value_same, HasSession}
use Rattle.osi_pair.proofs.turn.a_turn_keeps_the_match.{with_holding, turned_pair}
use Rattle.osi_pair.proofs.session.a_waiting_session_has_its_request.{is_calling}
use Rattle.osi_pair.proofs.flight.what_is_in_flight_when_an_end_acts.{NextOf, Comes, BehindFirst, IsAlone, IsLast, Begins, GoesOn, no_part}
use Rattle.osi_pair.proofs.flight.who_receives_what_is_in_flight.{TakeLaws, TakesFrom, takes_from, takes_here, takes_then}
use Rattle.osi_pair.proofs.flight.whether_something_is_cut_off.{Lasts}
use Rattle.osi_pair.proofs.turn.all_is_shown.{StandsShown, shown_pair}
use Rattle.osi_pair.proofs.packet.a_packet_is_taken.{shown_by}
use Rattle.osi_pair.proofs.packet.a_disconnect_loses_the_session.{left_channel, left_turn, turn_left, out_leaves}
use Rattle.osi_pair.proofs.flight.what_a_closing_receiver_has_dropped.{kind_of}

-- ---- a move

-- The connection; the line of the tables as the side sees it, the message that arrived and those after it; the line of
-- the end, and what happens to its session.
pub record Moving : Type 0 where
  pub n : ℕ
  pub row : Row
  pub seen : TableLine
  pub first : Message
  pub rest : List Message
  pub line : Line
  pub input : Input

abbrev pub move_of : Moving → Move
move_of m = react m.seen.own.session m.input

-- ---- the end

-- its lines, with the session's indications still pending
abbrev pub loud_lines : Side → TwoEnds → Moving → Rows Line
loud_lines s p m = lines_then m.n m.line m.seen.own.session m.input (end_at s p).end.lines

-- the end, when they were given; what the session sends was not handed over
abbrev pub moved_end : Side → TwoEnds → Value → Moving → End
moved_end s p u m = acted_end u (quieted (loud_lines s p m)) (end_at s p).end

-- its connection is open
pub record IsLinkedAt (n : ℕ) (c : Carrier) : Type 0 where
  pub peer : ℕ
  pub link : Link
  pub at : value_at n c.live ≡ Some (linked peer link)

pub turned_again : (s : Side) (e : End) (h : Held) (n : ℕ) (shown : List Shown) (p : TwoEnds) →
    with_holding s e h (turned_pair s e h n shown p) ≡ turned_pair s e h n shown p
turned_again s e h n shown p = grind arith

-- the end afterwards, with the carrier after it acted, and with all indications still pending
abbrev pub answered_end : Carrier → Rows Line → End
answered_end c lines = record { carrier = c; lines = lines }

pub shown_is : (s : Side) (p : TwoEnds) (e : End) (h : Held) (n : ℕ) (shown : List Shown) (c : Carrier) (lines : Rows Line) →
    c.ended ≡ None → waiting_in lines ≡ map (λ x. (n, x)) shown →
    with_holding s (answered_end c (quieted lines)) h (turned_pair s e h n shown p) ≡ shown_pair s (answered_end c lines) h p
shown_is s p e h n shown c lines lasts waits = grind (arith, with_holding, append-nil)

-- ---- the tables

abbrev pub known_by : Tables → Moving → Option worlds.Class
known_by t m = learns t.terms m.seen.own.transport m.first t.known

-- the line, seen from the side, before anything is sent
abbrev pub moved_line : Moving → TableLine
moved_line m = line_then m.row (move_of m).next m.seen.own.channel m.rest m.seen

-- the whole turn
abbrev pub turn_of : Bool → Moving → Turn
turn_of broken m = record {
  line = line_then m.row (move_of m).next (put broken (replied (move_of m).reply) m.seen.own.channel) m.rest m.seen;
  shown = (move_of m).shown;
  closes = (move_of m).closes;
}

-- the turn without what is sent and what is closed
abbrev pub moved_tables : Side → Tables → Moving → Tables
moved_tables s t m = delivered t (side_in s) m.n (known_by t m) (record { line = moved_line m; shown = (move_of m).shown; closes = false })

-- ---- both

pub record HasMoved (s : Side) (p : TwoEnds) (t : Tables) (packet : List ℕ) (h : Held) : Type 0 where
  pub unit : Value
  pub m : Moving
  pub row : is_move m.row ≡ true
  -- what the packet does to the end, and the delivery to the tables
  pub does : after_packet (end_at s p).end packet ≡ concludes
      (record { carrier = answers m.n 0 (as_made (move_of m)) (moved_end s p unit m).carrier; lines = loud_lines s p m })
  pub waits : waiting_in (loud_lines s p m) ≡ map (λ x. (m.n, x)) (move_of m).shown
  pub steps : (keep : ℕ → ℕ) →
      step t (delivers (side_in s) m.n keep) ≡ after_turn (record t { known = known_by t m }) (side_in s) m.n keep (turn_of t.broken m)
  -- the state before anything is sent or closed
  pub lasts : (moved_end s p unit m).carrier.ended ≡ None
  pub local : (moved_end s p unit m).carrier.local ≡ (end_at s p).end.carrier.local
  pub now : Between
  pub stands : Stands (turned_pair s (moved_end s p unit m) h m.n (move_of m).shown p) now (moved_tables s t m)
  pub found_now : connection_at m.n (moved_tables s t m).lines ≡ Some (seen_from (side_in s) (moved_line m))
  -- it is open, and can send the reply; or it is gone, and the session sends and closes nothing
  pub opened : after m.row ≡ in_use → IsLinkedAt m.n (moved_end s p unit m).carrier
  -- its class is known
  pub agreed : after m.row ≡ in_use → known_by t m ≡ option_map class_in (class_of (terms_at p))
  pub silent : after m.row ≡ gone → ((move_of m).reply ≡ None) × ((move_of m).closes ≡ false)
  pub sends : (x : Meaning) → (move_of m).reply ≡ Some x → CanGo x
  -- the session to which it sends, as the tables have it
  pub takes : TakesFrom s (moved_tables s t m)
  -- the unit fits the terms, the session heard what the row says, and the end is sound after the packet
  pub fits : is_row (terms_at p) m.row
  pub input : m.input ≡ heard_by m.row m.first
  pub sound : IsSound (after_packet (end_at s p).end packet)

-- ---- how the move arises

-- what is proved of the crates below
pub record MovingLaws : Type 0 where
  pub packet : PacketLaws
  pub hear : HearLaws
  pub tables : SessionLaws
  pub sound_lines : (t : Tables) → IsTableRun t → AreSoundLines t
  pub takes : TakeLaws

pub record KeptLine (n : ℕ) (lines : Rows Line) (joined : Option (List ℕ)) (x : Standing) : Type 0 where
  pub line : Line
  pub here : value_at n lines ≡ Some line
  pub is : line.session ≡ Some (joining joined x)

kept_line : (n : ℕ) (lines : Rows Line) (joined : Option (List ℕ)) (x : Standing) → kept_at n lines ≡ Some (joining joined x) →
    KeptLine n lines joined x
kept_line n lines joined x live = grind arith

-- the Data to which an arriving part belongs
record FineData (s : Standing) : Type 0 where
  all : List ℕ
  fine : IsNoFault s.state all

part_joins : (joined : Option (List ℕ)) (x : Standing) (place : PartPlace) (octets now : List ℕ) (H : Option (List ℕ) → Type 0) →
    ((begun : Option (List ℕ)) → H begun → IsJoinedAs x.state joined begun) → length now ≤ most_data → IsTaker x joined → FineData x →
    (Begins H place octets now ⊎ GoesOn H place octets now) → PartJoins joined x place octets (Some now)
part_joins joined x place octets now H holds short kept f h = search (arith, first_joins, middle_joins)

-- a message that does not leave arrives at a session that has joined nothing
abbrev pub got_leaves : carrier.Message → Bool
got_leaves (carrier.bye r) = true
got_leaves carrier.over = true
got_leaves m = false

stays_kind : (m : Message) (got : carrier.Message) → kind_of (message_in m) ≡ kind_of got → got_leaves got ≡ false → is_leaving m ≡ false
stays_kind m got k e = grind arith

linked_by : (n : ℕ) (c : Carrier) (b : Bool) → nat_lt c.given n ≡ b → progress_of (place_at n c) ≡ in_use → IsLinkedAt n c
linked_by n c b e h = grind arith

-- its other connections are unchanged
lives_then : (s : Side) (p : TwoEnds) (b : Between) (t : Tables) (e : End) (h : Held) (n : ℕ) → Stands p b t → Lasts s p →
    (d : DidAt s p b e h n) → e.carrier.ended ≡ None → IsOrderly e.carrier → (q : ℕ) → q ≢ n →
    value_at q e.carrier.live ≡ value_at q (end_at s p).end.carrier.live
lives_then s p b t e h n old alive d lasts orderly q apart = search (arith, value_same, order_of, last_is, was_at)

hears_calm : (row : Row) (x : Standing) (m : Message) (ms : List Message) → is_heard row ≡ true →
    kind_of (message_in m) ≡ kind_of (got_in row) → StaysCalm (after_message x.state m) ms →
    StaysCalm (react x (heard_by row m)).next.state ms
hears_calm row x m ms e k calm = grind (arith, left_is, over_stays, ended_broken)

module _ (laws : MovingLaws) (s : Side) (p : TwoEnds) (b : Between) (t : Tables) (packet : List ℕ) (h : Held) (old : Stands p b t)
    (run : IsTableRun t) (alive : Lasts s p) (pa : PacketAt s p b packet h) (heard : is_heard pa.did.row ≡ true) where
  -- its reference and its row, the end before, the line of the tables, and what the carrier did
  abbrev number : ℕ
  number = reference_of pa.unit

  abbrev row : Row
  row = pa.did.row

  abbrev was : End
  was = (end_at s p).end

  abbrev at : FoundLine s number p b t
  at = line_at s number p b t old pa.first.named pa.first.given

  abbrev session : Standing
  session = at.line.own.session

  abbrev acts : ActsAt s p packet pa.unit number row
  acts = acts_at s p b packet h pa

  -- its session before, with what it has joined of a Data, and its line
  abbrev had : HasSession number was.lines (before row) session
  had = session_before laws.packet s p b t packet h old alive pa

  abbrev joined : Option (List ℕ)
  joined = had.joined

  live : kept_at number was.lines ≡ Some (joining joined session)
  live = had.live (grind arith)

  abbrev kept : KeptLine number was.lines joined session
  kept = kept_line number was.lines joined session live

  transport_then : at.line.own.transport ≡ transport_by (before row)
  transport_then =
      transport_before s p b t (acted_end pa.unit was.lines was) h number at.line old alive (did_at s p b packet h was.lines pa) at.is

  -- what is in flight to it then, after what arrived
  abbrev two : Both
  two = carriers_of (with_holding s (acted_end pa.unit was.lines was) h p)

  abbrev Behind : Option (List ℕ) → SessionState → List Message → Type 0
  Behind begun x ms = BehindFirst (after row) (is_cut (is_caller (other s)) two) begun x ms
      (under_way (is_caller (other s)) number two pa.did.now)

  -- a message arrives, that a session receives
  pub record ArrivesAt : Type 0 where
    pub first : Message
    pub rest : List Message
    pub parts : at.line.peer.channel ≡ first ∷ rest
    pub kind : kind_of (message_in first) ≡ kind_of (got_in row)
    pub hears : HearsBy number row first joined session
    pub stays : Behind None (after_message session.state first) rest

  -- or a part of one Data that is not the last
  pub record PartArrives : Type 0 where
    pub place : PartPlace
    pub octets : List ℕ
    pub is : row ≡ tells (part_octets place octets)
    pub now : List ℕ
    pub joins : PartJoins joined session place octets (Some now)
    pub stays : Behind (Some now) session.state at.line.peer.channel

  -- ---- data that comes is no fault

  next_at : (octets : List ℕ) (ms : List Message) → at.line.peer.channel ≡ unit (DT octets) ∷ ms → IsNoFault session.state octets
  next_at octets ms e = (takes_here laws.takes s t run number at.line at.found).behind [] octets ms e [] tt octets

  part_fine : (now : List ℕ) → NextOf session.state now at.line.peer.channel → FineData session
  part_fine now (inl r) = grind (arith, next_at (now ++ r.rest) r.others r.is)
  part_fine now (inr (inl away)) = grind (arith, takes_here laws.takes s t run number at.line at.found)
  part_fine now (inr (inr calm)) = record { all = []; fine = calm [] }

  -- what a session receives of a TSDU that is a message, whole or by its last part
  hears_tsdu : (octets : List ℕ) (first : Message) (rest : List Message) → at.line.peer.channel ≡ first ∷ rest → IsWhole first →
      IsTaker session joined → row ≡ tells octets → kind_of (message_in first) ≡ kind_of (got_in row) →
      IsAlone (before row) (HasJoined number (end_at s p)) first (got_in row)
      ⊎ IsLast (before row) (HasJoined number (end_at s p)) first (got_in row) → HearsBy number (tells octets) first joined session
  hears_tsdu octets first rest parts whole keeps is kind (inl a) =
      let same : message_in first ∷ [] ≡ carrier.message octets ∷ [] =
      subst (λ (r : Row). AreAlike (before r) (message_in first ∷ []) (got_in r ∷ [])) is a.is in
      let stays : is_leaving first ≡ false = stays_kind first (got_in row) kind (ap (λ (r : Row). got_leaves (got_in r)) is) in
      tells_by laws.hear number octets first joined session (none_joined session.state joined (a.held stays (joining joined session) live))
      same whole at.is.here.octets
  hears_tsdu octets first rest parts whole keeps is kind (inr q) =
      let fine : IsNoFault session.state (q.front ++ q.last) =
      next_at (q.front ++ q.last) rest (parts ∙ ap (λ (m : Message). m ∷ rest) q.first_is) in
      subst (λ (m : Message). HearsBy number (tells octets) m joined session) (sym q.first_is)
      (tells_last laws.hear number octets q.front q.last joined session (grind arith)
      (last_moves joined session q.front q.last q.short keeps fine (q.held (joining joined session) live)) at.is.here.octets)

  arriving_by : Comes (before row) (after row) (is_cut (is_caller (other s)) two) (HasJoined number (end_at s p)) session.state
      at.line.peer.channel (got_in row) (under_way (is_caller (other s)) number two pa.did.now) → ArrivesAt ⊎ PartArrives
  arriving_by (inl sp) =
      let sound : IsSoundLine at.line = grind (arith, laws.sound_lines t run number (seen_from (side_in s) at.line) at.found) in
      let whole : IsWhole sp.first = grind (arith, subst AreSendable sp.parts sound.peer.under_way) in
      let keeps = kept_of number (joining joined session) was (order_of s p b t old alive) live in
      let hears = hears_row laws.hear number row sp.first joined at.line.own keeps.phase
      (λ move other_kind. elim sp.how [
        | inl a ↦ none_joined session.state joined
            (a.held (stays_kind sp.first (got_in row) sp.kind (grind arith)) (joining joined session) live)
        | inr q ↦ absurd (no_part (before row) (part_octets Last q.last) (got_in row) other_kind q.is)
      ])
      (λ octets is. hears_tsdu octets sp.first sp.others sp.parts whole keeps.phase is sp.kind sp.how) (as_heard row heard) transport_then
      (λ w. is_calling laws.tables laws.hear.replies.says (side_in s) number at.line t run at.found w) sound.own.waits at.is.here.octets in
      inl (record { first = sp.first; rest = sp.others; parts = sp.parts; kind = sp.kind; hears = hears; stays = sp.stays })
  arriving_by (inr sp) =
      let keeps = kept_of number (joining joined session) was (order_of s p b t old alive) live in
      inr (record {
        place = sp.place;
        octets = sp.octets;
        is = grind arith;
        now = sp.now;
        joins = part_joins joined session sp.place sp.octets sp.now (HasJoined number (end_at s p))
            (λ begun held. held (joining joined session) live) sp.short keeps.phase (part_fine sp.now sp.next) sp.how;
        stays = sp.stays;
      })

  pub arriving : ArrivesAt ⊎ PartArrives
  arriving =
      arriving_by (back_one s p b (acted_end pa.unit was.lines was) h number at.line (got_in row) (did_at s p b packet h was.lines pa)
      at.is alive (grind arith))

  -- ---- the end then

  opened_then : after row ≡ in_use → IsLinkedAt number (told_all pa.unit was).carrier
  opened_then open_now =
      grind (
        arith,
        linked_by,
        after,
        last_is s p b (acted_end pa.unit was.lines was) h number (did_at s p b packet h was.lines pa) acts.lasts,
      )

  -- it is in order when its session has made this move
  order_then : (line : Line) (l : Listener) (heard : words.Input) (m : words.Move) → value_at number was.lines ≡ Some line →
      line.session ≡ Some l → words.react l heard ≡ m → HasNumbersInWords heard →
      (needs_link m.next.state.phase ≡ true → after row ≡ in_use) →
      IsInOrder (acted_end pa.unit (put_row number (line_after (noted l heard line) m) was.lines) was)
  order_then line l heard m here is so numbered needs =
      let e = acted_end pa.unit was.lines was in
      let order = order_of s p b t old alive in
      let orderly : IsOrderly e.carrier =
      orderly_same (carrier_react pa.unit was.carrier) _ [] (orderly_unit pa.unit was.carrier order.sound.orderly) in
      let more : was.carrier.given ≤ e.carrier.given =
      subst (λ (c : Carrier). was.carrier.given ≤ c.given) acts.acts (packet_rises packet was.carrier) in
      moves_order was e.carrier number line l heard m order alive orderly refl acts.lasts more
      (lives_then s p b t e h number old alive (did_at s p b packet h was.lines pa) acts.lasts orderly) here is so numbered
      (λ link. (let linked_now = opened_then (needs link) in grind (arith, acts.lasts)))

  -- the move; the line of the end has the selectors of a CN that its session receives
  abbrev moving : ArrivesAt → Moving
  moving v = record {
    n = number;
    row = row;
    seen = at.line;
    first = v.first;
    rest = v.rest;
    line = noted (joining joined session) v.hears.heard kept.line;
    input = heard_by row v.first;
  }

  abbrev EndOf : ArrivesAt → End
  EndOf v = moved_end s p pa.unit (moving v)

  moved_order : (v : ArrivesAt) → IsInOrder (EndOf v)
  moved_order v =
      quiet_order (acted_end pa.unit (loud_lines s p (moving v)) was) (order_then kept.line (joining joined session) v.hears.heard
      (as_made (move_of (moving v))) kept.here kept.is v.hears.moves v.hears.numbered v.hears.needs)

  -- ---- two ends then

  kept_now : (v : ArrivesAt) → kept_at number (EndOf v).lines ≡ Some (listening (move_of (moving v)).next)
  kept_now v = kept_then number (moving v).line kept.line session (heard_by row v.first) was.lines kept.here

  -- what is still in flight to it
  rest_then : (v : ArrivesAt) →
      Goes (other s) s number (with_holding s (EndOf v) h p) pa.did.now (after row) (move_of (moving v)).next.state v.rest
  rest_then v =
      let next = after_message session.state v.first in
      let now = kept_now v in
      let held : HasJoined number (record { end = EndOf v; held = h }) None = grind arith in
      back_then s p pa.did.now (EndOf v) h number (after row) None next (move_of (moving v)).next.state v.rest
      (other_lines s p pa.unit h was.lines (EndOf v).lines (λ two. BehindFirst (after row) (is_cut (is_caller (other s)) two) None next
      v.rest (under_way (is_caller (other s)) number two pa.did.now)) v.stays) held
      (λ calm. hears_calm row session v.first v.rest heard v.kind calm)

  -- they match these tables, for what is in flight from it
  moved_stands : (v : ArrivesAt) (u : Tables) (channel : List Message) →
      Goes s (other s) number (with_holding s (EndOf v) h p) pa.did.now
      (progress_of (place_at number (last_of (is_caller (other s)) pa.did.now))) at.line.peer.session.state channel →
      TablesAfter s number t u (move_of (moving v)).shown (line_then row (move_of (moving v)).next channel v.rest at.line) →
      u.known ≡ option_map class_in (with_holding s (EndOf v) h p).left.end.carrier.class →
      Stands (turned_pair s (EndOf v) h number (move_of (moving v)).shown p) pa.did.now u
  moved_stands v u channel out after_it known =
      let m = moving v in
      took laws.packet s p b t packet h old alive pa (EndOf v).lines u (move_of m).shown (move_of m).next channel v.rest
      (moved_order v) (quiet_waits (loud_lines s p m)) (grind (arith, quieted_at, put_other, as_made))
      (has_session number (EndOf v).lines (after row) (move_of m).next None (kept_now v) v.hears.ended v.hears.waits v.hears.goes.octets)
      (record { out = out; back = rest_then v }) after_it known

  waits_then : (v : ArrivesAt) → waiting_in (loud_lines s p (moving v)) ≡ map (λ x. (number, x)) (move_of (moving v)).shown
  waits_then v =
      put_waits number (moving v).line kept.line (as_made (move_of (moving v))) was.lines refl (quiet_of s p b t old) kept.here

  -- what the packet does to the end
  does_then : (v : ArrivesAt) → after_packet was packet ≡ concludes
      (record { carrier = answers number 0 (as_made (move_of (moving v))) (EndOf v).carrier; lines = loud_lines s p (moving v) })
  does_then v =
      one_told was packet pa.unit v.hears.event acts.acts (acts.events ∙ v.hears.told)
      ∙ ap concludes (v.hears.hears (told_all pa.unit was) kept.line kept.here
      ∙ session_acts number v.hears.heard (heard_by row v.first) (told_all pa.unit was) kept.line
      (joining joined session) session kept.here kept.is v.hears.moves (v.hears.alone (joining joined session)))

  -- a packet that a session receives, at an end that has not ended
  pub has_moved : ArrivesAt → is_move row ≡ true → HasMoved s p t packet h
  has_moved v move =
      let m = moving v in
      let e = EndOf v in
      let d = did_at s p b packet h e.lines pa in
      let order = order_of s p b t old alive in
      let takes_out = takes_from laws.takes s t run in
      let after_it = tables_delivered s number (seen_from (side_in s) at.line) t (known_by t m)
      (record { line = moved_line m; shown = (move_of m).shown; closes = false }) at.found in
      let sends : sends_then row t.broken at.line.own.channel ≡ at.line.own.channel = grind arith in
      let out = subst (λ (ms : List Message). Goes s (other s) number (with_holding s e h p) pa.did.now
      (progress_of (place_at number (last_of (is_caller (other s)) pa.did.now))) at.line.peer.session.state ms) sends
      (out_row s p b t e h number at.line old d at.is (grind arith) alive) in
      record {
        unit = pa.unit;
        m = m;
        row = move;
        does = does_then v;
        waits = waits_then v;
        steps = λ keep. step_moves t s number keep row at.line v.first v.rest (got_in row)
            (lasting_in s p b t old alive) at.found v.parts transport_then move (grind arith) v.kind;
        lasts = acts.lasts;
        local = acts.local;
        now = pa.did.now;
        stands = moved_stands v (moved_tables s t m) at.line.own.channel out after_it
            (moved_known s p b t e h number at.line v.first pa.unit row old alive d acts.lasts pa.first pa.first.given refl
            (as_move row move) transport_then v.kind);
        found_now = after_it.lines.found;
        opened = λ open_now. opened_then open_now;
        agreed = λ open_now. moved_class s p b t e h number at.line v.first pa.unit row old d pa.first refl
            (as_move row move) transport_then v.kind open_now;
        silent = v.hears.silent;
        sends = v.hears.goes.sends;
        takes = takes_then s t (moved_tables s t m) number (moved_line m) after_it.lines (takes_out number at.line at.found) takes_out;
        fits = pa.did.is;
        input = refl;
        sound = subst IsSound (sym (carried_out was packet pa.unit acts.acts))
            (laws.packet.sound was pa.unit pa.sendable alive (λ x. order.heard) (λ x. order.sound));
      }

  -- ---- a part of a Data that is not the last

  -- The session joins it to what has begun. The tables have the Data in flight until its last part arrives, so they stay.
  abbrev part_lines : PartArrives → Rows Line
  part_lines v = put_row number (line_after (noted (joining joined session) (part_comes v.place v.octets) kept.line)
      (rests (joining v.joins.now session))) was.lines

  abbrev part_end : PartArrives → End
  part_end v = acted_end pa.unit (part_lines v) was

  came_part : (v : PartArrives) → came (part_octets v.place v.octets) ≡ part_comes v.place v.octets
  came_part v = ap came_as (laws.hear.readings.parts v.place v.octets)

  -- what the packet does to the end
  part_does : (v : PartArrives) → after_packet was packet ≡ part_end v
  part_does v =
      one_told was packet pa.unit (tsdu number (part_octets v.place v.octets)) acts.acts (acts.events ∙ ap (told_for number) v.is)
      ∙ ap concludes (ap (λ (i : words.Input). to_session number i (told_all pa.unit was)) (came_part v)
      ∙ session_moves number (part_comes v.place v.octets) (told_all pa.unit was) kept.line (joining joined session)
      (rests (joining v.joins.now session)) kept.here kept.is v.joins.is
      ∙ ap (λ (c : Carrier). record { carrier = c; lines = part_lines v }) (hands_none number (told_all pa.unit was).carrier))
      ∙ lasting (part_end v) acts.lasts

  part_order : (v : PartArrives) → IsInOrder (part_end v)
  part_order v =
      order_then kept.line (joining joined session) (part_comes v.place v.octets) (rests (joining v.joins.now session)) kept.here
      kept.is v.joins.is (subst HasNumbersInWords (came_part v) (came_numbers laws.hear.units (part_octets v.place v.octets)))
      (λ needs. ap after v.is)

  -- the session then
  part_kept : (v : PartArrives) → kept_at number (part_lines v) ≡ Some (joining v.joins.now session)
  part_kept v = ap session_in (put_here number _ kept.line was.lines kept.here)

  part_has : (v : PartArrives) → HasSession number (part_lines v) (after row) session
  part_has v =
      let after_is : after row ≡ in_use = ap after v.is in
      has_session number (part_lines v) (after row) session v.joins.now (part_kept v) (λ e. absurd (grind arith))
      (λ e. absurd (grind arith)) had.octets

  part_holds : (v : PartArrives) → HasJoined number (record { end = part_end v; held = h }) (Some v.now)
  part_holds v y at = grind (arith, part_kept v)

  pub part_shown : PartArrives → StandsShown s p t (after_packet was packet) h
  part_shown v =
      let l = at.line in
      let lines = part_lines v in
      let line = line_same row l (transport_then ∙ ap transport_by (ap before v.is ∙ sym (ap after v.is))) in
      let waits : waiting_in lines ≡ [] =
      put_waits number (noted (joining joined session) (part_comes v.place v.octets) kept.line) kept.line
      (rests (joining v.joins.now session)) was.lines refl (quiet_of s p b t old) kept.here in
      let stands : Stands (turned_pair s (part_end v) h number [] p) pa.did.now t =
      took laws.packet s p b t packet h old alive pa lines t [] session l.own.channel l.peer.channel (part_order v) waits
      (grind (arith, put_other)) (part_has v)
      (record {
        out = grind (
          arith,
          sends_then,
          out_row s p b t (part_end v) h number l old (did_at s p b packet h lines pa) at.is
              (ap (λ (r : Row). leaves_use (before r) (after r)) v.is) alive,
        );
        back = back_then s p pa.did.now (part_end v) h number (after row) (Some v.now) session.state session.state l.peer.channel
            (other_lines s p pa.unit h was.lines lines (λ two. BehindFirst (after row) (is_cut (is_caller (other s)) two) (Some v.now)
            session.state l.peer.channel (under_way (is_caller (other s)) number two pa.did.now)) v.stays) (part_holds v) (λ calm. calm);
      })
      (subst (λ (m : TableLine). TablesAfter s number t t [] m) (sym line) (grind (arith, append-nil)))
      (known_still laws.packet s p b t packet h old alive pa lines (ap is_agree v.is)) in
      shown_by s p t packet h (part_end v) [] pa.did.now (part_does v) tt acts.local
      (subst (λ (q : TwoEnds). Stands q pa.did.now t) (sym (grind (arith, with_holding, quiet_same, waits))) stands)

  -- ---- a DR that closes the connection

  -- the tables then
  abbrev left_tables : ArrivesAt → ℕ → Tables
  left_tables v keep =
      delivered t (side_in s) number (known_by t (moving v)) (left_turn t.broken keep row (move_of (moving v)) v.rest at.line)

  -- the delivery
  left_step : (v : ArrivesAt) (reason keep : ℕ) → row ≡ leaves reason →
      step t (delivers (side_in s) number (λ r. keep)) ≡ left_tables v keep
  left_step v reason keep is =
      let tr : at.line.own.transport ≡ worlds.linked = transport_then ∙ ap (λ (r : Row). transport_by (before r)) is in
      let same : kind_of (message_in v.first) ≡ carrier.bye reason =
      subst (λ (r : Row). kind_of (message_in v.first) ≡ kind_of (got_in r)) is v.kind in
      step_opens t (side_in s) number (λ r. keep) at.line v.first v.rest
      (left_turn t.broken keep row (move_of (moving v)) v.rest at.line) (lasting_in s p b t old alive) at.found v.parts
      (turn_left t.broken t.terms keep reason row at.line v.first v.rest is tr same) refl

  -- its session is lost, and the last part of what was in flight from it may be
  pub leaving_packet : (v : ArrivesAt) (reason : ℕ) → row ≡ leaves reason → StandsShown s p t (after_packet was packet) h
  leaving_packet v reason is =
      let m = moving v in
      let e = EndOf v in
      let lines = loud_lines s p m in
      let out = out_leaves s p b t e h number reason at.line old (did_at s p b packet h e.lines pa) is at.is
      (takes_from laws.takes s t run number at.line at.found) in
      let silent = v.hears.silent (ap after is) in
      let nothing : answers number 0 (as_made (move_of m)) e.carrier ≡ e.carrier =
      grind (arith, move_of m, hands_none number e.carrier) in
      let then : after_packet was packet ≡ answered_end e.carrier lines =
      grind (arith, does_then v, lasting (answered_end e.carrier lines) acts.lasts, answered_end e.carrier lines) in
      let shown = shown_is s p e h number (move_of m).shown e.carrier lines acts.lasts (waits_then v) in
      let stands = moved_stands v (left_tables v out.keep) (left_channel t.broken out.keep at.line.own.channel) out.way
      (tables_delivered s number (seen_from (side_in s) at.line) t (known_by t m)
      (left_turn t.broken out.keep row (move_of m) v.rest at.line) at.found)
      (learns_row row at.line.own.transport t.terms v.first t.known transport_then (ap is_awaited is)
      ∙ known_still laws.packet s p b t packet h old alive pa e.lines (ap is_agree is)) in
      shown_by s p t packet h (answered_end e.carrier lines) (delivers (side_in s) number (λ r. out.keep) ∷ []) pa.did.now then (refl, tt)
      acts.local
      (subst (λ (y : Tables). Stands (shown_pair s (answered_end e.carrier lines) h p) pa.did.now y) (sym (left_step v reason out.keep is))
      (subst (λ (q : TwoEnds). Stands q pa.did.now (left_tables v out.keep))
      (sym (turned_again s e h number (move_of m).shown p) ∙ shown) stands))
