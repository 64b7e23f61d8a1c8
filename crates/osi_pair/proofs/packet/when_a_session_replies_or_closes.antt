-- A session moved: it sends a unit, or closes its connection, or does neither. The state of two ends when that was done
-- and its user received what the move indicates. In class 0 a close ends the end; it has one connection, so the
-- indications are in the order of the tables.
-- For breaks and ends, packets and the laws of `standing`.
use Rattle.osi_machine.specs.Tables.{closed}
use Rattle.osi_machine.specs.Worlds as worlds
use Rattle.osi_carrier.specs.State as carriers
use Rattle.osi_pair.specs.Entries.{ends}
use Rattle.osi_pair.proofs.Vocabulary.{◌≡◌, ℕ, zero, suc, Bool, true, false, List, [], ◌∷◌, map, Option, Some, None, refl, sym, ap, subst}
use Rattle.osi_pair.proofs.Vocabulary.{◌∙◌, ◌⊎◌, arith, noted_in, append-nil, Held, sent, closed_with, Rows, State as Carrier, in_use, gone}
use Rattle.osi_pair.proofs.Vocabulary.{by_two, delivers, shown_at, replaced, with_connection, Line as TableLine, Tables, stays, puts}
use Rattle.osi_pair.proofs.Vocabulary.{closes_by, step, Message, unit, put, replied, Meaning, tsdus_sent, written, is_ended, Shown}
use Rattle.osi_pair.proofs.Vocabulary.{after_packet, concludes, with_carrier, answers, End, answers_by, hands_none, handed, sent_by_itself}
use Rattle.osi_pair.proofs.Vocabulary.{TwoEnds, end_at, side_in, IsInOrder, Stands, waiting_in, quieted, Side, EndLine as Line, quieted_at}
use Rattle.osi_pair.proofs.Vocabulary.{Move, ◌≤◌, ◌++◌, append_assoc, map-append, RiseFrom, AreUpTo, Closed, Between, by_zero, closed_here}
use Rattle.osi_pair.proofs.Vocabulary.{all_lost, Entry, shown_entries, Left, Right, inl, inr, Terms, said_of, Input, opened, Standing}
use Rattle.osi_pair.proofs.Vocabulary.{react, after_input, respond, respond_unit, SessionState}
use Rattle.osi_pair.proofs.turn.what_an_acting_end_leaves_in_flight.{StandsOn}
use Rattle.osi_pair.proofs.flight.a_taken_packet_is_one_row.{CarrierLaws}
use Rattle.osi_pair.proofs.call.a_call_is_the_machines.{put_nothing}
use Rattle.osi_pair.proofs.turn.an_open_connection_acts.{sent_acts, sends_from, closes_from, close_is}
use Rattle.osi_pair.proofs.turn.what_remains_when_a_unit_was_taken.{terms_at, line_then}
use Rattle.osi_pair.proofs.packet.an_end_handles_its_carriers_events.{lasting}
use Rattle.osi_pair.proofs.session.an_end_moves_as_the_tables_do.{as_made}
use Rattle.osi_pair.proofs.packet.a_session_that_moved.{Moving, move_of, loud_lines, moved_end, IsLinkedAt, known_by, moved_line, turn_of}
use Rattle.osi_pair.proofs.packet.a_session_that_moved.{moved_tables, HasMoved, answered_end, shown_is, turned_again}
use Rattle.osi_pair.proofs.packet.a_session_makes_its_move.{is_move, heard_by}
use Rattle.osi_pair.proofs.packet.a_packet_is_one_delivery_or_none.{terms_then}
use Rattle.osi_pair.proofs.packet.a_unit_with_which_no_session_acts.{open_by}
use Rattle.osi_pair.proofs.flight.what_may_arrive_row_by_row.{Row, after, is_row, before}
use Rattle.osi_pair.proofs.turn.all_is_shown.{StandsShown, shown_pair}
use Rattle.osi_pair.proofs.turn.a_turn_keeps_the_match.{with_holding, turned_pair}
use Rattle.osi_pair.proofs.packet.a_packet_is_taken.{shown_by}
use Rattle.osi_pair.proofs.flight.who_receives_what_is_in_flight.{TakesFrom}
use Rattle.osi_pair.proofs.ending.an_end_of_an_end_is_the_machines.{lost_end, ended_stands, may_end, all_shown_then, none_left, EndsOn}
use Rattle.osi_pair.proofs.session.an_end_with_nothing_pending.{quiet_waits}

-- ---- the two ends when the session has moved

turned_here : (s : Side) (e : End) (h : Held) (n : ℕ) (shown : List Shown) (p : TwoEnds) →
    end_at s (turned_pair s e h n shown p) ≡ record { end = e; held = h }
turned_here s e h n shown p = grind arith

-- ---- the tables

replaced_twice : (r : ℕ) (x y : TableLine) (ls : List TableLine) → replaced r y (replaced r x ls) ≡ replaced r y ls
replaced_twice r x y [] = refl
replaced_twice zero x y (l ∷ ls) = refl
replaced_twice (suc r) x y (l ∷ ls) = ap (λ (more : List TableLine). l ∷ more) (replaced_twice r x y ls)

with_twice : (r : ℕ) (x y : TableLine) (ls : List TableLine) → with_connection r y (with_connection r x ls) ≡ with_connection r y ls
with_twice r x y ls = grind (arith, replaced_twice)

-- the line if this is sent
abbrev pub line_with : Bool → Moving → Option Meaning → TableLine
line_with broken m reply = line_then m.row (move_of m).next (put broken (replied reply) m.seen.own.channel) m.rest m.seen

-- ---- a close in class 0: one connection

-- no second line
abbrev IsAlone : Rows Line → Type 0
IsAlone [] = Unit {0}
IsAlone (x ∷ []) = Unit {0}
IsAlone (x ∷ (y ∷ lines)) = ⊥

alone_by : (k : ℕ) (lines : Rows Line) → k ≤ 1 → RiseFrom 0 (quieted lines) → AreUpTo k (quieted lines) → IsAlone lines
alone_by k lines most rise up = grind arith

-- ---- the two ends

-- what they received, in two parts
says_so : (s : Side) (before : List Entry) (n : ℕ) (shown : List Shown) (lines : Rows Line) (last : List Entry) →
    waiting_in lines ≡ map (λ x. (n, x)) shown → IsAlone lines →
    before ++ (shown_entries s (waiting_in (all_lost lines)) ++ last) ≡ (before ++ shown_entries s (map (λ x. (n, x)) shown)) ++
    (shown_entries s (waiting_in (all_lost (quieted lines))) ++ last)
says_so s before n shown lines last waits alone = grind (arith, append-nil, map-append, append_assoc)

zero_stands : (s : Side) (p : TwoEnds) (a : Carrier) (lines : Rows Line) (h : Held) (n : ℕ) (shown : List Shown) (now : Between)
    (t : Tables) → Stands (turned_pair s (record { carrier = a; lines = quieted lines }) h n shown p) now t → TakesFrom s t →
    a.ended ≡ None → waiting_in lines ≡ map (λ x. (n, x)) shown → IsAlone lines →
    EndsOn s (shown_pair s (lost_end Closed a lines) h p) now closed_here t
zero_stands Left p a lines h n shown now t old takes lasts waits alone =
    let e : End = record { carrier = a; lines = quieted lines } in
    let p1 = turned_pair Left e h n shown p in
    let says = all_shown_then Left p1 now t old lasts in
    ended_stands Left p1 now t t e h now Closed closed_here (quieted (all_lost lines)) h (waiting_in (all_lost (quieted lines)))
    (p.journal ++ (shown_entries Left (waiting_in (all_lost lines)) ++ ends Left Closed ∷ [])) old
    (may_end Left p1 now t old takes lasts) refl (λ q. none_left q lines)
    (record { quiet = quiet_waits (all_lost lines); says = says.says })
    (says_so Left p.journal n shown lines (ends Left Closed ∷ []) waits alone)
zero_stands Right p a lines h n shown now t old takes lasts waits alone =
    let e : End = record { carrier = a; lines = quieted lines } in
    let p1 = turned_pair Right e h n shown p in
    let says = all_shown_then Right p1 now t old lasts in
    ended_stands Right p1 now t t e h now Closed closed_here (quieted (all_lost lines)) h (waiting_in (all_lost (quieted lines)))
    (p.journal ++ (shown_entries Right (waiting_in (all_lost lines)) ++ ends Right Closed ∷ [])) old
    (may_end Right p1 now t old takes lasts) refl (λ q. none_left q lines)
    (record { quiet = quiet_waits (all_lost lines); says = says.says })
    (says_so Right p.journal n shown lines (ends Right Closed ∷ []) waits alone)

-- ---- what is proved of one session

pub record AnswerLaws : Type 0 where
  pub says : (s : SessionState) (u : Meaning) → respond s (said_of u) ≡ respond_unit s u
  pub alone : (s : SessionState) (u : Meaning) → (respond_unit s u).closes ≡ true → (respond_unit s u).reply ≡ None
  pub ended : (s : Standing) (input : Input) → (react s input).closes ≡ true → is_ended (after_input s input).state.phase ≡ true

-- ---- a move that closes

pub opened_stays : (x : Standing) → (react x opened).closes ≡ false
unfolding react
opened_stays x = grind arith

-- it answers nothing, and its connection was open
record ClosesAlone (row : Row) (m : Message) (x : Standing) : Type 0 where
  reply : (react x (heard_by row m)).reply ≡ None
  used : before row ≡ in_use

closes_alone : AnswerLaws → (row : Row) (m : Message) (x : Standing) → is_move row ≡ true → (react x (heard_by row m)).closes ≡ true →
    ClosesAlone row m x
unfolding react
closes_alone laws row m x is h = grind (arith, laws.says, laws.alone)

-- a unit arrives at an open connection in one of the classes
open_terms : (terms : Terms) (row : Row) → is_row terms row → before row ≡ in_use → (terms ≡ by_two) ⊎ (terms ≡ by_zero)
open_terms terms row is e = grind arith

-- ---- the packet

module _ (laws : CarrierLaws) (moves : AnswerLaws) (s : Side) (p : TwoEnds) (t : Tables) (packet : List ℕ) (h : Held)
    (v : HasMoved s p t packet h) where
  abbrev number : ℕ
  number = v.m.n

  abbrev move : Move
  move = move_of v.m

  -- the end, the two ends and the tables before anything is sent or closed
  abbrev moved : End
  moved = moved_end s p v.unit v.m

  abbrev lines : Rows Line
  lines = loud_lines s p v.m

  abbrev moved_pair : TwoEnds
  moved_pair = turned_pair s moved h number move.shown p

  abbrev tables : Tables
  tables = moved_tables s t v.m

  -- they match what arrived, when the user has received all that is indicated
  abbrev IsShown : Type 0
  IsShown = StandsShown s p t (after_packet (end_at s p).end packet) h

  -- the connection of a move that sends or closes is open
  is_linked : (after v.m.row ≡ gone → ⊥) → IsLinkedAt number moved.carrier
  is_linked stays = grind (arith, v.row, v.opened)

  -- the end is in order before it sends or closes
  moved_order : IsInOrder moved
  moved_order = grind arith

  -- ---- the packet

  -- the carrier did this, and the delivery left these tables
  finish_shown : (c : Carrier) (keep : ℕ → ℕ) (u : Tables) → answers number 0 (as_made move) moved.carrier ≡ c → c.ended ≡ None →
      c.local ≡ moved.carrier.local → step t (delivers (side_in s) number keep) ≡ u →
      StandsOn (with_holding s (with_carrier c moved) h moved_pair) u → IsShown
  finish_shown c keep u acts lasts local is on =
      let same : after_packet (end_at s p).end packet ≡ answered_end c lines =
      v.does ∙ ap (λ (k : Carrier). concludes (answered_end k lines)) acts ∙ lasting (answered_end c lines) lasts in
      shown_by s p t packet h (answered_end c lines) (delivers (side_in s) number keep ∷ []) on.now same (refl, tt) (local ∙ v.local)
      (grind (arith, shown_pair, shown_is, moved_end, move_of))

  -- the session sends a unit, and closes nothing
  answered_shown : (x : Meaning) → move.closes ≡ false → move.reply ≡ Some x → IsShown
  answered_shown x open_still reply =
      let c = sent number (written x) moved.carrier in
      let go = v.sends x reply in
      let here = is_linked (λ over. (let none = (v.silent over).0 in grind arith)) in
      let a = sent_acts number (written x) moved.carrier here.peer here.link v.lasts here.at in
      let acts : answers number 0 (as_made move) moved.carrier ≡ c =
      grind (arith, move, sent_by_itself (Some x), handed number (written x ∷ []) moved.carrier (go.short, tt)) in
      let same : after_packet (end_at s p).end packet ≡ answered_end c lines =
      v.does ∙ ap (λ (k : Carrier). concludes (answered_end k lines)) acts ∙ lasting (answered_end c lines) a.lasts in
      let order : IsInOrder (with_carrier c moved) = grind (arith, quieted_at, v.sound) in
      finish_shown c (λ r. 0) (stays tables (side_in s) number (puts t.broken (unit x ∷ []) (moved_line v.m))) acts a.lasts a.local
      (grind (arith, known_by, move_of, open_by, turn_of, with_twice, moved_line))
      (sends_from laws s moved_pair v.now tables number here.peer here.link x (moved_line v.m) (record { end = moved; held = h })
      (turned_here s moved h number move.shown p) v.stands go.short go.octets v.found_now v.lasts here.at order)

  -- the delivery if the move closes
  closed_step : (keep : ℕ) → known_by t v.m ≡ Some worlds.class_2 → move.closes ≡ true → move.reply ≡ None →
      step t (delivers (side_in s) number (λ r. keep)) ≡ stays tables (side_in s) number (closed t.broken keep (moved_line v.m))
  closed_step keep known closing reply =
      let m = v.m in
      let t0 = record t { known = known_by t m } in
      let es = map (shown_at (side_in s) number) move.shown in
      v.steps (λ r. keep) ∙ (grind arith)
      ∙ ap (λ (o : Option worlds.Class). closes_by o (noted_in es t0) (side_in s) number (λ r. keep) (turn_of t.broken m).line) known
      ∙ ap (λ (o : Option Meaning). noted_in es (stays t0 (side_in s) number (closed t.broken keep (line_with t.broken m o)))) reply
      ∙ ap (λ (ms : List Message). noted_in es
      (stays t0 (side_in s) number (closed t.broken keep (line_then m.row move.next ms m.rest m.seen))))
      (put_nothing t.broken m.seen.own.channel)
      ∙ sym (grind (arith, with_twice))

  -- in class 2 it closes its connection, and sends nothing
  closed_shown : terms_at p ≡ by_two → known_by t v.m ≡ Some worlds.class_2 → move.closes ≡ true → move.reply ≡ None →
      is_ended move.next.state.phase ≡ true → IsShown
  closed_shown two known closing reply over =
      let c = closed_with number 128 moved.carrier in
      let at_side = turned_here s moved h number move.shown p in
      let here = is_linked (λ shut. (let none = (v.silent shut).1 in grind arith)) in
      let two_now : terms_at moved_pair ≡ by_two = terms_then s p moved h v.local ∙ two in
      let a = close_is laws s moved_pair v.now tables number here.peer here.link (record { end = moved; held = h }) at_side v.stands two_now
      v.lasts here.at in
      let acts : answers number 0 (as_made move) moved.carrier ≡ c =
      ap (λ (b : Bool). answers_by b number (tsdus_sent 0 move.reply) moved.carrier) closing in
      let same : after_packet (end_at s p).end packet ≡ answered_end c lines =
      v.does ∙ ap (λ (k : Carrier). concludes (answered_end k lines)) acts ∙ lasting (answered_end c lines) a.lasts in
      let order : IsInOrder (with_carrier c moved) = grind (arith, quieted_at, v.sound) in
      let on = closes_from laws s moved_pair v.now tables number here.peer here.link (moved_line v.m) (record { end = moved; held = h })
      at_side v.stands two_now v.found_now (v.takes number (moved_line v.m) v.found_now) over v.lasts here.at order in
      finish_shown c (λ r. on.keep) (stays tables (side_in s) number (closed t.broken on.keep (moved_line v.m))) acts a.lasts a.local
      (closed_step on.keep known closing reply) on.on

  -- a move that sends and closes nothing
  silent_shown : move.closes ≡ false → move.reply ≡ None → IsShown
  silent_shown open_still reply =
      finish_shown moved.carrier (λ r. 0) tables (grind (arith, move_of, hands_none)) v.lasts refl
      (search (arith, known_by, move_of, open_by, turn_of, line_then, put_nothing))
      (record {
        now = v.now;
        stands = subst (λ (q : TwoEnds). Stands q v.now tables) (sym (turned_again s moved h number move.shown p)) v.stands;
      })

  -- in class 0 the close ends the end
  shut_shown : terms_at p ≡ by_zero → known_by t v.m ≡ Some worlds.class_0 → move.closes ≡ true → move.reply ≡ None → IsShown
  shut_shown in_zero known closing reply =
      let alone = alone_by moved.carrier.given lines (grind (arith, v.lasts)) moved_order.rising moved_order.sound.known in
      let acts : answers number 0 (as_made move) moved.carrier ≡ carriers.ends Closed moved.carrier =
      ap (λ (b : Bool). answers_by b number (tsdus_sent 0 move.reply) moved.carrier) closing ∙ (grind (arith, turned_pair)) in
      let same : after_packet (end_at s p).end packet ≡ lost_end Closed moved.carrier lines =
      v.does ∙ ap (λ (k : Carrier). concludes (answered_end k lines)) acts in
      let done = zero_stands s p moved.carrier lines h number move.shown v.now tables v.stands v.takes v.lasts v.waits alone in
      shown_by s p t packet h (lost_end Closed moved.carrier lines) (delivers (side_in s) number done.keep ∷ []) v.now same (refl, tt)
      v.local
      (subst (λ (y : Tables). Stands (shown_pair s (lost_end Closed moved.carrier lines) h p) v.now y)
      (sym (grind (arith, known_by, move_of, turn_of, line_with, line_then, put_nothing))) done.stands)

  -- ---- by what the move does

  closing_packet : move.closes ≡ true → IsShown
  closing_packet shut =
      let x = v.m.seen.own.session in
      let a = closes_alone moves v.m.row v.m.first x v.row (ap (λ (i : Input). (react x i).closes) (sym v.input) ∙ shut) in
      let reply : move.reply ≡ None = ap (λ (i : Input). (react x i).reply) v.input ∙ a.reply in
      elim (open_terms (terms_at p) v.m.row v.fits a.used) [
        | inl two ↦ closed_shown two (grind arith) shut reply (moves.ended x v.m.input shut)
        | inr in_zero ↦ shut_shown in_zero (grind arith) shut reply
      ]

  by_move : (shut : Bool) (reply : Option Meaning) → move.closes ≡ shut → move.reply ≡ reply → IsShown
  by_move true reply shut e = closing_packet shut
  by_move false None stays e = silent_shown stays e
  by_move false (Some x) stays e = answered_shown x stays e

  pub moving_packet : IsShown
  moving_packet = by_move move.closes move.reply refl refl
