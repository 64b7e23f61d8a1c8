-- An end takes a packet with which no session acts, or one begins: no step of the tables, or one delivery.
-- For turns, breaks and ends, packets, carries, pairs in the same state and the laws of `standing`.
use Rattle.osi_carrier.specs.Coming.{IsSendable}
use Rattle.osi_carrier.specs.Packets as carriers
use Rattle.osi_carrier.specs.React.{react as carrier_react}
use Rattle.osi_between.specs.Messages as carrier
use Rattle.osi_machine.specs.Tables as tables
use Rattle.osi_stack.specs.State.{joins}
use Rattle.osi_pair.proofs.Vocabulary.{◌≡◌, ℕ, ◌≤◌, Bool, true, false, List, [], ◌∷◌, Option, None, refl, sym, ap, subst, ◌∙◌, ◌⊎◌, inl}
use Rattle.osi_pair.proofs.Vocabulary.{inr, arith, EndLine as Line, append-nil, Held, Value, place_at, RiseFrom, Rows, value_at, State}
use Rattle.osi_pair.proofs.Vocabulary.{reference_of, Both, side, Between, AreBetween, is_cut, under_way, progress_of, leaves_use, shutting}
use Rattle.osi_pair.proofs.Vocabulary.{Terms, beyond, Step, delivers, Line as TableLine, Tables, end_of, step, run, Message, after_unit}
use Rattle.osi_pair.proofs.Vocabulary.{carries_out, AllCameAbout, after_packet, attends, concludes, opens, IsSound, told_all, End}
use Rattle.osi_pair.proofs.Vocabulary.{IsAttended, rise_joins, TwoEnds, end_at, side_in, is_caller, carriers_of, AreDeliveries, IsInOrder}
use Rattle.osi_pair.proofs.Vocabulary.{Stands, Goes, HasJoined, message_in, waiting_in, Side, other, after_message}
use Rattle.osi_pair.proofs.Vocabulary.{StaysCalm, told_opened as opened, awaits_cn as awaits, SessionState, Shown, Standing, option_map}
use Rattle.osi_pair.proofs.Vocabulary.{class_in, learns, unseen, seen_from, is_some, used_live, push_other, push_here, fresh_line}
use Rattle.osi_pair.proofs.Vocabulary.{session_in, Some, is_parting, Progress, ◌<◌}
use Rattle.osi_pair.proofs.flight.a_taken_packet_is_one_row.{CarrierLaws}
use Rattle.osi_pair.proofs.packet.a_request_begins_a_session.{begun_lines, begun_waits, joined, begun_kept}
use Rattle.osi_pair.proofs.turn.what_remains_when_a_unit_was_taken.{terms_at, DidAt, is_agree, last_is, order_of, was_at, PacketAt}
use Rattle.osi_pair.proofs.turn.what_remains_when_a_unit_was_taken.{OtherSessions, WaysThen, TablesAfter, line_then, finish, known_then}
use Rattle.osi_pair.proofs.packet.an_end_handles_its_carriers_events.{carried_out, nothing_heard, one_told, lasting}
use Rattle.osi_pair.proofs.packet.a_unit_with_which_no_session_acts.{rests, sends_then, turn_rests, step_opens, tables_delivered}
use Rattle.osi_pair.proofs.packet.a_unit_with_which_no_session_acts.{learns_row}
use Rattle.osi_pair.proofs.packet.a_unit_at_rest_keeps_the_match.{acted_end, did_at, is_rest, FoundLine, line_at, back_none, back_one}
use Rattle.osi_pair.proofs.packet.a_unit_at_rest_keeps_the_match.{back_alone, back_then, over_holds, over_stays, session_rests, out_row}
use Rattle.osi_pair.proofs.packet.a_unit_at_rest_keeps_the_match.{line_same, transport_before}
use Rattle.osi_pair.proofs.flight.what_may_arrive_row_by_row.{Row, begins, refuses, agrees, denies, tells, leaves, ignores, ends, before}
use Rattle.osi_pair.proofs.flight.what_may_arrive_row_by_row.{after, arrived_in, told_for}
use Rattle.osi_pair.proofs.turn.a_turn_keeps_the_match.{with_holding, turned_pair, turned_stands}
use Rattle.osi_pair.proofs.session.a_seat_is_its_progress_and_session.{session_of_seat, HasSession, transport_by}
use Rattle.osi_pair.proofs.flight.whether_something_is_cut_off.{Lasts}
use Rattle.osi_pair.proofs.flight.what_is_in_flight_when_an_end_acts.{BehindFirst}
use Rattle.osi_pair.proofs.flight.what_a_closing_receiver_has_dropped.{kind_of as message_kind}

-- what is proved of two carriers and of one end
pub record PacketLaws : Type 0 where
  pub two : CarrierLaws
  pub behind : (terms : Terms) (both : Both) (b : Between) → AreBetween terms both b → b.called.given ≤ b.caller.given
  pub roles : (terms : Terms) (both : Both) (b : Between) → AreBetween terms both b →
      (b.caller.is_caller ≡ true) × (b.called.is_caller ≡ false)
  pub sound : (e : End) (unit : Value) → IsSendable unit → e.carrier.ended ≡ None → IsAttended e → IsSound e → IsSound (after_unit e unit)
  pub came : (e : End) (unit : Value) → IsSendable unit → AllCameAbout e.lines → AllCameAbout (after_unit e unit).lines

-- After a packet that showed nothing, the two ends match these further deliveries.
pub record StandsBehind (s : Side) (p : TwoEnds) (t : Tables) (packet : List ℕ) (h : Held) : Type 0 where
  pub more : List Step
  pub are : AreDeliveries (side_in s) more
  pub now : Between
  pub end : End
  pub n : ℕ
  pub same : after_packet (end_at s p).end packet ≡ end
  pub lasts : end.carrier.ended ≡ None
  pub waits : waiting_in end.lines ≡ []
  pub local : end.carrier.local ≡ (end_at s p).end.carrier.local
  pub stands : Stands (turned_pair s end h n [] p) now (run t more)

-- ---- the end

pub lasting_in : (s : Side) (p : TwoEnds) (b : Between) (t : Tables) → Stands p b t → Lasts s p → end_of (side_in s) t ≡ None
lasting_in s p b t old alive = grind arith

pub quiet_of : (s : Side) (p : TwoEnds) (b : Between) (t : Tables) → Stands p b t → waiting_in (end_at s p).end.lines ≡ []
quiet_of s p b t old = grind arith

pub same_role : PacketLaws → (s : Side) (p : TwoEnds) (b : Between) (t : Tables) (e : End) (h : Held) (n : ℕ) → Stands p b t → Lasts s p →
    (d : DidAt s p b e h n) → e.carrier.ended ≡ None → e.carrier.is_caller ≡ (end_at s p).end.carrier.is_caller
same_role laws s p b t e h n old alive d lasts =
    grind (arith, last_is s p b e h n d lasts, was_at s p b t old alive, laws.roles _ _ d.now d.between, laws.roles _ _ b old.between)

-- ---- what the carrier did, at the end of a side

pub record ActsAt (s : Side) (p : TwoEnds) (packet : List ℕ) (u : Value) (n : ℕ) (row : Row) : Type 0 where
  pub acts : carriers.after_packet (end_at s p).end.carrier packet ≡ carrier_react u (end_at s p).end.carrier
  pub events : (carrier_react u (end_at s p).end.carrier).events ≡ told_for n row
  pub lasts : (carrier_react u (end_at s p).end.carrier).ended ≡ None
  pub local : (carrier_react u (end_at s p).end.carrier).local ≡ (end_at s p).end.carrier.local

pub acts_at : (s : Side) (p : TwoEnds) (b : Between) (packet : List ℕ) (h : Held) → (pa : PacketAt s p b packet h) →
    ActsAt s p packet pa.unit (reference_of pa.unit) pa.did.row
acts_at s p b packet h pa = grind arith

-- ---- by row

-- a session receives it
abbrev pub is_heard : Row → Bool
is_heard agrees = true
is_heard (denies reason) = true
is_heard (tells octets) = true
is_heard (leaves reason) = true
is_heard row = false

pub quiet_told : (n : ℕ) (row : Row) → told_for n row ≡ [] → is_heard row ≡ false
quiet_told n row e = grind arith

-- nothing of what is in flight arrives with it, and nothing is put
record IsQuietRow (row : Row) : Type 0 where
  none : arrived_in row ≡ []
  same : before row ≡ after row
  sends : (broken : Bool) (channel : List Message) → sends_then row broken channel ≡ channel

-- what a row is, in which a session does nothing, and none begins
abbrev RestsAs : Row → Type 0
RestsAs row = IsQuietRow row ⊎ (((reason : ℕ) × (row ≡ refuses reason))
    ⊎ (((m : carrier.Message) × (row ≡ ends m)) ⊎ ((octets : List ℕ) × (row ≡ ignores octets))))

-- and one that no session receives
abbrev Kind : Row → Type 0
Kind row = (row ≡ begins) ⊎ ((is_rest row ≡ true) × RestsAs row)

kind_of : (row : Row) → is_heard row ≡ false → Kind row
kind_of row e = grind arith

-- what follows if none begins
record IsRestRow (row : Row) (n : ℕ) : Type 0 where
  told : told_for n row ≡ []
  agree : is_agree row ≡ false
  stays : leaves_use (before row) (after row) ≡ false

-- ---- the packet

module _ (laws : PacketLaws) (s : Side) (p : TwoEnds) (b : Between) (t : Tables) (packet : List ℕ) (h : Held) (old : Stands p b t)
    (alive : Lasts s p) (pa : PacketAt s p b packet h) where
  -- its reference and its row, the end before and with these lines after it, and the line of the tables
  abbrev number : ℕ
  number = reference_of pa.unit

  abbrev row : Row
  row = pa.did.row

  abbrev was : End
  was = (end_at s p).end

  abbrev acted : Rows Line → End
  acted lines = acted_end pa.unit lines was

  abbrev at : FoundLine s number p b t
  at = line_at s number p b t old pa.first.named pa.first.given

  abbrev did : (lines : Rows Line) → DidAt s p b (acted lines) h number
  did lines = did_at s p b packet h lines pa

  abbrev acts : ActsAt s p packet pa.unit number row
  acts = acts_at s p b packet h pa

  -- they match these tables then, by the end's order, its sessions, and what is in flight each way
  pub took : (lines : Rows Line) (u : Tables) (shown : List Shown) (x : Standing) (channel back : List Message) →
      IsInOrder (acted lines) → waiting_in lines ≡ [] → OtherSessions s p (acted lines) number → HasSession number lines (after row) x →
      WaysThen s p b (acted lines) h number (did lines) x at.line.peer.session channel back →
      TablesAfter s number t u shown (line_then row x channel back at.line) →
      u.known ≡ option_map class_in (with_holding s (acted lines) h p).left.end.carrier.class →
      Stands (turned_pair s (acted lines) h number shown p) pa.did.now u
  took lines u shown x channel back order waits others has ways after_it known =
      let role = same_role laws s p b t (acted lines) h number old alive (did lines) acts.lasts in
      turned_stands s p b t (acted lines) h pa.did.now u number shown old alive
      (finish s p b t u (acted lines) h number shown at.line x channel back old alive (did lines) acts.lasts acts.local role pa.first.given
      (laws.behind _ _ pa.did.now (did lines).between) order waits others has at.is ways after_it known)

  -- if no CC has arrived, the class is known as before
  pub known_still : (lines : Rows Line) → is_agree row ≡ false →
      t.known ≡ option_map class_in (with_holding s (acted lines) h p).left.end.carrier.class
  known_still lines agree = known_then s p b t (acted lines) h number old alive (did lines) acts.lasts pa.first.given agree

  -- the end is in order then, if the packet leaves it these lines
  order_by : (lines : Rows Line) → after_packet was packet ≡ acted lines → RiseFrom 0 lines → IsInOrder (acted lines)
  order_by lines same rising =
      let heard : attends (carries_out pa.unit was) ≡ acted lines = sym (carried_out was packet pa.unit acts.acts) ∙ same in
      let order = order_of s p b t old alive in
      let sound = laws.sound was pa.unit pa.sendable alive (λ x. order.heard) (λ x. order.sound) in
      let came = laws.came was pa.unit pa.sendable order.came in
      grind (arith, acts.lasts)

  behind : (more : List Step) → AreDeliveries (side_in s) more → (lines : Rows Line) → after_packet was packet ≡ acted lines →
      waiting_in lines ≡ [] → Stands (turned_pair s (acted lines) h number [] p) pa.did.now (run t more) → StandsBehind s p t packet h
  behind more are lines same waits stands = record {
    more = more;
    are = are;
    now = pa.did.now;
    end = acted lines;
    n = number;
    same = same;
    lasts = acts.lasts;
    waits = waits;
    local = acts.local;
    stands = stands;
  }

  -- the tables when they took the first message, and no session acted
  record TookFirst (l : TableLine) (others : List Message) : Type 0 where
    tables : TablesAfter s number t (step t (delivers (side_in s) number (λ r. 0))) []
        (line_then row l.own.session (sends_then row t.broken l.own.channel) others l)
    known : (step t (delivers (side_in s) number (λ r. 0))).known ≡ t.known

  took_first : (got : carrier.Message) (first : Message) (others : List Message) → arrived_in row ≡ got ∷ [] → rests row ≡ true →
      at.line.peer.channel ≡ first ∷ others → message_kind (message_in first) ≡ message_kind got → TookFirst at.line others
  took_first got first others one resting parts kind =
      let l = at.line in
      let tr = transport_before s p b t (acted was.lines) h number l old alive (did was.lines) at.is in
      let line = line_then row l.own.session (sends_then row t.broken l.own.channel) others l in
      let known = learns t.terms l.own.transport first t.known in
      let turn = turn_rests (terms_at p) t.terms t.broken 0 row l first others got old.terms tr pa.did.is resting one kind in
      let is = step_opens t (side_in s) number (λ r. 0) l first others (unseen line) (lasting_in s p b t old alive) at.found parts turn
      refl in
      record {
        tables = grind (arith, tables_delivered s number (seen_from (side_in s) l) t known (unseen line) at.found);
        known = ap (λ (u : Tables). u.known) is ∙ learns_row row l.own.transport t.terms first t.known tr (grind arith);
      }

  -- ---- no session acts, and none begins

  pub session_before : HasSession number was.lines (before row) at.line.own.session
  session_before = session_of_seat number (end_at s p) at.line.own (before row)
      (ap (λ (c : State). progress_of (place_at number c)) (sym (was_at s p b t old alive)) ∙ pa.did.stood) at.is.here

  -- this is in flight to the end then
  abbrev BackThen : List Message → Type 0
  BackThen ms = Goes (other s) s number (with_holding s (acted was.lines) h p) pa.did.now (after row) at.line.own.session.state ms

  -- the tables took nothing of what is in flight, or the first message
  record TakesNone : Type 0 where
    same : before row ≡ after row
    sends : sends_then row t.broken at.line.own.channel ≡ at.line.own.channel
    back : BackThen at.line.peer.channel

  record TakesFirst : Type 0 where
    others : List Message
    back : BackThen others
    took : TookFirst at.line others

  at_rest : (more : List Step) (comes : List Message) → AreDeliveries (side_in s) more → is_rest row ≡ true → BackThen comes →
      TablesAfter s number t (run t more) []
      (line_then row at.line.own.session (sends_then row t.broken at.line.own.channel) comes at.line) → (run t more).known ≡ t.known →
      StandsBehind s p t packet h
  at_rest more comes are rest back tables known =
      let l = at.line in
      let is : IsRestRow row number = grind arith in
      let same = nothing_heard was packet pa.unit acts.acts (acts.events ∙ is.told) acts.lasts in
      let quiet = quiet_of s p b t old in
      behind more are was.lines same quiet
      (took was.lines (run t more) [] l.own.session (sends_then row t.broken l.own.channel) comes
      (order_by was.lines same (order_of s p b t old alive).rising) quiet (grind arith)
      (session_rests number was.lines row l.own.session rest session_before)
      (record { out = out_row s p b t (acted was.lines) h number l old (did was.lines) at.is is.stays alive; back = back }) tables
      (known ∙ known_still was.lines is.agree))

  resting_packet : is_rest row ≡ true → TakesNone ⊎ TakesFirst → StandsBehind s p t packet h
  resting_packet rest (inl x) =
      let l = at.line in
      let tr = transport_before s p b t (acted was.lines) h number l old alive (did was.lines) at.is in
      let line = ap (λ (ms : List Message). line_then row l.own.session ms l.peer.channel l) x.sends
      ∙ line_same row l (tr ∙ ap transport_by x.same) in
      at_rest [] l.peer.channel tt rest x.back
      (subst (λ (m : TableLine). TablesAfter s number t t [] m) (sym line) (grind (arith, append-nil))) refl
  resting_packet rest (inr x) =
      at_rest (delivers (side_in s) number (λ r. 0) ∷ []) x.others (refl, tt) rest x.back x.took.tables x.took.known

  -- what has been joined then, if the connection is closing; and its session takes data, whatever comes before it
  held_then : (begun : Option (List ℕ)) → before row ≡ shutting → HasJoined number (end_at s p) begun
  held_then begun shuts =
      over_holds s p number (before row) at.line.own.session begun (order_of s p b t old alive) session_before
      (ap (λ (g : Progress). is_parting (transport_by g)) shuts)

  calm_then : (ms : List Message) → before row ≡ shutting → StaysCalm at.line.own.session.state ms
  calm_then ms shuts =
      over_stays at.line.own.session ms (session_before.over_now (ap (λ (g : Progress). is_parting (transport_by g)) shuts))

  -- what is in flight after the first message
  abbrev AfterFirst : Message → List Message → Type 0
  AfterFirst first others =
      BehindFirst (after row) (is_cut (is_caller (other s)) (carriers_of (with_holding s (acted was.lines) h p))) None
      (after_message at.line.own.session.state first) others
      (under_way (is_caller (other s)) number (carriers_of (with_holding s (acted was.lines) h p)) pa.did.now)

  takes_first : (got : carrier.Message) (first : Message) (others : List Message) → arrived_in row ≡ got ∷ [] → rests row ≡ true →
      at.line.peer.channel ≡ first ∷ others → message_kind (message_in first) ≡ message_kind got → AfterFirst first others →
      HasJoined number (end_at s p) None →
      (StaysCalm (after_message at.line.own.session.state first) others → StaysCalm at.line.own.session.state others) → TakesFirst
  takes_first got first others one resting parts kind stays held calms = record {
    others = others;
    back = back_then s p pa.did.now (acted was.lines) h number (after row) None (after_message at.line.own.session.state first)
        at.line.own.session.state others stays held calms;
    took = took_first got first others one resting parts kind;
  }

  takes_by : RestsAs row → TakesNone ⊎ TakesFirst
  takes_by (inl q) = inl (record {
    same = q.same;
    sends = q.sends t.broken at.line.own.channel;
    back = back_none s p b (acted was.lines) h number at.line (did was.lines) at.is alive q.none q.same (λ y kept. kept);
  })
  takes_by (inr (inl is)) =
      let sp = back_alone s p b (acted was.lines) h number at.line carrier.ask (did was.lines) at.is alive (ap arrived_in is.1) refl in
      inr (takes_first carrier.ask sp.first sp.others (ap arrived_in is.1) (ap rests is.1) sp.parts sp.kind sp.stays
      (sp.alone.held (grind arith)) (λ calm. subst (λ (x : SessionState). StaysCalm x sp.others) (grind arith) calm))
  takes_by (inr (inr (inl is))) =
      let shuts : before row ≡ shutting = ap before is.1 in
      let sp = back_alone s p b (acted was.lines) h number at.line is.0 (did was.lines) at.is alive (ap arrived_in is.1) (grind arith) in
      inr (takes_first is.0 sp.first sp.others (ap arrived_in is.1) (ap rests is.1) sp.parts sp.kind sp.stays (held_then None shuts)
      (λ calm. calm_then sp.others shuts))
  takes_by (inr (inr (inr is))) =
      let shuts : before row ≡ shutting = ap before is.1 in
      elim (back_one s p b (acted was.lines) h number at.line (carrier.message is.0) (did was.lines) at.is alive (ap arrived_in is.1)) [
        | inl sp ↦ inr (takes_first (carrier.message is.0) sp.first sp.others (ap arrived_in is.1) (ap rests is.1) sp.parts sp.kind sp.stays
            (held_then None shuts) (λ calm. calm_then sp.others shuts))
        | inr sp ↦ inl (record {
          same = ap before is.1 ∙ sym (ap after is.1);
          sends = ap (λ (r : Row). sends_then r t.broken at.line.own.channel) is.1;
          back = back_then s p pa.did.now (acted was.lines) h number (after row) (Some sp.now) at.line.own.session.state
              at.line.own.session.state at.line.peer.channel sp.stays (held_then (Some sp.now) shuts) (λ calm. calm);
        })
      ]

  -- ---- a session begins

  begins_packet : row ≡ begins → StandsBehind s p t packet h
  begins_packet begun =
      let lines = begun_lines s p pa.unit number in
      let live = (told_all pa.unit was).carrier.live in
      let l = at.line in
      let order = order_of s p b t old alive in
      let above : was.carrier.given < number = grind (arith, was_at, before) in
      let none : value_at number was.lines ≡ None = beyond number was.carrier.given was.lines order.sound.known above in
      let told : (carrier_react pa.unit was.carrier).events ≡ opened number ∷ [] = acts.events ∙ ap (told_for number) begun in
      let same : after_packet was packet ≡ acted lines =
      one_told was packet pa.unit (opened number) acts.acts told
      ∙ ap (λ (o : Option Line). concludes (opens number o (told_all pa.unit was))) none
      ∙ lasting (joins number awaits (told_all pa.unit was)) acts.lasts in
      let waits = begun_waits number awaits live was.lines (quiet_of s p b t old) in
      let rising = rise_joins was.carrier.given number awaits (told_all pa.unit was) above order.sound.known order.rising in
      let lives : is_some (value_at number (acted lines).carrier.live) ≡ true = grind arith in
      let one : arrived_in row ≡ carrier.ask ∷ [] = ap arrived_in begun in
      let sp = back_alone s p b (acted lines) h number l carrier.ask (did lines) at.is alive one refl in
      let tr = transport_before s p b t (acted lines) h number l old alive (did lines) at.is in
      let session : l.own.session ≡ tables.awaits = at.is.here.awaiting (tr ∙ ap (λ (r : Row). transport_by (before r)) begun) in
      let first = took_first carrier.ask sp.first sp.others one (ap rests begun) sp.parts sp.kind in
      behind (delivers (side_in s) number (λ r. 0) ∷ []) (refl, tt) lines same waits
      (took lines (step t (delivers (side_in s) number (λ r. 0))) [] l.own.session (sends_then row t.broken l.own.channel) sp.others
      (order_by lines same rising) waits
      (record {
        sessions = λ q apart lives. (ap session_in (used_live q live (joined number awaits was.lines) lives
            ∙ push_other q number (fresh_line awaits) was.lines apart));
        kept = λ q apart x kept. begun_kept number q awaits live was.lines x apart none order.sound.apart kept;
      })
      (grind (arith, after, used_live, push_here))
      (record {
        out = out_row s p b t (acted lines) h number l old (did lines) at.is
            (ap (λ (r : Row). leaves_use (before r) (after r)) begun) alive;
        back = back_then s p pa.did.now (acted lines) h number (after row) None
            (after_message l.own.session.state sp.first) l.own.session.state sp.others sp.stays
            (λ y kept. (let two : Some awaits ≡ Some y = sym (grind (arith, used_live, push_here)) ∙ kept in grind arith))
            (λ calm. subst (λ (x : SessionState). StaysCalm x sp.others) (grind arith) calm);
      })
      first.tables (first.known ∙ known_still lines (ap is_agree begun)))

  by_kind : Kind row → StandsBehind s p t packet h
  by_kind (inl begun) = begins_packet begun
  by_kind (inr rest) = resting_packet rest.0 (takes_by rest.1)

  -- a packet that no session receives
  pub unheard_packet : is_heard row ≡ false → StandsBehind s p t packet h
  unheard_packet e = by_kind (kind_of row e)

pub both_carrier : (s : Side) (p : TwoEnds) → (side (is_caller s) (carriers_of p)).state ≡ (end_at s p).end.carrier
both_carrier s p = grind arith

pub terms_then : (s : Side) (p : TwoEnds) (a : End) (h : Held) → a.carrier.local ≡ (end_at s p).end.carrier.local →
    terms_at (with_holding s a h p) ≡ terms_at p
terms_then s p a h e = grind arith
