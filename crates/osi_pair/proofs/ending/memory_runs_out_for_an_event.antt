-- Memory runs out for the events of an end's carrier: the state of two ends then, by what arrived.
-- For packets and the laws of `standing`.
use Rattle.osi_between.specs.Messages as carrier
use Rattle.osi_machine.specs.Core as machine
use Rattle.osi_machine.specs.Machine.{Entry}
use Rattle.osi_machine.specs.Tables.{hears}
use Rattle.osi_machine.specs.Worlds as worlds
use Rattle.osi_pair.proofs.Vocabulary.{◌≡◌, ℕ, Bool, false, List, [], ◌∷◌, ◌++◌, map, take, None, IfSome, option_map, class_in}
use Rattle.osi_pair.proofs.Vocabulary.{list_any-append, refl, sym, ap, subst, ◌∙◌, ◌⊎◌, inl, inr, arith, append-nil, Held, IsPacket}
use Rattle.osi_pair.proofs.Vocabulary.{place_at, Happening, NoMemory, State, reference_of, Between, last_of, progress_of, leaves_use}
use Rattle.osi_pair.proofs.Vocabulary.{IsTableRun, LosesAsItEnds, delivers, learns, shown_at, is_given, Line, Turn, Tables, awaits}
use Rattle.osi_pair.proofs.Vocabulary.{seen_from, end_of, step, unseen, puts, shortened, without_first, message_taken, Message, over, put}
use Rattle.osi_pair.proofs.Vocabulary.{replied, IsInOctets, Standing, opened, broken as broken_off, begun, react, Shown, Starves, told_all}
use Rattle.osi_pair.proofs.Vocabulary.{IsUnderWay, IsSeated, End, TwoEnds, end_at, other, side_in, is_caller, carriers_of, message_in}
use Rattle.osi_pair.proofs.Vocabulary.{Stands, Goes, Side, ◌≢◌, ◌≤◌, length, Some, ◌<◌, Seat, transport_in, HasLine}
use Rattle.osi_pair.proofs.turn.what_an_acting_end_leaves_in_flight.{run_behind, number_one}
use Rattle.osi_pair.proofs.packet.when_a_session_replies_or_closes.{opened_stays}
use Rattle.osi_pair.proofs.flight.a_taken_packet_is_one_row.{packet_acts}
use Rattle.osi_pair.proofs.flight.who_receives_what_is_in_flight.{TakeLaws, takes_from, TakesFrom}
use Rattle.osi_pair.proofs.ending.an_end_of_an_end_is_the_machines.{EndingLine, lost_end, all_shown_then, whole_line, MayEnd}
use Rattle.osi_pair.proofs.ending.a_connection_ends_with_its_end.{IsPlaced, given_place}
use Rattle.osi_pair.proofs.turn.what_remains_when_a_unit_was_taken.{terms_at, TablesAfter, DidAt, line_then, is_agree, order_of, known_then}
use Rattle.osi_pair.proofs.turn.what_remains_when_a_unit_was_taken.{PacketAt, last_is, was_at, given_after}
use Rattle.osi_pair.proofs.packet.the_class_is_known.{moved_known}
use Rattle.osi_pair.proofs.ending.all_sessions_are_lost_in_order.{ended_shows, loss_shown}
use Rattle.osi_pair.proofs.packet.a_session_makes_its_move.{turn_then}
use Rattle.osi_pair.proofs.packet.a_packet_is_one_delivery_or_none.{PacketLaws, acts_at, both_carrier, lasting_in, same_role}
use Rattle.osi_pair.proofs.packet.a_unit_at_rest_keeps_the_match.{FoundLine, acted_end, did_at, same_row, line_at, transport_before}
use Rattle.osi_pair.proofs.packet.a_unit_at_rest_keeps_the_match.{out_row, back_alone}
use Rattle.osi_pair.proofs.packet.a_unit_with_which_no_session_acts.{step_opens, delivered, tables_delivered, is_awaited, learns_row}
use Rattle.osi_pair.proofs.packet.a_unit_with_which_no_session_acts.{turn_rests, rests, sends_then, unless_broken, put_unless}
use Rattle.osi_pair.proofs.flight.what_may_arrive_row_by_row.{Row, begins, agrees, leaves, before, after, arrived_in, told_for}
use Rattle.osi_pair.proofs.session.a_seat_is_its_progress_and_session.{transport_by, transport_at}
use Rattle.osi_pair.proofs.session.a_reply_can_be_sent.{ended_broken, silent_broken, goes_broken}
use Rattle.osi_pair.proofs.turn.all_is_shown.{StandsShown}
use Rattle.osi_pair.proofs.turn.a_turn_keeps_the_match.{with_holding, still_seated, seen, seen_twice, LinesAfter, out_there}
use Rattle.osi_pair.proofs.ending.want_of_memory_is_an_end.{out_shown, ended_shown, says_then, WantLaws, has_starved}
use Rattle.osi_pair.proofs.packet.a_disconnect_loses_the_session.{out_leaves}
use Rattle.osi_pair.proofs.flight.whether_something_is_cut_off.{Lasts, this_or_other}
use Rattle.osi_pair.proofs.flight.what_is_in_flight_when_an_end_acts.{way_same}
use Rattle.osi_pair.proofs.flight.what_a_closing_receiver_has_dropped.{kind_of}

-- ---- the connections of an end whose carrier acted for a unit that no session receives

-- the one for which it acted
placed_then : (s : Side) (p : TwoEnds) (b : Between) (e : End) (h : Held) (n : ℕ) (seat : Seat) → (d : DidAt s p b e h n) →
    e.carrier.ended ≡ None → is_given seat.transport ≡ is_given (transport_by (after d.row)) →
    (seat.transport ≡ worlds.not_yet → seat.session ≡ awaits) → IfSome seat.session.waiting IsInOctets → IsPlaced n e.carrier seat
placed_then s p b e h n seat d lasts same awaiting octets =
    grind (arith, transport_at, after d.row, last_is s p b e h n d lasts, given_place n e.carrier)

-- all others
other_ending : (s : Side) (p : TwoEnds) (b : Between) (t u : Tables) (e : End) (h : Held) (n q : ℕ) (line : Line) → Stands p b t →
    Lasts s p → (d : DidAt s p b e h n) → e.carrier.ended ≡ None → q ≢ n → LinesAfter s n line t u → HasLine q p b t →
    EndingLine s p u e h d.now q
other_ending s p b t u e h n q line old alive d lasts apart a has =
    let l = seen_from (side_in s) has.line in
    let i = seen s q p b has.line has.is in
    let place : place_at q (end_at s p).end.carrier ≡ place_at q e.carrier =
    ap (place_at q) (sym (was_at s p b t old alive)) ∙ sym (d.other_places q apart) ∙ ap (place_at q) (last_is s p b e h n d lasts) in
    whole_line s p u e h d.now q l (a.others q apart ∙ has.found ∙ ap (λ (x : Line). Some x) (sym (seen_twice (side_in s) has.line)))
    (record {
      given = ap is_given i.here.transport ∙ ap (λ x. is_given (transport_in x)) place ∙ given_place q e.carrier;
      awaiting = i.here.awaiting;
      octets = i.here.octets;
    }) i.there
    (out_there s p d.now e h q (progress_of (place_at q (last_of (is_caller (other s)) d.now))) l.peer.session.state l.own.channel
    (grind (arith, way_same, with_holding s e h p, d.there q, d.others q apart (is_caller s))))

-- ---- it may end

acted_may_end : PacketLaws → (s : Side) (p : TwoEnds) (b : Between) (t u : Tables) (packet : List ℕ) (h : Held) (line : Line) →
    Stands p b t → Lasts s p → (pa : PacketAt s p b packet h) →
    (d : DidAt s p b (acted_end pa.unit (end_at s p).end.lines (end_at s p).end) h (reference_of pa.unit)) →
    TablesAfter s (reference_of pa.unit) t u [] line →
    EndingLine s p u (acted_end pa.unit (end_at s p).end.lines (end_at s p).end) h d.now (reference_of pa.unit) →
    u.known ≡ option_map class_in (with_holding s (acted_end pa.unit (end_at s p).end.lines (end_at s p).end) h p).left.end.carrier.class →
    TakesFrom s u → MayEnd s p t u (acted_end pa.unit (end_at s p).end.lines (end_at s p).end) h d.now
acted_may_end laws s p b t u packet h line old alive pa d a l known takes =
    let n = reference_of pa.unit in
    let e = acted_end pa.unit (end_at s p).end.lines (end_at s p).end in
    let f = acts_at s p b packet h pa in
    let g = given_after s p b t e h n old alive d f.lasts pa.first.given (laws.behind _ _ d.now d.between) in
    let role = same_role laws s p b t e h n old alive d f.lasts in
    let journal = a.journal ∙ append-nil t.journal in
    let lines : (q : ℕ) → 0 < q → q ≤ length t.lines → EndingLine s p u e h d.now q =
    λ q some le. this_or_other n q (λ m. EndingLine s p u e h d.now m) l
    (λ apart. other_ending s p b t u e h n q line old alive d f.lasts apart a.lines (old.lines q some le)) in
    search

-- ---- what the tables say of the other side

-- after one more delivery, tables that are reached are still reached
pub run_more : (t u : Tables) (who : machine.Side) (n : ℕ) (cut : ℕ → ℕ) → step t (delivers who n cut) ≡ u → IsTableRun t → IsTableRun u
run_more t u who n cut is run = grind (arith, run_behind, number_one run.steps (delivers who n cut) run.numbered tt)

-- ---- the tables take nothing

record IsLone (row : Row) : Type 0 where
  given : is_given (transport_by (before row)) ≡ is_given (transport_by (after row))
  agree : is_agree row ≡ false
  stays : leaves_use (before row) (after row) ≡ false
  sends : (broken : Bool) (channel : List Message) → sends_then row broken channel ≡ channel

-- ---- a CC: the session sends its CN, which the end takes away

-- it indicates nothing, then nor later, and what waits can be written
opened_is : (x : Standing) → ((react x opened).shown ≡ [])
    × ((react (react x opened).next broken_off).shown ≡ (react x broken_off).shown)
    × (IfSome x.waiting IsInOctets → IfSome (react x opened).next.waiting IsInOctets)
unfolding react
opened_is x = grind arith

-- ---- a DR that closes: a DC is put in answer

-- what the tables do
abbrev left_turn : Bool → ℕ → Line → Turn
left_turn broken keep l = record {
  line = puts broken (over ∷ []) (hears broken worlds.gone broken_off (shortened keep l)).line;
  shown = (react l.own.session broken_off).shown;
  closes = false;
}

turn_leaves : (broken : Bool) (terms : worlds.Terms) (keep reason : ℕ) (tr : worlds.Transport) (l : Line) (m : Message) →
    tr ≡ worlds.linked → kind_of (message_in m) ≡ carrier.bye reason → message_taken broken terms keep tr l m ≡ left_turn broken keep l
turn_leaves broken terms keep reason tr l m e f = grind arith

-- a side that has not ended has received no loss
abbrev pub LosesLate : Type 0
LosesLate = (t : Tables) → IsTableRun t → LosesAsItEnds t

none_lost : (who : machine.Side) (n : ℕ) (x : Standing) (u : Tables) (es : List Entry) → LosesAsItEnds u → end_of who u ≡ None →
    u.journal ≡ es ++ map (shown_at who n) (react x broken_off).shown → (react x broken_off).shown ≡ []
none_lost who n x u es law none says = grind (arith, loss_shown x, list_any-append)

-- ---- the end of a side whose carrier took a packet

module _ (laws : PacketLaws) (takes : TakeLaws) (s : Side) (p : TwoEnds) (b : Between) (t : Tables) (packet : List ℕ) (h held : Held)
    (old : Stands p b t) (run : IsTableRun t) (alive : Lasts s p) (pa : PacketAt s p b packet h) where
  abbrev ref : ℕ
  ref = reference_of pa.unit

  abbrev acted : End
  acted = acted_end pa.unit (end_at s p).end.lines (end_at s p).end

  abbrev did : DidAt s p b acted h (ref)
  did = did_at s p b packet h (end_at s p).end.lines pa

  abbrev found : FoundLine s (ref) p b t
  found = line_at s (ref) p b t old pa.first.named pa.first.given

  abbrev OutShown : Type 0
  OutShown = StandsShown s p t (lost_end NoMemory acted.carrier (end_at s p).end.lines) held

  lasts_then : acted.carrier.ended ≡ None
  lasts_then = (acts_at s p b packet h pa).lasts

  stood : found.line.own.transport ≡ transport_by (before did.row)
  stood = transport_before s p b t acted h (ref) found.line old alive did found.is

  known_still : is_agree did.row ≡ false → t.known ≡ option_map class_in (with_holding s acted h p).left.end.carrier.class
  known_still = known_then s p b t acted h (ref) old alive did lasts_then pa.first.given

  -- It ends after one delivery, in which the tables make this turn; what that puts, the end takes away.
  out_then : (keep : ℕ) (first : Message) (others kept more : List Message) (turn : Turn) → found.line.peer.channel ≡ first ∷ others →
      message_taken t.broken t.terms keep found.line.own.transport (without_first found.line others) first ≡ turn → turn.closes ≡ false →
      ((u : Tables) → IsTableRun u → end_of (side_in s) u ≡ None →
      u.journal ≡ t.journal ++ map (shown_at (side_in s) (ref)) turn.shown → turn.shown ≡ []) →
      IsPlaced (ref) acted.carrier turn.line.own → IsSeated (ref) (end_at (other s) p) turn.line.peer →
      turn.line.own.channel ≡ kept ++ more → (is_given turn.line.own.transport ≡ false → more ≡ []) →
      IsUnderWay s (other s) (ref) (with_holding s acted h p) did.now (record turn.line.own { channel = kept })
      turn.line.peer →
      learns t.terms found.line.own.transport first t.known ≡ option_map class_in (with_holding s acted h p).left.end.carrier.class →
      (turn.shown ≡ [] → (react turn.line.own.session broken_off).shown ≡ (react found.line.own.session broken_off).shown) → OutShown
  out_then keep first others kept more turn parts taken stays quiet here there sent whole out known shows =
      let lasting = lasting_in s p b t old alive in
      let u = delivered t (side_in s) ref (learns t.terms found.line.own.transport first t.known) turn in
      let is : step t (delivers (side_in s) ref (λ r. keep)) ≡ u =
      step_opens t (side_in s) ref (λ r. keep) found.line first others turn lasting found.found parts taken stays in
      let run_now = run_more t u (side_in s) ref (λ r. keep) is run in
      let all = tables_delivered s ref (seen_from (side_in s) found.line) t (learns t.terms found.line.own.transport first t.known) turn
      found.found in
      let none = quiet u run_now ((grind arith) ∙ lasting) all.journal in
      let a : TablesAfter s ref t u [] turn.line = subst (λ (shown : List Shown). TablesAfter s ref t u shown turn.line) none all in
      let ending : EndingLine s p u acted h did.now ref = record {
        line = turn.line;
        found = a.lines.found;
        here = here;
        there = there;
        kept = kept;
        more = more;
        parts = sent;
        whole = whole;
        out = out;
      } in
      let m = acted_may_end laws s p b t u packet h turn.line old alive pa did a ending known (takes_from takes s u run_now) in
      out_shown s p b t u acted h did.now (end_at s p).end.lines held (delivers (side_in s) ref (λ r. keep) ∷ []) old m
      (says_then s ref turn.line found.line t u _ _ a.lines found.found (shows none) (all_shown_then s p b t old alive)) lasting is
      (λ keep. (refl, (refl, refl, refl)))

  -- the tables take nothing
  lone_shown : IsLone pa.did.row → OutShown
  lone_shown lone =
      let q = subst IsLone (sym (same_row s p b packet h (end_at s p).end.lines pa)) lone in
      let l = found.line in
      let at = found.is in
      let line = whole_line s p t acted h did.now ref l found.found
      (placed_then s p b acted h ref l.own did lasts_then (ap is_given stood ∙ q.given) at.here.awaiting at.here.octets) at.there
      (grind (arith, with_holding s acted h p, q.sends t.broken l.own.channel, out_row s p b t acted h ref l old did at q.stays alive)) in
      let m = acted_may_end laws s p b t t packet h l old alive pa did (grind (arith, append-nil)) line (known_still q.agree)
      (takes_from takes s t run) in
      out_shown s p b t t acted h did.now (end_at s p).end.lines held [] old m (all_shown_then s p b t old alive)
      (lasting_in s p b t old alive) refl (λ keep. (refl, refl, refl))

  -- a session begins
  begins_shown : pa.did.row ≡ begins → OutShown
  begins_shown begun =
      let row : did.row ≡ begins = same_row s p b packet h (end_at s p).end.lines pa ∙ begun in
      let l = found.line in
      let at = found.is in
      let one : arrived_in did.row ≡ carrier.ask ∷ [] = ap arrived_in row in
      let sp = back_alone s p b acted h ref l carrier.ask did at alive one refl in
      let line = line_then did.row l.own.session (sends_then did.row t.broken l.own.channel) sp.others l in
      let session : l.own.session ≡ awaits = at.here.awaiting (stood ∙ ap (λ (r : Row). transport_by (before r)) row) in
      out_then 0 sp.first sp.others line.own.channel [] (unseen line) sp.parts
      (turn_rests (terms_at p) t.terms t.broken 0 did.row l sp.first sp.others carrier.ask old.terms stood did.is (ap rests row) one
      sp.kind) refl (λ u reached lasts says. refl)
      (placed_then s p b acted h ref line.own did lasts_then refl (λ x. session) at.here.octets)
      (still_seated ref (end_at (other s) p) l.peer sp.others at.there) (sym (append-nil line.own.channel)) (λ x. refl)
      (out_row s p b t acted h ref l old did at (ap (λ (r : Row). leaves_use (before r) (after r)) row) alive)
      (learns_row did.row l.own.transport t.terms sp.first t.known stood (ap is_awaited row) ∙ known_still (ap is_agree row)) (λ none. refl)

  -- a CC: the session sends its CN, which the end takes away
  agrees_shown : pa.did.row ≡ agrees → OutShown
  agrees_shown agreed =
      let row : did.row ≡ agrees = same_row s p b packet h (end_at s p).end.lines pa ∙ agreed in
      let l = found.line in
      let at = found.is in
      let x = l.own.session in
      let sp = back_alone s p b acted h ref l carrier.agree did at alive (ap arrived_in row) refl in
      let tr : l.own.transport ≡ transport_by (before agrees) = stood ∙ ap (λ (r : Row). transport_by (before r)) row in
      let alike : kind_of (message_in sp.first) ≡ carrier.agree = sp.kind in
      let turn = turn_then agrees opened t.broken (react x opened).reply x l.own.channel sp.others l in
      let more = unless_broken t.broken (replied (react x opened).reply) in
      out_then 0 sp.first sp.others l.own.channel more turn sp.parts
      (grind arith) (opened_stays x) (λ u reached lasts says. (opened_is x).0)
      (placed_then s p b acted h ref turn.line.own did lasts_then (ap (λ (r : Row). is_given (transport_by (after r))) (sym row)) (λ y. cc)
      ((opened_is x).2 at.here.octets)) (still_seated ref (end_at (other s) p) l.peer sp.others at.there)
      (put_unless t.broken (replied (react x opened).reply) l.own.channel) (λ y. cc)
      (subst (λ (r : Row). Goes s (other s) ref (with_holding s acted h p) did.now
      (progress_of (place_at ref (last_of (is_caller (other s)) did.now))) l.peer.session.state (sends_then r t.broken l.own.channel)) row
      (out_row s p b t acted h ref l old did at (ap (λ (r : Row). leaves_use (before r) (after r)) row) alive))
      (moved_known s p b t acted h ref l sp.first pa.unit agrees old alive did lasts_then pa.first pa.first.given row (inl refl) tr alike)
      (λ none. (opened_is x).1)

  -- a DR that closes: a DC is put in answer
  leaves_shown : LosesLate → (reason : ℕ) → pa.did.row ≡ leaves reason → OutShown
  leaves_shown late reason left =
      let row : did.row ≡ leaves reason = same_row s p b packet h (end_at s p).end.lines pa ∙ left in
      let l = found.line in
      let at = found.is in
      let x = l.own.session in
      let sp = back_alone s p b acted h ref l (carrier.bye reason) did at alive (ap arrived_in row) refl in
      let tr : l.own.transport ≡ worlds.linked = stood ∙ ap (λ (r : Row). transport_by (before r)) row in
      let out = out_leaves s p b t acted h ref reason l old did row at (takes_from takes s t run ref l found.found) in
      let turn = left_turn t.broken out.keep (without_first l sp.others) in
      out_then out.keep sp.first sp.others (put t.broken (over ∷ []) (take out.keep l.own.channel)) [] turn sp.parts
      (turn_leaves t.broken t.terms out.keep reason l.own.transport (without_first l sp.others) sp.first tr sp.kind) refl
      (λ u reached lasts says. none_lost (side_in s) ref x u t.journal (late u reached) lasts says)
      (placed_then s p b acted h ref turn.line.own did lasts_then (ap (λ (r : Row). is_given (transport_by (after r))) (sym row)) (λ y. cc)
      (goes_broken x at.here.octets).octets)
      (still_seated ref (end_at (other s) p) l.peer sp.others at.there) (grind (arith, react, silent_broken, put_unless, append-nil))
      (λ y. refl) out.way
      (learns_row did.row l.own.transport t.terms sp.first t.known stood (ap is_awaited row) ∙ known_still (ap is_agree row))
      (λ none. ended_shows (react x broken_off).next (ended_broken x) ∙ sym none)

-- ---- by row

abbrev TellsOne : ℕ → Row → Type 0
TellsOne n row = IsLone row ⊎ ((row ≡ begins) ⊎ ((row ≡ agrees) ⊎ ((reason : ℕ) × (row ≡ leaves reason))))

tells_one : (n : ℕ) (row : Row) (x : Happening) → told_for n row ≡ x ∷ [] → TellsOne n row
tells_one n row x e = grind arith

pub record StarveLaws : Type 0 where
  pub packet : PacketLaws
  pub want : WantLaws
  pub late : LosesLate
  pub takes : TakeLaws

unheard_shown : StarveLaws → (s : Side) (p : TwoEnds) (b : Between) (t : Tables) (packet : List ℕ) (h held : Held) → Stands p b t →
    IsTableRun t → Lasts s p → (pa : PacketAt s p b packet h) → TellsOne (reference_of pa.unit) pa.did.row →
    StandsShown s p t (lost_end NoMemory (told_all pa.unit (end_at s p).end).carrier (end_at s p).end.lines) held
unheard_shown laws s p b t packet h held old run alive pa (inl q) =
    lone_shown laws.packet laws.takes s p b t packet h held old run alive pa q
unheard_shown laws s p b t packet h held old run alive pa (inr (inl q)) =
    begins_shown laws.packet laws.takes s p b t packet h held old run alive pa q
unheard_shown laws s p b t packet h held old run alive pa (inr (inr (inl q))) =
    agrees_shown laws.packet laws.takes s p b t packet h held old run alive pa q
unheard_shown laws s p b t packet h held old run alive pa (inr (inr (inr q))) =
    leaves_shown laws.packet laws.takes s p b t packet h held old run alive pa laws.late q.0 q.1

-- Memory runs out for the effect of a packet: the tables take what arrived if it was answered, and then the end of the
-- side.
pub starved_shown : StarveLaws → (s : Side) (p : TwoEnds) (b : Between) (t : Tables) (packet octets : List ℕ) (h held : Held) (new : End) →
    Stands p b t → IsTableRun t → Lasts s p → IsPacket packet octets → (end_at s p).held.octets ≡ octets ++ h.octets →
    Starves (end_at s p).end packet new → StandsShown s p t new held
starved_shown laws s p b t packet octets h held new old run alive is cut x =
    let c = both_carrier s p in
    let pa = packet_acts laws.packet.two (terms_at p) (is_caller s) (carriers_of p) b packet octets h.octets old.between
    (ap (λ (y : State). y.ended) c ∙ alive)
    (ap (λ (y : State). y.events) c ∙ (order_of s p b t old alive).heard) is ((grind arith) ∙ cut) in
    elim (has_starved laws.want s p b t packet octets h new old alive is cut pa x) [
      | inl nothing ↦ grind (arith, ended_shown s p b t held old (takes_from laws.takes s t run) alive, takes_from laws.takes s t run)
      | inr some ↦ subst (λ (e : End). StandsShown s p t e held) (sym some.is)
          (unheard_shown laws s p b t packet h held old run alive pa (tells_one (reference_of pa.unit) pa.did.row some.event some.one))
    ]
