-- One packet leads to at most 81 pending indications: 17 of one TSDU, and a loss for each of 64 connections.
-- For carries.
use Rattle.osi_session.specs.Listening.{Input, Move, begun, denied, rests, react}
use Rattle.osi_session.specs.Listening as inputs
use Rattle.osi_spdu.specs.Reading.{behind_at, tsdu_at}
use Rattle.osi_stack.specs.Moving.{noted}
use Rattle.osi_pair.proofs.Vocabulary.{put_same, ◌≡◌, ℕ, suc, ◌+◌, ◌≤◌, inl, inr, Bool, true, false, if◌then◌else◌, List, [], ◌∷◌, ◌++◌}
use Rattle.osi_pair.proofs.Vocabulary.{length, nat_lt, Option, Some, None, is_some, IsSome, Result, Ok, Err, refl, sym, ap, subst, ◌∙◌}
use Rattle.osi_pair.proofs.Vocabulary.{arith, words_show, ◌>>=◌, Next, Placed, next_at, unit_at, continued, category_of, Category}
use Rattle.osi_pair.proofs.Vocabulary.{SpduFault, EndLine as Line, eqb-true, eq-eqb, length-append, length-map, Held, IsPacket, Value}
use Rattle.osi_pair.proofs.Vocabulary.{never, was_given, place_at, Happening, tsdu, closed, RiseFrom, Rows, value_at, Connection}
use Rattle.osi_pair.proofs.Vocabulary.{State as Carrier, NoMemory, put_other, put_rise, reference_of, Between, progress_of, Tables, said_at}
use Rattle.osi_pair.proofs.Vocabulary.{said_if_read, Words, Listener, came, came_as, is_wait_transport, respond_fault, Shown, Units}
use Rattle.osi_pair.proofs.Vocabulary.{after_packet, concludes, hears, all_lost, opens, Starves, told_all, line_by, by_line, End, TwoEnds}
use Rattle.osi_pair.proofs.Vocabulary.{end_at, Stands, waiting_in, Side, told_opened as opened, told_refused as refused, put_row as put}
use Rattle.osi_pair.proofs.Vocabulary.{SessionState as State}
use Rattle.osi_pair.proofs.packet.a_request_begins_a_session.{begun_waits}
use Rattle.osi_pair.proofs.turn.what_remains_when_a_unit_was_taken.{order_of, was_at, PacketAt}
use Rattle.osi_pair.proofs.packet.an_end_handles_its_carriers_events.{one_told, lasting}
use Rattle.osi_pair.proofs.ending.all_sessions_are_lost_in_order.{loss_heard, lost_of, lost_in, AreLive, few_lost, all_live}
use Rattle.osi_pair.proofs.packet.a_packet_is_one_delivery_or_none.{PacketLaws, acts_at, is_heard, unheard_packet, quiet_of}
use Rattle.osi_pair.proofs.carry.packets_are_taken_in_turn.{FewWait}
use Rattle.osi_pair.proofs.session.an_end_with_nothing_pending.{of_one, put_waits}
use Rattle.osi_pair.proofs.flight.what_may_arrive_row_by_row.{Row, quiet, agrees, denies, tells, leaves, told_for, before}
use Rattle.osi_pair.proofs.session.a_seat_is_its_progress_and_session.{lives_in}
use Rattle.osi_pair.proofs.packet.a_packet_is_taken.{packet_at, tables_at}
use Rattle.osi_pair.proofs.flight.whether_something_is_cut_off.{Lasts}
use Rattle.osi_pair.proofs.turn.what_an_acting_end_leaves_in_flight.{of_end}
use Rattle.osi_pair.proofs.ending.an_end_of_an_end_is_the_machines.{all_seated}
use Rattle.osi_pair.proofs.ending.want_of_memory_is_an_end.{WantLaws, has_starved}

-- ---- how many units a TSDU has

-- if the units of a TSDU are read, there are at most this many
abbrev FewIn : ℕ → Result Units SpduFault → Type 0
FewIn n (Ok us) = length us ≤ n
FewIn n (Err fault) = Unit {0}

few_next : (n : ℕ) (r : Result Next SpduFault) → ((next : Next) → FewIn n (behind_at n next.end next.rest)) →
    FewIn (suc n) (r >>= λ next. (behind_at n next.end next.rest >>= λ others. Ok (next.unit ∷ others)))
few_next n r few = grind arith

few_behind : (room at : ℕ) (octets : List ℕ) → FewIn room (behind_at room at octets)
unfolding behind_at
few_behind (suc room) at (si ∷ octets) = few_next room (next_at at (si ∷ octets)) (λ next. few_behind room next.end next.rest)
few_behind room at octets = grind arith

few_continued : (c : Category) (unit : Placed) → FewIn 17 (continued c unit)
few_continued c unit = grind (arith, few_behind)

few_by : (r : Result Placed SpduFault) → FewIn 17 (r >>= λ unit. continued (category_of unit.kind) unit)
few_by r = grind (arith, few_continued)

few_units : (octets : List ℕ) → FewIn 17 (tsdu_at octets)
unfolding tsdu_at
few_units octets = few_by (unit_at false 0 octets)

-- ---- how much a session indicates

abbrev FewSaid : Result Words SpduFault → Type 0
FewSaid (Ok said) = length said ≤ 17
FewSaid (Err fault) = Unit {0}

few_said_by : (r : Result Units SpduFault) → FewIn 17 r → FewSaid (said_if_read r)
few_said_by r few = grind (arith, length-map)

few_said : (octets : List ℕ) → FewSaid (said_at octets)
unfolding said_at
few_said octets = few_said_by (tsdu_at octets) (few_units octets)

fault_shows : (s : State) (fault : SpduFault) → length (respond_fault s fault).shown ≤ 17
unfolding respond_fault
fault_shows s fault = grind arith

came_shows : (x : Listener) (r : Result Words SpduFault) → FewSaid r → length (react x (came_as r)).shown ≤ 17
unfolding react
came_shows x r few = grind (arith, words_show, fault_shows)

rest_shows : (b : Bool) (x y : Move) → length x.shown ≤ 17 → length y.shown ≤ 17 → length (if b then x else y).shown ≤ 17
rest_shows b x y h k = grind arith

opened_shows : (x : Listener) → length (react x inputs.opened).shown ≤ 17
unfolding react
opened_shows x = rest_shows (is_wait_transport x.state.phase) (begun x) (rests x) (omega arith) (omega arith)

refused_shows : (x : Listener) (reason : ℕ) → length (react x (inputs.refused reason)).shown ≤ 17
unfolding react
refused_shows x reason = rest_shows (is_wait_transport x.state.phase) (denied reason x) (rests x) (omega arith) (omega arith)

broken_shows : (x : Listener) → length (react x inputs.broken).shown ≤ 17
broken_shows x = grind (arith, loss_heard x)

-- ---- the lines of an end

with_length : (r : ℕ) (w : List Shown) → length (of_one r w) ≡ length w
with_length r w = length-map w (λ (x : Shown). (r, x))

lost_behind : (lines : Rows Line) → length (waiting_in (all_lost lines)) ≡ length (waiting_in lines) + length (lost_in lines)
lost_behind [] = refl
lost_behind ((r, line) ∷ lines) = grind (arith, length, length-append, with_length, lost_of, lost_in, lost_behind lines)

concluded_by : (e : End) (live : Rows Connection) (b : Bool) → RiseFrom 0 e.lines → AreLive e.lines live → length live ≤ 64 →
    length (waiting_in e.lines) ≤ 17 → length (waiting_in (if b then record e { lines = all_lost e.lines } else e).lines) ≤ 81
concluded_by e live b rise all most few = grind (arith, few_lost, lost_behind)

live_then : (n : ℕ) (line : Line) (lines : Rows Line) (live : Rows Connection) → IsSome (value_at n live) → AreLive lines live →
    AreLive (put n line lines) live
live_then n line lines live here all q y kept shown = grind (arith, eqb-true, eq-eqb, put_other)

-- what is known of the end when the session receives something
record Hearing (e : End) (live : Rows Connection) (n : ℕ) : Type 0 where
  quiet : waiting_in e.lines ≡ []
  rise : RiseFrom 0 e.lines
  all : AreLive e.lines live
  most : length live ≤ 64
  here : IsSome (value_at n live)

moved_few : (n : ℕ) (input : Input) (e : End) (live : Rows Connection) (o : Option Line) → value_at n e.lines ≡ o → Hearing e live n →
    ((x : Listener) → length (react x input).shown ≤ 17) → length (waiting_in (concludes (by_line n o input e)).lines) ≤ 81
moved_few n input e live None is h shows = grind (arith, concluded_by)
moved_few n input e live (Some line) is h shows =
    let next = line_by line line.session input in
    concluded_by (by_line n (Some line) input e) live (is_some (by_line n (Some line) input e).carrier.ended)
    (put_rise 0 n next e.lines h.rise) (live_then n next e.lines live h.here h.all) h.most (few_waits line.session refl)
  where
    few_waits : (x : Option Listener) → line.session ≡ x → length (waiting_in (put n (line_by line x input) e.lines)) ≤ 17
    few_waits None f = grind (arith, put_same n line e.lines is, h.quiet)
    few_waits (Some x) f =
        let many = ap length (put_waits n (noted x input line) line (react x input) e.lines refl h.quiet is) in
        grind (arith, with_length)

-- ---- a packet

there_by : (never_given : Bool) (o : Option Connection) → lives_in (progress_of (if never_given then never else was_given o)) ≡ true →
    IsSome o
there_by never_given o h = grind arith

there_is : (n : ℕ) (c : Carrier) → lives_in (progress_of (place_at n c)) ≡ true → IsSome (value_at n c.live)
there_is n c h = there_by (nat_lt c.given n) (value_at n c.live) h

pub live_lines : (s : Side) (p : TwoEnds) (b : Between) (t : Tables) → Stands p b t → Lasts s p →
    AreLive (end_at s p).end.lines (end_at s p).end.carrier.live
live_lines s p b t old alive =
    let o = of_end s p b t old in
    all_live s (end_at s p) t (o.order alive) o.given (all_seated s p b t old)

heard_of : (s : Side) (p : TwoEnds) (b : Between) (t : Tables) (u : Value) (n : ℕ) → Stands p b t → Lasts s p →
    IsSome (value_at n (end_at s p).end.carrier.live) → Hearing (told_all u (end_at s p).end) (end_at s p).end.carrier.live n
heard_of s p b t u n old alive here = grind (arith, quiet, quiet_of, order_of, live_lines)

-- a requested connection is there
opens_few : (n : ℕ) (e : End) (live : Rows Connection) (o : Option Line) → value_at n e.lines ≡ o → e.carrier.ended ≡ None →
    Hearing e live n → length (waiting_in (concludes (opens n o e)).lines) ≤ 81
opens_few n e live o is lasts h = grind (arith, lasting, begun_waits, quiet, moved_few, opened_shows)

-- what an end hears, of which few indications are pending
record HearsFew (n : ℕ) (row : Row) : Type 0 where
  event : Happening
  told : told_for n row ≡ event ∷ []
  few : (e : End) (live : Rows Connection) → e.carrier.ended ≡ None → Hearing e live n →
      length (waiting_in (concludes (hears event e)).lines) ≤ 81
  there : lives_in (before row) ≡ true

hears_few : (n : ℕ) (row : Row) → is_heard row ≡ true → HearsFew n row
hears_few n agrees h = record {
  event = opened n;
  told = refl;
  few = λ e live lasts y. opens_few n e live (value_at n e.lines) refl lasts y;
  there = refl;
}
hears_few n (denies reason) h = record {
  event = refused n reason;
  told = refl;
  few = λ e live lasts y. moved_few n (inputs.refused reason) e live (value_at n e.lines) refl y (λ x. refused_shows x reason);
  there = refl;
}
hears_few n (tells octets) h = record {
  event = tsdu n octets;
  told = refl;
  few = λ e live lasts y. moved_few n (came octets) e live (value_at n e.lines) refl y
      (λ x. came_shows x (said_at octets) (few_said octets));
  there = refl;
}
hears_few n (leaves reason) h = record {
  event = closed n reason;
  told = refl;
  few = λ e live lasts y. moved_few n inputs.broken e live (value_at n e.lines) refl y broken_shows;
  there = refl;
}
hears_few n row h = cc

told_few : PacketLaws → (s : Side) (p : TwoEnds) (b : Between) (t : Tables) (packet : List ℕ) (h : Held) → Stands p b t → Lasts s p →
    (pa : PacketAt s p b packet h) → (c : Bool) → is_heard pa.did.row ≡ c →
    length (waiting_in (after_packet (end_at s p).end packet).lines) ≤ 81
told_few laws s p b t packet h old alive pa true heard =
    let n = reference_of pa.unit in
    let e = (end_at s p).end in
    let f = acts_at s p b packet h pa in
    let x = hears_few n pa.did.row heard in
    let stood : progress_of (place_at n e.carrier) ≡ before pa.did.row =
    ap (λ (c : Carrier). progress_of (place_at n c)) (sym (was_at s p b t old alive)) ∙ pa.did.stood in
    let here = there_is n e.carrier (ap lives_in stood ∙ x.there) in
    subst (λ (y : End). length (waiting_in y.lines) ≤ 81) (sym (one_told e packet pa.unit x.event f.acts (f.events ∙ x.told)))
    (x.few (told_all pa.unit e) e.carrier.live f.lasts (heard_of s p b t pa.unit n old alive here))
told_few laws s p b t packet h old alive pa false e = grind (arith, unheard_packet laws s p b t packet h old alive pa e)

-- ---- an allocation failure

-- what is proved of packets, and of two carriers
pub record FewLaws : Type 0 where
  pub packets : PacketLaws
  pub want : WantLaws

-- all sessions of it are lost, and it has ended
starved_lost : FewLaws → (s : Side) (p : TwoEnds) (b : Between) (t : Tables) (packet octets : List ℕ) (new : End) (h : Held) →
    Stands p b t → Lasts s p → IsPacket packet octets → (end_at s p).held.octets ≡ octets ++ h.octets → PacketAt s p b packet h →
    Starves (end_at s p).end packet new →
    (new.lines ≡ all_lost (end_at s p).end.lines) × (new.carrier.ended ≡ Some NoMemory)
starved_lost laws s p b t packet octets new h old alive is cut pa st =
    elim (has_starved laws.want s p b t packet octets h new old alive is cut pa st) [
      | inl nothing ↦ (ap (λ (e : End). e.lines) nothing, ap (λ (e : End). e.carrier.ended) nothing)
      | inr unheard ↦ (ap (λ (e : End). e.lines) unheard.is, ap (λ (e : End). e.carrier.ended) unheard.is)
    ]

losses_at : (s : Side) (p : TwoEnds) (b : Between) (t : Tables) → Stands p b t → Lasts s p →
    length (waiting_in (all_lost (end_at s p).end.lines)) ≤ 81
losses_at s p b t old alive = grind (arith, order_of, few_lost, lost_behind, quiet_of, live_lines)

-- the bound
pub few_wait : FewLaws → FewWait
few_wait laws = record {
  told = λ p steps s packet octets h at alive is cut.
      let pa = packet_at laws.packets s p steps packet octets h at alive is cut in
      told_few laws.packets s p at.now (tables_at p steps) packet h at.stands alive pa (is_heard pa.did.row) refl;
  starved = λ p steps s packet octets new h at alive is cut st.
      let pa = packet_at laws.packets s p steps packet octets h at alive is cut in
      let lost = starved_lost laws s p at.now (tables_at p steps) packet octets new h at.stands alive is cut pa st in
      let losses = losses_at s p at.now (tables_at p steps) at.stands alive in
      let same : length (waiting_in new.lines) ≡ length (waiting_in (all_lost (end_at s p).end.lines)) =
      ap (λ (l : Rows Line). length (waiting_in l)) lost.0 in
      (omega arith, lost.1);
  ended = λ p steps s h at alive. (losses_at s p at.now (tables_at p steps) at.stands alive, refl);
}
