-- Memory runs out at an end: the step of the tables, and what happens to a packet.
-- For breaks and ends, packets and carries.
use Rattle.osi_carrier.specs.Packets as packets
use Rattle.osi_carrier.specs.React.{react as carrier_react}
use Rattle.osi_carrier.specs.State as carriers
use Rattle.osi_machine.specs.Core as machine
use Rattle.osi_machine.specs.Machine as entries
use Rattle.osi_stack.specs.Hearing as hearing
use Rattle.osi_stack.specs.State as stack
use Rattle.osi_pair.proofs.Vocabulary.{◌≡◌, ℕ, zero, suc, ◌+◌, Bool, true, if◌then◌else◌, List, [], ◌∷◌, ◌++◌, length, map, Option, Some}
use Rattle.osi_pair.proofs.Vocabulary.{None, is_some, refl, sym, ap, subst, ◌∙◌, ◌⊎◌, inl, inr, arith, slice_get, Held, IsPacket, Value}
use Rattle.osi_pair.proofs.Vocabulary.{ended_by, Happening, Rows, State, EndReason, NoMemory, reference_of, Both, side, Between, AreBetween}
use Rattle.osi_pair.proofs.Vocabulary.{Terms, no_memory, connection_at, shown_at, Line, Tables, seen_from, end_of, shown_in_order, step}
use Rattle.osi_pair.proofs.Vocabulary.{run, Step, is_caller, AreArrivals, broken as broken_off, react, Shown, with_carrier, with_events}
use Rattle.osi_pair.proofs.Vocabulary.{hears_first, hears_next, hears_times, starves, all_lost, RunsOut, Starves, told_all, needs_memory}
use Rattle.osi_pair.proofs.Vocabulary.{End, never_starved, hears_keep, TwoEnds, end_at, side_in, carriers_of, Stands, waiting_in, quieted}
use Rattle.osi_pair.proofs.Vocabulary.{Side}
use Rattle.osi_pair.proofs.flight.who_receives_what_is_in_flight.{TakesFrom}
use Rattle.osi_pair.proofs.ending.an_end_of_an_end_is_the_machines.{MayEnd, lost_end, lost_stands, may_end, all_shown_then}
use Rattle.osi_pair.proofs.turn.what_remains_when_a_unit_was_taken.{terms_at, order_of, PacketAt}
use Rattle.osi_pair.proofs.ending.all_sessions_are_lost_in_order.{SaysAll}
use Rattle.osi_pair.proofs.packet.a_packet_is_one_delivery_or_none.{acts_at, lasting_in, both_carrier}
use Rattle.osi_pair.proofs.flight.what_may_arrive_row_by_row.{told_for}
use Rattle.osi_pair.proofs.turn.all_is_shown.{StandsShown, shown_pair}
use Rattle.osi_pair.proofs.turn.a_turn_keeps_the_match.{LinesAfter, seen_twice}
use Rattle.osi_pair.proofs.flight.whether_something_is_cut_off.{Lasts, this_or_other}
use Rattle.osi_pair.proofs.turn.what_an_acting_end_leaves_in_flight.{run_behind}

-- ---- the step

-- an end that may end, perhaps after a delivery, is told that memory ran out
pub out_shown : (s : Side) (p : TwoEnds) (b : Between) (t u : Tables) (e : End) (h : Held) (c : Between) (lines : Rows stack.Line)
    (held : Held) (before : List Step) → Stands p b t → MayEnd s p t u e h c →
    SaysAll s (quieted (all_lost lines)) (waiting_in (all_lost lines)) u → end_of (side_in s) t ≡ None → run t before ≡ u →
    ((keep : ℕ → ℕ) → AreArrivals (side_in s) (before ++ entries.ends (side_in s) no_memory keep ∷ [])) →
    StandsShown s p t (lost_end NoMemory e.carrier lines) held
out_shown s p b t u e h c lines held before old m says none is are =
    let done = lost_stands s p b t u e h c NoMemory no_memory lines held old m refl says in
    let last = entries.ends (side_in s) no_memory done.keep in
    record {
      more = before ++ last ∷ [];
      are = are done.keep;
      now = c;
      local = m.local;
      stands = subst (λ (v : Tables). Stands (shown_pair s (lost_end NoMemory e.carrier lines) held p) c v)
          (sym (run_behind t before (last ∷ []) ∙ ap (λ (v : Tables). step v last) is ∙ (grind arith)))
          done.stands;
    }

-- nothing was done before
pub ended_shown : (s : Side) (p : TwoEnds) (b : Between) (t : Tables) (held : Held) → Stands p b t → TakesFrom s t → Lasts s p →
    StandsShown s p t (hearing.ends NoMemory (end_at s p).end) held
ended_shown s p b t held old takes alive =
    out_shown s p b t t (end_at s p).end (end_at s p).held b (end_at s p).end.lines held [] old (may_end s p b t old takes alive)
    (all_shown_then s p b t old alive) (lasting_in s p b t old alive) refl (λ keep. (refl, refl, refl))

-- ---- the indications, in the order of the tables

order_same : (who : machine.Side) (r : ℕ) (ls ms : List Line) → length ms ≡ length ls →
    ((i : ℕ) (l m : Line) → slice_get ls i ≡ Some l → slice_get ms i ≡ Some m →
    (react (seen_from who m).own.session broken_off).shown ≡ (react (seen_from who l).own.session broken_off).shown) →
    shown_in_order who r ms ≡ shown_in_order who r ls
order_same who r [] [] long all = refl
order_same who r (l ∷ ls) (m ∷ ms) long all =
    ap (λ (w : List Shown). map (shown_at who r) w ++ shown_in_order who (r + 1) ms) (all 0 l m refl refl)
    ∙ ap (λ (es : List entries.Entry). map (shown_at who r) (react (seen_from who l).own.session broken_off).shown ++ es)
    (order_same who (r + 1) ls ms (omega arith) (λ i x y. all (suc i) x y))
order_same who r ls ms long all = grind arith

-- if the new line has as many indications as the old one
pub says_then : (s : Side) (n : ℕ) (line l : Line) (t u : Tables) (lines : Rows stack.Line) (first : List (ℕ × Shown)) →
    LinesAfter s n line t u → connection_at n t.lines ≡ Some (seen_from (side_in s) l) →
    (react line.own.session broken_off).shown ≡ (react l.own.session broken_off).shown → SaysAll s lines first t → SaysAll s lines first u
says_then s n line l t u lines first a found shows says =
    let same = order_same (side_in s) 1 t.lines u.lines a.count (λ i x y. this_or_other n (suc i)
    (λ q. connection_at q t.lines ≡ Some x → connection_at q u.lines ≡ Some y →
    (react (seen_from (side_in s) y).own.session broken_off).shown ≡ (react (seen_from (side_in s) x).own.session broken_off).shown)
    (λ at now. grind (arith, seen_twice)) (λ apart at now. grind (arith, react, a.others (suc i) apart))) in
    record { quiet = says.quiet; says = ap (map Some) same ∙ says.says }

-- ---- what becomes of the packet

-- what is proved of two carriers, for which memory is needed
pub record WantLaws : Type 0 where
  pub starved : (terms : Terms) (end : Bool) (both : Both) (b : Between) (packet octets behind : List ℕ) (new : State) →
      AreBetween terms both b → (side end both).state.ended ≡ None → IsPacket packet octets → (side end both).held ≡ octets ++ behind →
      packets.Starves (side end both).state packet new → new ≡ carriers.ends NoMemory (side end both).state
  pub acts : (terms : Terms) (end : Bool) (both : Both) (b : Between) (packet octets behind : List ℕ) (new : State) →
      AreBetween terms both b → (side end both).state.ended ≡ None → IsPacket packet octets → (side end both).held ≡ octets ++ behind →
      packets.Acts (side end both).state packet new →
      (new ≡ packets.after_packet (side end both).state packet) ⊎ (new ≡ carriers.ends NoMemory (side end both).state)

-- of the end of a side
record Wants (carrier : State) (packet : List ℕ) : Type 0 where
  starved : (new : State) → packets.Starves carrier packet new → new ≡ carriers.ends NoMemory carrier
  acts : (new : State) → packets.Acts carrier packet new →
      (new ≡ packets.after_packet carrier packet) ⊎ (new ≡ carriers.ends NoMemory carrier)

wants_at : WantLaws → (s : Side) (p : TwoEnds) (b : Between) (packet octets behind : List ℕ) → AreBetween (terms_at p) (carriers_of p) b →
    Lasts s p → IsPacket packet octets → (end_at s p).held.octets ≡ octets ++ behind → Wants (end_at s p).end.carrier packet
wants_at laws s p b packet octets behind a alive is cut =
    let c = both_carrier s p in
    let there = ap (λ (x : State). x.ended) c ∙ alive in
    let held : (side (is_caller s) (carriers_of p)).held ≡ octets ++ behind = (grind arith) ∙ cut in
    subst (λ (x : State). Wants x packet) c (record {
      starved = λ new. laws.starved (terms_at p) (is_caller s) (carriers_of p) b packet octets behind new a there is held;
      acts = λ new. laws.acts (terms_at p) (is_caller s) (carriers_of p) b packet octets behind new a there is held;
    })

-- The unit took effect, and no session received its events.
pub record IsUnheard (e : End) (u : Value) (told : List Happening) (new : End) : Type 0 where
  pub event : Happening
  pub one : told ≡ event ∷ []
  pub is : new ≡ lost_end NoMemory (told_all u e).carrier e.lines

-- nothing was done, or that
abbrev pub HasStarved : End → Value → List Happening → End → Type 0
HasStarved e u told new = (new ≡ hearing.ends NoMemory e) ⊎ IsUnheard e u told new

-- memory ran out for the effect of the one event
one_by : (k : ℕ) (e new : End) (event first : Happening) (more : List Happening) → e.carrier.events ≡ event ∷ [] →
    (hears_times k e).carrier.events ≡ first ∷ more → needs_memory first (with_events more (hears_times k e)) ≡ true →
    new ≡ starves (with_events more (hears_times k e)) → new ≡ starves (with_events [] e)
one_by zero e new event first more h w n s = grind arith
one_by (suc k) e new event first more h w n s =
    let quiet_then : (hears_next e).carrier.events ≡ [] =
    ap (λ (l : List Happening). (hears_first l e).carrier.events) h ∙ (hears_keep event (with_events [] e)).events in
    never_starved (hears_next e) new quiet_then (record { heard = k; event = first; more = more; waits = w; needed = n; starved = s })

lasting_ends : (c : State) → c.ended ≡ None → ended_by NoMemory c ≡ carriers.ends NoMemory c
lasting_ends c e = ap (λ (o : Option EndReason). if is_some o then c else carriers.ends NoMemory c) e

told_starved : (e new : End) (u : Value) (told : List Happening) → (carrier_react u e.carrier).events ≡ told →
    (carrier_react u e.carrier).ended ≡ None → RunsOut (with_carrier (carrier_react u e.carrier) e) new →
    (told ≡ []) ⊎ ((x : Happening) × (told ≡ x ∷ [])) → IsUnheard e u told new
told_starved e new u told events lasts out (inl none) = never_starved (with_carrier (carrier_react u e.carrier) e) new (events ∙ none) out
told_starved e new u told events lasts out (inr one) =
    let is = one_by out.heard (with_carrier (carrier_react u e.carrier) e) new one.0 out.event out.more
    (events ∙ one.1) out.waits out.needed out.starved
    ∙ ap (λ (c : State). record { carrier = c; lines = all_lost e.lines }) (lasting_ends (told_all u e).carrier lasts) in
    grind arith

pub has_starved : WantLaws → (s : Side) (p : TwoEnds) (b : Between) (t : Tables) (packet octets : List ℕ) (h : Held) (new : End) →
    Stands p b t → Lasts s p → IsPacket packet octets → (end_at s p).held.octets ≡ octets ++ h.octets → (pa : PacketAt s p b packet h) →
    Starves (end_at s p).end packet new → HasStarved (end_at s p).end pa.unit (told_for (reference_of pa.unit) pa.did.row) new
has_starved laws s p b t packet octets h new old alive is cut pa (inl x) =
    grind (arith, order_of s p b t old alive, (wants_at laws s p b packet octets h.octets old.between alive is cut).starved x.0 x.1)
has_starved laws s p b t packet octets h new old alive is cut pa (inr x) =
    let f = acts_at s p b packet h pa in
    let e = (end_at s p).end in
    let n = reference_of pa.unit in
    elim ((wants_at laws s p b packet octets h.octets old.between alive is cut).acts x.0 x.1) [
      | inl done ↦ inr (told_starved e new pa.unit (told_for n pa.did.row) f.events f.lasts
          (subst (λ (c : State). RunsOut (with_carrier c e) new) (done ∙ f.acts) x.2) (grind arith))
      | inr none ↦ never_starved (with_carrier x.0 e) new (ap (λ (c : State). c.events) none ∙ (order_of s p b t old alive).heard) x.2
    ]
