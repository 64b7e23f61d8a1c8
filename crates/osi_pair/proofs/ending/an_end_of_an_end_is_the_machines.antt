-- The end of an end is an end of the machine, whatever its reason.
-- For breaks and ends and packets.
use Rattle.osi_carrier.specs.State as carriers
use Rattle.osi_machine.specs.Machine as entries
use Rattle.osi_stack.specs.State as stack
use Rattle.osi_pair.specs.Entries.{ends}
use Rattle.osi_pair.proofs.Vocabulary.{ended_count, ◌≡◌, refl, sym, ◌∙◌, ap, subst, ℕ, ◌<◌, ◌≤◌, true, false, List, [], ◌∷◌, ◌++◌, length}
use Rattle.osi_pair.proofs.Vocabulary.{map, Some, None, option_map, arith, append-nil, Held, place_at, connection_in, Rows, State, Between}
use Rattle.osi_pair.proofs.Vocabulary.{AreBetween, under_way, last_of, is_cut, progress_of, EndReason, Ending, connection_at, is_given}
use Rattle.osi_pair.proofs.Vocabulary.{Line, Tables, seen_from, shown_in_order, after_end, ended_lines, Message, Shown, all_lost, kept_at}
use Rattle.osi_pair.proofs.Vocabulary.{End, Holding, TwoEnds, end_at, with_end, Entry, other, side_in, is_caller, ending_in, class_in}
use Rattle.osi_pair.proofs.Vocabulary.{entry_in, carriers_of, IsSeated, IsUnderWay, IsLine, Stands, HasJoined, HasLine, waiting_in, quieted}
use Rattle.osi_pair.proofs.Vocabulary.{shown_entries, Side}
use Rattle.osi_pair.proofs.ending.all_sessions_are_lost_in_order.{none_kept, IsTold, AllSeated, SaysAll, says_all}
use Rattle.osi_pair.proofs.session.an_end_with_nothing_pending.{quiet_waits, quiet_same}
use Rattle.osi_pair.proofs.turn.what_remains_when_a_unit_was_taken.{terms_at}
use Rattle.osi_pair.proofs.turn.all_is_shown.{shown_pair}
use Rattle.osi_pair.proofs.turn.a_turn_keeps_the_match.{seen, unseen, seen_twice, with_holding}
use Rattle.osi_pair.proofs.turn.a_turn_keeps_the_match.{holding_there, GoesTo, seen_with, journals_join, GivenAfter, TablesStay}
use Rattle.osi_pair.proofs.turn.what_an_acting_end_leaves_in_flight.{of_end}
use Rattle.osi_pair.proofs.ending.a_connection_ends_with_its_end.{ended_line, IsPlaced, placed_seat, seat_ends, ended_at_line}
use Rattle.osi_pair.proofs.ending.a_connection_ends_with_its_end.{way_cut, way_none, never_given, way_ended}
use Rattle.osi_pair.proofs.flight.who_receives_what_is_in_flight.{TakesFrom}
use Rattle.osi_pair.proofs.flight.what_is_in_flight_when_an_end_acts.{over_way}
use Rattle.osi_pair.proofs.flight.whether_something_is_cut_off.{found_each, Lasts}

-- ---- two ends, one of which has ended

-- what it still holds has no effect any more
abbrev pub ended_holding : EndReason → State → Rows stack.Line → Held → Holding
ended_holding reason a lines held = record { end = record { carrier = carriers.ends reason a; lines = lines }; held = held }

abbrev pub ended_pair : Side → EndReason → State → Rows stack.Line → Held → List Entry → TwoEnds → TwoEnds
ended_pair s reason a lines held journal p = record (with_end s (ended_holding reason a lines held) p) { journal = journal }

-- a connection of an end that is going to end, seen from it
pub record EndingLine (s : Side) (p : TwoEnds) (u : Tables) (e : End) (h : Held) (c : Between) (n : ℕ) : Type 0 where
  pub line : Line
  pub found : connection_at n u.lines ≡ Some (seen_from (side_in s) line)
  pub here : IsPlaced n e.carrier line.own
  pub there : IsSeated n (end_at (other s) p) line.peer
  -- what is in flight from it, and what is put after, which its end takes away
  pub kept : List Message
  pub more : List Message
  pub parts : line.own.channel ≡ kept ++ more
  pub whole : is_given line.own.transport ≡ false → more ≡ []
  pub out : IsUnderWay s (other s) n (with_holding s e h p) c (record line.own { channel = kept }) line.peer

-- An end that is about to stop: its carrier may have acted on units of which its sessions have not yet been informed.
pub record MayEnd (s : Side) (p : TwoEnds) (t u : Tables) (e : End) (h : Held) (c : Between) : Type 0 where
  pub between : AreBetween (terms_at p) (carriers_of (with_holding s e h p)) c
  pub lasts : e.carrier.ended ≡ None
  pub local : e.carrier.local ≡ (end_at s p).end.carrier.local
  pub role : e.carrier.is_caller ≡ (end_at s p).end.carrier.is_caller
  pub stay : TablesStay t u
  pub journal : u.journal ≡ t.journal
  pub count : length u.lines ≡ length t.lines
  pub gives : GivenAfter s p t e h c
  pub known : u.known ≡ option_map class_in (with_holding s e h p).left.end.carrier.class
  pub takes : TakesFrom s u
  pub lines : (n : ℕ) → 0 < n → n ≤ length t.lines → EndingLine s p u e h c n

-- what becomes of a line, if `keep` messages remain in flight from it
record HasEnds (s : Side) (p : TwoEnds) (u : Tables) (c : Between) (n keep : ℕ) : Type 0 where
  line : Line
  found : connection_at n u.lines ≡ Some (seen_from (side_in s) line)
  is : IsLine n p c (seen_from (side_in s) (ended_line keep line))

-- the journal is another
line_noted : (n : ℕ) (p : TwoEnds) (c : Between) (l : Line) (journal : List Entry) → IsLine n p c l →
    IsLine n (record p { journal = journal }) c l
line_noted n p c l journal i = grind arith

line_ends : (s : Side) (p : TwoEnds) (u : Tables) (e : End) (h : Held) (c : Between) (reason : EndReason) (lines : Rows stack.Line)
    (held : Held) (journal : List Entry) (n : ℕ) → e.carrier ≡ last_of (is_caller s) c → ((q : ℕ) → kept_at q lines ≡ None) →
    TakesFrom s u → EndingLine s p u e h c n →
    (keep : ℕ) × HasEnds s (ended_pair s reason e.carrier lines held journal p) u c n keep
line_ends s p u e h c reason lines held journal n last none takes l =
    let gone : End = (ended_holding reason e.carrier lines held).end in
    let mid = with_holding s e h p in
    let q = with_holding s gone held p in
    let there = end_at (other s) p in
    let g = progress_of (place_at n (last_of (is_caller (other s)) c)) in
    let x = l.line.peer.session.state in
    let cut : is_cut (is_caller s) (carriers_of q) ≡ true = grind arith in
    let out = way_ended there.end.carrier.ended g (is_cut (is_caller s) (carriers_of mid)) (HasJoined n there) x
    (is_given l.line.own.transport) l.line.own l.kept l.more (under_way (is_caller s) n (carriers_of mid) c)
    (under_way (is_caller s) n (carriers_of q) c) l.parts l.whole (takes n l.line l.found)
    (way_cut (is_caller s) n (carriers_of mid) (carriers_of q) c cut)
    (λ given. way_none (is_caller s) n (carriers_of mid) (carriers_of q) c
    (ap (λ (a : State). connection_in (place_at n a)) (sym last) ∙ never_given n e.carrier (grind arith)))
    (subst (λ (y : Holding). GoesTo s y n mid c g x l.kept) (holding_there s e h p) l.out) in
    let line = ended_line out.keep l.line in
    let seen_then = seen_with s p c gone held n line
    (seat_ends n e.carrier (record { end = gone; held = held }) l.line.own out.keep (record { given = refl; live = refl; none = none })
    l.here) l.there (grind (arith, cut, out.way)) (grind (arith, over_way, none)) in (
      out.keep,
      record {
        line = l.line;
        found = l.found;
        is = line_noted n q c (seen_from (side_in s) line) journal (unseen s n q c line seen_then);
      },
    )

-- they match the tables in which the side ends, if this much is kept of what was in flight from it
pub record EndsOn (s : Side) (p : TwoEnds) (c : Between) (ending : Ending) (u : Tables) : Type 0 where
  pub keep : ℕ → ℕ
  pub stands : Stands p c (after_end (side_in s) ending keep u)

-- whatever is kept
ended_match : (s : Side) (p : TwoEnds) (b : Between) (t u : Tables) (e : End) (h : Held) (c : Between) (reason : EndReason)
    (ending : Ending) (lines : Rows stack.Line) (held : Held) (journal : List Entry) (keep : ℕ → ℕ) → Stands p b t →
    MayEnd s p t u e h c → ending_in reason ≡ Some ending → ((n : ℕ) → kept_at n lines ≡ None) → waiting_in lines ≡ [] →
    map Some (u.journal ++ (shown_in_order (side_in s) 1 u.lines ++ entries.ended (side_in s) ending ∷ [])) ≡ map entry_in journal →
    ((n : ℕ) → 0 < n → n ≤ length t.lines → HasEnds s (ended_pair s reason e.carrier lines held journal p) u c n (keep n)) →
    Stands (ended_pair s reason e.carrier lines held journal p) c (after_end (side_in s) ending keep u)
ended_match s p b t u e h c reason ending lines held journal keep old m is none quiet says all =
    let v = after_end (side_in s) ending keep u in
    let same : v.lines ≡ ended_lines (side_in s) keep 1 u.lines = grind arith in
    let count = ended_count (side_in s) keep 1 u.lines ∙ m.count in
    let lines_now : (n : ℕ) → 0 < n → n ≤ length v.lines →
    HasLine n (ended_pair s reason e.carrier lines held journal p) c v = λ n some few.
    let l = all n some (subst (λ (k : ℕ). n ≤ k) (ap length same ∙ count) few) in
    record {
      line = seen_from (side_in s) (ended_line (keep n) l.line);
      found = ap (connection_at n) same ∙ ended_at_line (side_in s) keep n u.lines l.line l.found;
      is = l.is;
    } in
    grind arith

-- An end stops: its users receive their losses, and the journal records it.
pub ended_stands : (s : Side) (p : TwoEnds) (b : Between) (t u : Tables) (e : End) (h : Held) (c : Between) (reason : EndReason)
    (ending : Ending) (lines : Rows stack.Line) (held : Held) (first : List (ℕ × Shown)) (journal : List Entry) → Stands p b t →
    MayEnd s p t u e h c → ending_in reason ≡ Some ending → ((n : ℕ) → kept_at n lines ≡ None) → SaysAll s lines first u →
    journal ≡ p.journal ++ (shown_entries s first ++ ends s reason ∷ []) →
    EndsOn s (ended_pair s reason e.carrier lines held journal p) c ending u
ended_stands s p b t u e h c reason ending lines held first journal old m is none says said =
    let who = side_in s in
    let last : e.carrier ≡ last_of (is_caller s) c = search (arith, m.between.lives (is_caller s)) in
    let each = found_each (length t.lines) ℕ (HasEnds s (ended_pair s reason e.carrier lines held journal p) u c) 0
    (λ n some few. line_ends s p u e h c reason lines held journal n last none m.takes (m.lines n some few)) in
    record {
      keep = each.at;
      stands = ended_match s p b t u e h c reason ending lines held journal each.at old m is none says.quiet
          (journals_join u.journal _ p.journal _ (ap (map Some) m.journal ∙ old.journal)
          (journals_join (shown_in_order who 1 u.lines) (entries.ended who ending ∷ []) (shown_entries s first) (ends s reason ∷ [])
          says.says (ap (λ o. option_map (entries.ended who) o ∷ []) (sym is))) ∙ ap (map entry_in) (sym said))
          each.is;
    }

-- ---- an end at which nothing arrived

-- all of what it has put is in flight
pub whole_line : (s : Side) (p : TwoEnds) (u : Tables) (e : End) (h : Held) (c : Between) (n : ℕ) (l : Line) →
    connection_at n u.lines ≡ Some (seen_from (side_in s) l) → IsPlaced n e.carrier l.own → IsSeated n (end_at (other s) p) l.peer →
    IsUnderWay s (other s) n (with_holding s e h p) c l.own l.peer → EndingLine s p u e h c n
whole_line s p u e h c n l found here there out = grind (arith, append-nil)

pub may_end : (s : Side) (p : TwoEnds) (b : Between) (t : Tables) → Stands p b t → TakesFrom s t → Lasts s p →
    MayEnd s p t t (end_at s p).end (end_at s p).held b
may_end s p b t old takes alive =
    let e = (end_at s p).end in
    let h = (end_at s p).held in
    let same : with_holding s e h p ≡ p = grind arith in
    let lines : (n : ℕ) → 0 < n → n ≤ length t.lines → EndingLine s p t e h b n = λ n a x.
    let has = old.lines n a x in
    let l = seen_from (side_in s) has.line in
    let i = seen s n p b has.line has.is in
    whole_line s p t e h b n l (has.found ∙ ap (λ (y : Line). Some y) (sym (seen_twice (side_in s) has.line)))
    (placed_seat n (end_at s p) l.own i.here) i.there
    (subst (λ (q : TwoEnds). IsUnderWay s (other s) n q b l.own l.peer) (sym same) i.out) in
    grind arith

-- what its users then receive
pub all_seated : (s : Side) (p : TwoEnds) (b : Between) (t : Tables) → Stands p b t → AllSeated s (end_at s p) t
all_seated s p b t old n a c = let h = old.lines n a c in (h.line, h.found, (seen s n p b h.line h.is).here)

pub shown_then : (s : Side) (p : TwoEnds) (b : Between) (t : Tables) (lines : Rows stack.Line) (first : List (ℕ × Shown)) → Stands p b t →
    Lasts s p → IsTold (end_at s p) lines first → SaysAll s lines first t
shown_then s p b t lines first old alive told =
    let o = of_end s p b t old in
    says_all s (end_at s p) t (o.order alive) o.given (all_seated s p b t old) lines first told o.quiet

-- ---- all of it is indicated at once

pub all_shown_then : (s : Side) (p : TwoEnds) (b : Between) (t : Tables) → Stands p b t → Lasts s p →
    SaysAll s (quieted (all_lost (end_at s p).end.lines)) (waiting_in (all_lost (end_at s p).end.lines)) t
all_shown_then s p b t old alive = shown_then s p b t _ _ old alive (grind (arith, append-nil, quiet_waits, quiet_same))

pub none_left : (n : ℕ) (lines : Rows stack.Line) → kept_at n (quieted (all_lost lines)) ≡ None
none_left n lines = none_kept n lines (quieted (all_lost lines)) (quiet_same (quieted (all_lost lines)) (quiet_waits (all_lost lines)))

-- the end that has ended for this reason, with all its sessions lost
abbrev pub lost_end : EndReason → State → Rows stack.Line → End
lost_end reason a lines = record { carrier = carriers.ends reason a; lines = all_lost lines }

-- A carrier that may have acted ends, and all its sessions are lost; the tables do the same.
pub lost_stands : (s : Side) (p : TwoEnds) (b : Between) (t u : Tables) (e : End) (h : Held) (c : Between) (reason : EndReason)
    (ending : Ending) (lines : Rows stack.Line) (held : Held) → Stands p b t → MayEnd s p t u e h c → ending_in reason ≡ Some ending →
    SaysAll s (quieted (all_lost lines)) (waiting_in (all_lost lines)) u →
    EndsOn s (shown_pair s (lost_end reason e.carrier lines) held p) c ending u
lost_stands s p b t u e h c reason ending lines held old m is says =
    ended_stands s p b t u e h c reason ending (quieted (all_lost lines)) held (waiting_in (all_lost lines))
    (shown_pair s (lost_end reason e.carrier lines) held p).journal old m is (λ n. none_left n lines) says (grind arith)
