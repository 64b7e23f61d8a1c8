-- The calls of MinorConfirm and of MajorConfirm keep the invariant of both sides.
-- For each_step_keeps_both_sides.
use Rattle.osi_machine.proofs.Vocabulary.{and_parts, ltb-true, leb-true, lt-ltb, le-leb, eq-eqb, cases_lt, and_from, State, Phase, Ready}
use Rattle.osi_machine.proofs.Vocabulary.{MajorDue, Meaning, MIA, MAA, is_ready, is_major_asked, is_major_due, is_release_due}
use Rattle.osi_machine.proofs.Vocabulary.{is_restarting, may_confirm_minor, takes_minor_ack, point_taken, minor_confirmed, major_confirmed}
use Rattle.osi_machine.proofs.Vocabulary.{becomes, drops, Good, MinorConfirm, MajorConfirm, Item, points, is_plain, AllFit, heard_view}
use Rattle.osi_machine.proofs.Vocabulary.{Core, ◌≡◌, refl, sym, ◌∙◌, ap, subst, ℕ, ◌+◌, ◌-◌, ◌≤◌, ◌<◌, Bool, true, false, ◌&&◌, ◌||◌}
use Rattle.osi_machine.proofs.Vocabulary.{nat_le, nat_lt, if◌then◌else◌, List, arith, has_no_effect}
use Rattle.osi_machine.proofs.basics.what_holds_in_each_phase.{implied_both, implied, excluded, implied_two, by_test}
use Rattle.osi_machine.proofs.channels.a_unit_is_dropped_bad_or_acted_on.{next_cases}
use Rattle.osi_machine.proofs.channels.what_every_unit_in_flight_keeps.{heard_flush, lower_second, heard_turned, list_any_append}
use Rattle.osi_machine.proofs.channels.what_every_unit_in_flight_keeps.{until_heard}
use Rattle.osi_machine.proofs.channels.a_deaf_side_acts_on_nothing.{not_both}
use Rattle.osi_machine.proofs.channels.a_held_token_keeps_units_out.{is_lively}
use Rattle.osi_machine.proofs.channels.what_a_side_will_have_seen.{heard_counted, view_grows, major_came}
use Rattle.osi_machine.proofs.invariant.what_holds_of_both_sides.{hearing, Stands, phase_there}
use Rattle.osi_machine.proofs.invariant.each_step_keeps_one_side.{Keeps}
use Rattle.osi_machine.proofs.invariant.a_side_that_listens.{Listens, is_open, listens}
use Rattle.osi_machine.proofs.calls.a_call_and_its_unit.{Shift, listening_stands, none_never, Sending, sending_stands, hears_there, Sends}
use Rattle.osi_machine.proofs.calls.a_call_and_its_unit.{adds_nothing, only, there, tokens_stay, in_phase, Moved, from_phase, lively_shift}
use Rattle.osi_machine.proofs.calls.a_call_and_its_unit.{moved_to, phase_shift, good_in, confirmed_at, there_after}
use Rattle.osi_machine.proofs.calls.a_point_is_set.{other_number, other_saw, other_above}

-- ---- a side that took points last

abbrev is_confirming : Phase → Bool
is_confirming p = is_ready p || (is_release_due p || is_major_due p)

record Answers (s : State) : Type 0 where
  phase : is_confirming s.phase ≡ true
  answers : s.numbers.answers ≡ true

own_count : (w : Core) → Stands w → w.own.session.numbers.next ≡ w.own.session.base + points w.own.view
own_count w h = h.consistent.own.count

module _ (w : Core) (a : Answers w.own.session) (h : Stands w) where
  side : Listens w.own w.peer
  side = listens w h (implied is_confirming is_open refl w.own.session.phase a.phase)

  -- points flow one way
  there_sends : (there w).numbers.answers ≡ false
  there_sends = ap (λ (q : State). q.numbers.answers) (sym side.all) ∙ h.own_counts.flag a.answers

  seen_all : points w.own.view ≤ points w.history
  seen_all = grind (arith, side, view_grows)

  -- what this side has seen, the other has
  all_above : (n : ℕ) → is_restarting (there w).phase ≡ false → (hearing w.own w.peer).base ≤ n
      → n < w.own.session.base + points w.history → n < w.peer.session.numbers.next
  all_above n l from to = grind (arith, other_above, side, other_saw, there_sends)

  -- the other does not answer
  none_back : w.peer.session.numbers.answers ≡ true → ⊥
  none_back t =
      let no = h.peer_counts.flag t in
      let yes = (heard_turned w.own.session w.peer.sent (record { phase = side.begun; answers = a.answers }) h.own.fits).answers in
      cc

  keeps_flag : (m : Meaning) → ((s : State) → (becomes s m).numbers.answers ≡ s.numbers.answers) → (there_after w m).numbers.answers ≡ false
  keeps_flag m same = search (arith, next_cases, there_sends)

  was_below : (n : ℕ) → (there w).base ≤ n → n < (there w).numbers.confirmed → n < w.own.session.numbers.next
  was_below n from to = h.peer_counts.below side.heeds n (rw side.all from) (rw side.all to)

-- ---- the confirmation of a minor point

confirm_moves : (n : ℕ) (s : State) (u : Meaning) → Answers s → is_plain u ≡ true → Good s u → Moved (confirmed_at n) Answers s u
unfolding minor_confirmed point_taken
confirm_moves n s u a p g = record {
  good = grind (arith, and_parts, not_both);
  step = λ st. grind (arith, and_parts, not_both, listening_stands, excluded);
}

abbrev confirm_shift : ℕ → Shift
confirm_shift n = lively_shift (confirmed_at n) Answers (λ s a. implied is_confirming is_lively refl s.phase a.phase) (λ s. refl)
    (λ s. assumption) (confirm_moves n)

-- what the call has passed
record Confirms (w : Core) (n : ℕ) : Type 0 where
  phase : may_confirm_minor w.own.session.phase ≡ true
  selected : w.own.session.units.minor ≡ true
  answers : w.own.session.numbers.answers ≡ true
  from : w.own.session.numbers.confirmed ≤ n
  to : n < w.own.session.numbers.next

own_answers : (w : Core) (n : ℕ) → Confirms w n → Answers w.own.session
own_answers w n k = record { phase = implied may_confirm_minor is_confirming refl w.own.session.phase k.phase; answers = k.answers }

-- nothing at or above it was confirmed
confirmed_below : (w : Core) (n : ℕ) → Confirms w n → Stands w → (there w).numbers.confirmed ≤ n
confirmed_below w n k h = grind (arith, cases_lt, there w, side, own_answers w n k)

ruleset there_laws = (own_answers, other_number, side, own_count)

-- a major point that is still in flight is no minor one
confirm_above : (w : Core) (n : ℕ) → Confirms w n → Stands w → is_restarting (there w).phase ≡ false
    → (if is_major_asked (there w).phase then nat_lt (n + 1) (there w).numbers.next else nat_lt n
    (there w).numbers.next) ≡ true
confirm_above w n k h l = search (arith, lt-ltb, seen_all, there_laws, implied_two, and_from, heard_flush, major_came)

confirm_sending : (w : Core) (n : ℕ) (octets : List ℕ) → Confirms w n → Stands w → Sending w (confirm_shift n) (only (MIA n octets) w.owner)
unfolding minor_confirmed
confirm_sending w n octets k h =
    let a : Answers w.own.session = own_answers w n k in
    let l : Listens w.own w.peer = side w a h in
    let sends : Sends w (confirm_shift n) (MIA n octets) = record { now = a; none = none_never w.peer.sent; unit = assumption } in
    record {
      sends = sends;
      good = λ q i. record {
        expected = phase_there is_confirming takes_minor_ack refl h.own i.phase;
        met = (
          grind (arith, l),
          grind (arith, and_from, le-leb, there w, there_sends w a h, confirmed_below w n k h, confirm_above w n k h q),
        );
      };
      meets = λ q i. h.own.meeting.meets;
      adds = adds_nothing w (MIA n octets) w.owner h (λ s v. refl) refl;
      numbers = record {
        flag = λ f. keeps_flag w a h (MIA n octets) (λ s. refl);
        below = λ q m from to. all_above w a h m (hears_there (there w) (MIA n octets) refl q) from
            (let x = k.to in let y = seen_all w a h in let z = own_count w h in omega arith);
        reach = λ t. absurd (none_back w a h t);
        other_flag = h.peer_counts.flag;
        other_below = λ m from to. next_cases (λ q. m < q.numbers.confirmed → m < w.own.session.numbers.next) (there w)
            (MIA n octets)
            (λ d. was_below w a h m from) (λ d e. let x = k.to in omega arith) to;
        other_reach = grind (arith, next_cases, there w, l, lower_second);
      };
      tokens = tokens_stay w (confirm_shift n) (MIA n octets) sends h (λ s. refl) (λ s. refl);
      one_way = grind (arith, list_any_append);
    }

pub minor_confirm_stands : (n : ℕ) (octets : List ℕ) → Keeps (MinorConfirm n octets)
minor_confirm_stands n octets w q h =
    let a = and_parts w.own.session.numbers.answers
    (nat_le w.own.session.numbers.confirmed n && nat_lt n w.own.session.numbers.next) q.needed.1.0 in
    let b = and_parts (nat_le w.own.session.numbers.confirmed n) (nat_lt n w.own.session.numbers.next) a.1 in
    let k : Confirms w n = (assumption (leb-true w.own.session.numbers.confirmed n b.0, ltb-true n w.own.session.numbers.next b.1)) in
    sending_stands w (confirm_shift n) (only (MIA n octets) w.owner) (confirm_sending w n octets k h) h q.kept

-- ---- the confirmation of a major point

abbrev Took : State → Type 0
Took s = s.numbers.answers ≡ true

abbrev Owes : State → Type 0
Owes s = from_phase MajorDue Took s

due_moves : (s : State) (u : Meaning) → s.phase ≡ MajorDue → Took s → false ≡ false → is_plain u ≡ true → has_no_effect u ≡ false
    → Good (in_phase MajorDue s) u → Moved (moved_to Ready major_confirmed) Owes s u
unfolding major_confirmed
due_moves s u i t n p e g = record { good = grind arith; step = λ st. grind (arith, listening_stands) }

abbrev due_shift : Shift
due_shift = phase_shift MajorDue Ready major_confirmed (λ u. false) Took refl refl refl due_moves

owes_nothing : (s : State) (us : List Meaning) (v : List Item) → Owes s → AllFit s us → heard_view s us v ≡ v
owes_nothing s us v i f =
    (until_heard (λ q x. Owes q × (x ≡ v))
    (λ q u x p g st a. grind (arith, good_in, due_moves, listening_stands))
    s us v (i, refl) f).1

due_sending : (w : Core) (octets : List ℕ) → Owes w.own.session → Stands w
    → Sending w due_shift (only (MAA (w.own.session.numbers.next - 1) octets) w.owner)
unfolding major_confirmed
due_sending w octets k h =
    let m = MAA (w.own.session.numbers.next - 1) octets in
    let a : Answers w.own.session = grind arith in
    let l : Listens w.own w.peer = side w a h in
    let sends : Sends w due_shift m = record { now = k; none = none_never w.peer.sent; unit = assumption } in
    record {
      sends = sends;
      good = λ q i. search (arith, implied_both, own_count, owes_nothing, other_number, l, eq-eqb);
      meets = λ q i. refl;
      adds = adds_nothing w m w.owner h (λ s v. refl) refl;
      numbers = record {
        flag = λ f. keeps_flag w a h m (λ s. refl);
        below = λ q n from to. all_above w a h n (hears_there (there w) m refl q) from
            (subst (λ (v : ℕ). n < v) (grind (arith, heard_counted, l)) to);
        reach = λ t. absurd (none_back w a h t);
        other_flag = h.peer_counts.flag;
        other_below = λ n from to. by_test (drops (there w) m)
            (λ d. let e = rw d at to in was_below w a h n from e)
            (grind (arith, own_count, owes_nothing, other_number, l, by_test));
        other_reach = grind arith;
      };
      tokens = tokens_stay w due_shift m sends h (λ s. refl) (λ s. refl);
      one_way = grind (arith, list_any_append);
    }

pub major_confirm_stands : (octets : List ℕ) → Keeps (MajorConfirm octets)
major_confirm_stands octets w q h =
    let k : Owes w.own.session = (grind arith, h.consistent.own.major q.phase) in
    sending_stands w due_shift (only (MAA (w.own.session.numbers.next - 1) octets) w.owner) (due_sending w octets k h) h q.kept
