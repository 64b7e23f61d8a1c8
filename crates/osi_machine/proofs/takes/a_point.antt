-- Taking a synchronization point keeps the invariant of both sides.
-- For each_step_keeps_both_sides.
use Rattle.osi_machine.proofs.Vocabulary.{ltb-true, ltb-false, false_from_ne_true, list_any, State, Numbers, Meaning, MIP, MAP, data_token}
use Rattle.osi_machine.proofs.Vocabulary.{lower, MajorDue, is_ready, is_restarting, is_restart_due, point_taken, drops, next, stops, heard}
use Rattle.osi_machine.proofs.Vocabulary.{hears, needs_token, Core, is_opening, ◌≡◌, refl, sym, subst, ℕ, ◌+◌, ◌≤◌, ◌<◌, Bool, true, false}
use Rattle.osi_machine.proofs.Vocabulary.{nat_lt, if◌then◌else◌, List, ◌∷◌, ◌⊎◌, arith, data_in, is_releasing, got_in, cut_by, owners_after}
use Rattle.osi_machine.proofs.Vocabulary.{ap, ◌∙◌, Tokens, has, Token, is_release_due, is_own}
use Rattle.osi_machine.proofs.basics.what_holds_in_each_phase.{excluded, by_test, implied}
use Rattle.osi_machine.proofs.channels.what_every_unit_in_flight_keeps.{lower_second, heard_turned, heard_sends}
use Rattle.osi_machine.proofs.invariant.what_holds_of_both_sides.{Stands}
use Rattle.osi_machine.proofs.invariant.a_side_that_listens.{Listens, is_open, listens, half}
use Rattle.osi_machine.proofs.calls.a_call_and_its_unit.{moved_to}
use Rattle.osi_machine.proofs.takes.a_unit_that_cuts_nothing.{rest_of, at, heard_is, Calm, Calms}

-- the number of points that are confirmed, once one more is taken
reach_point : (a : Bool) (next c confirmed : ℕ) → c ≤ next → (a ≡ true → lower next c ≤ confirmed)
    → lower (next + 1) c ≤ (if a then confirmed else next)
reach_point a next c confirmed le f = grind (arith, lower_second)

-- ---- what has to be known of a point

-- it shows no data, cuts nothing off and moves no token
record MovesNothing (w : Core) (u : Meaning) (r : State) : Type 0 where
  silent : got_in w.own.session u ≡ data_in u
  history : cut_by w.own.session u w.history ≡ w.history
  owner : owners_after w.own.session u w.owner ≡ w.owner
  held : r.held ≡ w.own.session.held
  caller : r.is_caller ≡ w.own.session.is_caller

record Pointed (w : Core) (u : Meaning) (us : List Meaning) (r : State) : Type 0 where
  acts : drops w.own.session u ≡ false
  ready : is_ready w.own.session.phase ≡ true
  selected : (w.own.session.units.minor ≡ true) ⊎ (w.own.session.units.major ≡ true)
  needs : needs_token data_token u ≡ true
  stays : stops w.own.session u ≡ false
  next : next w.own.session u ≡ r
  opened : is_opening r.phase ≡ false
  numbers : r.numbers ≡ point_taken w.own.session.numbers

module _ (w : Core) (u : Meaning) (us : List Meaning) (r : State) (h : Stands (at w (u ∷ us))) (k : Pointed w u us r) where
  side : Listens w.own (rest_of w.peer (u ∷ us))
  side = listens (at w (u ∷ us)) h (implied is_ready is_open refl w.own.session.phase k.ready)

  -- no point is in flight in the other direction
  none_back : list_any (needs_token data_token) w.own.sent ≡ false
  none_back = grind (arith, half, side)

  -- the other side does not answer
  other_sends : w.peer.session.numbers.answers ≡ false
  unfolding point_taken
  other_sends = false_from_ne_true w.peer.session.numbers.answers (λ a.
      grind (arith, heard_turned, h.peer_counts.flag a, heard_is w.own.session r u us k.stays k.next))

  -- nothing is confirmed that this side has not seen
  none_above : (heard w.peer.session w.own.sent).numbers.confirmed ≤ w.own.session.numbers.next
  none_above = by_test (nat_lt w.own.session.numbers.next (heard w.peer.session w.own.sent).numbers.confirmed)
      (λ e. absurd (
      let n = h.peer_counts.below side.heeds w.own.session.numbers.next from
      (ltb-true w.own.session.numbers.next (heard w.peer.session w.own.sent).numbers.confirmed e) in
      omega arith))
      (ltb-false w.own.session.numbers.next (heard w.peer.session w.own.sent).numbers.confirmed)
    where
      from : (heard w.peer.session w.own.sent).base ≤ w.own.session.numbers.next
      from = rw (side.all, side.there_base)
          (let a = h.consistent.own.sound.ordered.confirmed_from in let b = h.consistent.own.sound.ordered.confirmed_to in omega arith)

  point_flag : (heard w.peer.session w.own.sent).numbers.answers ≡ false
  point_flag = heard_sends w.peer.session w.own.sent none_back other_sends

  point_below : hears (heard w.own.session (u ∷ us)).phase ≡ true → (n : ℕ) → (heard w.peer.session w.own.sent).base ≤ n
      → n < (heard w.peer.session w.own.sent).numbers.confirmed → n < r.numbers.next
  unfolding point_taken
  point_below l n from to = subst (λ (v : Numbers). n < v.next) (sym k.numbers) (let a = h.peer_counts.below l n from to in omega arith)

  point_reach : lower r.numbers.next (heard w.peer.session w.own.sent).numbers.confirmed ≤ r.numbers.confirmed
  unfolding point_taken
  point_reach = search (arith, reach_point, none_above)

  point_calm : MovesNothing w u r → is_restarting r.phase ≡ false → is_restart_due r.phase ≡ false → Calm w u us r w.owner
  point_calm plain heeds owes =
      let asks = excluded is_ready is_releasing refl w.own.session.phase k.ready in
      let released : (is_release_due (heard w.peer.session w.own.sent).phase ≡ true → is_releasing r.phase ≡ true) =
      (λ d. absurd (let a = h.peer.meeting.released d in cc)) in
      let holds : ((t : Token) → has r.held t ≡ is_own (w.owner t)) =
      (λ t. ap (λ (k : Tokens). has k t) plain.held ∙ h.own.meeting.holds t) in
      search (arith, point_flag, point_below, point_reach)

-- ---- the two kinds of points

pub taken_minor : State → State
taken_minor s = record s { numbers = point_taken s.numbers }

pub minor_calm : (confirm : Bool) (n : ℕ) (octets : List ℕ) → Calms (MIP confirm n octets) taken_minor
unfolding taken_minor
minor_calm confirm n octets w us d h =
    let k : Pointed w (MIP confirm n octets) us (taken_minor w.own.session) = grind arith in
    point_calm w (MIP confirm n octets) us (taken_minor w.own.session) h k (assumption)
    (excluded is_ready is_restarting refl w.own.session.phase k.ready)
    (excluded is_ready is_restart_due refl w.own.session.phase k.ready)

pub major_calm : (n : ℕ) (octets : List ℕ) → Calms (MAP n octets) (moved_to MajorDue point_taken)
major_calm n octets w us d h =
    let k : Pointed w (MAP n octets) us (moved_to MajorDue point_taken w.own.session) = grind arith in
    point_calm w (MAP n octets) us (moved_to MajorDue point_taken w.own.session) h k (assumption) refl refl
