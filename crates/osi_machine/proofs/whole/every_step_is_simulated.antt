-- At every step of a connection that was agreed to, a core simulates it, and records tell what they told.
-- For every_stage_of_a_connection.
use Rattle.osi_machine.proofs.Vocabulary.{State, Meaning, Call, Answer, HasSerial, Outcome, allowed, is_over, respond_unit, drops, is_plain}
use Rattle.osi_machine.proofs.Vocabulary.{Core, stays_in_core, Message, unit, World, session_of, after_call, after_answer, after_unit}
use Rattle.osi_machine.proofs.Vocabulary.{Taking, without_first, Told, told_call, shows_loss, lost, bye, over, Transport, not_yet, waiting}
use Rattle.osi_machine.proofs.Vocabulary.{linked, closing, gone, moved, moves, put, shortened, unchanged, Terms, message_taken, closed}
use Rattle.osi_machine.proofs.Vocabulary.{ended_at, ◌≡◌, refl, sym, ◌∙◌, ap, subst, Bool, true, false, List, [], ◌∷◌, inl, inr, Ok, Err}
use Rattle.osi_machine.proofs.Vocabulary.{arith, ℕ, error_of, Granted, answered, taking, kept_of, turned as turned_world}
use Rattle.osi_session.specs.Respond.{shown_for}
use Rattle.osi_machine.proofs.basics.what_holds_in_each_phase.{by_test}
use Rattle.osi_machine.proofs.channels.a_unit_is_dropped_bad_or_acted_on.{no_fault}
use Rattle.osi_machine.proofs.invariant.what_holds_of_both_sides.{Stands}
use Rattle.osi_machine.proofs.invariant.each_step_keeps_one_side.{SessionLaws}
use Rattle.osi_machine.proofs.invariant.no_side_is_over.{alive}
use Rattle.osi_machine.proofs.takes.a_unit_that_cuts_nothing.{at, stands_at}
use Rattle.osi_machine.proofs.each_step_keeps_both_sides.{called_stands, taking_stands}
use Rattle.osi_machine.proofs.promises.what_a_record_tells.{Tells, TellsOf, told_all, told_of_call, answer_tells, taken_tells}
use Rattle.osi_machine.proofs.whole.how_a_core_simulates_a_connection.{one_over, stopped, IsLast, Carried, Projects, session_is, not_both}
use Rattle.osi_machine.proofs.whole.how_a_core_simulates_a_connection.{parts}
use Rattle.osi_machine.proofs.whole.how_a_core_simulates_a_connection.{is_begun, both_over, cut_to, next_is}
use Rattle.osi_machine.proofs.whole.a_call.{call_projects, stop_projects}
use Rattle.osi_machine.proofs.whole.a_close_a_break_and_an_end.{parting_over, cut_side, ended_peer, comes_unit, is_unit, popped_projects}
use Rattle.osi_machine.proofs.whole.a_close_a_break_and_an_end.{bye_projects}
use Rattle.osi_machine.specs.Core.{turned}
use Rattle.osi_machine.proofs.whole.a_unit_is_taken.{First, Last, split_first, take_projects, last_projects, last_good, over_projects}
use Rattle.osi_machine.proofs.whole.a_unit_is_taken.{over_next, over_nothing, over_as}
use Rattle.osi_machine.proofs.whole.each_side_has_the_same_session.{state_from, unless_over, Disowned, seat_state, lives_as}
use Rattle.osi_machine.proofs.whole.each_side_has_the_same_session.{called_disowned, taken_disowned, Followed, follows, stop_state}
use Rattle.osi_machine.proofs.whole.each_side_has_the_same_session.{last_state}
use Rattle.osi_session.specs.declared.faults.CallError.TheVariants as error

-- t and u are what the records of this side and of the other tell
pub record Repeats (broken : Bool) (w : World) (t u : Told) : Type 0 where
  pub core : Core
  pub stands : Stands core
  pub projects : Projects broken w core
  pub own : TellsOf t core.own
  pub peer : TellsOf u core.peer

-- ---- what a call, a unit and a loss tell

stop_told : (t : Told) (x : Call) → stays_in_core x ≡ false → told_call t x ≡ t
stop_told t x k = grind arith

pub refused : (s : State) (x : Call) → is_over s.phase ≡ true → allowed s x ≡ Err error.Ended
unfolding allowed
refused s x o = grind arith

-- the connection after a message, what the record then tells, and that a side that closes is over, and so is the other
pub record Taken (broken : Bool) (t u : Told) (k : Taking) : Type 0 where
  pub repeats : Repeats broken k.world (told_all t k.shown) u
  pub over_now : k.closes ≡ true → (stopped k.world.own ≡ true) × (stopped k.world.peer ≡ true)

abbrev pub unit_as : Bool → World → Meaning → List Message → State → Taking
unit_as broken w m ms s =
    record { world = after_unit broken s m (without_first w ms); shown = (respond_unit s m).shown; closes = (respond_unit s m).closes }

first_open : (c : Core) (m : Meaning) (us : List Meaning) → Stands (at c (m ∷ us)) → (respond_unit c.own.session m).closes ≡ false
first_open c m us s = ap (λ (o : Outcome). o.closes)
    (no_fault c.own.session m (alive c.owner c.own (at c (m ∷ us)).peer s.own) s.own.fits.0) ∙ by_test (drops c.own.session m)
    (λ e. rw e)
    (λ e. rw e (let p : is_plain m ≡ true = s.own.fits.0.plain in grind arith))

-- the last of a side that is over
last_told : (t : Told) (s r : State) (m : Meaning) → IsLast r m → told_all t (shown_for s m) ≡ t
last_told t s r m l = search arith

-- any, at a side that is over
over_silent : (s : State) (m : Meaning) → is_over s.phase ≡ true → (respond_unit s m).shown ≡ []
unfolding respond_unit
over_silent s m o = grind arith

abbrev is_linked : Transport → Bool
is_linked linked = true
is_linked _ = false

-- an indication of a loss shows nothing else
pub loss_told : (t : Told) (s : State) → told_all t (lost s).shown ≡ t
loss_told t s = by_test (shows_loss s.phase) (λ e. rw e) (λ e. rw e)

-- the session of each side after a call that is accepted
abbrev pub After : Bool → World → Call → Answer → Type 0
After broken w x (Ok g) = Followed w (after_call broken (session_of w) x g w) g.next
After broken w x (Err e) = Unit {0}

-- what a call does to a connection
pub record Answered (broken : Bool) (w : World) (t u : Told) (x : Call) (a : Answer) : Type 0 where
  pub repeats : Repeats broken (after_answer broken x w a) (told_of_call t x (error_of a)) u
  pub followed : Disowned (turned_world w) → After broken w x a

-- what a unit does to it, if this is the session of its taker
pub record TakenUnit (broken : Bool) (w : World) (t u : Told) (m : Meaning) (ms : List Message) (s : State) : Type 0 where
  pub taken : Taken broken t u (unit_as broken w m ms s)
  pub followed : Disowned w → Disowned (turned_world w) → Followed w (after_unit broken s m (without_first w ms)) (respond_unit s m).next

module _ (broken : Bool) (w : World) (t u : Told) (h : Repeats broken w t u) where
  pub session_lives : stopped w.own ≡ false → session_of w ≡ h.core.own.session
  session_lives l = session_is w h.core h.stands h.projects.history h.projects.own.counted (h.projects.own.alike l)

  -- ---- a call

  -- of a side that is not over
  core_answer : SessionLaws → (x : Call) → HasSerial x → (l : stopped w.own ≡ false) → (k : Bool) → stays_in_core x ≡ k → (a : Answer)
      → allowed h.core.own.session x ≡ a → Answered broken w t u x a
  core_answer laws x small l k q (Err d) e = record { repeats = h; followed = λ d. tt }
  core_answer laws x small l true q (Ok g) e =
      let c = answered h.core x (Ok g) in
      let now : Stands c = subst (λ (a : Answer). Stands (answered h.core x a)) e
      (grind (arith, allowed h.core.own.session x, called_stands laws h.core x small h.stands)) in
      let p = subst (λ (s : State). Projects broken (after_call broken s x g w) c) (sym (session_lives l))
      (call_projects laws broken w h.core x g q l h.projects h.stands e) in
      record {
        repeats =
            record { core = c; stands = now; projects = p; own = answer_tells laws h.core x (Ok g) t q e h.stands h.own; peer = h.peer };
        followed = λ d. follows broken w h.core h.stands h.projects d _ c g.next now p (called_disowned broken (session_of w) x g w d)
            (lives_as g.next (alive c.owner c.own c.peer now.own)) refl refl;
      }
  core_answer laws x small l false q (Ok g) e =
      let p = subst (λ (s : State). Projects broken (after_call broken s x g w) h.core) (sym (session_lives l))
      (stop_projects laws broken w h.core x g q l h.projects e) in
      record {
        repeats = search (p, Tells, stop_told);
        followed = λ d. follows broken w h.core h.stands h.projects d _ h.core g.next h.stands p
            (called_disowned broken (session_of w) x g w d)
            (subst (λ (r : Granted). state_from (kept_of r.next)
            (unless_over (is_over r.next.phase) h.core.own.session.held) h.core.own.session.numbers.next ≡ r.next)
            (sym (laws.passed h.core.own.session x g e).gives) (stop_state h.core.own.session x q)) refl refl;
      }

  pub call_simulated : SessionLaws → (x : Call) → HasSerial x → Answered broken w t u x (allowed (session_of w) x)
  call_simulated laws x small = by_test (stopped w.own)
      (λ o. subst (Answered broken w t u x) (sym (refused (session_of w) x o)) (record { repeats = h; followed = λ d. tt }))
      (λ l. core_answer laws x small l (stays_in_core x) refl _ (ap (λ (s : State). allowed s x) (sym (session_lives l))))

  pub call_followed : SessionLaws → Disowned (turned_world w) → (x : Call) (g : Granted) → HasSerial x → allowed (session_of w) x ≡ Ok g
      → Followed w (after_call broken (session_of w) x g w) g.next
  call_followed laws d x g small e = subst (After broken w x) e ((call_simulated laws x small).followed d)

  -- ---- a message that is taken

  take_first : SessionLaws → (m : Meaning) (ms : List Message) → stopped w.own ≡ false → w.peer.channel ≡ unit m ∷ ms
      → First broken (stopped w.peer) m ms h.core.peer.sent h.core.peer.session → TakenUnit broken w t u m ms h.core.own.session
  take_first laws m ms l e f =
      let c = taking h.core (m ∷ f.rest) in
      let all = stands_at h.core (m ∷ f.rest) f.sent_is h.stands in
      let now = taking_stands laws h.core (m ∷ f.rest) f.sent_is h.stands in
      let p = take_projects broken w h.core m f.rest ms h.projects all now l e f.carried in
      record {
        taken = record {
          repeats = record {
            core = c;
            stands = now;
            projects = p;
            own = taken_tells h.core (m ∷ f.rest) t f.sent_is h.stands h.own;
            peer = h.peer;
          };
          over_now = λ k. not_both (respond_unit h.core.own.session m).closes k (first_open h.core m f.rest all);
        };
        followed = λ x d. follows broken w h.core h.stands h.projects d _ c _ now p
            (taken_disowned broken h.core.own.session m (without_first w ms) d)
            (lives_as (respond_unit h.core.own.session m).next (alive c.owner c.own c.peer now.own)) refl refl;
      }

  take_last : (m : Meaning) (ms : List Message) → Last (stopped w.peer) m ms h.core.peer.sent h.core.peer.session
      → TakenUnit broken w t u m ms h.core.own.session
  take_last m ms l = record {
    taken = search (arith, last_projects, last_good, last_told);
    followed = λ x d. follows broken w h.core h.stands h.projects d _ h.core _ h.stands
        (last_projects broken w h.core m ms h.projects h.stands l).1 (taken_disowned broken h.core.own.session m (without_first w ms) d)
        (subst (λ (o : Outcome). state_from (kept_of o.next)
        (unless_over (is_over o.next.phase) h.core.own.session.held) h.core.own.session.numbers.next ≡ o.next)
        (sym (last_good h.core m h.stands l.none l.last)) (last_state h.core.own.session h.core.peer.session m l.last)) refl refl;
  }

  take_over : (m : Meaning) (ms : List Message) → stopped w.own ≡ true → w.peer.channel ≡ unit m ∷ ms
      → TakenUnit broken w t u m ms (session_of w)
  take_over m ms o e = record {
    taken = record {
      repeats = search (over_projects, Tells, told_all, over_silent);
      over_now = grind (arith, over_next, parting_over, by_test, not_both, respond_unit, over_nothing);
    };
    followed = λ x d.
        let was = seat_state broken w h.core h.stands h.projects.history h.projects.own x in
        follows broken w h.core h.stands h.projects d _ h.core _ h.stands (over_projects broken w h.core m ms h.projects o e)
        (taken_disowned broken (session_of w) m (without_first w ms) d)
        (over_as (λ r. state_from (kept_of r) (unless_over (is_over r.phase) h.core.own.session.held)
        h.core.own.session.numbers.next ≡ r) (session_of w) m o (sym was) (grind (arith, next_is))) refl refl;
  }

  pub take_unit : SessionLaws → (m : Meaning) (ms : List Message) → w.peer.channel ≡ unit m ∷ ms →
      TakenUnit broken w t u m ms (session_of w)
  take_unit laws m ms e = by_test (stopped w.own)
      (λ o. take_over m ms o e)
      (λ l. let way = subst (λ (ch : List Message). Carried broken (stopped w.peer) ch h.core.peer.sent h.core.peer.session) e
      (h.projects.own.carried l) in
      subst (TakenUnit broken w t u m ms) (sym (session_lives l))
      (elim (split_first broken (stopped w.peer) m ms h.core.peer.sent h.core.peer.session way) [
        | inl f ↦ take_first laws m ms l e f
        | inr z ↦ take_last m ms z
      ]))

  -- if only the connection changed
  same_core : (broken' : Bool) (v : World) → Projects broken' v h.core → Repeats broken' v t u
  same_core broken' v p = record { core = h.core; stands = h.stands; projects = p; own = h.own; peer = h.peer }

  -- ---- a message

  not_unit_over : (m : Message) (ms : List Message) → w.peer.channel ≡ m ∷ ms → is_unit m ≡ false → stopped w.own ≡ true
  not_unit_over m ms e q = by_test (stopped w.own)
      (λ o. o)
      (λ l. rw l (not_both (is_unit m) (comes_unit broken w h.core h.projects m ms l e) q))

  popped : (m : Message) (ms : List Message) → w.peer.channel ≡ m ∷ ms → stopped w.own ≡ true
      → Taken broken t u (unchanged (without_first w ms))
  popped m ms e o = grind (arith, same_core, popped_projects broken w h.core h.projects m ms o e)

  -- a side whose transport connection is not open is over
  not_linked_over : (tr : Transport) → w.own.transport ≡ tr → is_linked tr ≡ false → stopped w.own ≡ true
  not_linked_over tr e q = grind arith

  bye_taken : (k reason : ℕ) (ms : List Message) → w.peer.channel ≡ bye reason ∷ ms
      → Taken broken t u (moves (moved broken gone (lost (session_of (without_first w ms))).next (over ∷ [])
      (shortened k (without_first w ms))) (lost (session_of (without_first w ms))).shown)
  bye_taken k reason ms e = search (arith, loss_told, same_core, bye_projects)

  -- a close that is answered, or that crosses another: both sides are over
  parted : (tr : Transport) (channel : List Message) → is_begun tr ≡ true → (m : Message) (ms : List Message) → w.peer.channel ≡ m ∷ ms
      → parts m ≡ true → stopped w.own ≡ true
      → Taken broken t u (unchanged (record (without_first w ms) { own = record w.own { transport = tr; channel = channel } }))
  parted tr channel b m ms e q o = search (same_core, both_over, parting_over)

  pub message_repeats : SessionLaws → (terms : Terms) (k : ℕ) (m : Message) (ms : List Message) → w.peer.channel ≡ m ∷ ms
      → Taken broken t u (message_taken broken terms k w.own.transport (without_first w ms) m)
  message_repeats laws terms k m ms e = by w.own.transport refl m e
    where
      by : (tr : Transport) → w.own.transport ≡ tr → (m : Message) → w.peer.channel ≡ m ∷ ms
          → Taken broken t u (message_taken broken terms k tr (without_first w ms) m)
      by not_yet q m f = not_both (is_begun w.own.transport) h.projects.own.begun (ap is_begun q)
      by waiting q m f = not_both (is_begun w.own.transport) h.projects.own.begun (ap is_begun q)
      by linked q (unit v) f = (take_unit laws v ms f).taken
      by linked q (bye r) f = bye_taken k r ms f
      by linked q m f = popped m ms f (not_unit_over m ms f refl)
      by closing q (bye r) f = parted gone w.own.channel refl (bye r) ms f refl (not_linked_over closing q refl)
      by closing q over f = parted gone w.own.channel refl over ms f refl (not_linked_over closing q refl)
      by closing q m f = popped m ms f (not_linked_over closing q refl)
      by gone q (bye r) f = parted w.own.transport (put broken (over ∷ []) w.own.channel) h.projects.own.begun (bye r) ms f refl
          (not_linked_over gone q refl)
      by gone q m f = popped m ms f (not_linked_over gone q refl)

  -- ---- a close, a break, an end

  pub close_repeats : (k : ℕ) → stopped w.own ≡ true → stopped w.peer ≡ true → Repeats broken (closed broken k w) t u
  close_repeats k o d = same_core broken (closed broken k w) (both_over broken (closed broken k w) h.core h.projects.history refl o
      h.projects.peer.begun d h.projects.own.counted h.projects.peer.counted)

  pub break_repeats : (k j : ℕ) → Repeats true (cut_to k j w) t u
  break_repeats k j = same_core true (cut_to k j w) (assumption (
    cut_side k j broken w h.core h.projects.own,
    cut_side j k broken (turned_world w) (turned h.core) h.projects.peer,
  ))

  pub end_repeats : (k : ℕ) → Repeats broken (ended_at k w) t u
  end_repeats k = same_core broken (ended_at k w)
      (assumption (one_over broken (ended_at k w) h.core refl refl h.projects.own.counted, ended_peer broken w h.core h.projects k))
