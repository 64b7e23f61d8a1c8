-- A whole calling end ends: it puts nothing then, and what it has put still passes by its lines.
-- For the law on a whole end.
use Rattle.osi_blameless.proofs.transport.Vocabulary.{[], AllByRecursion, append-nil, arith, Bool, Connect, Connection, false, in_two}
use Rattle.osi_blameless.proofs.transport.Vocabulary.{is_some, IsOrderly}
use Rattle.osi_blameless.proofs.transport.Vocabulary.{Left, List, Local, MayCall, None, put_by, put_for, react, refl, request, Right, Some}
use Rattle.osi_blameless.proofs.transport.Vocabulary.{State}
use Rattle.osi_blameless.proofs.transport.Vocabulary.{state_is, subst, sym, true, user_does, UserCall, Value, Whole, ℕ, ◌++◌, ◌∙◌, ◌∷◌, ◌≡◌}
use Rattle.osi_blameless.proofs.transport.Vocabulary.{◌≤◌, ◌⊎◌}
use Rattle.osi_blameless.proofs.transport.small_facts_that_many_lemmas_use.{none_of as no_end}
use Rattle.osi_blameless.proofs.transport.requests.a_request_of_a_whole_end_is_new.{Newer}
use Rattle.osi_blameless.proofs.transport.requests.references_of_requests_rise.{unit_gives}
use Rattle.osi_blameless.proofs.transport.by_line.an_end_makes_a_call.{end_calls, nothing_so, same_up}
use Rattle.osi_blameless.proofs.transport.by_line.an_end_takes_a_unit.{end_takes}
use Rattle.osi_blameless.proofs.transport.by_line.what_a_unit_leaves_at_the_end.{two_outcome}
use Rattle.osi_blameless.proofs.transport.by_line.each_connection_has_its_line.{followed_at, AreGiven, Followed, Following, all_so}
use Rattle.osi_blameless.proofs.transport.by_line.each_connection_has_its_line.{over, AreSettled, IsAnswer}
use Rattle.osi_blameless.proofs.transport.by_line.each_connection_has_its_line.{IsAsking}
use Rattle.osi_blameless.proofs.transport.requests.how_a_calling_end_asks.{Idle, outcome_is, over_calls, over_takes}
use Rattle.osi_blameless.proofs.transport.requests.references_of_requests_rise.{all_gives, closed_gives, ended_gives, sent_gives}
use Rattle.osi_blameless.proofs.transport.by_line.what_an_end_still_has.{OffersTwo, SelectsTwo, all_last, over_not, sent_lasts}
use Rattle.osi_blameless.proofs.transport.names.names_stay_apart_though_one_is_lost.{AreNamedApart}
use Rattle.osi_blameless.proofs.transport.connections.what_the_other_side_closes.{IsDr, IsSane}
use Rattle.osi_blameless.proofs.transport.connections.which_units_are_for_a_connection.{IsDc, keep, those, names}
use Rattle.osi_blameless.proofs.transport.connections.what_is_live_at_an_end.{IsLive, shuts_of}
use Rattle.osi_blameless.proofs.transport.by_line.a_dc_follows_a_dr.{all_of as all_made}

-- ---- as it ends it puts nothing

never : {A : Type 0} (s t : State) → s.ended ≡ None → t.ended ≡ s.ended → is_some t.ended ≡ true → A
never s t lasts e h = over_not t.ended h (e ∙ lasts)

in_two_puts : (u : Value) (s : State) → s.ended ≡ None → is_some (in_two true u s).state.ended ≡ true → (in_two true u s).put ≡ []
in_two_puts u s lasts h = search arith

ended_puts : (b : Bool) (u : Value) (s : State) → is_some s.ended ≡ b → OffersTwo s → is_some (react u s).ended ≡ true → put_for u s ≡ []
ended_puts b u s e o h = grind (arith, over_takes, outcome_is, two_outcome, in_two_puts, state_is, no_end)

-- ---- the lines after the end

over_line : (local : Local) (put : List Value) (b strays : Bool) (s t : State) (coming later : List Value) (c : Connection) →
    is_some t.ended ≡ true → Following local put b strays s coming c → Following local put b strays t later c
over_line local put b strays s t coming later c h g = followed_at g refl g.spares refl (over h)

is_over : (local : Local) (w : Whole) → Followed local w → (t : State) (later : List Value) → is_some t.ended ≡ true →
    ((r : ℕ) → AllByRecursion IsDc (those r w.coming) → AllByRecursion IsDc (those r later)) → AllByRecursion (AreGiven t.given) later →
    w.end.given ≤ t.given →
    Followed local (record w { end = t; coming = later })
is_over local w f t later h early few up = record {
  lines = λ i c at tracked. over_line local w.put w.begun w.judge.course.disconnects.strays w.end t w.coming later c h
      (f.lines i c at tracked);
  waiting = λ i c at waits.
      grind (arith, over_not, f.waiting i c at waits);
  owned = f.owned;
  linked = λ lasts. over_not t.ended h lasts;
  answers = all_made (λ v. IsAnswer w.judge.course.loose w.judge.connections t v) later (λ v n x e lasts why. over_not t.ended h lasts);
  requests = all_so (λ v. (x : Connect) → v ≡ request x → IsAsking local w.end w.coming x)
      (λ v. (x : Connect) → v ≡ request x → IsAsking local t later x) w.put
      (λ v k x e. let a = k x e in grind (arith, over_not)) f.requests;
  two = f.two;
  silent = f.silent;
  zero = f.zero;
  some = f.some;
  few = few;
  seen = f.seen;
  settled = all_so (AreSettled w.judge.connections w.put w.end.given) (AreSettled w.judge.connections w.put t.given) w.put
      (grind arith) f.settled;
  lost = f.lost;
  shut = λ lasts. over_not t.ended h lasts;
}

with_nothing : (local : Local) (w : Whole) (t : State) (later units : List Value) → units ≡ [] →
    Followed local (record w { end = t; coming = later }) → Followed local (record w { end = t; put = w.put ++ units; coming = later })
with_nothing local w t later units none f = grind (arith, append-nil)

kept_early : (b : Bool) (v : Value) (vs : List Value) → AllByRecursion IsDc (keep b v vs) → AllByRecursion IsDc vs
kept_early b v vs h = grind arith

-- ---- a unit, and a call, whether the end ends or not

module _ (local : Local) (w : Whole) (f : Followed local w) (sane : IsSane w.judge) (peers : AreNamedApart Right w.judge.connections)
    (offers : OffersTwo w.end) (orderly : IsOrderly w.end) (local_is : w.end.local ≡ local) where
  abbrev after : Value → List Value → Whole
  after u later = record w { end = react u w.end; put = w.put ++ put_for u w.end; coming = later }

  takes_by : (b : Bool) (u : Value) (later : List Value) → is_some (react u w.end).ended ≡ b → w.coming ≡ u ∷ later →
      ((react u w.end).ended ≡ None → w.end.ended ≡ None) →
      (w.end.ended ≡ None → IsDr u → (m : ℕ) → shuts_of Left u ≡ Some m → IsLive w.end m ⊎ (w.judge.course.disconnects.strays ≡ true)) →
      SelectsTwo w.end u →
      Followed local (after u later)
  takes_by true u later h e was live_dr selects =
      with_nothing local w (react u w.end) later (put_for u w.end) (ended_puts (is_some w.end.ended) u w.end refl offers h)
      (is_over local w f (react u w.end) later h
      (λ r dcs. kept_early (names r u) u (those r later) (subst (λ (l : List Value). AllByRecursion IsDc (those r l)) e dcs))
      (grind (arith, unit_gives, all_so)) (unit_gives u w.end))
  takes_by false u later h e was live_dr selects = search (arith, no_end, end_takes)

  pub whole_takes : (u : Value) (later : List Value) → w.coming ≡ u ∷ later → ((react u w.end).ended ≡ None → w.end.ended ≡ None) →
      (w.end.ended ≡ None → IsDr u → (m : ℕ) → shuts_of Left u ≡ Some m → IsLive w.end m ⊎ (w.judge.course.disconnects.strays ≡ true)) →
      SelectsTwo w.end u →
      Followed local (after u later)
  whole_takes u later e was live_dr selects = takes_by (is_some (react u w.end).ended) u later refl e was live_dr selects

  abbrev called : UserCall → Whole
  called call = record w { end = user_does call w.end; put = w.put ++ put_by call w.end }

  over_call : (call : UserCall) → (user_does call w.end).given ≡ w.end.given → is_some (user_does call w.end).ended ≡ true →
      put_by call w.end ≡ [] → Followed local (called call)
  over_call call given h none =
      with_nothing local w (user_does call w.end) w.coming (put_by call w.end) none
      (is_over local w f (user_does call w.end) w.coming h (λ r e. e)
      (subst (λ (i : ℕ). AllByRecursion (AreGiven i) w.coming) (sym given) f.few)
      (subst (λ (i : ℕ). w.end.given ≤ i) (sym given) (same_up w.end.given)))

  -- the end had not ended, and ends
  ends_by : (call : UserCall) → w.end.ended ≡ None → is_some (user_does call w.end).ended ≡ true → Followed local (called call)
  ends_by call was h = grind (arith, never, sent_lasts, all_last, over_call, ended_gives)

  idle_by : (call : UserCall) → is_some w.end.ended ≡ true → Idle call w.end → Followed local (called call)
  idle_by call over_now k = grind (arith, nothing_so, over_call, sent_gives, all_gives, closed_gives, ended_gives)

  calls_by : (b d : Bool) (call : UserCall) → is_some w.end.ended ≡ b → is_some (user_does call w.end).ended ≡ d → MayCall call w.end →
      Newer w → Followed local (called call)
  calls_by b d call e h may newer = grind (arith, idle_by, over_calls, ends_by, no_end, end_calls)

  pub whole_calls : (call : UserCall) → MayCall call w.end → Newer w → Followed local (called call)
  whole_calls call may newer = grind (arith, calls_by)
