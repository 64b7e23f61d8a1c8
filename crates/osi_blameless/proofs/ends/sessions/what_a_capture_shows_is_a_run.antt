-- A capture that shows what a session sent, up to some place, with at least as many TSDUs before each as the session had
-- taken by then, shows a run of it as the judge has it.
-- For the laws of an end and its connections.
use Rattle.osi_blameless.proofs.ends.Vocabulary.{[], ap, arith, Bool, false, get_or, length, List, refl, ℕ, ◌++◌, ◌+◌, ◌<◌, ◌∷◌, ◌≡◌, ◌≤◌}
use Rattle.osi_blameless.proofs.ends.Vocabulary.{came}
use Rattle.osi_blameless.proofs.ends.Vocabulary.{Listener, Told, IsSentFrom, Pass, Runs, sends, AreSame, Shows}
use Rattle.osi_side.specs.Running as running

-- ---- how many had been taken

abbrev AllFrom : ℕ → List Told → Type 0
AllFrom taken [] = Unit {0}
AllFrom taken (t ∷ told) = (taken ≤ t.before) × AllFrom taken told

from_more : (taken n : ℕ) (told : List Told) → taken ≤ n → AllFrom n told → AllFrom taken told
from_more taken n [] few a = tt
from_more taken n (t ∷ told) few a = (let k : n ≤ t.before = a.0 in omega arith, from_more taken n told few a.1)

pass_from : (taken : ℕ) (tsdus : List (List ℕ)) (now later : List Told) → Pass taken tsdus now → AllFrom taken later →
    AllFrom taken (now ++ later)
pass_from taken [] [] later p a = a
pass_from taken (o ∷ os) (t ∷ now) later p a = (p.1, pass_from taken os now later p.2 a)
pass_from taken [] (t ∷ now) later p a = absurd p
pass_from taken (o ∷ os) [] later p a = absurd p

run_from : (us : List (List ℕ)) (closed : Bool) (l : Listener) (taken : ℕ) (told : List Told) → Runs us closed l taken told →
    AllFrom taken told
run_from us closed l taken told (running.rests _ _ _) = tt
run_from us closed l taken told (running.takes _ _ now later w p e) =
    grind (arith, pass_from, from_more, run_from us _ _ (taken + 1) later e)
run_from us closed l taken told (running.calls _ _ _ c now later serial p e) = pass_from taken _ now later p (run_from us _ _ taken later e)
run_from us closed l taken told (running.connects _ _ now later p e) = pass_from taken _ now later p (run_from us _ _ taken later e)
run_from us closed l taken told (running.misses _ _ reason _ w e) = run_from us _ _ taken told e
run_from us closed l taken told (running.loses _ _ _ e) = run_from us _ _ taken told e

-- ---- what is shown of the TSDUs of one step, and of those after it

-- the shown ones in place of those that were sent
abbrev shown_in : List Told → List Told → List Told
shown_in [] now = now
shown_in (t ∷ told) [] = []
shown_in (t ∷ told) (a ∷ now) = t ∷ shown_in told now

abbrev shown_after : List Told → List Told → List Told
shown_after [] now = []
shown_after (t ∷ told) [] = t ∷ told
shown_after (t ∷ told) (a ∷ now) = shown_after told now

passes_shown : (bound taken : ℕ) (tsdus : List (List ℕ)) (told now later : List Told) → Shows bound told (now ++ later) →
    Pass taken tsdus now → Pass taken tsdus (shown_in told now)
passes_shown bound taken tsdus [] now later s p = p
passes_shown bound taken [] (t ∷ told) [] later s p = tt
passes_shown bound taken (o ∷ os) (t ∷ told) [] later s p = absurd p
passes_shown bound taken [] (t ∷ told) (a ∷ now) later s p = absurd p
passes_shown bound taken (o ∷ os) (t ∷ told) (a ∷ now) later s p = grind (arith, passes_shown bound taken os told now later s.3 p.2)

shows_after : (bound : ℕ) (told now later : List Told) → Shows bound told (now ++ later) → Shows bound (shown_after told now) later
shows_after bound [] now later s = tt
shows_after bound (t ∷ told) [] later s = s
shows_after bound (t ∷ told) (a ∷ now) later s = shows_after bound told now later s.3

-- what is shown, and what is not, of a step and of what comes after it
record GoesOn (us : List (List ℕ)) (closed : Bool) (l : Listener) (taken : ℕ) (told : List Told) : Type 0 where
  later : List Told
  runs : Runs us closed l taken (told ++ later)

-- everything that is shown is in the step, or all of the step is shown
parted : (told now : List Told) (more : List Told) →
    (rest : List Told) × (shown_in told now ++ (shown_after told now ++ more) ≡ told ++ rest)
parted [] now more = (now ++ more, refl)
parted (t ∷ told) [] more = (more, refl)
parted (t ∷ told) (a ∷ now) more = let p = parted told now more in (p.0, ap (λ (x : List Told). t ∷ x) p.1)

stepped : (us : List (List ℕ)) (closed : Bool) (l : Listener) (taken : ℕ) (told now more : List Told) →
    Runs us closed l taken (shown_in told now ++ (shown_after told now ++ more)) →
    GoesOn us closed l taken told
stepped us closed l taken told now more run = grind (arith, parted told now more)

-- ---- the run

module _ (took us : List (List ℕ)) (same : AreSame us took) where
  shown_run : (closed : Bool) (l : Listener) (taken : ℕ) (told all : List Told) → Shows (length us) told all →
      Runs took closed l taken all → GoesOn us closed l taken told
  shown_run closed l taken [] all s run = record { later = []; runs = running.rests closed l taken }
  shown_run closed l taken (t ∷ told) all s (running.rests _ _ _) = absurd s
  shown_run closed l taken (t ∷ told) all s (running.takes _ _ now later w p e) =
      let shown = t ∷ told in
      let from = pass_from (taken + 1) (sends l (came (get_or took taken []))) now later p (run_from took _ _ (taken + 1) later e) in
      let few : taken < length us = let k : taken + 1 ≤ length us = first_few (taken + 1) t told (now ++ later) s from in omega arith in
      let here : get_or us taken [] ≡ get_or took taken [] = same taken few in
      let rest = shown_run _ _ (taken + 1) (shown_after shown now) later (shows_after (length us) shown now later s) e in
      stepped us false l taken shown now rest.later (running.takes l taken (shown_in shown now) (shown_after shown now ++ rest.later) w
      (grind (arith, passes_shown (length us) (taken + 1) (sends l (came (get_or took taken []))) shown now later s p))
      (grind arith))
    where
      first_few : (n : ℕ) (t : Told) (told all : List Told) → Shows (length us) (t ∷ told) all → AllFrom n all → n ≤ length us
      first_few n t told [] s a = absurd s
      first_few n t told (b ∷ all) s a = let i : b.before ≤ t.before = s.1 in grind arith
  shown_run closed l taken (t ∷ told) all s (running.calls _ _ _ c now later serial p e) =
      let shown = t ∷ told in
      let rest = shown_run _ _ taken (shown_after shown now) later (shows_after (length us) shown now later s) e in
      stepped us closed l taken shown now rest.later
      (running.calls closed l taken c (shown_in shown now) (shown_after shown now ++ rest.later) serial
      (passes_shown (length us) taken _ shown now later s p) rest.runs)
  shown_run closed l taken (t ∷ told) all s (running.connects _ _ now later p e) =
      let shown = t ∷ told in
      let rest = shown_run _ _ taken (shown_after shown now) later (shows_after (length us) shown now later s) e in
      stepped us false l taken shown now rest.later (running.connects l taken (shown_in shown now) (shown_after shown now ++ rest.later)
      (passes_shown (length us) taken _ shown now later s p) rest.runs)
  shown_run closed l taken (t ∷ told) all s (running.misses _ _ reason _ w e) =
      let rest = shown_run _ _ taken
      (t ∷ told) all s e in record { later = rest.later; runs = running.misses l taken reason ((t ∷ told) ++ rest.later) w rest.runs }
  shown_run closed l taken (t ∷ told) all s (running.loses _ _ _ e) =
      let rest = shown_run _ _ taken
      (t ∷ told) all s e in record { later = rest.later; runs = running.loses l taken ((t ∷ told) ++ rest.later) rest.runs }

pub shown_sent : (begin : Listener) (took us : List (List ℕ)) (told all : List Told) → AreSame us took → Shows (length us) told all →
    IsSentFrom begin took all → IsSentFrom begin us told
shown_sent begin took us told all same s sent =
    let run = shown_run took us same false begin 0 told (all ++ sent.later) (shows_more (length us) told all sent.later s) sent.runs in
    record { later = run.later; runs = run.runs }
  where
    shows_more : (bound : ℕ) (told all later : List Told) → Shows bound told all → Shows bound told (all ++ later)
    shows_more bound [] all later s = tt
    shows_more bound (t ∷ told) [] later s = absurd s
    shows_more bound (t ∷ told) (a ∷ all) later s = (s.0, s.1, s.2, shows_more bound told all later s.3)
