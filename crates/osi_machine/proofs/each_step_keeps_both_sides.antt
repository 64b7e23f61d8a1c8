-- Every call and every unit that is taken keeps the invariant of both sides.
-- For the promises, and for the connections that the core simulates.
use Rattle.osi_machine.proofs.Vocabulary.{AllByRecursion, Granted, Answer, Call, Accept, Data, Give, Please, Minor, MinorConfirm, Major}
use Rattle.osi_machine.proofs.Vocabulary.{MajorConfirm, Restart, RestartConfirm, Release, ReleaseRefuse, HasSerial, Meaning, CN, AC, DT, GT}
use Rattle.osi_machine.proofs.Vocabulary.{PT, MIP, MIA, MAP, MAA, RS, RA, FN, NF, drops, allowed, Owner, Owners, turned_owner}
use Rattle.osi_machine.proofs.Vocabulary.{turned_owners, is_plain, AllFit, Core, CoreStep, call_at, take_at, Side, Left, Right}
use Rattle.osi_machine.proofs.Vocabulary.{stays_in_core, answered, taking, takes, at_side, core_step, core_run, IsNumberedStep, ◌≡◌, refl}
use Rattle.osi_machine.proofs.Vocabulary.{sym, subst, true, false, List, [], ◌∷◌, Ok, Err, arith, MajorDue, Ready, ReleaseDue}
use Rattle.osi_machine.proofs.Vocabulary.{major_confirmed, point_taken}
use Rattle.osi_machine.specs.Core.{turned, called}
use Rattle.osi_machine.proofs.basics.what_holds_in_each_phase.{by_test}
use Rattle.osi_machine.proofs.invariant.what_holds_of_both_sides.{Half, Pair, Stands}
use Rattle.osi_machine.proofs.invariant.each_step_keeps_one_side.{SessionLaws, turned_kept, IsGranted, granted, is_granted}
use Rattle.osi_machine.proofs.calls.a_call_and_its_unit.{confirmed_at, in_phase, moved_to}
use Rattle.osi_machine.proofs.calls.a_unit_that_changes_no_state.{data_stands, please_stands}
use Rattle.osi_machine.proofs.calls.an_answer_settles_the_tokens.{accept_stands}
use Rattle.osi_machine.proofs.calls.tokens_that_are_given.{give_stands}
use Rattle.osi_machine.proofs.calls.a_restart_is_answered.{restart_confirm_stands}
use Rattle.osi_machine.proofs.calls.a_release_and_its_refusal.{release_stands, refuse_stands}
use Rattle.osi_machine.proofs.calls.a_point_is_set.{minor_stands, major_stands}
use Rattle.osi_machine.proofs.calls.a_point_is_confirmed.{minor_confirm_stands, major_confirm_stands}
use Rattle.osi_machine.proofs.calls.a_restart_is_requested.{restart_stands}
use Rattle.osi_machine.proofs.takes.a_unit_that_cuts_nothing.{dropped_taken, stands_at, finish_calm, not_finished_calm}
use Rattle.osi_machine.proofs.takes.a_unit_that_cuts_nothing.{point_confirmed_calm, major_confirmed_calm, data_calm, please_calm}
use Rattle.osi_machine.proofs.takes.a_unit_that_cuts_nothing.{calm_taken}
use Rattle.osi_machine.proofs.takes.a_point.{minor_calm, major_calm, taken_minor}
use Rattle.osi_machine.proofs.takes.tokens_and_answers.{give_taken, restarted_taken, accept_taken, connect_taken}
use Rattle.osi_machine.proofs.takes.a_restart.{restart_taken}

-- ---- a call

call_stands : (w : Core) (c : Call) → stays_in_core c ≡ true → IsGranted w c → Stands w
    → Stands (answered w c (Ok (granted w.own.session c)))
call_stands w (Accept requirements serial sides sizes octets) k q s = accept_stands requirements serial sides sizes octets w q s
call_stands w (Data octets) k q s = data_stands octets w q s
call_stands w (Give tokens) k q s = give_stands tokens w q s
call_stands w (Please tokens octets) k q s = please_stands tokens octets w q s
call_stands w (Minor confirm octets) k q s = minor_stands confirm octets w q s
call_stands w (MinorConfirm n octets) k q s = minor_confirm_stands n octets w q s
call_stands w (Major octets) k q s = major_stands octets w q s
call_stands w (MajorConfirm octets) k q s = major_confirm_stands octets w q s
call_stands w (Restart n wishes octets) k q s = restart_stands n wishes octets w q s
call_stands w (RestartConfirm sides octets) k q s = restart_confirm_stands sides octets w q s
call_stands w (Release octets) k q s = release_stands octets w q s
call_stands w (ReleaseRefuse octets) k q s = refuse_stands octets w q s
call_stands w _ k q s = absurd (cc)

answer_stands : SessionLaws → (w : Core) (c : Call) (a : Answer) → HasSerial c → stays_in_core c ≡ true → allowed w.own.session c ≡ a
    → Stands w → Stands (answered w c a)
answer_stands laws w c (Ok g) small k e s =
    subst (λ (r : Granted). Stands (answered w c (Ok r))) (sym (laws.passed w.own.session c g e).gives)
    (call_stands w c k (is_granted laws w c g small e s.consistent) s)
answer_stands laws w c (Err d) small k e s = s

pub called_stands : SessionLaws → (w : Core) (c : Call) → HasSerial c → Stands w → Stands (called w c)
called_stands laws w c small s = search (arith, answer_stands)

-- ---- a unit that is taken

not_plain : (w : Core) (u : Meaning) (us : List Meaning) → w.peer.sent ≡ u ∷ us → Stands w → is_plain u ≡ true
not_plain w u us e s = let f : AllFit w.own.session (u ∷ us) = (stands_at w (u ∷ us) e s).own.fits in f.0.plain

unit_stands : SessionLaws → (w : Core) (u : Meaning) (us : List Meaning) → w.peer.sent ≡ u ∷ us → drops w.own.session u ≡ false → Stands w
    → Stands (taking w (u ∷ us))
unit_stands laws w (CN v u n x from to z o) us e d s = connect_taken laws v u n x from to z o w us e d s
unit_stands laws w (AC v u n sides z o) us e d s = accept_taken laws v u n sides z o w us e d s
unit_stands laws w (DT o) us e d s = calm_taken laws (DT o) (λ s. s) (data_calm o) w us e d s
unit_stands laws w (GT k) us e d s = give_taken laws k w us e d s
unit_stands laws w (PT k o) us e d s = calm_taken laws (PT k o) (λ s. s) (please_calm k o) w us e d s
unit_stands laws w (MIP c n o) us e d s = calm_taken laws (MIP c n o) taken_minor (minor_calm c n o) w us e d s
unit_stands laws w (MIA n o) us e d s = calm_taken laws (MIA n o) (confirmed_at n) (point_confirmed_calm n o) w us e d s
unit_stands laws w (MAP n o) us e d s = calm_taken laws (MAP n o) (moved_to MajorDue point_taken) (major_calm n o) w us e d s
unit_stands laws w (MAA n o) us e d s = calm_taken laws (MAA n o) (moved_to Ready major_confirmed) (major_confirmed_calm n o) w us e d s
unit_stands laws w (RS k n t o) us e d s = restart_taken laws k n t o w us e d s
unit_stands laws w (RA n sides o) us e d s = restarted_taken laws n sides o w us e d s
unit_stands laws w (FN o) us e d s = calm_taken laws (FN o) (in_phase ReleaseDue) (finish_calm o) w us e d s
unit_stands laws w (NF o) us e d s = calm_taken laws (NF o) (in_phase Ready) (not_finished_calm o) w us e d s
unit_stands laws w u us e d s = absurd (let p = not_plain w u us e s in cc)

pub taking_stands : SessionLaws → (w : Core) (us : List Meaning) → w.peer.sent ≡ us → Stands w → Stands (taking w us)
taking_stands laws w [] e s = s
taking_stands laws w (u ∷ us) e s = by_test (drops w.own.session u)
    (λ d. dropped_taken laws w u us e d s)
    (λ d. unit_stands laws w u us e d s)

-- ---- seen from the other side

twice : (o : Owner) → turned_owner (turned_owner o) ≡ o
twice o = grind arith

pub turned_twice : (o : Owners) → turned_owners (turned_owners o) ≡ o
turned_twice o = λ i t. twice (o t) i

turned_pair : (w : Core) → Stands w → Pair w.history w.peer w.own
turned_pair w s = search arith

pub turned_stands : (w : Core) → Stands w → Stands (turned w)
turned_stands w s = search (turned_kept, Half, turned_twice, turned_pair)

-- ---- a step, and a list of steps

side_stands : (f : Core → Core) → ((w : Core) → Stands w → Stands (f w)) → (side : Side) (w : Core) → Stands w → Stands (at_side side f w)
side_stands f step Left w s = step w s
side_stands f step Right w s = turned_stands (f (turned w)) (step (turned w) (turned_stands w s))

pub step_stands : SessionLaws → (w : Core) (step : CoreStep) → IsNumberedStep step → Stands w → Stands (core_step w step)
step_stands laws w (call_at side c) small s = side_stands (λ v. called v c) (λ v k. called_stands laws v c small k) side w s
step_stands laws w (take_at side) small s = side_stands takes (λ v k. taking_stands laws v v.peer.sent refl k) side w s

pub run_stands : SessionLaws → (w : Core) (steps : List CoreStep) → AllByRecursion IsNumberedStep steps → Stands w
    → Stands (core_run w steps)
run_stands laws w [] small s = s
run_stands laws w (step ∷ steps) small s = run_stands laws (core_step w step) steps small.1 (step_stands laws w step small.0 s)
