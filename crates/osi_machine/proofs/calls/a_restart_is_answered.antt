-- The call of RestartConfirm keeps the invariant of both sides.
-- For each_step_keeps_both_sides.
use Rattle.osi_machine.proofs.Vocabulary.{◌≡◌, refl, sym, ◌∙◌, ap, ℕ, true, List, arith, eq-eqb, State, Sides, Ready, Meaning, RA, Tokens}
use Rattle.osi_machine.proofs.Vocabulary.{settle, setting_of, of_answerer, is_restarting, is_restart_due, may_hold, RestartConfirm, Core}
use Rattle.osi_machine.proofs.Vocabulary.{Fits}
use Rattle.osi_machine.proofs.basics.what_holds_in_each_phase.{excluded, implied, implied_both}
use Rattle.osi_machine.proofs.channels.a_unit_is_dropped_bad_or_acted_on.{and_false}
use Rattle.osi_machine.proofs.channels.a_deaf_side_acts_on_nothing.{empty_view, deaf_end, deaf_heard, deaf_view}
use Rattle.osi_machine.proofs.invariant.what_holds_of_both_sides.{hearing, Stands, matched}
use Rattle.osi_machine.proofs.invariant.each_step_keeps_one_side.{Keeps}
use Rattle.osi_machine.proofs.calls.a_call_and_its_unit.{there}
use Rattle.osi_machine.proofs.calls.an_answer_is_taken.{Quiet, Settles, owes_answer, quiet, settles_stands}
use Rattle.osi_machine.proofs.calls.an_answer_settles_the_tokens.{settled_answers, answerer_there, asker_holds}

-- ---- both sides after the call

abbrev held_by : State → Sides → Tokens
held_by s a = of_answerer s.units (settle s.units s.wishes a)

abbrev confirmed : State → Sides → State
confirmed s a = record s { phase = Ready; held = held_by s a }

abbrev answer : State → Sides → List ℕ → Meaning
answer s a o = RA s.numbers.next (setting_of (settle s.units s.wishes a)) o

-- ---- what is in flight: nothing to this side, and nothing that the other heeds

module _ (w : Core) (due : is_restart_due w.own.session.phase ≡ true) (s : Stands w) where
  side : Quiet w
  side = quiet w s (implied is_restart_due owes_answer refl w.own.session.phase due)

  other_waits : is_restarting (there w).phase ≡ true
  other_waits = implied_both matched (λ p q. is_restart_due p) (λ p q. is_restarting q) refl w.own.session.phase (there w).phase
      side.meets due

  other_end : there w ≡ w.peer.session
  other_end = deaf_end w.peer.session w.own.sent other_waits s.peer.fits

  other_heard : hearing w.peer w.own ≡ w.peer.session
  other_heard = deaf_heard w.peer.session w.own.sent other_waits s.peer.fits

  other_asks : is_restarting w.peer.session.phase ≡ true
  other_asks = ap (λ (r : State). is_restarting r.phase) (sym other_end) ∙ other_waits

  other_wishes : (there w).wishes ≡ w.own.session.wishes
  other_wishes = (s.peer.meeting.restart other_waits).1 ∙ ap (λ (r : State). r.wishes) side.end

  settles : (a : Sides) (o : List ℕ) → Settles w (confirmed w.own.session a) (answer w.own.session a o)
  settles a o =
      let owed = excluded is_restarting is_restart_due refl (there w).phase other_waits in
      let asks = excluded is_restarting is_restart_due refl w.peer.session.phase other_asks in
      let listens = excluded is_restart_due is_restarting refl w.own.session.phase due in
      let bare = s.consistent.peer.sound.tokens (excluded is_restarting may_hold refl w.peer.session.phase other_asks) in
      let fits : Fits (there w) (answer w.own.session a o) =
      search (arith, other_waits, eq-eqb, side.end, side.there_units, other_wishes, settled_answers) in
      search (arith, side, other_waits, other_end, other_heard, other_wishes, asker_holds, answerer_there, deaf_view, empty_view, and_false)

pub restart_confirm_stands : (a : Sides) (o : List ℕ) → Keeps (RestartConfirm a o)
restart_confirm_stands a o w q s =
    settles_stands w (confirmed w.own.session a) (answer w.own.session a o) (settles w q.phase s a o) s q.kept
