use Rattle.osi_session.proofs.Vocabulary.{PlansPoint, allowed, minor_confirmed, MIA, words_sent, user_data_of, Step, MinorConfirm, ◌≡◌}
use Rattle.osi_session.proofs.Vocabulary.{refl, subst, sym, true, ℕ, Ok, PlannedPoint}
use Rattle.osi_session.specs.declared.plans.SentPoint.TheVariants as point
use Rattle.osi_session.proofs.tables.what_the_table_of_calls_answers.{sent_short}
use Rattle.osi_session.proofs.tables.points_that_are_expected.{point_passes, point_planned}
use Rattle.osi_session.proofs.sessions.Session.plan_minor_confirm.Goals as goal

pub minor_ack-requires : goal.minor_ack-requires
unfolding user_data_of
minor_ack-requires c = sent_short _ _ _ c.in_ok-serial.ensures.ok

pub returns-in-Ok-clause-planned : goal.returns-in-Ok-clause-planned
unfolding words_sent
returns-in-Ok-clause-planned c =
    let p : PlannedPoint = record { sent = c.in-Ok.sent; point = point.Confirmation c.in_ok-serial.serial } in
    let x : Step =
    record {
      next = record c.self.inside.state { numbers = minor_confirmed c.args.number c.self.inside.state.numbers };
      sent = MIA c.in_ok-serial.serial.number c.args.user_data.now;
    } in
    let same : c.in_ok-serial.serial.number ≡ c.args.number = c.in_ok-serial.ensures.number in
    subst (λ (n : ℕ). PlansPoint c.args.self.now (MinorConfirm n c.args.user_data.now) p) same
    (point_planned p true c.args.user_data.now c.self.view_is refl
    (subst (λ (n : ℕ). allowed c.self.inside.state (MinorConfirm n c.args.user_data.now) ≡ Ok x) (sym same) c.in_ok-serial.ensures.ok)
    c.self.invariant.0 c.in-Ok.ensures.written)

pub returns-in-Err-clause-refused : goal.returns-in-Err-clause-refused
returns-in-Err-clause-refused c = point_passes _ c.self.view_is c.in_ok-serial.ensures.ok
