use Rattle.osi_message.proofs.Vocabulary.{Resynchronize, unit_with, unit_of, is_second, user_data_of, ◌∙◌, ap, arith}
use Rattle.osi_message.specs.declared.messages.Message.TheVariants as message
use Rattle.osi_message.proofs.a_unit_is_made_of_its_meaning.{none_known, number_known, open_known, restart_known, restart_ack_known}
use Rattle.osi_message.proofs.messages.Message.second_unit.Goals as goal

pub unreachable-requires : goal.unreachable-requires
unfolding is_second
unreachable-requires c = grind (arith, is_second)

pub returns-in-Data-clause-units : goal.returns-in-Data-clause-units
unfolding unit_of
returns-in-Data-clause-units c = grind (arith, none_known)

pub returns-in-MinorPoint-clause-units : goal.returns-in-MinorPoint-clause-units
returns-in-MinorPoint-clause-units c = rw c.in-MinorPoint.is c.minor_point.ensures.units

pub returns-in-MinorAck-clause-units : goal.returns-in-MinorAck-clause-units
unfolding unit_of
returns-in-MinorAck-clause-units c = grind (arith, number_known)

pub returns-in-MinorAck-clause-fits : goal.returns-in-MinorAck-clause-fits
unfolding user_data_of
returns-in-MinorAck-clause-fits c = rw c.in-MinorAck.is (λ few. c.minor_ack.ensures.fits (omega arith))

pub returns-in-MajorPoint-clause-units : goal.returns-in-MajorPoint-clause-units
unfolding unit_of
returns-in-MajorPoint-clause-units c = grind (arith, open_known)

pub returns-in-MajorPoint-clause-fits : goal.returns-in-MajorPoint-clause-fits
unfolding user_data_of
returns-in-MajorPoint-clause-fits c = rw c.in-MajorPoint.is (λ few. c.major_point.ensures.fits (omega arith))

pub returns-in-MajorAck-clause-units : goal.returns-in-MajorAck-clause-units
unfolding unit_of
returns-in-MajorAck-clause-units c = grind (arith, number_known)

pub returns-in-MajorAck-clause-fits : goal.returns-in-MajorAck-clause-fits
unfolding user_data_of
returns-in-MajorAck-clause-fits c = rw c.in-MajorAck.is (λ few. c.major_ack.ensures.fits (omega arith))

pub returns-in-Restart-clause-units : goal.returns-in-Restart-clause-units
unfolding unit_of
returns-in-Restart-clause-units c =
    rw c.in-Restart.is
    (c.resynchronize.ensures.units ∙
    ap (unit_with Resynchronize) (restart_known c.in-Restart.wishes c.in-Restart.kind c.in-Restart.number c.in-Restart.user_data))

pub returns-in-Restart-clause-fits : goal.returns-in-Restart-clause-fits
unfolding user_data_of
returns-in-Restart-clause-fits c = rw c.in-Restart.is (λ few. c.resynchronize.ensures.fits (omega arith))

pub returns-in-RestartAck-clause-units : goal.returns-in-RestartAck-clause-units
unfolding unit_of
returns-in-RestartAck-clause-units c = grind (arith, restart_ack_known)

pub returns-in-RestartAck-clause-fits : goal.returns-in-RestartAck-clause-fits
unfolding user_data_of
returns-in-RestartAck-clause-fits c = rw c.in-RestartAck.is (λ few. c.resynchronize_ack.ensures.fits (omega arith))
