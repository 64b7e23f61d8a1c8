use Rattle.osi_class.proofs.between.calls_keep_the_flow as flows
use Rattle.osi_class.proofs.laws.credit_between.Goals as goal

pub returns-clause-steps : goal.returns-clause-steps
returns-clause-steps c = flows.turn_steps

pub returns-clause-begins : goal.returns-clause-begins
returns-clause-begins c = flows.agree_begins

pub returns-clause-kept : goal.returns-clause-kept
returns-clause-kept c = flows.agree_turns

pub returns-clause-owed : goal.returns-clause-owed
returns-clause-owed c = flows.agree_owed
