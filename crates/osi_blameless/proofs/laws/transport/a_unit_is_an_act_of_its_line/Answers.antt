use Rattle.osi_blameless.proofs.transport.lines.a_unit_is_an_act_of_its_line.{after_is, begun_at, found_is}
use Rattle.osi_blameless.proofs.laws.transport.a_unit_is_an_act_of_its_line.Goals as goal

pub returns-clause-found : goal.returns-clause-found
returns-clause-found c = λ d v s n place c at named. found_is d v s n place c at named

pub returns-clause-after : goal.returns-clause-after
returns-clause-after c = λ d v s n place c at named. after_is d v s n place c at named

pub returns-clause-begins : goal.returns-clause-begins
returns-clause-begins c = begun_at
