use Rattle.std.proofs.Common.{arith}
use Rattle.osi_judge.specs.States.{comes_to}
use Rattle.osi_judge.proofs.a_capture_has_one_first_break.{first_held, nobody_held, still_held, one_first}
use Rattle.osi_judge.proofs.a_judge_holds_what_passed.{fed_holds}
use Rattle.osi_judge.proofs.the_first_break_of_transport_is_told_of_its_side.{first_mark}
use Rattle.osi_judge.proofs.moments_pass_one_after_the_other.{moments_of}
use Rattle.osi_judge.proofs.laws.the_first_break_is_the_earliest.Goals as goal

pub returns-clause-first : goal.returns-clause-first
returns-clause-first c capture t f judged = first_held t (comes_to capture) (fed_holds capture t f) judged

pub returns-clause-nobody : goal.returns-clause-nobody
returns-clause-nobody c capture t f judged none = nobody_held t (comes_to capture) (fed_holds capture t f) judged none

pub returns-clause-transport : goal.returns-clause-transport
returns-clause-transport c capture t f passed judged e layer = first_mark capture t f (fed_holds capture t passed) judged e layer

pub returns-clause-session : goal.returns-clause-session
returns-clause-session c capture t f passed judged e layer = grind (arith, still_held, fed_holds)

pub returns-clause-one : goal.returns-clause-one
returns-clause-one c = one_first

pub returns-clause-order : goal.returns-clause-order
returns-clause-order c = moments_of
