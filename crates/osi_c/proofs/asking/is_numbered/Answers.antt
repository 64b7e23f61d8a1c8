use Rattle.std.proofs.Common.{arith}
use Rattle.osi_judge.specs.Connections.{numbered}
use Rattle.osi_c.specs.Fed.{fed}
use Rattle.osi_c.proofs.what_is_asked_of_a_judge.{found_some}
use Rattle.osi_c.proofs.asking.is_numbered.Goals as goal

pub returns : goal.returns
returns c = λ settled capture k.
    grind (
      arith,
      found_some c.connection.result (numbered c.args.number (fed capture).course.sessions)
          (c.connection.ensures.held (fed capture) k.holds settled.judged),
    )
