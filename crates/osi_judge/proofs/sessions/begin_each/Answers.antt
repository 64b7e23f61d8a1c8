use Rattle.osi_judge.proofs.Vocabulary.{◌<◌, length, arith, take-append_seam, packet_begins}
use Rattle.osi_judge.proofs.each_connection_is_kept.{begun_step, begun_all}
use Rattle.osi_judge.proofs.sessions.begin_each.Goals as goal

pub loop-connection-preserved : goal.loop-connection-preserved
loop-connection-preserved c js h =
    let within : c.loop-connection.connection-index < length c.loop-connection.connection-items = omega arith in
    begun_step (packet_begins c.args.direction) c.loop-connection.connection-items js c.loop-connection.connection-index _ c.begin.new.self
    within (c.loop-connection.invariant js h) c.begin.ensures

pub returns : goal.returns
returns c js h = grind (arith, take-append_seam, begun_all)
