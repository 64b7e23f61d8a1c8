use Rattle.osi_blameless.proofs.transport.pieces.a_packet_is_events.{becomes_by_call, becomes_by_fault, becomes_by_packet}
use Rattle.osi_blameless.proofs.transport.pieces.a_piece_is_events.{fed_so}
use Rattle.osi_blameless.proofs.transport.pieces.a_run_of_calls_is_events.{run_so}
use Rattle.osi_blameless.proofs.laws.transport.a_packet_is_events.Goals as goal

pub returns-clause-packet : goal.returns-clause-packet
returns-clause-packet c = becomes_by_packet

pub returns-clause-fault : goal.returns-clause-fault
returns-clause-fault c = becomes_by_fault

pub returns-clause-call : goal.returns-clause-call
returns-clause-call c = becomes_by_call

pub returns-clause-piece : goal.returns-clause-piece
returns-clause-piece c = fed_so

pub returns-clause-run : goal.returns-clause-run
returns-clause-run c = run_so
