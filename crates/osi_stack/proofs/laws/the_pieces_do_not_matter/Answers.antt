use Rattle.std.proofs.Common.{arith}
use Rattle.osi_stack.proofs.stream.how_calls_end_an_end.{pieces_last, pieces_end}
use Rattle.osi_stack.proofs.stream.an_end_is_what_its_packets_make.{calls_read, pieces_alike}
use Rattle.osi_stack.proofs.laws.the_pieces_do_not_matter.Goals as goal
use Rattle.osi_stack.proofs.in_step.what_a_look_finds.{look_alike}

pub returns : goal.returns
returns c = search (arith, calls_read, pieces_alike, pieces_last, pieces_end, look_alike)
