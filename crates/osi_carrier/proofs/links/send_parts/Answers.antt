use Rattle.osi_carrier.proofs.Vocabulary.{any_standing, all_given, with_tsdu, written_by, packets, ◌<◌, ◌≤◌, length, arith}
use Rattle.osi_carrier.proofs.written.a_tsdu_part_after_part.{leaves_nothing, part_goes}
use Rattle.osi_carrier.proofs.written.all_that_a_link_gives.{packets_most}
use Rattle.osi_carrier.proofs.written.some_units_may_go_now.{whole_goes}
use Rattle.osi_carrier.proofs.links.send_parts.Goals as goal

pub write_parts-requires-clause-room : goal.write_parts-requires-clause-room
write_parts-requires-clause-room c =
    let then = with_tsdu (any_standing c.args.link.now) c.as_slice-octets.result.now in
    let room = c.in_ok-reserve.ensures.spare.1 in
    grind (arith, packets_most c.args.peer (all_given then))

pub write_parts-requires-clause-alone : goal.write_parts-requires-clause-alone
write_parts-requires-clause-alone c = grind (arith, part_goes)

pub returns-then-room-gt0-clause-link : goal.returns-then-room-gt0-clause-link
returns-then-room-gt0-clause-link c =
    let old = any_standing c.args.link.now in
    let tsdu = c.as_slice-octets.result.now in
    let value = c.limit-limit.ensures.value in
    let limit : 0 < old.ends.limit = omega (arith, value) in
    let some : 0 < length (all_given (with_tsdu old tsdu)) = omega arith in
    let none = whole_goes old tsdu limit c.requires (part_goes old tsdu c.requires some).alone some (omega arith) in
    grind (arith, leaves_nothing)

pub unreachable-requires : goal.unreachable-requires
unreachable-requires c =
    let then = with_tsdu (any_standing c.args.link.now) c.as_slice-octets.result.now in
    let room = c.in_ok-reserve.ensures.spare.1 in
    let most = packets_most c.args.peer (all_given then) in
    let fits : length (packets (written_by c.args.peer then)) ≤ c.reserve.new.self.spare = omega arith in
    grind (arith, c.in_default.ensures.enough)
