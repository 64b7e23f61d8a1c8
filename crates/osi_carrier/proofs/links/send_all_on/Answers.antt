use Rattle.std.proofs.Common.{◌<◌, ◌≤◌, length, map, arith}
use Rattle.osi_carrier.proofs.Vocabulary.{any_standing, all_given, with_tsdus, written_by, packets}
use Rattle.osi_carrier.proofs.written.all_that_a_link_gives.{packets_most}
use Rattle.osi_carrier.proofs.links.send_all_on.Goals as goal

pub write_all-requires-clause-room : goal.write_all-requires-clause-room
write_all-requires-clause-room c =
    let tsdus = map (λ v. v.items) c.as_slice-lent.result.now in
    let then = with_tsdus (any_standing c.args.link.now) tsdus in
    let limit : 0 < then.ends.limit = omega arith in
    let most = c.what_units_take.ensures 9 then limit in
    let spare = c.in_ok-reserve.ensures.spare.1 in
    let units = packets_most c.args.peer (all_given then) in
    grind (arith, c.many_go_as_one_by_one.ensures.given (any_standing c.args.link.now) tsdus limit c.requires)

pub unreachable-requires : goal.unreachable-requires
unreachable-requires c =
    let then = with_tsdus (any_standing c.args.link.now) (map (λ v. v.items) c.as_slice-lent.result.now) in
    let limit : 0 < then.ends.limit = omega arith in
    let most = c.what_units_take.ensures 9 then limit in
    let room = c.in-Some.ensures.value c.requires in
    let spare = c.in_ok-reserve.ensures.spare.1 in
    let units = packets_most c.args.peer (all_given then) in
    let fits : length (packets (written_by c.args.peer then)) ≤ c.reserve.new.self.spare = omega arith in
    grind (arith, c.in_default-pump.ensures.enough)
