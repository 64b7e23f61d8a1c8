use Rattle.std.proofs.Common.{◌+◌, drop, map, ap, arith}
use Rattle.osi_carrier.proofs.Vocabulary.{any_standing, drop_all, append-nil}
use Rattle.osi_carrier.proofs.written.a_tsdu_part_after_part.{leaves_nothing}
use Rattle.osi_carrier.proofs.written.pieces_are_written_straight.{sending_first, sending_next, rest_from, first_room}
use Rattle.osi_carrier.proofs.links.write_all.Goals as goal

pub tsdus-init : goal.tsdus-init
tsdus-init c = search (arith, sending_first)

pub write_parts-requires-clause-alone : goal.write_parts-requires-clause-alone
write_parts-requires-clause-alone c = c.tsdus.invariant.0.alone

pub write_parts-requires-clause-room : goal.write_parts-requires-clause-room
write_parts-requires-clause-room c =
    let others = map (λ v. v.items) (drop (c.tsdus.tsdu-index + 1) c.args.tsdus.now) in
    grind (arith, first_room c.args.peer (any_standing c.tsdus.link) c.deref.result.now others, rest_from)

pub tsdus-preserved : goal.tsdus-preserved
tsdus-preserved c =
    let others = map (λ v. v.items) (drop (c.tsdus.tsdu-index + 1) c.args.tsdus.now) in
    let rest = rest_from (λ v. v.items) c.args.tsdus.now c.tsdus.tsdu-index c.tsdu-item.result c.deref.result.now c.tsdus-test.true
    c.tsdu-item.is c.deref.ensures.value in
    let writing = rw rest at c.tsdus.invariant in
    let goes = c.all_go_at_once.ensures (any_standing c.tsdus.link) c.deref.result.now others writing.0.limit writing.1 in (
      sending_next _ _ _ _ _ _ _ _ _ _ _ _ writing.0 (grind (arith, leaves_nothing))
          c.write_parts.ensures.pumped c.write_parts.ensures.alone c.write_parts.ensures.written c.write_parts.ensures.spare,
      grind (arith, leaves_nothing),
    )

pub returns : goal.returns
returns c =
    let none = ap (map (λ v. v.items)) (drop_all c.tsdus.tsdu-index c.args.tsdus.now (omega arith)) in
    let writing = rw none at c.tsdus.invariant.0 in
    grind (arith, append-nil)
