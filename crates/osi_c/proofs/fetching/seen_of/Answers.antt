use Rattle.std.proofs.Common.{◌∙◌, ◌<◌, length, sym, subst, arith}
use Rattle.osi_c.specs.Fetching.{IsDoneByBoth}
use Rattle.osi_c.specs.Subjects.{told_by}
use Rattle.osi_c.proofs.each_connection_is_looked_at.{both_done_if, none_seen, one_more_seen}
use Rattle.osi_c.proofs.fetching.seen_of.Goals as goal

pub connections-init : goal.connections-init
connections-init c = (omega arith, none_seen c.args.seen (told_by c.args.told.now) c.args.pasts.now)

pub connections-preserved : goal.connections-preserved
connections-preserved c =
    let lt : c.connections.place < length c.args.pasts.now = omega arith in
    let before = c.connections.invariant.0 in (
      omega (arith, before),
      one_more_seen c.args.seen c.connections.place (told_by c.args.told.now) c.args.pasts.now c.index-pasts-place.result lt c.connections.invariant.1
          (subst (IsDoneByBoth (told_by c.args.told.now)) c.index-pasts-place.is
          (both_done_if c.is_done_by_both.result (told_by c.args.told.now) _ c.if-not-is_done_by_both.false c.is_done_by_both.ensures)),
    )
