use Rattle.std.proofs.Common.{◌≤◌, length, arith, rules}
use Rattle.osi_tpdu.proofs.the_units_of_a_packet.{Ends-first, Ends-more, Ends-last}
use Rattle.osi_tpdu.proofs.packet.whole.has_good_units.Goals as goal

pub units-init : goal.units-init
units-init c = record { ends = Ends-first c.args.packet.now; room = search rules }

pub returns-then-is_empty : goal.returns-then-is_empty
returns-then-is_empty c = grind (arith, Ends-last)

pub units-preserved : goal.units-preserved
units-preserved c =
    let some : 1 ≤ length c.split_at.result.1.now = search rules in
    let more = Ends-more _ _ _ _ c.units.invariant.ends c.in-Ok.ensures.gives (omega (arith, c.split_at.ensures.back_len))
    c.in-Ok.ensures.least in
    record {
      ends = rw c.split_at.ensures.back more;
      room = omega (arith, c.units.invariant.room, c.split_at.ensures.back_len);
    }
