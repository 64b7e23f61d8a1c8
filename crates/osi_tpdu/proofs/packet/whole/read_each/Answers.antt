use Rattle.osi_tpdu.proofs.Vocabulary.{◌≤◌, length, arith, rules, err_from_is_err_and}
use Rattle.osi_tpdu.proofs.the_units_of_a_packet.{Ends-first, Ends-more, Ends-bad, Ends-last}
use Rattle.osi_tpdu.proofs.packet.whole.read_each.Goals as goal

pub units-init : goal.units-init
units-init c = record { ends = Ends-first c.args.packet.now; room = search rules }

pub returns-in_err-used : goal.returns-in_err-used
returns-in_err-used c =
    let e = err_from_is_err_and c.from_residual.result c.from_residual.ensures.1 in
    rw (e.1, e.2) (Ends-bad _ _ _ _ c.units.invariant.ends c.in_err-used.ensures.gives)

pub returns-then-is_empty : goal.returns-then-is_empty
returns-then-is_empty c = grind (arith, Ends-last)

pub units-preserved : goal.units-preserved
units-preserved c =
    let some : 1 ≤ length c.split_at.result.1.now = search rules in
    let more = Ends-more _ _ _ _ c.units.invariant.ends c.in_ok-used.ensures.gives (omega (arith, c.split_at.ensures.back_len))
    c.in_ok-used.ensures.least in
    record {
      ends = rw c.split_at.ensures.back more;
      room = omega (arith, c.units.invariant.room, c.split_at.ensures.back_len);
    }
