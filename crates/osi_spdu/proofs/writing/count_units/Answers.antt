use Rattle.osi_spdu.proofs.Vocabulary.{units_behind, said_by, unit_octets, ◌≡◌, ◌+◌, ℕ, length, ap, sym, subst, arith}
use Rattle.osi_spdu.proofs.form.values_in_memory_are_in_their_form.{behind_formed}
use Rattle.osi_spdu.proofs.form.units_are_written_in_order.{IsCountingUnits, counting_start, counts_next, counting_end}
use Rattle.osi_spdu.proofs.parameters.lengths_are_stored_in_order.{keeping_start, keeping_within, keeping_next, keeping_end}
use Rattle.osi_spdu.proofs.writing.count_units.Goals as goal

pub units-init : goal.units-init
units-init c = grind (arith, counting_start, keeping_start, behind_formed)

pub unit_len-counted-requires : goal.unit_len-counted-requires
unit_len-counted-requires c = grind (arith, counts_next)

pub keep_length-requires-clause-within : goal.keep_length-requires-clause-within
keep_length-requires-clause-within c = grind (arith, keeping_within)

pub keep_length-requires-clause-small : goal.keep_length-requires-clause-small
keep_length-requires-clause-small c = grind (arith, counts_next)

pub overflow_add-count : goal.overflow_add-count
overflow_add-count c = grind arith

pub overflow_add-len : goal.overflow_add-len
overflow_add-len c = grind arith

pub units-preserved : goal.units-preserved
units-preserved c =
    let u = said_by c.in-Some.unit in
    let others = units_behind c.next.new.self in
    let all = units_behind c.args.behind in
    let n = counts_next c.in-Some.ensures.steps c.units.invariant.so_far in
    let info = ap length c.information.ensures in
    let same : c.units.len + (c.unit_len-counted.result.whole + length c.information.result.now) ≡ c.units.len +
    (length (unit_octets u) + length u.information) = omega arith in
    record {
      so_far = subst (λ (k : ℕ). IsCountingUnits others k all) (sym same) (n.next (omega arith));
      small = omega (arith, n.small);
      kept = keeping_next c.units.invariant.kept c.in-Some.ensures.steps c.unit_len-counted.ensures.body c.keep_length.ensures;
    }

pub returns-clause-value : goal.returns-clause-value
returns-clause-value c = counting_end c.in_default.ensures.steps.0 c.units.invariant.so_far

pub returns-clause-lengths : goal.returns-clause-lengths
returns-clause-lengths c = keeping_end c.units.invariant.kept c.in_default.ensures.steps.0
