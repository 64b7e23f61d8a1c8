use Rattle.osi_spdu.proofs.Vocabulary.{units_behind, said_by, arith}
use Rattle.osi_spdu.proofs.form.units_are_written_in_order.{one_len, one_fits}
use Rattle.osi_spdu.proofs.parameters.lengths_are_stored_in_order.{one_kept}
use Rattle.osi_spdu.proofs.writing.count_behind.Goals as goal

pub unit_len-counted-requires : goal.unit_len-counted-requires
unit_len-counted-requires c = one_fits (units_behind c.args.behind.now) (said_by c.in-Some.unit.now) c.in-Some.ensures c.requires.fits

pub keep_length-requires-clause-small : goal.keep_length-requires-clause-small
keep_length-requires-clause-small c = grind (arith, one_fits)

pub returns-clause-value : goal.returns-clause-value
returns-clause-value c = grind (arith, one_len)

pub returns-clause-lengths : goal.returns-clause-lengths
returns-clause-lengths c =
    one_kept c.args.lengths.now c.keep_length.new.lengths c.unit_len-counted.result.body (units_behind c.args.behind.now)
    (said_by c.in-Some.unit.now) c.in-Some.ensures c.requires.room c.unit_len-counted.ensures.body c.keep_length.ensures
