use Rattle.std.proofs.Common.{arith, ◌∙◌}
use Rattle.std.proofs.lemmas.List.{length-set}
use Rattle.osi_listing.proofs.a_block_is_read_as_its_digits.{greatest_goes_on, values_end, values_go_on}
use Rattle.osi_listing.proofs.runs.values_of.Goals as goal

pub characters-preserved : goal.characters-preserved
characters-preserved c = record {
  within = omega arith;
  sized = length-set c.characters.each c.characters.at c.value_of-value.result ∙ c.characters.invariant.sized;
  each = values_go_on c.characters.each c.args.characters.now c.characters.at c.value_of-value.result (omega arith) (omega arith)
      c.value_of-value.ensures c.characters.invariant.each;
  greatest = rw c.larger-greatest.ensures (greatest_goes_on c.args.characters.now c.characters.at c.characters.greatest
      c.value_of-value.result (omega arith) c.value_of-value.ensures c.characters.invariant.greatest);
}

pub returns-clause-each : goal.returns-clause-each
returns-clause-each c =
    values_end c.characters.each c.args.characters.now c.characters.at (omega arith) (omega arith) c.characters.invariant.each
