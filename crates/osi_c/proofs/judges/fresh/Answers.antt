use Rattle.std.proofs.Common.{arith}
use Rattle.osi_c.proofs.judges.fresh.Goals as goal

pub returns : goal.returns
returns c = record {
  knows = record { holds = c.within.ensures; opens = c.new.ensures; seen = λ i lt. absurd (omega (arith, lt)) };
  told = c.new-2.ensures;
  text = c.new-3.ensures.items;
}
