use Rattle.osi_between.proofs.way.units_are_taken_in_turn.{one_coming, more_coming, feeds_some}
use Rattle.osi_between.proofs.laws.what_was_written_is_taken.Goals as goal

pub returns : goal.returns
returns c = record {
  one = one_coming;
  more = more_coming;
  fed = feeds_some;
}
