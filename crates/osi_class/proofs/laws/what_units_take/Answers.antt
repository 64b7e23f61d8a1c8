use Rattle.osi_class.proofs.giving.units_have_at_most_so_many_octets.{all_take}
use Rattle.osi_class.proofs.laws.what_units_take.Goals as goal

pub returns : goal.returns
returns c = all_take
