use Rattle.osi_between.proofs.between.what_two_carriers_have.{none_ahead, none_more, awaits_all, roles}
use Rattle.osi_between.proofs.laws.what_two_carriers_have.Goals as goal

pub returns : goal.returns
returns c = record {
  ahead = none_ahead;
  behind = none_more;
  awaits = awaits_all;
  roles = roles;
}
