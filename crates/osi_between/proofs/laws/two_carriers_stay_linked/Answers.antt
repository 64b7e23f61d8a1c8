use Rattle.osi_between.proofs.joined.feeding_keeps_carriers_joined.{fresh_linked, was_fed, was_called, tells, turned}
use Rattle.osi_between.proofs.laws.two_carriers_stay_linked.Goals as goal

pub returns : goal.returns
returns c = record {
  begins = fresh_linked;
  turned = turned;
  fed = was_fed;
  called = was_called;
  told = tells;
}
