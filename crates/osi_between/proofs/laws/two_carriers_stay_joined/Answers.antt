use Rattle.osi_between.proofs.joined.requests_beginnings_and_nothing_in_flight.{caller_asks, fresh_joined, still, still_messages}
use Rattle.osi_between.proofs.joined.joined_carriers_stay_joined.{takes_one, sends, closes}
use Rattle.osi_between.proofs.joined.feeding_keeps_carriers_joined.{joined_turned}
use Rattle.osi_between.proofs.laws.two_carriers_stay_joined.Goals as goal

pub returns : goal.returns
returns c = record {
  begins = fresh_joined;
  turned = joined_turned;
  taken = takes_one;
  asked = caller_asks;
  handed_in = sends;
  closed = closes;
  empty = λ s r n x y j a b. still s r n x y j a b;
  nothing_under_way = λ s r n x y j a b. still_messages s r n x y j a b;
}
