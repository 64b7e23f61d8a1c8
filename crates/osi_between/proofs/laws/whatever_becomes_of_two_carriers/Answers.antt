use Rattle.osi_between.proofs.between.every_move_keeps_the_invariant.{took, took_unit, sends, connects, closes, closes_ends, hands_over}
use Rattle.osi_between.proofs.between.every_move_keeps_the_invariant.{tells, ends_at, breaks, begins}
use Rattle.osi_between.proofs.between.nothing_is_in_flight_at_rest.{emptied}
use Rattle.osi_between.proofs.between.tsdus_are_handed_in_together.{all_handed_in}
use Rattle.osi_between.proofs.laws.whatever_becomes_of_two_carriers.Goals as goal

pub returns : goal.returns
returns c = record {
  begins = begins;
  taken = took;
  asked = connects;
  handed_in = sends;
  handed_in_all = all_handed_in;
  closed = closes;
  closed_in_0 = closes_ends;
  carried = hands_over;
  told = tells;
  ended = ends_at;
  broken = breaks;
  empty = emptied;
  taken_first = took_unit;
}
