use Rattle.osi_stack.proofs.Vocabulary.{arith, called}
use Rattle.osi_stack.proofs.given_up.the_invariant_stays.{disconnect_ordered}
use Rattle.osi_stack.proofs.carried.open_connections_stay_open.{SessionLaws}
use Rattle.osi_stack.proofs.each_line.lines_stay_in_order.{fresh_ordered, connect_ordered, call_ordered, feeds_ordered, first_ordered}
use Rattle.osi_stack.proofs.each_line.lines_stay_in_order.{carried_ordered, breaks_ordered}
use Rattle.osi_stack.proofs.each_session.what_the_tables_say.{session_laws, unopened}
use Rattle.osi_stack.proofs.laws.lines_rise_whatever_comes.Goals as goal

pub returns : goal.returns
returns c =
    let laws : SessionLaws = session_laws (grind (arith, unopened)) in
    record {
      begins = fresh_ordered;
      connects = connect_ordered;
      called = λ r call. call_ordered r (called call);
      fed = feeds_ordered laws;
      shown = first_ordered;
      carried = carried_ordered;
      disconnected = disconnect_ordered;
      broken = breaks_ordered;
    }
