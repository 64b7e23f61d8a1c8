use Rattle.osi_stack.proofs.Vocabulary.{CameAbout, AllCameAbout, End, subst}
use Rattle.osi_stack.proofs.stream.what_was_written_is_read.{packet_is_unit}
use Rattle.osi_stack.proofs.given_up.the_invariant_stays.{disconnect_came}
use Rattle.osi_stack.proofs.each_line.what_stays_true_of_each_session.{packet_all, connect_all, call_came, feeds_all, told_all, breaks_all}
use Rattle.osi_stack.proofs.each_line.what_stays_true_of_each_session.{came_asking, came_true}
use Rattle.osi_stack.proofs.laws.a_session_is_what_its_inputs_made_it.Goals as goal

pub returns : goal.returns
returns c = record {
  connects = λ q e all. connect_all CameAbout q e (came_asking q) all;
  called = call_came;
  fed = feeds_all CameAbout (came_true c.what_happens_has_numbers.ensures.units);
  shown = told_all CameAbout;
  disconnected = disconnect_came;
  broken = breaks_all CameAbout;
  heard = λ e unit sendable all. subst (λ (x : End). AllCameAbout x.lines) (packet_is_unit e unit sendable)
      (packet_all CameAbout (came_true c.what_happens_has_numbers.ensures.units) _ e all);
}
