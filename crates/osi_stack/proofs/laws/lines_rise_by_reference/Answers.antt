use Rattle.osi_stack.proofs.given_up.the_invariant_stays.{disconnect_rise}
use Rattle.osi_stack.proofs.each_line.references_rise.{rise_connect, rise_session, rise_arrives, rise_first, rise_breaks}
use Rattle.osi_session.specs.Listening.{called}
use Rattle.osi_stack.proofs.laws.lines_rise_by_reference.Goals as goal

pub returns : goal.returns
returns c = record {
  begins = λ is_caller local. tt;
  connects = rise_connect;
  called = λ r call. rise_session r (called call);
  arrives = λ r effect unit e new a sound over rise. rise_arrives r effect unit e new a sound.known over rise;
  shown = rise_first 0;
  disconnected = disconnect_rise;
  broken = rise_breaks;
}
