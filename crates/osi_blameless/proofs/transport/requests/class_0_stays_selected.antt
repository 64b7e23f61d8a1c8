-- Class 0 stays selected at the judge, whatever passes.
-- For the law on a whole end.
use Rattle.osi_blameless.proofs.transport.Vocabulary.{Some, ◌≡◌, Zero, Traffic as State, passes, Passing, arith}
use Rattle.osi_blameless.proofs.transport.requests.left_selects_no_class.{left_class}
pub use Rattle.osi_blameless.proofs.transport.requests.one_request_waits.{reached_class}

pub zero_stays : (p : Passing) (s : State) → s.course.class ≡ Some Zero → (passes p s).course.class ≡ Some Zero
zero_stays p s h = search (arith, reached_class, left_class)
