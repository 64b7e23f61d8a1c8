-- The invariant of a session.
use Rattle.std.specs.Prelude.{◌≡◌, ◌≤◌, ◌<◌, ℕ, true, false}
use Rattle.osi_spdu.specs.Sizes.{are_sizes}
use Rattle.osi_session.specs.declared.state.State.{State}
use Rattle.osi_session.specs.declared.numbers.Numbers.{Numbers}
use Rattle.osi_session.specs.Phases.{in_major, is_restart_due, may_hold}
use Rattle.osi_message.specs.Tokens.{no_token}

-- V(A) and V(R) are between the base and V(M), and V(M) is at most one above the last number
pub record AreOrdered (base : ℕ) (v : Numbers) : Type 0 where
  pub confirmed_from : base ≤ v.confirmed
  pub confirmed_to : v.confirmed ≤ v.next
  pub lowest_from : base ≤ v.lowest
  pub lowest_to : v.lowest ≤ v.next
  pub last : v.next ≤ 1000000

pub record IsSound (s : State) : Type 0 where
  pub ordered : AreOrdered s.base s.numbers
  pub first : s.proposed < 1000000
  -- a major point that is outstanding has a number
  pub major : in_major s.phase ≡ true → s.base < s.numbers.next
  -- a restart that is to be answered has a number
  pub restart : is_restart_due s.phase ≡ true → s.numbers.next < 1000000
  -- tokens are held only in few phases
  pub tokens : may_hold s.phase ≡ false → s.held ≡ no_token
  -- each size is one that a user may give
  pub sizes : are_sizes s.sizes ≡ true
