-- The invariant of one side of a connection by itself, whatever the other does.
use Rattle.std.specs.Prelude.{◌≡◌, ◌+◌, Bool, true, ◌||◌, []}
use Rattle.std.specs.List.{AllByRecursion}
use Rattle.osi_machine.specs.Floor.{Phase, is_wait_cn, is_connecting, is_answering, is_major_due, is_releasing, is_restarting, from_base, IsSound, IsNumbered, HasSerial}
use Rattle.osi_machine.specs.Histories.{points}
use Rattle.osi_machine.specs.Core.{Party, Core, CoreStep, call_at, take_at}

-- before an AC is sent or taken
abbrev pub is_opening : Phase → Bool
is_opening p = is_wait_cn p || (is_connecting p || is_answering p)

-- nothing was seen, and no number was given
pub record IsFresh (x : Party) : Type 0 where
  pub base : x.session.base ≡ 0
  pub numbers : x.session.numbers ≡ from_base 0
  pub view : x.view ≡ []
  pub said : x.said ≡ []
  pub got : x.got ≡ []

pub record IsConsistent (x : Party) : Type 0 where
  -- the numbers are in order, and tokens are held in few phases
  pub sound : IsSound x.session
  -- V(M) is the base and the points that were seen
  pub count : x.session.numbers.next ≡ x.session.base + points x.view
  -- a major point is to be confirmed only if points were taken last
  pub major : is_major_due x.session.phase ≡ true → x.session.numbers.answers ≡ true
  -- a restart was requested only if it is selected
  pub asked : is_restarting x.session.phase ≡ true → x.session.units.resynchronize ≡ true
  -- with duplex only the caller requests release
  pub asker : is_releasing x.session.phase ≡ true → x.session.units.duplex ≡ true → x.session.is_caller ≡ true
  pub fresh : is_opening x.session.phase ≡ true → IsFresh x

-- both sides, and the numbers in flight are those that a point may have
pub record AreConsistent (w : Core) : Type 0 where
  pub own : IsConsistent w.own
  pub peer : IsConsistent w.peer
  pub own_small : AllByRecursion IsNumbered w.own.sent
  pub peer_small : AllByRecursion IsNumbered w.peer.sent

-- the number in a call is one that a point may have
abbrev pub IsNumberedStep : CoreStep → Type 0
IsNumberedStep (call_at side c) = HasSerial c
IsNumberedStep (take_at side) = Unit {0}
