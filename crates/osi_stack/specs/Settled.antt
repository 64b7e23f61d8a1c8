-- The invariant of every end between any two calls.
use Rattle.std.specs.Prelude.{◌≡◌, ℕ, None, IsSome}
use Rattle.osi_carrier.specs.Orderly.{IsOrderly}
use Rattle.osi_stack.specs.Folds.{AllCameAbout, AllProfiled, AllNamed}
use Rattle.osi_stack.specs.Links.{HasAsked, IsSound}
use Rattle.osi_stack.specs.Messages.{kept_at}
use Rattle.osi_stack.specs.Ordered.{IsOrdered}
use Rattle.osi_stack.specs.State.{End, IsAttended}

-- once the carrier has ended no session is left
abbrev pub IsGone : End → Type 0
IsGone e = IsSome e.carrier.ended → (r : ℕ) → kept_at r e.lines ≡ None

pub record IsSettled (e : End) : Type 0 where
  -- while it lasts, its sessions have handled all events of its carrier
  pub attended : IsAttended e
  -- at most 64 connections are live, and none once it has ended
  pub orderly : IsOrderly e.carrier
  -- while it lasts, each session that can be called has an open connection
  pub sound : IsSound e
  -- and each that waits for its connection has one that was requested
  pub asks : HasAsked e
  -- its lines are in the order of their references
  pub ordered : IsOrdered e
  -- each session is what its inputs made of it
  pub came : AllCameAbout e.lines
  -- its functional units can be selected together
  pub profiled : AllProfiled e.lines
  -- a connection that was requested, here or there, has session selectors
  pub named : AllNamed e.lines
  -- and no session is left once it has ended
  pub gone : IsGone e
