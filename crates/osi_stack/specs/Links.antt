-- Which sessions have an open transport connection.
use Rattle.std.specs.Prelude.{◌≡◌, ℕ, Bool, true, ◌||◌, [], ◌∷◌, None, Some}
use Rattle.osi_carrier.specs.Orderly.{AreUpTo, IsOrderly}
use Rattle.osi_carrier.specs.Rows.{Rows, value_at}
use Rattle.osi_carrier.specs.State.{asked}
use Rattle.osi_carrier.specs.Told.{is_open}
use Rattle.osi_session.specs.Listening.{Listener}
use Rattle.osi_session.specs.Phases.{is_wait_cn, is_wait_transport, may_abort}
use Rattle.osi_session.specs.declared.phases.Phase.{Phase}
use Rattle.osi_stack.specs.Messages.{kept_at}
use Rattle.osi_stack.specs.State.{Line, End}

-- a session that awaits a CN, and one whose user may call it
abbrev pub needs_link : Phase → Bool
needs_link p = is_wait_cn p || may_abort p

-- While the carrier lasts, the transport connection of each such session is open.
abbrev pub HasLinks : End → Type 0
HasLinks e = e.carrier.ended ≡ None → (r : ℕ) (s : Listener) → kept_at r e.lines ≡ Some s → needs_link s.state.phase ≡ true →
    is_open r e.carrier ≡ true

-- And each session that waits for its transport connection has one that was requested.
abbrev pub HasAsked : End → Type 0
HasAsked e = e.carrier.ended ≡ None → (r : ℕ) (s : Listener) → kept_at r e.lines ≡ Some s → is_wait_transport s.state.phase ≡ true →
    value_at r e.carrier.live ≡ Some asked

-- no two lines have one reference
abbrev pub AreApart : Rows Line → Type 0
AreApart [] = Unit {0}
AreApart ((r, line) ∷ lines) = (value_at r lines ≡ None) × AreApart lines

-- The invariant of every end while its carrier lasts: its connections and its lines have references that were given,
-- each its own, and sessions have the transport connections that they need.
pub record Soundness (e : End) : Type 0 where
  pub orderly : IsOrderly e.carrier
  pub apart : AreApart e.lines
  pub known : AreUpTo e.carrier.given e.lines
  pub links : HasLinks e

abbrev pub IsSound : End → Type 0
IsSound e = e.carrier.ended ≡ None → Soundness e
