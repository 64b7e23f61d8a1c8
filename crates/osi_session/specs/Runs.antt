-- The state with which a run of a session begins, and the numbers in its inputs.
use Rattle.std.specs.Prelude.{◌≡◌, ◌<◌, true, ◌||◌}
use Rattle.osi_spdu.specs.Sizes.{are_sizes}
use Rattle.osi_session.specs.declared.state.State.{State}
use Rattle.osi_message.specs.Tokens.{no_token}
use Rattle.osi_session.specs.Numbers.{from_base}
use Rattle.osi_session.specs.Phases.{is_wait_transport, is_wait_cn}
use Rattle.osi_session.specs.Calls.{HasSerial}
use Rattle.osi_message.specs.Numbered.{AreNumbered, AreNumberedWords}
use Rattle.osi_session.specs.Moves.{Input, called, taken}
use Rattle.osi_session.specs.Listening as listening

-- the numbers in what happens are those that a point may have
abbrev pub HasNumbers : Input → Type 0
HasNumbers (called c) = HasSerial c
HasNumbers (taken said) = AreNumbered said
HasNumbers _ = Unit {0}

-- the same for an input given as words
abbrev pub HasNumbersInWords : listening.Input → Type 0
HasNumbersInWords (listening.called c) = HasSerial c
HasNumbersInWords (listening.taken words) = AreNumberedWords words
HasNumbersInWords _ = Unit {0}

-- a called side that awaits a CN, or a calling side that awaits the transport connection
pub record IsFresh (s : State) : Type 0 where
  pub phase : (is_wait_transport s.phase || is_wait_cn s.phase) ≡ true
  pub held : s.held ≡ no_token
  pub base : s.base ≡ 0
  pub numbers : s.numbers ≡ from_base 0
  pub first : s.proposed < 1000000
  pub sizes : are_sizes s.sizes ≡ true
