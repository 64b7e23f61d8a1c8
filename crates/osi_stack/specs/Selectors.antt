-- The session selectors of a connection: those of the CN.
use Rattle.std.specs.Prelude.{ℕ, List, [], ◌∷◌, take, Option, Some, None, option_map}
use Rattle.osi_message.specs.Meanings.{Meaning, CN}
use Rattle.osi_message.specs.Words.{Words, as_message}
use Rattle.osi_session.specs.Listening.{Input, taken}
pub use Rattle.osi_session.specs.Shown.{is_connect, shows_connect}
use Rattle.osi_stack.specs.declared.selectors.SessionSelector.{SessionSelector}
use Rattle.osi_stack.specs.declared.selectors.SessionSelectors.{SessionSelectors}

pub record Selectors : Type 0 where
  pub calling : Option (List ℕ)
  pub called : Option (List ℕ)

-- the selectors that a unit names; only a CN does
abbrev pub selectors_of : Meaning → Option Selectors
selectors_of (CN version requirements serial wishes calling called sizes octets) = Some (record { calling = calling; called = called })
selectors_of _ = None

-- those of a CN that waits for its transport connection
abbrev pub selectors_sent : Option Meaning → Option Selectors
selectors_sent None = None
selectors_sent (Some unit) = selectors_of unit

-- the selectors of what arrives: a CN is the first and only unit of its TSDU
abbrev pub selectors_said : Words → Option Selectors
selectors_said [] = None
selectors_said (word ∷ words) = selectors_of (as_message word)

abbrev pub selectors_told : Input → Option Selectors
selectors_told (taken words) = selectors_said words
selectors_told _ = None

-- ---- in memory

abbrev pub session_selector : SessionSelector → List ℕ
session_selector s = take s.len s.octets

abbrev pub session_selectors : SessionSelectors → Selectors
session_selectors s = record { calling = option_map session_selector s.calling; called = option_map session_selector s.called }
