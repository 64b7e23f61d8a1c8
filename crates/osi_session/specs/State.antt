-- The state of a session, and how its phase and tokens change.
use Rattle.osi_session.specs.declared.phases.Phase.{Phase}
use Rattle.osi_session.specs.declared.state.State.{State}
use Rattle.osi_message.specs.Tokens.{no_token}

-- no token is held in the phases that follow these
abbrev pub without_tokens : Phase → State → State
without_tokens p s = record s { phase = p; held = no_token }
