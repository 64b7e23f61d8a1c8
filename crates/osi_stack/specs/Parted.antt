-- Everything that happens to the session of one connection, in order.
use Rattle.std.specs.Prelude.{ℕ, List, [], ◌∷◌}
use Rattle.osi_session.specs.Listening.{Input}
use Rattle.osi_stack.specs.Moving.{to_session}
use Rattle.osi_stack.specs.State.{End}

abbrev pub to_session_along : ℕ → List Input → End → End
to_session_along r [] e = e
to_session_along r (input ∷ inputs) e = to_session_along r inputs (to_session r input e)
