-- The history of each session of an end, and what holds of each of its lines.
use Rattle.std.specs.Prelude.{◌≡◌, true, List, [], ◌∷◌, ◌⊎◌, IfSome, IsSome}
use Rattle.std.specs.List.{AllByRecursion}
use Rattle.osi_carrier.specs.Rows.{Rows}
use Rattle.osi_session.specs.Listening.{Input, Listener, after_inputs}
use Rattle.osi_session.specs.Parts.{HasProfile}
use Rattle.osi_session.specs.Phases.{shows_loss}
use Rattle.osi_session.specs.Runs.{HasNumbersInWords}
use Rattle.osi_session.specs.Sessions.{awaits}
use Rattle.osi_stack.specs.Calls.{calls_with}
use Rattle.osi_stack.specs.State.{Line}
use Rattle.osi_stack.specs.declared.connecting.Connect.{Connect}

-- A session that began awaiting a CN, or with one to send, after everything that happened to it, one thing after the
-- other.
pub record CameAbout (s : Listener) : Type 0 where
  pub first : Listener
  pub fresh : (first ≡ awaits) ⊎ ((c : Connect) × (first ≡ calls_with c))
  pub inputs : List Input
  pub numbered : AllByRecursion HasNumbersInWords inputs
  pub is : after_inputs first inputs ≡ s

-- Once they are agreed, its functional units are half-duplex with any of the others, or only duplex.
abbrev pub IsProfiled : Listener → Type 0
IsProfiled s = HasProfile s.state

-- The session selectors of its CN are known if it was sent here or indicated: in each phase but the one in which a CN
-- is awaited, and those of a session that is aborted or has ended.
abbrev pub IsNamed : Line → Type 0
IsNamed line = IfSome line.session (λ s. shows_loss s.state.phase ≡ true → IsSome line.selectors)

-- a statement about each line
abbrev pub OfLines : (Line → Type 0) → Rows Line → Type 0
OfLines Q [] = Unit {0}
OfLines Q ((r, line) ∷ lines) = Q line × OfLines Q lines

-- and of each session
abbrev pub OfSession : (Listener → Type 0) → Line → Type 0
OfSession P line = IfSome line.session P

abbrev pub OfSessions : (Listener → Type 0) → Rows Line → Type 0
OfSessions P lines = OfLines (OfSession P) lines

abbrev pub AllCameAbout : Rows Line → Type 0
AllCameAbout lines = OfSessions CameAbout lines

abbrev pub AllProfiled : Rows Line → Type 0
AllProfiled lines = OfSessions IsProfiled lines

abbrev pub AllNamed : Rows Line → Type 0
AllNamed lines = OfLines IsNamed lines
