-- The effect on a session of a TSDU that it tries as one that it expects.
use Rattle.std.specs.Prelude.{◌≡◌, true, Option, Some, None, Result, IfOk, OnErr}
use Rattle.osi_session.specs.declared.expected.Expected.{Expected}
use Rattle.osi_session.specs.declared.expected.Expected.TheVariants.{Shown, Joined, Other}
use Rattle.osi_session.specs.declared.indications.Indication.{Indication}
use Rattle.osi_session.specs.Listening.{Listener, Move, rests}
use Rattle.osi_session.specs.Points.{only_shows}
use Rattle.osi_session.specs.Sessions.{takes_memory}
use Rattle.osi_session.specs.Shown.{shown_by}

-- the indication is the whole move apart from the state; a part that is joined indicates nothing; and any other TSDU
-- leaves the session as it was
abbrev pub Meets : Expected → Move → Listener → Listener → Type 0
Meets (Shown indication) move old new = move ≡ only_shows new (shown_by indication)
Meets Joined move old new = move ≡ rests new
Meets Other move old new = new ≡ old

-- what was joined shows this, or nothing
abbrev pub met_by : Option Indication → Expected
met_by None = Joined
met_by (Some indication) = Shown indication

-- An allocation failure changes nothing, and is possible only if something is indicated or joined.
pub record Tries {E : Type 0} (result : Result Expected E) (move : Move) (old new : Listener) : Type 0 where
  pub taken : IfOk result (λ e. Meets e move old new)
  pub err : OnErr result (new ≡ old)
  pub memory : OnErr result (takes_memory old move ≡ true)
