use Rattle.osi_session.proofs.Vocabulary.{◌≡◌, if◌then◌else◌, arith, Bool, None, Option, Result, Seen}
use Rattle.std.specs.Result.{IsErr}
use Rattle.osi_session.specs.Standing.{SaysAs, said}
use Rattle.osi_session.proofs.standing.Standing.say.Goals as goal

not_left : {E : Type 0} (r : Result Seen E) (b : Bool) (o : Option Seen) → IsErr r → o ≡ None → SaysAs r (if b then o else None)
not_left r b o h k = grind arith

pub returns-in_err-next-clause-left : goal.returns-in_err-next-clause-left
unfolding said
returns-in_err-next-clause-left c = not_left _ _ _ c.from_residual.ensures.0 (rw c.of.ensures at c.in_err-next.ensures.left)
