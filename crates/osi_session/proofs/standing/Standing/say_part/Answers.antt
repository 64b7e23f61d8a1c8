use Rattle.osi_session.proofs.Vocabulary.{◌≡◌, ◌&&◌, if◌then◌else◌, arith, Bool, false, None, Option, Result, Seen}
use Rattle.std.specs.Result.{IsErr}
use Rattle.osi_session.specs.Standing.{SaysAs}
use Rattle.osi_session.proofs.standing.Standing.say_part.Goals as goal

not_parted : {E : Type 0} (r : Result Seen E) (a b m : Bool) (o : Option Seen) → IsErr r → false ≡ m →
    SaysAs r (if a && (b && m) then o else None)
not_parted r a b m o h k = grind arith

pub returns-in_err-may_send-clause-left : goal.returns-in_err-may_send-clause-left
returns-in_err-may_send-clause-left c =
    rw (← c.self.view_is, ← c.unwrap_or-sent.ensures) (not_parted _ _ _ _ _ c.from_residual.ensures.0 c.in_err-may_send.ensures.kept)
