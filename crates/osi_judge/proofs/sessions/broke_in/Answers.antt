use Rattle.osi_judge.proofs.Vocabulary.{arith}
use Rattle.osi_judge.proofs.who_is_to_blame.{none_blamed, one_blamed}
use Rattle.osi_judge.proofs.sessions.broke_in.Goals as goal

pub returns-then-place-live : goal.returns-then-place-live
returns-then-place-live c js h = none_blamed c.args.direction c.args.live.now js c.args.place (omega arith) h

pub returns : goal.returns
returns c js h = grind (arith, one_blamed)
