use Rattle.std.proofs.Common.{Option, subst}
use Rattle.osi_session.specs.Standing.{Seen}
use Rattle.osi_side.specs.Walking.{HearsTo}
use Rattle.osi_witness.proofs.trails.is_still.Goals as goal

pub returns-in-None : goal.returns-in-None
returns-in-None c =
    let s = c.args.standing.now in
    (subst (λ (o : Option Seen). HearsTo s c.args.tsdu.now o) c.in-None.is c.in_ok-next.ensures) s
