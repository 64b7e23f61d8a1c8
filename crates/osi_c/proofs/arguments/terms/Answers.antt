use Rattle.std.proofs.Common.{refl}
use Rattle.osi_c.proofs.arguments.terms.Goals as goal

pub returns-clause-readable : goal.returns-clause-readable
returns-clause-readable c =
    let s = c.in_ok-new.ensures.range.0 refl in
    let w = c.in_ok-new-2.ensures.range.0 refl in
    (c.if-terms-gt3.false, s.0, s.1, w.0, w.1)
