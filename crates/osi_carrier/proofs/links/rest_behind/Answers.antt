use Rattle.std.proofs.Common.{◌≡◌, ℕ, List, IfOk, subst, arith}
use Rattle.osi_carrier.proofs.written.a_tsdu_part_after_part.{left_behind}
use Rattle.osi_carrier.proofs.links.rest_behind.Goals as goal

pub returns-clause-ok : goal.returns-clause-ok
returns-clause-ok c =
    subst (λ (l : List ℕ). IfOk c.from_slice.result (λ v. v.items ≡ l))
    (left_behind c.args.head.now c.args.body.now c.split_at.result.1.now c.args.octets _ (omega arith) c.split_at.ensures.back)
    c.from_slice.ensures.items
