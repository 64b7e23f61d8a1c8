use Rattle.osi_spdu.proofs.Vocabulary.{err_from_is_err_and, later_of, ◌≤◌, length, arith, rules}
use Rattle.osi_spdu.proofs.tsdu.units_after_the_first.{behind_none, behind_bad, others_bad, others_read}
use Rattle.osi_spdu.proofs.behind.Behind.read.Goals as goal

pub returns-then-is_empty : goal.returns-then-is_empty
returns-then-is_empty c = grind (arith, rules, behind_none)

pub returns-in_err-later : goal.returns-in_err-later
returns-in_err-later c =
    let some : 1 ≤ length c.args.octets.now = search rules in
    let e = err_from_is_err_and c.from_residual.result c.from_residual.ensures.1 in
    rw (e.1, e.2) (behind_bad 16 c.args.at c.args.octets.now _ (omega arith) some c.in_err-later.ensures.value)

pub returns-in_err-read_others : goal.returns-in_err-read_others
returns-in_err-read_others c =
    let some : 1 ≤ length c.args.octets.now = search rules in
    let e = err_from_is_err_and c.from_residual-in_err-read_others.result c.from_residual-in_err-read_others.ensures.1 in
    rw (e.1, e.2) (others_bad 16 c.args.at c.args.octets.now (later_of c.in_ok-later.later) _ (omega arith) some c.in_ok-later.ensures.value
    c.in_err-read_others.ensures.refused)

pub invariant_of-result-clause-left : goal.invariant_of-result-clause-left
invariant_of-result-clause-left c = c.in_ok-read_others.ensures.left

pub returns : goal.returns
returns c =
    let some : 1 ≤ length c.args.octets.now = search rules in
    others_read 16 c.args.at c.args.octets.now (later_of c.in_ok-later.later) (omega arith) some c.in_ok-later.ensures.value
    c.in_ok-read_others.ensures.left
