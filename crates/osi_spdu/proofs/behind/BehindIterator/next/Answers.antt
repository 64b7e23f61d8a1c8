use Rattle.osi_spdu.proofs.Vocabulary.{later_of, said_by, left_at, units_from, ◌≡◌, ◌≤◌, ◌∙◌, ◌∷◌, length, ap, arith, rules}
use Rattle.osi_spdu.proofs.tsdu.units_after_the_first.{left_empty, left_goes, left_never_bad, nothing_stands}
use Rattle.osi_spdu.proofs.behind.BehindIterator.next.Goals as goal

pub returns-then-is_empty-clause-steps : goal.returns-then-is_empty-clause-steps
returns-then-is_empty-clause-steps c =
    let s = c.args.self.now in
    let none : length s.rest.now ≡ 0 = search rules in
    ap (λ o. units_from o (left_at s.room s.at s.rest.now)) c.in_ok-unit.was
    ∙ ap (λ us. said_by c.in_ok-unit.unit ∷ us) (left_empty s.room s.at s.rest.now none)

pub unreachable-requires : goal.unreachable-requires
unreachable-requires c =
    let s = c.args.self.now in
    let some : 1 ≤ length s.rest.now = search rules in
    left_never_bad s.room s.at s.rest.now c.in_default.field-0 some s.left c.in_default.ensures.value

pub overflow_sub-self : goal.overflow_sub-self
overflow_sub-self c =
    let s = c.args.self.now in
    let some : 1 ≤ length s.rest.now = search rules in
    omega (arith, (left_goes s.room s.at s.rest.now (later_of c.in-Ok.later) some s.left c.in-Ok.ensures.value).some)

pub invariant_of-self-clause-stands : goal.invariant_of-self-clause-stands
invariant_of-self-clause-stands c = nothing_stands c.args.self.now.rest.now (search rules)

pub invariant_of-self-clause-left : goal.invariant_of-self-clause-left
invariant_of-self-clause-left c = c.args.self.now.left

pub invariant_of-self-2-clause-left : goal.invariant_of-self-2-clause-left
invariant_of-self-2-clause-left c =
    let s = c.args.self.now in
    let some : 1 ≤ length s.rest.now = search rules in
    (left_goes s.room s.at s.rest.now (later_of c.in-Ok.later) some s.left c.in-Ok.ensures.value).left

pub returns-clause-steps : goal.returns-clause-steps
returns-clause-steps c =
    let s = c.args.self.now in
    let some : 1 ≤ length s.rest.now = search rules in
    ap (λ o. units_from o (left_at s.room s.at s.rest.now)) c.in_ok-unit.was
    ∙ ap (λ us. said_by c.in_ok-unit.unit ∷ us)
    (left_goes s.room s.at s.rest.now (later_of c.in-Ok.later) some s.left c.in-Ok.ensures.value).given

pub returns-clause-goes : goal.returns-clause-goes
returns-clause-goes c = (let shorter = ap length (returns-clause-steps c) in search rules)
