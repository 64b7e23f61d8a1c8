use Rattle.std.proofs.Common.{arith}
use Rattle.osi_side.proofs.walked.a_walk_to_a_restart_keeps_two.{joins_apart, joins_between, joins_after}
use Rattle.osi_side.proofs.kept.two_sessions_are_compared.{seen_told}
use Rattle.osi_side.proofs.kept.a_walk_to_a_restart_is_one_function.{joined_first, joined_apart, joined_between, joined_after}
use Rattle.osi_side.proofs.restarts.join.Goals as goal

pub returns-in_default-clause-value : goal.returns-in_default-clause-value
returns-in_default-clause-value c = grind (arith, joined_first)

pub returns-then-not-is_same-clause-gives : goal.returns-then-not-is_same-clause-gives
returns-then-not-is_same-clause-gives c =
    joins_apart c.args.taken c.args.next.now.items c.keep.new.next.items c.args.asked c.args.said c.args.shown c.in-Some.before
    c.in-Some.is c.in_ok-keep.ensures.explains

pub returns-then-not-is_same-clause-value : goal.returns-then-not-is_same-clause-value
returns-then-not-is_same-clause-value c = grind (arith, joined_apart, seen_told)

pub returns-then-lies_between-clause-gives : goal.returns-then-lies_between-clause-gives
returns-then-lies_between-clause-gives c =
    joins_between c.args.taken c.args.next.now.items c.args.asked c.args.said c.args.shown c.in-Some.before c.in-Some.is
    c.if-not-is_same.ensures (c.lies_between.ensures.holds c.if-lies_between.true)

pub returns-then-lies_between-clause-value : goal.returns-then-lies_between-clause-value
returns-then-lies_between-clause-value c = grind (arith, joined_between, seen_told)

pub returns-clause-gives : goal.returns-clause-gives
returns-clause-gives c =
    joins_after c.args.taken c.args.next.now.items c.add.new.members.items c.args.asked c.args.said c.args.shown c.in-Some.before
    c.in-Some.is c.if-not-is_same.ensures c.in_ok-add.ensures.explained

pub returns-clause-value : goal.returns-clause-value
returns-clause-value c = grind (arith, joined_after, seen_told)
