use Rattle.std.proofs.Common.{arith}
use Rattle.osi_side.proofs.Vocabulary.{◌∙◌, sym, ap, Some, fold, word, said_by, added, listed}
use Rattle.osi_side.proofs.kept.a_walk_keeps_who_sends_on_the_way.{place_restart, place_other, place_steady}
use Rattle.osi_side.proofs.kept.a_walk_to_a_restart_is_one_function.{on_ok}
use Rattle.osi_side.proofs.walks.walk.Goals as goal

pub returns-then-is_restart_unit-clause-value : goal.returns-then-is_restart_unit-clause-value
returns-then-is_restart_unit-clause-value c = grind (arith, on_ok, place_restart)

pub returns-then-not-is_steady-clause-value : goal.returns-then-not-is_steady-clause-value
returns-then-not-is_steady-clause-value c = grind (arith, on_ok, place_other)

pub returns-in-Some-clause-value : goal.returns-in-Some-clause-value
returns-in-Some-clause-value c =
    on_ok c.add.result c.args.next.now.items c.add.new.members.items (listed (Some c.in-Some.place)) _
    (ap listed (sym c.in-Some.is) ∙ place_steady c.args.heard.now (word (said_by c.args.unit.now)) c.args.octets c.args.before c.args.member
    c.in_ok-place.field-0 (sym c.is_restart_unit.ensures ∙ c.if-is_restart_unit.false) (sym c.is_steady.ensures ∙ c.if-not-is_steady.false)
    c.in_ok-place.ensures.value) c.add.ensures.value

pub returns-in-None-clause-value : goal.returns-in-None-clause-value
returns-in-None-clause-value c =
    ap (fold added c.args.next.now.items)
    (ap listed (sym c.in-None.is) ∙ place_steady c.args.heard.now (word (said_by c.args.unit.now)) c.args.octets c.args.before c.args.member
    c.in_ok-place.field-0 (sym c.is_restart_unit.ensures ∙ c.if-is_restart_unit.false) (sym c.is_steady.ensures ∙ c.if-not-is_steady.false)
    c.in_ok-place.ensures.value)
