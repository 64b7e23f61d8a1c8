use Rattle.std.proofs.Common.{arith}
use Rattle.osi_side.proofs.Vocabulary.{◌∙◌, ap, word, said_by, is_steady}
use Rattle.osi_side.proofs.kept.a_tsdu_that_is_read_straight.{both_after, item_steady, none_after}
use Rattle.osi_side.proofs.straight.behind_both.Goals as goal

pub returns-in_default-clause-value : goal.returns-in_default-clause-value
returns-in_default-clause-value c =
    none_after c.args.heard.now (word (said_by c.args.unit.now)) c.args.octets c.args.before c.args.member c.in_ok-said.field-0
    c.requires.other c.requires.steady c.in_ok-said.ensures.value (grind arith)

pub first_place-requires-2-clause-steady : goal.first_place-requires-2-clause-steady
first_place-requires-2-clause-steady c = ap is_steady c.no_item-item.ensures ∙ item_steady

pub returns-clause-value : goal.returns-clause-value
returns-clause-value c =
    both_after c.args.heard.now (word (said_by c.args.unit.now)) _ c.args.octets c.args.before c.args.member c.in-Some.said
    c.in_ok-said.field-0 c.first_place-2.result c.requires.other c.requires.steady c.in_ok-said.ensures.value (grind arith)
    c.no_item-item.ensures c.first_place-2.ensures.value
