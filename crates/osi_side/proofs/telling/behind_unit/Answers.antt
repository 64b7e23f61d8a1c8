use Rattle.std.proofs.Common.{arith}
use Rattle.osi_side.proofs.Vocabulary.{word, said_by, the_remark}
use Rattle.osi_side.proofs.walked.sessions_after_a_unit.{first_so_far, next_so_far, last_so_far}
use Rattle.osi_side.proofs.kept.all_sessions_are_walked_from.{walked_first, walked_next, walked_last}
use Rattle.osi_side.proofs.telling.behind_unit.Goals as goal

pub members-init : goal.members-init
members-init c = grind (arith, first_so_far, walked_first)

pub members-preserved : goal.members-preserved
members-preserved c = record {
  explains = λ us later x h.
      next_so_far us later (the_remark (word
      (said_by c.args.unit.now)) c.args.octets c.args.before) c.args.members.now c.members.next.items c.walk.new.next.items
      c.members.member-index c.member-item.result c.members-test.true c.member-item.is (c.members.invariant.explains us later x h)
      (c.in_ok-walk.ensures.explains us later x h);
  value = walked_next c.args.heard.now (word
      (said_by c.args.unit.now)) c.args.octets c.args.before c.members.next.items c.walk.new.next.items
      _ c.args.members.now c.members.member-index c.member-item.result c.members-test.true c.member-item.is c.in_ok-walk.ensures.value
      c.members.invariant.value;
}

pub returns-clause-explains : goal.returns-clause-explains
returns-clause-explains c = λ us later x h.
    search (arith, last_so_far, c.members.invariant.explains us later x h)

pub returns-clause-value : goal.returns-clause-value
returns-clause-value c =
    walked_last c.args.heard.now (word (said_by c.args.unit.now)) c.args.octets c.args.before c.members.next.items _ c.args.members.now
    c.members.member-index c.members-test.false c.members.invariant.value
