use Rattle.std.proofs.Common.{arith}
use Rattle.osi_side.proofs.Vocabulary.{◌≡◌, ◌+◌, Option, None, subst, word, said_by, Walker, the_remark, Turns}
use Rattle.osi_side.proofs.walked.a_walk_loses_no_explanation.{at_some, walked_turn, walked_stop, walked_last}
use Rattle.osi_side.proofs.kept.a_walk_keeps_who_sends_on_the_way.{Steps, walk_on, walk_stops, walk_ends}
use Rattle.osi_side.proofs.walks.walk_through.Goals as goal

pub takes-preserved : goal.takes-preserved
takes-preserved c =
    let from : Walker = record { at = c.args.member; said_before = None } in
    let w = word (said_by c.args.unit.now) in
    let m = the_remark w c.args.octets c.args.before in
    let steps = subst (λ (r : Option Walker). Steps c.args.heard.now w c.args.octets c.takes.next.items c.turn.new.next.items
    c.takes.walker r)
    c.in-Some.is c.in_ok-on.ensures.value in record {
      explains = λ us later x h.
          walked_turn us later m c.args.next.now.items c.takes.next.items c.turn.new.next.items from c.takes.walker c.in-Some.on
          (c.takes.invariant.explains us later x h)
          (subst (λ (r : Option Walker). Turns us later m c.takes.next.items c.turn.new.next.items c.takes.walker r) c.in-Some.is
          (c.in_ok-on.ensures.turns c.args.before c.takes-test.true us later x h));
      value = walk_on c.args.heard.now w c.args.octets c.args.before c.takes.next.items c.turn.new.next.items _ c.takes.walker c.in-Some.on
          c.takes-test.true (at_some (λ (a : Walker). a.at.taken ≡ c.takes.walker.at.taken + 1) c.in_ok-on.field-0 c.in-Some.on c.in-Some.is
          c.in_ok-on.ensures.moved) steps c.takes.invariant.value;
    }

pub returns-in-None-clause-explains : goal.returns-in-None-clause-explains
returns-in-None-clause-explains c = λ us later x h.
    let from : Walker = record { at = c.args.member; said_before = None } in
    let m = the_remark (word (said_by c.args.unit.now)) c.args.octets c.args.before in
    walked_stop us later m c.args.next.now.items c.takes.next.items c.turn.new.next.items from c.takes.walker
    (c.takes.invariant.explains us later x h)
    (subst (λ (r : Option Walker). Turns us later m c.takes.next.items c.turn.new.next.items c.takes.walker r) c.in-None.is
    (c.in_ok-on.ensures.turns c.args.before c.takes-test.true us later x h))

pub returns-in-None-clause-value : goal.returns-in-None-clause-value
returns-in-None-clause-value c = grind (arith, walk_stops)

pub returns-clause-explains : goal.returns-clause-explains
returns-clause-explains c = λ us later x h.
    let from : Walker = record { at = c.args.member; said_before = None } in
    walked_last us later (word (said_by c.args.unit.now)) c.args.octets c.args.before c.args.next.now.items c.takes.next.items
    c.say_it.new.next.items from c.takes.walker c.in_ok-_last._last
    (c.takes.invariant.explains us later x h) (c.in_ok-_last.ensures.says us later) c.takes-test.false

pub returns-clause-value : goal.returns-clause-value
returns-clause-value c = grind (arith, walk_ends)
