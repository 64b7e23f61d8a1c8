use Rattle.osi_session.proofs.Vocabulary.{word, arith, ◌∙◌, ap, Bool, ◌||◌, map}
use Rattle.osi_session.proofs.tsdu.octets_are_counted.{walks_begin, walks_turn, walks_on, walks_stop, walks_end, walks_restarted}
use Rattle.osi_session.proofs.tsdu.octets_are_counted.{walks_item}
use Rattle.osi_session.proofs.counting.count_each.Goals as goal

pub units-init : goal.units-init
units-init c = grind (arith, walks_begin, word)

pub returns-then-is_bad : goal.returns-then-is_bad
returns-then-is_bad c =
    let w = walks_turn c.units.invariant (ap (map word) c.in-Some.ensures.steps) c.of-word.ensures in
    walks_stop w c.in_ok-is_bad.ensures.bad c.if-is_bad.true c.in_ok-is_bad.ensures.left

pub units-preserved : goal.units-preserved
units-preserved c =
    let w = walks_turn c.units.invariant (ap (map word) c.in-Some.ensures.steps) c.of-word.ensures in
    walks_on w c.in_ok-is_bad.ensures.bad c.if-is_bad.false c.in_ok-is_bad.ensures.left
    (c.either-restarts.ensures ∙ ap (λ (b : Bool). c.units.restarts || b) c.is_restart.ensures)

pub returns-then-restarts : goal.returns-then-restarts
returns-then-restarts c = walks_restarted (walks_end c.units.behind c.next.new.self c.next.result c.units.invariant c.next.ensures.steps
    (λ u e. c.in_default.not-Some u e) c.if-restarts.true)

pub returns : goal.returns
returns c = walks_item (walks_end c.units.behind c.next.new.self c.next.result c.units.invariant c.next.ensures.steps
    (λ u e. c.in_default.not-Some u e) c.if-restarts.false) c.in_ok-_is_bad.ensures.left
