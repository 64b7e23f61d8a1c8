use Rattle.osi_stack.proofs.Vocabulary.{holding, arith, true, false, is_some, refl, sym, ap, ◌∙◌, carrying_lent, lent_event}
use Rattle.osi_stack.proofs.carried.events_one_after_the_other.{IsAttendedTo, some_attended, none_attended, heard_tsdu, on_ok, not_ok}
use Rattle.osi_stack.proofs.carried.events_one_after_the_other.{fetched, fetched_not}
use Rattle.osi_stack.proofs.feeding.feed_to_event.Goals.{Joined-told, in-None, in-Some}
use Rattle.osi_stack.proofs.feeding.feed_to_event.Goals as goal

-- what was told was handled, or memory ran out
told_by : (c : Joined-told) → IsAttendedTo c.match-told.heard (carrying_lent c.feed_lent-told.result.lent c.feed_lent-told.new.self)
    c.args.lines.now (holding c.match-told.carrier c.match-told.lines)
told_by c = elim c.match-told.branch [
  | in-None w ↦ grind (arith, none_attended)
  | in-Some w ↦ some_attended c.match-told.heard w.tell-heard.result c.feed_lent-told.result.lent w.in-Some.lent
      c.feed_lent-told.new.self w.tell-heard.new.carrier c.match-told.carrier c.args.lines.now w.tell-heard.new.self
      c.match-told.lines w.in-Some.is c.feed_lent-told.ensures.none
      (heard_tsdu w.tell-heard.result (lent_event w.in-Some.lent) w.in-Some.lent.reference.0 w.in-Some.lent.octets.now
      c.feed_lent-told.new.self w.tell-heard.new.carrier c.args.lines.now w.tell-heard.new.self refl
      w.tell-heard.ensures.ok w.tell-heard.ensures.held w.tell-heard.ensures.lost w.tell-heard.ensures.err
      w.tell-heard.ensures.needed) w.heard-is w.carrier-is w.lines-is
]

pub returns-in_default : goal.returns-in_default
returns-in_default c =
    let told = told_by (goal.at.returns-in_default c).Joined-told in
    fetched_not (holding c.args.carrier.now c.args.lines.now) c.args.octets.now c.feed_lent-told.result.fed
    (carrying_lent c.feed_lent-told.result.lent c.feed_lent-told.new.self)
    (holding c.match-told.carrier c.match-told.lines) (holding c.starve.new.carrier c.starve.new.lines) c.feed_lent-told.ensures.feeds
    (not_ok c.match-told.heard c.in_default.not-Ok told.err) told.held c.starve.ensures

pub returns-then-is_some : goal.returns-then-is_some
returns-then-is_some c =
    let told = told_by (goal.at.returns-then-is_some c).Joined-told in
    fetched (holding c.args.carrier.now c.args.lines.now) c.args.octets.now c.feed_lent-told.result.fed
    (carrying_lent c.feed_lent-told.result.lent c.feed_lent-told.new.self) (holding c.match-told.carrier c.match-told.lines)
    c.lose_all.new.self true c.feed_lent-told.ensures.feeds (on_ok c.match-told.heard _ c.in-Ok.is told.ok)
    (on_ok c.match-told.heard _ c.in-Ok.is told.none) told.held
    (ap is_some (sym c.ended.ensures) ∙ sym c.is_some.ensures ∙ c.if-is_some.true) c.lose_all.ensures

pub returns-else-is_some : goal.returns-else-is_some
returns-else-is_some c =
    let told = told_by (goal.at.returns-else-is_some c).Joined-told in
    fetched (holding c.args.carrier.now c.args.lines.now) c.args.octets.now c.feed_lent-told.result.fed
    (carrying_lent c.feed_lent-told.result.lent c.feed_lent-told.new.self) (holding c.match-told.carrier c.match-told.lines)
    c.match-told.lines false c.feed_lent-told.ensures.feeds (on_ok c.match-told.heard _ c.in-Ok.is told.ok)
    (on_ok c.match-told.heard _ c.in-Ok.is told.none) told.held
    (ap is_some (sym c.ended.ensures) ∙ sym c.is_some.ensures ∙ c.if-is_some.false) refl
