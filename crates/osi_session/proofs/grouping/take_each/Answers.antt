use Rattle.osi_session.proofs.Vocabulary.{word, Taker, ◌∙◌, sym, ap, Bool, ◌||◌, map, option_copied}
use Rattle.osi_session.proofs.tsdu.words_one_after_the_other.{walks_begin, walks_turn, walks_on, walks_end, takes, stops, ends_restarted}
use Rattle.osi_session.proofs.tsdu.words_one_after_the_other.{ends_with_item, item_takes}
use Rattle.osi_session.proofs.grouping.take_each.Goals as goal

pub units-init : goal.units-init
units-init c =
    let t : Taker = record { state = c.args.state.now; joined = option_copied c.args.joined } in
    walks_begin t (c.none-reactions.ensures.heard t.joined) c.requires c.none-reactions.ensures.ordered
    (c.of-first.ensures ∙ ap word c.first.ensures) (ap (map word) c.behind-behind.ensures)

pub then-requires : goal.then-requires
then-requires c = c.units.invariant.ordered

pub then-requires-2 : goal.then-requires-2
then-requires-2 c = c.units.invariant.ordered

pub returns-in-Err-clause-err : goal.returns-in-Err-clause-err
returns-in-Err-clause-err c =
    let w = walks_turn c.units.invariant (ap (map word) c.in-Some.ensures.steps) c.of-word.ensures in takes w c.in-Err.ensures.err

pub returns-then-is_bad-clause-heard : goal.returns-then-is_bad-clause-heard
returns-then-is_bad-clause-heard c =
    let w = walks_turn c.units.invariant (ap (map word) c.in-Some.ensures.steps) c.of-word.ensures in
    c.in-Ok.ensures.heard ∙ stops w.leads (sym c.in-Ok.ensures.bad ∙ c.if-is_bad.true)

pub units-preserved : goal.units-preserved
units-preserved c =
    let w = walks_turn c.units.invariant (ap (map word) c.in-Some.ensures.steps) c.of-word.ensures in
    walks_on w (sym c.in-Ok.ensures.bad ∙ c.if-is_bad.false) c.in-Ok.ensures.heard c.in-Ok.ensures.ordered
    (c.either-restarts.ensures ∙ ap (λ (b : Bool). c.units.restarts || b) c.is_restart.ensures)

pub returns-then-restarts-clause-heard : goal.returns-then-restarts-clause-heard
returns-then-restarts-clause-heard c =
    ends_restarted (walks_end c.units.behind c.next.new.self c.next.result c.units.invariant c.next.ensures.steps
    (λ u e. c.in_default.not-Some u e) c.if-restarts.true)

pub returns-then-restarts-clause-ordered : goal.returns-then-restarts-clause-ordered
returns-then-restarts-clause-ordered c = c.units.invariant.ordered

pub returns-in-Err-then-clause-err : goal.returns-in-Err-then-clause-err
returns-in-Err-then-clause-err c =
    let l = walks_end c.units.behind c.next.new.self c.next.result c.units.invariant c.next.ensures.steps
    (λ u e. c.in_default.not-Some u e) c.if-restarts.false in
    item_takes c.units.invariant.so_far l c.in-Err-then.ensures.err

pub returns-in-Ok-then-clause-heard : goal.returns-in-Ok-then-clause-heard
returns-in-Ok-then-clause-heard c =
    c.in-Ok-then.ensures.heard ∙ ends_with_item (walks_end c.units.behind c.next.new.self c.next.result c.units.invariant
    c.next.ensures.steps (λ u e. c.in_default.not-Some u e) c.if-restarts.false)
