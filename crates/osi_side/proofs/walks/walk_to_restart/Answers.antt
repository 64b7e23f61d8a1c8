use Rattle.osi_side.proofs.Vocabulary.{◌∙◌, ◌-◌, ap, Some, None, word, said_by, Way, askers}
use Rattle.osi_side.proofs.kept.a_walk_keeps_who_sends_on_the_way.{restarts_with}
use Rattle.osi_side.proofs.kept.a_walk_to_a_restart_is_one_function.{on_ok}
use Rattle.osi_side.proofs.walks.walk_to_restart.Goals as goal

pub returns-in-Some-clause-value : goal.returns-in-Some-clause-value
returns-in-Some-clause-value c =
    let w = word (said_by c.args.unit.now) in
    let m = c.args.member in
    on_ok c.walk_with.result c.args.next.now.items c.walk_with.new.next.items _ _
    (ap (λ (way : Way). askers c.args.heard.now way (c.args.before - m.taken) None (Some m)) (c.in-Some.ensures.value.1 c.args.octets)
    ∙ restarts_with c.args.heard.now w c.args.octets c.args.before m c.in-Some.ensures.value.0) c.walk_with.ensures.value
