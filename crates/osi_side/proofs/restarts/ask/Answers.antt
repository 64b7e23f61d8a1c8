use Rattle.std.proofs.Common.{arith}
use Rattle.osi_side.proofs.Vocabulary.{word, said_by, way_of}
use Rattle.osi_side.proofs.walked.a_walk_to_a_restart_keeps_two.{asks, restarted_by}
use Rattle.osi_side.proofs.kept.a_walk_to_a_restart_is_one_function.{none_is, asks_not, asks_alone, asks_joined}
use Rattle.osi_side.proofs.restarts.ask.Goals as goal

pub returns-clause-gives : goal.returns-clause-gives
returns-clause-gives c = λ us later.
    let at = c.args.asker.at in
    let w = word (said_by c.args.asking.now.restart) in
    let q = word (said_by c.args.asking.now.shown) in
    let by = restarted_by w q c.args.octets at c.in-Some.said c.in-Some-says.shown c.in-Some.ensures.says c.in-Some-says.ensures.says in
    asks us later w c.args.octets at c.in-Some.said c.args.next.now.items c.join.new.next.items c.args.asker.asked c.in_ok-joined.joined
    c.in-Some.ensures.says
    ((c.in_ok-joined.ensures.gives w q c.args.octets c.requires.restart c.requires.shown c.requires.asked by).1 us later)

pub returns-clause-asked : goal.returns-clause-asked
returns-clause-asked c =
    let at = c.args.asker.at in
    let w = word (said_by c.args.asking.now.restart) in
    let q = word (said_by c.args.asking.now.shown) in
    let by = restarted_by w q c.args.octets at c.in-Some.said c.in-Some-says.shown c.in-Some.ensures.says c.in-Some-says.ensures.says in
    (c.in_ok-joined.ensures.gives w q c.args.octets c.requires.restart c.requires.shown c.requires.asked by).0

pub returns-in_default-clause-value : goal.returns-in_default-clause-value
returns-in_default-clause-value c = grind (arith, asks_not, none_is)

pub returns-in_default-says-clause-value : goal.returns-in_default-says-clause-value
returns-in_default-says-clause-value c = grind (arith, asks_alone, none_is)

pub returns-clause-value : goal.returns-clause-value
returns-clause-value c =
    asks_joined (way_of c.args.asking.now c.args.octets) c.args.asker.asked c.args.asker.at c.in-Some.said c.in-Some-says.shown
    c.args.next.now.items c.join.new.next.items c.in_ok-joined.joined c.in-Some.ensures.value c.in-Some-says.ensures.value
    c.in_ok-joined.ensures.value
