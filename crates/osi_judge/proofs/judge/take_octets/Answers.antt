use Rattle.osi_judge.proofs.Vocabulary.{◌∙◌, sym, take, length-take-le, streamed}
use Rattle.osi_judge.proofs.what_is_taken_of_a_piece_passes.{taken_looked, takes_of, some_of}
use Rattle.osi_judge.proofs.judge.take_octets.Goals as goal

pub returns-clause-ok : goal.returns-clause-ok
returns-clause-ok c = λ s h.
    let n = c.in_ok-used.used in
    let octets = c.args.octets.now in
    let old = streamed c.args.stream.now in
    let mid = streamed c.take.new.self in
    let e = c.in_ok-used.ensures in
    let count = length-take-le n octets e.within in
    let some = some_of n octets (sym c.is_empty.ensures ∙ c.if-is_empty.false) e.some count in
    taken_looked c.look_at-is_whole.result c.begins-begins.result c.args.direction
    (take n octets) c.args.proceedings.now c.begin_if.new.proceedings
    c.look_at-is_whole.new.proceedings old mid (streamed c.look_at-is_whole.new.stream) s h some
    (takes_of n octets old mid e.used e.within e.spent e.takes count) c.begins-begins.ensures c.begin_if.ensures c.look_at-is_whole.ensures
