use Rattle.std.proofs.Common.{◌∙◌, sym, arith}
use Rattle.osi_c.specs.Subjects.{told_by}
use Rattle.osi_c.proofs.each_connection_is_looked_at.{done_told, done_still}
use Rattle.osi_c.proofs.fetching.is_done_by.Goals as goal

pub returns-then-contains : goal.returns-then-contains
returns-then-contains c =
    done_told c.args.direction (told_by c.args.told.now) c.args.past.now c.number.result c.number.ensures
    (sym c.contains.ensures ∙ c.if-contains.true)

pub returns : goal.returns
returns c = search (arith, done_still)
