use Rattle.osi_carrier.proofs.Vocabulary.{link_of, place_of, arith, ◌≡◌, None, ap}
use Rattle.osi_carrier.proofs.references.the_row_at_a_place.{nowhere}
use Rattle.osi_carrier.proofs.rows.Connections.open_at.Goals as goal

pub returns-in_default-clause-none : goal.returns-in_default-clause-none
returns-in_default-clause-none c = λ _.
    let none : place_of c.args.reference c.args.self.now ≡ None = grind arith in
    ap link_of (nowhere c.args.reference c.args.self.now none)
