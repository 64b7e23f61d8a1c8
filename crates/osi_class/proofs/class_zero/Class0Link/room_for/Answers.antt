use Rattle.osi_class.proofs.Vocabulary.{Ends, ◌≡◌, ap, arith}
use Rattle.osi_class.proofs.giving.the_units_of_one_tsdu.{room_of_class_0}
use Rattle.osi_class.proofs.class_zero.Class0Link.room_for.Goals as goal

pub returns-clause-units : goal.returns-clause-units
returns-clause-units c tsdu same none = grind (arith, room_of_class_0)

pub returns-clause-octets : goal.returns-clause-octets
returns-clause-octets c tsdu same none =
    let limit : c.self.inside.limit ≡ c.args.self.now.limit = ap (λ (e : Ends). e.limit) c.self.view_is in
    search (arith, room_of_class_0)
