use Rattle.osi_class.proofs.Vocabulary.{Two, ◌≡◌, ◌∙◌, ap, arith, ◌<◌}
use Rattle.osi_class.proofs.giving.the_units_of_one_tsdu.{room_of_class_2}
use Rattle.osi_class.proofs.class_two.Class2Link.room_for.Goals as goal

pub returns-clause-units : goal.returns-clause-units
returns-clause-units c tsdu same none = grind (arith, room_of_class_2)

pub returns-clause-octets : goal.returns-clause-octets
returns-clause-octets c tsdu same none =
    let two : Two = c.args.self.now in
    let limit : c.self.inside.limit ≡ two.ends.limit = ap (λ (t : Two). t.ends.limit) c.self.view_is in
    let credit : c.credit.result ≡ two.flow.sender.credit =
    c.credit.ensures.value ∙ ap (λ (t : Two). t.flow.sender.credit) c.self.view_is in
    let room : 0 < two.ends.limit = omega arith in
    grind (arith, room_of_class_2 two.ends two.flow tsdu room none)
