use Rattle.osi_listing.proofs.Vocabulary.{◌+◌, length, refl, arith, Lister}
use Rattle.osi_listing.proofs.what_is_written_is_the_listing.{feeds_by, feeds_on, on_behind}
use Rattle.osi_listing.proofs.pieces.Lister.take.Goals as goal

pub returns-in-Going-clause-fed : goal.returns-in-Going-clause-fed
returns-in-Going-clause-fed c = grind (arith, feeds_on)

pub returns-in-Faulty-clause-fed : goal.returns-in-Faulty-clause-fed
returns-in-Faulty-clause-fed c =
    let old = c.args.self.now in
    let new : Lister = record { work = old.work; octets = old.octets + length c.args.piece.now; stage = old.stage } in
    feeds_by old new c.args.piece.now c.args.text.now.items c.args.text.now.items refl (omega arith)
    (λ octets lines few h. on_behind old.stage old.work c.args.text.now.items c.args.piece.now c.in-Faulty.is octets lines h)
