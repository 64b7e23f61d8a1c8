use Rattle.osi_carrier.proofs.Vocabulary.{any_standing, one_by_one, arith, tsdus_in}
use Rattle.osi_carrier.proofs.written.pieces_are_written_straight.{none_kept}
use Rattle.osi_carrier.proofs.written.some_units_may_go_now.{gives_no_more, none_left}
use Rattle.osi_carrier.proofs.links.write_pieces.Goals as goal

pub returns : goal.returns
returns c =
    let first = any_standing c.args.link.now in
    let tsdus = tsdus_in c.args.pieces.now in
    let link = none_kept (any_standing c.write_some.new.link) (one_by_one first tsdus) c.write_some.ensures.alone
    (none_left first tsdus c.requires.limit c.requires.go) c.write_some.ensures.link in
    grind (arith, gives_no_more)

pub write_some-requires : goal.write_some-requires
write_some-requires c = grind arith
