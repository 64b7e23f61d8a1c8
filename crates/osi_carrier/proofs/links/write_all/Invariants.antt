use Rattle.osi_carrier.proofs.Vocabulary.{any_standing, one_by_one, packets, written_for, drop, map, AllGoAtOnce}
use Rattle.osi_carrier.proofs.written.pieces_are_written_straight.{IsSending}
use Rattle.osi_carrier.proofs.links.write_all.Given as goal

abbrev pub invariant-tsdus : goal.invariant-tsdus
invariant-tsdus l =
    IsSending l.fn.peer (one_by_one (any_standing l.fn.link) (map (λ v. v.items) l.fn.tsdus))
    (packets (written_for l.fn.peer (any_standing l.fn.link) (map (λ v. v.items) l.fn.tsdus)))
    l.fn.out.items (any_standing l.link) (map (λ v. v.items) (drop l.tsdu-index l.tsdus)) l.out.items l.out.spare
    × AllGoAtOnce (any_standing l.link) (map (λ v. v.items) (drop l.tsdu-index l.tsdus))
