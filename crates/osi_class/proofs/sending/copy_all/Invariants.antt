use Rattle.std.proofs.Common.{◌≡◌, map, take}
use Rattle.osi_class.proofs.sending.copy_all.Given as goal

abbrev pub invariant-tsdus : goal.invariant-tsdus
invariant-tsdus l = map (λ v. v.items) l.copies.items ≡ map (λ v. v.items) (take l.tsdu-index l.tsdus)
