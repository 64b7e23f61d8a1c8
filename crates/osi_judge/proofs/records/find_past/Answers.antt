use Rattle.std.proofs.Common.{arith}
use Rattle.osi_judge.proofs.each_record_is_noted.{none_noted, none_at_place, another_there, it_is_there}
use Rattle.osi_judge.proofs.records.find_past.Goals as goal

pub returns-then-number-places : goal.returns-then-number-places
returns-then-number-places c = none_noted c.args.number c.args.places.now c.args.pasts.now c.requires (omega arith)

pub returns-then-place-pasts : goal.returns-then-place-pasts
returns-then-place-pasts c = none_at_place c.args.number 0 c.args.places.now c.args.pasts.now c.requires (omega arith)

pub returns-then-past-number : goal.returns-then-past-number
returns-then-past-number c =
    another_there c.args.number 0 c.args.places.now c.args.pasts.now c.index-pasts-place.result c.requires c.index-pasts-place.is (grind arith)

pub returns : goal.returns
returns c = grind (arith, it_is_there)
