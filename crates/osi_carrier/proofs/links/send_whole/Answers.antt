use Rattle.osi_carrier.proofs.Vocabulary.{drop_all, any_standing, octets_of, number_in, part_under, with_rest, GivesPart, Given, next}
use Rattle.osi_carrier.proofs.Vocabulary.{with_tsdu, ◌≡◌, ◌≤◌, true, Some, ◌++◌, length, subst, arith, length-append}
use Rattle.osi_carrier.proofs.written.all_that_a_link_gives.{whole_link, whole_written}
use Rattle.osi_carrier.proofs.written.a_part_in_its_data_unit.{part_octets, whole_part}
use Rattle.osi_carrier.proofs.written.the_length_of_a_unit.{given_size, header_most}
use Rattle.osi_carrier.proofs.links.send_whole.Goals as goal

pub put_part-requires-clause-room : goal.put_part-requires-clause-room
put_part-requires-clause-room c = grind (arith, given_size, header_most, part_octets, length-append)

pub returns : goal.returns
returns c =
    let tsdu = c.args.head.now ++ c.args.body.now in
    let old = with_tsdu (any_standing c.args.link.now) tsdu in
    let new = any_standing c.give_slot.new.self in
    let unit = part_under (number_in c.in-Some.slot) true tsdu in
    let long = length-append c.args.head.now c.args.body.now in
    let limit = c.limit.ensures.value in
    let fits : length tsdu ≤ (any_standing c.args.link.now).ends.limit = omega arith in
    let sent = subst (λ (u : Given). GivesPart u tsdu (any_standing c.args.link.now) new)
    (whole_part c.in-Some.slot (any_standing c.args.link.now).ends.limit tsdu fits) (c.in-Some.ensures.given tsdu) in
    let all : length tsdu ≤ octets_of unit = omega arith in
    let gives = subst (λ r. next old ≡ Some (unit, with_rest new r)) (drop_all (octets_of unit) tsdu all) sent.gives in
    grind (
      arith,
      whole_link,
      whole_written,
      c.all_is_given.ensures.some old new unit (omega arith) gives,
      c.all_is_given.ensures.none new sent.last,
    )
