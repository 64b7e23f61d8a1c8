use Rattle.osi_tpdu.proofs.Vocabulary.{◌≤◌, length, arith, rules, nil_from_length}
use Rattle.osi_tpdu.proofs.which_units_another_may_follow.{first_known, first_read, first_stands, header_known}
use Rattle.osi_tpdu.proofs.the_units_of_a_packet.{first_left, nothing_left, read_fits}
use Rattle.osi_tpdu.proofs.packet.UnitsIterator.next.Goals as goal

pub returns-then-is_empty-clause-steps : goal.returns-then-is_empty-clause-steps
returns-then-is_empty-clause-steps c = grind (arith, nil_from_length, nothing_left)

pub known_front-used-requires-clause-fields : goal.known_front-used-requires-clause-fields
known_front-used-requires-clause-fields c header user e =
    let s = c.args.self.now in
    let some : 1 ≤ length s.rest.now = search rules in
    first_known s.at s.rest.now (header, user) some s.readable e

pub known_front-used-requires-clause-header : goal.known_front-used-requires-clause-header
known_front-used-requires-clause-header c = grind (arith, rules, header_known)

pub invariant_of-self : goal.invariant_of-self
invariant_of-self c =
    let s = c.args.self.now in
    let some : 1 ≤ length s.rest.now = search rules in
    let first = first_stands s.at s.rest.now _ some s.readable c.known_front-used.ensures.gives in
    let g = first_left s.at s.rest.now _ some s.readable first.2 in
    record {
      room = omega (arith, s.room, c.split_at.ensures.back_len);
      readable = rw (c.split_at.ensures.back, c.known_front-used.ensures.used) g.readable;
    }

pub known_fields-requires-clause-known : goal.known_fields-requires-clause-known
known_fields-requires-clause-known c = grind (arith, first_stands)

pub returns-clause-steps : goal.returns-clause-steps
returns-clause-steps c =
    let s = c.args.self.now in
    let some : 1 ≤ length s.rest.now = search rules in
    let read = first_read s.at s.rest.now _ _ c.known_front-used.ensures.gives c.known_fields.ensures in
    let g = first_left s.at s.rest.now _ some s.readable read in (
      rw (c.split_at.ensures.back, c.known_front-used.ensures.used) g.given,
      read_fits s.at s.rest.now _ _ c.known_front-used.ensures.octets c.known_front-used.ensures.gives c.known_fields.ensures,
    )

pub returns-clause-goes : goal.returns-clause-goes
returns-clause-goes c =
    let s = c.args.self.now in
    let some : 1 ≤ length s.rest.now = search rules in
    let read = first_read s.at s.rest.now _ _ c.known_front-used.ensures.gives c.known_fields.ensures in
    let g = first_left s.at s.rest.now _ some s.readable read in
    search rules
