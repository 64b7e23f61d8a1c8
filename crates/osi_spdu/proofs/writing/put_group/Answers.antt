use Rattle.std.proofs.Common.{◌≡◌, ◌++◌, ◌∙◌, ℕ, List, ap, sym, arith, append_assoc}
use Rattle.osi_spdu.proofs.Vocabulary.{body_length, said_by, units_behind, unit_octets, tsdu_octets}
use Rattle.osi_spdu.proofs.form.units_are_written_in_order.{first_octets, first_len}
use Rattle.osi_spdu.proofs.form.values_in_memory_are_in_their_form.{group_plain}
use Rattle.osi_spdu.proofs.writing.put_group.Goals as goal

pub put_unit-requires-clause-room : goal.put_unit-requires-clause-room
put_unit-requires-clause-room c =
    let g = c.args.group.now in
    grind (arith, unit_octets, first_len (said_by g.first) (units_behind g.behind) (group_plain g), group_plain g)

pub put_unit-requires-clause-kind : goal.put_unit-requires-clause-kind
put_unit-requires-clause-kind c = c.requires.kind ∙ ap (λ u. u.kind) (sym c.first.ensures)

pub put_unit-requires-clause-groups : goal.put_unit-requires-clause-groups
put_unit-requires-clause-groups c = grind arith

pub put_unit-requires-clause-body : goal.put_unit-requires-clause-body
put_unit-requires-clause-body c = c.requires.first ∙ ap body_length (sym c.first.ensures)

pub put_behind-requires-clause-lengths : goal.put_behind-requires-clause-lengths
put_behind-requires-clause-lengths c = grind arith

pub put_behind-requires-clause-room : goal.put_behind-requires-clause-room
put_behind-requires-clause-room c =
    let g = c.args.group.now in
    grind (arith, unit_octets, tsdu_octets, first_len (said_by g.first) (units_behind g.behind) (group_plain g), group_plain g)

pub returns-clause-spare : goal.returns-clause-spare
returns-clause-spare c =
    let g = c.args.group.now in
    grind (arith, unit_octets, tsdu_octets, first_len (said_by g.first) (units_behind g.behind) (group_plain g), group_plain g)

pub returns-clause-items : goal.returns-clause-items
returns-clause-items c =
    let g = c.args.group.now in
    let u = said_by g.first in
    let rest = tsdu_octets (units_behind g.behind) in
    let before = c.args.out.now.items in
    let first : unit_octets (said_by c.first.result.now) ≡ unit_octets u = ap unit_octets c.first.ensures in
    let behind : tsdu_octets (units_behind c.others.result.now) ≡ rest = ap tsdu_octets c.others.ensures in
    c.put_behind.ensures.items ∙ ap (λ (t : List ℕ). c.put_unit.new.out.items ++ t) behind
    ∙ ap (λ (t : List ℕ). t ++ rest) (c.put_unit.ensures.items ∙ ap (λ (t : List ℕ). before ++ t) first) ∙
    append_assoc before (unit_octets u) rest
    ∙ ap (λ (t : List ℕ). before ++ t) (sym (first_octets u (units_behind g.behind) (group_plain g)))
