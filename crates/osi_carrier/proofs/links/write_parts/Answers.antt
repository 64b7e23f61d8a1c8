use Rattle.osi_carrier.proofs.Vocabulary.{eqb-true, eqb-false, any_standing, number_in, Given, GoesAtOnce, part_under, unit_of, packets}
use Rattle.osi_carrier.proofs.Vocabulary.{with_tsdu, ◌≡◌, ◌≤◌, ◌+◌, [], ◌∷◌, ◌++◌, length, refl, sym, ap, ◌∙◌, arith, left_of}
use Rattle.osi_carrier.proofs.written.a_tsdu_part_after_part.{parting_first, parting_kept, part_room, empty_list, put_length, parting_next}
use Rattle.osi_carrier.proofs.written.a_tsdu_part_after_part.{parting_last}
use Rattle.osi_carrier.proofs.written.a_part_in_its_data_unit.{IsFirst, first_cut}
use Rattle.osi_carrier.proofs.links.write_parts.Goals.{After-is_empty-end, After-put_part}
use Rattle.osi_carrier.proofs.links.write_parts.Goals as goal

-- the part that is written, and what is left after it
cut_here : (c : After-is_empty-end) → IsFirst c.in-Some.slot (any_standing c.parts.link).ends.limit c.min-carried.result [] c.parts.rest.now
    c.split_at.result.0.now c.split_at.result.1.now c.is_empty-end.result
cut_here c =
    let value = c.limit.ensures.value in
    first_cut _ _ _ _ _ _ _ _ (omega arith) (omega (arith, c.min-carried.ensures)) c.split_at.ensures.front c.split_at.ensures.back
    c.is_empty-end.ensures

longer_here : (c : After-put_part) →
    length c.parts.out.items + c.parts.out.spare ≤ length c.put_part.new.out.items + c.put_part.new.out.spare
longer_here c =
    let longer = put_length c.parts.out.items c.put_part.new.out.items
    (packets (unit_of c.args.peer (part_under (number_in c.in-Some.slot) c.is_empty-end.result ([] ++ c.split_at.result.0.now)) ∷ []))
    c.put_part.ensures.items in
    omega arith

pub parts-init : goal.parts-init
parts-init c = search (arith, parting_first)

pub returns-in_default : goal.returns-in_default
returns-in_default c =
    let never : GoesAtOnce (any_standing c.parts.link) → ⊥ = λ goes. (let given = c.in_default.ensures.at_once goes in cc) in
    let kept = left_of (any_standing c.args.link.now) c.args.tsdu.now in
    let all = parting_kept _ _ _ (with_tsdu (any_standing c.parts.link) kept) _ _ _ _ _ c.parts.invariant.0 never refl in
    grind arith

pub put_part-requires-clause-room : goal.put_part-requires-clause-room
put_part-requires-clause-room c =
    let cut = cut_here (goal.at.put_part-requires-clause-room c).After-is_empty-end in
    let size = ap (λ (u : Given). length (packets (unit_of c.args.peer u ∷ []))) cut.unit in
    grind (arith, part_room)

pub returns-then-end : goal.returns-then-end
returns-then-end c =
    let cut = cut_here (goal.at.returns-then-end c).After-is_empty-end in
    let put = c.put_part.ensures.items ∙ ap (λ (u : Given). c.parts.out.items ++ packets (unit_of c.args.peer u ∷ [])) cut.unit in
    let nothing = eqb-true (length c.split_at.result.1.now) 0 (sym c.is_empty-end.ensures ∙ c.if-end.true) in
    let part = c.in-Some.ensures.given c.parts.rest.now in
    let all = parting_last _ _ _ _ _ _ _ _ _ _ _ c.parts.invariant.0 (omega arith) part put
    (cut.left ∙ empty_list c.split_at.result.1.now nothing) in
    let longer = longer_here (goal.at.returns-then-end c).After-put_part in
    record {
      link = all.link;
      written = all.written;
      pumped = part.last;
      alone = c.in-Some.ensures.alone;
      spare = omega arith;
    }

pub parts-preserved : goal.parts-preserved
parts-preserved c =
    let cut = cut_here (goal.at.parts-preserved c).After-is_empty-end in
    let put = c.put_part.ensures.items ∙ ap (λ (u : Given). c.parts.out.items ++ packets (unit_of c.args.peer u ∷ [])) cut.unit in
    let left = ap length cut.left in
    let something : length c.split_at.result.1.now ≡ 0 →
    ⊥ = eqb-false (length c.split_at.result.1.now) 0 (sym c.is_empty-end.ensures ∙ c.if-end.false) in
    let kept = c.parts.invariant.1 in
    let longer = longer_here (goal.at.parts-preserved c).After-put_part in
    let parting = rw cut.left at (parting_next _ _ _ _ _ _ _ _ _ _ _ c.put_part.new.out.spare c.parts.invariant.0 (omega arith)
    (c.in-Some.ensures.given c.parts.rest.now) c.in-Some.ensures.alone put (grind arith) (omega arith)) in
    (parting, omega arith)
