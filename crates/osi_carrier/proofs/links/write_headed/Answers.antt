use Rattle.osi_carrier.proofs.Vocabulary.{eqb-true, eqb-false, any_standing, number_in, part_under, Given, unit_of, packets, with_tsdu}
use Rattle.osi_carrier.proofs.Vocabulary.{pumped, GoesAtOnce, ◌≡◌, ◌≤◌, ◌+◌, [], ◌∷◌, ◌++◌, length, refl, sym, ap, subst, ◌∙◌, arith}
use Rattle.osi_carrier.proofs.Vocabulary.{left_of}
use Rattle.osi_carrier.proofs.written.a_tsdu_part_after_part.{Goes, IsParting, parting_first, parting_then, parting_last, parting_kept}
use Rattle.osi_carrier.proofs.written.a_tsdu_part_after_part.{parting_all, leaves_behind, part_room, empty_list, put_length}
use Rattle.osi_carrier.proofs.written.a_part_in_its_data_unit.{IsFirst, first_cut}
use Rattle.osi_carrier.proofs.links.write_headed.Goals.{After-is_empty-end, After-put_part}
use Rattle.osi_carrier.proofs.links.write_headed.Goals as goal

-- the part that is written, and what is left after it
cut_here : (c : After-is_empty-end) → IsFirst c.in-Some.slot (any_standing c.args.link.now).ends.limit c.min-carried.result c.args.head.now
    c.args.body.now c.split_at.result.0.now c.split_at.result.1.now c.is_empty-end.result
cut_here c =
    let short = c.requires.short in
    first_cut _ _ _ _ _ _ _ _ (omega arith) (omega (arith, c.min-carried.ensures)) c.split_at.ensures.front c.split_at.ensures.back
    c.is_empty-end.ensures

longer_here : (c : After-put_part) →
    length c.args.out.now.items + c.args.out.now.spare ≤ length c.put_part.new.out.items + c.put_part.new.out.spare
longer_here c =
    let longer = put_length c.args.out.now.items c.put_part.new.out.items
    (packets (unit_of c.args.peer
    (part_under (number_in c.in-Some.slot) c.is_empty-end.result (c.args.head.now ++ c.split_at.result.0.now)) ∷ []))
    c.put_part.ensures.items in
    omega arith

pub returns-in_default : goal.returns-in_default
returns-in_default c =
    let never : GoesAtOnce (any_standing c.args.link.now) → ⊥ = λ goes. (let given = c.in_default.ensures.at_once goes in cc) in
    let goes : Goes (any_standing c.args.link.now) (c.args.head.now ++ c.args.body.now) _ =
    record { quiet = c.requires.quiet; alone = c.requires.alone; left = refl } in
    let all = parting_kept _ _ _ (with_tsdu (any_standing c.args.link.now) _) _ _ _ _ _
    (parting_first c.args.peer _ _ _ c.args.out.now.items _ goes c.requires.room) never refl in
    grind arith

pub put_part-requires-clause-room : goal.put_part-requires-clause-room
put_part-requires-clause-room c =
    let cut = cut_here (goal.at.put_part-requires-clause-room c).After-is_empty-end in
    let size = ap (λ (u : Given). length (packets (unit_of c.args.peer u ∷ []))) cut.unit in
    grind (arith, part_room)

pub returns-then-end : goal.returns-then-end
returns-then-end c =
    let cut = cut_here (goal.at.returns-then-end c).After-is_empty-end in
    let put = c.put_part.ensures.items ∙ ap (λ (u : Given). c.args.out.now.items ++ packets (unit_of c.args.peer u ∷ [])) cut.unit in
    let goes : Goes (any_standing c.args.link.now) (c.args.head.now ++ c.args.body.now) _ =
    record { quiet = c.requires.quiet; alone = c.requires.alone; left = refl } in
    let nothing = eqb-true (length c.split_at.result.1.now) 0 (sym c.is_empty-end.ensures ∙ c.if-end.true) in
    let part = c.in-Some.ensures.given (c.args.head.now ++ c.args.body.now) in
    let short = c.requires.short in
    let all = parting_last _ _ _ _ _ _ _ _ _ _ _ (parting_first c.args.peer _ _ _ c.args.out.now.items _ goes c.requires.room)
    (omega arith) part put (cut.left ∙ empty_list c.split_at.result.1.now nothing) in
    let longer = longer_here (goal.at.returns-then-end c).After-put_part in
    record {
      link = all.link;
      written = all.written;
      pumped = part.last;
      alone = c.in-Some.ensures.alone;
      spare = omega arith;
    }

-- the other parts follow it
parting_here : (c : After-put_part) →
    IsFirst c.in-Some.slot (any_standing c.args.link.now).ends.limit c.min-carried.result c.args.head.now c.args.body.now
    c.split_at.result.0.now c.split_at.result.1.now c.is_empty-end.result → (length c.split_at.result.1.now ≡ 0 → ⊥) →
    IsParting c.args.peer (with_tsdu (any_standing c.args.link.now) (c.args.head.now ++ c.args.body.now)) c.args.out.now.items
    (any_standing c.give_slot.new.self) c.split_at.result.1.now
    (left_of (any_standing c.args.link.now) (c.args.head.now ++ c.args.body.now)) c.put_part.new.out.items c.put_part.new.out.spare
parting_here c cut some =
    let put = c.put_part.ensures.items ∙ ap (λ (u : Given). c.args.out.now.items ++ packets (unit_of c.args.peer u ∷ [])) cut.unit in
    let took = subst (λ (u : Given). c.args.out.now.spare ≤ c.put_part.new.out.spare + length (packets (unit_of c.args.peer u ∷ [])))
    cut.unit c.put_part.ensures.spare in
    let short = c.requires.short in
    parting_then _ _ _ _ _ _ _ _ _ _ _ (record { quiet = c.requires.quiet; alone = c.requires.alone; left = refl }) c.requires.room
    (omega arith) (c.in-Some.ensures.given (c.args.head.now ++ c.args.body.now)) c.in-Some.ensures.alone cut.left put took (omega arith)

pub write_parts-requires-clause-quiet : goal.write_parts-requires-clause-quiet
write_parts-requires-clause-quiet c =
    grind (arith, first_cut, eqb-false (length c.split_at.result.1.now) 0 (sym c.is_empty-end.ensures ∙ c.if-end.false))

pub write_parts-requires-clause-room : goal.write_parts-requires-clause-room
write_parts-requires-clause-room c =
    let at = goal.at.write_parts-requires-clause-room c in
    (parting_here at.After-put_part (cut_here at.After-is_empty-end)
    (eqb-false (length c.split_at.result.1.now) 0 (sym c.is_empty-end.ensures ∙ c.if-end.false))).room

pub returns : goal.returns
returns c =
    let at = goal.at.returns c in
    let then = any_standing c.give_slot.new.self in
    let rest = c.split_at.result.1.now in
    let parting = parting_here at.After-put_part (cut_here at.After-is_empty-end)
    (eqb-false (length rest) 0 (sym c.is_empty-end.ensures ∙ c.if-end.false)) in
    let all = parting_all _ _ _ (pumped (with_tsdu then rest)) _ _ _ _ _ _ parting refl c.write_parts.ensures.written in
    let longer = longer_here at.After-put_part in
    let more = c.write_parts.ensures.spare in
    record {
      link = leaves_behind _ _ then _ _ rest all.link parting.goes.left c.write_parts.ensures.link;
      written = all.written;
      pumped = c.write_parts.ensures.pumped;
      alone = c.write_parts.ensures.alone;
      spare = omega arith;
    }
