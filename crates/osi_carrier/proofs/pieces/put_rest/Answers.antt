use Rattle.osi_carrier.proofs.Vocabulary.{◌∙◌, ◌-◌, ◌*◌, ◌++◌, ◌∷◌, ℕ, length, map, sym, ap, arith, length-append, parts_needed, left_after}
use Rattle.osi_carrier.proofs.written.a_tsdu_part_after_part.{left_behind}
use Rattle.osi_carrier.proofs.written.what_is_left_after_some_units.{copied_none, copied_part, copied_whole, one_full}
use Rattle.osi_carrier.proofs.pieces.put_rest.Goals as goal

pub returns-then-units-eq0 : goal.returns-then-units-eq0
returns-then-units-eq0 c = λ others.
    let old = map (λ v. v.items) c.args.tsdus.now.items in
    let tsdu = c.args.head.now ++ c.args.piece.now in
    copied_whole c.args.limit old (map (λ v. v.items) c.put_copy.new.tsdus.items) tsdu others c.in_ok-put_copy.ensures
    ∙ ap (λ (n : ℕ). old ++ left_after n c.args.limit (tsdu ∷ others)) (sym c.if-units-eq0.true)

pub returns-then-parts-units : goal.returns-then-parts-units
returns-then-parts-units c = grind (arith, length-append, copied_none)

pub returns : goal.returns
returns c = λ others.
    let head = c.args.head.now in
    let piece = c.args.piece.now in
    let count = c.count_units-parts.ensures ∙ ap (parts_needed c.args.limit) (sym (length-append head piece)) in
    let some = one_full c.args.units c.args.limit (omega arith) in
    let rest = left_behind head piece c.split_at.result.1.now (c.args.units * c.args.limit) (c.args.units * c.args.limit - length head)
    (omega arith) c.split_at.ensures.back in
    copied_part c.args.units c.args.limit (map (λ v. v.items) c.args.tsdus.now.items) (map (λ v. v.items) c.put_copy-2.new.tsdus.items)
    (head ++ piece) c.split_at.result.1.now others (omega arith) (omega arith) rest c.in_ok-put_copy-2.ensures
