use Rattle.std.proofs.Common.{◌-◌, ℕ, true, false, length, map, Some, get_or, refl, sym, ap, option_map, position, arith, ◌∙◌, ◌≡◌}
use Rattle.osi_stack.proofs.Vocabulary.{shown_by, Rows, session_selectors, Line, line_waits, how_many_wait}
use Rattle.osi_stack.proofs.each_line.the_first_that_indicates.{none_waits, first_is, never_popped, told_first, IsTold}
use Rattle.osi_stack.proofs.each_line.how_many_lines_wait.{none_counted, only_heard, set_kept}
use Rattle.osi_stack.proofs.lines.Lines.next.Goals.{then-not-waits-2, else-not-waits-2, then-self-gt1+in-Some}
use Rattle.osi_stack.proofs.lines.Lines.next.Goals.{else-self-gt1+else-place-len+else-not-waits, Joined-self-gt1, In-Some-pop}
use Rattle.osi_stack.proofs.lines.Lines.next.Goals as goal

-- the place is that of the first line for which an indication is pending
waits_at : (c : Joined-self-gt1) → position (λ (row : ℕ × Line). line_waits row.1) c.self.inside.rows.items ≡ Some c.if-self-gt1.place
waits_at c = elim c.if-self-gt1.branch [
  | then-self-gt1+in-Some w ↦ ap (position (λ (row : ℕ × Line). line_waits row.1)) (sym w.as_slice.ensures.value) ∙
      sym w.first_place.ensures ∙ w.in-Some.is ∙ ap Some (sym w.place-is)
  | else-self-gt1+else-place-len+else-not-waits w ↦ only_heard c.self.inside.waiting c.self.inside.heard c.self.inside.rows.items
      w.index.result.now c.self.invariant.0 (let some = c.if-self-eq0.false in omega (arith, w.if-self-gt1.false))
      (omega (arith, w.if-place-len.false, w.len.ensures)) w.index.ensures (sym w.waits.ensures ∙ w.if-not-waits.false) ∙
      ap Some (sym w.place-is)
]

pub returns-in_default-clause-shown : goal.returns-in_default-clause-shown
returns-in_default-clause-shown c = grind (arith, position, none_waits)

pub returns-in_default-clause-rest : goal.returns-in_default-clause-rest
returns-in_default-clause-rest c =
    let none = ap (position (λ (row : ℕ × Line). line_waits row.1)) (sym (c.as_slice.ensures.value ∙ c.self.view_is)) ∙
    sym c.first_place.ensures ∙ c.in_default.is in
    sym (none_waits c.args.self.now none).rest

pub returns-in_default-pop : goal.returns-in_default-pop
returns-in_default-pop c =
    let there = waits_at (goal.at.returns-in_default-pop c).Joined-self-gt1 in
    let first = first_is c.self.inside.rows.items c.if-self-gt1.place c.index_mut-line.result.now there in
    never_popped c.line.inside.waiting.items (length c.line.inside.waiting.items) refl
    (ap length c.in_default-pop.ensures.first.0)
    (ap (λ (x : ℕ × Line). line_waits x.1) (c.line.view_is ∙ c.index_mut-line.ensures.value) ∙ first.waits)

-- its oldest indication is given
told : (c : In-Some-pop) → position (λ (row : ℕ × Line). line_waits row.1) c.self.inside.rows.items ≡ Some c.if-self-gt1.place →
    IsTold c.args.self.now c.self.inside.rows.items c.if-self-gt1.place c.index_mut-line.result.now (
      c.line.inside.reference,
      record {
        session = c.line.inside.session;
        waiting = map shown_by c.pop.new.self.items;
        selectors = option_map session_selectors c.line.inside.selectors;
      },
    ) (shown_by c.in-Some-pop.indication)
told c there =
    let row = c.index_mut-line.result.now in
    told_first c.args.self.now c.self.inside.rows.items c.if-self-gt1.place row _ (shown_by c.in-Some-pop.indication)
    (ap (position (λ (row : ℕ × Line). line_waits row.1)) (sym c.self.view_is) ∙ there)
    (c.index_mut-line.ensures.value ∙ ap (λ (l : Rows Line). get_or l c.if-self-gt1.place row) c.self.view_is) c.self.view_is (grind arith)

pub returns-clause-shown : goal.returns-clause-shown
returns-clause-shown c =
    let at = goal.at.returns-clause-shown c in
    grind (arith, told at.In-Some-pop (waits_at at.Joined-self-gt1))

pub returns-clause-rest : goal.returns-clause-rest
returns-clause-rest c =
    let at = goal.at.returns-clause-rest c in
    let rest = (told at.In-Some-pop (waits_at at.Joined-self-gt1)).rest in
    elim c.if-not-waits-2.branch [ then-not-waits-2 w ↦ w.self-is ∙ rest | else-not-waits-2 w ↦ w.self-is ∙ rest ]

pub returns-then-self-eq0-clause-shown : goal.returns-then-self-eq0-clause-shown
returns-then-self-eq0-clause-shown c = grind (arith, none_counted)

pub returns-then-self-eq0-clause-rest : goal.returns-then-self-eq0-clause-rest
returns-then-self-eq0-clause-rest c =
    sym (none_counted c.self.inside.waiting c.args.self.now (c.self.invariant.0 ∙ ap how_many_wait c.self.view_is) c.if-self-eq0.true).rest

pub invariant_of-self-then-not-waits-2 : goal.invariant_of-self-then-not-waits-2
invariant_of-self-then-not-waits-2 c =
    let row = c.index_mut-line.result.now in
    let there = waits_at (goal.at.invariant_of-self-then-not-waits-2 c).Joined-self-gt1 in
    let first = first_is c.self.inside.rows.items c.if-self-gt1.place row there in
    set_kept c.self.inside.waiting (c.self.inside.waiting - 1) c.self.inside.rises true false c.self.inside.rows.items
    c.if-self-gt1.place row _
    c.self.invariant c.index_mut-line.ensures.value first.within (ap (λ (x : ℕ × Line). x.0) c.line.view_is)
    (sym (ap (λ (x : ℕ × Line). line_waits x.1) c.index_mut-line.ensures.value ∙ first.waits))
    (sym c.if-not-waits-2.true ∙ c.waits-2.ensures)
    (omega arith)

pub invariant_of-self-else-not-waits-2 : goal.invariant_of-self-else-not-waits-2
invariant_of-self-else-not-waits-2 c =
    let row = c.index_mut-line.result.now in
    let there = waits_at (goal.at.invariant_of-self-else-not-waits-2 c).Joined-self-gt1 in
    let first = first_is c.self.inside.rows.items c.if-self-gt1.place row there in
    set_kept c.self.inside.waiting c.self.inside.waiting c.self.inside.rises true true c.self.inside.rows.items c.if-self-gt1.place row _
    c.self.invariant c.index_mut-line.ensures.value first.within (ap (λ (x : ℕ × Line). x.0) c.line.view_is)
    (sym (ap (λ (x : ℕ × Line). line_waits x.1) c.index_mut-line.ensures.value ∙ first.waits))
    (sym c.if-not-waits-2.false ∙ c.waits-2.ensures)
    refl
