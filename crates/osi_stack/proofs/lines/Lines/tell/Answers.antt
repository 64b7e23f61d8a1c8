use Rattle.osi_stack.proofs.Vocabulary.{OnOk, OnErr, placed, Rows, place_of, all_lost, to_session, Line, event_input, length, ◌≡◌, ◌+◌, ◌<◌}
use Rattle.osi_stack.proofs.Vocabulary.{true, false, Some, None, get_or, set, refl, sym, ap, subst, arith, ◌∙◌, Inside}
use Rattle.osi_stack.proofs.each_line.the_line_of_a_reference.{found, unheard, heard_rows}
use Rattle.osi_stack.proofs.carried.sessions_that_are_lost.{stopped_rows}
use Rattle.osi_stack.proofs.stream.what_needs_memory_does_something.{needs_at}
use Rattle.osi_stack.proofs.each_line.how_many_lines_wait.{AreKept, room_of, set_kept, heard_stays, still_quiet, still_counted}
use Rattle.osi_stack.proofs.lines.Lines.tell.Goals.{then-waits+then-not-waited, else-waits, else-waits-via-then-waits+else-not-waited}
use Rattle.osi_stack.proofs.lines.Lines.tell.Goals.{else-waits-via-else-waits, After-index_mut-line, Joined-waits}
use Rattle.osi_stack.proofs.lines.Lines.tell.Goals as goal

-- the line of the reference is at the place that was found
record IsThere (c : After-index_mut-line) : Type 0 where
  some : place_of c.args.reference c.args.self.now ≡ Some c.in-Some.place
  here : c.index_mut-line.result.now ≡ get_or c.args.self.now c.in-Some.place c.index_mut-line.result.now
  within : c.in-Some.place < length c.self.inside.rows.items

there : (c : After-index_mut-line) → IsThere c
there c =
    let some : place_of c.args.reference c.args.self.now ≡ Some c.in-Some.place = grind (arith, found) in
    record {
      some = some;
      here = c.index_mut-line.ensures.value ∙ ap (λ (l : Rows Line). get_or l c.in-Some.place c.index_mut-line.result.now) c.self.view_is;
      within = grind (arith, placed);
    }

-- and was written there
written : (c : Joined-waits) → c.if-waits.self-inside.rows.items ≡ set c.self.inside.rows.items c.in-Some.place c.receive-result.new.self
written c = elim c.if-waits.branch [
  | then-waits+then-not-waited w ↦ ap (λ (x : Inside). x.rows.items) w.self-inside-is
  | else-waits w ↦ ap (λ (x : Inside). x.rows.items) w.self-inside-is
]

pub returns-in_default-clause-ok : goal.returns-in_default-clause-ok
returns-in_default-clause-ok c =
    let none : place_of c.args.reference c.args.self.now ≡ None = grind (arith, found) in grind (arith, unheard)

pub returns-clause-ok : goal.returns-clause-ok
returns-clause-ok c =
    let row = c.index_mut-line.result.now in
    let at = there (goal.at.returns-clause-ok c).After-index_mut-line in
    subst (λ (l : Rows Line). OnOk c.receive-result.result
    (record { carrier = c.receive-result.new.carrier.state; lines = l } ≡ to_session c.args.reference (event_input c.args.event)
    (record { carrier = c.args.carrier.now.state; lines = c.args.self.now })))
    (sym (written (goal.at.returns-clause-ok c).Joined-waits))
    (heard_rows c.receive-result.result c.args.reference c.args.self.now c.self.inside.rows.items c.in-Some.place row
    c.receive-result.new.self
    c.args.carrier.now c.receive-result.new.carrier
    (event_input c.args.event) at.some at.here c.self.view_is c.receive-result.ensures.ok c.receive-result.ensures.carrier)

pub returns-clause-lost : goal.returns-clause-lost
returns-clause-lost c =
    let row = c.index_mut-line.result.now in
    let at = there (goal.at.returns-clause-lost c).After-index_mut-line in
    subst (λ (l : Rows Line). OnErr c.receive-result.result (all_lost l ≡ all_lost c.args.self.now))
    (sym (written (goal.at.returns-clause-lost c).Joined-waits))
    (stopped_rows c.receive-result.result c.args.reference c.args.self.now c.self.inside.rows.items c.in-Some.place row
    c.receive-result.new.self
    at.some at.here c.self.view_is c.receive-result.ensures.lost)

pub returns-clause-needed : goal.returns-clause-needed
returns-clause-needed c =
    let at = there (goal.at.returns-clause-needed c).After-index_mut-line in
    grind (arith, needs_at)

pub overflow_add-self : goal.overflow_add-self
overflow_add-self c =
    let row = c.index_mut-line.result.now in
    let at = there (goal.at.overflow_add-self c).After-index_mut-line in
    let less = room_of c.args.reference c.args.self.now c.self.inside.rows.items c.in-Some.place row c.self.inside.waiting
    (length c.self.inside.rows.items) at.some at.here c.self.view_is
    c.self.invariant.0 refl (sym c.waits-waited.ensures ∙ c.if-not-waited.true) in
    grind arith

pub invariant_of-self : goal.invariant_of-self
invariant_of-self c =
    let row = c.index_mut-line.result.now in
    let at = there (goal.at.invariant_of-self c).After-index_mut-line in
    let stays = (λ (h : c.waits-waited.result ≡ true). c.waits.ensures
    ∙ heard_stays c.receive-result.result row c.receive-result.new.self (event_input c.args.event) c.receive-result.ensures.ok
    c.receive-result.ensures.lost (sym c.waits-waited.ensures ∙ h)) in
    elim c.if-waits.branch [
      | then-waits+then-not-waited w ↦ subst (λ (x : Inside). AreKept x.waiting x.rises x.rows.items) (sym w.self-inside-is)
          (set_kept c.self.inside.waiting (c.self.inside.waiting + 1) c.self.inside.rises false true c.self.inside.rows.items
          c.in-Some.place row c.receive-result.new.self
          c.self.invariant c.index_mut-line.ensures.value at.within c.receive-result.ensures.reference
          (sym w.if-not-waited.true ∙ c.waits-waited.ensures) (sym w.if-waits.true ∙ c.waits.ensures) (omega arith))
      | else-waits w ↦ subst (λ (x : Inside). AreKept x.waiting x.rises x.rows.items) (sym w.self-inside-is)
          (set_kept c.self.inside.waiting c.self.inside.waiting c.self.inside.rises c.waits-waited.result c.waits.result
          c.self.inside.rows.items c.in-Some.place row c.receive-result.new.self
          c.self.invariant c.index_mut-line.ensures.value at.within c.receive-result.ensures.reference
          c.waits-waited.ensures c.waits.ensures
          (elim w.else-waits.branch [
            | else-waits-via-then-waits+else-not-waited v ↦ still_counted c.self.inside.waiting c.waits-waited.result c.waits.result
                (v.if-not-waited.false ∙ sym v.if-waits.true)
            | else-waits-via-else-waits v ↦ still_counted c.self.inside.waiting c.waits-waited.result c.waits.result
                (still_quiet c.waits-waited.result c.waits.result stays v.if-waits.false ∙ sym v.if-waits.false)
          ]))
    ]
