use Rattle.osi_stack.proofs.Vocabulary.{placed, Rows, place_of, called_by, called, Line, line_waits, arith, ◌≡◌, ◌+◌, ◌<◌, length, ℕ, cond}
use Rattle.osi_stack.proofs.Vocabulary.{Some, None, get_or, refl, sym, ap, ◌∙◌}
use Rattle.osi_stack.proofs.called.what_a_call_sends.{called_line, called_carrier}
use Rattle.osi_stack.proofs.each_line.the_line_of_a_reference.{found, nowhere, heard_rows, allowed_at, refused_at, session_here}
use Rattle.osi_stack.proofs.each_line.how_many_lines_wait.{set_kept}
use Rattle.osi_stack.proofs.lines.Lines.call.Goals.{After-index_mut-line}
use Rattle.osi_stack.proofs.lines.Lines.call.Goals as goal

-- the line of the reference is at the place that was found
record IsThere (c : After-index_mut-line) : Type 0 where
  some : place_of c.args.reference c.args.self.now ≡ Some c.in-Some.place
  here : c.index_mut-line.result.now ≡ get_or c.args.self.now c.in-Some.place c.index_mut-line.result.now
  within : c.in-Some.place < length c.self.inside.rows.items

there : (c : After-index_mut-line) → IsThere c
there c =
    let some : place_of c.args.reference c.args.self.now ≡ Some c.in-Some.place =
    found c.args.reference c.self.inside.rises c.place_in.result c.as_slice.result.now c.self.inside.rows.items c.args.self.now
    c.as_slice.ensures.value c.self.view_is c.self.invariant.1 c.place_in.ensures
    ∙ c.in-Some.is in
    record {
      some = some;
      here = c.index_mut-line.ensures.value ∙ ap (λ (l : Rows Line). get_or l c.in-Some.place c.index_mut-line.result.now) c.self.view_is;
      within = grind (arith, placed);
    }

pub returns-in_default-clause-refused : goal.returns-in_default-clause-refused
returns-in_default-clause-refused c =
    let none : place_of c.args.reference c.args.self.now ≡ None = grind (arith, found) in
    grind (arith, nowhere c.args.reference c.args.self.now none)

pub returns-in_default-session-clause-refused : goal.returns-in_default-session-clause-refused
returns-in_default-session-clause-refused c =
    let at = there (goal.at.returns-in_default-session-clause-refused c).After-index_mut-line in
    grind (arith, session_here c.args.reference c.args.self.now c.in-Some.place c.index_mut-line.result.now at.some at.here)

pub returns-clause-ok : goal.returns-clause-ok
returns-clause-ok c =
    let row = c.index_mut-line.result.now in
    let at = there (goal.at.returns-clause-ok c).After-index_mut-line in
    heard_rows c.make_call.result c.args.reference c.args.self.now c.self.inside.rows.items c.in-Some.place row _
    c.args.carrier.now c.make_call.new.carrier (called (called_by c.args.request)) at.some at.here c.self.view_is
    (called_line c.make_call.result c.line.inside.reference _ row c.in-Some-session.session c.make_call.new.session
    (called_by c.args.request) c.line.view_is c.in-Some-session.is c.make_call.ensures.session)
    (called_carrier c.make_call.result c.line.inside.reference _ row c.in-Some-session.session c.args.carrier.now
    c.make_call.new.carrier (called_by c.args.request) c.line.view_is c.in-Some-session.is c.make_call.ensures.carrier)

pub returns-clause-allowed : goal.returns-clause-allowed
returns-clause-allowed c =
    let at = there (goal.at.returns-clause-allowed c).After-index_mut-line in
    allowed_at c.make_call.result c.args.reference c.line.inside.reference c.args.self.now c.in-Some.place c.index_mut-line.result.now _
    c.in-Some-session.session (called_by c.args.request) c.args.carrier.now.state at.some at.here c.line.view_is c.in-Some-session.is
    c.make_call.ensures.allowed

pub returns-clause-refused : goal.returns-clause-refused
returns-clause-refused c =
    let at = there (goal.at.returns-clause-refused c).After-index_mut-line in
    refused_at c.make_call.result c.args.reference c.line.inside.reference c.args.self.now c.in-Some.place c.index_mut-line.result.now _
    c.in-Some-session.session (called_by c.args.request) c.args.carrier.now.state at.some at.here c.line.view_is c.in-Some-session.is
    c.make_call.ensures.refused

pub invariant_of-self : goal.invariant_of-self
invariant_of-self c =
    let at = there (goal.at.invariant_of-self c).After-index_mut-line in
    set_kept c.self.inside.waiting c.self.inside.waiting c.self.inside.rises (line_waits c.index_mut-line.result.now.1) _
    c.self.inside.rows.items c.in-Some.place c.index_mut-line.result.now _
    c.self.invariant c.index_mut-line.ensures.value at.within (ap (λ (x : ℕ × Line). x.0) c.line.view_is) refl refl
    (ap (λ (x : ℕ × Line). c.self.inside.waiting + cond (line_waits x.1) 1 0) (sym c.line.view_is))

pub invariant_of-self-2 : goal.invariant_of-self-2
invariant_of-self-2 c =
    let at = there (goal.at.invariant_of-self-2 c).After-index_mut-line in
    set_kept c.self.inside.waiting c.self.inside.waiting c.self.inside.rises (line_waits c.index_mut-line.result.now.1) _
    c.self.inside.rows.items c.in-Some.place c.index_mut-line.result.now _
    c.self.invariant c.index_mut-line.ensures.value at.within (ap (λ (x : ℕ × Line). x.0) c.line.view_is) refl refl
    (ap (λ (x : ℕ × Line). c.self.inside.waiting + cond (line_waits x.1) 1 0) (sym c.line.view_is))
