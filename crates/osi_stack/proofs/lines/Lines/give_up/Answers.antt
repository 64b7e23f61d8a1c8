use Rattle.osi_stack.proofs.Vocabulary.{place_of, Line, arith, ◌≡◌, Some, None, Option, sym, ap, set_rise, gives_up_by}
use Rattle.osi_stack.proofs.each_line.the_line_of_a_reference.{found, nowhere}
use Rattle.osi_stack.proofs.given_up.the_invariant_stays.{given_rows}
use Rattle.osi_stack.proofs.lines.Lines.give_up.Goals as goal

pub returns-in_default : goal.returns-in_default
returns-in_default c =
    let none : place_of c.args.reference c.args.self.now ≡ None = grind (arith, found) in
    sym (ap (λ (o : Option Line). gives_up_by c.args.reference o c.args.self.now) (nowhere c.args.reference c.args.self.now none))

pub returns : goal.returns
returns c =
    let some : place_of c.args.reference c.args.self.now ≡ Some c.in-Some.place = grind (arith, found) in
    grind (arith, given_rows)

pub invariant_of-self : goal.invariant_of-self
invariant_of-self c = grind (arith, set_rise)
