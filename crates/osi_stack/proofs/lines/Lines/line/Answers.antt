use Rattle.osi_stack.proofs.Vocabulary.{here_is, place_of, arith, ◌≡◌, Some, None, sym}
use Rattle.osi_stack.proofs.each_line.the_line_of_a_reference.{found, nowhere}
use Rattle.osi_stack.proofs.lines.Lines.line.Goals as goal

pub returns-in-None : goal.returns-in-None
returns-in-None c =
    let none : place_of c.args.reference c.args.self.now ≡ None = grind (arith, found) in
    sym (nowhere c.args.reference c.args.self.now none)

pub returns-in-Some : goal.returns-in-Some
returns-in-Some c =
    let some : place_of c.args.reference c.args.self.now ≡ Some c.in-Some.place = grind (arith, found) in
    grind (arith, here_is)
