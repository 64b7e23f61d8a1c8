use Rattle.osi_session.proofs.Vocabulary.{most_whole, ◌∙◌, sym}
use Rattle.osi_session.proofs.tables.points_that_are_expected.{advance_leaves, advance_sound}
use Rattle.osi_session.proofs.sessions.Session.advance.Goals as goal

pub invariant_of-self : goal.invariant_of-self
unfolding most_whole
invariant_of-self c = (
  advance_sound c.self.inside.state c.args.point c.in-Some.numbers (sym c.in-Some.is ∙ c.numbers_after.ensures) c.self.invariant.0,
  c.self.invariant.1,
  c.self.invariant.2,
  c.self.invariant.3,
  c.self.invariant.4,
  c.self.invariant.5,
)

pub returns : goal.returns
returns c =
    let a = advance_leaves c.args.point c.in-Some.numbers c.self.view_is c.self.invariant.3 (sym c.in-Some.is ∙ c.numbers_after.ensures) in
    record { done = sym a.0; state = λ k. a.1; rests = λ k. absurd (cc) }
