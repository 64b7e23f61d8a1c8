use Rattle.osi_judge.proofs.Vocabulary.{◌∙◌, ap, subst, sym, Left, Right, is_over, IsOutcomeOf}
use Rattle.osi_judge.proofs.what_is_told_of_a_connection.{outcome_at}
use Rattle.osi_judge.proofs.connections.Connection.past.Goals as goal

pub returns : goal.returns
returns c = λ j h. record {
  number = h.number;
  calling = h.calling;
  called = h.called;
  class = h.class;
  closed = h.closed;
  over = c.is_over.ensures ∙ ap is_over h.room;
  left = subst (IsOutcomeOf Left j) (sym c.in_ok-left-2.ensures)
      (outcome_at Left c.args.self.now j c.in_ok-left.left h c.requires (c.in_ok-left.ensures j h));
  right = subst (IsOutcomeOf Right j) (sym c.in_ok-right-2.ensures)
      (outcome_at Right c.args.self.now j c.in_ok-right.right h c.requires (c.in_ok-right.ensures j h));
}
