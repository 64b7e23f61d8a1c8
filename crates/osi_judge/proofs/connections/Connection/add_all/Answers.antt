use Rattle.std.proofs.Common.{arith}
use Rattle.osi_session.specs.Standing.{seen_calling, seen_called}
use Rattle.osi_judge.proofs.what_holds_of_a_result.{on_ok, on_err}
use Rattle.osi_judge.proofs.what_is_kept_of_a_side_is_what_passed.{flipped, left_added, right_added}
use Rattle.osi_judge.proofs.connections.Connection.add_all.Goals as goal

pub returns-in-Left-clause-ok : goal.returns-in-Left-clause-ok
returns-in-Left-clause-ok c =
    on_ok c.add_last.result c.add_last.ensures.ok (λ k j h.
    left_added c.args.direction c.args.self.now c.add_last.new.own c.add_last.new.other j c.args.at c.args.end c.args.octets.now
    c.in-Left.is h
    (k seen_calling seen_called j.left j.right h.sides))

pub returns-in-Left-clause-err : goal.returns-in-Left-clause-err
returns-in-Left-clause-err c = on_err c.add_last.result c.add_last.ensures.err (λ k j h. record {
  number = h.number;
  calling = h.calling;
  called = h.called;
  class = h.class;
  closed = h.closed;
  room = h.room;
  sides = k seen_calling seen_called j.left j.right h.sides;
})

pub returns-in-Right-clause-ok : goal.returns-in-Right-clause-ok
returns-in-Right-clause-ok c =
    on_ok c.add_last-in-Right.result c.add_last-in-Right.ensures.ok (λ k j h.
    right_added c.args.direction c.args.self.now c.add_last-in-Right.new.own c.add_last-in-Right.new.other j c.args.at c.args.end
    c.args.octets.now
    c.in-Right.is h (k seen_called seen_calling j.right j.left (flipped h.sides)))

pub returns-in-Right-clause-err : goal.returns-in-Right-clause-err
returns-in-Right-clause-err c = on_err c.add_last-in-Right.result c.add_last-in-Right.ensures.err (λ k j h. grind (
  arith,
  flipped (k seen_called seen_calling j.right j.left (flipped h.sides)),
  flipped h.sides,
))
