use Rattle.osi_stack.proofs.Vocabulary.{Connect, End, None, OnOk, Result, arith, connect_error, holding, ◌≡◌}
use Rattle.osi_stack.proofs.sound.the_invariant_between_calls.{settled_connect}
use Rattle.osi_stack.proofs.stacks.Stack.connect.Goals as goal

pub invariant_of-self : goal.invariant_of-self
invariant_of-self c =
    let old = holding c.self.inside.carrier c.self.inside.lines in
    settled_connect c.request_connection.result c.args.connect.now old
    (holding c.request_connection.new.carrier c.request_connection.new.lines)
    (c.an_end_is_settled_between_calls.ensures.connects c.args.connect.now old.end) c.request_connection.ensures.ok
    c.request_connection.ensures.allowed c.request_connection.ensures.err
    c.self.invariant

-- an end that takes a request has not ended
connect_lasts : {X Y : Type 0} (result : Result X Y) (c : Connect) (e : End) → OnOk result (connect_error c e ≡ None) →
    OnOk result (e.carrier.ended ≡ None)
connect_lasts result c e allowed = grind arith

pub returns : goal.returns
returns c =
    let e = c.request_connection.ensures in
    record {
      ok = rw (← c.self.view_is) e.ok;
      reference = rw (← c.self.view_is) e.reference;
      allowed = rw (← c.self.view_is) e.allowed;
      refused = rw (← c.self.view_is) e.refused;
      over = rw (← c.self.view_is)
          (connect_lasts c.request_connection.result c.args.connect.now (holding c.self.inside.carrier c.self.inside.lines).end e.allowed);
      err = rw (← c.self.view_is) e.err;
    }
