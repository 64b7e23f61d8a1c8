use Rattle.osi_stack.proofs.Vocabulary.{Data, limit_of, arith, length, headed, tsdus_lent}
use Rattle.osi_stack.proofs.called.parts_that_are_lent.{cut_as_lent, short_head}
use Rattle.osi_stack.proofs.called.what_a_call_sends.{call_handed, call_allowed, call_refused}
use Rattle.osi_stack.proofs.calls.make_parted_call.Goals as goal

pub send_pieces_call-requires : goal.send_pieces_call-requires
send_pieces_call-requires c = grind (arith, short_head)

pub returns-clause-carrier : goal.returns-clause-carrier
returns-clause-carrier c = grind (arith, cut_as_lent, call_handed)

pub returns-clause-allowed : goal.returns-clause-allowed
returns-clause-allowed c = grind (arith, cut_as_lent, call_allowed)

pub returns-clause-refused : goal.returns-clause-refused
returns-clause-refused c =
    let parts = c.in_ok-parts.parts in
    let user = c.args.user_data.now in
    let same = cut_as_lent (length user) parts.first.now parts.middle.now parts.last.now parts.size user in
    call_refused c.send_pieces_call.result c.args.session.now (Data user) (tsdus_lent parts user)
    (headed (length user) parts.first.now parts.middle.now parts.last.now parts.size user) c.args.reference
    (limit_of c.args.session.now.state) c.args.carrier.now.state c.in_ok-parts.ensures.accepted c.in_ok-parts.ensures.sent same
    c.send_pieces_call.ensures.refused
