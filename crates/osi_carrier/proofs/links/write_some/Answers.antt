use Rattle.osi_carrier.proofs.Vocabulary.{any_standing, one_by_one, packets, written_for, arith, ◌∷◌, ◌++◌, tsdus_from, tsdus_in, subst}
use Rattle.osi_carrier.proofs.Vocabulary.{LeavesRest}
use Rattle.osi_carrier.proofs.written.pieces_are_written_straight.{IsSending, next_of_several, last_of_all, next_room, sending_first}
use Rattle.osi_carrier.proofs.written.pieces_are_written_straight.{sending_next, sending_stops, sending_last}
use Rattle.osi_carrier.proofs.links.write_some.Goals.{After-split_at}
use Rattle.osi_carrier.proofs.links.write_some.Goals as goal

-- the next of several TSDUs is the next to be written
next_here : (c : After-split_at) → IsSending c.args.peer (one_by_one (any_standing c.args.link.now) (tsdus_in c.args.pieces.now))
    (packets (written_for c.args.peer (any_standing c.args.link.now) (tsdus_in c.args.pieces.now))) c.args.out.now.items
    (any_standing c.pieces.link)
    ((c.pieces.head.now ++ c.split_at.result.0.now) ∷ tsdus_from c.args.pieces.now c.args.pieces.now.middle.now c.split_at.result.1.now)
    c.pieces.out.items c.pieces.out.spare
next_here c =
    next_of_several _ _ _ _ _ _ _ _ _ _ _ _ c.requires.fit c.pieces-test.true c.split_at.ensures.front c.split_at.ensures.back
    c.pieces.invariant.0

pub pieces-init : goal.pieces-init
pieces-init c = search (arith, sending_first)

pub write_headed-requires-clause-room : goal.write_headed-requires-clause-room
write_headed-requires-clause-room c =
    next_room _ _ _ _ _ _ _ _ _ (next_here (goal.at.write_headed-requires-clause-room c).After-split_at)

pub returns-then-not-write_headed : goal.returns-then-not-write_headed
returns-then-not-write_headed c =
    let is = subst (λ b. LeavesRest b (any_standing c.pieces.link) (c.pieces.head.now ++ c.split_at.result.0.now)
    (any_standing c.write_headed.new.link)) c.if-not-write_headed.true c.write_headed.ensures.link in
    let all = sending_stops _ _ _ _ _ _ _ _ _ _ _ (next_here (goal.at.returns-then-not-write_headed c).After-split_at) is
    c.write_headed.ensures.alone c.write_headed.ensures.written in
    record { link = all.link_is; alone = c.write_headed.ensures.alone; written = all.written }

pub pieces-preserved : goal.pieces-preserved
pieces-preserved c = grind (arith, sending_next, next_here (goal.at.pieces-preserved c).After-split_at)

pub write_headed-requires-2-clause-room : goal.write_headed-requires-2-clause-room
write_headed-requires-2-clause-room c =
    next_room _ _ _ _ _ _ _ _ _
    (last_of_all c.args.pieces.now _ _ _ _ _ c.pieces.head.now _ _ _ c.pieces-test.false c.pieces.invariant.0)

pub returns : goal.returns
returns c =
    let all = sending_last _ _ _ _ _ _ _ _ _ _ _ _
    (last_of_all c.args.pieces.now _ _ _ _ _ c.pieces.head.now _ _ _ c.pieces-test.false c.pieces.invariant.0)
    c.write_headed-2.ensures.link c.write_headed-2.ensures.pumped c.write_headed-2.ensures.alone c.write_headed-2.ensures.written
    c.write_headed-2.ensures.spare in
    record { link = all.link_is; alone = c.write_headed-2.ensures.alone; written = all.written }
