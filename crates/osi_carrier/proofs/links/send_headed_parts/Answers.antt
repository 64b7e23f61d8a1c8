use Rattle.osi_carrier.proofs.Vocabulary.{any_standing, all_given, with_tsdu, ◌++◌, arith, length, length-append}
use Rattle.osi_carrier.proofs.Vocabulary.{ℕ, List, ◌≡◌, ◌==◌, true, ap, sym, eqb-true}
use Rattle.osi_carrier.proofs.written.a_tsdu_part_after_part.{part_goes, empty_list}
use Rattle.osi_carrier.proofs.written.all_that_a_link_gives.{packets_most}
use Rattle.osi_carrier.proofs.links.send_headed_parts.Goals as goal

pub write_keeping-requires-clause-room : goal.write_keeping-requires-clause-room
write_keeping-requires-clause-room c =
    let tsdu = c.args.head.now ++ c.args.body.now in
    let long = length-append c.args.head.now c.args.body.now in
    let then = with_tsdu (any_standing c.args.link.now) tsdu in
    let room = c.in_ok-reserve.ensures.spare.1 in
    grind (arith, packets_most c.args.peer (all_given then))

pub write_keeping-requires-clause-alone : goal.write_keeping-requires-clause-alone
write_keeping-requires-clause-alone c = grind (arith, part_goes, length-append c.args.head.now c.args.body.now)

no_head : (h l : List ℕ) → (length h == 0) ≡ true → l ≡ h ++ l
no_head h l e = ap (λ x. x ++ l) (sym (empty_list h (eqb-true _ _ e)))

pub write_keeping-requires-clause-kept : goal.write_keeping-requires-clause-kept
write_keeping-requires-clause-kept c =
    grind (arith, length-append c.args.head.now c.args.body.now, c.room_for-room.ensures.octets (c.args.head.now ++ c.args.body.now))

pub returns-then-is_empty-clause-link : goal.returns-then-is_empty-clause-link
returns-then-is_empty-clause-link c =
    rw (← no_head c.args.head.now c.args.body.now (sym c.if-is_empty.ensures)) c.send_parts.ensures.link

pub returns-then-is_empty-clause-ok : goal.returns-then-is_empty-clause-ok
returns-then-is_empty-clause-ok c =
    rw (← no_head c.args.head.now c.args.body.now (sym c.if-is_empty.ensures), ← c.reserve.ensures.items) c.send_parts.ensures.ok
