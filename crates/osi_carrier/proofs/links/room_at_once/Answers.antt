use Rattle.osi_carrier.proofs.Vocabulary.{any_standing, ◌∙◌, ◌<◌, ℕ, ap, arith, units_needed, tsdus_in}
use Rattle.osi_carrier.proofs.written.whether_all_tsdus_may_go_now.{counts_fit, exact_room, go_of_all, room_of_all, some_room}
use Rattle.osi_carrier.proofs.links.room_at_once.Goals as goal

pub returns : goal.returns
returns c =
    let s = any_standing c.args.link.now in
    let tsdus = tsdus_in c.args.pieces.now in
    let value = c.limit.ensures.value in
    let limit : 0 < s.ends.limit = omega (arith, value) in
    let count = c.in_ok-room.ensures.units ∙ ap (λ (n : ℕ). units_needed n tsdus) value in
    let go = c.may_send.ensures.go c.if-not-may_send.false tsdus count in
    record {
      go = go_of_all s tsdus c.checked_add.result go;
      enough = room_of_all s tsdus _ _ _ _ _ limit c.requires.quiet go count c.in_ok-room.ensures.octets c.in_ok-headers.ensures.1
          c.checked_add.ensures;
      exact = exact_room s tsdus _ _ _ _ _ count c.in_ok-room.ensures.octets c.in_ok-headers.ensures.1 c.checked_add.ensures;
      some = λ all few fits.
          some_room s tsdus _ _ _ _ count c.in_ok-room.ensures.octets c.in_ok-headers.ensures.1 c.checked_add.ensures fits;
    }

pub returns-in_err-room-clause-some : goal.returns-in_err-room-clause-some
returns-in_err-room-clause-some c = grind (arith, counts_fit)
