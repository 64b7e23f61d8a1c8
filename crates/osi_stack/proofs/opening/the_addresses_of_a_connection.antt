-- The addresses of a connection that is requested here.
use Rattle.osi_stack.proofs.Vocabulary.{value_at, push_here, beyond, known_is, none_of, addresses_at, asked_addresses, connects, Soundness}
use Rattle.osi_stack.proofs.Vocabulary.{End, Connect, ◌≡◌, ◌+◌, Some, None, is_some, ap, ◌∙◌, arith, AreNamed}
use Rattle.osi_stack.proofs.carried.what_a_move_leaves.{used_live}

-- ---- what is requested

pub asked_known : (c : Connect) (e : End) → Soundness e → AreNamed e.carrier →
    addresses_at (e.carrier.given + 1) (connects c e) ≡ Some (asked_addresses c)
asked_known c e s named =
    let n = e.carrier.given + 1 in
    let gone : value_at n e.carrier.live ≡ None = beyond n e.carrier.given e.carrier.live s.orderly.up_to (omega arith) in
    let unnamed : value_at n e.carrier.tsaps ≡ None = none_of (value_at n e.carrier.tsaps) (known_is n e.carrier named ∙ ap is_some gone) in
    grind (arith, push_here, used_live, beyond)
