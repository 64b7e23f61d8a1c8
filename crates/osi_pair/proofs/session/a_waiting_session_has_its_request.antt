-- A side whose transport connection waits for agreement: its session waits too, with the CN of the request.
-- For packets.
use Rattle.osi_machine.specs.Core as machine
use Rattle.osi_machine.specs.Machine.{start, run}
use Rattle.osi_pair.proofs.Vocabulary.{◌≡◌, ℕ, true, Some, subst, arith, SaysItsUnit, At, line_there, all_follow, IsTableRun, Offer}
use Rattle.osi_pair.proofs.Vocabulary.{offer_sent, Machine, connection_at, Seat, Line, Tables, seen_from, waiting, SessionLaws}
use Rattle.osi_pair.proofs.Vocabulary.{is_wait_transport}
use Rattle.osi_pair.proofs.turn.a_turn_keeps_the_match.{seen_twice}

pub record IsCalling (x : Seat) : Type 0 where
  pub phase : is_wait_transport x.session.state.phase ≡ true
  pub offer : Offer
  pub calls : x.session.waiting ≡ Some (offer_sent offer)

-- in tables that are reached, seen from either side
pub is_calling : SessionLaws → SaysItsUnit → (s : machine.Side) (r : ℕ) (l : Line) (t : Tables) → IsTableRun t →
    connection_at r t.lines ≡ Some (seen_from s l) → l.own.transport ≡ waiting → IsCalling l.own
is_calling laws says s r l t h found e =
    let f = all_follow laws says h.agreed h.steps h.numbered in
    let m : Machine = run (start h.agreed) h.steps in
    let at : At (Some (seen_from s l)) (connection_at r m.worlds) = grind (arith, line_there) in
    let twice = seen_twice s l in
    subst (λ (x : Line). IsCalling x.own) twice
    (grind arith)
