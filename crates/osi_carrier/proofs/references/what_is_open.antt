-- What is open, and what is not.
use Rattle.osi_carrier.proofs.Vocabulary.{value_at, open_link, link_of, WaitsAlone, WaitsOn, WaitTogether, AllWaitOn, peer_in, link_in}
use Rattle.osi_carrier.proofs.Vocabulary.{State, Connection, linked, arith, ◌≡◌, ℕ, List, Option, Some, None, ap}

pub open_is : (o : Option Connection) (peer : ℕ) → peer_in o ≡ Some peer → o ≡ Some (linked peer (link_in o))
open_is o peer e = grind arith

-- what has no open connection has no open link
pub not_open : (r : ℕ) (s : State) → link_of (value_at r s.live) ≡ None → open_link r s ≡ None
not_open r s e = grind arith

pub no_link : (r : ℕ) (s : State) → value_at r s.live ≡ None → open_link r s ≡ None
no_link r s e = not_open r s (ap link_of e)

pub waits_at : (r : ℕ) (s : State) (octets : List ℕ) → WaitsOn (open_link r s) octets → WaitsAlone (link_in (value_at r s.live)) octets
waits_at r s octets h = grind arith

pub all_wait_at : (r : ℕ) (s : State) (tsdus : List (List ℕ)) → AllWaitOn (open_link r s) tsdus →
    WaitTogether (link_in (value_at r s.live)) tsdus
all_wait_at r s tsdus h = grind arith
