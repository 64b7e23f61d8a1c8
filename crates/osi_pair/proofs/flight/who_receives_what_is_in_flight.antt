-- What the tables say of the sessions that will receive what is in flight from a side.
-- For breaks and ends, packets and the laws of `standing`.
use Rattle.osi_pair.proofs.Vocabulary.{other, ◌≡◌, ℕ, Some, eqb-true, eq-eqb, IsTableRun, AtEachSide, IsOverWhenLeft, IsNoFaultBehind}
use Rattle.osi_pair.proofs.Vocabulary.{connection_at, Line, Tables, seen_from, side_in, Side, arith}
use Rattle.osi_pair.proofs.turn.a_turn_keeps_the_match.{seen_twice, LinesAfter}
use Rattle.osi_pair.proofs.flight.what_is_in_flight_when_an_end_acts.{Takes}

-- what is proved of the machine
pub record TakeLaws : Type 0 where
  pub behind : (t : Tables) → IsTableRun t → AtEachSide IsNoFaultBehind t
  pub left : (t : Tables) → IsTableRun t → AtEachSide IsOverWhenLeft t

-- of what is in flight from a side
abbrev pub TakesFrom : Side → Tables → Type 0
TakesFrom s t = (n : ℕ) (l : Line) → connection_at n t.lines ≡ Some (seen_from (side_in s) l) → Takes l.peer.session.state l.own.channel

pub takes_from : TakeLaws → (s : Side) (t : Tables) → IsTableRun t → TakesFrom s t
takes_from laws s t run n l found =
    let there = side_in (other s) in
    let seen = seen_from (side_in s) l in
    grind (arith, laws.behind t run there n seen found, laws.left t run there n seen found)

-- and to it
pub takes_here : TakeLaws → (s : Side) (t : Tables) → IsTableRun t → (n : ℕ) (l : Line) →
    connection_at n t.lines ≡ Some (seen_from (side_in s) l) → Takes l.own.session.state l.peer.channel
takes_here laws s t run n l found =
    let seen = seen_from (side_in s) l in
    grind (arith, laws.behind t run (side_in s) n seen found, laws.left t run (side_in s) n seen found)

-- ---- a side has moved and sent nothing

pub takes_then : (s : Side) (t u : Tables) (n : ℕ) (line : Line) → LinesAfter s n line t u →
    Takes line.peer.session.state line.own.channel → TakesFrom s t → TakesFrom s u
takes_then s t u n line a here all q x found = search (arith, eqb-true, seen_twice, eq-eqb)
