-- An end puts nothing on a connection after the unit that closes it, and the other side keeps its reference.
-- For the law of that name.
use Rattle.osi_blameless.proofs.transport.Vocabulary.{arith, [], List, true, ℕ, ◌≡◌, ◌≢◌, is_open, own, theirs, Direction, Left, Right, Act}
use Rattle.osi_blameless.proofs.transport.Vocabulary.{ActsAlong}
use Rattle.osi_blameless.proofs.transport.Vocabulary.{IsOpened, Line}
use Rattle.osi_blameless.proofs.transport.lines.what_holds_of_a_line.{Holds}
use Rattle.osi_blameless.proofs.transport.lines.an_open_end_is_fair.{all_keep, all_turned, opened_holds, turned_line}

pub left_holds : (r peer : ℕ) (begin line : Line) (acts : List Act) → IsOpened Left r peer begin → ActsAlong Left r peer begin acts line →
    line.judge.is_judged ≡ true → Holds r peer line
left_holds r peer begin line acts o along judged = all_keep r peer acts begin line along (λ _. opened_holds r peer begin o) judged

pub right_holds : (r peer : ℕ) (begin line : Line) (acts : List Act) → IsOpened Right r peer begin →
    ActsAlong Right r peer begin acts line →
    line.judge.is_judged ≡ true → Holds r peer (turned_line line)
right_holds r peer begin line acts o along judged =
    all_turned r peer acts begin line along (λ _. opened_holds r peer (turned_line begin) (grind arith)) judged

pub waits_open : (d : Direction) (r peer : ℕ) (begin line : Line) (acts : List Act) → IsOpened d r peer begin →
    ActsAlong d r peer begin acts line → line.judge.is_judged ≡ true → line.put ≢ [] → is_open (own d line.judge).phase ≡ true
waits_open Left r peer begin line acts o along judged some = grind (arith, left_holds r peer begin line acts o along judged)
waits_open Right r peer begin line acts o along judged some = grind (arith, right_holds r peer begin line acts o along judged)

pub peer_keeps : (d : Direction) (r peer : ℕ) (begin line : Line) (acts : List Act) → IsOpened d r peer begin →
    ActsAlong d r peer begin acts line → line.judge.is_judged ≡ true → (theirs d line.judge).reference ≡ peer
peer_keeps Left r peer begin line acts o along judged = grind (arith, left_holds r peer begin line acts o along judged)
peer_keeps Right r peer begin line acts o along judged = grind (arith, right_holds r peer begin line acts o along judged)
