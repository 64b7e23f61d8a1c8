-- What holds of a line all the time, as long as its connection is judged.
-- For the laws on a line. The end is left: right is the same with the sides of the judge exchanged.
use Rattle.osi_blameless.proofs.transport.Vocabulary.{[], Bool, false, IfSome, List, None, Option, Some, true, ℕ, ◌%◌, ◌+◌, ◌∷◌, ◌≡◌, ◌≤◌}
use Rattle.osi_blameless.proofs.transport.Vocabulary.{not, ◌&&◌}
use Rattle.osi_blameless.proofs.transport.Vocabulary.{Value, Flow, Standing, is_closing, is_open, is_refused, is_silent, Connection, Left}
use Rattle.osi_blameless.proofs.transport.Vocabulary.{Half, Phase}
use Rattle.osi_blameless.proofs.transport.Vocabulary.{IsRightNow, Line}
use Rattle.osi_blameless.proofs.transport.lines.what_a_link_does.{HaveRoom}
use Rattle.osi_blameless.proofs.transport.lines.units_in_flight.{Bounds, Came, Comes, Puts}

-- The DTs of this side that were put (`sent`), and that have passed; the number of its last AK that was put and of the last
-- that has passed (`shown`); the DTs of the other side that have passed (`came`), the number of its last AK that has passed
-- (`heard`), and the edge that this AK sets.
pub record Tally : Type 0 where
  pub sent : ℕ
  pub passed : ℕ
  pub acked : ℕ
  pub shown : ℕ
  pub came : ℕ
  pub heard : ℕ
  pub edge : ℕ
  pub window : ℕ

-- the connection was answered and not refused
abbrev pub is_there : Phase → Bool
is_there phase = not (is_silent phase) && not (is_refused phase)

-- The judge knows these numbers. `noted`: what this side had sent when the other's packet began.
pub record AsJudged (r peer limit passed shown came heard edge window noted : ℕ) (mine theirs known : Half) (size : Option ℕ) : Type 0 where
  pub next : mine.next ≡ passed % 128
  pub awaited : mine.awaited ≡ shown % 128
  pub credit : mine.credit ≡ window
  pub their_next : theirs.next ≡ came % 128
  pub their_awaited : theirs.awaited ≡ heard % 128
  pub their_edge : heard + theirs.credit ≡ edge
  pub known_next : known.next ≡ noted % 128
  pub own_reference : mine.reference ≡ r
  pub reference : theirs.reference ≡ peer
  pub there : is_there theirs.phase ≡ true
  pub fits : IfSome size (λ most. limit + 5 ≤ most)

pub record Ordered (x : Tally) (noted : ℕ) : Type 0 where
  pub heard_noted : x.heard ≤ noted
  pub noted_passed : noted ≤ x.passed
  pub passed_sent : x.passed ≤ x.sent
  pub few : x.sent ≤ x.heard + 15
  pub within : x.sent ≤ x.edge
  pub shown_acked : x.shown ≤ x.acked
  pub acked_came : x.acked ≤ x.came
  pub tellable : x.came ≤ x.shown + 127

abbrev pub as_judged : (r peer limit : ℕ) → Tally → (noted : ℕ) → Connection → Type 0
as_judged r peer limit x noted judge =
    AsJudged r peer limit x.passed x.shown x.came x.heard x.edge x.window noted judge.left judge.right judge.seen_by_right judge.size

abbrev pub bounds_of : (r peer limit : ℕ) → Tally → (closed : Bool) → (theirs : Half) → Bounds
bounds_of r peer limit x closed theirs = record {
  reference = r;
  peer = peer;
  limit = limit;
  window = x.window;
  sent = x.sent;
  acked = x.acked;
  closed = closed;
  closing = is_closing theirs.phase;
}

abbrev pub came_of : Tally → (theirs : Half) → Came
came_of x theirs = record { came = x.came; heard = x.heard; edge = x.edge; phase = theirs.phase }

-- all that was put has passed, and so many octets of the first unsent TSDU
abbrev pub ends_so : (sent : ℕ) → List (List ℕ) → ℕ → ℕ → Type 0
ends_so sent unsent passed begun = (passed ≡ sent) × HaveRoom begun unsent

-- the end has closed the connection, and the unit that says so has passed
abbrev pub shut : Phase → ℕ → ℕ → Type 0
shut phase passed begun = is_open phase ≡ false

-- the end has this link; it has taken so many DTs, and AKs up to so many (`known`)
pub record Linked (limit sent acked window : ℕ) (came : Came) (coming : List Value) (link : Standing) : Type 0 where
  pub flow : Flow
  pub taken : ℕ
  pub known : ℕ
  pub is : link.flow ≡ Some flow
  pub size : link.ends.limit ≡ limit
  pub next : flow.sender.next ≡ sent % 128
  pub unacknowledged : known + flow.sender.unacknowledged ≡ sent
  pub few : flow.sender.unacknowledged + flow.sender.credit ≤ 15
  pub edge : sent + flow.sender.credit ≤ came.edge
  pub expected : flow.receiver.expected ≡ taken % 128
  pub waiting : acked + flow.receiver.waiting ≡ taken
  pub credit : flow.receiver.window ≡ window
  pub comes : Comes came taken known coming

abbrev pub linked : (limit : ℕ) → Tally → (theirs : Half) → List Value → Standing → Type 0
linked limit x theirs coming link = Linked limit x.sent x.acked x.window (came_of x theirs) coming link

-- as long as units are to pass, this side has not closed the connection
abbrev pub OpenIfAny : List Value → Phase → Type 0
OpenIfAny [] phase = Unit {0}
OpenIfAny (unit ∷ units) phase = is_open phase ≡ true

abbrev pub PutsAt : (r peer limit : ℕ) → Tally → (mine theirs : Half) → List Value → Option Standing → Type 0
PutsAt r peer limit x mine theirs put None =
    Puts (bounds_of r peer limit x true theirs) (shut mine.phase) x.passed x.shown mine.begun put × OpenIfAny put mine.phase
PutsAt r peer limit x mine theirs put (Some link) =
    Puts (bounds_of r peer limit x false theirs) (ends_so x.sent link.ends.unsent) x.passed x.shown mine.begun put
    × (is_open mine.phase ≡ true)

abbrev pub TakesAt : (limit : ℕ) → Tally → (theirs : Half) → List Value → Option Standing → Type 0
TakesAt limit x theirs coming None = Unit {0}
TakesAt limit x theirs coming (Some link) = linked limit x theirs coming link

pub record Holds (r peer : ℕ) (line : Line) : Type 0 where
  pub limit : ℕ
  pub tally : Tally
  pub noted : ℕ
  pub ordered : Ordered tally noted
  pub judges : as_judged r peer limit tally noted line.judge
  pub puts : PutsAt r peer limit tally line.judge.left line.judge.right line.put line.end
  pub takes : TakesAt limit tally line.judge.right line.coming line.end
  pub under_way : line.begun ≡ true → IsRightNow Left line.judge line.put
