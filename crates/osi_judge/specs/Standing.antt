-- What a judge holds of both directions and of what has passed.
use Rattle.std.specs.Prelude.{◌≡◌, ℕ, Bool, true, false, List, [], ◌++◌, Option, Some, None}
use Rattle.osi_side.specs.Captures.{Capture, other, piece}
use Rattle.osi_side.specs.declared.directions.Direction.{Direction}
use Rattle.osi_side.specs.declared.directions.Direction.TheVariants.{Left, Right}
use Rattle.osi_judge.specs.declared.marks.First.{First}
use Rattle.osi_judge.specs.declared.judge.Judge.{Judge}
use Rattle.osi_judge.specs.declared.proceedings.Proceedings.{Proceedings}
use Rattle.osi_judge.specs.Holding.{streamed, AllHeard}
use Rattle.osi_judge.specs.Owing.{HoldsAll, Owes}
use Rattle.osi_judge.specs.Streams.{Streamed, partial, whole, front_of, advanced}
use Rattle.osi_judge.specs.States.{State, stream_of, begin, after}

-- the octets that are held of a packet are a part of it; none are held if nothing more is read
pub record IsPart (t : Streamed) : Type 0 where
  pub part : front_of t.held ≡ partial
  pub none : t.spent ≡ true → t.held ≡ []

-- a direction is held as it is
pub record HoldsPart (d : Direction) (t : Streamed) (s : State) : Type 0 where
  pub stream : t ≡ stream_of d s
  pub part : IsPart t

-- and nothing is still to pass
pub record HoldsOpen (d : Direction) (w : Proceedings) (t : Streamed) (s : State) : Type 0 where
  pub stream : HoldsPart d t s
  pub course : HoldsAll w s.course

-- or a direction holds a whole packet, which is still to pass, at least in part; then it is held so
pub record HoldsWhole (d : Direction) (w : Proceedings) (t : Streamed) (s : State) : Type 0 where
  pub unit : List ℕ
  pub is_whole : front_of t.held ≡ whole unit
  pub stream : advanced t ≡ stream_of d s
  pub course : Owes w d t.at unit s.course

abbrev pub HoldsStream : (is_whole : Bool) → Direction → Proceedings → Streamed → State → Type 0
HoldsStream false d w t s = HoldsOpen d w t s
HoldsStream true d w t s = HoldsWhole d w t s

-- ---- both directions

abbrev pub pick : Direction → (left right : Streamed) → Streamed
pick Left left right = left
pick Right left right = right

-- nothing is still to pass
pub record HoldsNow (w : Proceedings) (l r : Streamed) (s : State) : Type 0 where
  pub left : HoldsPart Left l s
  pub right : HoldsPart Right r s
  pub course : HoldsAll w s.course

-- a packet of this direction is still to pass, at least in part
pub record HoldsDue (d : Direction) (w : Proceedings) (left right : Streamed) (s : State) : Type 0 where
  pub own : HoldsWhole d w (pick d left right) s
  pub beside : HoldsPart (other d) (pick (other d) left right) s

abbrev pub HoldsBy : (due : Option Direction) → Proceedings → (left right : Streamed) → State → Type 0
HoldsBy None w left right s = HoldsNow w left right s
HoldsBy (Some d) w left right s = HoldsDue d w left right s

-- a packet of this direction is due, if it is whole
abbrev pub due_if : (is_whole : Bool) → Direction → Option Direction
due_if true d = Some d
due_if false d = None

-- of a judge
abbrev pub HoldsState : Judge → State → Type 0
HoldsState t s = HoldsBy t.due t.proceedings (streamed t.left) (streamed t.right) s

-- all that passed is judged
abbrev pub IsJudged : Judge → Type 0
IsJudged t = t.due ≡ None

-- and each session was given all that the other side of its connection said
pub record IsSettled (t : Judge) : Type 0 where
  pub judged : IsJudged t
  pub heard : AllHeard t.proceedings.sessions

-- the break that is told as the first
abbrev pub first_in : Judge → Option First
first_in t = t.proceedings.first

-- ---- a capture is fed

-- what a call does that fed these octets of a piece; the contracts of `feed` and `settle` say that they do so
pub record Feeds (d : Direction) (octets : List ℕ) (old new : Judge) : Type 0 where
  pub passes : (s : State) → HoldsState old s → HoldsState new (after (piece d octets) s)

-- A capture was fed to a judge that was new, in any pieces. Between them memory may have been short, and any calls of `settle` have
-- passed: these feed no octets.
pub data IsFed : Capture → Judge → Type 0 where
  unfed : (t : Judge) → HoldsState t begin → IsFed [] t
  fed : (capture : Capture) (d : Direction) (octets : List ℕ) (old new : Judge) → IsFed capture old → Feeds d octets old new
      → IsFed (capture ++ piece d octets) new
