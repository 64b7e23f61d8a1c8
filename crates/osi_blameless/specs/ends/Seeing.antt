-- What a capture shows of an end, by the turns of this end. It may be taken anywhere between the two ends.
use Rattle.std.specs.Prelude.{◌≡◌, ◌<◌, ◌≤◌, ◌+◌, ℕ, Bool, List, [], ◌∷◌, ◌++◌, length}
use Rattle.std.specs.List.{flat_map}
use Rattle.osi_class.specs.declared.terms.Local.{Local}
use Rattle.osi_side.specs.declared.directions.Direction.{Direction}
use Rattle.osi_side.specs.Captures.{Capture, other, stream, passed_before}
use Rattle.osi_stack.specs.State.{Holding, fresh_end}
use Rattle.osi_blameless.specs.ends.Turns.{Turn}

-- a fresh end, which holds no octets
pub record IsFresh (is_caller : Bool) (local : Local) (begin : Holding) : Type 0 where
  pub end : begin.end ≡ fresh_end is_caller local
  pub held : begin.held.octets ≡ []

-- all octets that these turns used of what arrived, and all that they put, in order
abbrev pub used_along : List Turn → List ℕ
used_along turns = flat_map (λ turn. turn.used) turns

abbrev pub put_along : List Turn → List ℕ
put_along turns = flat_map (λ turn. turn.put) turns

-- these octets are a prefix of those
abbrev pub IsPrefix : List ℕ → List ℕ → Type 0
IsPrefix some all = (later : List ℕ) × (some ++ later ≡ all)

-- What a turn puts leaves the end after the turn. So each octet that it puts and that the capture shows passes after all
-- the octets that the end had used by then: so many before these turns, and those that the turns use. The octets of a side
-- are counted from 0, and `put` of them had been put before these turns.
abbrev pub PassAfter : Direction → Capture → (used put : ℕ) → List Turn → Type 0
PassAfter d capture used put [] = Unit {0}
PassAfter d capture used put (turn ∷ turns) =
    ((k : ℕ) → put ≤ k → k < put + length turn.put → k < length (stream d capture) → used + length turn.used ≤ passed_before d capture k)
    × PassAfter d capture (used + length turn.used) (put + length turn.put) turns

-- A capture of an end that did all of this, since it was fresh.
pub record IsSeen (d : Direction) (turns : List Turn) (capture : Capture) : Type 0 where
  -- Of its own octets the capture shows a prefix of what it put.
  pub own : IsPrefix (stream d capture) (put_along turns)
  -- The other side's octets that the capture shows, and those that the end used, are prefixes of one stream. Some may be
  -- shown that the end hasn't used yet, and the capture may end before some that it used.
  pub coming : List ℕ
  pub shown : IsPrefix (stream (other d) capture) coming
  pub used : IsPrefix (used_along turns) coming
  -- Nothing that the end put passes before what it had used by then.
  pub after : PassAfter d capture 0 0 turns
