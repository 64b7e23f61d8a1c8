-- A side in memory, by what is known of it.
use Rattle.std.specs.Prelude.{◌≡◌, ◌≤◌, ℕ, Bool, true, false, List, [], ◌∷◌, ◌++◌}
use Rattle.osi_session.specs.Standing.{Seen, seen_calling, seen_called}
use Rattle.osi_side.specs.declared.directions.Direction.{Direction}
use Rattle.osi_side.specs.declared.directions.Direction.TheVariants.{Left as left, Right as right}
use Rattle.osi_side.specs.declared.sides.Side.{Side}
use Rattle.osi_side.specs.declared.findings.Finding.{Finding}
use Rattle.osi_side.specs.declared.findings.Finding.TheVariants.{Broke, Left}
use Rattle.osi_side.specs.Breaking.{BreaksAt}
use Rattle.osi_side.specs.Explaining.{Told}
use Rattle.osi_side.specs.Judging.{Observed, Observes, FoundNext}
use Rattle.osi_side.specs.Profiles.{leaves}

-- the session that a side begins with: left calls
abbrev pub begin_of : Direction → Seen
begin_of left = seen_calling
begin_of right = seen_called

abbrev pub observed : Side → Observed
observed s = record {
  begin = s.begin;
  heard = s.heard;
  members = s.members.items;
  told = s.told;
  before = s.before;
  finding = s.finding;
  by = s.by;
}

-- a side that left the profile with its i-th TSDU, or broke the protocol
abbrev pub ended_at : (leaves : Bool) → ℕ → Finding
ended_at true i = Left i
ended_at false i = Broke i

-- A side is told one of its TSDUs, before which so many of the other side's had passed.
pub record Tells (tsdu : List ℕ) (before : ℕ) (old new : Observed) : Type 0 where
  pub begin : new.begin ≡ old.begin
  pub heard : new.heard ≡ old.heard
  pub no_later : new.before ≤ before
  pub finding : FoundNext old.finding old.told new.finding
  pub observes : (told : List Told) → Observes old told → Observes new (told ++ record { octets = tsdu; before = before } ∷ [])

-- The side broke the protocol at this TSDU, or left the profile: by the break of the sessions that explain it.
pub record EndsAt (tsdu : List ℕ) (before : ℕ) (w n : Observed) : Type 0 where
  pub by : BreaksAt w.heard tsdu before w.members n.by
  pub is : n ≡ record w { finding = ended_at (leaves w.heard tsdu before n.by) w.told; by = n.by }
