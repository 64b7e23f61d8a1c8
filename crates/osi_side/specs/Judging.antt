-- What is known of a side of which so much was heard and told, and what is found of it.
use Rattle.std.specs.Prelude.{◌≡◌, ◌<◌, ◌≤◌, ◌↔◌, ◌⊎◌, ◌++◌, ◌+◌, ℕ, true, false, List, length, take, get_or, Option, Some, None}
use Rattle.osi_session.specs.Standing.{Seen}
use Rattle.osi_side.specs.declared.members.Member.{Member}
use Rattle.osi_side.specs.declared.findings.Finding.{Finding}
use Rattle.osi_side.specs.declared.findings.Finding.TheVariants.{Kept, Broke, Left, TooMany}
use Rattle.osi_side.specs.Explaining.{Told, Explains, remarks, IsExplained, IsBlamed}
use Rattle.osi_side.specs.declared.rules.Break.{Break}
use Rattle.osi_side.specs.Breaking.{BreaksAt, selection_of}
use Rattle.osi_side.specs.Kept.{kept}
use Rattle.osi_side.specs.Profiles.{selects_outside, leaves}
use Rattle.osi_side.specs.Findings.{place_of}
use Rattle.osi_side.specs.Members.{SomeExplains, Extends}
use Rattle.osi_side.specs.Walking.{Ever}
pub use Rattle.osi_side.specs.Members.{is_empty}

-- a side: the TSDUs of the other side, the sessions that still explain it, how many TSDUs it sent, how many had passed
-- before the last, what was found, and the rule by which it broke the protocol
pub record Observed : Type 0 where
  pub begin : Seen
  pub heard : List (List ℕ)
  pub members : List Member
  pub told : ℕ
  pub before : ℕ
  pub finding : Finding
  pub by : Break

-- A side that said this, where the other side said that, kept the protocol: it is explained, and selects nothing that the
-- profile leaves out.
abbrev pub IsKept : Seen → List (List ℕ) → List Told → Type 0
IsKept begin us told = IsExplained begin us told × (selects_outside us told ≡ false)

-- it is not explained, or selects what the profile leaves out
abbrev pub IsAstray : Seen → List (List ℕ) → List Told → Type 0
IsAstray begin us told = (IsExplained begin us told → ⊥) ⊎ (selects_outside us told ≡ true)

-- after each of these TSDUs at most 4,096 sessions are kept
abbrev pub IsFew : Seen → List (List ℕ) → List Told → Type 0
IsFew begin us told = (n : ℕ) → length (kept begin us (take n told)) ≤ 4096

-- after the i-th there are more, and not before it
abbrev pub IsCrowd : Seen → List (List ℕ) → List Told → ℕ → Type 0
IsCrowd begin us told i = IsFew begin us (take i told) × (4096 < length (kept begin us (take (i + 1) told)))

-- whatever the other side says later, the side kept the protocol up to its i-th TSDU, and is explained no further
abbrev pub BrokeFor : Seen → List (List ℕ) → List Told → ℕ → Type 0
BrokeFor begin heard told i = (i < length told)
    × ((us : List (List ℕ)) → Extends us heard → IsKept begin us (take i told) × (IsExplained begin us (take (i + 1) told) → ⊥))

-- or it left the profile at its i-th TSDU
abbrev pub LeftFor : Seen → List (List ℕ) → List Told → ℕ → Type 0
LeftFor begin heard told i = (i < length told)
    × ((us : List (List ℕ)) → Extends us heard → IsKept begin us (take i told) × IsAstray begin us (take (i + 1) told))

-- or it kept the protocol up to its i-th TSDU and with it, and then the sessions are too many that explain it
abbrev pub CrowdedFor : Seen → List (List ℕ) → List Told → ℕ → Type 0
CrowdedFor begin heard told i = (i < length told)
    × ((us : List (List ℕ)) → Extends us heard → IsKept begin us (take (i + 1) told) × IsCrowd begin us told i)

-- the members explain what is sent from here on exactly if the side is explained up to there
abbrev pub AreAll : Seen → List (List ℕ) → ℕ → List Member → List Told → Type 0
AreAll begin heard before members told = Ever heard before (λ us later. Explains us (remarks told ++ later) 0 begin ↔ SomeExplains us members later)

-- whatever the other side says later, these are the sessions that are kept
abbrev pub AreKept : Seen → List (List ℕ) → List Told → List Member → Type 0
AreKept begin heard told members = (us : List (List ℕ)) → Extends us heard → members ≡ kept begin us told

-- and after each of its TSDUs they are at most 4,096
abbrev pub AreFew : Seen → List (List ℕ) → List Told → Type 0
AreFew begin heard told = (us : List (List ℕ)) → Extends us heard → IsFew begin us told

-- of a side that keeps the protocol: how many TSDUs it said, and the sessions that are kept of those that explain them
pub record Keeps (w : Observed) (told : List Told) : Type 0 where
  pub count : w.told ≡ length told
  pub all : AreAll w.begin w.heard w.before w.members told
  pub kept : AreKept w.begin w.heard told w.members
  pub some : is_empty w.members ≡ false
  pub few : AreFew w.begin w.heard told
  pub inside : (us : List (List ℕ)) → Extends us w.heard → selects_outside us told ≡ false

-- it is explained up to its i-th TSDU and with it
abbrev pub ExplainedFor : Seen → List (List ℕ) → List Told → ℕ → Type 0
ExplainedFor begin heard told i = (us : List (List ℕ)) → Extends us heard → IsExplained begin us (take (i + 1) told)

-- the i-th TSDU of a side, and the sessions that are kept of those that explain the TSDUs before it
pub record StandsBefore (w : Observed) (told : List Told) (i : ℕ) (tsdu : Told) : Type 0 where
  pub is : tsdu ≡ get_or told i tsdu
  pub passed : tsdu.before ≤ length w.heard
  pub all : AreAll w.begin w.heard w.before w.members (take i told)
  pub kept : AreKept w.begin w.heard (take i told) w.members
  pub some : is_empty w.members ≡ false
  pub few : AreFew w.begin w.heard (take i told)

-- The rule by which the side broke the protocol is that of the one of these sessions that came nearest.
abbrev pub BrokeBy : Observed → List Told → ℕ → Type 0
BrokeBy w told i = (tsdu : Told) × StandsBefore w told i tsdu × BreaksAt w.heard tsdu.octets tsdu.before w.members w.by
    × (leaves w.heard tsdu.octets tsdu.before w.by ≡ false)

-- It is outside of the profile; or the side selects what the profile leaves out.
abbrev pub LeftBy : Observed → List Told → ℕ → Type 0
LeftBy w told i = (tsdu : Told) × StandsBefore w told i tsdu
    × ((BreaksAt w.heard tsdu.octets tsdu.before w.members w.by × (leaves w.heard tsdu.octets tsdu.before w.by ≡ true) × BrokeFor w.begin w.heard told i)
    ⊎ ((w.by ≡ selection_of tsdu.before w.members) × ExplainedFor w.begin w.heard told i))

-- This is what is known of a side that sent this, by what was found.
abbrev pub ObservesBy : Finding → Observed → List Told → Type 0
ObservesBy Kept w told = Keeps w told
ObservesBy (Broke i) w told = BrokeFor w.begin w.heard told i × BrokeBy w told i
ObservesBy (Left i) w told = LeftFor w.begin w.heard told i × LeftBy w told i
ObservesBy TooMany w told = CrowdedFor w.begin w.heard told w.told

abbrev pub Observes : Observed → List Told → Type 0
Observes w told = ObservesBy w.finding w told

-- What is found once a side is told one TSDU more. A side that kept the protocol may break it or leave the profile at this TSDU
-- alone; anything else that was found stays.
abbrev pub FoundNext : Finding → (told : ℕ) → Finding → Type 0
FoundNext Kept told (Broke i) = i ≡ told
FoundNext Kept told (Left i) = i ≡ told
FoundNext Kept told finding = Unit {0}
FoundNext found told finding = finding ≡ found

-- What is found of a side that said this where the other side said that.
abbrev pub IsFound : Seen → List (List ℕ) → List Told → Finding → Type 0
IsFound begin heard told Kept = IsKept begin heard told
IsFound begin heard told (Broke i) = IsBlamed begin heard told i × (selects_outside heard (take i told) ≡ false)
-- it left the profile at its i-th TSDU, and kept the protocol up to there
IsFound begin heard told (Left i) = (i < length told) × IsKept begin heard (take i told) × IsAstray begin heard (take (i + 1) told)
-- it kept the protocol up to one of its TSDUs and with it, and then there were too many sessions that explain it
IsFound begin heard told TooMany = (i : ℕ) × (i < length told) × IsKept begin heard (take (i + 1) told)

-- the TSDUs before this one, or all of them
abbrev pub up_to : Option ℕ → List Told → List Told
up_to None told = told
up_to (Some i) told = take i told

-- Whether the sessions became too many that explain a side: they did not, or with its i-th TSDU.
abbrev pub HasRoom : Seen → List (List ℕ) → List Told → Finding → Type 0
HasRoom begin heard told TooMany = (i : ℕ) × (i < length told) × IsKept begin heard (take (i + 1) told) × IsCrowd begin heard told i
HasRoom begin heard told found = IsFew begin heard (up_to (place_of found) told)
