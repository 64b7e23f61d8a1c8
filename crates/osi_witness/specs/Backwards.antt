-- A run is read off backwards: which step comes before a run of the units that follow.
use Rattle.std.specs.Prelude.{◌≡◌, ◌≤◌, ◌+◌, ◌-◌, ◌⊎◌, ◌∷◌, ℕ, false, if◌then◌else◌, List, [], get_or}
use Rattle.osi_session.specs.Standing.{Seen, CanSay}
use Rattle.osi_session.specs.Steady.{Hears}
use Rattle.osi_side.specs.declared.members.Member.{Member}
use Rattle.osi_witness.specs.declared.streams.Kept.{Kept}
use Rattle.osi_witness.specs.declared.streams.Said.{Said}
use Rattle.osi_witness.specs.declared.trails.Goal.{Goal}
use Rattle.osi_witness.specs.declared.trails.Step.{Step}
use Rattle.osi_witness.specs.Steps.{heard_for, word_for}
use Rattle.osi_witness.specs.Trails.{IsOf, Listens, Sends, remark_of}

-- how many TSDUs a session may have taken before this step
abbrev pub last_before : Said → ℕ
last_before x = if x.is_answer then x.taken - 1 else x.taken

-- before the first of these it may have taken so many
abbrev pub HasRoom : (most : ℕ) → List Said → Type 0
HasRoom most [] = Unit {0}
HasRoom most (x ∷ xs) = most ≤ last_before x

-- A session that sent a unit so, and the one that is kept after it, are one: both come from one state by TSDUs that it takes.
pub record Meets (us : List (List ℕ)) (most : ℕ) (x : Said) (after : Member) : Type 0 where
  pub taken : ℕ
  pub at : Seen
  pub waited : ℕ
  pub count : after.taken ≡ taken + waited
  pub stays : Listens us taken at waited after.standing
  pub more : ℕ
  pub later : x.taken ≡ taken + more
  pub listened : Listens us taken at more x.standing
  pub room : (more ≡ 0) ⊎ (x.taken ≤ most)

-- A session sends this unit so, and goes on to the one after it.
pub record StepsTo (own us : List (List ℕ)) (most : ℕ) (k : Kept) (from : Member) (x : Said) (after : Member) : Type 0 where
  pub is : IsOf k x
  pub sends : Sends us (remark_of own k) from.taken from.standing x
  pub meets : Meets us most x after

-- the step after one TSDU more
pub record IsNext (g : Goal) (t u : Step) : Type 0 where
  pub is : u.is_answer ≡ false
  pub count : u.taken ≡ t.taken + 1
  pub from : Hears t.from (get_or (heard_for g) t.taken []) u.from
  pub standing : Hears t.standing (get_or (heard_for g) t.taken []) u.standing
  pub said : CanSay u.from (word_for g) g.octets u.standing

-- and after some more
pub record IsLater (g : Goal) (most : ℕ) (t u : Step) : Type 0 where
  pub calls : t.is_answer ≡ false
  pub is : u.is_answer ≡ false
  pub more : ℕ
  pub count : u.taken ≡ t.taken + more
  pub from : Listens (heard_for g) t.taken t.from more u.from
  pub standing : Listens (heard_for g) t.taken t.standing more u.standing
  pub said : CanSay u.from (word_for g) g.octets u.standing
  pub room : u.taken ≤ most
  pub passed : u.taken ≤ g.before

abbrev pub IsLatest : Goal → (most : ℕ) → (t u : Step) → Type 0
IsLatest g most t u = (u ≡ t) ⊎ IsLater g most t u

-- it is told so of a unit
abbrev pub said_by_step : Said → Step → Said
said_by_step x t = record x { taken = t.taken; is_answer = t.is_answer; standing = t.standing }
