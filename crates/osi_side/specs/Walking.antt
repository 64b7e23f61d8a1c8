-- How a session continues to the next remark: it sends it now, or takes TSDUs first.
use Rattle.std.specs.Prelude.{◌≡◌, ◌+◌, ◌↔◌, ◌⊎◌, ℕ, true, List, [], ◌∷◌, get_or, Option, Some, None}
use Rattle.osi_message.specs.Meanings.{Meaning}
use Rattle.osi_message.specs.Words.{Word}
use Rattle.osi_session.specs.Standing.{Seen, CanSay, answers_word}
use Rattle.osi_session.specs.Steady.{Hears}
use Rattle.osi_side.specs.declared.first_places.Step.{Step}
use Rattle.osi_side.specs.declared.first_places.Step.TheVariants.{Said, On, Stuck}
use Rattle.osi_side.specs.declared.members.Member.{Member}
use Rattle.osi_side.specs.declared.walks.Walker.{Walker}
use Rattle.osi_side.specs.Explaining.{Remark, Explains}
use Rattle.osi_side.specs.Members.{SomeExplains, Extends, IsBehind}

abbrev pub the_remark : Word → ℕ → ℕ → Remark
the_remark w octets before = record { word = Some w; octets = octets; before = before }

abbrev pub remarked : ℕ → ℕ → Word → Remark
remarked octets before w = the_remark w octets before

-- the remark is sent here, and what is sent later is explained from there
abbrev pub SaidHere : List (List ℕ) → List Remark → Word → ℕ → Member → Type 0
SaidHere us later w octets at = (next : Seen) × (CanSay at.standing w octets next) × (Explains us later at.taken next)

-- a session that sent the last remark earlier, and has taken all TSDUs since, explains no more than the members that
-- are known
abbrev pub Covers : List (List ℕ) → List Remark → List Member → ℕ → Option Seen → Type 0
Covers us later members taken None = Unit {0}
Covers us later members taken (Some s) = Explains us later taken s → SomeExplains us members later

abbrev pub WalkerCovers : List (List ℕ) → List Remark → List Member → Walker → Type 0
WalkerCovers us later members w = Covers us later members w.at.taken w.said_before

-- what the members that are known explain, and the session that continues
abbrev pub Open : List (List ℕ) → List Remark → Remark → List Member → Option Walker → Type 0
Open us later m members None = SomeExplains us members later
Open us later m members (Some w) = SomeExplains us members later ⊎ Explains us (m ∷ later) w.at.taken w.at.standing

abbrev pub StillCovers : List (List ℕ) → List Remark → List Member → Option Walker → Type 0
StillCovers us later members None = Unit {0}
StillCovers us later members (Some w) = WalkerCovers us later members w

-- whatever is sent later, and whatever the other side sends later
abbrev pub Ever : List (List ℕ) → ℕ → (List (List ℕ) → List Remark → Type 0) → Type 0
Ever heard before P = (us : List (List ℕ)) (later : List Remark) → Extends us heard → IsBehind before later → P us later

-- the walker sends the remark now
pub record SaysIt (us : List (List ℕ)) (later : List Remark) (w : Word) (octets : ℕ) (old new : List Member) (from to : Walker) : Type 0 where
  pub same : to.at ≡ from.at
  pub gives : WalkerCovers us later old from → ((SomeExplains us old later ⊎ SaidHere us later w octets from.at) ↔ SomeExplains us new later)
  pub covers : WalkerCovers us later old from → WalkerCovers us later new to

-- an answer that the remark is, or is not
abbrev pub Answers : List (List ℕ) → List Remark → Word → Meaning → Member → List Member → List Member → Type 0
Answers us later w reply at old new = (SomeExplains us old later ⊎ ((answers_word reply w ≡ true) × Explains us later at.taken at.standing)) ↔ SomeExplains us new later

abbrev pub FollowsIn : Option Seen → List ℕ → Seen → Type 0
FollowsIn None tsdu t = ⊥
FollowsIn (Some s) tsdu t = Hears s tsdu t

abbrev pub MayFollow : Option Seen → List ℕ → Option Seen → Type 0
MayFollow s tsdu None = Unit {0}
MayFollow s tsdu (Some t) = FollowsIn s tsdu t

-- one step of a walker
pub record Turns (us : List (List ℕ)) (later : List Remark) (m : Remark) (old new : List Member) (from : Walker) (to : Option Walker) : Type 0 where
  pub gives : WalkerCovers us later old from → (Open us later m old (Some from) ↔ Open us later m new to)
  pub covers : WalkerCovers us later old from → StillCovers us later new to

-- so far a walk has lost no explanation, and has found none that is not one
pub record Walked (us : List (List ℕ)) (later : List Remark) (m : Remark) (old new : List Member) (from now : Walker) : Type 0 where
  pub gives : Open us later m old (Some from) ↔ Open us later m new (Some now)
  pub covers : WalkerCovers us later new now

-- ---- a steady remark is sent at the first point at which it may be

-- this member sends it here, or nobody does
abbrev pub SaysTo : Member → Word → ℕ → Option Member → Type 0
SaysTo at w octets None = (next : Seen) → CanSay at.standing w octets next → ⊥
SaysTo at w octets (Some said) = (said.taken ≡ at.taken) × (CanSay at.standing w octets said.standing)

-- a session takes this TSDU and sends nothing, or does not
abbrev pub HearsTo : Seen → List ℕ → Option Seen → Type 0
HearsTo s tsdu None = (t : Seen) → Hears s tsdu t → ⊥
HearsTo s tsdu (Some t) = Hears s tsdu t

-- the next TSDU
abbrev pub MovesTo : List (List ℕ) → Member → Option Member → Type 0
MovesTo heard at None = (t : Seen) → Hears at.standing (get_or heard at.taken []) t → ⊥
MovesTo heard at (Some on) = (on.taken ≡ at.taken + 1) × (Hears at.standing (get_or heard at.taken []) on.standing)

-- one step on the way to the first point
abbrev pub StepsTo : List (List ℕ) → Word → ℕ → Member → Step → Type 0
StepsTo heard w octets at (Said said) = SaysTo at w octets (Some said)
StepsTo heard w octets at (On on) = SaysTo at w octets None × MovesTo heard at (Some on)
StepsTo heard w octets at Stuck = SaysTo at w octets None × MovesTo heard at None

abbrev pub IsNext : Member → Step → Type 0
IsNext at (On on) = on.taken ≡ at.taken + 1
IsNext at _ = Unit {0}

-- what one member explains, if there is one
abbrev pub OneExplains : List (List ℕ) → List Remark → Option Member → Type 0
OneExplains us later None = ⊥
OneExplains us later (Some m) = Explains us later m.taken m.standing
