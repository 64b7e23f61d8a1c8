-- Sessions that wait for the answer to a restart that they sent.
use Rattle.std.specs.Prelude.{◌≡◌, ◌⊎◌, ◌∷◌, ℕ, Bool, true, false, List, Option, Some, None}
use Rattle.osi_message.specs.Meanings.{AB}
use Rattle.osi_message.specs.Words.{Word, says}
use Rattle.osi_session.specs.declared.phases.Phase.TheVariants.{Aborting}
use Rattle.osi_session.specs.Phases.{is_restarting}
use Rattle.osi_session.specs.Standing.{Seen, CanSay, goes}
use Rattle.osi_session.specs.State.{without_tokens}
use Rattle.osi_session.specs.Steady.{Hears}
use Rattle.osi_side.specs.declared.members.Member.{Member}
use Rattle.osi_side.specs.declared.restarts.Asked.{Asked}
use Rattle.osi_side.specs.declared.restarts.Asker.{Asker}
use Rattle.osi_side.specs.Explaining.{Remark, Explains}
use Rattle.osi_side.specs.Members.{SomeExplains}

abbrev pub is_abort_word : Word → Bool
is_abort_word (says (AB bits octets)) = true
is_abort_word _ = false

-- the session after an abort
abbrev pub aborted : Seen → Seen
aborted s = goes s (without_tokens Aborting s.state)

-- a session that awaits the answer to its restart takes this TSDU and remains as it was, also if it aborts first
pub record Waits (s : Seen) (tsdu : List ℕ) : Type 0 where
  pub restarting : is_restarting s.state.phase ≡ true
  pub stays : Hears s tsdu s
  pub over : Hears (aborted s) tsdu (aborted s)

-- some session sent this restart, or the one that shows what it was but for V(A)
pub record Restarted (restart shown : Word) (octets : ℕ) (after other : Seen) : Type 0 where
  pub from : Seen
  pub sent : CanSay from restart octets after
  pub shows : CanSay from shown octets other

-- those that wait have sent it, and were the same but for V(A)
pub record AreAsked (restart shown : Word) (octets : ℕ) (a : Asked) : Type 0 where
  pub first : Restarted restart shown octets a.first a.shown
  pub last : Restarted restart shown octets a.last a.shown

abbrev pub MayBeAsked : Word → Word → ℕ → Option Asked → Type 0
MayBeAsked restart shown octets None = Unit {0}
MayBeAsked restart shown octets (Some a) = AreAsked restart shown octets a

-- what the members that are known explain, and those that wait
abbrev pub Known : List (List ℕ) → List Remark → ℕ → List Member → Option Asked → Type 0
Known us later taken members None = SomeExplains us members later
Known us later taken members (Some a) = SomeExplains us members later ⊎ (Explains us later taken a.first ⊎ Explains us later taken a.last)

-- and the session that continues, if one does
abbrev pub StillOpen : List (List ℕ) → List Remark → Remark → List Member → Option Asker → Type 0
StillOpen us later m members None = SomeExplains us members later
StillOpen us later m members (Some a) = Known us later a.at.taken members a.asked ⊎ Explains us (m ∷ later) a.at.taken a.at.standing

abbrev pub AskerIsAsked : Word → Word → ℕ → Option Asker → Type 0
AskerIsAsked restart shown octets None = Unit {0}
AskerIsAsked restart shown octets (Some a) = MayBeAsked restart shown octets a.asked
