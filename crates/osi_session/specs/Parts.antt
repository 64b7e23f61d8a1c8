-- The parts of a Data arrive, with calls of their receiver in between; and the functional units of a session.
use Rattle.std.specs.Prelude.{◌≡◌, ℕ, Bool, true, false, not, List, [], ◌∷◌, ◌++◌, Option, Some, None}
use Rattle.osi_session.specs.declared.phases.Phase.{Phase}
use Rattle.osi_session.specs.declared.phases.Phase.TheVariants.{WaitCn, Answering, Aborting, Ended}
use Rattle.osi_session.specs.declared.selected.FunctionalUnits.{FunctionalUnits}
use Rattle.osi_session.specs.declared.state.State.{State}
use Rattle.osi_session.specs.Calls.{Call}
use Rattle.osi_session.specs.Sizes.{limit_of}
use Rattle.osi_session.specs.Listening.{Input, called, taken, came, Listener, Move, react, after_input}
use Rattle.osi_message.specs.declared.places.Place.{Place}
use Rattle.osi_message.specs.declared.places.Place.TheVariants.{First, Middle}
use Rattle.osi_message.specs.Meanings.{GT}
use Rattle.osi_message.specs.Tokens.{no_token}
use Rattle.osi_message.specs.Words.{says, part, part_octets}

-- ---- parts and calls

pub data Act : Type 0 where
  comes : (place : Place) (octets : List ℕ) → Act
  calls : Call → Act

-- a part arrives after a GT that names no token
abbrev pub part_comes : Place → List ℕ → Input
part_comes place octets = taken (says (GT no_token) ∷ part place octets ∷ [])

abbrev pub act_in_words : Act → Input
act_in_words (comes place octets) = part_comes place octets
act_in_words (calls c) = called c

abbrev pub act_in_octets : Act → Input
act_in_octets (comes place octets) = came (part_octets place octets)
act_in_octets (calls c) = called c

-- only the calls
abbrev pub calls_in : List Act → List Input
calls_in [] = []
calls_in (comes place octets ∷ acts) = calls_in acts
calls_in (calls c ∷ acts) = called c ∷ calls_in acts

-- Parts up to the last, which is still to come, with these octets; and calls in any places. `begun` was joined before.
abbrev pub AreParts : Option (List ℕ) → List Act → List ℕ → Type 0
AreParts begun [] octets = begun ≡ Some octets
AreParts begun (calls c ∷ acts) octets = AreParts begun acts octets
AreParts None (comes First o ∷ acts) octets = AreParts (Some o) acts octets
AreParts (Some b) (comes Middle o ∷ acts) octets = AreParts (Some (b ++ o)) acts octets
AreParts begun (comes place o ∷ acts) octets = ⊥

-- ---- until the last part

pub record IsSilent (move : Move) : Type 0 where
  pub shown : move.shown ≡ []
  pub reply : move.reply ≡ None
  pub closes : move.closes ≡ false

-- two moves indicate and send the same, and lead to the same state
pub record AreAlike (a b : Move) : Type 0 where
  pub shown : a.shown ≡ b.shown
  pub reply : a.reply ≡ b.reply
  pub closes : a.closes ≡ b.closes
  pub error : a.error ≡ b.error

-- Each part has no visible effect, and each call makes the same move as without the parts, with the same size limit.
abbrev pub AreSilent : Listener → Listener → List Act → Type 0
AreSilent l m [] = Unit {0}
AreSilent l m (comes place o ∷ acts) = IsSilent (react l (came (part_octets place o))) × AreSilent (after_input l (came (part_octets place o))) m acts
AreSilent l m (calls c ∷ acts) = ((limit_of l.state ≡ limit_of m.state) × AreAlike (react l (called c)) (react m (called c))) × AreSilent (after_input l (called c)) (after_input m (called c)) acts

-- ---- functional units

-- half-duplex with any of the others, or duplex alone
pub record IsOfProfile (u : FunctionalUnits) : Type 0 where
  pub duplex : u.duplex ≡ not u.half_duplex
  pub alone : u.duplex ≡ true → (u.minor ≡ false) × (u.major ≡ false) × (u.resynchronize ≡ false) × (u.negotiated_release ≡ false)

-- Those that a caller requests and those that are agreed are such a set. A CN may name others, and once a session is
-- over none are considered.
abbrev pub has_profile : Phase → Bool
has_profile WaitCn = false
has_profile Answering = false
has_profile Aborting = false
has_profile Ended = false
has_profile _ = true

abbrev pub HasProfile : State → Type 0
HasProfile s = has_profile s.phase ≡ true → IsOfProfile s.units
