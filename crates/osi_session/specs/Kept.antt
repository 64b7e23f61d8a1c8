-- What a session has joined at all times, and the state of the receiver of the parts of a Data.
use Rattle.std.specs.Prelude.{◌≡◌, ◌≤◌, ◌⊎◌, ℕ, Bool, true, false, ◌||◌, List, [], length, Option, None}
use Rattle.osi_session.specs.declared.phases.Phase.{Phase}
use Rattle.osi_session.specs.declared.state.State.{State}
use Rattle.osi_session.specs.Allowed.{most_data}
use Rattle.osi_session.specs.Phases.{is_restarting, is_over}
use Rattle.osi_session.specs.Respond.{is_faulty, verdict}
use Rattle.osi_message.specs.Meanings.{DT}
use Rattle.osi_message.specs.Words.{Word}
use Rattle.osi_session.specs.Joining.{joined_octets, kept_in, respond_word}
use Rattle.osi_session.specs.Listening.{Listener}

-- something is joined only in a phase that keeps it
abbrev pub IsKeptIn : Phase → Option (List ℕ) → Type 0
IsKeptIn p joined = kept_in p joined ≡ joined

-- and it is at most one Data
pub record IsKept (l : Listener) : Type 0 where
  pub phase : IsKeptIn l.state.phase l.joined
  pub few : length (joined_octets l.joined) ≤ most_data

-- data is discarded
abbrev pub discards : Phase → Bool
discards p = is_restarting p || is_over p

-- The receiver of the parts of a Data: it has joined the parts so far, or nothing if it discards data.
abbrev pub IsJoinedAs : State → Option (List ℕ) → Option (List ℕ) → Type 0
IsJoinedAs s joined begun = (joined ≡ begun) ⊎ ((joined ≡ None) × (discards s.phase ≡ true))

-- the whole data is no fault
abbrev pub IsNoFault : State → List ℕ → Type 0
IsNoFault s octets = is_faulty (verdict s (DT octets)) ≡ false

-- a part changes only what is joined, and nothing is indicated or sent
pub record IsJoined (s : State) (joined : Option (List ℕ)) (w : Word) (begun : Option (List ℕ)) : Type 0 where
  pub now : Option (List ℕ)
  pub is : respond_word (record { state = s; joined = joined }) w ≡ record { next = record { state = s; joined = now }; shown = []; reply = None; closes = false }
  pub stands : IsJoinedAs s now begun
