-- Two sides of a connection that have each requested a restart, before either has taken the other's.
use Rattle.std.specs.Prelude.{◌≡◌, ◌≤◌, ℕ, true, false, List}
use Rattle.osi_spdu.specs.declared.fields.ResyncType.TheVariants.{Restart}
use Rattle.osi_spdu.specs.declared.settings.TokenSetting.{TokenSetting}
use Rattle.osi_session.specs.declared.state.State.{State}
use Rattle.osi_message.specs.Tokens.{no_token}
use Rattle.osi_session.specs.Phases.{is_restarting}
use Rattle.osi_message.specs.Meanings.{GT, RS}
use Rattle.osi_message.specs.Reading.{behind}
use Rattle.osi_session.specs.Respond.{respond}

-- a side that has requested a restart; its V(M) is the requested number
pub record HasAsked (s : State) : Type 0 where
  pub phase : is_restarting s.phase ≡ true
  pub selected : s.units.resynchronize ≡ true

-- the caller's side and the other; each number may be one of the other's points
pub record AreCrossed (caller other : State) : Type 0 where
  pub asked : HasAsked caller
  pub other_asked : HasAsked other
  pub is_caller : caller.is_caller ≡ true
  pub is_other : other.is_caller ≡ false
  pub number : other.base ≤ caller.numbers.next
  pub other_number : caller.base ≤ other.numbers.next

-- a side, after it has taken an RS with this number
abbrev pub after_restart : State → ℕ → TokenSetting → List ℕ → State
after_restart s n wishes octets = (respond s (behind (GT no_token) (RS Restart n wishes octets))).next
