-- A caller's and a called end's carrier, if the called end refuses each CR, and the units between them. One connection
-- at a time is requested.
use Rattle.std.specs.Prelude.{◌≡◌, ℕ, ◌<◌, ◌≤◌, Bool, true, false, List, [], ◌∷◌, None}
use Rattle.osi_tpdu.specs.Value.{Value, Connect, request, disconnect}
use Rattle.osi_carrier.specs.Rows.{Rows}
use Rattle.osi_carrier.specs.State.{Connection, asked, State}
use Rattle.osi_between.specs.Terms.{terms_of, refusing, IsProposed}

-- none is requested; a CR is in flight; the DR that refuses it is in flight
pub data Refusal : Type 0 where
  unasked : Refusal
  asking : Connect → Refusal
  denied : Refusal

-- with this as the last reference that the caller gave
abbrev pub rows_in : ℕ → Refusal → Rows Connection
rows_in n unasked = []
rows_in n (asking c) = (n, asked) ∷ []
rows_in n denied = (n, asked) ∷ []

-- a DR whose sender has no connection
abbrev pub denying : ℕ → ℕ → Value
denying n reason = disconnect n 0 reason []

-- the units in flight from the caller, and from the called end
abbrev pub from_end : Bool → ℕ → ℕ → Refusal → List Value
from_end end reason n unasked = []
from_end true reason n (asking c) = request c ∷ []
from_end false reason n (asking c) = []
from_end true reason n denied = []
from_end false reason n denied = denying n reason ∷ []

abbrev pub Holds : State → Refusal → Type 0
Holds caller unasked = Unit {0}
Holds caller (asking c) = (0 < caller.given) × IsProposed caller.given caller.local c
Holds caller denied = 0 < caller.given

pub record AreRefusing (reason : ℕ) (caller called : State) (to_called to_caller : List Value) : Type 0 where
  pub is_caller : caller.is_caller ≡ true
  pub is_called : called.is_caller ≡ false
  pub terms : terms_of caller.local called.local ≡ refusing reason
  pub lasts : caller.ended ≡ None
  pub lasts_called : called.ended ≡ None
  pub class : caller.class ≡ None
  pub class_called : called.class ≡ None
  pub stage : Refusal
  pub live : caller.live ≡ rows_in caller.given stage
  pub few : caller.given ≤ 65535
  pub live_called : called.live ≡ []
  pub given_called : called.given ≡ 0
  pub going : to_called ≡ from_end true reason caller.given stage
  pub coming : to_caller ≡ from_end false reason caller.given stage
  pub holds : Holds caller stage
