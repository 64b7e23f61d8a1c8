-- The units in flight to a side, run through the table of that side.
use Rattle.std.specs.Prelude.{◌≡◌, ℕ, Bool, true, false, not, if◌then◌else◌, List, [], ◌∷◌, ◌++◌}
use Rattle.osi_machine.specs.Floor.{State, Phase, Meaning, RF, DT, MIP, MAP, RS, FN, DN, AB, AA, Token, data_token, minor, release, is_restarting, stands, drops, Good, next}
use Rattle.osi_machine.specs.Histories.{Item}
use Rattle.osi_machine.specs.Taking.{seen}

-- a unit that neither ends nor aborts a connection
abbrev pub is_plain : Meaning → Bool
is_plain (RF reason octets) = false
is_plain (DN octets) = false
is_plain (AB bits octets) = false
is_plain AA = false
is_plain _ = true

pub record Fits (s : State) (u : Meaning) : Type 0 where
  pub plain : is_plain u ≡ true
  pub good : drops s u ≡ false → Good s u

-- no unit in flight will be a fault
abbrev pub AllFit : State → List Meaning → Type 0
AllFit s [] = Unit {0}
AllFit s (u ∷ us) = Fits s u × AllFit (next s u) us

-- the state when all were taken
abbrev pub flush : State → List Meaning → State
flush s [] = s
flush s (u ∷ us) = flush (next s u) us

-- a restart that takes effect erases what is ahead of it in the channel
abbrev pub stops : State → Meaning → Bool
stops s (RS kind n wishes octets) = stands s n
stops s u = false

-- the state just before such a restart is taken, or when all were taken
abbrev pub heard : State → List Meaning → State
heard s [] = s
heard s (u ∷ us) = if stops s u then s else heard (next s u) us

abbrev pub hears : Phase → Bool
hears p = not (is_restarting p)

abbrev pub view_next : State → Meaning → List Item → List Item
view_next s u v = if drops s u then v else seen s u v

-- what will have been seen just before such a restart is taken, or when all were taken
abbrev pub heard_view : State → List Meaning → List Item → List Item
heard_view s [] v = v
heard_view s (u ∷ us) v = if stops s u then v else heard_view (next s u) us (view_next s u v)

-- the octets of data
abbrev pub data_in : Meaning → List (List ℕ)
data_in (DT octets) = octets ∷ []
data_in u = []

abbrev pub data_of : List Meaning → List (List ℕ)
data_of [] = []
data_of (u ∷ us) = data_in u ++ data_of us

-- a token that the sender of a unit needs, if it is available
abbrev pub is_data : Token → Bool
is_data data_token = true
is_data _ = false

abbrev pub is_data_or_minor : Token → Bool
is_data_or_minor data_token = true
is_data_or_minor minor = true
is_data_or_minor _ = false

abbrev pub is_no_release : Token → Bool
is_no_release release = false
is_no_release _ = true

abbrev pub needs_token : Token → Meaning → Bool
needs_token t (DT octets) = is_data t
needs_token t (MIP confirm n octets) = is_data_or_minor t
needs_token t (MAP n octets) = is_no_release t
needs_token t (FN octets) = true
needs_token t u = false
