-- Which connection each unit in flight to a carrier is for.
use Rattle.std.specs.Prelude.{◌≡◌, ℕ, zero, suc, ◌+◌, ◌==◌, Bool, true, false, List, [], ◌∷◌, ◌++◌, if◌then◌else◌}
use Rattle.std.specs.List.{flat_map, AllByRecursion}
use Rattle.osi_tpdu.specs.Value.{Value, request, confirm, disconnect, disconnected, data0, data2, acknowledge, error}
use Rattle.osi_carrier.specs.References.{dropped}

-- A CR is for the connection with its sender's reference, all others for that with their receiver's; both ends give a
-- connection the same reference. A DT of class 0 names none, and is for the first connection.
abbrev pub reference_of : Value → ℕ
reference_of (request c) = c.source
reference_of (confirm destination c) = destination
reference_of (disconnect destination source reason user) = destination
reference_of (disconnected destination source) = destination
reference_of (data0 end user) = 1
reference_of (data2 destination number end user) = destination
reference_of (acknowledge credit destination number) = destination
reference_of (error destination cause) = destination

abbrev pub units_of : ℕ → List Value → List Value
units_of n [] = []
units_of n (unit ∷ units) = if reference_of unit == n then unit ∷ units_of n units else units_of n units

abbrev pub AreFor : ℕ → List Value → Type 0
AreFor n units = AllByRecursion (λ unit. reference_of unit ≡ n) units

-- ---- the references that are live at an end

-- the references that are live after a unit, at an end that accepts every CR
abbrev pub live_behind : List ℕ → Value → List ℕ
live_behind refs (request c) = refs ++ c.source ∷ []
live_behind refs (confirm destination c) = refs
live_behind refs (disconnect destination source reason user) = dropped destination refs
live_behind refs (disconnected destination source) = dropped destination refs
live_behind refs (data0 end user) = refs
live_behind refs (data2 destination number end user) = refs
live_behind refs (acknowledge credit destination number) = refs
live_behind refs (error destination cause) = refs

abbrev pub live_after : List ℕ → List Value → List ℕ
live_after refs [] = refs
live_after refs (unit ∷ units) = live_after (live_behind refs unit) units

-- a DR or a DC
abbrev pub is_last : Value → Bool
is_last (request c) = false
is_last (confirm destination c) = false
is_last (disconnect destination source reason user) = true
is_last (disconnected destination source) = true
is_last (data0 end user) = false
is_last (data2 destination number end user) = false
is_last (acknowledge credit destination number) = false
is_last (error destination cause) = false

-- the references that CRs propose
abbrev pub asked_by : Value → List ℕ
asked_by (request c) = c.source ∷ []
asked_by (confirm destination c) = []
asked_by (disconnect destination source reason user) = []
asked_by (disconnected destination source) = []
asked_by (data0 end user) = []
asked_by (data2 destination number end user) = []
asked_by (acknowledge credit destination number) = []
asked_by (error destination cause) = []

abbrev pub requests : List Value → List ℕ
requests units = flat_map asked_by units

-- the k numbers after n
abbrev pub behind : ℕ → ℕ → List ℕ
behind n zero = []
behind n (suc k) = (n + 1) ∷ behind (n + 1) k
