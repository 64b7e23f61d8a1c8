-- The units of a whole packet: one after the other, at least one; the last may be of any kind, and another unit may
-- follow each of those before it.
use Rattle.std.specs.Prelude.{◌≡◌, ℕ, zero, suc, ◌+◌, ◌≤◌, List, [], ◌∷◌, ◌++◌, length, drop, Result, Ok, Err, ◌==◌, if◌then◌else◌, IsTrue}
use Rattle.std.specs.Bool.{OnFalse}
use Rattle.osi_tpdu.specs.declared.faults.TpduFault.{TpduFault}
use Rattle.osi_tpdu.specs.declared.faults.TpduFault.TheVariants.{BadLi}
use Rattle.osi_tpdu.specs.Value.{Value, may_be_followed}
use Rattle.osi_tpdu.specs.Spelling.{Spells}
use Rattle.osi_tpdu.specs.Reading.{◌>>=◌, unit_at}
use Rattle.osi_tpdu.specs.Faults.{IsUnitFault}

-- the octets are spellings of the units, one after the other
abbrev pub AreUnits : List Value → List ℕ → Type 0
AreUnits [] octets = ⊥
AreUnits (v ∷ []) octets = Spells v octets
AreUnits (v ∷ w ∷ vs) octets = IsTrue (may_be_followed v) × (x : List ℕ) × (y : List ℕ) × (octets ≡ x ++ y) × Spells v x × AreUnits (w ∷ vs) y

-- the octets are spellings of units that another may follow, one after the other, or they are empty
abbrev pub AreLeads : List Value → List ℕ → Type 0
AreLeads [] octets = octets ≡ []
AreLeads (v ∷ vs) octets = IsTrue (may_be_followed v) × (x : List ℕ) × (y : List ℕ) × (octets ≡ x ++ y) × Spells v x × AreLeads vs y

-- what may follow a unit: anything after AK, DC and ER, otherwise nothing
abbrev pub Follows : Value → List ℕ → Type 0
Follows v octets = OnFalse (may_be_followed v) (octets ≡ [])

-- reading them from left to right; the first argument is fuel, more than there are octets
unfoldable pub units_at : ℕ → ℕ → List ℕ → Result (List Value) TpduFault
units_at zero at octets = Err (BadLi at)
units_at (suc n) at octets = do
  first ← unit_at at octets
  if first.1 == length octets then Ok (first.0 ∷ []) else (units_at n (at + first.1) (drop first.1 octets) >>= λ others. Ok (first.0 ∷ others))

-- the units of a packet, or its first fault
unfoldable pub units_of : List ℕ → Result (List Value) TpduFault
units_of octets = units_at (suc (length octets)) 0 octets

-- the fault of a packet, with its offset: the first fault of the first bad unit, or that of an empty packet
pub record IsFirstFault (octets : List ℕ) (fault : TpduFault) : Type 0 where
  pub leads : List Value
  pub front : List ℕ
  pub rest : List ℕ
  pub whole : octets ≡ front ++ rest
  pub are_leads : AreLeads leads front
  pub some : 1 ≤ length octets → 1 ≤ length rest
  pub bad : IsUnitFault (length front) rest fault
