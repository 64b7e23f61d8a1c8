-- The one spelling in which a unit is written.
use Rattle.std.specs.Prelude.{ℕ, ◌+◌, ◌≤◌, List, [], ◌∷◌, ◌++◌, length, map, Option, option_to_list, IfSome}
use Rattle.std.specs.List.{flat_map}
use Rattle.osi_tpdu.specs.Value.{Parameters, Connect, Value, request, confirm, disconnect, disconnected, data0, data2, acknowledge, error, user_data, HasFieldsInRange}
use Rattle.osi_tpdu.specs.Spelling.{Item, item_octets, two, below_bit, single, connect_part}

-- a parameter that may be absent
abbrev pub items_of : ℕ → Option (List ℕ) → List Item
items_of code value = map (λ v. record { code = code; value = v }) (option_to_list value)

-- the known parameters, by rising codes
abbrev pub written_items : Parameters → List Item
written_items p = items_of 0xC0 (single p.size) ++ (items_of 0xC1 p.calling ++ (items_of 0xC2 p.called ++ (items_of 0xC6 (single p.additional) ++ items_of 0xC7 p.alternative)))

-- the header of a CR or CC: its fixed part, and the parameters that are there
abbrev pub connect_header : ℕ → ℕ → Connect → List ℕ
connect_header code destination c = connect_part code destination c ++ flat_map item_octets (written_items c.parameters)

-- a CR has the DST-REF 0, a DT of class 0 the number 0, and no unit a bit that is ignored
abbrev pub written_header : Value → List ℕ
written_header (request c) = connect_header 0xE0 0 c
written_header (confirm destination c) = connect_header 0xD0 destination c
written_header (disconnect destination source reason user) = 0x80 ∷ [] ++ two destination ++ two source ++ (reason ∷ [])
written_header (disconnected destination source) = 0xC0 ∷ [] ++ two destination ++ two source
written_header (data0 end user) = 0xF0 ∷ below_bit end 0 ∷ []
written_header (data2 destination number end user) = 0xF0 ∷ [] ++ two destination ++ (below_bit end number ∷ [])
written_header (acknowledge credit destination number) = (0x60 + credit) ∷ [] ++ two destination ++ (number ∷ [])
written_header (error destination cause) = 0x70 ∷ [] ++ two destination ++ (cause ∷ [])

abbrev pub written : Value → List ℕ
written v = length (written_header v) ∷ written_header v ++ user_data v

-- the length indicator can count the header
abbrev pub HasRoom : Value → Type 0
HasRoom v = length (written_header v) ≤ 254

-- the alternative classes, if any, leave room for everything else that a header can have
abbrev pub HasFewClasses : Value → Type 0
HasFewClasses (request c) = IfSome c.parameters.alternative (λ classes. length classes ≤ 172)
HasFewClasses (confirm destination c) = IfSome c.parameters.alternative (λ classes. length classes ≤ 172)
HasFewClasses (disconnect destination source reason user) = Unit {0}
HasFewClasses (disconnected destination source) = Unit {0}
HasFewClasses (data0 end user) = Unit {0}
HasFewClasses (data2 destination number end user) = Unit {0}
HasFewClasses (acknowledge credit destination number) = Unit {0}
HasFewClasses (error destination cause) = Unit {0}

-- what can be written
pub record Fits (v : Value) : Type 0 where
  pub in_range : HasFieldsInRange v
  pub counted : HasRoom v
