-- Which octets spell a transport unit (X.224 section 13): a length indicator, the fixed part of the
-- unit, its parameters in any order, unknown ones among them, and user data.
use Rattle.std.specs.Prelude.{◌≡◌, ℕ, ◌+◌, ◌*◌, ◌/◌, ◌%◌, ◌<◌, ◌≤◌, Bool, true, false, ◌==◌, List, [], ◌∷◌, ◌++◌, length, map, filter, Option, option_map, option_to_list}
use Rattle.std.specs.List.{flat_map}
use Rattle.osi_unit.specs.Octets.{IsOctets}
use Rattle.osi_tpdu.specs.Value.{Parameters, Connect, Value, request, confirm, disconnect, disconnected, data0, data2, acknowledge, error, user_data, HasFieldsInRange}

-- a parameter: a code, and as many octets as its length says
pub record Item : Type 0 where
  pub code : ℕ
  pub value : List ℕ

abbrev pub item_octets : Item → List ℕ
item_octets i = i.code ∷ length i.value ∷ i.value

-- a number of two octets, the high one first
abbrev pub two : ℕ → List ℕ
two n = n / 256 ∷ n % 256 ∷ []

-- seven bits below one
abbrev pub below_bit : Bool → ℕ → ℕ
below_bit true n = 128 + n
below_bit false n = n

-- the values that the items give to a code, in order
abbrev pub values_of : ℕ → List Item → List (List ℕ)
values_of code items = map (λ i. i.value) (filter (λ i. i.code == code) items)

-- a parameter of one octet
abbrev pub single : Option ℕ → Option (List ℕ)
single o = option_map (λ n. n ∷ []) o

-- each known code occurs once, with its value, if the parameter is there, and does not occur otherwise
pub record Means (p : Parameters) (items : List Item) : Type 0 where
  pub size : values_of 0xC0 items ≡ option_to_list (single p.size)
  pub calling : values_of 0xC1 items ≡ option_to_list p.calling
  pub called : values_of 0xC2 items ≡ option_to_list p.called
  pub additional : values_of 0xC6 items ≡ option_to_list (single p.additional)
  pub alternative : values_of 0xC7 items ≡ option_to_list p.alternative

-- the fixed part of a CR or CC: code and credit, DST-REF, SRC-REF, class and options
abbrev pub connect_part : ℕ → ℕ → Connect → List ℕ
connect_part code destination c = (code + c.credit) ∷ [] ++ two destination ++ two c.source ++ ((16 * c.class + c.options) ∷ [])

-- the octets that the length indicator counts: code, fixed part, parameters
abbrev pub IsHeader : Value → List ℕ → Type 0
IsHeader (request c) header = (destination : ℕ) × (items : List Item) × Means c.parameters items
    × (header ≡ connect_part 0xE0 destination c ++ flat_map item_octets items)
IsHeader (confirm destination c) header = (items : List Item) × Means c.parameters items
    × (header ≡ connect_part 0xD0 destination c ++ flat_map item_octets items)
IsHeader (disconnect destination source reason user) header = (items : List Item)
    × (header ≡ 0x80 ∷ [] ++ two destination ++ two source ++ (reason ∷ []) ++ flat_map item_octets items)
IsHeader (disconnected destination source) header = header ≡ 0xC0 ∷ [] ++ two destination ++ two source
IsHeader (data0 end user) header = (number : ℕ) × (number < 128) × (header ≡ 0xF0 ∷ below_bit end number ∷ [])
IsHeader (data2 destination number end user) header = header ≡ 0xF0 ∷ [] ++ two destination ++ (below_bit end number ∷ [])
IsHeader (acknowledge credit destination number) header = (ignored : Bool)
    × (header ≡ (0x60 + credit) ∷ [] ++ two destination ++ (below_bit ignored number ∷ []))
IsHeader (error destination cause) header = (items : List Item)
    × (header ≡ 0x70 ∷ [] ++ two destination ++ (cause ∷ []) ++ flat_map item_octets items)

-- the octets are a spelling of the unit
pub record Spells (v : Value) (octets : List ℕ) : Type 0 where
  pub header : List ℕ
  pub fields : IsHeader v header
  pub counted : length header ≤ 254
  pub whole : octets ≡ length header ∷ header ++ user_data v
  pub in_range : HasFieldsInRange v
  pub are_octets : IsOctets octets
