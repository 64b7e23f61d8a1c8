-- The meaning of transport units, independent of how their octets are stored.
use Rattle.std.specs.Prelude.{ℕ, ◌<◌, ◌≤◌, Bool, true, false, List, [], length, Option, Some, None, IfSome}
use Rattle.osi_unit.specs.Octets.{IsOctets}

-- the known parameters of a CR or CC: the TPDU size, the two transport selectors, the additional
-- options and the alternative classes
pub record Parameters : Type 0 where
  pub size : Option ℕ
  pub calling : Option (List ℕ)
  pub called : Option (List ℕ)
  pub additional : Option ℕ
  pub alternative : Option (List ℕ)

-- the fields of a CR, and those of a CC without its DST-REF
pub record Connect : Type 0 where
  pub credit : ℕ
  pub source : ℕ
  pub class : ℕ
  pub options : ℕ
  pub parameters : Parameters
  pub user : List ℕ

pub data Value : Type 0 where
  -- CR, without its DST-REF
  request : Connect → Value
  -- CC: DST-REF
  confirm : ℕ → Connect → Value
  -- DR: DST-REF, SRC-REF, reason, user data
  disconnect : ℕ → ℕ → ℕ → List ℕ → Value
  -- DC: DST-REF, SRC-REF
  disconnected : ℕ → ℕ → Value
  -- DT of class 0, without its number: EOT, user data
  data0 : Bool → List ℕ → Value
  -- DT of class 2: DST-REF, number, EOT, user data
  data2 : ℕ → ℕ → Bool → List ℕ → Value
  -- AK: credit, DST-REF, number
  acknowledge : ℕ → ℕ → ℕ → Value
  -- ER: DST-REF, cause
  error : ℕ → ℕ → Value

-- user data goes to the end of the packet; AK, DC and ER have none
abbrev pub user_data : Value → List ℕ
user_data (request c) = c.user
user_data (confirm destination c) = c.user
user_data (disconnect destination source reason user) = user
user_data (disconnected destination source) = []
user_data (data0 end user) = user
user_data (data2 destination number end user) = user
user_data (acknowledge credit destination number) = []
user_data (error destination cause) = []

-- another unit may follow AK, DC and ER in a packet
abbrev pub may_be_followed : Value → Bool
may_be_followed (disconnected destination source) = true
may_be_followed (acknowledge credit destination number) = true
may_be_followed (error destination cause) = true
may_be_followed (request c) = false
may_be_followed (confirm destination c) = false
may_be_followed (disconnect destination source reason user) = false
may_be_followed (data0 end user) = false
may_be_followed (data2 destination number end user) = false

-- the reference that the receiver gave the connection: none in a CR, nor in a DT of class 0
abbrev pub destination_of : Value → Option ℕ
destination_of (request c) = None
destination_of (confirm destination c) = Some destination
destination_of (disconnect destination source reason user) = Some destination
destination_of (disconnected destination source) = Some destination
destination_of (data0 end user) = None
destination_of (data2 destination number end user) = Some destination
destination_of (acknowledge credit destination number) = Some destination
destination_of (error destination cause) = Some destination

abbrev pub IsReference : ℕ → Type 0
IsReference n = n < 65536

pub record AreParameters (p : Parameters) : Type 0 where
  pub size : IfSome p.size (λ code. (7 ≤ code) × (code ≤ 13))
  pub calling : IfSome p.calling (λ s. (length s ≤ 32) × IsOctets s)
  pub called : IfSome p.called (λ s. (length s ≤ 32) × IsOctets s)
  pub additional : IfSome p.additional (λ n. n < 256)
  pub alternative : IfSome p.alternative IsOctets

pub record IsConnect (c : Connect) : Type 0 where
  pub credit : c.credit < 16
  pub source : IsReference c.source
  pub class : c.class < 16
  pub options : c.options < 16
  pub parameters : AreParameters c.parameters
  pub user : IsOctets c.user

-- each number is in the range of its field
abbrev pub HasFieldsInRange : Value → Type 0
HasFieldsInRange (request c) = IsConnect c
HasFieldsInRange (confirm destination c) = IsReference destination × IsConnect c
HasFieldsInRange (disconnect destination source reason user) = IsReference destination × IsReference source × (reason < 256) × IsOctets user
HasFieldsInRange (disconnected destination source) = IsReference destination × IsReference source
HasFieldsInRange (data0 end user) = IsOctets user
HasFieldsInRange (data2 destination number end user) = IsReference destination × (number < 128) × IsOctets user
HasFieldsInRange (acknowledge credit destination number) = (credit < 16) × IsReference destination × (number < 128)
HasFieldsInRange (error destination cause) = IsReference destination × (cause < 256)
