-- Reading a unit from left to right, up to the first fault.
use Rattle.std.specs.Prelude.{◌≡◌, ℕ, zero, suc, Bool, ◌+◌, ◌*◌, ◌/◌, ◌%◌, ◌||◌, ◌&&◌, not, List, [], ◌∷◌, length, take, drop, slice_index, Some, None, is_some, Result, Ok, Err, nat_lt, nat_le, ◌==◌, if◌then◌else◌}
use Rattle.osi_tpdu.specs.declared.faults.TpduFault.{TpduFault}
use Rattle.osi_tpdu.specs.declared.faults.TpduFault.TheVariants.{BadLi, UnknownCode, BadParameterLength, BadParameterValue, DuplicateParameter}
use Rattle.osi_tpdu.specs.Value.{Parameters, Connect, Value, request, confirm, disconnect, disconnected, data0, data2, acknowledge, error, may_be_followed}

infixl 10 ◌>>=◌
abbrev pub ◌>>=◌ : {A B : Type 0} → Result A TpduFault → (A → Result B TpduFault) → Result B TpduFault
(Ok x) >>= f = f x
(Err e) >>= f = Err e

-- the result of a function, seen through `view`, is that of reading
abbrev pub ReadsAs : {X Y : Type 0} → (X → Y) → Result X TpduFault → Result Y TpduFault → Type 0
ReadsAs view (Ok x) read = read ≡ Ok (view x)
ReadsAs view (Err e) read = read ≡ Err e

-- the header that the length indicator counts, and the octets after it
unfoldable pub header_at : ℕ → List ℕ → Result (List ℕ × List ℕ) TpduFault
header_at at octets =
    let li = slice_index octets 0 in
    if (li == 0) || (nat_lt 254 li || nat_le (length octets) li) then Err (BadLi at)
    else Ok (take li (drop 1 octets), drop li (drop 1 octets))

-- the first parameter, of at least one: its code, its value, and the octets after it
unfoldable pub parameter_at : ℕ → List ℕ → Result (ℕ × List ℕ × List ℕ) TpduFault
parameter_at at octets =
    let len = slice_index octets 1 in
    if nat_lt (length octets) (2 + len) then Err (BadParameterLength at)
    else Ok (slice_index octets 0, take len (drop 2 octets), drop len (drop 2 octets))

abbrev pub no_parameters : Parameters
no_parameters = record { size = None; calling = None; called = None; additional = None; alternative = None }

-- ---- a known parameter, at its code octet: its length, whether its code occurred before, its value

unfoldable pub with_size : ℕ → List ℕ → Parameters → Result Parameters TpduFault
with_size at value p =
    if not (length value == 1) then Err (BadParameterLength at)
    else if is_some p.size then Err (DuplicateParameter at)
    else if nat_le 7 (slice_index value 0) && nat_le (slice_index value 0) 13 then Ok (record p { size = Some (slice_index value 0) })
    else Err (BadParameterValue at)

unfoldable pub with_calling : ℕ → List ℕ → Parameters → Result Parameters TpduFault
with_calling at value p =
    if nat_lt 32 (length value) then Err (BadParameterLength at)
    else if is_some p.calling then Err (DuplicateParameter at)
    else Ok (record p { calling = Some value })

unfoldable pub with_called : ℕ → List ℕ → Parameters → Result Parameters TpduFault
with_called at value p =
    if nat_lt 32 (length value) then Err (BadParameterLength at)
    else if is_some p.called then Err (DuplicateParameter at)
    else Ok (record p { called = Some value })

unfoldable pub with_additional : ℕ → List ℕ → Parameters → Result Parameters TpduFault
with_additional at value p =
    if not (length value == 1) then Err (BadParameterLength at)
    else if is_some p.additional then Err (DuplicateParameter at)
    else Ok (record p { additional = Some (slice_index value 0) })

unfoldable pub with_alternative : ℕ → List ℕ → Parameters → Result Parameters TpduFault
with_alternative at value p =
    if is_some p.alternative then Err (DuplicateParameter at)
    else Ok (record p { alternative = Some value })

-- any parameter; an unknown one adds nothing
unfoldable pub with_parameter : ℕ → ℕ → List ℕ → Parameters → Result Parameters TpduFault
with_parameter at code value p =
    if code == 0xC0 then with_size at value p
    else if code == 0xC1 then with_calling at value p
    else if code == 0xC2 then with_called at value p
    else if code == 0xC6 then with_additional at value p
    else if code == 0xC7 then with_alternative at value p
    else Ok p

-- the parameters of a CR or CC, beside those known so far; the first argument is fuel, at least as
-- many as there are octets
unfoldable pub parameters_at : ℕ → ℕ → Parameters → List ℕ → Result Parameters TpduFault
parameters_at n at p [] = Ok p
parameters_at zero at p (code ∷ octets) = Ok p
parameters_at (suc n) at p (code ∷ octets) = do
  item ← parameter_at at (code ∷ octets)
  more ← with_parameter at item.0 item.1 p
  parameters_at n (at + (2 + length item.1)) more item.2

abbrev pub known_at : ℕ → List ℕ → Result Parameters TpduFault
known_at at octets = parameters_at (length octets) at no_parameters octets

-- the parameters of a DR or ER are skipped by their length
unfoldable pub skipped_at : ℕ → ℕ → List ℕ → Result (Unit {0}) TpduFault
skipped_at n at [] = Ok tt
skipped_at zero at (code ∷ octets) = Ok tt
skipped_at (suc n) at (code ∷ octets) = do
  item ← parameter_at at (code ∷ octets)
  skipped_at n (at + (2 + length item.1)) item.2

abbrev pub all_skipped_at : ℕ → List ℕ → Result (Unit {0}) TpduFault
all_skipped_at at octets = skipped_at (length octets) at octets

-- ---- a unit, by the header and the octets after it; at is the place of the length indicator

abbrev pub reference_at : ℕ → List ℕ → ℕ
reference_at place header = 256 * slice_index header place + slice_index header (place + 1)

-- CR and CC
unfoldable pub connect_of : ℕ → List ℕ → List ℕ → Result Connect TpduFault
connect_of at header user =
    if nat_lt (length header) 6 then Err (BadLi at)
    else (known_at (at + 7) (drop 6 header) >>= λ parameters. Ok (record {
      credit = slice_index header 0 % 16;
      source = reference_at 3 header;
      class = slice_index header 5 / 16;
      options = slice_index header 5 % 16;
      parameters = parameters;
      user = user;
    }))

unfoldable pub request_of : ℕ → List ℕ → List ℕ → Result Value TpduFault
request_of at header user = connect_of at header user >>= λ c. Ok (request c)

unfoldable pub confirm_of : ℕ → List ℕ → List ℕ → Result Value TpduFault
confirm_of at header user = connect_of at header user >>= λ c. Ok (confirm (reference_at 1 header) c)

unfoldable pub disconnect_of : ℕ → List ℕ → List ℕ → Result Value TpduFault
disconnect_of at header user =
    if nat_lt (length header) 6 then Err (BadLi at)
    else (all_skipped_at (at + 7) (drop 6 header) >>= λ skipped. Ok (disconnect (reference_at 1 header) (reference_at 3 header) (slice_index header 5) user))

unfoldable pub disconnected_of : ℕ → List ℕ → Result Value TpduFault
disconnected_of at header =
    if length header == 5 then Ok (disconnected (reference_at 1 header) (reference_at 3 header))
    else Err (BadLi at)

-- the header's length tells the class of a DT
unfoldable pub transfer_of : ℕ → List ℕ → List ℕ → Result Value TpduFault
transfer_of at header user =
    if length header == 2 then Ok (data0 (nat_le 128 (slice_index header 1)) user)
    else if length header == 4 then Ok (data2 (reference_at 1 header) (slice_index header 3 % 128) (nat_le 128 (slice_index header 3)) user)
    else Err (BadLi at)

unfoldable pub acknowledge_of : ℕ → List ℕ → Result Value TpduFault
acknowledge_of at header =
    if length header == 4 then Ok (acknowledge (slice_index header 0 % 16) (reference_at 1 header) (slice_index header 3 % 128))
    else Err (BadLi at)

unfoldable pub error_of : ℕ → List ℕ → Result Value TpduFault
error_of at header =
    if nat_lt (length header) 4 then Err (BadLi at)
    else (all_skipped_at (at + 5) (drop 4 header) >>= λ skipped. Ok (error (reference_at 1 header) (slice_index header 3)))

-- by the code octet
unfoldable pub value_of : ℕ → List ℕ → List ℕ → Result Value TpduFault
value_of at header user =
    let code = slice_index header 0 in
    if code / 16 == 0xE then request_of at header user
    else if code / 16 == 0xD then confirm_of at header user
    else if code / 16 == 0x6 then acknowledge_of at header
    else if code == 0x80 then disconnect_of at header user
    else if code == 0xC0 then disconnected_of at header
    else if code == 0xF0 then transfer_of at header user
    else if code == 0x70 then error_of at header
    else Err (UnknownCode (at + 1))

-- the code octets of AK, DC and ER, which another unit may follow
unfoldable pub is_lead_code : ℕ → Bool
is_lead_code code = (code / 16 == 0x6) || (code == 0xC0 || code == 0x70)

-- how many of n octets a unit with this header takes: AK, DC and ER their own, all others all of them
abbrev pub used_by : List ℕ → ℕ → ℕ
used_by header n = if is_lead_code (slice_index header 0) then 1 + length header else n

-- the first unit of the octets, and the number of octets that spell it
unfoldable pub unit_at : ℕ → List ℕ → Result (Value × ℕ) TpduFault
unit_at at octets = do
  parts ← header_at at octets
  v ← value_of at parts.0 parts.1
  Ok (v, if may_be_followed v then 1 + length parts.0 else length octets)
