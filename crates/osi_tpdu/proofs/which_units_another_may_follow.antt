-- The code octet of a unit tells whether another unit may follow it.
use Rattle.osi_tpdu.proofs.Vocabulary.{eqb-true, TpduFault, Value, IsOk, may_be_followed, header_at, request_of, confirm_of, disconnect_of}
use Rattle.osi_tpdu.proofs.Vocabulary.{disconnected_of, transfer_of, acknowledge_of, error_of, value_of, is_lead_code, used_by, unit_at}
use Rattle.osi_tpdu.proofs.Vocabulary.{can_be_read, ◌≡◌, ℕ, ◌≤◌, Bool, true, false, List, length, get_or, Result, Ok, Err, refl, arith}
use Rattle.osi_tpdu.proofs.the_steps_of_reading.{bind_ok, unless_ok, when_ok, chosen, ok_is}
use Rattle.osi_tpdu.proofs.the_units_of_a_packet.{none_bad}

abbrev Leads : Bool → Value → Type 0
Leads may v = may_be_followed v ≡ may

request_leads : (at : ℕ) (header behind : List ℕ) (v : Value) → request_of at header behind ≡ Ok v → Leads false v
unfolding request_of
request_leads at header behind v e = grind (arith, bind_ok, ok_is)

confirm_leads : (at : ℕ) (header behind : List ℕ) (v : Value) → confirm_of at header behind ≡ Ok v → Leads false v
unfolding confirm_of
confirm_leads at header behind v e = grind (arith, bind_ok, ok_is)

disconnect_leads : (at : ℕ) (header behind : List ℕ) (v : Value) → disconnect_of at header behind ≡ Ok v → Leads false v
unfolding disconnect_of
disconnect_leads at header behind v e = grind (arith, get_or, unless_ok, bind_ok, ok_is)

disconnected_leads : (at : ℕ) (header : List ℕ) (v : Value) → disconnected_of at header ≡ Ok v → Leads true v
unfolding disconnected_of
disconnected_leads at header v e = grind (arith, when_ok, ok_is)

transfer_leads : (at : ℕ) (header behind : List ℕ) (v : Value) → transfer_of at header behind ≡ Ok v → Leads false v
unfolding transfer_of
transfer_leads at header behind v e = grind (arith, get_or, chosen, ok_is, when_ok)

acknowledge_leads : (at : ℕ) (header : List ℕ) (v : Value) → acknowledge_of at header ≡ Ok v → Leads true v
unfolding acknowledge_of
acknowledge_leads at header v e = grind (arith, get_or, when_ok, ok_is)

error_leads : (at : ℕ) (header : List ℕ) (v : Value) → error_of at header ≡ Ok v → Leads true v
unfolding error_of
error_leads at header v e = grind (arith, get_or, unless_ok, bind_ok, ok_is)

lead_code : (at : ℕ) (header behind : List ℕ) (v : Value) → value_of at header behind ≡ Ok v →
    may_be_followed v ≡ is_lead_code (get_or header 0 0)
unfolding value_of is_lead_code
lead_code at header behind v e =
    search (
      arith,
      chosen,
      eqb-true,
      request_leads,
      confirm_leads,
      acknowledge_leads,
      disconnect_leads,
      disconnected_leads,
      transfer_leads,
      when_ok,
      error_leads,
    )

-- the first unit by its header and its fields, and the number of octets it takes
pub first_read : (at : ℕ) (b : List ℕ) (x : List ℕ × List ℕ) (v : Value) → header_at at b ≡ Ok x → value_of at x.0 x.1 ≡ Ok v →
    unit_at at b ≡ Ok (v, used_by x.0 (length b))
unfolding unit_at
first_read at b x v header fields = rw (header, fields, lead_code at x.0 x.1 v fields) refl

-- a header or fields that can't be read are no part of octets that can
pub no_bad_header : (at : ℕ) (b : List ℕ) (f : TpduFault) → 1 ≤ length b → can_be_read at b ≡ true → header_at at b ≡ Err f → ⊥
unfolding unit_at
no_bad_header at b f some can header = none_bad at b f some can (rw header refl)

no_bad_fields : (at : ℕ) (b : List ℕ) (x : List ℕ × List ℕ) (f : TpduFault) → 1 ≤ length b → can_be_read at b ≡ true →
    header_at at b ≡ Ok x → value_of at x.0 x.1 ≡ Err f → ⊥
unfolding unit_at
no_bad_fields at b x f some can header fields = none_bad at b f some can (rw (header, fields) refl)

read_by : (at : ℕ) (b : List ℕ) (x : List ℕ × List ℕ) (r : Result Value TpduFault) → 1 ≤ length b → can_be_read at b ≡ true →
    header_at at b ≡ Ok x → value_of at x.0 x.1 ≡ r
    → (v : Value) × (value_of at x.0 x.1 ≡ Ok v) × (unit_at at b ≡ Ok (v, used_by x.0 (length b)))
read_by at b x (Ok v) some can header fields = (v, fields, first_read at b x v header fields)
read_by at b x (Err f) some can header fields = absurd (no_bad_fields at b x f some can header fields)

-- after a header, octets that can be read begin with a unit
pub first_stands : (at : ℕ) (b : List ℕ) (x : List ℕ × List ℕ) → 1 ≤ length b → can_be_read at b ≡ true → header_at at b ≡ Ok x
    → (v : Value) × (value_of at x.0 x.1 ≡ Ok v) × (unit_at at b ≡ Ok (v, used_by x.0 (length b)))
first_stands at b x some can header = read_by at b x (value_of at x.0 x.1) some can header refl

pub first_known : (at : ℕ) (b : List ℕ) (x : List ℕ × List ℕ) → 1 ≤ length b → can_be_read at b ≡ true → header_at at b ≡ Ok x →
    IsOk (value_of at x.0 x.1)
first_known at b x some can header = rw (first_stands at b x some can header).1 refl

pub header_known : (at : ℕ) (b : List ℕ) → 1 ≤ length b → can_be_read at b ≡ true → IsOk (header_at at b)
header_known at b some can = grind (arith, no_bad_header)
