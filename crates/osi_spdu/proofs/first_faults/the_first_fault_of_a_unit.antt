-- The first fault of a unit is the one that reading returns.
use Rattle.osi_spdu.proofs.Vocabulary.{flat_map, cases_Bool, length-append, IsOctets, SpduFault, LengthPastEnd, Kind, required_of}
use Rattle.osi_spdu.proofs.Vocabulary.{kind_named, Known, nothing, ◌>>=◌, Measured, measured_at, params_of, in_unit, all_there, Placed}
use Rattle.osi_spdu.proofs.Vocabulary.{placed_kind, unit_at, part_octets, Spells, MeansInUnit, indicator_len, IsBodyFault, IsNamedFault}
use Rattle.osi_spdu.proofs.Vocabulary.{IsUnitFault, inl, inr, ◌≡◌, ℕ, ◌+◌, Bool, List, [], ◌∷◌, length, Option, Some, None, Result, Ok, Err}
use Rattle.osi_spdu.proofs.Vocabulary.{refl, sym, ap, ◌∙◌, arith}
use Rattle.osi_spdu.proofs.basics.the_steps_of_reading.{bind_of}
use Rattle.osi_spdu.proofs.basics.length_indicators.{octets-tail, measured_ok, measured_again}
use Rattle.osi_spdu.proofs.tsdu.units_and_tsdus_are_read.{required_in, value_in, body_in, unit_steps}
use Rattle.osi_spdu.proofs.parameters.one_level_is_read.{params_found, params_only, unit_follows}
use Rattle.osi_spdu.proofs.first_faults.the_first_fault_is_returned.{failed, fault_is, never, measured_bad, value_of_no, counted_is}
use Rattle.osi_spdu.proofs.first_faults.the_first_fault_is_returned.{bind_bad, unit_level_found, unit_level_only, missing_found}
use Rattle.osi_spdu.proofs.first_faults.the_first_fault_is_returned.{missing_only}

-- ---- the fault returned is the first

value_found : (kind : Kind) (at : ℕ) (octets : List ℕ) (m : Measured) (f : SpduFault) → IsOctets octets → measured_at at octets ≡ Ok m →
    (r : Result Known SpduFault) → params_of (in_unit kind) (at + (1 + m.used)) nothing m.value ≡ r
    → (r >>= λ raw. required_in kind at m raw) ≡ Err f → IsBodyFault kind at octets f
value_found kind at octets m f fits q (Err g) t e = grind (arith, unit_level_found, counted_is at octets m fits q)
value_found kind at octets m f fits q (Ok raw) t e =
    let is = counted_is at octets m fits q in
    let r = params_found (in_unit kind) (MeansInUnit kind) (unit_follows kind) (length m.value) (at + (1 + m.used)) nothing raw m.value
    (omega arith) is.is.value_octets t in
    let spelled : Spells (MeansInUnit kind) raw m.value = record { parts = r.parts; whole = r.whole; each = r.each; once = r.once } in
    grind (arith, missing_found, required_of, failed, fault_is, never)

named_found : (second : Bool) (at : ℕ) (o : Option Kind) (octets : List ℕ) (f : SpduFault) → IsOctets octets →
    (placed_kind second at o >>= λ kind. body_in kind at octets) ≡ Err f → IsNamedFault second at o octets f
named_found second at o octets f h0 h1 = search (arith, fault_is, cases_Bool, measured_again, never, measured_bad, value_found)

pub unit_fault_found : (second : Bool) (at : ℕ) (octets : List ℕ) (f : SpduFault) → IsOctets octets → unit_at second at octets ≡ Err f →
    IsUnitFault second at octets f
unfolding unit_at
unit_fault_found second at [] f fits e = sym (fault_is Placed (LengthPastEnd at) f e)
unit_fault_found second at (si ∷ octets) f fits e = named_found second at (kind_named second si) octets f (octets-tail si octets fits) e

-- ---- and the first fault is returned

body_only : (kind : Kind) (at : ℕ) (octets : List ℕ) (f : SpduFault) → IsOctets octets → IsBodyFault kind at octets f →
    body_in kind at octets ≡ Err f
body_only kind at octets f fits h =
    elim h [
      | inl q ↦ grind (arith, bind_bad, failed, measured_at at octets, value_of_no at octets (measured_at at octets) refl fits q.0)
      | inr q ↦
          let used = indicator_len q.0 in
          let made : Measured = record { used = used; value = q.1; rest = q.2 } in
          let read : measured_at at octets ≡ Ok made = ap (measured_at at) q.3.1 ∙ measured_again at q.0 q.1 q.2 q.3.0 in
          let is = measured_ok at octets made fits read in
          bind_of (measured_at at octets) (λ m. value_in kind at m) made (Err f) read (elim q.4 [
            | inl level ↦ search (arith, bind_bad, in_unit, unit_level_only)
            | inr w ↦
                let s = w.1 in
                let params : params_of (in_unit kind) (at + (1 + used)) nothing q.1 ≡ Ok w.0 = rw s.whole
                (params_only (in_unit kind) (MeansInUnit kind) (unit_follows kind) (length (flat_map part_octets s.parts)) (at + (1 + used))
                nothing w.0 s.parts (omega arith) s.each s.once) in
                grind (arith, bind_of, in_unit, bind_bad, all_there, required_of, missing_only)
          ])
    ]

named_only : (second : Bool) (at : ℕ) (o : Option Kind) (octets : List ℕ) (f : SpduFault) → IsOctets octets →
    IsNamedFault second at o octets f → (placed_kind second at o >>= λ kind. body_in kind at octets) ≡ Err f
named_only second at None octets f fits h = ap (λ (g : SpduFault). failed {A = Placed} g) (sym h)
named_only second at (Some kind) octets f fits h = grind (arith, body_only kind at octets f fits)

pub unit_fault_only : (second : Bool) (at : ℕ) (octets : List ℕ) (f : SpduFault) → IsOctets octets → IsUnitFault second at octets f →
    unit_at second at octets ≡ Err f
unfolding unit_at
unit_fault_only second at [] f fits h = ap (λ (g : SpduFault). failed {A = Placed} g) (sym h)
unit_fault_only second at (si ∷ octets) f fits h = named_only second at (kind_named second si) octets f (octets-tail si octets fits) h

-- ---- the end of a unit

pub unit_end : (second : Bool) (at : ℕ) (octets : List ℕ) (p : Placed) → IsOctets octets → unit_at second at octets ≡ Ok p →
    p.end + length p.rest ≡ at + length octets
unfolding unit_at
unit_end second at [] p fits e = absurd cc
unit_end second at (si ∷ octets) p fits e =
    let s = unit_steps second at si octets p e in
    let fits' = octets-tail si octets fits in
    grind (arith, length-append, counted_is at octets s.m fits' s.measured)
