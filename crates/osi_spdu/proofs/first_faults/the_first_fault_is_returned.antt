-- The first fault of parameters, units and TSDUs is the one that reading returns.
use Rattle.std.proofs.Common.{◌⊎◌, inl, inr, ◌≡◌, ℕ, zero, suc, ◌+◌, ◌<◌, ◌≤◌, true, cond, ltb, eqb, List, [], ◌∷◌, ◌++◌, length}
use Rattle.std.proofs.Common.{Option, Some, None, Result, Ok, Err, refl, sym, ap, subst, ◌∙◌, append_assoc, add-zero, arith}
use Rattle.osi_spdu.proofs.Vocabulary.{flat_map, length-append, IsOctets, SpduFault, LengthPastEnd, Code, Kind, is_group, slot_of, codes_of}
use Rattle.osi_spdu.proofs.Vocabulary.{members_of, Known, nothing, put, ◌>>=◌, Measured, counted_at, long_at, measured_at, Taking}
use Rattle.osi_spdu.proofs.Vocabulary.{params_at, params_of, code_among, stored, member_taken, in_group, parameter_taken, in_unit}
use Rattle.osi_spdu.proofs.Vocabulary.{all_there, Part, part_octets, MeansInGroup, MeansInUnit, indicator_len, HasNoValue, IsValueFault}
use Rattle.osi_spdu.proofs.Vocabulary.{Failing, IsItemFault, IsLevelFault, FailsInGroup, FailsInUnit, IsFirstMissing}
use Rattle.osi_spdu.proofs.basics.options_that_are_added.{sole_one, sole_back}
use Rattle.osi_spdu.proofs.basics.the_steps_of_reading.{bind_of, ok_is, guard_ok, is_none_of, none_is}
use Rattle.osi_spdu.proofs.basics.length_indicators.{IsMeasured, octets-tail, octets-behind, measured_ok, measured_again, chosen}
use Rattle.osi_spdu.proofs.parameters.one_level_is_read.{Follows, front_read, len_of_part, group_follows, unit_follows}
use Rattle.osi_spdu.proofs.parameters.one_level_is_read.{group_form}

-- ---- failures

abbrev pub failed : {A : Type 0} → SpduFault → Result A SpduFault
failed f = Err f

pub fault_is : (A : Type 0) (f g : SpduFault) → (let r : Result A SpduFault = Err f in r) ≡ (let r : Result A SpduFault = Err g in r) →
    f ≡ g
fault_is A f g e = cc

pub never : (A : Type 0) (x : A) (f : SpduFault) → (let r : Result A SpduFault = Ok x in r) ≡ (let r : Result A SpduFault = Err f in r) → ⊥
never A x f e = cc

-- ---- lengths

long_bad : (at : ℕ) (octets : List ℕ) (f : SpduFault) → long_at at octets ≡ Err f → f ≡ LengthPastEnd at
unfolding long_at
long_bad at octets f e = grind (arith, fault_is)

pub measured_bad : (at : ℕ) (octets : List ℕ) (f : SpduFault) → measured_at at octets ≡ Err f → f ≡ LengthPastEnd at
unfolding measured_at
measured_bad at [] f e = sym (fault_is Measured (LengthPastEnd at) f e)
measured_bad at (n ∷ octets) f e =
    elim (chosen (eqb n 255) (long_at at octets) (counted_at at 1 n octets) (Err f) e) [
      | inl q ↦ long_bad at octets f q.1
      | inr q ↦ grind (arith, chosen, ltb, fault_is, never)
    ]

pub value_of_no : (at : ℕ) (octets : List ℕ) (r : Result Measured SpduFault) → measured_at at octets ≡ r → IsOctets octets →
    HasNoValue octets → r ≡ Err (LengthPastEnd at)
value_of_no at octets (Ok m) e fits lacks = grind (arith, measured_ok at octets m fits e)
value_of_no at octets (Err f) e fits lacks = ap (λ (g : SpduFault). failed {A = Measured} g) (measured_bad at octets f e)

-- how a value was counted
pub record IsCounted (at : ℕ) (octets : List ℕ) (m : Measured) : Type 0 where
  pub is : IsMeasured m octets
  pub used : m.used ≡ indicator_len is.long

pub counted_is : (at : ℕ) (octets : List ℕ) (m : Measured) → IsOctets octets → measured_at at octets ≡ Ok m → IsCounted at octets m
counted_is at octets m fits e =
    let is = measured_ok at octets m fits e in
    let made : Measured = record { used = indicator_len is.long; value = m.value; rest = m.rest } in
    let again : measured_at at octets ≡ Ok made = ap (measured_at at) is.parts ∙ measured_again at is.long m.value m.rest is.counted in
    let same : m ≡ made = ok_is m made (sym e ∙ again) in
    record { is = is; used = ap (λ (x : Measured). x.used) same }

-- ---- one value

stored_bad : (kind : Kind) (at : ℕ) (c : Code) (value : List ℕ) (known : Known) (f : SpduFault) → stored kind at c value known ≡ Err f →
    IsValueFault kind at c value known f
unfolding stored
stored_bad kind at c value known f h0 = grind (arith, chosen, fault_is, is_none_of)

stored_fails : (kind : Kind) (at : ℕ) (c : Code) (value : List ℕ) (known : Known) (f : SpduFault) → IsValueFault kind at c value known f →
    stored kind at c value known ≡ Err f
unfolding stored
stored_fails kind at c value known f h0 = grind arith

-- ---- a level

-- the faults of reading one parameter at a level are those of the table of faults
record Fails (taking : Taking) (failing : Failing) : Type 0 where
  fails : (at body code : ℕ) (value : List ℕ) (known : Known) (f : SpduFault) → IsOctets value → taking at body code value known ≡ Err f →
      failing at body code value known f
  back : (at body code : ℕ) (value : List ℕ) (known : Known) (f : SpduFault) → IsOctets value → failing at body code value known f →
      taking at body code value known ≡ Err f

abbrev Level : (ℕ → List ℕ → Known → Type 0) → Failing → ℕ → Known → List ℕ → SpduFault → Type 0
Level means failing at before octets f = IsLevelFault means failing at before octets f

pub bind_bad : {A B : Type 0} (r : Result A SpduFault) (next : A → Result B SpduFault) (f : SpduFault) → r ≡ Err f → (r >>= next) ≡ Err f
bind_bad r next f e = ap (λ q. q >>= next) e

-- what failed: the first step, or what follows it
pub bind_fails : {A B : Type 0} (r : Result A SpduFault) (next : A → Result B SpduFault) (f : SpduFault) → (r >>= next) ≡ Err f →
    (r ≡ Err f) ⊎ ((x : A) × (r ≡ Ok x) × (next x ≡ Err f))
bind_fails (Ok x) next f e = inr (x, refl, e)
bind_fails (Err g) next f e = inl cc

-- a fault at the first item
fault_here : (means : ℕ → List ℕ → Known → Type 0) (failing : Failing) (at : ℕ) (before : Known) (octets : List ℕ) (f : SpduFault) →
    IsItemFault failing at octets before f → Level means failing at before octets f
fault_here means failing at before octets f bad = record {
  front = [];
  rest = octets;
  known = before;
  whole = refl;
  fills = record { parts = []; whole = refl; each = tt; once = λ c. sole_one (before c) };
  bad = subst (λ (k : ℕ). IsItemFault failing k octets before f) (sym (add-zero at)) bad;
}

module _ (taking : Taking) (means : ℕ → List ℕ → Known → Type 0) (failing : Failing) (follows : Follows taking means)
    (fails : Fails taking failing) where
  level_found : (n at : ℕ) (before : Known) (octets : List ℕ) (f : SpduFault)
      → length octets ≤ n → IsOctets octets → params_at taking n at before octets ≡ Err f → Level means failing at before octets f
  unfolding params_at
  level_found n at before [] f le fits e = absurd (never Known before f e)
  level_found zero at before (code ∷ octets) f le fits e = absurd (omega arith)
  level_found (suc n) at before (code ∷ octets) f le fits e = elim (bind_fails (measured_at at octets) _ f e) [
    | inl q ↦ grind (arith, fault_here, indicator_len, measured_again, never, fault_is, measured_bad)
    | inr q ↦
        let m = q.0 in
        let is = counted_is at octets m (octets-tail code octets fits) q.1 in
        let next = at + (1 + m.used + length m.value) in
        elim (bind_fails (taking at (at + (1 + m.used)) code m.value before) _ f q.2) [
          | inl t ↦ grind (arith, fault_here)
          | inr t ↦
              let one = follows.takes at (at + (1 + m.used)) code m.value before t.0 is.is.value_octets t.1 in
              let p : Part = record { code = code; long = is.is.long; value = m.value; gives = one.0 } in
              let byte : code < 256 = fits 0 in
              let level = level_found n next t.0 m.rest f (omega (arith, is.is.shorter)) is.is.rest_octets t.2 in
              let offset : next + length level.front ≡ at + length (part_octets p ++ level.front) =
              omega (arith, len_of_part p, length-append (part_octets p) level.front) in
              record {
                front = part_octets p ++ level.front;
                rest = level.rest;
                known = level.known;
                whole = grind (arith, append_assoc);
                fills = record {
                  parts = p ∷ level.fills.parts;
                  whole = ap (λ (t : List ℕ). part_octets p ++ t) level.fills.whole;
                  each = ((byte, is.is.counted, one.1), level.fills.each);
                  once = grind (arith, sole_back);
                };
                bad = rw (← offset) level.bad;
              }
        ]
  ]

  -- an item that has the fault stops reading
  item_stops : (n at : ℕ) (known : Known) (octets : List ℕ) (f : SpduFault) → length octets ≤ n → IsOctets octets →
      IsItemFault failing at octets known f → params_at taking n at known octets ≡ Err f
  unfolding params_at
  item_stops n at known [] f le fits bad = absurd bad
  item_stops zero at known (code ∷ octets) f le fits bad = absurd (omega arith)
  item_stops (suc n) at known (code ∷ octets) f le fits bad =
      let next = λ (m : Measured).
      (taking at (at + (1 + m.used)) code m.value known >>= λ k. params_at taking n (at + (1 + m.used + length m.value)) k m.rest) in
      elim bad [
        | inl q ↦ bind_bad (measured_at at octets) next f
            (value_of_no at octets (measured_at at octets) refl (octets-tail code octets fits) q.0 ∙
            ap (λ (g : SpduFault). failed {A = Measured} g) (sym q.1))
        | inr q ↦
            let made : Measured = record { used = indicator_len q.0; value = q.1; rest = q.2 } in
            let read : measured_at at octets ≡ Ok made = ap (measured_at at) q.3.1 ∙ measured_again at q.0 q.1 q.2 q.3.0 in
            let is = measured_ok at octets made (octets-tail code octets fits) read in
            grind (arith, indicator_len, bind_of, measured_at, bind_bad, params_at)
      ]

  level_only : (at : ℕ) (before : Known) (octets : List ℕ) (f : SpduFault)
      → IsOctets octets → Level means failing at before octets f → params_of taking at before octets ≡ Err f
  level_only at before octets f fits level =
      let parts = level.fills.parts in
      let whole : octets ≡ flat_map part_octets parts ++ level.rest =
      level.whole ∙ ap (λ (t : List ℕ). t ++ level.rest) level.fills.whole in
      let r = front_read taking means follows (length octets) at before level.known parts level.rest (omega (arith, ap length whole))
      level.fills.each level.fills.once in
      let place = ap (λ (t : List ℕ). at + length t) level.fills.whole in
      ap (params_at taking (length octets) at before) whole ∙ r.2
      ∙ item_stops r.0 (at + length (flat_map part_octets parts)) level.known level.rest f r.1
      (octets-behind level.front level.rest (subst IsOctets level.whole fits))
      (subst (λ (k : ℕ). IsItemFault failing k level.rest level.known f) place level.bad)

-- ---- within a group

member_bad : (kind : Kind) (at : ℕ) (value : List ℕ) (known : Known) (o : Option Code) (f : SpduFault) →
    member_taken kind at value known o ≡ Err f → (c : Code) × (o ≡ Some c) × IsValueFault kind at c value known f
member_bad kind at value known o f e = grind (arith, never, stored_bad)

group_fails : (kind : Kind) (members : List Code) → Fails (in_group kind members) (FailsInGroup kind members)
unfolding in_group FailsInGroup
group_fails kind members = record {
  fails = λ at body code value known f fits e. member_bad kind at value known (code_among members code) f e;
  back = λ at body code value known f fits h. ap (member_taken kind at value known) h.1 ∙ stored_fails kind at h.0 value known f h.2;
}

-- ---- within a unit

stored_group : (kind : Kind) (at : ℕ) (c : Code) (value : List ℕ) (known : Known) → is_group c ≡ true → known (slot_of c) ≡ None →
    stored kind at c value known ≡ Ok (put (slot_of c) [] known)
unfolding stored
stored_group kind at c value known group free = rw (none_is (known (slot_of c)) free, group_form kind c value group) refl

abbrev InUnit : Kind → ℕ → ℕ → Code → List ℕ → Known → SpduFault → Type 0
InUnit kind at body c value known f =
    IsValueFault kind at c value known f
    ⊎ ((is_group c ≡ true) × (known (slot_of c) ≡ None) × IsLevelFault (MeansInGroup kind (members_of kind c))
    (FailsInGroup kind (members_of kind c)) body (put (slot_of c) [] known) value f)

opened_bad : (kind : Kind) (at body : ℕ) (c : Code) (value : List ℕ) (known : Known) (f : SpduFault) → IsOctets value →
    (r : Result Known SpduFault) → stored kind at c value known ≡ r
    → (r >>= λ mid. cond (is_group c) (params_of (in_group kind (members_of kind c)) body mid value) (Ok mid)) ≡ Err f →
    InUnit kind at body c value known f
unfolding stored
opened_bad kind at body c value known f h r s e =
    grind (
      arith,
      stored_bad,
      members_of,
      chosen,
      is_group,
      in_group,
      is_none_of,
      guard_ok,
      slot_of,
      ok_is,
      stored_group,
      level_found,
      group_follows,
      group_fails,
      never,
    )

opened_fails : (kind : Kind) (at body : ℕ) (c : Code) (value : List ℕ) (known : Known) (f : SpduFault) → IsOctets value →
    InUnit kind at body c value known f
    → (stored kind at c value known >>= λ mid. cond (is_group c) (params_of (in_group kind (members_of kind c)) body mid value) (Ok mid)) ≡
    Err f
opened_fails kind at body c value known f fits (inl q) =
    bind_bad (stored kind at c value known) _ f (stored_fails kind at c value known f q)
opened_fails kind at body c value known f fits (inr q) =
    let members = members_of kind c in
    let read = level_only (in_group kind members) (MeansInGroup kind members) (FailsInGroup kind members) (group_follows kind members)
    (group_fails kind members) body (put (slot_of c) [] known) value f fits q.2 in
    grind (arith, bind_of, stored, slot_of, stored_group, cond, in_group)

parameter_bad : (kind : Kind) (at body : ℕ) (value : List ℕ) (known : Known) (o : Option Code) (f : SpduFault) → IsOctets value →
    parameter_taken kind at body value known o ≡ Err f
    → (c : Code) × (o ≡ Some c) × InUnit kind at body c value known f
parameter_bad kind at body value known None f fits e = absurd (never Known known f e)
parameter_bad kind at body value known (Some c) f fits e =
    (c, refl, opened_bad kind at body c value known f fits (stored kind at c value known) refl e)

unit_fails : (kind : Kind) → Fails (in_unit kind) (FailsInUnit kind)
unfolding in_unit FailsInUnit
unit_fails kind = record {
  fails = λ at body code value known f fits e. parameter_bad kind at body value known (code_among (codes_of kind) code) f fits e;
  back = λ at body code value known f fits h. grind (arith, opened_fails kind at body h.0 value known f fits h.2);
}

pub unit_level_found : (kind : Kind) (at : ℕ) (octets : List ℕ) (f : SpduFault) → IsOctets octets →
    params_of (in_unit kind) at nothing octets ≡ Err f → IsLevelFault (MeansInUnit kind) (FailsInUnit kind) at nothing octets f
unit_level_found kind at octets f fits e = grind (arith, level_found, in_unit, unit_follows, unit_fails)

pub unit_level_only : (kind : Kind) (at : ℕ) (octets : List ℕ) (f : SpduFault) → IsOctets octets →
    IsLevelFault (MeansInUnit kind) (FailsInUnit kind) at nothing octets f → params_of (in_unit kind) at nothing octets ≡ Err f
unit_level_only kind at octets f fits level = search (arith, level_only, in_unit, unit_follows, unit_fails)

-- ---- mandatory parameters

pub missing_found : (at : ℕ) (codes : List Code) (known : Known) (f : SpduFault) → all_there at codes known ≡ Err f →
    IsFirstMissing at codes known f
unfolding all_there
missing_found at [] known f e = absurd (never Known known f e)
missing_found at (c ∷ codes) known f e = grind (arith, is_none_of, fault_is, missing_found at codes known f)

pub missing_only : (at : ℕ) (codes : List Code) (known : Known) (f : SpduFault) → IsFirstMissing at codes known f →
    all_there at codes known ≡ Err f
unfolding all_there
missing_only at [] known f h = absurd h
missing_only at (c ∷ codes) known f h = grind (arith, none_is, missing_only at codes known f)
