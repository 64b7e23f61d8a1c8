-- The first fault of a TSDU is the one that reading returns.
use Rattle.osi_spdu.proofs.Vocabulary.{AllByRecursion, cases_Bool, length-append, IsOctets, SpduFault, Category, Zero, One, Two}
use Rattle.osi_spdu.proofs.Vocabulary.{category_of, may_stand, Units, ◌>>=◌, Placed, unit_at, contents_of, takes_rest, Next, next_at}
use Rattle.osi_spdu.proofs.Vocabulary.{behind_at, continued, tsdu_at, AreBehind, AreUnits, IsUnitFault, IsCrowded, IsFaultBehind}
use Rattle.osi_spdu.proofs.Vocabulary.{IsFaultAfter, IsFirstFault, ◌⊎◌, inl, inr, ◌≡◌, ℕ, zero, suc, ◌+◌, ◌≤◌, Bool, true, false, List, []}
use Rattle.osi_spdu.proofs.Vocabulary.{◌∷◌, ◌++◌, length, Result, Ok, Err, refl, sym, ap, subst, ◌∙◌, append_assoc, add-zero, arith}
use Rattle.osi_spdu.proofs.basics.the_steps_of_reading.{bind_of, bind_ok}
use Rattle.osi_spdu.proofs.basics.length_indicators.{octets-behind}
use Rattle.osi_spdu.proofs.tsdu.units_and_tsdus_are_read.{IsUnitAt, unit_found, unit_only, second_stands, two_second, informed_plain}
use Rattle.osi_spdu.proofs.tsdu.units_and_tsdus_are_read.{not_second, behind_cons}
use Rattle.osi_spdu.proofs.first_faults.the_first_fault_is_returned.{failed, fault_is, never, bind_bad, bind_fails}
use Rattle.osi_spdu.proofs.first_faults.the_first_fault_of_a_unit.{unit_end, unit_fault_found, unit_fault_only}

-- the end of a unit
ends_at : (second : Bool) (at : ℕ) (octets : List ℕ) (p : Placed) → IsOctets octets → unit_at second at octets ≡ Ok p → (front : List ℕ) →
    octets ≡ front ++ p.rest → p.end ≡ at + length front
ends_at second at octets p fits e front parts = grind (arith, unit_end second at octets p fits e, length-append front p.rest)

abbrev with_first : Next → Result Units SpduFault → Result Units SpduFault
with_first n others = others >>= λ us. Ok (n.unit ∷ us)

abbrev goes_on : ℕ → Next → Result Units SpduFault
goes_on room n = with_first n (behind_at room n.end n.rest)

-- ---- the fault returned is the first

fault_at_once : (room at : ℕ) (octets : List ℕ) (f : SpduFault) → 1 ≤ length octets →
    ((0 ≡ room) × IsCrowded at octets f) ⊎ ((1 ≤ room) × IsUnitFault true at octets f) → IsFaultBehind room at octets f
fault_at_once room at octets f some bad = grind (arith, add-zero at)

abbrev Bad : ℕ → ℕ → ℕ → List ℕ → SpduFault → Type 0
Bad count room at rest f = ((count ≡ room) × IsCrowded at rest f) ⊎ ((1 + count ≤ room) × IsUnitFault true at rest f)

fault_behind_one : (room at : ℕ) (octets : List ℕ) (p : Placed) (f : SpduFault) → IsOctets octets → unit_at true at octets ≡ Ok p →
    IsUnitAt true octets p → takes_rest p.kind ≡ false → IsFaultBehind room p.end p.rest f
    → IsFaultBehind (suc room) at octets f
fault_behind_one room at octets p f fits e is plain later =
    let front = is.front ++ later.front in
    let offset : p.end + length later.front ≡ at + length front =
    omega (arith, ends_at true at octets p fits e is.front is.parts, length-append is.front later.front) in
    record {
      units = contents_of p [] ∷ later.units;
      front = front;
      rest = later.rest;
      whole = is.parts ∙ ap (λ (t : List ℕ). is.front ++ t) later.whole ∙ sym (append_assoc is.front later.front later.rest);
      are_units = (is.front, later.front, refl, is.spelled [], grind arith, later.are_units);
      behind = (second_stands (category_of p.kind) is.stands, grind arith, later.behind);
      plain = (plain, later.plain);
      few = omega (arith, later.few);
      some = later.some;
      bad = grind arith;
    }

behind_found : (room at : ℕ) (octets : List ℕ) (f : SpduFault) → IsOctets octets → behind_at room at octets ≡ Err f →
    IsFaultBehind room at octets f
unfolding behind_at next_at
behind_found room at [] f fits e = absurd (never Units [] f e)
behind_found zero at (si ∷ octets) f fits e = grind (arith, fault_at_once, fault_is)
behind_found (suc room) at (si ∷ octets) f fits e = elim (bind_fails (next_at at (si ∷ octets)) (goes_on room) f e) [
  | inl q ↦
      let u = bind_fails (unit_at true at (si ∷ octets)) _ f q in
      grind (arith, fault_at_once, unit_fault_found true at (si ∷ octets) f fits, never)
  | inr q ↦
      let u = bind_ok (unit_at true at (si ∷ octets)) _ q.0 q.1 in
      let is = unit_found true at (si ∷ octets) u.0 fits u.1 in
      elim (cases_Bool (takes_rest u.0.kind)) [
        | inl t ↦ absurd (grind (arith, never))
        | inr t ↦ fault_behind_one room at (si ∷ octets) u.0 f fits u.1 is t
            (behind_found room u.0.end u.0.rest f is.rest_octets (grind (arith, never, failed, fault_is)))
      ]
]

after_found : (category : Category) (p : Placed) (front : List ℕ) (f : SpduFault) → IsOctets p.rest → p.end ≡ length front →
    (category ≡ Two → ⊥) → continued category p ≡ Err f → IsFaultAfter category (length front) p.rest f
after_found category p front f h ends not_two e = grind (arith, behind_found, behind_at)

pub first_fault_found : (octets : List ℕ) (f : SpduFault) → IsOctets octets → tsdu_at octets ≡ Err f → IsFirstFault octets f
unfolding tsdu_at
first_fault_found octets f fits e = elim (bind_fails (unit_at false 0 octets) _ f e) [
  | inl q ↦ grind (arith, unit_fault_found)
  | inr q ↦
      let is = unit_found false 0 octets q.0 fits q.1 in
      grind (arith, after_found, is.spelled [], category_of q.0.kind, not_second (category_of q.0.kind) is.stands, ends_at)
]

-- ---- and the first fault is returned

behind_now : (room at : ℕ) (rest : List ℕ) (f : SpduFault) → 1 ≤ length rest → IsOctets rest → Bad 0 room at rest f →
    behind_at room at rest ≡ Err f
unfolding behind_at next_at
behind_now room at rest f h0 h1 h2 = grind (arith, bind_bad, unit_fault_only)

behind_only : (room at : ℕ) (units : Units) (front rest : List ℕ) (f : SpduFault) → AreUnits units front → AreBehind units →
    AllByRecursion (λ u. takes_rest u.kind ≡ false) units → length units ≤ room → 1 ≤ length rest
    → IsOctets (front ++ rest) → Bad (length units) room (at + length front) rest f → behind_at room at (front ++ rest) ≡ Err f
unfolding next_at
behind_only room at [] front rest f s are plain few some fits bad =
    let here : Bad 0 room at rest f =
    subst (λ (k : ℕ). Bad 0 room k rest f) (add-zero at) (subst (λ (t : List ℕ). Bad 0 room (at + length t) rest f) s bad) in
    ap (λ (t : List ℕ). behind_at room at (t ++ rest)) s ∙ behind_now room at rest f some (octets-behind front rest fits) here
behind_only zero at (unit ∷ units) front rest f s are plain few some fits bad = absurd (omega (arith, few))
behind_only (suc room) at (unit ∷ units) front rest f s are plain few some fits bad =
    let mine = s.0 in
    let theirs = s.1 in
    let empty = informed_plain unit.kind unit.information plain.0 s.4 in
    let whole : front ≡ mine ++ theirs = s.2 ∙ ap (λ (t : List ℕ). mine ++ (t ++ theirs)) empty in
    let octets : front ++ rest ≡ mine ++ (theirs ++ rest) = ap (λ (t : List ℕ). t ++ rest) whole ∙ append_assoc mine theirs rest in
    let fits' : IsOctets (mine ++ (theirs ++ rest)) = subst IsOctets octets fits in
    let u = unit_only true at unit mine (theirs ++ rest) s.3 (two_second (category_of unit.kind) are.0) in
    let p : Placed = record { kind = unit.kind; known = unit.known; end = u.0; rest = theirs ++ rest } in
    let ends = ends_at true at (mine ++ (theirs ++ rest)) p fits' u.1 mine refl in
    let offset : at + length front ≡ u.0 + length theirs = omega (arith, ap length whole, length-append mine theirs) in
    let later = behind_only room u.0 units theirs rest f s.5 are.2 plain.1 (omega (arith, few)) some
    (octets-behind mine (theirs ++ rest) fits') (grind arith) in
    ap (behind_at (suc room) at) octets ∙ behind_cons room at mine (theirs ++ rest) unit s.3
    ∙ (grind (arith, bind_of, bind_bad))

after_stands : (category : Category) (at : ℕ) (rest : List ℕ) (f : SpduFault) → IsFaultAfter category at rest f →
    may_stand false category ≡ true
unfolding may_stand
after_stands category at rest f h = grind arith

after_only : (category : Category) (p : Placed) (front : List ℕ) (f : SpduFault) → IsOctets p.rest → p.end ≡ length front →
    IsFaultAfter category (length front) p.rest f → continued category p ≡ Err f
after_only Zero p front f fits ends h =
    let later = subst (λ (k : ℕ). IsFaultBehind 16 k p.rest f) (sym ends) h in
    let octets = later.whole in
    bind_bad (behind_at 16 p.end p.rest) (λ us. Ok (contents_of p [] ∷ us)) f
    (ap (behind_at 16 p.end) octets ∙ behind_only 16 p.end later.units later.front later.rest f later.are_units later.behind later.plain
    later.few later.some (subst IsOctets octets fits) later.bad)
after_only One p front f fits ends h = grind (arith, failed)
after_only Two p front f fits ends h = absurd h

pub first_fault_only : (octets : List ℕ) (f : SpduFault) → IsOctets octets → IsFirstFault octets f → tsdu_at octets ≡ Err f
unfolding tsdu_at
first_fault_only octets f fits (inl q) = grind (arith, bind_bad, unit_at, category_of, unit_fault_only)
first_fault_only octets f fits (inr q) =
    let unit = q.0 in
    let front = q.1 in
    let rest = q.2 in
    let fits' : IsOctets (front ++ rest) = subst IsOctets q.3 fits in
    let u = unit_only false 0 unit front rest q.4 (after_stands (category_of unit.kind) (length front) rest f q.6) in
    let p : Placed = record { kind = unit.kind; known = unit.known; end = u.0; rest = rest } in
    let ends : u.0 ≡ length front = omega (arith, ends_at false 0 (front ++ rest) p fits' u.1 front refl) in
    let goes : unit_at false 0 octets ≡ Ok p = ap (unit_at false 0) q.3 ∙ u.1 in
    search (arith, bind_of, unit_at, category_of, after_only, octets-behind)
