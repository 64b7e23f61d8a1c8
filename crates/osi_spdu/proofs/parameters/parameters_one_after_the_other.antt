-- Reading parameters one after the other, by a loop.
use Rattle.osi_spdu.proofs.Vocabulary.{is_some, length-drop, SpduFault, DuplicateParameter, BadValue, Code, Kind, Params, number_of}
use Rattle.osi_spdu.proofs.Vocabulary.{slot_of, canonical_in, Known, ◌>>=◌, Measured, long_at, measured_at, parameter_at, Taking, params_at}
use Rattle.osi_spdu.proofs.Vocabulary.{params_of, stored, place_of, cells_of, filled, slots_of, ◌≡◌, ℕ, suc, ◌+◌, ◌<◌, ◌≤◌, true, false}
use Rattle.osi_spdu.proofs.Vocabulary.{ltb, List, [], ◌∷◌, length, Result, Ok, Err, refl, arith, if◌then◌else◌}
use Rattle.osi_spdu.proofs.basics.the_steps_of_reading.{bind_ok, bind_of, ok_is, guard_ok}
use Rattle.osi_spdu.proofs.basics.length_indicators.{chosen}
use Rattle.osi_spdu.proofs.parameters.a_slot_is_filled.{slots_put}

-- ---- a slot

pub stored_twice : (kind : Kind) (at n : ℕ) (c : Code) (value : List ℕ) (known : Known) → is_some (known (slot_of c)) ≡ true →
    n ≡ number_of c → stored kind at c value known ≡ Err (DuplicateParameter n at)
unfolding stored
stored_twice kind at n c value known e same = rw (e, same) refl

-- nothing is stored of a bad value, so the slot says as before whether it is free
pub stored_refused : (kind : Kind) (at : ℕ) (c : Code) (value : List ℕ) (p q : Params) (f : SpduFault) →
    is_some (canonical_in kind c value) ≡ false → cells_of q ≡ filled (cells_of p) (place_of (slot_of c)) (canonical_in kind c value) →
    f ≡ (if is_some (slots_of q (slot_of c)) then DuplicateParameter (number_of c) at else BadValue (number_of c) at)
    → stored kind at c value (slots_of p) ≡ Err f
unfolding stored slots_of
stored_refused kind at c value p q f h0 h1 h2 = grind arith

pub stored_done : (kind : Kind) (at : ℕ) (c : Code) (value : List ℕ) (p q : Params) → is_some (slots_of p (slot_of c)) ≡ false →
    is_some (canonical_in kind c value) ≡ true
    → cells_of q ≡ filled (cells_of p) (place_of (slot_of c)) (canonical_in kind c value) →
    stored kind at c value (slots_of p) ≡ Ok (slots_of q)
unfolding stored
stored_done kind at c value p q h0 h1 h2 = grind (arith, slots_put)

-- ---- fuel

measured_rest : (at : ℕ) (octets : List ℕ) (m : Measured) → measured_at at octets ≡ Ok m → length m.rest < length octets
unfolding measured_at long_at
measured_rest at octets m h0 = grind (arith, chosen, guard_ok, ltb, ok_is, length-drop)

-- two results of steps that agree if the first did not fail
same_bind : {A B : Type 0} (r : Result A SpduFault) (f g : A → Result B SpduFault) → ((x : A) → r ≡ Ok x → f x ≡ g x) →
    (r >>= f) ≡ (r >>= g)
same_bind r f g h = grind arith

params_fuel : (taking : Taking) (n k at : ℕ) (known : Known) (octets : List ℕ) → length octets ≤ n → length octets ≤ k →
    params_at taking n at known octets ≡ params_at taking k at known octets
unfolding params_at
params_fuel taking (suc n) (suc k) at known (code ∷ octets) hn hk =
    same_bind (measured_at at octets) _ _ (λ m e. (let r = measured_rest at octets m e in
    same_bind (taking at (at + (1 + m.used)) code m.value known) _ _
    (λ x q. params_fuel taking n k (at + (1 + m.used + length m.value)) x m.rest (omega arith) (omega arith))))
params_fuel taking n k at known [] hn hk = refl
params_fuel taking n k at known (code ∷ octets) hn hk = absurd (omega arith)

-- the loop invariant: reading what is left gives the result of reading all
pub record IsTaking (taking : Taking) (at : ℕ) (known : Known) (rest : List ℕ) (start : ℕ) (before : Known) (octets : List ℕ) : Type 0 where
  pub taken : params_of taking at known rest ≡ params_of taking start before octets
  pub room : at + length rest ≡ start + length octets

pub taking_start : (taking : Taking) (at : ℕ) (known : Known) (octets : List ℕ) → IsTaking taking at known octets at known octets
taking_start taking at known octets = record { taken = refl; room = refl }

pub taking_next : {taking : Taking} {at code : ℕ} {m : Measured} {known more : Known} {rest : List ℕ} {start : ℕ} {before : Known}
    {octets : List ℕ} → IsTaking taking at known rest start before octets → parameter_at at rest ≡ Ok (code, m) →
    1 + m.used + length m.value + length m.rest ≡ length rest → taking at (at + (1 + m.used)) code m.value known ≡ Ok more
    → IsTaking taking (at + (1 + m.used + length m.value)) more m.rest start before octets
unfolding parameter_at params_at
taking_next {taking = taking} {at = at} {code = code} {m = m} {known = known} {rest = rest} so_far read len one =
    grind (arith, bind_of, bind_ok, ok_is, measured_rest, same_bind, params_fuel)

pub taking_fault : {taking : Taking} {at : ℕ} {known : Known} {rest : List ℕ} {start : ℕ} {before : Known} {octets : List ℕ}
    {fault : SpduFault} → IsTaking taking at known rest start before octets → 0 < length rest → parameter_at at rest ≡ Err fault
    → params_of taking start before octets ≡ Err fault
unfolding parameter_at params_at
taking_fault so_far some e = grind arith

pub taking_refused : {taking : Taking} {at code : ℕ} {m : Measured} {known : Known} {rest : List ℕ} {start : ℕ} {before : Known}
    {octets : List ℕ} {fault : SpduFault} → IsTaking taking at known rest start before octets → parameter_at at rest ≡ Ok (code, m)
    → taking at (at + (1 + m.used)) code m.value known ≡ Err fault → params_of taking start before octets ≡ Err fault
unfolding parameter_at params_at
taking_refused {taking = taking} {at = at} {code = code} {m = m} {known = known} {rest = rest} so_far read e =
    grind (arith, bind_ok, ok_is, measured_rest, bind_of, same_bind, params_fuel)

pub taking_end : {taking : Taking} {at : ℕ} {known : Known} {rest : List ℕ} {start : ℕ} {before : Known} {octets : List ℕ} →
    IsTaking taking at known rest start before octets → length rest ≡ 0 → params_of taking start before octets ≡ Ok known
unfolding params_at
taking_end so_far e = grind arith
