-- Filling a slot, and the values of slots.
use Rattle.osi_spdu.proofs.Vocabulary.{slice_get, cases_Bool, ltb-true, lt-ltb, eq-eqb, Code, UserData, Params, number_of, is_same, slot_of}
use Rattle.osi_spdu.proofs.Vocabulary.{every_code, nothing, put, some_octets, place_of, cells_of, filled, slots_of, known_of, no_params}
use Rattle.osi_spdu.proofs.Vocabulary.{present, has_octets, token_octets, tokens_alone, token_bits, is_some, inl, inr, ◌≡◌, ◌==◌, ◌&&◌, ℕ}
use Rattle.osi_spdu.proofs.Vocabulary.{◌<◌, Bool, true, false, List, length, get_or, Option, Some, None, option_map, refl, sym, ap, ◌∙◌}
use Rattle.osi_spdu.proofs.Vocabulary.{get_or-set_other, get_or-set_same, eqb, ltb, arith, TokenSet}
use Rattle.osi_spdu.proofs.basics.values_of_one_octet.{token_bits_again}
use Rattle.osi_spdu.proofs.basics.the_steps_of_reading.{same_true, same_refl}

at_place : ℕ → Option Code
at_place n = slice_get every_code n

placed_back : (c : Code) → at_place (place_of c) ≡ Some c
unfolding at_place place_of
placed_back c = grind arith

place_one : (c d : Code) → place_of c ≡ place_of d → c ≡ d
place_one c d e = (let h : Some c ≡ Some d = sym (placed_back c) ∙ ap at_place e ∙ placed_back d in cc)

slot_within : (c : Code) → ltb (place_of (slot_of c)) 23 ≡ true
unfolding place_of slot_of
slot_within c = search arith

cells_len : (p : Params) → length (cells_of p) ≡ 23
unfolding cells_of
cells_len p = refl

-- the filled slot has the value, and the others are as they were
pub slots_put : (p q : Params) (c : Code) (v : List ℕ) (o : Option (List ℕ)) → cells_of q ≡ filled (cells_of p) (place_of (slot_of c)) o →
    o ≡ Some v
    → slots_of q ≡ put (slot_of c) v (slots_of p)
unfolding slots_of
slots_put p q c v o e is = λ i d. (one d) i
  where
    one : (d : Code) → get_or (cells_of q) (place_of d) None ≡ put (slot_of c) v (λ x. get_or (cells_of p) (place_of x) None) d
    one d =
        let s = slot_of c in
        let within : place_of s < length (cells_of p) = rw (cells_len p) (ltb-true (place_of s) 23 (slot_within c)) in
        ap (λ (cells : List (Option (List ℕ))). get_or cells (place_of d) None) (e ∙ ap (filled (cells_of p) (place_of s)) is)
        ∙ elim (cases_Bool (is_same d s)) [
          | inl t ↦ rw (t, same_true d s t) (get_or-set_same (cells_of p) (place_of s) (Some v) None within)
          | inr f ↦ rw f (get_or-set_other (cells_of p) (place_of s) (place_of d) (Some v) None
              (λ h. let r = same_refl d in absurd (let n = ap (λ (x : Code). is_same d x) (place_one d s h) in cc)))
        ]

-- no parameter is there among none
pub no_slots : slots_of no_params ≡ nothing
unfolding slots_of cells_of place_of
no_slots = grind arith

-- what is there, with no empty user data
pub known_some : (p : Params) (c : Code) (v : List ℕ) → slots_of p c ≡ Some v → (is_same c UserData && (length v == 0)) ≡ false →
    known_of p c ≡ Some v
unfolding known_of
known_some p c v e test = grind (arith, cases_Bool, eqb)

pub known_none : (p : Params) (c : Code) → slots_of p c ≡ None → known_of p c ≡ None
unfolding known_of
known_none p c e = grind (arith, cases_Bool)

pub known_empty : (p : Params) (c : Code) (v : List ℕ) → slots_of p c ≡ Some v → is_same c UserData ≡ true → length v ≡ 0 →
    known_of p c ≡ None
unfolding known_of
known_empty p c v e t h = grind arith

-- ---- whether a value is there

pub has_mapped : {A B : Type 0} (f : A → B) (o : Option A) → is_some (option_map f o) ≡ is_some o
has_mapped f o = grind arith

pub has_present : (b : Bool) → is_some (present b) ≡ b
has_present b = grind arith

-- ---- what a unit keeps

-- parameters that differ only in how they keep the token item and the user data have the same meaning
pub settled_known : (p q : Params) → q ≡ (let r : Params = record p { token_item = q.token_item; user_data = q.user_data } in r) →
    option_map token_octets q.token_item ≡ option_map token_octets p.token_item
    → option_map (λ s. s.now) q.user_data ≡ some_octets (option_map (λ s. s.now) p.user_data) → known_of q ≡ known_of p
unfolding known_of slots_of cells_of place_of number_of
settled_known p q same tokens octets = grind arith

pub some_there : (o : Option (List ℕ)) → has_octets (some_octets o) ≡ true
some_there o = grind (arith, lt-ltb)

-- a token item without other bits
pub tokens_same : (t u : TokenSet) → u.0 ≡ token_bits t.0 → (token_octets u ≡ token_octets t) × (tokens_alone (Some u) ≡ true)
tokens_same t u e = grind (arith, token_bits_again, eq-eqb)
