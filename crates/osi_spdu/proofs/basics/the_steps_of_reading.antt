-- The steps of a reading function.
use Rattle.osi_spdu.proofs.Vocabulary.{is_some, find, eqb-true, eq-eqb, SpduFault, Code, number_of, is_same, every_code, ◌>>=◌, arith, ◌≡◌}
use Rattle.osi_spdu.proofs.Vocabulary.{ℕ, Bool, true, false, cond, List, Option, Some, None, Result, Ok, Err, refl, sym, ap, ◌∙◌, eqb}

-- the value of a step that did not fail
pub bind_ok : {A B : Type 0} (r : Result A SpduFault) (f : A → Result B SpduFault) (y : B) → (r >>= f) ≡ Ok y →
    (x : A) × (r ≡ Ok x) × (f x ≡ Ok y)
bind_ok h f y e = grind arith

pub bind_of : {A B : Type 0} (r : Result A SpduFault) (f : A → Result B SpduFault) (x : A) (z : Result B SpduFault) → r ≡ Ok x → f x ≡ z →
    (r >>= f) ≡ z
bind_of r f x z e g = ap (λ q. q >>= f) e ∙ g

abbrev done : {A : Type 0} → A → Result A SpduFault
done x = Ok x

pub ok_is : {A : Type 0} (x y : A) → done x ≡ done y → x ≡ y
ok_is x y e = cc

-- a test that did not fail
pub guard_ok : {A : Type 0} (b : Bool) (d : SpduFault) (x : A) (r : Result A SpduFault) → cond b (Err d) r ≡ Ok x → (b ≡ false) × (r ≡ Ok x)
guard_ok h d x r e = grind arith

pub is_none_of : (o : Option (List ℕ)) → is_some o ≡ false → o ≡ None
is_none_of h e = grind arith

pub none_is : (o : Option (List ℕ)) → o ≡ None → is_some o ≡ false
none_is o e = ap is_some e

-- ---- codes

-- the code of a number
abbrev pub named : ℕ → Option Code
named n = find (λ c. eqb (number_of c) n) every_code

pub named_back : (c : Code) → named (number_of c) ≡ Some c
unfolding number_of
named_back c = grind arith

some_is : (c d : Code) → (let o : Option Code = Some c in o ≡ Some d) → c ≡ d
some_is c d e = cc

-- two codes with the same number are the same
pub number_one : (c d : Code) → number_of c ≡ number_of d → c ≡ d
number_one c d e = some_is c d (sym (named_back c) ∙ ap named e ∙ named_back d)

pub same_true : (c d : Code) → is_same c d ≡ true → c ≡ d
same_true c d e = number_one c d (eqb-true (number_of c) (number_of d) e)

pub same_refl : (c : Code) → is_same c c ≡ true
same_refl c = eq-eqb (number_of c) (number_of c) refl
