-- Steps of reading that did not fail, and lists of octets.
use Rattle.osi_tpdu.proofs.Vocabulary.{IsOctets, IsOk, TpduFault, ◌>>=◌, drop-drop, drop-take, false≢true, ◌≡◌, ℕ, suc, ◌+◌, ◌<◌, Bool}
use Rattle.osi_tpdu.proofs.Vocabulary.{true, false, cond, List, [], ◌∷◌, length, get_or, take, drop, Result, Ok, Err, refl, sym, arith, ◌⊎◌}

pub bind_ok : {A B : Type 0} (r : Result A TpduFault) (f : A → Result B TpduFault) (y : B) → (r >>= f) ≡ Ok y →
    (x : A) × (r ≡ Ok x) × (f x ≡ Ok y)
bind_ok r f y e = grind arith

-- a test that did not fail
pub unless_ok : {A : Type 0} (b : Bool) (d : TpduFault) (r : Result A TpduFault) (y : A) → cond b (Err d) r ≡ Ok y →
    (b ≡ false) × (r ≡ Ok y)
unless_ok b d r y e = grind arith

pub when_ok : {A : Type 0} (b : Bool) (d : TpduFault) (r : Result A TpduFault) (y : A) → cond b r (Err d) ≡ Ok y → (b ≡ true) × (r ≡ Ok y)
when_ok b d r y e = grind arith

-- which way a test went
pub chosen : {A : Type 0} (b : Bool) (x y z : A) → cond b x y ≡ z → ((b ≡ true) × (x ≡ z)) ⊎ ((b ≡ false) × (y ≡ z))
chosen b x y z e = grind arith

abbrev done : {A : Type 0} → A → Result A TpduFault
done x = Ok x

pub ok_is : {A : Type 0} (x y : A) → done x ≡ done y → x ≡ y
ok_is x y e = cc

-- the same for the readers of a unit that is known to be there: a step of reading that is known not to fail
pub bound_known : {A B : Type 0} (r : Result A TpduFault) (f : A → Result B TpduFault) → IsOk (r >>= f) → IsOk r
bound_known r f known = grind (arith, false≢true)

-- what is read before and then left out can't change the result
pub skipped_known : {A B : Type 0} (r : Result A TpduFault) (y : B) → IsOk (r >>= λ (x : A). done y) → (r >>= λ (x : A). done y) ≡ Ok y
skipped_known r y known = grind (arith, false≢true)

pub IsOctets-cons : (o : ℕ) (s : List ℕ) → o < 256 → IsOctets s → IsOctets (o ∷ s)
IsOctets-cons o s lt h h2 = grind arith

pub IsOctets-rest : (o : ℕ) (s : List ℕ) → IsOctets (o ∷ s) → IsOctets s
IsOctets-rest o s h i = h (suc i)

-- a parameter is split from the octets by its whole length
pub value_in_front : (n : ℕ) (s : List ℕ) → drop 2 (take (2 + n) s) ≡ take n (drop 2 s)
value_in_front n s = drop-take 2 n s

pub behind_front : (n : ℕ) (s : List ℕ) → drop (2 + n) s ≡ drop n (drop 2 s)
behind_front n s = sym (drop-drop n 2 s)

pub one_long : (s : List ℕ) → length s ≡ 1 → s ≡ get_or s 0 0 ∷ []
one_long (o ∷ []) e = refl
one_long _ e = absurd (omega arith)
