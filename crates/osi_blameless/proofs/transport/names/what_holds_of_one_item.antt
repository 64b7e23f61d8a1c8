-- What holds of one item of a list at most, after an item is changed or added, or all are.
-- For the law on references.
use Rattle.osi_blameless.proofs.transport.Vocabulary.{arith, [], ap, Bool, false, inl, inr, length, List, map, refl, set, Some, subst, suc}
use Rattle.osi_blameless.proofs.transport.Vocabulary.{sym, true}
use Rattle.osi_blameless.proofs.transport.Vocabulary.{zero, ℕ, ◌++◌, ◌∙◌, ◌∷◌, ◌≡◌, ◌⊎◌, position-Some, get_or_from_slice_get, list_any}
use Rattle.osi_blameless.proofs.transport.Vocabulary.{position}
use Rattle.osi_blameless.proofs.transport.Vocabulary.{slice_get, Connection, HoldsOfOne}
use Rattle.osi_blameless.proofs.transport.small_facts_that_many_lemmas_use.{or_right, some_same}

-- ---- where an item is

shifted : {A B : Type 0} (i p : ℕ) → ((i ≡ p) × A) ⊎ B → ((suc i ≡ suc p) × A) ⊎ B
shifted i p h = grind arith

-- the item that was changed, or one that was there
pub after_set : {X : Type 0} (xs : List X) (p i : ℕ) (x y : X) → slice_get (set xs p x) i ≡ Some y →
    ((i ≡ p) × (y ≡ x)) ⊎ (slice_get xs i ≡ Some y)
after_set [] p i x y h = inr h
after_set (z ∷ xs) zero zero x y h = inl (refl, some_same x y h)
after_set (z ∷ xs) zero (suc i) x y h = inr h
after_set (z ∷ xs) (suc p) zero x y h = inr h
after_set (z ∷ xs) (suc p) (suc i) x y h = shifted i p (after_set xs p i x y h)

pub after_add : {X : Type 0} (xs : List X) (i : ℕ) (x y : X) → slice_get (xs ++ x ∷ []) i ≡ Some y →
    ((i ≡ length xs) × (y ≡ x)) ⊎ (slice_get xs i ≡ Some y)
after_add [] zero x y h = inl (refl, some_same x y h)
after_add [] (suc i) x y h = cc
after_add (z ∷ xs) zero x y h = inr h
after_add (z ∷ xs) (suc i) x y h = shifted i (length xs) (after_add xs i x y h)

pub after_map : {X : Type 0} (f : X → X) (xs : List X) (i : ℕ) (y : X) → slice_get (map f xs) i ≡ Some y →
    (x : X) × (slice_get xs i ≡ Some x) × (y ≡ f x)
after_map f [] i y h = cc
after_map f (z ∷ xs) zero y h = (z, refl, some_same (f z) y h)
after_map f (z ∷ xs) (suc i) y h = after_map f xs i y h

pub first_true : {X : Type 0} (f : X → Bool) (xs : List X) (p : ℕ) (x : X) → position f xs ≡ Some p → slice_get xs p ≡ Some x → f x ≡ true
first_true f xs p x h k = grind (arith, position-Some f xs p x h, get_or_from_slice_get xs p x x k)

pub none_true : {X : Type 0} (f : X → Bool) (xs : List X) (i : ℕ) (x : X) → list_any f xs ≡ false → slice_get xs i ≡ Some x → f x ≡ false
none_true f [] i x h k = cc
none_true f (z ∷ xs) zero x h k = ap f (some_same z x k) ∙ (grind arith)
none_true f (z ∷ xs) (suc i) x h k = none_true f xs i x (or_right (f z) (list_any f xs) h) k

-- ---- all items, after one is changed or added

-- a statement of each item
abbrev pub HoldsOfEach : (Connection → Type 0) → List Connection → Type 0
HoldsOfEach P cs = (i : ℕ) (c : Connection) → slice_get cs i ≡ Some c → P c

each_set_by : (P : Connection → Type 0) (cs : List Connection) (p i : ℕ) (new c : Connection) → HoldsOfEach P cs → P new →
    ((i ≡ p) × (c ≡ new)) ⊎ (slice_get cs i ≡ Some c) → P c
each_set_by P cs p i new c h k l = grind arith

pub each_set : (P : Connection → Type 0) (cs : List Connection) (p : ℕ) (new : Connection) → HoldsOfEach P cs → P new →
    HoldsOfEach P (set cs p new)
each_set P cs p new h k i c e = each_set_by P cs p i new c h k (after_set cs p i new c e)

pub each_add : (P : Connection → Type 0) (cs : List Connection) (new : Connection) → HoldsOfEach P cs → P new →
    HoldsOfEach P (cs ++ new ∷ [])
each_add P cs new h k i c e = each_set_by P cs (length cs) i new c h k (after_add cs i new c e)

pub each_map : (P : Connection → Type 0) (g : Connection → Connection) (cs : List Connection) → HoldsOfEach P cs →
    ((c : Connection) → P c → P (g c)) → HoldsOfEach P (map g cs)
each_map P g cs h k i c e = let (x, at, is) = after_map g cs i c e in subst P (sym is) (k x (h i x at))

-- ---- what holds of one

abbrev AtPlace : List Connection → (p : ℕ) → (new : Connection) → ℕ → Connection → Type 0
AtPlace cs p new i c = ((i ≡ p) × (c ≡ new)) ⊎ (slice_get cs i ≡ Some c)

module _ (f : Connection → Bool) (cs : List Connection) (p : ℕ) (new : Connection) where
  -- it holds of the changed one only if it held of that before
  changed_by : (old : Connection) → HoldsOfOne f cs → slice_get cs p ≡ Some old →
      (new.is_judged ≡ true → f new ≡ true → (old.is_judged ≡ true) × (f old ≡ true)) →
      (i j : ℕ) (c e : Connection) → AtPlace cs p new i c → AtPlace cs p new j e → c.is_judged ≡ true → e.is_judged ≡ true → f c ≡ true →
      f e ≡ true → i ≡ j
  changed_by old h at was i j c e k l jc je fc fe = search (arith)

  -- it holds of the new one only if it held of no other
  new_by : HoldsOfOne f cs → ((i : ℕ) (c : Connection) → slice_get cs i ≡ Some c → c.is_judged ≡ true → f c ≡ true → new.is_judged ≡ true →
      f new ≡ true → ⊥) →
      (i j : ℕ) (c e : Connection) → AtPlace cs p new i c → AtPlace cs p new j e → c.is_judged ≡ true → e.is_judged ≡ true → f c ≡ true →
      f e ≡ true → i ≡ j
  new_by h none i j c e k l jc je fc fe = grind arith

  pub one_changed : (old : Connection) → HoldsOfOne f cs → slice_get cs p ≡ Some old →
      (new.is_judged ≡ true → f new ≡ true → (old.is_judged ≡ true) × (f old ≡ true)) → HoldsOfOne f (set cs p new)
  one_changed old h at was i j c e x y = changed_by old h at was i j c e (after_set cs p i new c x) (after_set cs p j new e y)

  pub one_put : HoldsOfOne f cs → ((i : ℕ) (c : Connection) → slice_get cs i ≡ Some c → c.is_judged ≡ true → f c ≡ true →
      new.is_judged ≡ true → f new ≡ true → ⊥) → HoldsOfOne f (set cs p new)
  one_put h none i j c e x y = new_by h none i j c e (after_set cs p i new c x) (after_set cs p j new e y)

pub one_added : (f : Connection → Bool) (cs : List Connection) (new : Connection) → HoldsOfOne f cs →
    ((i : ℕ) (c : Connection) → slice_get cs i ≡ Some c → c.is_judged ≡ true → f c ≡ true → new.is_judged ≡ true → f new ≡ true → ⊥) →
    HoldsOfOne f (cs ++ new ∷ [])
one_added f cs new h none i j c e x y = search (arith, new_by, after_add)

pub one_mapped : (f k : Connection → Bool) (g : Connection → Connection) (cs : List Connection) → HoldsOfOne f cs →
    ((i : ℕ) (c : Connection) → slice_get cs i ≡ Some c → (g c).is_judged ≡ true → k (g c) ≡ true → (c.is_judged ≡ true) × (f c ≡ true)) →
    HoldsOfOne k (map g cs)
one_mapped f k g cs h was i j c e x y jc je fc fe =
    let (c0, at, is) = after_map g cs i c x in
    let (e0, there, so) = after_map g cs j e y in
    let (j0, f0) = was i c0 at (ap (λ (z : Connection). z.is_judged) (sym is) ∙ jc) (ap k (sym is) ∙ fc) in
    let (j1, f1) = was j e0 there (ap (λ (z : Connection). z.is_judged) (sym so) ∙ je) (ap k (sym so) ∙ fe) in
    h i j c0 e0 at there j0 j1 f0 f1
