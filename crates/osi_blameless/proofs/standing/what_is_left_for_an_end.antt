-- The parts of TSDUs that are left over for an end at one of its connections: all that are in flight, up to the first DR for the
-- connection, and some of those after it. For a judge joins no DT that its sender sends after its DR.
-- For all connections of an end and a judge, after breaks of the other side too.
use Rattle.osi_blameless.proofs.Vocabulary.{[], ap, append_assoc, Bool, false, inl, inr, List, refl, Some, sym, true, ℕ, ◌++◌, ◌==◌, ◌∙◌}
use Rattle.osi_blameless.proofs.Vocabulary.{◌∷◌, ◌≡◌, ◌||◌, ◌⊎◌, eq-eqb, append-nil, data2, Value, unit_parts, Part, parts_of, picked_first}
use Rattle.osi_blameless.proofs.Vocabulary.{picked_join, picked_rest, arith, is_dr, unequal}
use Rattle.osi_blameless.proofs.standing.what_is_in_flight_to_an_end.{in_flight, in_flight_more}
use Rattle.osi_blameless.proofs.standing.what_stands_of_a_connection.{Known, is_for, waiting_for}

-- ---- what is left over

-- a DR for the connection with this reference is among them
abbrev pub has_dr : ℕ → List Value → Bool
has_dr r [] = false
has_dr r (v ∷ vs) = is_dr r v || has_dr r vs

abbrev pub Either : Bool → Type 0 → Type 0 → Type 0
Either true A B = A
Either false A B = B

-- some of the parts of these units, in order
abbrev pub AreSome : ℕ → List Value → List Part → Type 0
AreSome r [] later = later ≡ []
AreSome r (v ∷ vs) later = ((rest : List Part) × (later ≡ in_flight r (v ∷ []) ++ rest) × AreSome r vs rest) ⊎ AreSome r vs later

-- all of them up to the first DR, and then some
abbrev pub AreLeft : ℕ → List Value → List Part → Type 0
AreLeft r [] later = later ≡ []
AreLeft r (v ∷ vs) later =
    (rest : List Part) × (later ≡ in_flight r (v ∷ []) ++ rest) × Either (is_dr r v) (AreSome r vs rest) (AreLeft r vs rest)

-- As long as the end has asked for the connection, or has it open, so much is left over of its parts.
abbrev pub known_left : (ℕ → Bool) → List Value → Known
known_left is_live coming r later = is_live r ≡ true → AreLeft r coming later

-- ---- either

either_both : (b : Bool) (A B : Type 0) → A → B → Either b A B
either_both b A B x y = grind arith

either_to : (b : Bool) (A B C : Type 0) → (A → C) → (B → C) → Either b A B → C
either_to b A B C f g h = grind arith

either_then : (b : Bool) (A B C D : Type 0) → (A → C) → (B → D) → Either b A B → Either b C D
either_then b A B C D f g h = grind arith

either_or : (b k : Bool) (A B C D : Type 0) → (b || k) ≡ true → (A → C) → (k ≡ true → B → D) → Either b A B → Either b C D
either_or b k A B C D e f g h = grind arith

or_second : (b k : Bool) → (b || k) ≡ false → k ≡ false
or_second b k e = grind arith

-- ---- one unit more

module _ (r : ℕ) (v : Value) where
  abbrev f : List Part
  f = in_flight r (v ∷ [])

  -- it is joined
  some_more : (xs : List Value) (later : List Part) → AreSome r xs later → AreSome r (xs ++ v ∷ []) (later ++ f)
  some_more [] later h = inl ([], ap (λ (l : List Part). l ++ f) h ∙ sym (append-nil f), refl)
  some_more (x ∷ xs) later (inl (rest, is, more)) = inl (rest ++ f, grind (arith, append_assoc, in_flight), some_more xs rest more)
  some_more (x ∷ xs) later (inr more) = inr (some_more xs later more)

  pub left_more : (xs : List Value) (later : List Part) → AreLeft r xs later → AreLeft r (xs ++ v ∷ []) (later ++ f)
  left_more [] later h = grind (arith, append-nil, either_both, is_dr)
  left_more (x ∷ xs) later (rest, is, more) = (
    rest ++ f,
    grind (arith, append_assoc, in_flight),
    either_then (is_dr r x) (AreSome r xs rest) (AreLeft r xs rest) (AreSome r (xs ++ v ∷ []) (rest ++ f))
        (AreLeft r (xs ++ v ∷ []) (rest ++ f)) (λ h. some_more xs rest h) (λ h. left_more xs rest h) more,
  )

  -- or it is not, after a DR
  some_less : (xs : List Value) (later : List Part) → AreSome r xs later → AreSome r (xs ++ v ∷ []) later
  some_less [] later h = inr h
  some_less (x ∷ xs) later (inl (rest, is, more)) = inl (rest, is, some_less xs rest more)
  some_less (x ∷ xs) later (inr more) = inr (some_less xs later more)

  pub left_less : (xs : List Value) (later : List Part) → has_dr r xs ≡ true → AreLeft r xs later → AreLeft r (xs ++ v ∷ []) later
  left_less [] later some h = absurd (cc)
  left_less (x ∷ xs) later some (rest, is, more) = (
    rest,
    is,
    either_or (is_dr r x) (has_dr r xs) (AreSome r xs rest) (AreLeft r xs rest) (AreSome r (xs ++ v ∷ []) rest)
        (AreLeft r (xs ++ v ∷ []) rest) some (λ h. some_less xs rest h) (λ e h. left_less xs rest e h) more,
  )

  pub dr_last : (xs : List Value) → is_dr r v ≡ true → has_dr r (xs ++ v ∷ []) ≡ true
  dr_last [] e = ap (λ (b : Bool). b || false) e
  dr_last (x ∷ xs) e = by (is_dr r x) (dr_last xs e)
    where
      by : (b : Bool) → has_dr r (xs ++ v ∷ []) ≡ true → (b || has_dr r (xs ++ v ∷ [])) ≡ true
      by true h = refl
      by false h = h

pub dr_more : (r : ℕ) (xs ys : List Value) → has_dr r xs ≡ true → has_dr r (xs ++ ys) ≡ true
dr_more r [] ys e = absurd (cc)
dr_more r (x ∷ xs) ys e = by (is_dr r x) e (λ h. dr_more r xs ys h)
  where
    by : (b : Bool) → (b || has_dr r xs) ≡ true → (has_dr r xs ≡ true → has_dr r (xs ++ ys) ≡ true) → (b || has_dr r (xs ++ ys)) ≡ true
    by true e rest = refl
    by false e rest = rest e

-- the DR is among the others
pub dr_later : (r : ℕ) (xs ys : List Value) → has_dr r xs ≡ false → has_dr r (xs ++ ys) ≡ true → has_dr r ys ≡ true
dr_later r [] ys none e = e
dr_later r (x ∷ xs) ys none e = by (is_dr r x) none e (λ h k. dr_later r xs ys h k)
  where
    by : (b : Bool) → (b || has_dr r xs) ≡ false → (b || has_dr r (xs ++ ys)) ≡ true →
        (has_dr r xs ≡ false → has_dr r (xs ++ ys) ≡ true → has_dr r ys ≡ true) → has_dr r ys ≡ true
    by true none e rest = absurd (cc)
    by false none e rest = rest none e

pub dr_none : (r : ℕ) (xs ys : List Value) → has_dr r xs ≡ false → has_dr r ys ≡ false → has_dr r (xs ++ ys) ≡ false
dr_none r [] ys a b = b
dr_none r (x ∷ xs) ys a b = grind (arith, is_dr, or_second, dr_none r xs ys (or_second (is_dr r x) (has_dr r xs) a) b)

-- ---- the first of it

-- of a front without a DR all is left over, and then what is left over of the others
pub left_front : (r : ℕ) (xs ys : List Value) (later : List Part) → has_dr r xs ≡ false → AreLeft r (xs ++ ys) later →
    (more : List Part) × (later ≡ in_flight r xs ++ more) × AreLeft r ys more
left_front r [] ys later none h = (later, refl, h)
left_front r (x ∷ xs) ys later none (rest, is, more) =
    let (last, same, left) = left_front r xs ys rest (or_second (is_dr r x) (has_dr r xs) none)
    (grind arith) in grind (arith, in_flight, append_assoc, in_flight_more)

-- ---- nothing is for it

first_none : (r : ℕ) (x : Value) (xs : List Value) → waiting_for (Some r) (x ∷ xs) ≡ [] →
    (waiting_for (Some r) (x ∷ []) ≡ []) × (waiting_for (Some r) xs ≡ [])
first_none r x xs none = grind (arith, waiting_for, picked_join, is_for)

some_none : (r : ℕ) (xs : List Value) (later : List Part) → waiting_for (Some r) xs ≡ [] → AreSome r xs later → later ≡ []
some_none r [] later none h = h
some_none r (x ∷ xs) later none (inl (rest, is, more)) =
    let both = first_none r x xs none in is ∙ (λ i. parts_of (both.0 i) ++ some_none r xs rest both.1 more i)
some_none r (x ∷ xs) later none (inr more) = some_none r xs later (first_none r x xs none).1 more

pub left_none : (r : ℕ) (xs : List Value) (later : List Part) → waiting_for (Some r) xs ≡ [] → AreLeft r xs later → later ≡ []
left_none r [] later none h = h
left_none r (x ∷ xs) later none (rest, is, more) =
    let both = first_none r x xs none in
    let last : rest ≡ [] = either_to (is_dr r x) (AreSome r xs rest) (AreLeft r xs rest) (rest ≡ []) (λ h. some_none r xs rest both.1 h)
    (λ h. left_none r xs rest both.1 h) more in
    is ∙ (λ i. parts_of (both.0 i) ++ last i)

some_empty : (r : ℕ) (xs : List Value) → AreSome r xs []
some_empty r [] = refl
some_empty r (x ∷ xs) = inr (some_empty r xs)

pub left_empty : (r : ℕ) (xs : List Value) → waiting_for (Some r) xs ≡ [] → AreLeft r xs []
left_empty r [] none = refl
left_empty r (x ∷ xs) none =
    let both = first_none r x xs none in grind (arith, either_both, is_dr, some_empty, left_empty r xs both.1)

-- ---- a unit of the other side passes

-- a DT for this connection
pub left_grows : (is_live : ℕ → Bool) (coming : List Value) (n number : ℕ) (end : Bool) (user : List ℕ) (later : List Part) →
    known_left is_live coming n later → known_left is_live (coming ++ data2 n number end user ∷ []) n (later ++ (end, user) ∷ [])
left_grows is_live coming n number end user later sure live = grind (arith, picked_first, is_for, eq-eqb, left_more)

-- one of which no part is for it
pub left_still : (is_live : ℕ → Bool) (coming : List Value) (v : Value) (r : ℕ) (later : List Part) → in_flight r (v ∷ []) ≡ [] →
    known_left is_live coming r later → known_left is_live (coming ++ v ∷ []) r later
left_still is_live coming v r later none sure live = grind (arith, append-nil later, left_more r v coming later (sure live))

-- it is for another connection
pub left_stays : (is_live : ℕ → Bool) (coming : List Value) (n number : ℕ) (end : Bool) (user : List ℕ) (r : ℕ) (later : List Part) →
    (n ≡ r → ⊥) → known_left is_live coming r later → known_left is_live (coming ++ data2 n number end user ∷ []) r later
left_stays is_live coming n number end user r later apart =
    left_still is_live coming (data2 n number end user) r later
    (ap parts_of (picked_rest (is_for (Some r)) (data2 n number end user) [] (unequal n r (n == r) refl apart)))

-- it adds to no TSDU
pub left_same : (is_live : ℕ → Bool) (coming : List Value) (v : Value) (r : ℕ) (later : List Part) → unit_parts v ≡ [] →
    known_left is_live coming r later → known_left is_live (coming ++ v ∷ []) r later
left_same is_live coming v r later none = left_still is_live coming v r later (by (is_for (Some r) v) refl)
  where
    by : (b : Bool) → is_for (Some r) v ≡ b → in_flight r (v ∷ []) ≡ []
    by true e = ap parts_of (picked_first (is_for (Some r)) v [] e) ∙ ap (λ (l : List Part). l ++ []) none
    by false e = ap parts_of (picked_rest (is_for (Some r)) v [] e)

-- it comes after a DR
pub left_after : (is_live : ℕ → Bool) (coming : List Value) (v : Value) (r : ℕ) (later : List Part) →
    (is_live r ≡ true → has_dr r coming ≡ true) → known_left is_live coming r later → known_left is_live (coming ++ v ∷ []) r later
left_after is_live coming v r later some sure live = left_less r v coming later (some live) (sure live)
