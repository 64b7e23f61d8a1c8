-- The fault that the reader of parameters returns is their first one.
use Rattle.osi_tpdu.proofs.Vocabulary.{option_to_list, is_some, flat_map, false≢true, ltb-true, ltb-false, leb-true, le-leb, eqb-true}
use Rattle.osi_tpdu.proofs.Vocabulary.{eqb-false, eq-eqb, and_parts, not-false, append-nil, length-append, IsOctets, TpduFault}
use Rattle.osi_tpdu.proofs.Vocabulary.{BadParameterLength, BadParameterValue, DuplicateParameter, Parameters, AreParameters, Item}
use Rattle.osi_tpdu.proofs.Vocabulary.{item_octets, values_of, single, ◌>>=◌, parameter_at, no_parameters, with_size, with_calling}
use Rattle.osi_tpdu.proofs.Vocabulary.{with_called, with_additional, with_alternative, with_parameter, parameters_at, known_at, skipped_at}
use Rattle.osi_tpdu.proofs.Vocabulary.{all_skipped_at, Kind, LooksAtParameters, Parameter, Size, Calling, Called, Additional, Alternative}
use Rattle.osi_tpdu.proofs.Vocabulary.{code_of, MayBeLong, MayHold, BeginsWith, HasBadLength, HasBadValue, HasItemFault, HasParameterFault}
use Rattle.osi_tpdu.proofs.Vocabulary.{place_of, IsFirst, ◌≡◌, ℕ, zero, suc, ◌+◌, ◌≤◌, Bool, true, false, cond, eqb, ltb, leb, not, ◌&&◌}
use Rattle.osi_tpdu.proofs.Vocabulary.{List, [], ◌∷◌, ◌++◌, length, get_or, Option, Some, None, Result, Ok, Err, refl, sym, ap, subst, ◌∙◌}
use Rattle.osi_tpdu.proofs.Vocabulary.{append_assoc, arith, inl, inr, ◌⊎◌, add-zero}
use Rattle.osi_tpdu.proofs.the_steps_of_reading.{chosen, ok_is}
use Rattle.osi_tpdu.proofs.parameters_are_read_as_they_mean.{Adds, by_code, passed_over, Adds-then, Adds-none, with_found}
use Rattle.osi_tpdu.proofs.parameters_are_read_as_they_mean.{parameter_found, parameter_again}

-- ---- a result is the first fault, or there is none

abbrev pub Judges : {A : Type 0} → (TpduFault → Type 0) → Result A TpduFault → Type 0
Judges Has (Ok x) = (f : TpduFault) → Has f → ⊥
Judges Has (Err f) = IsFirst Has f

pub judges_same : {A : Type 0} (P Q : TpduFault → Type 0) (r : Result A TpduFault) → ((f : TpduFault) → P f → Q f) →
    ((f : TpduFault) → Q f → P f) → Judges P r → Judges Q r
judges_same P Q r to back j = grind arith

pub judges_bind : {A B : Type 0} (P : TpduFault → Type 0) (r : Result A TpduFault) (k : A → Result B TpduFault) →
    ((f : TpduFault) → r ≡ Err f → IsFirst P f) → ((x : A) → r ≡ Ok x → Judges P (k x)) → Judges P (r >>= k)
judges_bind P r k bad good = grind arith

pub judges_map : {A B : Type 0} (P : TpduFault → Type 0) (r : Result A TpduFault) (g : A → B) → Judges P r → Judges P (r >>= λ x. Ok (g x))
judges_map P r g j = grind arith

pub judges_cond : {A : Type 0} (P : TpduFault → Type 0) (b : Bool) (x y : Result A TpduFault) → (b ≡ true → Judges P x) →
    (b ≡ false → Judges P y) → Judges P (cond b x y)
judges_cond P b x y t f = grind arith

-- ---- the item at the front

abbrev pub item : ℕ → List ℕ → Item
item code value = record { code = code; value = value }

pub record SameItem (i j : Item) (x y : List ℕ) : Type 0 where
  pub code : i.code ≡ j.code
  pub value : i.value ≡ j.value
  pub behind : x ≡ y

pub same_item : (i j : Item) (x y : List ℕ) → item_octets i ++ x ≡ item_octets j ++ y → SameItem i j x y
same_item i j x y e = grind (arith, ok_is, parameter_again 0 i x, parameter_again 0 j y)

-- a statement about the parameter at the front, for two names of the same parameter
same_front : (P : Parameter → List ℕ → Type 0) (kind : Kind) (k j : Parameter) (v w s : List ℕ) → BeginsWith kind k v s →
    BeginsWith kind j w s → P k v → P j w
same_front P kind k j v w s b c p = grind (arith, same_item (item (code_of k) v) (item (code_of j) w) b.rest c.rest (sym b.whole ∙ c.whole))

-- ---- the faults of one item

pub item_place : (kind : Kind) (at : ℕ) (before : List Item) (s : List ℕ) (f : TpduFault) → HasItemFault kind at before s f →
    place_of f ≡ at
item_place kind at before s f h = grind arith

no_length : (kind : Kind) (k : Parameter) (value s : List ℕ) → BeginsWith kind k value s → MayBeLong k (length value) →
    HasBadLength kind s → ⊥
no_length kind k value s b long h =
    elim h [
      | inl none ↦ none (item (code_of k) value) b.rest b.whole
      | inr c ↦ c.3 (same_front (λ q v. MayBeLong q (length v)) kind k c.0 value c.1 s b c.2 long)
    ]

not_bad : (kind : Kind) (k : Parameter) (value s : List ℕ) → BeginsWith kind k value s → MayHold k value → HasBadValue kind s → ⊥
not_bad kind k value s b holds h = h.3 (same_front (λ q v. MayHold q v) kind k h.0 value h.1 s b h.2 holds)

too_long : (kind : Kind) (at : ℕ) (before : List Item) (k : Parameter) (value s : List ℕ) → BeginsWith kind k value s →
    (MayBeLong k (length value) → ⊥) → IsFirst (HasItemFault kind at before s) (BadParameterLength at)
too_long kind at before k value s b long = record { there = inl (refl, inr (k, value, b, long)); first = (grind arith) }

twice : (kind : Kind) (at : ℕ) (before : List Item) (k : Parameter) (value s : List ℕ) → BeginsWith kind k value s →
    MayBeLong k (length value) → 1 ≤ length (values_of (code_of k) before)
    → IsFirst (HasItemFault kind at before s) (DuplicateParameter at)
twice kind at before k value s b long again = record {
  there = inr (inl (refl, (k, value, b, again)));
  first = λ f h. elim h [
    | inl a ↦ absurd (no_length kind k value s b long a.1)
    | inr a ↦ grind arith
  ];
}

bad_value : (kind : Kind) (at : ℕ) (before : List Item) (k : Parameter) (value s : List ℕ) → BeginsWith kind k value s →
    MayBeLong k (length value) → length (values_of (code_of k) before) ≡ 0
    → (MayHold k value → ⊥) → IsFirst (HasItemFault kind at before s) (BadParameterValue at)
bad_value kind at before k value s b long once bad = record {
  there = inr (inr (refl, (k, value, b, bad)));
  first = λ f h. elim h [
    | inl a ↦ absurd (no_length kind k value s b long a.1)
    | inr a ↦ grind (arith, same_front)
  ];
}

fine : (kind : Kind) (at : ℕ) (before : List Item) (k : Parameter) (value s : List ℕ) → BeginsWith kind k value s →
    MayBeLong k (length value) → length (values_of (code_of k) before) ≡ 0
    → MayHold k value → (f : TpduFault) → HasItemFault kind at before s f → ⊥
fine kind at before k value s b long once holds f h =
    elim h [
      | inl a ↦ no_length kind k value s b long a.1
      | inr a ↦ elim a [
        | inl d ↦ (grind (arith, same_front))
        | inr v ↦ not_bad kind k value s b holds v.1
      ]
    ]

-- ---- what is known of an item, one code after the other

full : {A : Type 0} (o : Option A) (xs : List A) → xs ≡ option_to_list o → is_some o ≡ true → 1 ≤ length xs
full o xs e h = grind arith

empty : {A : Type 0} (o : Option A) (xs : List A) → xs ≡ option_to_list o → is_some o ≡ false → length xs ≡ 0
empty o xs e h = grind arith

single_there : (o : Option ℕ) → is_some (single o) ≡ is_some o
single_there o = grind arith

-- its tests in their order: its length, whether it was there before, and what else is tested
tests_judged : (kind : Kind) (at : ℕ) (before : List Item) (k : Parameter) (value s : List ℕ) (o : Option (List ℕ)) (bad there : Bool)
    (r : Result Parameters TpduFault) → BeginsWith kind k value s → values_of (code_of k) before ≡ option_to_list o → is_some o ≡ there →
    (bad ≡ true → MayBeLong k (length value) → ⊥) → (bad ≡ false → MayBeLong k (length value)) →
    (MayBeLong k (length value) → length (values_of (code_of k) before) ≡ 0 → Judges (HasItemFault kind at before s) r) →
    Judges (HasItemFault kind at before s) (cond bad (Err (BadParameterLength at)) (cond there (Err (DuplicateParameter at)) r))
tests_judged kind at before k value s o bad there r b was is long short rest =
    let P : TpduFault → Type 0 = HasItemFault kind at before s in
    judges_cond P bad (Err (BadParameterLength at)) _ (λ e. too_long kind at before k value s b (long e))
    (λ e. judges_cond P there (Err (DuplicateParameter at)) r
    (λ d. twice kind at before k value s b (short e) (full o (values_of (code_of k) before) was (is ∙ d)))
    (λ d. rest (short e) (empty o (values_of (code_of k) before) was (is ∙ d))))

known_tested : (k : Parameter) (kind : Kind) (at : ℕ) (before : List Item) (value s : List ℕ) (p : Parameters) → BeginsWith kind k value s →
    Adds no_parameters before p → Judges (HasItemFault kind at before s) (with_parameter at (code_of k) value p)
unfolding with_parameter with_size with_calling with_called with_additional with_alternative
known_tested Size kind at before value s p b adds =
    let n = get_or value 0 0 in
    tests_judged kind at before Size value s (single p.size) (not (eqb (length value) 1)) (is_some p.size) _ b (adds Size)
    (single_there p.size) (λ e. grind (arith, eq-eqb, false≢true)) (λ e. grind (arith, eqb-true, not-false))
    (λ long once. judges_cond (HasItemFault kind at before s) (leb 7 n && leb n 13) (Ok (record p { size = Some n })) _
    (λ h. fine kind at before Size value s b long once (grind (arith, and_parts, leb-true)))
    (λ h. bad_value kind at before Size value s b long once (grind (arith, le-leb, false≢true))))
known_tested Calling kind at before value s p b adds =
    tests_judged kind at before Calling value s p.calling (ltb 32 (length value)) (is_some p.calling) _ b (adds Calling) refl
    (λ e. grind (arith, ltb-true)) (ltb-false 32 (length value)) (λ long once. fine kind at before Calling value s b long once tt)
known_tested Called kind at before value s p b adds =
    tests_judged kind at before Called value s p.called (ltb 32 (length value)) (is_some p.called) _ b (adds Called) refl
    (λ e. grind (arith, ltb-true)) (ltb-false 32 (length value)) (λ long once. fine kind at before Called value s b long once tt)
known_tested Additional kind at before value s p b adds =
    tests_judged kind at before Additional value s (single p.additional) (not (eqb (length value) 1)) (is_some p.additional) _ b
    (adds Additional) (single_there p.additional) (λ e. grind (arith, eq-eqb, false≢true)) (λ e. grind (arith, eqb-true, not-false))
    (λ long once. fine kind at before Additional value s b long once tt)
known_tested Alternative kind at before value s p b adds =
    tests_judged kind at before Alternative value s p.alternative false (is_some p.alternative) _ b (adds Alternative) refl
    (λ e. absurd (false≢true e)) (λ e. tt) (λ long once. fine kind at before Alternative value s b long once tt)

-- an item that is not looked at has no fault
ignored : (kind : Kind) (at code : ℕ) (before : List Item) (value rest s : List ℕ) → s ≡ item_octets (item code value) ++ rest →
    ((k : Parameter) (v : List ℕ) → BeginsWith kind k v s → ⊥)
    → (f : TpduFault) → HasItemFault kind at before s f → ⊥
ignored kind at code before value rest s whole none f h =
    elim h [
      | inl a ↦ elim a.1 [
        | inl cut ↦ cut (item code value) rest whole
        | inr c ↦ none c.0 c.1 c.2
      ]
      | inr a ↦ elim a [
        | inl d ↦ none d.1.0 d.1.1 d.1.2
        | inr v ↦ none v.1.0 v.1.1 v.1.2
      ]
    ]

with_judged : (kind : Kind) (at code : ℕ) (before : List Item) (value rest s : List ℕ) (p : Parameters) → LooksAtParameters kind →
    s ≡ item_octets (item code value) ++ rest → Adds no_parameters before p
    → Judges (HasItemFault kind at before s) (with_parameter at code value p)
with_judged kind at code before value rest s p looks whole adds =
    let P : TpduFault → Type 0 = HasItemFault kind at before s in
    by_code (λ c. s ≡ item_octets (item c value) ++ rest → Judges P (with_parameter at c value p)) code
    (λ k whole. known_tested k kind at before value s p (record { looks = looks; rest = rest; whole = whole }) adds)
    (λ other whole. subst (Judges P) (sym (passed_over at code value p other))
    (ignored kind at code before value rest s whole (grind (arith, other, same_item)))) whole

-- ---- items after others

-- the octets from here on have the fault, after these items
pub record HasLater (kind : Kind) (at : ℕ) (before : List Item) (octets : List ℕ) (fault : TpduFault) : Type 0 where
  pub items : List Item
  pub rest : List ℕ
  pub whole : octets ≡ flat_map item_octets items ++ rest
  pub some : 1 ≤ length rest
  pub bad : HasItemFault kind (at + length (flat_map item_octets items)) (before ++ items) rest fault

moved : (kind : Kind) (at to : ℕ) (before others : List Item) (s : List ℕ) (f : TpduFault) → at ≡ to → before ≡ others →
    HasItemFault kind at before s f → HasItemFault kind to others s f
moved kind at to before others s f e same h = grind arith

later : (kind : Kind) (at : ℕ) (before : List Item) (i : Item) (s t : List ℕ) (f : TpduFault) → s ≡ item_octets i ++ t →
    HasLater kind (at + (2 + length i.value)) (before ++ i ∷ []) t f → HasLater kind at before s f
later kind at before i s t f e h = record {
  items = i ∷ h.items;
  rest = h.rest;
  whole = e ∙ ap (λ (o : List ℕ). item_octets i ++ o) h.whole ∙ sym (append_assoc (item_octets i) (flat_map item_octets h.items) h.rest);
  some = h.some;
  bad = moved kind (at + (2 + length i.value) + length (flat_map item_octets h.items)) (at + length (flat_map item_octets (i ∷ h.items)))
      ((before ++ i ∷ []) ++ h.items) (before ++ i ∷ h.items) h.rest f
      (omega (arith, length-append i.value (flat_map item_octets h.items))) (append_assoc before (i ∷ []) h.items) h.bad;
}

here_or_later : (kind : Kind) (at : ℕ) (before : List Item) (i : Item) (s t : List ℕ) (f : TpduFault) (items : List Item) (rest : List ℕ) →
    s ≡ item_octets i ++ t → s ≡ flat_map item_octets items ++ rest → 1 ≤ length rest
    → HasItemFault kind (at + length (flat_map item_octets items)) (before ++ items) rest f →
    HasItemFault kind at before s f ⊎ HasLater kind (at + (2 + length i.value)) (before ++ i ∷ []) t f
here_or_later kind at before i s t f [] rest e whole some bad =
    inl (subst (λ (o : List ℕ). HasItemFault kind at before o f) (sym whole)
    (moved kind (at + 0) at (before ++ []) before rest f (add-zero at) (append-nil before) bad))
here_or_later kind at before i s t f (j ∷ items) rest e whole some bad =
    let same = same_item i j t (flat_map item_octets items ++ rest)
    (sym e ∙ whole ∙ append_assoc (item_octets j) (flat_map item_octets items) rest) in
    let lists : before ++ j ∷ items ≡ (before ++ i ∷ []) ++ items = grind (arith, append_assoc) in
    let offset : at + length (flat_map item_octets (j ∷ items)) ≡ at + (2 + length i.value) + length (flat_map item_octets items) =
    omega (arith, length-append j.value (flat_map item_octets items), ap length same.value) in
    inr (search (arith, moved))

pub later_place : (kind : Kind) (at : ℕ) (before : List Item) (s : List ℕ) (f : TpduFault) → HasLater kind at before s f → at ≤ place_of f
later_place kind at before s f h = grind (arith, item_place)

-- if the item has a fault, it is the first
item_first : (kind : Kind) (at : ℕ) (before : List Item) (i : Item) (s t : List ℕ) (f : TpduFault) → s ≡ item_octets i ++ t →
    IsFirst (HasItemFault kind at before s) f → IsFirst (HasLater kind at before s) f
item_first kind at before i s t f e h = record {
  there = grind (arith, moved, add-zero, append-nil);
  first = λ g l. elim (here_or_later kind at before i s t g l.items l.rest e l.whole l.some l.bad) [
    | inl now ↦ h.first g now
    | inr after ↦ grind (arith, item_place, later_place)
  ];
}

-- if it has none, the first comes after it
item_passed : {A : Type 0} (kind : Kind) (at : ℕ) (before : List Item) (i : Item) (s t : List ℕ) (r : Result A TpduFault) →
    s ≡ item_octets i ++ t → ((f : TpduFault) → HasItemFault kind at before s f → ⊥)
    → Judges (HasLater kind (at + (2 + length i.value)) (before ++ i ∷ []) t) r → Judges (HasLater kind at before s) r
item_passed kind at before i s t r e none =
    judges_same (HasLater kind (at + (2 + length i.value)) (before ++ i ∷ []) t) (HasLater kind at before s) r
    (λ f h. later kind at before i s t f e h)
    (λ f h. elim (here_or_later kind at before i s t f h.items h.rest e h.whole h.some h.bad) [
      | inl now ↦ absurd (none f now)
      | inr after ↦ after
    ])

parameter_bad : (at : ℕ) (s : List ℕ) (f : TpduFault) → parameter_at at s ≡ Err f → f ≡ BadParameterLength at
unfolding parameter_at
parameter_bad at s f e = grind (arith, chosen, get_or)

-- no complete item is there
cut_first : (kind : Kind) (at : ℕ) (before : List Item) (s : List ℕ) (f : TpduFault) → 1 ≤ length s → parameter_at at s ≡ Err f →
    IsFirst (HasLater kind at before s) f
cut_first kind at before s f there e = search (arith, parameter_again, parameter_bad)

nothing_later : (kind : Kind) (at : ℕ) (before : List Item) (f : TpduFault) → HasLater kind at before [] f → ⊥
nothing_later kind at before f h = omega (arith, ap length h.whole, length-append (flat_map item_octets h.items) h.rest, h.some)

-- ---- the loops

known_judged : (n at : ℕ) (kind : Kind) (before : List Item) (s : List ℕ) (p : Parameters) → LooksAtParameters kind → length s ≤ n →
    IsOctets s → AreParameters p → Adds no_parameters before p
    → Judges (HasLater kind at before s) (parameters_at n at p s)
unfolding parameters_at
known_judged n at kind before [] p looks enough octets fits adds = nothing_later kind at before
known_judged zero at kind before (o ∷ s) p looks enough octets fits adds = absurd (omega arith)
known_judged (suc n) at kind before (o ∷ s) p looks enough octets fits adds =
    let P : TpduFault → Type 0 = HasLater kind at before (o ∷ s) in
    judges_bind P (parameter_at at (o ∷ s)) _ (λ f e. cut_first kind at before (o ∷ s) f (omega arith) e)
    (λ x e.
    let one = parameter_found at (o ∷ s) x octets e in
    let i = item x.0 x.1 in
    let judged = with_judged kind at x.0 before x.1 x.2 (o ∷ s) p looks one.0 adds in
    judges_bind P (with_parameter at x.0 x.1 p) _
    (λ f bad. item_first kind at before i (o ∷ s) x.2 f one.0
    (grind arith))
    (λ more good.
    let added = with_found at x.0 x.1 p more fits one.1 good in
    let joined = Adds-then no_parameters p more before (i ∷ []) adds added.0 in
    item_passed kind at before i (o ∷ s) x.2 (parameters_at n (at + (2 + length x.1)) more x.2) one.0
    (grind arith)
    (known_judged n (at + (2 + length x.1)) kind (before ++ i ∷ []) x.2 more looks (omega (arith, one.3)) one.2 added.1 joined)))

skipped_judged : (n at : ℕ) (kind : Kind) (before : List Item) (s : List ℕ) → (LooksAtParameters kind → ⊥) → length s ≤ n → IsOctets s →
    Judges (HasLater kind at before s) (skipped_at n at s)
unfolding skipped_at
skipped_judged n at kind before [] blind enough octets = nothing_later kind at before
skipped_judged zero at kind before (o ∷ s) blind enough octets = absurd (omega arith)
skipped_judged (suc n) at kind before (o ∷ s) blind enough octets =
    let P : TpduFault → Type 0 = HasLater kind at before (o ∷ s) in
    judges_bind P (parameter_at at (o ∷ s)) _ (λ f e. cut_first kind at before (o ∷ s) f (omega arith) e)
    (λ x e.
    let one = parameter_found at (o ∷ s) x octets e in
    let i = item x.0 x.1 in
    item_passed kind at before i (o ∷ s) x.2 (skipped_at n (at + (2 + length x.1)) x.2) one.0
    (ignored kind at x.0 before x.1 x.2 (o ∷ s) one.0 (λ k v b. blind b.looks))
    (skipped_judged n (at + (2 + length x.1)) kind (before ++ i ∷ []) x.2 blind (omega (arith, one.3)) one.2))

-- ---- the parameters of a unit

from_start : {A : Type 0} (kind : Kind) (at : ℕ) (s : List ℕ) (r : Result A TpduFault) → Judges (HasLater kind at [] s) r →
    Judges (HasParameterFault kind at s) r
from_start kind at s r = grind (arith, judges_same)

pub parameters_judged : (kind : Kind) (at : ℕ) (s : List ℕ) → LooksAtParameters kind → IsOctets s →
    Judges (HasParameterFault kind at s) (known_at at s)
parameters_judged kind at s looks octets =
    let none : AreParameters no_parameters = record { size = tt; calling = tt; called = tt; additional = tt; alternative = tt } in
    from_start kind at s (known_at at s)
    (known_judged (length s) at kind [] s no_parameters looks (omega arith) octets none (Adds-none no_parameters))

pub skips_judged : (kind : Kind) (at : ℕ) (s : List ℕ) → (LooksAtParameters kind → ⊥) → IsOctets s →
    Judges (HasParameterFault kind at s) (all_skipped_at at s)
skips_judged kind at s blind octets = grind (arith, from_start, skipped_judged (length s) at kind [] s blind (omega arith) octets)

pub parameter_place : (kind : Kind) (at : ℕ) (s : List ℕ) (f : TpduFault) → HasParameterFault kind at s f → at ≤ place_of f
parameter_place kind at s f h = omega (arith, item_place kind (at + length (flat_map item_octets h.items)) h.items h.rest f h.bad)
