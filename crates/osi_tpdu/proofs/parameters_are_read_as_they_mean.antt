-- The parameters of a CR or CC: reading them gives what the items mean, and what the items mean is read.
use Rattle.osi_tpdu.proofs.Vocabulary.{option_to_list, is_some, flat_map, ltb-false, leb-true, le-leb, le-ltb, eqb-true, eq-eqb, ne_eqb}
use Rattle.osi_tpdu.proofs.Vocabulary.{and_parts, not-false, cases_eq, append-nil, take_at, drop_at, length-append, take-append-drop}
use Rattle.osi_tpdu.proofs.Vocabulary.{length-take, length-drop, map-append, IsOctets, octets_take, octets_drop, TpduFault}
use Rattle.osi_tpdu.proofs.Vocabulary.{BadParameterLength, Parameter, Size, Calling, Called, Additional, Alternative, code_of, Parameters}
use Rattle.osi_tpdu.proofs.Vocabulary.{AreParameters, Item, item_octets, values_of, single, Means, parameter_at, no_parameters, with_size}
use Rattle.osi_tpdu.proofs.Vocabulary.{with_calling, with_called, with_additional, with_alternative, with_parameter, parameters_at}
use Rattle.osi_tpdu.proofs.Vocabulary.{known_at, skipped_at, all_skipped_at, ◌≡◌, ℕ, zero, suc, ◌+◌, ◌<◌, ◌≤◌, true, false, eqb, ltb, List}
use Rattle.osi_tpdu.proofs.Vocabulary.{[], ◌∷◌, ◌++◌, length, get_or, take, drop, Option, Some, None, Result, Ok, refl, sym, ap, subst, ◌∙◌}
use Rattle.osi_tpdu.proofs.Vocabulary.{append_assoc, arith, inl, inr, ◌⊎◌, filter-append}
use Rattle.osi_tpdu.proofs.the_steps_of_reading.{bind_ok, unless_ok, when_ok, chosen, ok_is, one_long}

-- ---- what items add to a slot

-- the octets of a parameter's value, if it is there
abbrev pub slot : Parameter → Parameters → Option (List ℕ)
slot Size p = single p.size
slot Calling p = p.calling
slot Called p = p.called
slot Additional p = single p.additional
slot Alternative p = p.alternative

abbrev Gains : ℕ → Option (List ℕ) → List Item → Option (List ℕ) → Type 0
Gains code old items new = option_to_list old ++ values_of code items ≡ option_to_list new

-- the items that follow after those that gave p make it m
abbrev pub Adds : Parameters → List Item → Parameters → Type 0
Adds p items m = (k : Parameter) → Gains (code_of k) (slot k p) items (slot k m)

pub values_of-append : (code : ℕ) (xs ys : List Item) → values_of code (xs ++ ys) ≡ values_of code xs ++ values_of code ys
values_of-append code xs ys = grind (arith, filter-append, map-append)

pub Adds-then : (a b c : Parameters) (xs ys : List Item) → Adds a xs b → Adds b ys c → Adds a (xs ++ ys) c
Adds-then a b c xs ys p q k = grind (arith, values_of-append, append_assoc)

pub Adds-none : (p : Parameters) → Adds p [] p
Adds-none p k = append-nil (option_to_list (slot k p))

abbrev item : ℕ → List ℕ → Item
item code value = record { code = code; value = value }

is_none : {A : Type 0} (o : Option A) → is_some o ≡ false → o ≡ None
is_none o e = grind arith

-- ---- one parameter that was read

abbrev Adding : ℕ → List ℕ → Parameters → Parameters → Type 0
Adding code value p m = Adds p (item code value ∷ []) m × AreParameters m

size_adds : (n : ℕ) (value : List ℕ) (p : Parameters) → value ≡ n ∷ [] → p.size ≡ None →
    Adds p (item 0xC0 value ∷ []) (record p { size = Some n })
size_adds n value p one none k = grind arith

additional_adds : (n : ℕ) (value : List ℕ) (p : Parameters) → value ≡ n ∷ [] → p.additional ≡ None →
    Adds p (item 0xC6 value ∷ []) (record p { additional = Some n })
additional_adds n value p one none k = grind arith

-- what the reader makes of the value of each
known_adds : (k : Parameter) (at : ℕ) (value : List ℕ) (p m : Parameters) → AreParameters p → IsOctets value →
    with_parameter at (code_of k) value p ≡ Ok m → Adding (code_of k) value p m
unfolding with_parameter with_size with_calling with_called with_additional with_alternative
known_adds Size at value p m fits octets e =
    grind (arith, get_or, unless_ok, when_ok, and_parts, ok_is, size_adds, one_long, eqb-true, not-false, is_none, leb-true)
known_adds Calling at value p m fits octets e = search (arith, unless_ok, ok_is, is_none, ltb-false)
known_adds Called at value p m fits octets e = search (arith, unless_ok, ok_is, is_none, ltb-false)
known_adds Additional at value p m fits octets e =
    grind (arith, get_or, unless_ok, ok_is, additional_adds, one_long, eqb-true, not-false, is_none)
known_adds Alternative at value p m fits octets e = grind (arith, unless_ok, ok_is, is_none)

-- a code that is not in the table is none of these
pub other_code : (code : ℕ) → eqb code 0xC0 ≡ false → eqb code 0xC1 ≡ false → eqb code 0xC2 ≡ false → eqb code 0xC6 ≡ false →
    eqb code 0xC7 ≡ false → (k : Parameter) → eqb code (code_of k) ≡ false
other_code code a b c d e k = grind arith

pub unless_equal : (P : ℕ → Type 0) (a b : ℕ) → P b → (eqb a b ≡ false → P a) → P a
unless_equal P a b known other = elim (cases_eq a b) [
  | inl same ↦ subst P (sym same) known
  | inr differs ↦ other (ne_eqb a b differs)
]

-- a code is that of a parameter, or of none
pub by_code : (P : ℕ → Type 0) (code : ℕ) → ((k : Parameter) → P (code_of k)) →
    (((k : Parameter) → eqb code (code_of k) ≡ false) → P code) → P code
by_code P code known other =
    unless_equal P code 0xC0 (known Size) (λ s.
    unless_equal P code 0xC1 (known Calling) (λ t.
    unless_equal P code 0xC2 (known Called) (λ u.
    unless_equal P code 0xC6 (known Additional) (λ v.
    unless_equal P code 0xC7 (known Alternative) (λ w. other (other_code code s t u v w))))))

-- a parameter of another code adds nothing
pub passed_over : (at code : ℕ) (value : List ℕ) (p : Parameters) → ((k : Parameter) → eqb code (code_of k) ≡ false) →
    with_parameter at code value p ≡ Ok p
unfolding with_parameter
passed_over at code value p other = rw (other Size, other Calling, other Called, other Additional, other Alternative) refl

pub with_found : (at code : ℕ) (value : List ℕ) (p m : Parameters) → AreParameters p → IsOctets value →
    with_parameter at code value p ≡ Ok m → Adding code value p m
with_found at code value p m fits octets =
    by_code (λ c. with_parameter at c value p ≡ Ok m → Adding c value p m) code (λ k. known_adds k at value p m fits octets)
    (λ other e. grind (arith, ok_is p m (sym (passed_over at code value p other) ∙ e), other))

-- ---- all parameters that were read

abbrev ok : Parameters → Result Parameters TpduFault
ok p = Ok p

abbrev Piece : Type 0
Piece = ℕ × List ℕ × List ℕ

pub parameter_found : (at : ℕ) (s : List ℕ) (x : Piece) → IsOctets s → parameter_at at s ≡ Ok x
    → (s ≡ item_octets (item x.0 x.1) ++ x.2) × IsOctets x.1 × IsOctets x.2 × (length x.2 < length s)
unfolding parameter_at
parameter_found at s x octets e =
    let n = get_or s 1 0 in
    let made : Piece = (get_or s 0 0, take n (drop 2 s), drop n (drop 2 s)) in
    let a = unless_ok (ltb (length s) (2 + n)) (BadParameterLength at) (Ok made) x e in
    let long : 2 + n ≤ length s = ltb-false _ _ a.0 in
    let len : length (take n (drop 2 s)) ≡ n = omega (arith, length-take n (drop 2 s), length-drop 2 s) in
    grind (
      arith,
      take-append-drop n (drop 2 s),
      ok_is made x a.1,
      octets_take n (drop 2 s) (octets_drop 2 s octets),
      octets_drop 2 s octets,
      octets_drop n (drop 2 s) (octets_drop 2 s octets),
      length-drop n (drop 2 s),
      length-drop 2 s,
    )

-- what the octets hold
pub record Found (p : Parameters) (s : List ℕ) (m : Parameters) : Type 0 where
  pub items : List Item
  pub spelled : s ≡ flat_map item_octets items
  pub adds : Adds p items m
  pub fits : AreParameters m

parameters_found : (n at : ℕ) (p : Parameters) (s : List ℕ) (m : Parameters) → length s ≤ n → IsOctets s → AreParameters p →
    parameters_at n at p s ≡ Ok m → Found p s m
unfolding parameters_at
parameters_found n at p [] m le octets fits e = grind (arith, ok_is)
parameters_found zero at p (o ∷ s) m le octets fits e = absurd (omega arith)
parameters_found (suc n) at p (o ∷ s) m le octets fits e =
    let a = bind_ok (parameter_at at (o ∷ s)) _ m e in
    let b = bind_ok (with_parameter at a.0.0 a.0.1 p) _ m a.2 in
    let one = parameter_found at (o ∷ s) a.0 octets a.1 in
    let added = with_found at a.0.0 a.0.1 p b.0 fits one.1 b.1 in
    let rest = parameters_found n (at + (2 + length a.0.1)) b.0 a.0.2 m (omega (arith, one.3)) one.2 added.1 b.2 in
    let first = item a.0.0 a.0.1 in
    record {
      items = first ∷ rest.items;
      spelled = grind arith;
      adds = Adds-then p b.0 m (first ∷ []) rest.items added.0 rest.adds;
      fits = rest.fits;
    }

-- with no parameter before, they are what the items mean
pub known_found : (at : ℕ) (s : List ℕ) (m : Parameters) → IsOctets s → known_at at s ≡ Ok m
    → (items : List Item) × (s ≡ flat_map item_octets items) × Means m items × AreParameters m
known_found at s m octets e =
    let none : AreParameters no_parameters = record { size = tt; calling = tt; called = tt; additional = tt; alternative = tt } in
    let f = parameters_found (length s) at no_parameters s m (omega arith) octets none e in (
      f.items,
      f.spelled,
      grind (arith, f.adds Size, f.adds Calling, f.adds Called, f.adds Additional, f.adds Alternative),
      f.fits,
    )

skipped_found_with : (n at : ℕ) (s : List ℕ) → length s ≤ n → IsOctets s → skipped_at n at s ≡ Ok tt →
    (items : List Item) × (s ≡ flat_map item_octets items)
unfolding skipped_at
skipped_found_with n at [] le octets e = ([], refl)
skipped_found_with zero at (o ∷ s) le octets e = absurd (omega arith)
skipped_found_with (suc n) at (o ∷ s) le octets e =
    let a = bind_ok (parameter_at at (o ∷ s)) _ tt e in
    let one = parameter_found at (o ∷ s) a.0 octets a.1 in
    let rest = skipped_found_with n (at + (2 + length a.0.1)) a.0.2 (omega (arith, one.3)) one.2 a.2 in
    let first = item a.0.0 a.0.1 in
    (first ∷ rest.0, one.0 ∙ ap (λ (t : List ℕ). item_octets first ++ t) rest.1)

pub skipped_found : (at : ℕ) (s : List ℕ) → IsOctets s → all_skipped_at at s ≡ Ok tt →
    (items : List Item) × (s ≡ flat_map item_octets items)
skipped_found at s octets e = skipped_found_with (length s) at s (omega arith) octets e

-- ---- items are read

pub parameter_again : (at : ℕ) (i : Item) (rest : List ℕ) → parameter_at at (item_octets i ++ rest) ≡ Ok (i.code, i.value, rest)
unfolding parameter_at
parameter_again at i rest = grind (arith, le-ltb, length-append, take_at, drop_at)

-- the value of the first item with a code is the one value of its slot
first_value : (o new : Option (List ℕ)) (v : List ℕ) (vs : List (List ℕ)) → option_to_list o ++ (v ∷ vs) ≡ option_to_list new →
    (o ≡ None) × (new ≡ Some v) × (vs ≡ [])
first_value o new v vs e = grind arith

single_none : (o : Option ℕ) → single o ≡ None → o ≡ None
single_none o e = grind arith

single_some : (o : Option ℕ) (v : List ℕ) → single o ≡ Some v → (n : ℕ) × (o ≡ Some n) × (v ≡ n ∷ [])
single_some o v e = grind arith

Gains-same : (code : ℕ) (o new : Option (List ℕ)) → Gains code o [] new → o ≡ new
Gains-same code o new e = grind arith

single-injective : (a b : Option ℕ) → single a ≡ single b → a ≡ b
single-injective a b e = grind arith

same_parameters : (p m : Parameters) → Adds p [] m → p ≡ m
same_parameters p m a =
    let same = λ (k : Parameter). Gains-same (code_of k) (slot k p) (slot k m) (a k) in
    let size = single-injective p.size m.size (same Size) in
    let additional = single-injective p.additional m.additional (same Additional) in
    λ i. record {
      size = size i;
      calling = same Calling i;
      called = same Called i;
      additional = additional i;
      alternative = same Alternative i;
    }

-- items after one with another code
Gains-past : (code : ℕ) (i : Item) (items : List Item) (o new : Option (List ℕ)) → eqb i.code code ≡ false → Gains code o (i ∷ items) new →
    Gains code o items new
Gains-past code i items o new ne e = rw ne at e

-- the first item is read, and the others are still to be added
pub record TakesItem (at : ℕ) (i : Item) (items : List Item) (p m : Parameters) : Type 0 where
  pub more : Parameters
  pub read : with_parameter at i.code i.value p ≡ Ok more
  pub adds : Adds more items m

size_read : (at n : ℕ) (value : List ℕ) (p : Parameters) → value ≡ n ∷ [] → p.size ≡ None → (7 ≤ n) × (n ≤ 13) →
    with_parameter at 0xC0 value p ≡ Ok (record p { size = Some n })
unfolding with_parameter with_size
size_read at n value p one none bounds = rw (one, none, le-leb 7 n bounds.0, le-leb n 13 bounds.1) refl

additional_read : (at n : ℕ) (value : List ℕ) (p : Parameters) → value ≡ n ∷ [] → p.additional ≡ None →
    with_parameter at 0xC6 value p ≡ Ok (record p { additional = Some n })
unfolding with_parameter with_additional
additional_read at n value p one none = rw (one, none) refl

known_taken : (k : Parameter) (at : ℕ) (value : List ℕ) (items : List Item) (p m : Parameters) → AreParameters m →
    Adds p (item (code_of k) value ∷ items) m → TakesItem at (item (code_of k) value) items p m
unfolding with_parameter with_calling with_called with_alternative
known_taken Size at value items p m fits a =
    let f = first_value (single p.size) (single m.size) value (values_of 0xC0 items) (a Size) in
    let one = single_some m.size value f.1 in
    let none = single_none p.size f.0 in
    grind (arith, size_read at one.0 value p one.2 none (grind arith))
known_taken Calling at value items p m fits a =
    let f = first_value p.calling m.calling value (values_of 0xC1 items) (a Calling) in
    record {
      more = record p { calling = Some value };
      read = rw (le-ltb 32 (length value) (grind arith), f.0) refl;
      adds = grind arith;
    }
known_taken Called at value items p m fits a =
    let f = first_value p.called m.called value (values_of 0xC2 items) (a Called) in
    record {
      more = record p { called = Some value };
      read = rw (le-ltb 32 (length value) (grind arith), f.0) refl;
      adds = grind arith;
    }
known_taken Additional at value items p m fits a =
    let f = first_value (single p.additional) (single m.additional) value (values_of 0xC6 items) (a Additional) in
    let one = single_some m.additional value f.1 in
    let none = single_none p.additional f.0 in
    grind (arith, additional_read at one.0 value p one.2 none)
known_taken Alternative at value items p m fits a =
    let f = first_value p.alternative m.alternative value (values_of 0xC7 items) (a Alternative) in
    record {
      more = record p { alternative = Some value };
      read = rw f.0 refl;
      adds = grind arith;
    }

abbrev Taken : ℕ → ℕ → List ℕ → List Item → Parameters → Parameters → Type 0
Taken at code value items p m = Adds p (item code value ∷ items) m → TakesItem at (item code value) items p m

taken : (at code : ℕ) (value : List ℕ) (items : List Item) (p m : Parameters) → AreParameters m → Taken at code value items p m
taken at code value items p m fits =
    by_code (λ c. Taken at c value items p m) code (λ k. known_taken k at value items p m fits)
    (λ other a. record {
      more = p;
      read = passed_over at code value p other;
      adds = λ k. Gains-past (code_of k) (item code value) items (slot k p) (slot k m) (other k) (a k);
    })

parameters_only : (n at : ℕ) (p : Parameters) (items : List Item) (m : Parameters) → length (flat_map item_octets items) ≤ n →
    AreParameters m → Adds p items m → parameters_at n at p (flat_map item_octets items) ≡ Ok m
unfolding parameters_at
parameters_only n at p [] m le fits a = ap (λ (q : Parameters). ok q) (same_parameters p m a)
parameters_only zero at p (i ∷ items) m le fits a = absurd (omega arith)
parameters_only (suc n) at p (i ∷ items) m le fits a =
    let rest = flat_map item_octets items in
    let t = taken at i.code i.value items p m fits a in
    let shorter : length rest ≤ n = omega (arith, length-append i.value rest) in
    let others = parameters_only n (at + (2 + length i.value)) t.more items m shorter fits t.adds in
    rw (parameter_again at i rest, t.read) others

-- once items were read, their meaning is known
pub known_only : (at : ℕ) (items : List Item) (m : Parameters) → AreParameters m → Means m items →
    known_at at (flat_map item_octets items) ≡ Ok m
known_only at items m fits means = grind (arith, parameters_only)

skipped_only_with : (n at : ℕ) (items : List Item) → length (flat_map item_octets items) ≤ n →
    skipped_at n at (flat_map item_octets items) ≡ Ok tt
unfolding skipped_at
skipped_only_with n at [] le = refl
skipped_only_with zero at (i ∷ items) le = absurd (omega arith)
skipped_only_with (suc n) at (i ∷ items) le =
    let rest = flat_map item_octets items in
    let shorter : length rest ≤ n = omega (arith, length-append i.value rest) in
    rw (parameter_again at i rest) (skipped_only_with n (at + (2 + length i.value)) items shorter)

pub skipped_only : (at : ℕ) (items : List Item) → all_skipped_at at (flat_map item_octets items) ≡ Ok tt
skipped_only at items = skipped_only_with (length (flat_map item_octets items)) at items (omega arith)
