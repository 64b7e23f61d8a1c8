-- The written form of a unit and of a TSDU spells it.
use Rattle.std.proofs.Common.{inl, inr, ◌≡◌, ℕ, ◌<◌, Bool, true, false, cond, not, ◌&&◌, ◌||◌, List, [], ◌∷◌, ◌++◌, length, map, Option}
use Rattle.std.proofs.Common.{Some, None, refl, sym, ap, subst, ◌∙◌, ltb, arith}
use Rattle.osi_spdu.proofs.Vocabulary.{is_some, is_none, IsSome, flat_map, list_any, list_all, AllByRecursion, cases_Bool, and_parts}
use Rattle.osi_spdu.proofs.Vocabulary.{and_from, or_cases, or_parts, or_left, or_right, ltb-false, not-true, length-append, IsOctets, Code}
use Rattle.osi_spdu.proofs.Vocabulary.{Enclosure, UserData, ExtendedUserData, Kind, number_of, is_same, is_group, slot_of, every_code}
use Rattle.osi_spdu.proofs.Vocabulary.{codes_of, members_of, required_of, canonical, may_enclose, canonical_in, Known, settled, Contents}
use Rattle.osi_spdu.proofs.Vocabulary.{Units, HasLength, Part, part_octets, Sole, IsPart, Spells, only, MemberOf, MeansInGroup, GroupOf}
use Rattle.osi_spdu.proofs.Vocabulary.{ParameterOf, KnownOf, MeansInUnit, SpellsUnit, AreUnits, SpellsTsdu, among, written_code}
use Rattle.osi_spdu.proofs.Vocabulary.{member_octets, group_octets, value_octets, parameter_octets, body_octets, unit_octets, tsdu_octets}
use Rattle.osi_spdu.proofs.Vocabulary.{may_be_there, is_enclosed, is_formed, IsCanonical, IsFormedUnit, UnitFits, IsFormedTsdu, TsduFits}
use Rattle.osi_spdu.proofs.basics.options_that_are_added.{sole_one}
use Rattle.osi_spdu.proofs.basics.the_steps_of_reading.{same_true, same_refl}
use Rattle.osi_spdu.proofs.parameters.one_level_is_read.{group_form}
use Rattle.osi_spdu.proofs.parameters.each_slot_has_one_code.{every_passes, number_octet, among_found, any_weaker, owns, once, code_once}
use Rattle.osi_spdu.proofs.parameters.each_slot_has_one_code.{member_once, group_apart, members_none}

-- ---- the parts that a level writes

abbrev part_if : (Code → List ℕ → Part) → Code → Option (List ℕ) → List Part → List Part
part_if make c None parts = parts
part_if make c (Some v) parts = make c v ∷ parts

abbrev parts_of : (Code → List ℕ → Part) → Known → List Code → List Part
parts_of make known [] = []
parts_of make known (c ∷ codes) = part_if make c (known c) (parts_of make known codes)

abbrev octets_if : (Code → List ℕ → Part) → Code → Option (List ℕ) → List ℕ
octets_if make c None = []
octets_if make c (Some v) = part_octets (make c v)

parts_whole : (make : Code → List ℕ → Part) (known : Known) (codes : List Code) →
    flat_map (λ c. octets_if make c (known c)) codes ≡ flat_map part_octets (parts_of make known codes)
parts_whole make known [] = refl
parts_whole make known (c ∷ codes) = grind (arith, parts_whole make known codes)

-- what makes each part one of the level
abbrev Makes : (ℕ → List ℕ → Known → Type 0) → (Code → List ℕ → Part) → Known → List Code → Type 0
Makes means make known codes = (c : Code) (v : List ℕ) → among codes c ≡ true → known c ≡ Some v → length (part_octets (make c v)) < 65536 →
    IsPart means (make c v)

each_if : (means : ℕ → List ℕ → Known → Type 0) (make : Code → List ℕ → Part) (c : Code) (o : Option (List ℕ)) (octets : List ℕ)
    (parts : List Part)
    → ((v : List ℕ) → o ≡ Some v → length (part_octets (make c v)) < 65536 → IsPart means (make c v)) →
    length (octets_if make c o ++ octets) < 65536
    → AllByRecursion (IsPart means) parts → AllByRecursion (IsPart means) (part_if make c o parts)
each_if means make c o octets parts h fits all = grind (arith, length-append)

parts_each : (means : ℕ → List ℕ → Known → Type 0) (make : Code → List ℕ → Part) (known : Known) (codes : List Code) →
    Makes means make known codes
    → length (flat_map (λ c. octets_if make c (known c)) codes) < 65536 → AllByRecursion (IsPart means) (parts_of make known codes)
parts_each means make known [] h fits = tt
parts_each means make known (c ∷ codes) h fits =
    let rest = flat_map (λ d. octets_if make d (known d)) codes in
    let len = length-append (octets_if make c (known c)) rest in
    each_if means make c (known c) rest (parts_of make known codes)
    (λ v e l. h c v (or_left _ _ (same_refl c)) e l) fits
    (parts_each means make known codes (λ d v a e l. h d v (or_right _ _ a) e l) (omega arith))

-- the values that each part gives: those of the slots that its code owns
abbrev Shares : (Code → Code → Bool) → (Code → List ℕ → Part) → Known → Type 0
Shares owner make known = (c : Code) (v : List ℕ) (d : Code) → (make c v).gives d ≡ cond (owner c d) (known d) None

abbrev given : List Part → Code → List (Option (List ℕ))
given parts d = map (λ p. p.gives d) parts

parts_none : (owner : Code → Code → Bool) (make : Code → List ℕ → Part) (known : Known) (codes : List Code) (d : Code) →
    Shares owner make known
    → list_any (λ c. owner c d) codes ≡ false → Sole (given (parts_of make known codes) d) None
parts_none owner make known [] d g e = refl
parts_none owner make known (c ∷ codes) d g e = grind (arith, or_parts, parts_none owner make known codes d g)

pub once_tail : (b x y : Bool) → cond b (not x) y ≡ true → (b ≡ true → x ≡ false) × (b ≡ false → y ≡ true)
once_tail b x y e = grind (arith, not-true)

once_rest : (owner : Code → Code → Bool) (codes : List Code) (d : Code) → list_any (λ c. owner c d) codes ≡ false →
    once owner codes d ≡ true
once_rest owner [] d e = refl
once_rest owner (c ∷ codes) d e = grind (arith, or_parts, once_rest owner codes d)

pub tail_once : (owner : Code → Code → Bool) (c : Code) (codes : List Code) (d : Code) → once owner (c ∷ codes) d ≡ true →
    once owner codes d ≡ true
tail_once owner c codes d e = grind (arith, once_tail, once, cases_Bool, once_rest)

-- a slot that no two codes own has the value of the one that is there
parts_sole : (owner : Code → Code → Bool) (make : Code → List ℕ → Part) (known : Known) (codes : List Code) (d : Code) →
    Shares owner make known → once owner codes d ≡ true
    → Sole (given (parts_of make known codes) d) (cond (list_any (λ c. owner c d && is_some (known c)) codes) (known d) None)
parts_sole owner make known [] d g e = refl
parts_sole owner make known (c ∷ codes) d g e =
    grind (arith, parts_none, parts_sole owner make known codes d g (tail_once owner c codes d e))

-- ---- the values of a unit

-- each value is in its written form, and one that a unit of this kind may have; empty user data is none
record IsCanonicalIn (kind : Kind) (known : Known) : Type 0 where
  values : (c : Code) (value : List ℕ) → known c ≡ Some value → canonical_in kind c value ≡ Some value
  slots : known ExtendedUserData ≡ None
  data_there : known UserData ≡ Some [] → ⊥

may_be_enclosed : (kind : Kind) (known : Known) (c : Code) (v : List ℕ) → is_enclosed kind (known Enclosure) ≡ true → known c ≡ Some v →
    may_enclose kind c v ≡ true
unfolding may_enclose
may_be_enclosed kind known c v is e = elim (cases_Bool (is_same c Enclosure)) [
  | inl t ↦ rw t (sym (ap (is_enclosed kind) (ap known (sym (same_true c Enclosure t)) ∙ e)) ∙ is)
  | inr f ↦ rw f refl
]

canonical_there : (kind : Kind) (known : Known) → IsCanonical known → is_enclosed kind (known Enclosure) ≡ true → IsCanonicalIn kind known
unfolding canonical_in
canonical_there kind known is enclosed = grind (arith, may_be_enclosed)

-- ---- a group

own_slot : (kind : Kind) (known : Known) (c : Code) (v : List ℕ) → IsCanonicalIn kind known → known c ≡ Some v → slot_of c ≡ c
unfolding slot_of
own_slot kind known c v is e = grind arith

own_only : (known : Known) (c : Code) (v : List ℕ) (d : Code) → known c ≡ Some v → cond (is_same d c) (known d) None ≡ only c v d
own_only known c v d e = search (arith, cases_Bool, same_true)

abbrev member_part : Known → Code → List ℕ → Part
member_part known c v = record { code = number_of c; long = ltb 254 (length v); value = v; gives = λ d. cond (is_same d c) (known d) None }

member_makes : (kind : Kind) (known : Known) (g : Code) → IsCanonicalIn kind known →
    Makes (MeansInGroup kind (members_of kind g)) (member_part known) known (members_of kind g)
unfolding MeansInGroup
member_makes kind known g is c v there e fits =
    let found = among_found (members_of kind g) c there in
    let same : (let m : Known = λ d. cond (is_same d c) (known d) None in m) ≡ only (slot_of c) v =
    (λ i d. (own_only known c v d e) i) ∙ ap (λ (s : Code). only s v) (sym (own_slot kind known c v is e)) in
    let means : MemberOf kind v (λ d. cond (is_same d c) (known d) None) (Some c) = (v, is.values c v e, same) in
    (number_octet c, grind (arith, ltb, length-append, ltb-false), rw found means)

same_and_there : (known : Known) (d c : Code) (v : List ℕ) → known d ≡ Some v → (is_same d c && is_some (known c)) ≡ is_same d c
same_and_there known d c v e = grind (arith, cases_Bool, same_true)

shown_member : (known : Known) (members : List Code) (d : Code) (o : Option (List ℕ)) → known d ≡ o
    → cond (list_any (λ c. is_same d c && is_some (known c)) members) (known d) None ≡ cond (among members d) (known d) None
shown_member known members d None e = grind (arith, cond)
shown_member known members d (Some v) e =
    ap (λ (p : Code → Bool). cond (list_any p members) (known d) None) (λ i c. (same_and_there known d c v e) i)

member_same : (known : Known) (c : Code) (o : Option (List ℕ)) → member_octets c o ≡ octets_if (member_part known) c o
member_same known c o = grind arith

group_whole : (kind : Kind) (known : Known) (g : Code) →
    group_octets kind known g ≡ flat_map (λ c. octets_if (member_part known) c (known c)) (members_of kind g)
unfolding group_octets
group_whole kind known g = ap (λ (f : Code → List ℕ). flat_map f (members_of kind g)) (λ i c. (member_same known c (known c)) i)

group_spelled : (kind : Kind) (known : Known) (g : Code) → IsCanonicalIn kind known → length (group_octets kind known g) < 65536
    → Spells (MeansInGroup kind (members_of kind g)) (λ d. cond (among (members_of kind g) d) (known d) None) (group_octets kind known g)
group_spelled kind known g is fits =
    let members = members_of kind g in
    let whole = group_whole kind known g in
    record {
      parts = parts_of (member_part known) known members;
      whole = whole ∙ parts_whole (member_part known) known members;
      each = parts_each (MeansInGroup kind members) (member_part known) known members (member_makes kind known g is)
          (subst (λ (o : List ℕ). length o < 65536) whole fits);
      once = λ d. subst (λ (x : Option (List ℕ)). Sole (given (parts_of (member_part known) known members) d) x)
          (shown_member known members d (known d) refl)
          (parts_sole (λ c e. is_same e c) (member_part known) known members d (λ c v e. refl) (member_once kind g d));
    }

-- ---- a unit

group_sole : (b a : Bool) (k : Option (List ℕ)) → (b ≡ true → k ≡ Some []) → (b ≡ true → a ≡ false) →
    Sole (cond b (Some []) None ∷ cond a k None ∷ []) (cond (b || a) k None)
group_sole b a k h n = grind (arith, cond, sole_one)

abbrev unit_part : Kind → Known → Code → List ℕ → Part
unit_part kind known c v = record {
  code = number_of (written_code kind c v);
  long = ltb 254 (length (value_octets kind known c v));
  value = value_octets kind known c v;
  gives = λ d. cond (owns kind c d) (known d) None;
}

abbrev owned : Kind → Known → Code → Known
owned kind known c = λ d. cond (owns kind c d) (known d) None

group_means : (kind : Kind) (known : Known) (c : Code) (v : List ℕ) → IsCanonicalIn kind known → is_group c ≡ true → known c ≡ Some v →
    length (group_octets kind known c) < 65536
    → GroupOf kind c (group_octets kind known c) (owned kind known c)
group_means kind known c v is group e fits =
    let empty : v ≡ [] = (let h : Some v ≡ Some [] = sym (is.values c v e) ∙ group_form kind c v group in cc) in
    let there : known c ≡ Some [] = e ∙ ap {B = Option (List ℕ)} (λ x. Some x) empty in (
      (λ d. cond (among (members_of kind c) d) (known d) None),
      group_spelled kind known c is fits,
      λ d. group_sole (is_same d c) (among (members_of kind c) d) (known d) (λ t. ap known (same_true d c t) ∙ there)
          (λ t. ap (among (members_of kind c)) (same_true d c t) ∙ group_apart kind c),
    )

parameter_means : (kind : Kind) (known : Known) (c : Code) (v : List ℕ) (b : Bool) → is_group c ≡ b → IsCanonicalIn kind known →
    known c ≡ Some v
    → length (cond b (group_octets kind known c) v) < 65536 →
    ParameterOf kind c (cond b (group_octets kind known c) v) (owned kind known c) b
parameter_means kind known c v true group is e fits = group_means kind known c v is group e fits
parameter_means kind known c v false group is e fits =
    (v, is.values c v e, (grind (arith, members_none, own_only)) ∙ ap (λ (s : Code). only s v) (sym (own_slot kind known c v is e)))

-- user data in the code of its length
long_data_means : (kind : Kind) (known : Known) (c : Code) (v : List ℕ) → c ≡ UserData → known c ≡ Some v
    → KnownOf kind (value_octets kind known c v) (owned kind known c) (Some ExtendedUserData)
unfolding is_group canonical canonical_in may_enclose number_of slot_of
long_data_means kind known c v data_code e =
    subst (λ (x : Code). known x ≡ Some v → KnownOf kind (value_octets kind known x v) (owned kind known x) (Some ExtendedUserData))
    (sym data_code)
    (λ there. (v, refl, grind (arith, members_none, own_only))) e

unit_means : (kind : Kind) (known : Known) (c : Code) (v : List ℕ) → IsCanonicalIn kind known → among (codes_of kind) c ≡ true →
    known c ≡ Some v
    → length (value_octets kind known c v) < 65536 →
    MeansInUnit kind (number_of (written_code kind c v)) (value_octets kind known c v) (owned kind known c)
unfolding MeansInUnit written_code
unit_means kind known c v is there e fits =
    elim (cases_Bool (is_same c UserData && among (codes_of kind) ExtendedUserData && ltb 512 (length v))) [
      | inl t ↦
          let b = and_parts _ _ (and_parts _ _ t).0 in
          rw (t, among_found (codes_of kind) ExtendedUserData b.1) (long_data_means kind known c v (same_true c UserData b.0) e)
      | inr f ↦ rw (f, among_found (codes_of kind) c there) (parameter_means kind known c v (is_group c) refl is e fits)
    ]

unit_makes : (kind : Kind) (known : Known) → IsCanonicalIn kind known →
    Makes (MeansInUnit kind) (unit_part kind known) known (codes_of kind)
unit_makes kind known is c v there e fits = grind (arith, number_of, written_code, length-append, ltb, number_octet, unit_means)

shown_owned : (kind : Kind) (known : Known) (d : Code) (o : Option (List ℕ)) → known d ≡ o →
    (may_be_there kind known d || is_none (known d)) ≡ true
    → cond (list_any (λ c. owns kind c d && is_some (known c)) (codes_of kind)) (known d) None ≡ known d
shown_owned kind known d None e formed = grind (arith, cond, owns)
shown_owned kind known d (Some v) e formed =
    let present : may_be_there kind known d ≡ true = grind (arith, or_cases) in
    let by : list_any (λ c. owns kind c d && is_some (known c)) (codes_of kind) ≡ true =
    elim (or_cases _ _ present) [
      | inl a ↦ any_weaker (λ c. is_same d c) _ (codes_of kind) (grind (arith, and_from, owns, or_left, members_of, same_true)) a
      | inr a ↦ grind (arith, any_weaker, members_of, owns, codes_of, and_parts, and_from, or_right)
    ] in
    rw by refl

parameter_same : (kind : Kind) (known : Known) (c : Code) (o : Option (List ℕ)) →
    parameter_octets kind known c o ≡ octets_if (unit_part kind known) c o
parameter_same kind known c o = grind arith

body_whole : (kind : Kind) (known : Known) →
    body_octets kind known ≡ flat_map (λ c. octets_if (unit_part kind known) c (known c)) (codes_of kind)
unfolding body_octets
body_whole kind known = ap (λ (f : Code → List ℕ). flat_map f (codes_of kind)) (λ i c. (parameter_same kind known c (known c)) i)

body_spelled : (kind : Kind) (known : Known) → IsCanonicalIn kind known →
    list_all (λ c. may_be_there kind known c || is_none (known c)) every_code ≡ true → length (body_octets kind known) < 65536
    → Spells (MeansInUnit kind) known (body_octets kind known)
body_spelled kind known is formed fits =
    let codes = codes_of kind in
    let whole = body_whole kind known in
    record {
      parts = parts_of (unit_part kind known) known codes;
      whole = whole ∙ parts_whole (unit_part kind known) known codes;
      each = parts_each (MeansInUnit kind) (unit_part kind known) known codes (unit_makes kind known is)
          (subst (λ (o : List ℕ). length o < 65536) whole fits);
      once = λ d. subst (λ (x : Option (List ℕ)). Sole (given (parts_of (unit_part kind known) known codes) d) x)
          (shown_owned kind known d (known d) refl (every_passes (λ c. may_be_there kind known c || is_none (known c)) d formed))
          (parts_sole (owns kind) (unit_part kind known) known codes d (λ c v e. refl) (code_once kind d));
    }

all_some : (known : Known) (codes : List Code) → list_all (λ c. is_some (known c)) codes ≡ true →
    AllByRecursion (λ c. IsSome (known c)) codes
all_some known [] e = tt
all_some known (c ∷ codes) e = grind (arith, and_parts, all_some known codes)

settled_same : (known : Known) → IsCanonical known → settled known ≡ known
settled_same known is = grind (arith, cases_Bool, same_true)

pub unit_written : (unit : Contents) → IsFormedUnit unit → UnitFits unit → SpellsUnit unit (unit_octets unit)
unfolding unit_octets is_formed
unit_written unit is fits =
    let body = body_octets unit.kind unit.known in
    let there = list_all (λ c. may_be_there unit.kind unit.known c || is_none (unit.known c)) every_code in
    let required = list_all (λ c. is_some (unit.known c)) (required_of unit.kind) in
    let whole = and_parts (there && required) (is_enclosed unit.kind (unit.known Enclosure)) is.formed in
    let f = and_parts there required whole.0 in
    record {
      long = ltb 254 (length body);
      body = body;
      raw = unit.known;
      whole = refl;
      counted = body_counted (ltb 254 (length body)) refl;
      params = body_spelled unit.kind unit.known (canonical_there unit.kind unit.known is.canonical_values whole.1) f.0 fits;
      required = all_some unit.known (required_of unit.kind) f.1;
      value = sym (settled_same unit.known is.canonical_values);
    }
  where
    body_counted : (b : Bool) → ltb 254 (length (body_octets unit.kind unit.known)) ≡ b →
        HasLength b (length (body_octets unit.kind unit.known))
    body_counted true e = fits
    body_counted false e = (let l = ltb-false 254 (length (body_octets unit.kind unit.known)) e in omega arith)

pub units_written : (units : Units) → AllByRecursion IsFormedUnit units → TsduFits units → AreUnits units (tsdu_octets units)
unfolding tsdu_octets
units_written [] is fits = refl
units_written (unit ∷ units) is fits = grind (arith, unit_written, units_written units is.1 fits.1)

-- the written form spells its value
pub tsdu_written : (units : Units) → IsFormedTsdu units → TsduFits units → IsOctets (tsdu_octets units) →
    SpellsTsdu units (tsdu_octets units)
unfolding SpellsTsdu
tsdu_written units is fits octets = (octets, is.together, units_written units is.formed fits)
