-- What was read fits: its written form is no longer than the octets that were read.
use Rattle.osi_spdu.proofs.Vocabulary.{flat_map, list_any, AllByRecursion, cases_Bool, or_cases, or_left, or_right, ltb-true, le-ltb}
use Rattle.osi_spdu.proofs.Vocabulary.{lt-ltb, both_ways, length-append, Code, Kind, number_of, is_same, is_group, slot_of, codes_of}
use Rattle.osi_spdu.proofs.Vocabulary.{members_of, Known, nothing, settled, Contents, Units, code_among, length_octets, HasLength, Part}
use Rattle.osi_spdu.proofs.Vocabulary.{part_octets, Sole, IsPart, Spells, only, MemberOf, MeansInGroup, GroupOf, ParameterOf, KnownOf}
use Rattle.osi_spdu.proofs.Vocabulary.{MeansInUnit, SpellsUnit, AreUnits, SpellsTsdu, among, group_octets, value_octets, body_octets}
use Rattle.osi_spdu.proofs.Vocabulary.{UnitFits, TsduFits, inl, inr, ◌≡◌, ℕ, ◌+◌, ◌<◌, ◌≤◌, Bool, true, false, cond, List, [], ◌∷◌, ◌++◌}
use Rattle.osi_spdu.proofs.Vocabulary.{length, map, Option, Some, None, refl, sym, ap, subst, ◌∙◌, ltb, arith}
use Rattle.osi_spdu.proofs.basics.options_that_are_added.{Joins, first, sole_one, sole_same, sole_split}
use Rattle.osi_spdu.proofs.basics.the_steps_of_reading.{same_true, same_refl}
use Rattle.osi_spdu.proofs.parameters.one_level_is_read.{JoinsAll}
use Rattle.osi_spdu.proofs.parameters.each_slot_has_one_code.{owns, once, code_once, member_once, every_passes, group_apart, among_named}
use Rattle.osi_spdu.proofs.form.the_form_spells_its_unit.{tail_once, once_tail}
use Rattle.osi_spdu.proofs.form.what_is_read_has_a_form.{IsOwned, owned, any_at, inner_source, option_cases, only_slot}
use Rattle.osi_spdu.proofs.form.a_value_becomes_no_longer.{canonical_shorter, canonical_from}

-- ---- sums over codes

abbrev pub total : (Code → ℕ) → List Code → ℕ
total f [] = 0
total f (c ∷ codes) = f c + total f codes

total_flat : (f : Code → List ℕ) (codes : List Code) → length (flat_map f codes) ≡ total (λ c. length (f c)) codes
total_flat f [] = refl
total_flat f (c ∷ codes) = (let r = total_flat f codes in let l = length-append (f c) (flat_map f codes) in omega arith)

total_same : (f g : Code → ℕ) (codes : List Code) → ((c : Code) → among codes c ≡ true → f c ≡ g c) → total f codes ≡ total g codes
total_same f g [] h = refl
total_same f g (c ∷ codes) h =
    grind (arith, or_left, same_refl, or_right, total_same f g codes (λ d a. h d (or_right (is_same d c) (among codes d) a)))

pub total_less : (f g : Code → ℕ) (codes : List Code) → ((c : Code) → f c ≤ g c) → total f codes ≤ total g codes
total_less f g [] h = omega arith
total_less f g (c ∷ codes) h = (let one = h c in let rest = total_less f g codes h in omega arith)

total_both : (f g : Code → ℕ) (codes : List Code) → total (λ c. f c + g c) codes ≡ total f codes + total g codes
total_both f g [] = refl
total_both f g (c ∷ codes) = (let rest = total_both f g codes in omega arith)

total_zero : (f : Code → ℕ) (codes : List Code) → ((c : Code) → among codes c ≡ true → f c ≡ 0) → total f codes ≡ 0
total_zero f [] h = refl
total_zero f (c ∷ codes) h =
    grind (arith, or_left, same_refl, or_right, total_zero f codes (λ d a. h d (or_right (is_same d c) (among codes d) a)))

-- only one code counts, and it occurs once
total_one : (f : Code → ℕ) (s : Code) (codes : List Code) → once (λ c e. is_same e c) codes s ≡ true →
    ((c : Code) → among codes c ≡ true → (c ≡ s → ⊥) → f c ≡ 0) → total f codes ≤ f s
total_one f s [] single h = omega arith
total_one f s (c ∷ codes) single h =
    let t = once_tail (is_same s c) (list_any (λ e. is_same s e) codes) (once (λ x e. is_same e x) codes s) single in
    elim (cases_Bool (is_same s c)) [
      | inl same ↦
          let others : total f codes ≡ 0 = total_zero f codes (λ d a. h d (or_right (is_same d c) (among codes d) a)
          (λ e. both_ways (among codes s) (t.0 same) (subst (λ (x : Code). among codes x ≡ true) e a))) in
          let first_is : f c ≡ f s = ap f (sym (same_true s c same)) in
          omega arith
      | inr other ↦
          let none : f c ≡ 0 =
          h c (or_left (is_same c c) (among codes c) (same_refl c))
          (λ e. both_ways (is_same s c) other (subst (λ (x : Code). is_same s x ≡ true) (sym e) (same_refl s))) in
          omega (arith, total_one f s codes (t.1 other) (λ d a n. h d (or_right (is_same d c) (among codes d) a) n))
    ]

-- ---- what is written for a value

abbrev pub cost : ℕ → ℕ
cost n = 1 + cond (ltb 254 n) 3 1 + n

cost_less : (m n : ℕ) → m ≤ n → cost m ≤ cost n
cost_less m n h0 = grind (arith, cases_Bool, ltb-true, lt-ltb)

spelled_cost : (code : ℕ) (long : Bool) (v : List ℕ) → HasLength long (length v) →
    cost (length v) ≤ length (code ∷ [] ++ length_octets long (length v) ++ v)
spelled_cost code long v h0 = grind (arith, cases_Bool, length-append, le-ltb)

-- ---- parts together

-- a cost that adds up over values that do not meet
record IsCost (means : ℕ → List ℕ → Known → Type 0) (f : Known → Code → ℕ) (codes : List Code) (Good : Known → Type 0) : Type 0 where
  none : (c : Code) → f nothing c ≡ 0
  add : (x y o : Known) → JoinsAll x y o → Good x → Good y → (c : Code) → among codes c ≡ true → f o c ≡ f x c + f y c
  good : (parts : List Part) (raw : Known) → AllByRecursion (IsPart means) parts →
      ((c : Code) → Sole (map (λ p. p.gives c) parts) (raw c)) → Good raw
  one : (p : Part) → IsPart means p → total (f p.gives) codes ≤ length (part_octets p)

parts_cost : (means : ℕ → List ℕ → Known → Type 0) (f : Known → Code → ℕ) (codes : List Code) (Good : Known → Type 0) →
    IsCost means f codes Good
    → (parts : List Part) (known : Known) → AllByRecursion (IsPart means) parts → ((c : Code) → Sole (map (λ p. p.gives c) parts) (known c))
    → total (f known) codes ≤ length (flat_map part_octets parts)
parts_cost means f codes Good is [] known each sole =
    let z = total_zero (f known) codes (λ c a. let same : known ≡ nothing = (λ i c. (sole c) i) in rw same (is.none c)) in omega arith
parts_cost means f codes Good is (p ∷ parts) known each sole =
    let rest : Known = λ c. first (map (λ q. q.gives c) parts) in
    let split = λ (c : Code). sole_split (p.gives c) (map (λ q. q.gives c) parts) (known c) (sole c) in
    let below = parts_cost means f codes Good is parts rest each.1 (λ c. (split c).0) in
    let sum = total_same (f known) (λ c. f rest c + f p.gives c) codes
    (λ c a. is.add rest p.gives known (λ d. (split d).1) (is.good parts rest each.1 (λ c. (split c).0))
    (is.good (p ∷ []) p.gives (each.0, tt) (λ c. sole_one (p.gives c))) c a) in
    omega (arith, total_both (f rest) (f p.gives) codes, is.one p each.0, length-append (part_octets p) (flat_map part_octets parts))

-- ---- a group

abbrev pub member_cost : Option (List ℕ) → ℕ
member_cost None = 0
member_cost (Some v) = cost (length v)

member_add : (m k o : Option (List ℕ)) → Joins m k o → member_cost o ≡ member_cost m + member_cost k
member_add m k o j = grind arith

-- the value of a single slot
only_cost : (f : Option (List ℕ) → ℕ) (s : Code) (form : List ℕ) (codes : List Code) → f None ≡ 0 →
    once (λ c e. is_same e c) codes s ≡ true → total (λ c. f (only s form c)) codes ≤ f (Some form)
only_cost f s form codes none single =
    let h = total_one (λ c. f (only s form c)) s codes single (λ c a n. elim (cases_Bool (is_same c s)) [
      | inl t ↦ absurd (n (same_true c s t))
      | inr e ↦ rw e none
    ]) in
    let same = same_refl s in rw same at h

member_part : (kind : Kind) (g : Code) (p : Part) (o : Option Code) → HasLength p.long (length p.value) → MemberOf kind p.value p.gives o
    → total (λ c. member_cost (p.gives c)) (members_of kind g) ≤ length (part_octets p)
member_part kind g p None h m = grind (arith, total_zero)
member_part kind g p (Some c) h m =
    grind (
      arith,
      only_cost member_cost (slot_of c) m.0 (members_of kind g) refl (member_once kind g (slot_of c)),
      canonical_shorter c p.value m.0 (canonical_from kind c p.value m.0 m.1),
    )

group_cost : (kind : Kind) (g : Code) →
    IsCost (MeansInGroup kind (members_of kind g)) (λ k c. member_cost (k c)) (members_of kind g) (λ k. Unit {0})
unfolding MeansInGroup
group_cost kind g = record {
  none = λ c. refl;
  add = λ x y o j gx gy c a. member_add (x c) (y c) (o c) (j c);
  good = λ parts raw each sole. tt;
  one = λ p is. member_part kind g p (code_among (members_of kind g) p.code) is.1 is.2;
}

pub group_len : (kind : Kind) (known : Known) (g : Code) →
    length (group_octets kind known g) ≡ total (λ c. member_cost (known c)) (members_of kind g)
unfolding group_octets
group_len kind known g = grind (arith, total_flat, total_same)

group_fits : (kind : Kind) (known : Known) (g : Code) (value : List ℕ) → Spells (MeansInGroup kind (members_of kind g)) known value →
    length (group_octets kind known g) ≤ length value
group_fits kind known g value s =
    let p = parts_cost (MeansInGroup kind (members_of kind g)) (λ k c. member_cost (k c)) (members_of kind g) (λ k. Unit {0})
    (group_cost kind g) s.parts known s.each s.once in
    grind (arith, group_len)

-- ---- a unit

abbrev pub unit_cost : Kind → Known → Code → Option (List ℕ) → ℕ
unit_cost kind known c None = 0
unit_cost kind known c (Some v) = cost (length (value_octets kind known c v))

-- two codes of a unit that own the same slot are the same
one_owner : (kind : Kind) (codes : List Code) (d a b : Code) → once (owns kind) codes d ≡ true → among codes a ≡ true →
    among codes b ≡ true → owns kind a d ≡ true → owns kind b d ≡ true → a ≡ b
one_owner kind [] d a b single ha hb oa ob = absurd cc
one_owner kind (c ∷ codes) d a b single ha hb oa ob =
    let t = once_tail (owns kind c d) (list_any (λ e. owns kind e d) codes) (once (owns kind) codes d) single in
    let clash = λ (x : Code) (there : among codes x ≡ true) (ox : owns kind x d ≡ true) (oc : owns kind c d ≡ true).
    both_ways (list_any (λ e. owns kind e d) codes) (t.0 oc) (any_at (λ e. owns kind e d) codes x there ox) in
    let later = one_owner kind codes d a b (tail_once (owns kind) c codes d single) in
    let sa = same_true a c in
    let sb = same_true b c in
    let ca = clash a in
    let cb = clash b in
    elim (or_cases (is_same a c) (among codes a) ha) [
      | inl x ↦ elim (or_cases (is_same b c) (among codes b) hb) [ inl y ↦ sa x ∙ sym (sb y) | inr y ↦ absurd (cb y ob (rw (sa x) at oa)) ]
      | inr x ↦ elim (or_cases (is_same b c) (among codes b) hb) [ inl y ↦ absurd (ca x oa (rw (sb y) at ob)) | inr y ↦ later x y oa ob ]
    ]

-- a value of a group is there only if the group is
abbrev KeepsGroups : Kind → Known → Type 0
KeepsGroups kind known = (g d : Code) (v : List ℕ) → among (codes_of kind) g ≡ true → among (members_of kind g) d ≡ true →
    known d ≡ Some v → (w : List ℕ) × (known g ≡ Some w)

-- no member of a group is known outside it
apart_from_unit : (kind : Kind) (g d : Code) → among (codes_of kind) g ≡ true → among (members_of kind g) d ≡ true →
    among (codes_of kind) d ≡ true → ⊥
apart_from_unit kind g d hg m hd = grind (arith, one_owner, code_once kind d, group_apart kind g)

keeps_from : (kind : Kind) (raw : Known) (g d : Code) → among (codes_of kind) g ≡ true → among (members_of kind g) d ≡ true →
    IsOwned kind raw d → (w : List ℕ) × (raw g ≡ Some w)
keeps_from kind raw g d hg m (inl hd) = absurd (apart_from_unit kind g d hg m hd)
keeps_from kind raw g d hg m (inr q) = grind (arith, one_owner, code_once kind d)

keeps_groups : (kind : Kind) (parts : List Part) (raw : Known) → AllByRecursion (IsPart (MeansInUnit kind)) parts →
    ((c : Code) → Sole (map (λ p. p.gives c) parts) (raw c)) → KeepsGroups kind raw
keeps_groups kind parts raw each sole g d v hg m e =
    let s : Spells (MeansInUnit kind) raw (flat_map part_octets parts) = record { parts = parts; whole = refl; each = each; once = sole } in
    keeps_from kind raw g d hg m (owned kind raw (flat_map part_octets parts) v d s e)

-- if only one of two values has a group, its members are those of that value
members_same : (kind : Kind) (x o : Known) (c : Code) → ((d : Code) → among (members_of kind c) d ≡ true → o d ≡ x d) →
    length (group_octets kind o c) ≡ length (group_octets kind x c)
members_same kind x o c h = grind (arith, group_len, total_same, members_of)

-- no member of an absent group is there
stays_out : (kind : Kind) (x : Known) (c d : Code) → KeepsGroups kind x → among (codes_of kind) c ≡ true →
    among (members_of kind c) d ≡ true → x c ≡ None → x d ≡ None
stays_out kind x c d keeps hc m none = grind (arith, option_cases)

unit_add_at : (kind : Kind) (x y o : Known) (c : Code) (a b : Option (List ℕ)) → x c ≡ a → y c ≡ b → JoinsAll x y o → KeepsGroups kind x →
    KeepsGroups kind y → among (codes_of kind) c ≡ true
    → unit_cost kind o c (o c) ≡ unit_cost kind x c a + unit_cost kind y c b
unit_add_at kind x y o c None None ex ey j kx ky hc = grind arith
unit_add_at kind x y o c None (Some v) ex ey j kx ky hc =
    let same = members_same kind y o c (λ d m. (let none = stays_out kind x c d kx hc m ex in let at = j d in grind arith)) in
    grind (arith, cases_Bool, j c)
unit_add_at kind x y o c (Some w) None ex ey j kx ky hc =
    let same = members_same kind x o c (λ d m. (let none = stays_out kind y c d ky hc m ey in let at = j d in grind arith)) in
    grind (arith, cases_Bool, j c)
unit_add_at kind x y o c (Some w) (Some v) ex ey j kx ky hc = grind arith

-- ---- one part of a unit

code_single : (kind : Kind) (s : Code) → once (λ c e. is_same e c) (codes_of kind) s ≡ true
unfolding number_of codes_of
code_single kind s = every_passes (once (λ c e. is_same e c) (codes_of kind)) s (grind arith)

slot_leaf : (c : Code) → is_group c ≡ false → is_group (slot_of c) ≡ false
unfolding is_group slot_of
slot_leaf c e = grind arith

abbrev pub part_cost : Kind → Known → Code → ℕ
part_cost kind known c = unit_cost kind known c (known c)

absent_cost : (kind : Kind) (known : Known) (c : Code) → known c ≡ None → part_cost kind known c ≡ 0
absent_cost kind known c e = ap (unit_cost kind known c) e

leaf_part : (kind : Kind) (p : Part) (c : Code) → is_group c ≡ false → HasLength p.long (length p.value) →
    MemberOf kind p.value p.gives (Some c) → total (part_cost kind p.gives) (codes_of kind) ≤ length (part_octets p)
leaf_part kind p c leaf h m =
    let s = slot_of c in
    let form = m.0 in
    let there : p.gives s ≡ Some form = ap (λ (k : Known). k s) m.2 ∙ ap (λ (b : Bool). cond b (Some form) None) (same_refl s) in
    let one = total_one (part_cost kind p.gives) s (codes_of kind) (code_single kind s)
    (λ d a n. absent_cost kind p.gives d (elim (option_cases (p.gives d)) [
      | inl q ↦ absurd (n (only_slot d s form q.0 (sym (ap (λ (k : Known). k d) m.2) ∙ q.1)))
      | inr e ↦ e
    ])) in
    let less = cost_less (length form) (length p.value) (canonical_shorter c p.value form (canonical_from kind c p.value form m.1)) in
    let spelled = spelled_cost p.code p.long p.value h in
    let at : part_cost kind p.gives s ≡ cost (length form) = ap (unit_cost kind p.gives s) there ∙
    ap (λ (b : Bool). cost (length (cond b (group_octets kind p.gives s) form))) (slot_leaf c leaf) in
    omega arith

group_part : (kind : Kind) (p : Part) (g : Code) → is_group g ≡ true → among (codes_of kind) g ≡ true → HasLength p.long (length p.value) →
    GroupOf kind g p.value p.gives → total (part_cost kind p.gives) (codes_of kind) ≤ length (part_octets p)
group_part kind p g group hg h m =
    let inner = m.0 in
    let outside = λ (d : Code) (n : d ≡ g → ⊥). (let e : only g [] d ≡ None = elim (cases_Bool (is_same d g)) [
      | inl t ↦ absurd (n (same_true d g t))
      | inr f ↦ ap (λ (b : Bool). cond b (Some []) None) f
    ] in sole_same (inner d) (p.gives d) (subst (λ (k : Option (List ℕ)). Sole (k ∷ inner d ∷ []) (p.gives d)) e (m.2 d))) in
    let there : p.gives g ≡ Some [] = (let k = m.2 g in grind arith) in
    let one = total_one (part_cost kind p.gives) g (codes_of kind) (code_single kind g)
    (λ d a n. absent_cost kind p.gives d (elim (option_cases (p.gives d)) [
      | inl q ↦ absurd (apart_from_unit kind g d hg (inner_source kind g p.value q.0 inner d m.1 (sym (outside d n) ∙ q.1)) a)
      | inr e ↦ e
    ])) in
    let members : length (group_octets kind p.gives g) ≡ length (group_octets kind inner g) =
    members_same kind inner p.gives g
    (λ d a. outside d
    (λ e. both_ways (among (members_of kind g) g) (group_apart kind g) (subst (λ (x : Code). among (members_of kind g) x ≡ true) e a)))
    in
    let fits = group_fits kind inner g p.value m.1 in
    let less = cost_less (length (group_octets kind p.gives g)) (length p.value) (omega arith) in
    let spelled = spelled_cost p.code p.long p.value h in
    let at : part_cost kind p.gives g ≡ cost (length (group_octets kind p.gives g)) = ap (unit_cost kind p.gives g) there ∙
    ap (λ (b : Bool). cost (length (cond b (group_octets kind p.gives g) []))) group in
    omega arith

parameter_part : (kind : Kind) (p : Part) (c : Code) (b : Bool) → is_group c ≡ b → among (codes_of kind) c ≡ true →
    HasLength p.long (length p.value) → ParameterOf kind c p.value p.gives b
    → total (part_cost kind p.gives) (codes_of kind) ≤ length (part_octets p)
parameter_part kind p c true group hc h m = group_part kind p c group hc h m
parameter_part kind p c false group hc h m = leaf_part kind p c group h m

unit_part : (kind : Kind) (p : Part) (o : Option Code) → code_among (codes_of kind) p.code ≡ o → HasLength p.long (length p.value) →
    KnownOf kind p.value p.gives o → total (part_cost kind p.gives) (codes_of kind) ≤ length (part_octets p)
unit_part kind p o named h m = grind (arith, total_zero, absent_cost, parameter_part, among_named)

whole_cost : (kind : Kind) → IsCost (MeansInUnit kind) (part_cost kind) (codes_of kind) (KeepsGroups kind)
unfolding MeansInUnit
whole_cost kind = record {
  none = λ c. refl;
  add = λ x y o j kx ky c hc. unit_add_at kind x y o c (x c) (y c) refl refl j kx ky hc;
  good = λ parts raw each sole. keeps_groups kind parts raw each sole;
  one = λ p is. unit_part kind p (code_among (codes_of kind) p.code) refl is.1 is.2;
}

-- ---- and so what was read fits

pub body_len : (kind : Kind) (known : Known) → length (body_octets kind known) ≡ total (part_cost kind known) (codes_of kind)
unfolding body_octets
body_len kind known = grind (arith, total_flat, total_same, part_cost)

settled_part : (kind : Kind) (raw : Known) (c : Code) → part_cost kind (settled raw) c ≤ part_cost kind raw c
settled_part kind raw c = search (arith, cases_Bool, cond, group_len, total_less, member_cost)

body_short : (long : Bool) (n : ℕ) → HasLength long n → n < 65536
body_short long n h = grind arith

unit_fits : (unit : Contents) (octets : List ℕ) → SpellsUnit unit octets → UnitFits unit
unit_fits unit octets s =
    let kind = unit.kind in
    let read = parts_cost (MeansInUnit kind) (part_cost kind) (codes_of kind) (KeepsGroups kind) (whole_cost kind) s.params.parts s.raw
    s.params.each s.params.once in
    let less = total_less (part_cost kind (settled s.raw)) (part_cost kind s.raw) (codes_of kind) (settled_part kind s.raw) in
    let len = body_len kind (settled s.raw) in
    let w = ap length s.params.whole in
    let b = body_short s.long (length s.body) s.counted in
    let same = s.value in rw same (omega arith)

pub units_fit : (units : Units) (octets : List ℕ) → AreUnits units octets → TsduFits units
units_fit [] octets s = tt
units_fit (unit ∷ units) octets s = (unit_fits unit s.0 s.3, units_fit units s.1 s.5)

pub tsdu_fits : (units : Units) (octets : List ℕ) → SpellsTsdu units octets → TsduFits units
unfolding SpellsTsdu
tsdu_fits units octets s = units_fit units octets s.2
