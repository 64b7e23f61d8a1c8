-- Units that are read have a written form: they hold only parameters that they know, and all mandatory ones.
use Rattle.osi_spdu.proofs.Vocabulary.{is_some, is_none, IsSome, list_any, list_all, AllByRecursion, cases_Bool, and_parts, and_from}
use Rattle.osi_spdu.proofs.Vocabulary.{or_left, or_right, not-true, IsOctets, Code, Enclosure, UserData, Kind, number_of, is_same, is_group}
use Rattle.osi_spdu.proofs.Vocabulary.{slot_of, every_code, codes_of, members_of, required_of, canonical, may_enclose, canonical_in, Known}
use Rattle.osi_spdu.proofs.Vocabulary.{settled, Contents, code_among, Placed, contents_of, unit_at, Part, Sole, IsPart, Spells, only}
use Rattle.osi_spdu.proofs.Vocabulary.{MemberOf, MeansInGroup, GroupOf, ParameterOf, KnownOf, MeansInUnit, SpellsUnit, among, may_be_there}
use Rattle.osi_spdu.proofs.Vocabulary.{is_enclosed, is_formed, ◌⊎◌, inl, inr, ◌≡◌, ℕ, Bool, true, false, cond, not, ◌||◌, List, [], ◌∷◌}
use Rattle.osi_spdu.proofs.Vocabulary.{ExtendedUserData, map, Option, Some, None, Ok, refl, sym, ap, subst, ◌∙◌, arith}
use Rattle.osi_spdu.proofs.basics.options_that_are_added.{Joins, first, sole_split}
use Rattle.osi_spdu.proofs.basics.the_steps_of_reading.{same_true, same_refl}
use Rattle.osi_spdu.proofs.parameters.each_slot_has_one_code.{among_named, any_weaker}
use Rattle.osi_spdu.proofs.tsdu.units_and_tsdus_are_read.{unit_found}

-- ---- the source of a value

joins_some : (m k o : Option (List ℕ)) (w : List ℕ) → m ≡ Some w → Joins m k o → o ≡ Some w
joins_some m k o w e j = grind arith

-- a part that gives the value of a slot, and gives nothing but what is known
record Source (means : ℕ → List ℕ → Known → Type 0) (raw : Known) (d : Code) (v : List ℕ) : Type 0 where
  part : Part
  is_part : IsPart means part
  gives_it : part.gives d ≡ Some v
  within : (c : Code) (w : List ℕ) → part.gives c ≡ Some w → raw c ≡ Some w

later : (means : ℕ → List ℕ → Known → Type 0) (p : Part) (parts : List Part) (raw : Known) (d : Code) (v : List ℕ)
    → ((c : Code) → Sole (p.gives c ∷ map (λ q. q.gives c) parts) (raw c)) → Source means (λ c. first (map (λ q. q.gives c) parts)) d v →
    Source means raw d v
later means p parts raw d v once s = record {
  part = s.part;
  is_part = s.is_part;
  gives_it = s.gives_it;
  within = λ c w g. joins_some (first (map (λ q. q.gives c) parts)) (p.gives c) (raw c) w (s.within c w g)
      ((sole_split (p.gives c) (map (λ q. q.gives c) parts) (raw c) (once c)).1);
}

pub option_cases : (o : Option (List ℕ)) → ((w : List ℕ) × (o ≡ Some w)) ⊎ (o ≡ None)
option_cases None = inr refl
option_cases (Some w) = inl (w, refl)

source : (means : ℕ → List ℕ → Known → Type 0) (parts : List Part) (raw : Known) (d : Code) (v : List ℕ) →
    AllByRecursion (IsPart means) parts
    → ((c : Code) → Sole (map (λ p. p.gives c) parts) (raw c)) → raw d ≡ Some v → Source means raw d v
source means [] raw d v each once e = absurd (let h = once d in cc)
source means (p ∷ parts) raw d v each once e =
    let rest : Known = λ c. first (map (λ q. q.gives c) parts) in
    let split = λ (c : Code). sole_split (p.gives c) (map (λ q. q.gives c) parts) (raw c) (once c) in
    elim (option_cases (p.gives d)) [
      | inl s ↦ grind arith
      | inr n ↦ later means p parts raw d v once (source means parts rest d v each.1 (λ c. (split c).0)
          (let j = (split d).1 in grind arith))
    ]

-- ---- what a part may give

pub only_slot : (d s : Code) (form v : List ℕ) → only s form d ≡ Some v → d ≡ s
only_slot d s form v e = elim (cases_Bool (is_same d s)) [
  | inl t ↦ same_true d s t
  | inr f ↦ absurd (let h : None ≡ Some v = sym (ap (λ (b : Bool). cond b (Some form) None) f) ∙ e in cc)
]

-- a value that a group's parameter gives is one of its members
member_source : (kind : Kind) (g : Code) (value v : List ℕ) (gives : Known) (d : Code) (o : Option Code) (n : ℕ) →
    code_among (members_of kind g) n ≡ o → MemberOf kind value gives o → gives d ≡ Some v
    → among (members_of kind g) d ≡ true
unfolding slot_of members_of number_of
member_source kind g value v gives d None n named m e = absurd (let h : None ≡ Some v = sym (ap (λ (k : Known). k d) m) ∙ e in cc)
member_source kind g value v gives d (Some c) n named m e =
    grind (arith, only_slot, among_named (members_of kind g) n c named, members_of kind g, slot_of c)

pub inner_source : (kind : Kind) (g : Code) (value v : List ℕ) (inner : Known) (d : Code) →
    Spells (MeansInGroup kind (members_of kind g)) inner value → inner d ≡ Some v → among (members_of kind g) d ≡ true
unfolding MeansInGroup
inner_source kind g value v inner d s e =
    let from = source (MeansInGroup kind (members_of kind g)) s.parts inner d v s.each s.once e in
    member_source kind g from.part.value v from.part.gives d (code_among (members_of kind g) from.part.code) from.part.code refl
    from.is_part.2 from.gives_it

-- the source of a value of a unit: a code of the unit, or a group that is there
abbrev pub IsOwned : Kind → Known → Code → Type 0
IsOwned kind raw d = (among (codes_of kind) d ≡ true) ⊎
    ((g : Code) × (among (codes_of kind) g ≡ true) × (among (members_of kind g) d ≡ true) × (raw g ≡ Some []))

group_source : (kind : Kind) (raw : Known) (g : Code) (value v : List ℕ) (gives : Known) (d : Code) → among (codes_of kind) g ≡ true →
    GroupOf kind g value gives → gives d ≡ Some v
    → ((c : Code) (w : List ℕ) → gives c ≡ Some w → raw c ≡ Some w) → IsOwned kind raw d
group_source kind raw g value v gives d there m e within =
    let presence : gives g ≡ Some [] = grind arith in
    elim (option_cases (only g [] d)) [
      | inl s ↦ inl (subst (λ (x : Code). among (codes_of kind) x ≡ true) (sym (only_slot d g [] s.0 s.1)) there)
      | inr n ↦ inr (g, there, inner_source kind g value v m.0 d m.1 (let k = m.2 d in grind arith), within g [] presence)
    ]

-- the slot of a parameter is one of the unit's
extended_unit : (kind : Kind) → among (codes_of kind) ExtendedUserData ≡ true → among (codes_of kind) UserData ≡ true
unfolding codes_of number_of
extended_unit kind e = grind arith

slot_among : (kind : Kind) (c : Code) → among (codes_of kind) c ≡ true → among (codes_of kind) (slot_of c) ≡ true
unfolding slot_of
slot_among kind c e = grind (arith, extended_unit)

parameter_source : (kind : Kind) (raw : Known) (c : Code) (value v : List ℕ) (gives : Known) (d : Code) (b : Bool) →
    among (codes_of kind) c ≡ true → ParameterOf kind c value gives b → gives d ≡ Some v
    → ((x : Code) (w : List ℕ) → gives x ≡ Some w → raw x ≡ Some w) → IsOwned kind raw d
parameter_source kind raw c value v gives d true there m e within = group_source kind raw c value v gives d there m e within
parameter_source kind raw c value v gives d false there m e within =
    let same : d ≡ slot_of c = only_slot d (slot_of c) m.0 v (sym (ap (λ (k : Known). k d) m.2) ∙ e) in
    inl (rw same (slot_among kind c there))

unit_source : (kind : Kind) (raw : Known) (value v : List ℕ) (gives : Known) (d : Code) (o : Option Code) (n : ℕ) →
    code_among (codes_of kind) n ≡ o → KnownOf kind value gives o → gives d ≡ Some v
    → ((x : Code) (w : List ℕ) → gives x ≡ Some w → raw x ≡ Some w) → IsOwned kind raw d
unit_source kind raw value v gives d None n named m e within = absurd (let h : None ≡ Some v = sym (ap (λ (k : Known). k d) m) ∙ e in cc)
unit_source kind raw value v gives d (Some c) n named m e within =
    parameter_source kind raw c value v gives d (is_group c) (among_named (codes_of kind) n c named) m e within

pub owned : (kind : Kind) (raw : Known) (body v : List ℕ) (d : Code) → Spells (MeansInUnit kind) raw body → raw d ≡ Some v →
    IsOwned kind raw d
unfolding MeansInUnit
owned kind raw body v d s e =
    let from = source (MeansInUnit kind) s.parts raw d v s.each s.once e in
    unit_source kind raw from.part.value v from.part.gives d (code_among (codes_of kind) from.part.code) from.part.code refl from.is_part.2
    from.gives_it from.within

-- ---- an enclosure that is there

no_group : is_group Enclosure ≡ true → ⊥
unfolding is_group
no_group h = cc

no_user_data : is_same Enclosure UserData ≡ false
unfolding number_of
no_user_data = refl

no_enclosed_member : (kind : Kind) (g : Code) → among (members_of kind g) Enclosure ≡ false
unfolding members_of number_of
no_enclosed_member kind g = grind arith

-- a group gives none
group_encloses : (kind : Kind) (g : Code) (value v : List ℕ) (gives : Known) → is_group g ≡ true → GroupOf kind g value gives →
    gives Enclosure ≡ Some v → ⊥
group_encloses kind g value v gives group m e =
    elim (option_cases (only g [] Enclosure)) [
      | inl s ↦ no_group (ap is_group (only_slot Enclosure g [] s.0 s.1) ∙ group)
      | inr n ↦
          let k = m.2 Enclosure in
          let h = inner_source kind g value v m.0 Enclosure m.1 (grind arith) in
          let no = no_enclosed_member kind g in cc
    ]

parameter_encloses : (kind : Kind) (c : Code) (value v : List ℕ) (gives : Known) (b : Bool) → is_group c ≡ b →
    ParameterOf kind c value gives b → gives Enclosure ≡ Some v → is_enclosed kind (Some v) ≡ true
unfolding canonical_in may_enclose canonical number_of slot_of
parameter_encloses kind c value v gives true group m e = absurd (group_encloses kind c value v gives group m e)
parameter_encloses kind c value v gives false group m e =
    search (arith, slot_of, only_slot, cond, same_refl, canonical_in)

enclosed : (kind : Kind) (raw : Known) (body : List ℕ) (o : Option (List ℕ)) → Spells (MeansInUnit kind) raw body → raw Enclosure ≡ o →
    is_enclosed kind o ≡ true
unfolding MeansInUnit
enclosed kind raw body None s e = refl
enclosed kind raw body (Some v) s e = grind (arith, parameter_encloses, source (MeansInUnit kind) s.parts raw Enclosure v s.each s.once e)

-- ---- and so the unit is formed

settled_other : (raw : Known) (c : Code) → is_same c UserData ≡ false → settled raw c ≡ raw c
settled_other raw c e = rw e refl

-- a group that is there stays there
group_stays : (kind : Kind) (raw : Known) (g d : Code) → among (members_of kind g) d ≡ true → raw g ≡ Some [] → settled raw g ≡ Some []
unfolding members_of
group_stays kind raw g d h0 h1 = grind (arith, cases_Bool, same_true, settled_other)

pub any_at : (p : Code → Bool) (codes : List Code) (c : Code) → among codes c ≡ true → p c ≡ true → list_any p codes ≡ true
any_at p codes c there e = any_weaker (λ d. is_same c d) p codes (λ d t. ap p (sym (same_true c d t)) ∙ e) there

there_from : (kind : Kind) (raw : Known) (d : Code) → IsOwned kind raw d → may_be_there kind (settled raw) d ≡ true
there_from kind raw d (inl a) = grind (arith, or_left)
there_from kind raw d (inr q) = grind (arith, or_right, any_at, and_from, group_stays kind raw q.0 d q.2 q.3)

settled_some : (raw : Known) (d : Code) (o : Option (List ℕ)) → raw d ≡ o →
    (is_none (settled raw d) ≡ true) ⊎ ((v : List ℕ) × (raw d ≡ Some v))
settled_some raw d o h0 = grind (arith, cases_Bool)

-- mandatory parameters are no user data
required_stay : (raw : Known) (codes : List Code) → list_all (λ c. not (is_same c UserData)) codes ≡ true →
    AllByRecursion (λ c. IsSome (raw c)) codes → list_all (λ c. is_some (settled raw c)) codes ≡ true
required_stay raw [] plain there = refl
required_stay raw (c ∷ codes) plain there =
    let a = and_parts (not (is_same c UserData)) (list_all (λ d. not (is_same d UserData)) codes) plain in
    grind (arith, and_from, settled_other, not-true, required_stay raw codes a.1 there.1)

required_plain : (kind : Kind) → list_all (λ c. not (is_same c UserData)) (required_of kind) ≡ true
unfolding required_of number_of
required_plain kind = grind arith

unit_formed : (unit : Contents) (octets : List ℕ) → SpellsUnit unit octets → is_formed unit.kind unit.known ≡ true
unfolding is_formed
unit_formed unit octets s =
    let kind = unit.kind in
    let one : (c : Code) → (may_be_there kind (settled s.raw) c || is_none (settled s.raw c)) ≡ true =
    λ c. elim (settled_some s.raw c (s.raw c) refl) [
      | inl n ↦ or_right _ _ n
      | inr v ↦ or_left _ _ (there_from kind s.raw c (owned kind s.raw s.body v.0 c s.params v.1))
    ] in
    let all : list_all (λ c. may_be_there kind (settled s.raw) c || is_none (settled s.raw c)) every_code ≡ true = grind arith in
    let required = required_stay s.raw (required_of kind) (required_plain kind) s.required in
    let enclosure : is_enclosed kind (settled s.raw Enclosure) ≡ true =
    ap (is_enclosed kind) (settled_other s.raw Enclosure no_user_data) ∙ enclosed kind s.raw s.body (s.raw Enclosure) s.params refl in
    let same = s.value in rw same (and_from _ _ (and_from _ _ all required) enclosure)

-- a unit that was read is well formed
pub placed_formed : (second : Bool) (at : ℕ) (octets : List ℕ) (p : Placed) → IsOctets octets → unit_at second at octets ≡ Ok p →
    is_formed p.kind p.known ≡ true
placed_formed second at octets p fits e =
    let is = unit_found second at octets p fits e in
    unit_formed (contents_of p []) is.front (is.spelled [])
