-- Parameters of one level: reading is sound and complete.
use Rattle.osi_spdu.proofs.Vocabulary.{flat_map, AllByRecursion, length-append, IsOctets, Code, Kind, number_of, is_same, is_group, slot_of}
use Rattle.osi_spdu.proofs.Vocabulary.{members_of, canonical, may_enclose, canonical_in, Known, nothing, put, ◌>>=◌, measured_at, Taking}
use Rattle.osi_spdu.proofs.Vocabulary.{params_at, params_of, stored, indicator_len, member_taken, in_group, parameter_taken, in_unit, Part}
use Rattle.osi_spdu.proofs.Vocabulary.{part_octets, Sole, IsPart, Spells, only, MemberOf, MeansInGroup, GroupOf, ParameterOf, KnownOf}
use Rattle.osi_spdu.proofs.Vocabulary.{MeansInUnit, ◌≡◌, ℕ, zero, suc, ◌+◌, ◌<◌, ◌≤◌, Bool, true, false, cond, List, [], ◌∷◌, ◌++◌, length}
use Rattle.osi_spdu.proofs.Vocabulary.{map, Option, Some, None, Ok, refl, sym, subst, ◌∙◌, arith, Fills, add-zero, ap, append_assoc}
use Rattle.osi_spdu.proofs.Vocabulary.{append-nil}
use Rattle.osi_spdu.proofs.basics.options_that_are_added.{Joins, merged, first, sole_one, sole_same, sole_step, sole_back, sole_joins}
use Rattle.osi_spdu.proofs.basics.options_that_are_added.{sole_split, sole_join, joins_both, joins_apart, put_joins, joins_merged}
use Rattle.osi_spdu.proofs.basics.the_steps_of_reading.{bind_ok, bind_of, ok_is, guard_ok, is_none_of, none_is, same_true, same_refl}
use Rattle.osi_spdu.proofs.basics.length_indicators.{octets-tail, measured_ok, measured_again}

-- each slot is unchanged, or has the given value added
abbrev pub JoinsAll : Known → Known → Known → Type 0
JoinsAll gives before after = (c : Code) → Joins (gives c) (before c) (after c)

-- reading one parameter at a level agrees with its meaning
pub record Follows (taking : Taking) (means : ℕ → List ℕ → Known → Type 0) : Type 0 where
  pub takes : (at body code : ℕ) (value : List ℕ) (known more : Known) → IsOctets value → taking at body code value known ≡ Ok more
      → (gives : Known) × means code value gives × JoinsAll gives known more
  pub back : (at body code : ℕ) (value : List ℕ) (gives known more : Known) → means code value gives → JoinsAll gives known more
      → taking at body code value known ≡ Ok more

pub len_of_part : (p : Part) → length (part_octets p) ≡ 1 + indicator_len p.long + length p.value
len_of_part p = grind (arith, length-append)

pub params_found : (taking : Taking) (means : ℕ → List ℕ → Known → Type 0) → Follows taking means →
    (n at : ℕ) (known more : Known) (octets : List ℕ)
    → length octets ≤ n → IsOctets octets → params_at taking n at known octets ≡ Ok more → Fills means known octets more
unfolding params_at
params_found taking means follows n at known more [] le fits e = grind (arith, ok_is, sole_one)
params_found taking means follows zero at known more (code ∷ octets) le fits e = absurd (omega arith)
params_found taking means follows (suc n) at known more (code ∷ octets) le fits e =
    let a = bind_ok (measured_at at octets) _ more e in
    let m = a.0 in
    let b = bind_ok (taking at (at + (1 + m.used)) code m.value known) _ more a.2 in
    let is = measured_ok at octets m (octets-tail code octets fits) a.1 in
    let one = follows.takes at (at + (1 + m.used)) code m.value known b.0 is.value_octets b.1 in
    let rest = params_found taking means follows n (at + (1 + m.used + length m.value)) b.0 more m.rest (omega (arith, is.shorter))
    is.rest_octets b.2 in
    let part : Part = record { code = code; long = is.long; value = m.value; gives = one.0 } in
    let byte : code < 256 = fits 0 in
    record {
      parts = part ∷ rest.parts;
      whole = grind arith;
      each = ((byte, is.counted, one.1), rest.each);
      once = λ c. sole_back (one.0 c) (known c) (b.0 c) (map (λ p. p.gives c) rest.parts) (more c) (one.2 c) (rest.once c);
    }

-- parameters in front are read, and reading goes on behind them
pub front_read : (taking : Taking) (means : ℕ → List ℕ → Known → Type 0) → Follows taking means →
    (n at : ℕ) (known more : Known) (parts : List Part) (rest : List ℕ)
    → length (flat_map part_octets parts ++ rest) ≤ n → AllByRecursion (IsPart means) parts →
    ((c : Code) → Sole (known c ∷ map (λ p. p.gives c) parts) (more c))
    → (k : ℕ) × (length rest ≤ k) ×
    (params_at taking n at known (flat_map part_octets parts ++ rest) ≡ params_at taking k (at + length (flat_map part_octets parts)) more
    rest)
unfolding params_at
front_read taking means follows n at known more [] rest le each once =
    (n, le, λ i. params_at taking n (sym (add-zero at) i) (λ c. sym (sole_same (known c) (more c) (once c)) i) rest)
front_read taking means follows zero at known more (p ∷ parts) rest le each once = absurd (omega arith)
front_read taking means follows (suc n) at known more (p ∷ parts) rest le each once =
    let mid : Known = λ c. merged (known c) (p.gives c) in
    let joins : JoinsAll p.gives known mid = λ c. sole_joins (p.gives c) (known c) (map (λ q. q.gives c) parts) (more c) (once c) in
    let others = flat_map part_octets parts in
    let after = at + (1 + indicator_len p.long + length p.value) in
    let one = follows.back at (at + (1 + indicator_len p.long)) p.code p.value p.gives known mid each.0.2 joins in
    let len = len_of_part p in
    let front = length-append (part_octets p) others in
    let all = length-append (part_octets p) (others ++ rest) in
    let assoc : flat_map part_octets (p ∷ parts) ++ rest ≡ part_octets p ++ (others ++ rest) = append_assoc (part_octets p) others rest in
    let count = ap length assoc in
    let r = front_read taking means follows n after mid more parts rest (omega arith) each.1
    (λ c. sole_step (p.gives c) (known c) (mid c) (map (λ q. q.gives c) parts) (more c) (joins c) (once c)) in
    let offset : after + length others ≡ at + length (flat_map part_octets (p ∷ parts)) = omega arith in
    (r.0, r.1, grind (arith, params_at, bind_of, measured_at, measured_again))

pub params_only : (taking : Taking) (means : ℕ → List ℕ → Known → Type 0) → Follows taking means →
    (n at : ℕ) (known more : Known) (parts : List Part)
    → length (flat_map part_octets parts) ≤ n → AllByRecursion (IsPart means) parts →
    ((c : Code) → Sole (known c ∷ map (λ p. p.gives c) parts) (more c))
    → params_at taking n at known (flat_map part_octets parts) ≡ Ok more
unfolding params_at
params_only taking means follows n at known more parts le each once =
    let all = append-nil (flat_map part_octets parts) in
    let le' : length (flat_map part_octets parts ++ []) ≤ n = rw all le in
    ap (params_at taking n at known) (sym all) ∙ (front_read taking means follows n at known more parts [] le' each once).2

-- ---- one parameter

-- a value that was stored found its slot free
pub stored_ok : (kind : Kind) (at : ℕ) (c : Code) (value : List ℕ) (known more : Known) → stored kind at c value known ≡ Ok more
    → (form : List ℕ) × (canonical_in kind c value ≡ Some form) × (more ≡ put (slot_of c) form known) ×
    JoinsAll (only (slot_of c) form) known more
unfolding stored
stored_ok kind at c value known more h0 = grind (arith, guard_ok, ok_is, is_none_of, put_joins, same_true, JoinsAll)

pub stored_back : (kind : Kind) (at : ℕ) (c : Code) (value form : List ℕ) (known more : Known) → canonical_in kind c value ≡ Some form →
    JoinsAll (only (slot_of c) form) known more
    → stored kind at c value known ≡ Ok more
unfolding stored
stored_back kind at c value form known more h0 h1 = grind (arith, same_refl, none_is)

-- ---- within a group

member_takes : (kind : Kind) (at : ℕ) (value : List ℕ) (known more : Known) (o : Option Code) → member_taken kind at value known o ≡ Ok more
    → (gives : Known) × MemberOf kind value gives o × JoinsAll gives known more
member_takes kind at value known more None e = (nothing, refl, grind arith)
member_takes kind at value known more (Some c) e = search (arith, stored_ok kind at c value known more e, slot_of c)

member_back : (kind : Kind) (at : ℕ) (value : List ℕ) (gives known more : Known) (o : Option Code) → MemberOf kind value gives o →
    JoinsAll gives known more
    → member_taken kind at value known o ≡ Ok more
member_back kind at value gives known more None m j = grind arith
member_back kind at value gives known more (Some c) m j =
    stored_back kind at c value m.0 known more m.1 (subst (λ (g : Known). JoinsAll g known more) m.2 j)

pub group_follows : (kind : Kind) (members : List Code) → Follows (in_group kind members) (MeansInGroup kind members)
unfolding in_group MeansInGroup
group_follows kind members = search (arith, member_takes, member_back)

-- ---- within a unit

pub group_slot : (c : Code) → is_group c ≡ true → slot_of c ≡ c
unfolding is_group slot_of
group_slot c h0 = grind arith

pub group_form : (kind : Kind) (c : Code) (value : List ℕ) → is_group c ≡ true → canonical_in kind c value ≡ Some []
unfolding is_group canonical canonical_in may_enclose number_of
group_form kind c value h0 = grind arith

group_takes : (kind : Kind) (body : ℕ) (c : Code) (value : List ℕ) (known mid more : Known) → IsOctets value →
    JoinsAll (only c []) known mid
    → params_of (in_group kind (members_of kind c)) body mid value ≡ Ok more →
    (gives : Known) × GroupOf kind c value gives × JoinsAll gives known more
group_takes kind body c value known mid more fits joins e =
    let members = members_of kind c in
    let r = params_found (in_group kind members) (MeansInGroup kind members) (group_follows kind members) (length value) body mid more value
    (omega arith) fits e in
    let inner : Known = λ d. first (map (λ p. p.gives d) r.parts) in
    let split = λ (d : Code). sole_split (mid d) (map (λ p. p.gives d) r.parts) (more d) (r.once d) in
    let both = λ (d : Code). joins_both (only c [] d) (inner d) (known d) (mid d) (more d) (joins d) ((split d).1) in
    let spelled : Spells (MeansInGroup kind members) inner value =
    record { parts = r.parts; whole = r.whole; each = r.each; once = λ d. (split d).0 } in
    ((λ d. first (only c [] d ∷ inner d ∷ [])), (inner, spelled, λ d. (both d).0), λ d. (both d).1)

group_back : (kind : Kind) (at body : ℕ) (c : Code) (value : List ℕ) (gives known more : Known) → is_group c ≡ true →
    GroupOf kind c value gives → JoinsAll gives known more
    → (stored kind at c value known >>= λ mid. params_of (in_group kind (members_of kind c)) body mid value) ≡ Ok more
group_back kind at body c value gives known more is m j =
    let members = members_of kind c in
    let mid : Known = put c [] known in
    let apart = λ (d : Code). joins_apart (only c [] d) (m.0 d) (gives d) (known d) (more d) (m.2 d) (j d) in
    let same = λ (d : Code). joins_merged (is_same d c) [] (known d) ((apart d).0) in
    let presence : JoinsAll (only c []) known mid = λ d. let s = same d in rw s at ((apart d).0) in
    let contents : JoinsAll m.0 mid more = λ d. let s = same d in rw s at ((apart d).1) in
    let one : stored kind at c value known ≡ Ok mid =
    stored_back kind at c value [] known mid (group_form kind c value is)
    (let s = group_slot c is in rw s presence) in
    let read : params_of (in_group kind members) body mid (flat_map part_octets m.1.parts) ≡ Ok more =
    params_only (in_group kind members) (MeansInGroup kind members) (group_follows kind members) (length (flat_map part_octets m.1.parts))
    body mid more m.1.parts (omega arith) m.1.each
    (λ d. sole_join (m.0 d) (mid d) (map (λ p. p.gives d) m.1.parts) (more d) (m.1.once d) (contents d)) in
    grind (arith, bind_of, stored, in_group)

opened_takes : (kind : Kind) (at body : ℕ) (c : Code) (value : List ℕ) (known more : Known) (b : Bool) → is_group c ≡ b → IsOctets value
    → (stored kind at c value known >>= λ mid. cond b (params_of (in_group kind (members_of kind c)) body mid value) (Ok mid)) ≡ Ok more
    → (gives : Known) × ParameterOf kind c value gives b × JoinsAll gives known more
opened_takes kind at body c value known more true is fits e =
    let a = bind_ok (stored kind at c value known) (λ mid. params_of (in_group kind (members_of kind c)) body mid value) more e in
    let s = stored_ok kind at c value known a.0 a.1 in
    let form : s.0 ≡ [] = (let h : Some s.0 ≡ Some [] = sym s.1 ∙ group_form kind c value is in cc) in
    let joins : JoinsAll (only c []) known a.0 = grind (arith, group_slot, slot_of) in
    group_takes kind body c value known a.0 more fits joins a.2
opened_takes kind at body c value known more false is fits e =
    let a = bind_ok (stored kind at c value known) (λ mid. Ok mid) more e in
    let s = stored_ok kind at c value known a.0 a.1 in
    (only (slot_of c) s.0, (s.0, s.1, refl), subst (λ (m : Known). JoinsAll (only (slot_of c) s.0) known m) (ok_is a.0 more a.2) s.3)

opened_back : (kind : Kind) (at body : ℕ) (c : Code) (value : List ℕ) (gives known more : Known) (b : Bool) → is_group c ≡ b →
    ParameterOf kind c value gives b → JoinsAll gives known more
    → (stored kind at c value known >>= λ mid. cond b (params_of (in_group kind (members_of kind c)) body mid value) (Ok mid)) ≡ Ok more
opened_back kind at body c value gives known more true is m j = group_back kind at body c value gives known more is m j
opened_back kind at body c value gives known more false is m j =
    bind_of (stored kind at c value known) (λ mid. Ok mid) more (Ok more)
    (stored_back kind at c value m.0 known more m.1 (subst (λ (g : Known). JoinsAll g known more) m.2 j)) refl

parameter_takes : (kind : Kind) (at body : ℕ) (value : List ℕ) (known more : Known) (o : Option Code) → IsOctets value →
    parameter_taken kind at body value known o ≡ Ok more
    → (gives : Known) × KnownOf kind value gives o × JoinsAll gives known more
parameter_takes kind at body value known more None fits e = (nothing, refl, grind arith)
parameter_takes kind at body value known more (Some c) fits e = opened_takes kind at body c value known more (is_group c) refl fits e

parameter_back : (kind : Kind) (at body : ℕ) (value : List ℕ) (gives known more : Known) (o : Option Code) → KnownOf kind value gives o →
    JoinsAll gives known more
    → parameter_taken kind at body value known o ≡ Ok more
parameter_back kind at body value gives known more None m j = grind arith
parameter_back kind at body value gives known more (Some c) m j = opened_back kind at body c value gives known more (is_group c) refl m j

pub unit_follows : (kind : Kind) → Follows (in_unit kind) (MeansInUnit kind)
unfolding in_unit MeansInUnit
unit_follows kind = search (arith, parameter_takes, parameter_back)
