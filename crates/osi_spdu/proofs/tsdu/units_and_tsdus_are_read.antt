-- Units and TSDUs: reading is sound and complete.
use Rattle.osi_spdu.proofs.Vocabulary.{is_ok, IsSome, flat_map, AllByRecursion, eqb-true, append-nil, IsOctets, SpduFault, Code, Kind}
use Rattle.osi_spdu.proofs.Vocabulary.{Category, Two, si_of, category_of, required_of, kind_named, may_stand, Known, nothing, settled}
use Rattle.osi_spdu.proofs.Vocabulary.{Contents, Units, ◌>>=◌, Measured, measured_at, params_of, in_unit, all_there, indicator_len, Placed}
use Rattle.osi_spdu.proofs.Vocabulary.{placed_kind, unit_at, contents_of, takes_rest, Next, next_if, next_at, behind_at, tsdu_at}
use Rattle.osi_spdu.proofs.Vocabulary.{length_octets, part_octets, item_octets, MeansInUnit, SpellsUnit, HasInformation, EndsTsdu}
use Rattle.osi_spdu.proofs.Vocabulary.{AreBehind, MayFollow, StandTogether, AreUnits, SpellsTsdu, left_at, ◌≡◌, ℕ, zero, suc, ◌+◌, ◌≤◌}
use Rattle.osi_spdu.proofs.Vocabulary.{Bool, true, false, List, [], ◌∷◌, ◌++◌, length, Option, Some, Result, Ok, refl, sym, ap, subst, ◌∙◌}
use Rattle.osi_spdu.proofs.Vocabulary.{arith}
use Rattle.osi_spdu.proofs.basics.the_steps_of_reading.{bind_ok, bind_of, ok_is}
use Rattle.osi_spdu.proofs.basics.length_indicators.{octets-tail, measured_ok, measured_again, chosen}
use Rattle.osi_spdu.proofs.parameters.one_level_is_read.{params_found, params_only, unit_follows}

-- ---- kinds

si_named : (second : Bool) (si : ℕ) (kind : Kind) → kind_named second si ≡ Some kind → si_of kind ≡ si
unfolding kind_named
si_named second si kind e = eqb-true (si_of kind) si (grind arith)

pub named_back : (second : Bool) (kind : Kind) → may_stand second (category_of kind) ≡ true → kind_named second (si_of kind) ≡ Some kind
unfolding kind_named si_of may_stand category_of
named_back second kind h0 = grind arith

placed_ok : (second : Bool) (at : ℕ) (o : Option Kind) (kind : Kind) → placed_kind second at o ≡ Ok kind →
    (o ≡ Some kind) × (may_stand second (category_of kind) ≡ true)
placed_ok second at o kind h0 = grind (arith, chosen, ok_is)

-- ---- mandatory parameters

there_ok : (at : ℕ) (codes : List Code) (known more : Known) → all_there at codes known ≡ Ok more →
    (more ≡ known) × AllByRecursion (λ c. IsSome (known c)) codes
unfolding all_there
there_ok at [] known more e = (sym (ok_is known more e), tt)
there_ok at (c ∷ codes) known more e = grind (arith, there_ok at codes known more)

there_back : (at : ℕ) (codes : List Code) (known : Known) → AllByRecursion (λ c. IsSome (known c)) codes →
    all_there at codes known ≡ Ok known
unfolding all_there
there_back at [] known all = refl
there_back at (c ∷ codes) known all = rw all.0 (there_back at codes known all.1)

-- ---- the steps of reading a unit

-- a unit of this kind whose parameters are these
abbrev pub placed : Kind → ℕ → Measured → Known → Placed
placed kind at m whole = record { kind = kind; known = settled whole; end = at + (1 + m.used + length m.value); rest = m.rest }

abbrev pub required_in : Kind → ℕ → Measured → Known → Result Placed SpduFault
required_in kind at m raw = all_there at (required_of kind) raw >>= λ whole. Ok (placed kind at m whole)

abbrev pub value_in : Kind → ℕ → Measured → Result Placed SpduFault
value_in kind at m = params_of (in_unit kind) (at + (1 + m.used)) nothing m.value >>= λ raw. required_in kind at m raw

abbrev pub body_in : Kind → ℕ → List ℕ → Result Placed SpduFault
body_in kind at octets = measured_at at octets >>= λ m. value_in kind at m

-- what each step gave
pub record UnitSteps (second : Bool) (at si : ℕ) (octets : List ℕ) (p : Placed) : Type 0 where
  pub kind : Kind
  pub m : Measured
  pub raw : Known
  pub named : kind_named second si ≡ Some kind
  pub stands : may_stand second (category_of kind) ≡ true
  pub measured : measured_at at octets ≡ Ok m
  pub params : params_of (in_unit kind) (at + (1 + m.used)) nothing m.value ≡ Ok raw
  pub there : AllByRecursion (λ c. IsSome (raw c)) (required_of kind)
  pub is : p ≡ placed kind at m raw

pub unit_steps : (second : Bool) (at si : ℕ) (octets : List ℕ) (p : Placed) → unit_at second at (si ∷ octets) ≡ Ok p →
    UnitSteps second at si octets p
unfolding unit_at
unit_steps second at si octets p e =
    let a = bind_ok (placed_kind second at (kind_named second si)) (λ kind. body_in kind at octets) p e in
    let b = bind_ok (measured_at at octets) (λ m. value_in a.0 at m) p a.2 in
    let c = bind_ok (params_of (in_unit a.0) (at + (1 + b.0.used)) nothing b.0.value) (λ raw. required_in a.0 at b.0 raw) p b.2 in
    let d = bind_ok (all_there at (required_of a.0) c.0) (λ whole. Ok (placed a.0 at b.0 whole)) p c.2 in
    let named = placed_ok second at (kind_named second si) a.0 a.1 in
    let there = there_ok at (required_of a.0) c.0 d.0 d.1 in
    record {
      kind = a.0;
      m = b.0;
      raw = c.0;
      named = named.0;
      stands = named.1;
      measured = b.1;
      params = c.1;
      there = there.1;
      is = sym (ok_is (placed a.0 at b.0 d.0) p d.2) ∙ ap (placed a.0 at b.0) there.0;
    }

-- ---- one unit

pub record IsUnitAt (second : Bool) (octets : List ℕ) (p : Placed) : Type 0 where
  pub front : List ℕ
  pub parts : octets ≡ front ++ p.rest
  pub spelled : (information : List ℕ) → SpellsUnit (contents_of p information) front
  pub stands : may_stand second (category_of p.kind) ≡ true
  pub rest_octets : IsOctets p.rest

pub unit_found : (second : Bool) (at : ℕ) (octets : List ℕ) (p : Placed) → IsOctets octets → unit_at second at octets ≡ Ok p →
    IsUnitAt second octets p
unfolding unit_at
unit_found second at [] p fits e = absurd cc
unit_found second at (si ∷ octets) p fits e =
    let s = unit_steps second at si octets p e in
    let is = measured_ok at octets s.m (octets-tail si octets fits) s.measured in
    let r = params_found (in_unit s.kind) (MeansInUnit s.kind) (unit_follows s.kind) (length s.m.value) (at + (1 + s.m.used)) nothing s.raw
    s.m.value (omega arith) is.value_octets s.params in
    let made : IsUnitAt second (si ∷ octets) (placed s.kind at s.m s.raw) = record {
      front = item_octets (si_of s.kind) is.long s.m.value;
      parts = rw (si_named second si s.kind s.named) (ap (λ (t : List ℕ). si ∷ t) is.parts);
      spelled = λ information. record {
        long = is.long;
        body = s.m.value;
        raw = s.raw;
        whole = refl;
        counted = is.counted;
        params = record { parts = r.parts; whole = r.whole; each = r.each; once = r.once };
        required = s.there;
        value = refl;
      };
      stands = s.stands;
      rest_octets = is.rest_octets;
    } in
    subst (λ (x : Placed). IsUnitAt second (si ∷ octets) x) (sym s.is) made

pub unit_only : (second : Bool) (at : ℕ) (unit : Contents) (front rest : List ℕ) → SpellsUnit unit front →
    may_stand second (category_of unit.kind) ≡ true
    → (end : ℕ) × (unit_at second at (front ++ rest) ≡ Ok (record { kind = unit.kind; known = unit.known; end = end; rest = rest }))
unfolding unit_at
unit_only second at unit front rest s stands =
    let kind = unit.kind in
    let used = indicator_len s.long in
    let tail = length_octets s.long (length s.body) ++ s.body ++ rest in
    let m : Measured = record { used = used; value = s.body; rest = rest } in
    let named : placed_kind second at (kind_named second (si_of kind)) ≡ Ok kind = rw (named_back second kind stands, stands) refl in
    let read : params_of (in_unit kind) (at + (1 + used)) nothing s.body ≡ Ok s.raw =
    subst (λ (b : List ℕ). params_of (in_unit kind) (at + (1 + used)) nothing b ≡ Ok s.raw) (sym s.params.whole)
    (params_only (in_unit kind) (MeansInUnit kind) (unit_follows kind) (length (flat_map part_octets s.params.parts)) (at + (1 + used))
    nothing s.raw s.params.parts (omega arith) s.params.each s.params.once) in
    let want : Placed = record (placed kind at m s.raw) { known = unit.known } in
    let whole : unit_at second at (item_octets (si_of kind) s.long s.body ++ rest) ≡ Ok want =
    bind_of (placed_kind second at (kind_named second (si_of kind))) (λ k. body_in k at tail) kind (Ok want) named
    (bind_of (measured_at at tail) (λ x. value_in kind at x) m (Ok want) (measured_again at s.long s.body rest s.counted)
    (bind_of (params_of (in_unit kind) (at + (1 + used)) nothing s.body) (λ raw. required_in kind at m raw) s.raw (Ok want) read
    (bind_of (all_there at (required_of kind) s.raw) (λ w. Ok (placed kind at m w)) s.raw (Ok want)
    (there_back at (required_of kind) s.raw s.required)
    (ap (λ (k : Known). Ok (let r : Placed = record (placed kind at m s.raw) { known = k } in r)) (sym s.value))))) in
    (want.end, subst (λ (f : List ℕ). unit_at second at (f ++ rest) ≡ Ok want) (sym s.whole) whole)

-- ---- a unit after another

pub second_stands : (category : Category) → may_stand true category ≡ true → category ≡ Two
unfolding may_stand
second_stands category e = grind arith

pub two_second : (category : Category) → category ≡ Two → may_stand true category ≡ true
unfolding may_stand
two_second category e = rw e refl

pub informed_plain : (kind : Kind) (information : List ℕ) → takes_rest kind ≡ false → HasInformation kind information → information ≡ []
informed_plain kind information e h = grind arith

-- octets that begin with a unit of category 2 and its user information
record IsNext (octets : List ℕ) (n : Next) : Type 0 where
  front : List ℕ
  parts : octets ≡ front ++ (n.unit.information ++ n.rest)
  spelled : SpellsUnit n.unit front
  informed : HasInformation n.unit.kind n.unit.information
  rest_octets : IsOctets n.rest

next_is : (octets : List ℕ) (p : Placed) (b : Bool) → takes_rest p.kind ≡ b → IsUnitAt true octets p → IsNext octets (next_if b p)
next_is octets p b e is = grind (arith, append-nil)

next_found : (at : ℕ) (octets : List ℕ) (n : Next) → IsOctets octets → next_at at octets ≡ Ok n → IsNext octets n
unfolding next_at
next_found at octets n h0 h1 = grind (arith, bind_ok, ok_is, next_is, unit_found)

next_if_only : (unit : Contents) (end : ℕ) (rest : List ℕ) (b : Bool) → takes_rest unit.kind ≡ b →
    HasInformation unit.kind unit.information → (takes_rest unit.kind ≡ true → rest ≡ [])
    → (end' : ℕ) ×
    (next_if b (let p : Placed = record { kind = unit.kind; known = unit.known; end = end; rest = unit.information ++ rest } in p) ≡
    (let n : Next = record { unit = unit; end = end'; rest = rest } in n))
next_if_only unit end rest true e h ends = (end + length (unit.information ++ rest), (let none = ends e in grind (arith, append-nil)))
next_if_only unit end rest false e h ends = (end, grind (arith, informed_plain))

next_only : (at : ℕ) (unit : Contents) (front rest : List ℕ) → SpellsUnit unit front → HasInformation unit.kind unit.information →
    category_of unit.kind ≡ Two
    → (takes_rest unit.kind ≡ true → rest ≡ [])
    → (end : ℕ) × (next_at at (front ++ (unit.information ++ rest)) ≡ Ok (record { unit = unit; end = end; rest = rest }))
unfolding next_at
next_only at unit front rest s h two ends =
    let u = unit_only true at unit front (unit.information ++ rest) s (two_second (category_of unit.kind) two) in
    let n = next_if_only unit u.0 rest (takes_rest unit.kind) refl h ends in
    (n.0, grind (arith, bind_of, u.1, n.1))

-- ---- the units after the first

pub behind_found : (room at : ℕ) (octets : List ℕ) (units : Units) → IsOctets octets → behind_at room at octets ≡ Ok units →
    AreUnits units octets
unfolding behind_at
behind_found room at [] units fits e = grind (arith, ok_is)
behind_found zero at (si ∷ octets) units fits e = absurd cc
behind_found (suc room) at (si ∷ octets) units fits e =
    let a = bind_ok (next_at at (si ∷ octets)) (λ n. behind_at room n.end n.rest >>= λ others. Ok (n.unit ∷ others)) units e in
    let b = bind_ok (behind_at room a.0.end a.0.rest) (λ others. Ok (a.0.unit ∷ others)) units a.2 in
    let is = next_found at (si ∷ octets) a.0 fits a.1 in
    let r = behind_found room a.0.end a.0.rest b.0 is.rest_octets b.1 in
    grind (arith, ok_is)

-- which units may occur there, whatever the octets are
stands_ok : (second : Bool) (at : ℕ) (octets : List ℕ) (p : Placed) → unit_at second at octets ≡ Ok p →
    may_stand second (category_of p.kind) ≡ true
unfolding unit_at
stands_ok second at [] p e = absurd cc
stands_ok second at (si ∷ octets) p e =
    let s = unit_steps second at si octets p e in
    subst (λ (x : Placed). may_stand second (category_of x.kind) ≡ true) (sym s.is) s.stands

-- a unit of category 2; nothing follows it if it is a DT
record IsSecond (n : Next) : Type 0 where
  two : category_of n.unit.kind ≡ Two
  ends : (units : Units) → (n.rest ≡ [] → units ≡ []) → EndsTsdu n.unit.kind units

second_is : (p : Placed) (b : Bool) → takes_rest p.kind ≡ b → may_stand true (category_of p.kind) ≡ true → IsSecond (next_if b p)
second_is p b e s = grind (arith, second_stands, category_of)

second_found : (at : ℕ) (octets : List ℕ) (n : Next) → next_at at octets ≡ Ok n → IsSecond n
unfolding next_at
second_found at octets n h0 = grind (arith, bind_ok, ok_is, second_is, stands_ok)

pub behind_stands : (room at : ℕ) (octets : List ℕ) (units : Units) → behind_at room at octets ≡ Ok units →
    AreBehind units × (length units ≤ room)
unfolding behind_at
behind_stands room at [] units e = grind (arith, ok_is)
behind_stands zero at (si ∷ octets) units e = absurd cc
behind_stands (suc room) at (si ∷ octets) units e =
    let a = bind_ok (next_at at (si ∷ octets)) (λ n. behind_at room n.end n.rest >>= λ others. Ok (n.unit ∷ others)) units e in
    let n = a.0 in
    let b = bind_ok (behind_at room n.end n.rest) (λ others. Ok (n.unit ∷ others)) units a.2 in
    let is = second_found at (si ∷ octets) n a.1 in
    let r = behind_stands room n.end n.rest b.0 b.1 in
    let ends = is.ends b.0 (λ h. sym (ok_is [] b.0 (sym (ap (behind_at room n.end) h) ∙ b.1))) in
    grind (arith, ok_is)

-- a unit is never empty, so octets with a unit begin with an octet
pub behind_cons : (room at : ℕ) (front tail : List ℕ) (unit : Contents) → SpellsUnit unit front
    → behind_at (suc room) at
    (front ++ tail) ≡ (next_at at (front ++ tail) >>= λ n. behind_at room n.end n.rest >>= λ others. Ok (n.unit ∷ others))
unfolding behind_at
behind_cons room at front tail unit s = grind arith

none_spelled : (units : Units) (octets : List ℕ) → units ≡ [] → AreUnits units octets → octets ≡ []
none_spelled units octets e s = grind arith

pub behind_only : (room at : ℕ) (units : Units) (octets : List ℕ) → AreUnits units octets → AreBehind units → length units ≤ room →
    behind_at room at octets ≡ Ok units
unfolding behind_at
behind_only room at [] octets s are few = ap (behind_at room at) s
behind_only zero at (unit ∷ units) octets s are few = absurd (omega arith)
behind_only (suc room) at (unit ∷ units) octets s are few =
    let ends : takes_rest unit.kind ≡ true → s.1 ≡ [] = λ t. none_spelled units s.1 (grind arith) s.5 in
    let n = next_only at unit s.0 s.1 s.3 s.4 are.0 ends in
    let others = behind_only room n.0 units s.1 s.5 are.2 (omega arith) in
    let one = behind_cons room at s.0 (unit.information ++ s.1) unit s.3 in
    ap (behind_at (suc room) at) s.2 ∙ one ∙ (grind (arith, bind_of, n.1))

-- ---- a TSDU

pub not_second : (category : Category) → may_stand false category ≡ true → category ≡ Two → ⊥
unfolding may_stand
not_second category e h = grind arith

-- a first unit with those after it
first_found : (octets : List ℕ) (p : Placed) (behind : Units) → IsOctets octets → IsUnitAt false octets p →
    MayFollow (category_of p.kind) behind → AreBehind behind → AreUnits behind p.rest
    → SpellsTsdu (contents_of p [] ∷ behind) octets
unfolding SpellsTsdu StandTogether
first_found octets p behind fits is follow are spelled = grind arith

pub tsdu_found : (octets : List ℕ) (units : Units) → IsOctets octets → tsdu_at octets ≡ Ok units → SpellsTsdu units octets
unfolding tsdu_at
tsdu_found octets units h0 h1 = grind (arith, bind_ok, behind_stands, ok_is, first_found, behind_found, not_second, unit_found)

-- ---- and back

first_stands : (category : Category) (behind : Units) → MayFollow category behind → may_stand false category ≡ true
unfolding may_stand
first_stands category behind h = grind arith

first_plain : (kind : Kind) → may_stand false (category_of kind) ≡ true → takes_rest kind ≡ false
unfolding may_stand category_of
first_plain kind e = grind arith

-- units that may occur together are read; this needs no bound on the numbers of the list
pub tsdu_read : (units : Units) (octets : List ℕ) → StandTogether units → AreUnits units octets → tsdu_at octets ≡ Ok units
unfolding tsdu_at StandTogether
tsdu_read [] octets together u = absurd together
tsdu_read (first ∷ behind) octets together u =
    let stands = first_stands (category_of first.kind) behind together.0 in
    let empty = informed_plain first.kind first.information (first_plain first.kind stands) u.4 in
    let whole : octets ≡ u.0 ++ u.1 = u.2 ∙ ap (λ (t : List ℕ). u.0 ++ (t ++ u.1)) empty in
    let one = unit_only false 0 first u.0 u.1 u.3 stands in
    grind (arith, bind_of, behind_only, none_spelled, one.1)

pub tsdu_only : (units : Units) (octets : List ℕ) → SpellsTsdu units octets → tsdu_at octets ≡ Ok units
unfolding SpellsTsdu
tsdu_only units octets s = tsdu_read units octets s.1 s.2

-- ---- the units that are left

-- octets that can be read are the units that are left
pub left_read : (room at : ℕ) (octets : List ℕ) → is_ok (behind_at room at octets) ≡ true →
    behind_at room at octets ≡ Ok (left_at room at octets)
unfolding left_at
left_read room at octets e = grind arith

pub left_stands : (room at : ℕ) (octets : List ℕ) → is_ok (behind_at room at octets) ≡ true →
    AreBehind (left_at room at octets) × (length (left_at room at octets) ≤ room)
left_stands room at octets e = behind_stands room at octets (left_at room at octets) (left_read room at octets e)
