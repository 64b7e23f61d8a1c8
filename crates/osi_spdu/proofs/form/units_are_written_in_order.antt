-- Writing units one after the other, by a loop.
use Rattle.std.proofs.Common.{◌≡◌, ℕ, ◌+◌, ◌*◌, ◌<◌, ◌≤◌, List, [], ◌∷◌, ◌++◌, length, refl, sym, ap, subst, ◌∙◌, append_assoc, arith}
use Rattle.osi_spdu.proofs.Vocabulary.{AllByRecursion, length-append, append-nil, Contents, Units, AreBehind, unit_octets, tsdu_octets}
use Rattle.osi_spdu.proofs.Vocabulary.{IsFormedUnit, UnitFits, TsduFits}

pub octets_none : (units : Units) → units ≡ [] → tsdu_octets units ≡ []
unfolding tsdu_octets
octets_none units e = ap tsdu_octets e

pub octets_next : (units others : Units) (unit : Contents) → units ≡ unit ∷ others →
    tsdu_octets units ≡ unit_octets unit ++ (unit.information ++ tsdu_octets others)
unfolding tsdu_octets
octets_next units others unit e = ap tsdu_octets e

len_next : (units others : Units) (unit : Contents) → units ≡ unit ∷ others →
    length (tsdu_octets units) ≡ length (unit_octets unit) + (length unit.information + length (tsdu_octets others))
len_next units others unit e = grind (arith, length-append, unit_octets, tsdu_octets, octets_next units others unit e)

-- ---- one unit

pub one_octets : (units : Units) (unit : Contents) → units ≡ unit ∷ [] → tsdu_octets units ≡ unit_octets unit ++ unit.information
one_octets units unit e = grind (arith, unit_octets, octets_next units [] unit e, octets_none [] refl, append-nil unit.information)

pub one_len : (units : Units) (unit : Contents) → units ≡ unit ∷ [] →
    length (tsdu_octets units) ≡ length (unit_octets unit) + length unit.information
one_len units unit e = ap length (one_octets units unit e) ∙ length-append (unit_octets unit) unit.information

pub one_fits : (units : Units) (unit : Contents) → units ≡ unit ∷ [] → TsduFits units → UnitFits unit
one_fits units unit e fits = (let h : TsduFits (unit ∷ []) = subst TsduFits e fits in h.0)

-- ---- counting

-- the octets so far, and those of the units that are left; while units are left there was no information
pub record IsCountingUnits (units : Units) (len : ℕ) (all : Units) : Type 0 where
  pub counted : len + length (tsdu_octets units) ≡ length (tsdu_octets all)
  pub fits : TsduFits units
  pub formed : AllByRecursion IsFormedUnit units
  pub behind : AreBehind units
  pub few : length units ≤ 16
  pub small : 1 ≤ length units → len + 65540 * length units ≤ 65540 * 16

pub counting_start : (units : Units) → TsduFits units → AllByRecursion IsFormedUnit units → AreBehind units → length units ≤ 16 →
    IsCountingUnits units 0 units
counting_start units h0 h1 h2 h3 = grind arith

-- the first of the units that are left fits
pub record CountsNext (units : Units) (len : ℕ) (unit : Contents) (others all : Units) : Type 0 where
  pub fits : UnitFits unit
  pub small : len ≤ 65540 * 15
  pub next : length (unit_octets unit) < 65540 → IsCountingUnits others (len + (length (unit_octets unit) + length unit.information)) all

pub counts_next : {units others all : Units} {len : ℕ} {unit : Contents} → units ≡ unit ∷ others → IsCountingUnits units len all →
    CountsNext units len unit others all
counts_next e so_far = grind (arith, len_next)

pub counting_end : {units all : Units} {len : ℕ} → units ≡ [] → IsCountingUnits units len all → len ≡ length (tsdu_octets all)
counting_end {units = units} e so_far = (let n = ap length (octets_none units e) in let k = so_far.counted in omega arith)

-- ---- putting

-- what is put so far, followed by the rest, is what was there before, followed by all; the same for the room
pub record IsPuttingUnits (units : Units) (items : List ℕ) (spare : ℕ) (all : Units) (before : List ℕ) (room : ℕ) : Type 0 where
  pub put : items ++ tsdu_octets units ≡ before ++ tsdu_octets all
  pub fits : TsduFits units
  pub enough : length (tsdu_octets units) ≤ spare
  pub left : spare + length (tsdu_octets all) ≡ room + length (tsdu_octets units)

pub putting_start : (units : Units) (items : List ℕ) (spare : ℕ) → TsduFits units → length (tsdu_octets units) ≤ spare →
    IsPuttingUnits units items spare units items spare
putting_start units items spare fits enough = record { put = refl; fits = fits; enough = enough; left = refl }

pub record PutsNext (units : Units) (items : List ℕ) (spare : ℕ) (unit : Contents) (others all : Units) (before : List ℕ) (room : ℕ) : Type
    0 where
  pub fits : UnitFits unit
  pub enough : length (unit_octets unit) + length unit.information ≤ spare
  pub next : (less : ℕ) → less + (length (unit_octets unit) + length unit.information) ≡ spare →
      IsPuttingUnits others ((items ++ unit_octets unit) ++ unit.information) less all before room

puts_cons : (items : List ℕ) (spare : ℕ) (unit : Contents) (others all : Units) (before : List ℕ) (room : ℕ) →
    IsPuttingUnits (unit ∷ others) items spare all before room
    → PutsNext (unit ∷ others) items spare unit others all before room
puts_cons items spare unit others all before room so_far =
    grind (
      arith,
      append_assoc,
      len_next (unit ∷ others) others unit refl,
      unit_octets unit,
      tsdu_octets others,
      tsdu_octets (unit ∷ others),
      octets_next (unit ∷ others) others unit refl,
    )

pub puts_next : {units others all : Units} {items before : List ℕ} {spare room : ℕ} {unit : Contents} → units ≡ unit ∷ others →
    IsPuttingUnits units items spare all before room → PutsNext units items spare unit others all before room
puts_next {others = others} {all = all} {items = items} {before = before} {spare = spare} {room = room} {unit = unit} e so_far =
    subst (λ (us : Units). PutsNext us items spare unit others all before room) (sym e)
    (puts_cons items spare unit others all before room (subst (λ (us : Units). IsPuttingUnits us items spare all before room) e so_far))

pub putting_end : {units all : Units} {items before : List ℕ} {spare room : ℕ} → units ≡ [] →
    IsPuttingUnits units items spare all before room → (items ≡ before ++ tsdu_octets all) × (spare + length (tsdu_octets all) ≡ room)
putting_end e so_far = grind (arith, append-nil, octets_none)

-- ---- the first unit, which has no information

pub first_octets : (unit : Contents) (others : Units) → unit.information ≡ [] →
    tsdu_octets (unit ∷ others) ≡ unit_octets unit ++ tsdu_octets others
first_octets unit others e = grind (arith, unit_octets, octets_next (unit ∷ others) others unit refl, tsdu_octets others)

pub first_len : (unit : Contents) (others : Units) → unit.information ≡ [] →
    length (tsdu_octets (unit ∷ others)) ≡ length (unit_octets unit) + length (tsdu_octets others)
first_len unit others e = ap length (first_octets unit others e) ∙ length-append (unit_octets unit) (tsdu_octets others)
