-- The values in memory are in their written form.
use Rattle.osi_spdu.proofs.Vocabulary.{cases_Bool, and_parts, or_cases, not-true, eqb-true, ne_eqb, le-leb, lt-ltb, IsOctets, Code}
use Rattle.osi_spdu.proofs.Vocabulary.{ExtendedUserData, Kind, Params, Behind, Group, AllByRecursion, number_of, category_of, may_stand}
use Rattle.osi_spdu.proofs.Vocabulary.{canonical, Units, tsdu_at, HasInformation, AreBehind, StandTogether, SpellsTsdu, place_of, cells_of}
use Rattle.osi_spdu.proofs.Vocabulary.{slots_of, known_of, said_by, left_at, AreLeft, is_behind, units_from, units_behind, units_of}
use Rattle.osi_spdu.proofs.Vocabulary.{is_informed, is_joined, IsCanonical, IsFormedUnit, IsFormedTsdu, TsduFits, tsdu_octets}
use Rattle.osi_spdu.proofs.Vocabulary.{nil_from_length, ◌≡◌, ◌≤◌, ℕ, true, cond, List, [], length, Option, Some, None, Ok, option_map, refl}
use Rattle.osi_spdu.proofs.Vocabulary.{arith, Spdu}
use Rattle.osi_spdu.specs.declared.settings.Wish.TheVariants as wishes
use Rattle.osi_spdu.specs.declared.fields.SyncType as syncs
use Rattle.osi_spdu.specs.declared.fields.Enclosure as enclosures
use Rattle.osi_spdu.specs.declared.fields.ResyncType as resyncs
use Rattle.osi_spdu.proofs.tsdu.units_and_tsdus_are_read.{left_stands, second_stands, tsdu_read}
use Rattle.osi_spdu.proofs.tsdu.units_after_the_first.{left_empty}
use Rattle.osi_spdu.proofs.form.the_form_spells_its_unit.{units_written, tsdu_written}
use Rattle.osi_spdu.proofs.basics.digits_of_numbers.{numeral_digits}
use Rattle.osi_spdu.proofs.basics.values_of_one_octet.{token_bits_again}

slot_canonical : (p : Params) (c : Code) (v : List ℕ) → slots_of p c ≡ Some v → canonical c v ≡ Some v
unfolding slots_of cells_of place_of canonical
slot_canonical p c v e = search (arith, token_bits_again, numeral_digits, cond, ne_eqb, lt-ltb, le-leb)

no_extended : (p : Params) → known_of p ExtendedUserData ≡ None
unfolding known_of slots_of cells_of place_of number_of
no_extended p = refl

pub params_canonical : (p : Params) → IsCanonical (known_of p)
unfolding known_of number_of
params_canonical p = grind (arith, slot_canonical, cases_Bool, no_extended)

-- ---- units and groups

informed_from : (kind : Kind) (information : List ℕ) → is_informed kind information ≡ true → HasInformation kind information
informed_from kind information e = grind (arith, nil_from_length, eqb-true)

pub unit_formed : (u : Spdu) → IsFormedUnit (said_by u)
unit_formed u = search (arith, params_canonical, informed_from)

-- ---- the units after the first

-- the units after the first one
pub record IsFormedBehind (units : Units) : Type 0 where
  pub formed : AllByRecursion IsFormedUnit units
  pub behind : AreBehind units
  pub few : length units ≤ 16

behind_from : (next : Option Spdu) (room at : ℕ) (octets : List ℕ) → is_behind (option_map (λ s. s.kind) next) octets ≡ true →
    AreLeft room at octets → room ≤ 15 → IsFormedBehind (units_from next (left_at room at octets))
unfolding is_behind
behind_from None room at octets behind left few = record { formed = tt; behind = tt; few = omega arith }
behind_from (Some unit) room at octets behind left few =
    grind (
      arith,
      and_parts,
      second_stands,
      or_cases,
      not-true,
      left_empty,
      eqb-true,
      left_stands room at octets left.readable,
      unit_formed unit,
    )

pub behind_formed : (b : Behind) → IsFormedBehind (units_behind b)
behind_formed b = behind_from b.next b.room b.at b.rest.now b.stands b.left b.few

pub group_formed : (g : Group) → IsFormedTsdu (units_of g)
unfolding StandTogether is_joined may_stand
group_formed g =
    grind (arith, and_parts, behind_formed g.behind, left_at g.behind.room g.behind.at g.behind.rest.now, unit_formed g.first)

-- the first unit of a group has no information
pub group_plain : (g : Group) → g.first.information.now ≡ []
unfolding may_stand category_of is_joined
group_plain g = grind (arith, and_parts, unit_formed g.first)

-- the written form of a group spells it and reads back as it
pub group_spelled : (g : Group) → TsduFits (units_of g) → IsOctets (tsdu_octets (units_of g)) →
    SpellsTsdu (units_of g) (tsdu_octets (units_of g))
group_spelled g fits octets = tsdu_written (units_of g) (group_formed g) fits octets

pub group_read : (g : Group) → TsduFits (units_of g) → tsdu_at (tsdu_octets (units_of g)) ≡ Ok (units_of g)
group_read g fits = search (arith, tsdu_read, units_written, group_formed g, tsdu_octets (units_of g))
