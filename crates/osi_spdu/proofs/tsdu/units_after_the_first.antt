-- Units after the first one, given one after the other.
use Rattle.osi_spdu.proofs.Vocabulary.{AllByRecursion, result_unwrap_or, and_parts, or_right, eq-eqb, SpduFault, Kind, Zero, Two}
use Rattle.osi_spdu.proofs.Vocabulary.{kind_named, category_of, may_stand, Units, ◌>>=◌, Next, next_at, behind_at, crowded, takes_rest}
use Rattle.osi_spdu.proofs.Vocabulary.{is_joined, IsFormedUnit, left_at, AreLeft, is_behind, Contents, Behind, units_from, units_behind}
use Rattle.osi_spdu.proofs.Vocabulary.{◌≡◌, ℕ, ◌-◌, ◌≤◌, not, true, List, [], ◌∷◌, length, drop, get_or, Option, Some, None, Result, Ok}
use Rattle.osi_spdu.proofs.Vocabulary.{Err, refl, sym, ap, subst, ◌∙◌, arith, Spdu, GivesBehind}
use Rattle.osi_spdu.proofs.tsdu.units_and_tsdus_are_read.{left_read, second_stands}

abbrev Read : Type 0
Read = Result Units SpduFault

abbrev with_first : Next → Read → Read
with_first n others = others >>= λ us. Ok (n.unit ∷ us)

-- ---- one step

pub behind_none : (room at : ℕ) (octets : List ℕ) → length octets ≡ 0 → behind_at room at octets ≡ Ok []
unfolding behind_at
behind_none room at octets e = grind arith

pub behind_full : (room at : ℕ) (octets : List ℕ) → room ≡ 0 → 1 ≤ length octets →
    behind_at room at octets ≡ Err (crowded at (kind_named true (get_or octets 0 0)))
unfolding behind_at
behind_full room at octets h0 h1 = grind arith

behind_step : (room at : ℕ) (octets : List ℕ) → 1 ≤ room → 1 ≤ length octets →
    behind_at room at octets ≡ (next_at at octets >>= λ n. with_first n (behind_at (room - 1) n.end n.rest))
unfolding behind_at
behind_step room at octets h0 h1 = grind arith

pub behind_bad : (room at : ℕ) (octets : List ℕ) (f : SpduFault) → 1 ≤ room → 1 ≤ length octets → next_at at octets ≡ Err f →
    behind_at room at octets ≡ Err f
behind_bad room at octets f one some e = grind (arith, behind_step, behind_at)

-- ---- the units that are left

left_of : (room at : ℕ) (octets : List ℕ) (units : Units) → behind_at room at octets ≡ Ok units → left_at room at octets ≡ units
unfolding left_at
left_of room at octets units e = ap (λ (r : Read). result_unwrap_or r []) e

are_left : (room at : ℕ) (octets : List ℕ) (units : Units) → behind_at room at octets ≡ Ok units → AllByRecursion IsFormedUnit units →
    AreLeft room at octets
are_left room at octets units h0 h1 = grind (arith, left_of)

pub left_none : (room at : ℕ) (octets : List ℕ) → length octets ≡ 0 → AreLeft room at octets
left_none room at octets e = are_left room at octets [] (behind_none room at octets e) tt

pub left_empty : (room at : ℕ) (octets : List ℕ) → length octets ≡ 0 → left_at room at octets ≡ []
left_empty room at octets e = left_of room at octets [] (behind_none room at octets e)

-- the first of the units that are left, and those after it
pub record GoesOn (room at : ℕ) (octets : List ℕ) (n : Next) : Type 0 where
  pub some : 1 ≤ room
  pub left : AreLeft (room - 1) n.end n.rest
  pub given : left_at room at octets ≡ n.unit ∷ left_at (room - 1) n.end n.rest

pub left_goes : (room at : ℕ) (octets : List ℕ) (n : Next) → 1 ≤ length octets → AreLeft room at octets → next_at at octets ≡ Ok n →
    GoesOn room at octets n
left_goes room at octets n some left e = grind (arith, left_read, behind_at, left_at, behind_step, left_of, are_left, behind_full)

pub left_never_bad : (room at : ℕ) (octets : List ℕ) (f : SpduFault) → 1 ≤ length octets → AreLeft room at octets →
    next_at at octets ≡ Err f → ⊥
left_never_bad room at octets f h0 h1 h2 = grind (arith, behind_full, behind_bad)

-- ---- reading on, as a loop does

-- a result for the octets from here on is the result for those from the start
pub record Leads (whole start : ℕ) (octets : List ℕ) (room at : ℕ) (rest : List ℕ) : Type 0 where
  pub left : AreLeft room at rest → AreLeft whole start octets
  pub refused : (f : SpduFault) → behind_at room at rest ≡ Err f → behind_at whole start octets ≡ Err f

pub leads_start : (room at : ℕ) (octets : List ℕ) → Leads room at octets room at octets
leads_start room at octets = record { left = λ h. h; refused = λ f h. h }

pub leads_next : (whole start : ℕ) (octets : List ℕ) (room at : ℕ) (rest : List ℕ) (n : Next) → Leads whole start octets room at rest →
    1 ≤ room → 1 ≤ length rest → next_at at rest ≡ Ok n → IsFormedUnit n.unit
    → Leads whole start octets (room - 1) n.end n.rest
leads_next whole start octets room at rest n leads one some e formed = grind (arith, are_left, left_at, behind_at, behind_step, left_read)

-- ---- one unit and those after it

pub one_stands : (kind : Kind) → category_of kind ≡ Two → is_behind (Some kind) [] ≡ true
unfolding is_behind may_stand
one_stands kind two = rw two (or_right (not (takes_rest kind)) true refl)

pub nothing_stands : (octets : List ℕ) → length octets ≡ 0 → is_behind None octets ≡ true
unfolding is_behind
nothing_stands octets e = eq-eqb (length octets) 0 e

pub none_stands : is_behind None [] ≡ true
unfolding is_behind
none_stands = refl

pub others_bad : (room at : ℕ) (octets : List ℕ) (n : Next) (f : SpduFault) → 1 ≤ room → 1 ≤ length octets → next_at at octets ≡ Ok n →
    behind_at (room - 1) n.end n.rest ≡ Err f → behind_at room at octets ≡ Err f
others_bad room at octets n f one some e h = (grind (arith, behind_step, behind_at)) ∙ ap (with_first n) h

pub others_read : (room at : ℕ) (octets : List ℕ) (n : Next) → 1 ≤ room → 1 ≤ length octets → next_at at octets ≡ Ok n →
    AreLeft (room - 1) n.end n.rest → behind_at room at octets ≡ Ok (n.unit ∷ left_at (room - 1) n.end n.rest)
others_read room at octets n one some e left = grind (arith, behind_step, behind_at, left_read)

-- ---- which units may occur together

pub joined_two : (first second : Kind) → is_joined first (Some second) ≡ true → category_of second ≡ Two
unfolding is_joined
joined_two first second e = grind (arith, and_parts, second_stands)

pub joined_behind : (first : Kind) (next : Option Kind) (rest : List ℕ) → category_of first ≡ Zero → is_behind next rest ≡ true →
    is_joined first next ≡ true
unfolding is_joined is_behind may_stand
joined_behind first next rest h0 h1 = grind (arith, and_parts)

-- ---- the first of the units, borrowed, and those after it

pub first_apart : (u : Contents) (us others : Units) → us ≡ u ∷ others → us ≡ u ∷ drop 1 us
first_apart u us others e = subst (λ (l : Units). l ≡ u ∷ drop 1 l) (sym e) refl

pub none_after_one : (next : Option Spdu) (others : Units) → others ≡ [] → [] ≡ drop 1 (units_from next others)
none_after_one next others e = grind arith

pub others_given : (old : Behind) (next : Option Spdu) (new : Behind) → GivesBehind old next new →
    units_behind new ≡ drop 1 (units_behind old)
others_given old next new e = grind arith
