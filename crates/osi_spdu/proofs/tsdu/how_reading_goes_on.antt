-- How the reader of a TSDU continues after the first unit.
use Rattle.osi_spdu.proofs.Vocabulary.{IfOk, IsOkAnd, IsOctets, SpduFault, TrailingOctets, Kind, category_of, may_stand, Category, Zero}
use Rattle.osi_spdu.proofs.Vocabulary.{Group, Contents, Units, Params, known_of, is_formed, is_joined, IsFormedTsdu, TsduFits, Gives}
use Rattle.osi_spdu.proofs.Vocabulary.{Placed, unit_at, continued, tsdu_at, SpellsTsdu, placed_of, units_of, Known, ◌≡◌, ℕ, Bool, true}
use Rattle.osi_spdu.proofs.Vocabulary.{false, List, [], length, Some, Result, Ok, Err, refl, arith, Found}
use Rattle.osi_spdu.specs.Kept.{followed_at}
use Rattle.osi_spdu.proofs.basics.the_steps_of_reading.{ok_is}
use Rattle.osi_spdu.proofs.form.what_is_read_has_a_form.{placed_formed}
use Rattle.osi_spdu.proofs.form.values_in_memory_are_in_their_form.{group_formed}
use Rattle.osi_spdu.proofs.form.what_was_read_fits.{tsdu_fits}
use Rattle.osi_spdu.proofs.tsdu.units_and_tsdus_are_read.{tsdu_found, tsdu_only}

pub found_formed : (params : Params) (r : Result Found SpduFault) (second : Bool) (at : ℕ) (octets : List ℕ) → IsOctets octets →
    Gives (placed_of params) r (unit_at second at octets)
    → IfOk r (λ f. is_formed f.kind (known_of params) ≡ true)
found_formed params (Ok f) second at octets fits e = placed_formed second at octets (placed_of params f) fits e
found_formed params (Err d) second at octets fits e = tt

-- ---- after the first unit

pub tsdu_goes : (octets : List ℕ) (p : Placed) → unit_at false 0 octets ≡ Ok p → tsdu_at octets ≡ continued (category_of p.kind) p
unfolding tsdu_at
tsdu_goes octets p e = rw e refl

abbrev pub unit_with : Kind → Known → Contents
unit_with kind known = record { kind = kind; known = known; information = [] }

pub tsdu_followed : (octets : List ℕ) (p : Placed) (known : Known) → unit_at false 0 octets ≡ Ok p → category_of p.kind ≡ Zero →
    known ≡ p.known → tsdu_at octets ≡ followed_at (unit_with p.kind known) p.end p.rest
unfolding followed_at
tsdu_followed octets p known e zero same = grind (arith, tsdu_goes octets p e)

pub continued_trailing : (category : Category) (p : Placed) → (category ≡ Zero → ⊥) → (length p.rest ≡ 0 → ⊥) →
    continued category p ≡ Err (TrailingOctets p.end)
continued_trailing category p other h = grind arith

-- ---- the laws, at what a reader returned

pub all_found : (r : Result Group SpduFault) (octets : List ℕ) → IsOctets octets → Gives units_of r (tsdu_at octets) →
    IfOk r (λ g. SpellsTsdu (units_of g) octets)
all_found r octets fits e = grind (arith, tsdu_found)

pub all_only : (r : Result Group SpduFault) (octets : List ℕ) → Gives units_of r (tsdu_at octets) → (units : Units) →
    SpellsTsdu units octets → IsOkAnd r (λ g. units_of g ≡ units)
all_only r octets e units s = grind (arith, tsdu_only, ok_is)

-- ---- which units may occur together

pub joined_ok : (first second : Kind) → category_of first ≡ Zero → may_stand true (category_of second) ≡ true →
    is_joined first (Some second) ≡ true
unfolding is_joined may_stand
joined_ok first second h0 h1 = grind arith

pub all_fits : (r : Result Group SpduFault) (octets : List ℕ) → IsOctets octets → Gives units_of r (tsdu_at octets) →
    IfOk r (λ g. TsduFits (units_of g))
all_fits (Ok g) octets fits e = tsdu_fits (units_of g) octets (tsdu_found octets (units_of g) fits e)
all_fits (Err d) octets fits e = tt

pub all_formed : (r : Result Group SpduFault) → IfOk r (λ g. IsFormedTsdu (units_of g))
all_formed r = grind (arith, group_formed)
