-- An AC that a side may send is what a call of Accept sends, if its functional units and sizes are those of such a call.
-- For the law that what may be said is called.
use Rattle.osi_blameless.proofs.accord.Vocabulary.{arith, Bool, if◌then◌else◌, length, List, nat_le, None, Ok, Option, refl, Some, subst}
use Rattle.osi_blameless.proofs.accord.Vocabulary.{sym, true}
use Rattle.osi_blameless.proofs.accord.Vocabulary.{unwrap_or, ℕ, ◌&&◌, ◌∙◌, ◌≡◌, and_parts, are_sizes, TsduMaximumSize, TokenSetting, Wish}
use Rattle.osi_blameless.proofs.accord.Vocabulary.{AC}
use Rattle.osi_blameless.proofs.accord.Vocabulary.{Meaning, over_calls, after, Answer, base_for, may_call, most_of, octets_of, opened_with}
use Rattle.osi_blameless.proofs.accord.Vocabulary.{sends}
use Rattle.osi_blameless.proofs.accord.Vocabulary.{Accept, Call, is_answering, allows, of_answerer, settled, stated_side, answered}
use Rattle.osi_blameless.proofs.accord.Vocabulary.{fits_limit}
use Rattle.osi_blameless.proofs.accord.Vocabulary.{smaller, accepting_in, fits_user_data, said_message, functional_units, has_data}
use Rattle.osi_blameless.proofs.accord.Vocabulary.{is_profile}
use Rattle.osi_blameless.proofs.accord.Vocabulary.{FunctionalUnits, Sides, State, as_called, has_size_of, has_sizes_of, is_called}
use Rattle.osi_session.specs.Units.{units_within, both_units}
use Rattle.osi_session.specs.Sizes.{answered_sizes, smaller_sizes}
use Rattle.osi_session.specs.Sides.{answers_wishes, settle, stated}
use Rattle.osi_session.specs.Allowed.{allowed, met}

-- a call is allowed that sends this message and leads to this state
pub record Calls (s : State) (m : Meaning) (next : State) : Type 0 where
  pub call : Call
  pub allows : allowed s call ≡ Ok (record { next = next; sent = m })

-- the call is allowed, if its TSDU is within the size agreed
pub allowed_is : (s : State) (c : Call) → may_call s.phase c ≡ true → nat_le (length (octets_of c)) (most_of c) ≡ true →
    fits_limit s c (sends s c) ≡ true → met s c ≡ Ok (record { next = after s c; sent = sends s c }) →
    allowed s c ≡ Ok (record { next = after s c; sent = sends s c })
unfolding allowed
allowed_is s c p z f m = rw (over_calls c s.phase p, p, z, f, m) refl

-- ---- what an AC settles

within_both : (a b : FunctionalUnits) → units_within a b ≡ true → both_units b a ≡ a
unfolding units_within both_units
within_both a b h = search (arith, and_parts)

one_settled : (b : Bool) (w a : Wish) → allows b w a ≡ true → settled b w (stated_side b a) ≡ stated_side b a
one_settled b w a h = grind arith

-- what an AC states answers the wishes, so it is settled so
settled_stated : (u : FunctionalUnits) (w sides : TokenSetting) → answers_wishes u w sides ≡ true →
    settle u w (stated u sides) ≡ stated u sides
unfolding answers_wishes settle stated
settled_stated u w sides h = grind (arith, and_parts, one_settled)

one_size : (asked given : ℕ) → has_size_of asked given ≡ true → smaller asked given ≡ answered asked given
one_size asked given h = grind arith

same_sizes : (asked given : TsduMaximumSize) → has_sizes_of asked given ≡ true → smaller_sizes asked given ≡ answered_sizes asked given
unfolding smaller_sizes answered_sizes
same_sizes asked given h = grind (arith, and_parts, one_size)

-- ---- the call

if_some : (b : Bool) (x n : State) → (if b then Some x else None) ≡ Some n → (b ≡ true) × (x ≡ n)
if_some b x n h = grind arith

-- what an accepted call gives
abbrev given : State → Call → Answer
given s c = Ok (record { next = after s c; sent = sends s c })

accept_met : (s : State) (requirements serial : ℕ) (sides : Sides) (sizes : TsduMaximumSize) (octets : List ℕ) →
    (units_within (functional_units requirements) s.units && is_profile requirements) ≡ true →
    met s (Accept requirements serial sides sizes octets) ≡ given s (Accept requirements serial sides sizes octets)
unfolding met
accept_met s requirements serial sides sizes octets h = rw h refl

pub accepted_as : (s : State) (version_2 : Bool) (requirements : ℕ) (serial : Option ℕ) (sides : TokenSetting) (sizes : TsduMaximumSize)
    (octets : List ℕ) (n : State) → said_message s (AC version_2 requirements serial sides sizes octets) ≡ Some n →
    is_called s (AC version_2 requirements serial sides sizes octets) ≡ true →
    Calls s (as_called s (AC version_2 requirements serial sides sizes octets)) n
accepted_as s version_2 requirements serial sides sizes octets n h c =
    let u = functional_units requirements in
    let own = and_parts (units_within u s.units && is_profile requirements) (has_sizes_of s.sizes sizes) c in
    let within = and_parts (units_within u s.units) (is_profile requirements) own.0 in
    let said : accepting_in u s version_2 serial sides sizes octets ≡ Some n =
    subst (λ (v : FunctionalUnits). accepting_in v s version_2 serial sides sizes octets ≡ Some n) (within_both u s.units within.0) h in
    let left = if_some (is_answering s.phase && (fits_user_data octets &&
    ((version_2 && (has_data u && are_sizes sizes)) && answers_wishes u s.wishes sides))) _ n said in
    let p = and_parts (is_answering s.phase) _ left.0 in
    let q = and_parts (fits_user_data octets) _ p.1 in
    let w = and_parts (version_2 && (has_data u && are_sizes sizes)) (answers_wishes u s.wishes sides) q.1 in
    let same = settled_stated u s.wishes sides w.1 in
    let size = same_sizes s.sizes sizes own.1 in
    let call = Accept requirements (unwrap_or serial s.proposed) (stated u sides) sizes octets in
    let there : after s call ≡ n =
    (λ i. opened_with u (of_answerer u (same i)) (base_for u (unwrap_or serial s.proposed)) (sym size i) s) ∙ left.1 in
    record {
      call = call;
      allows = grind (arith, allowed_is, accept_met, unwrap_or);
    }
