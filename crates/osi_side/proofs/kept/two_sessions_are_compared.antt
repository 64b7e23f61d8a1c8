-- Two sessions are the same if the comparison says so, and only then: for the list of those that are kept, and for all that
-- compares two of them.
use Rattle.osi_side.proofs.Vocabulary.{◌≡◌, ◌≢◌, ◌∙◌, ◌==◌, ◌&&◌, ℕ, refl, sym, ap, Bool, true, false, MatchBool, if◌then◌else◌, Option}
use Rattle.osi_side.proofs.Vocabulary.{arith, and_from, and_parts, eq-eqb, eqb-true, TokenSetting, TsduMaximumSize, Tokens, Phase}
use Rattle.osi_side.proofs.Vocabulary.{WaitTransport, WaitCn, Connecting, Answering, Ready, MajorAsked, MajorDue, Releasing, ReleaseDue}
use Rattle.osi_side.proofs.Vocabulary.{Restarting, RestartDue, Aborting, Ended, Numbers, FunctionalUnits, State, same_bit, Seen, Member}
use Rattle.osi_side.proofs.Vocabulary.{same_count, same_member}
use Rattle.osi_session.specs.Same.{place_of, same_setting, same_tokens, same_units, same_numbers, same_sizes}
use Rattle.osi_session.specs.Same.{same_state}
use Rattle.osi_side.specs.Kept.{same_seen}

both : (x y : Bool) → (x && y) ≡ true → (x ≡ true) × (y ≡ true)
both x y e = and_parts x y e

each : {x y : Bool} → x ≡ true → y ≡ true → (x && y) ≡ true
each {x} {y} e f = and_from x y e f

-- ---- fields

bit_is : (a b : Bool) → same_bit a b ≡ true → a ≡ b
bit_is a b h = grind arith

bit_refl : (a : Bool) → same_bit a a ≡ true
bit_refl a = grind arith

count_is : (a b : Option ℕ) → same_count a b ≡ true → a ≡ b
count_is a b e = grind (arith, eqb-true)

phase_at : ℕ → Phase
phase_at n =
    if n == 0 then WaitTransport else if n == 1 then WaitCn else if n == 2 then Connecting else if n == 3 then Answering
    else if n == 4 then Ready else if n == 5 then MajorAsked else if n == 6 then MajorDue else if n == 7 then Releasing
    else if n == 8 then ReleaseDue else if n == 9 then Restarting else if n == 10 then RestartDue else if n == 11 then Aborting
    else Ended

there : (p : Phase) → phase_at (place_of p) ≡ p
unfolding phase_at
there p = grind arith

phase_is : (a b : Phase) → (place_of a == place_of b) ≡ true → a ≡ b
phase_is a b e = sym (there a) ∙ ap phase_at (eqb-true (place_of a) (place_of b) e) ∙ there b

-- ---- what is made of them

same_setting_is : (a b : TokenSetting) → same_setting a b ≡ true → a ≡ b
unfolding same_setting
same_setting_is a b e = search (arith, both)

same_setting_refl : (a : TokenSetting) → same_setting a a ≡ true
unfolding same_setting
same_setting_refl a = grind (arith, each)

same_tokens_is : (a b : Tokens) → same_tokens a b ≡ true → a ≡ b
unfolding same_tokens
same_tokens_is a b e = grind (arith, both, bit_is)

same_tokens_refl : (a : Tokens) → same_tokens a a ≡ true
unfolding same_tokens
same_tokens_refl a = grind (arith, each, bit_refl)

same_units_is : (a b : FunctionalUnits) → same_units a b ≡ true → a ≡ b
unfolding same_units
same_units_is a b e = search (arith, both, bit_is)

same_units_refl : (a : FunctionalUnits) → same_units a a ≡ true
unfolding same_units
same_units_refl a = grind (arith, each, bit_refl)

same_numbers_is : (a b : Numbers) → same_numbers a b ≡ true → a ≡ b
unfolding same_numbers
same_numbers_is a b e = grind (arith, both, eqb-true, bit_is)

same_numbers_refl : (a : Numbers) → same_numbers a a ≡ true
unfolding same_numbers
same_numbers_refl a = grind (arith, each, eq-eqb, bit_refl)

same_sizes_is : (a b : TsduMaximumSize) → same_sizes a b ≡ true → a ≡ b
unfolding same_sizes
same_sizes_is a b e = grind (arith, both, eqb-true)

same_sizes_refl : (a : TsduMaximumSize) → same_sizes a a ≡ true
unfolding same_sizes
same_sizes_refl a = grind (arith, each, eq-eqb)

same_state_is : (a b : State) → same_state a b ≡ true → a ≡ b
unfolding same_state
same_state_is a b e =
    let p0 = both _ _ e in
    let p1 = both _ _ p0.1 in
    let p2 = both _ _ p1.1 in
    let p3 = both _ _ p2.1 in
    let p4 = both _ _ p3.1 in
    let p5 = both _ _ p4.1 in
    let p6 = both _ _ p5.1 in
    let p7 = both _ _ p6.1 in
    λ i. record {
      phase = (phase_is a.phase b.phase p0.0) i;
      is_caller = (bit_is a.is_caller b.is_caller p1.0) i;
      units = (same_units_is a.units b.units p2.0) i;
      wishes = (same_setting_is a.wishes b.wishes p3.0) i;
      held = (same_tokens_is a.held b.held p4.0) i;
      proposed = (eqb-true a.proposed b.proposed p5.0) i;
      base = (eqb-true a.base b.base p6.0) i;
      numbers = (same_numbers_is a.numbers b.numbers p7.0) i;
      sizes = (same_sizes_is a.sizes b.sizes p7.1) i;
    }

same_state_refl : (a : State) → same_state a a ≡ true
unfolding same_state
same_state_refl a =
    grind (arith, each, eq-eqb, bit_refl, same_units_refl, same_setting_refl, same_tokens_refl, same_numbers_refl, same_sizes_refl)

same_seen_is : (a b : Seen) → same_seen a b ≡ true → a ≡ b
unfolding same_seen
same_seen_is a b e =
    let p0 = both _ _ e in
    grind (arith, both, count_is, bit_is, same_state_is a.state b.state p0.0)

same_seen_refl : (a : Seen) → same_seen a a ≡ true
unfolding same_seen
same_seen_refl a = grind (arith, each, same_state_refl, bit_refl)

-- ---- the comparison

-- a test in memory has the same answer
pub seen_told : (b : Bool) (s t : Seen) → MatchBool b (s ≡ t) (s ≢ t) → b ≡ same_seen s t
seen_told b s t h = grind (arith, same_seen_refl, same_seen_is)

-- another number of TSDUs, or another V(A)
pub apart : (m n : Member) → (m.standing.state.numbers.confirmed ≡ n.standing.state.numbers.confirmed → ⊥) → false ≡ same_member m n
apart m n h = by (same_seen m.standing n.standing) refl
  where
    by : (b : Bool) → same_seen m.standing n.standing ≡ b → false ≡ ((m.taken == n.taken) && b)
    by false e = sym (and_false (m.taken == n.taken))
      where
        and_false : (c : Bool) → (c && false) ≡ false
        and_false true = refl
        and_false false = refl
    by true e = absurd (h (ap (λ (s : Seen). s.state.numbers.confirmed) (same_seen_is m.standing n.standing e)))

pub same_place : (b : Bool) (m n : Member) → m.taken ≡ n.taken
    → MatchBool b (m.standing ≡ n.standing) (m.standing ≢ n.standing) → b ≡ same_member m n
same_place b m n e h = grind (arith, seen_told, eq-eqb)
