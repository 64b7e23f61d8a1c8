-- An honest side never selects what the profile leaves out: its AC names units of the CN, and units that may be selected together.
-- For the law that an honest side is not blamed.
use Rattle.osi_side.proofs.Vocabulary.{◌≡◌, refl, sym, subst, ℕ, ◌+◌, ◌⊎◌, inl, inr, Bool, true, false, not, ◌&&◌, ◌||◌, is_none, List, []}
use Rattle.osi_side.proofs.Vocabulary.{◌∷◌, get_or, Option, Some, None, Result, Ok, Err, arith, bit_and, AllByRecursion, list_any}
use Rattle.osi_side.proofs.Vocabulary.{and_from, and_parts, cases_Bool, eq-eqb, eqb-true, and_assoc, SpduFault, Zero, Two, Kind, Meaning}
use Rattle.osi_side.proofs.Vocabulary.{CN, meaning_by, said_at, Word, Words, says, FunctionalUnits, State, Call, unit_asks, Hearing, Taker}
use Rattle.osi_side.proofs.Vocabulary.{respond_word, Listener, after_input, called, came, came_as, taker_of, is_answering, is_over}
use Rattle.osi_side.proofs.Vocabulary.{is_restarting, is_wait_cn, fine, respond_unit, functional_units, StandsAlone, alone_in_octets}
use Rattle.osi_side.proofs.Vocabulary.{passes, stands_alone, passed, excluded, call_cases, fault_cases, taken_cases, unit_cases}
use Rattle.osi_side.proofs.Vocabulary.{any_tsdu_keeps, tsdu_keeps, word_keeps, word_alone, word_at, in_first, offered_in}
use Rattle.osi_spdu.specs.Kinds.{category_of}
use Rattle.osi_spdu.specs.Known.{Known}
use Rattle.osi_session.specs.Listening.{react, unread}
use Rattle.osi_session.specs.Listening as listening
use Rattle.osi_session.specs.Respond.{becomes}
use Rattle.osi_session.specs.Units.{is_profile, units_within}

-- ---- units that may be selected together stay so when another side names them too

half_named : (a b c : Bool) → ((not a || b) && c) ≡ true → a ≡ true → b ≡ true
half_named a b c h e = grind arith

within_half : (a b : FunctionalUnits) → units_within a b ≡ true → a.half_duplex ≡ true → b.half_duplex ≡ true
unfolding units_within
within_half a b h e = half_named a.half_duplex b.half_duplex _ h e

within_duplex : (a b : FunctionalUnits) → units_within a b ≡ true → a.duplex ≡ true → b.duplex ≡ true
unfolding units_within
within_duplex a b h e = half_named a.duplex b.duplex _ (and_parts (not a.half_duplex || b.half_duplex) _ h).1 e

both_half : (offered accepted : ℕ) → bit_and accepted 185 ≡ accepted → bit_and accepted 1 ≡ 1 → bit_and offered 1 ≡ 1 →
    is_profile (bit_and offered accepted) ≡ true
unfolding is_profile
both_half offered accepted h k n = grind (arith, and_assoc, and_from, eq-eqb)

profile_cases : (bits : ℕ) → is_profile bits ≡ true → (bits ≡ 2) ⊎ ((bit_and bits 185 ≡ bits) × (bit_and bits 1 ≡ 1))
unfolding is_profile
profile_cases bits h = grind (arith, eqb-true, and_parts)

pub selected_inside : (offered accepted : ℕ) → is_profile accepted ≡ true →
    units_within (functional_units accepted) (functional_units offered) ≡ true → is_profile (bit_and offered accepted) ≡ true
selected_inside offered accepted p w = grind (arith, profile_cases, eqb-true, within_duplex, eq-eqb, both_half, within_half)

-- ---- the units of the CN that is answered

abbrev pub IsUnits : Option ℕ → FunctionalUnits → Type 0
IsUnits None units = Unit {0}
IsUnits (Some offered) units = units ≡ functional_units offered

-- while the CN is answered, its units are those of the first TSDU, if that was a CN
abbrev Answers : Option ℕ → State → Type 0
Answers first s = is_answering s.phase ≡ true → IsUnits first s.units

-- a CN is still awaited
abbrev Waits : Type 0 → State → Type 0
Waits W s = is_wait_cn s.phase ≡ true → W

becomes_answers : (first : Option ℕ) (s : State) (u : Meaning) → unit_asks u ≡ false → Answers first s → Answers first (becomes s u)
becomes_answers first s u n h = grind arith

becomes_waits : (W : Type 0) (s : State) (u : Meaning) → Waits W s → Waits W (becomes s u)
becomes_waits W s u h = search arith

unit_waits : (W : Type 0) (s : State) (u : Meaning) → Waits W s → Waits W (respond_unit s u).next
unit_waits W s u h =
    unit_cases (Waits W) s u
    (record { same = h; ended = λ a. λ k. absurd (cc); bad = λ a e. λ k. absurd (cc); good = λ a e x met. becomes_waits W s u h })

word_waits : (W : Type 0) (t : Taker) (w : Word) → Waits W t.state → Waits W (respond_word t w).next.state
word_waits W t w h = word_keeps (Waits W) t w (λ u a. unit_waits W t.state u h) (λ o. λ k. absurd (cc)) h

unit_answers : (first : Option ℕ) (s : State) (u : Meaning) → unit_asks u ≡ false → Answers first s → Answers first (respond_unit s u).next
unit_answers first s u n h = grind (arith, becomes_answers, unit_cases (Answers first) s u (grind (arith, becomes_answers)))

word_answers : (first : Option ℕ) (t : Taker) (w : Word) → passes unit_asks w ≡ false → Answers first t.state →
    Answers first (respond_word t w).next.state
word_answers first t w n h = word_keeps (Answers first) t w (λ u a. unit_answers first t.state u (grind arith) h)
    (λ o. λ k. absurd (cc)) h

-- ---- a CN, while one is awaited

or_true : (b : Bool) → (b || true) ≡ true
or_true b = grind arith

cn_leaves : (t : Taker) (u : Meaning) → unit_asks u ≡ true → is_wait_cn t.state.phase ≡ true →
    is_wait_cn (respond_word t (says u)).next.state.phase ≡ false
cn_leaves t (CN version_2 requirements serial wishes from to sizes octets) a w =
    let o = excluded is_wait_cn is_over refl t.state.phase w in
    let r = excluded is_wait_cn is_restarting refl t.state.phase w in
    let e = or_true (is_none t.joined) in
    subst (λ (h : Hearing). is_wait_cn h.next.state.phase ≡ false)
    (sym (word_at t (says (CN version_2 requirements serial wishes from to sizes octets)) fine (rw (o, r, w, e) refl)))
    (grind arith)
cn_leaves t _ a w = absurd (cc)

-- the first TSDU is no CN, or it is this one
abbrev IsAsked : Option ℕ → Meaning → Type 0
IsAsked first u = (first ≡ None) ⊎ (first ≡ offered_in u)

cn_becomes : (first : Option ℕ) (s : State) (u : Meaning) → unit_asks u ≡ true → IsAsked first u → Answers first (becomes s u)
cn_becomes first s (CN version_2 requirements serial wishes from to sizes octets) a i = grind arith
cn_becomes first s _ a i = absurd (cc)

cn_unit : (first : Option ℕ) (s : State) (u : Meaning) → unit_asks u ≡ true → (is_wait_cn s.phase ≡ true → IsAsked first u) →
    Answers first s → Answers first (respond_unit s u).next
cn_unit first s u n i h = unit_cases (Answers first) s u (grind (arith, cn_becomes))

cn_answers : (first : Option ℕ) (t : Taker) (u : Meaning) → unit_asks u ≡ true → (is_wait_cn t.state.phase ≡ true → IsAsked first u) →
    Answers first t.state
    → Answers first (respond_word t (says u)).next.state
cn_answers first t u n i h =
    word_keeps (Answers first) t (says u)
    (λ v a. subst (λ (m : Meaning). Answers first (respond_unit t.state m).next) (sym a) (cn_unit first t.state u n i h))
    (λ o. λ k. absurd (cc)) h

-- ---- a TSDU that is taken

abbrev pub first_asked : List (List ℕ) → Option ℕ
first_asked us = in_first offered_in (said_at (get_or us 0 []))

pub record AsAsked (us : List (List ℕ)) (taken : ℕ) (s : State) : Type 0 where
  pub waits : is_wait_cn s.phase ≡ true → (taken ≡ 0) ⊎ (first_asked us ≡ None)
  pub answers : is_answering s.phase ≡ true → IsUnits (first_asked us) s.units

-- no CN was the first TSDU, if this one is none
still_none : (us : List (List ℕ)) (taken : ℕ) (read : Result Words SpduFault) → read ≡ said_at (get_or us taken []) →
    in_first offered_in read ≡ None → (taken ≡ 0) ⊎ (first_asked us ≡ None)
    → (taken + 1 ≡ 0) ⊎ (first_asked us ≡ None)
still_none us taken read e n h = grind arith

not_offered : (m : Meaning) → unit_asks m ≡ false → offered_in m ≡ None
not_offered m n = grind arith

left_false : (a b : Bool) → (a || b) ≡ false → (a ≡ false) × (b ≡ false)
left_false a b e = grind arith

all_none : (words : Words) → list_any (passes unit_asks) words ≡ false → AllByRecursion (λ w. passes unit_asks w ≡ false) words
all_none [] n = tt
all_none (w ∷ words) n = let p = left_false (passes unit_asks w) (list_any (passes unit_asks) words) n in (p.0, all_none words p.1)

item_asks : (k : Kind) (known : Known) (information : List ℕ) → category_of k ≡ Zero → unit_asks (meaning_by k known information) ≡ false
unfolding category_of
item_asks k known information h0 = grind arith

behind_asks : (k : Kind) (known : Known) (information : List ℕ) → category_of k ≡ Two → unit_asks (meaning_by k known information) ≡ false
unfolding category_of
behind_asks k known information h0 = grind arith

asks_alone : StandsAlone unit_asks
asks_alone = record { item = item_asks; behind = behind_asks; plain = λ octets. refl }

-- a CN alone
abbrev IsCn : Words → Type 0
IsCn words = (u : Meaning) × (words ≡ says u ∷ []) × (unit_asks u ≡ true)

one_cn : (words : Words) → stands_alone unit_asks words ≡ true → list_any (passes unit_asks) words ≡ true → IsCn words
one_cn words s a = grind arith

no_cn_step : (us : List (List ℕ)) (l : Listener) (taken : ℕ) (words : Words) → Ok words ≡ said_at (get_or us taken []) →
    list_any (passes unit_asks) words ≡ false → AsAsked us taken l.state
    → AsAsked us (taken + 1) (after_input l (listening.taken words)).state
no_cn_step us l taken words e n h = record {
  waits = taken_cases (Waits ((taken + 1 ≡ 0) ⊎ (first_asked us ≡ None))) l words
      (any_tsdu_keeps (Waits ((taken + 1 ≡ 0) ⊎ (first_asked us ≡ None))) (taker_of l) words
      (word_waits ((taken + 1 ≡ 0) ⊎ (first_asked us ≡ None)))
      (λ k. still_none us taken (Ok words) e (grind (arith, not_offered, left_false, passes)) (h.waits k)));
  answers = taken_cases (Answers (first_asked us)) l words
      (tsdu_keeps (Answers (first_asked us)) (λ w. passes unit_asks w ≡ false) (taker_of l) words
      (λ r w q k. word_answers (first_asked us) r w q k) (all_none words n) h.answers);
}

this_asked : (us : List (List ℕ)) (taken : ℕ) (u : Meaning) → Ok (says u ∷ []) ≡ said_at (get_or us taken []) →
    (taken ≡ 0) ⊎ (first_asked us ≡ None) → IsAsked (first_asked us) u
this_asked us taken u e h = grind arith

cn_word : (us : List (List ℕ)) (t : Taker) (taken : ℕ) (u : Meaning) → Ok (says u ∷ []) ≡ said_at (get_or us taken []) →
    unit_asks u ≡ true → AsAsked us taken t.state
    → AsAsked us (taken + 1) (respond_word t (says u)).next.state
cn_word us t taken u e a h = record {
  waits = elim (cases_Bool (is_wait_cn t.state.phase)) [
    | inl w ↦ (λ k. absurd (let no = cn_leaves t u a w in cc))
    | inr w ↦ word_waits ((taken + 1 ≡ 0) ⊎ (first_asked us ≡ None)) t (says u) (λ k. absurd (cc))
  ];
  answers = cn_answers (first_asked us) t u a (λ k. this_asked us taken u e (h.waits k)) h.answers;
}

cn_step : (us : List (List ℕ)) (l : Listener) (taken : ℕ) (words : Words) → Ok words ≡ said_at (get_or us taken []) → IsCn words →
    AsAsked us taken l.state → AsAsked us (taken + 1) (after_input l (listening.taken words)).state
unfolding react
cn_step us l taken words e i h = grind (arith, word_alone, cn_word)

fault_step : (us : List (List ℕ)) (l : Listener) (taken : ℕ) (fault : SpduFault) → Err fault ≡ said_at (get_or us taken []) →
    AsAsked us taken l.state → AsAsked us (taken + 1) (after_input l (unread fault)).state
fault_step us l taken fault e h = record {
  waits = fault_cases (Waits ((taken + 1 ≡ 0) ⊎ (first_asked us ≡ None))) l fault (λ k. still_none us taken (Err fault) e refl (h.waits k))
      (λ o. λ k. absurd (cc));
  answers = fault_cases (Answers (first_asked us)) l fault h.answers (λ o. λ k. absurd (cc));
}

read_step : (us : List (List ℕ)) (l : Listener) (taken : ℕ) (read : Result Words SpduFault) → read ≡ said_at (get_or us taken []) →
    AsAsked us taken l.state → AsAsked us (taken + 1) (after_input l (came_as read)).state
read_step us l taken read e h = grind (arith, no_cn_step, cn_step, one_cn, alone_in_octets, asks_alone, passes, fault_step)

pub takes_as_asked : (us : List (List ℕ)) (l : Listener) (taken : ℕ) → AsAsked us taken l.state →
    AsAsked us (taken + 1) (after_input l (came (get_or us taken []))).state
takes_as_asked us l taken h = read_step us l taken (said_at (get_or us taken [])) refl h

-- ---- a call

pub calls_as_asked : (us : List (List ℕ)) (l : Listener) (taken : ℕ) (c : Call) → AsAsked us taken l.state →
    AsAsked us taken (after_input l (called c)).state
calls_as_asked us l taken c h = record {
  waits = call_cases (Waits ((taken ≡ 0) ⊎ (first_asked us ≡ None))) l c h.waits
      (λ x e. let q = passed l.state c x e in grind arith);
  answers = call_cases (Answers (first_asked us)) l c h.answers
      (λ x e. let q = passed l.state c x e in grind arith);
}
