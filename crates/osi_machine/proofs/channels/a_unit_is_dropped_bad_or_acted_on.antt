-- A unit is discarded, or is a fault, or is acted on; and what each of these leaves of its taker.
-- For all that follows a unit through a channel.
use Rattle.osi_machine.proofs.Vocabulary.{◌≡◌, refl, sym, subst, ℕ, Bool, true, false, not, if◌then◌else◌, List, [], ◌∷◌, None, arith, ap}
use Rattle.osi_machine.proofs.Vocabulary.{◌&&◌, and_parts, not-true, not-false, State, Phase, Aborting, Ended, Meaning, Outcome, Condition}
use Rattle.osi_machine.proofs.Vocabulary.{is_over, first_fault, becomes, nothing, good, take_expected, respond_unit, without_tokens, drops}
use Rattle.osi_machine.proofs.Vocabulary.{AllMet, Good, next, is_acted_on, Fits, is_restart_due, is_expected, is_plain, stops, hears}
use Rattle.osi_machine.proofs.basics.what_holds_in_each_phase.{by_test}

-- a unit without a fault meets all its conditions, and conversely
pub all_met : (n : ℕ) (cs : List Condition) → first_fault n cs ≡ None → AllMet cs
all_met n [] h = tt
all_met n (c ∷ cs) h = grind (arith, all_met n cs)

-- the conditions for acting on it
pub record Acted (s : State) (u : Meaning) : Type 0 where
  pub lives : is_over s.phase ≡ false
  pub heeds : drops s u ≡ false
  pub good : Good s u

pub acted : (s : State) (u : Meaning) → is_acted_on s u ≡ true → Acted s u
acted s u h = grind (arith, and_parts, not-true, all_met)

pub is_acted : (s : State) (u : Meaning) → Acted s u → is_acted_on s u ≡ true
is_acted s u h = grind arith

-- the state after a unit: the same, or the end, or the abort, or what the table says of a unit that is acted on
pub record Leaves (P : Bool → State → Type 0) (s : State) (u : Meaning) : Type 0 where
  pub same : P false s
  pub ended : P false (without_tokens Ended s)
  pub bad : P false (without_tokens Aborting s)
  pub good : Acted s u → P true (becomes s u)

-- a unit that is acted on is answered as the table says
pub acts_good : (s : State) (u : Meaning) → Acted s u → respond_unit s u ≡ good s u
unfolding respond_unit take_expected
acts_good s u h = grind arith

pub not_acted : (P : State → Type 0) (s : State) (u : Meaning) → is_acted_on s u ≡ false → P s → P (without_tokens Ended s)
    → P (without_tokens Aborting s)
    → P (respond_unit s u).next
unfolding respond_unit take_expected
not_acted P s u n same ended bare = grind (arith, is_acted, not-false, all_met)

pub unit_cases : (P : Bool → State → Type 0) (s : State) (u : Meaning) → Leaves P s u → P (is_acted_on s u) (respond_unit s u).next
unit_cases P s u h = by_test (is_acted_on s u)
    (λ e. rw e (let a = acted s u e in subst (λ (o : Outcome). P true o.next) (sym (acts_good s u a)) (h.good a)))
    (λ e. rw e (not_acted (P false) s u e h.same h.ended h.bad))

-- ---- of a side that is not over, and a unit that fits

-- what is discarded changes nothing, and everything else is acted on
pub fit_acts : (s : State) (u : Meaning) → is_over s.phase ≡ false → Fits s u → is_acted_on s u ≡ not (drops s u)
fit_acts s u o f = search (arith, is_acted)

drops_nothing : (s : State) (u : Meaning) → is_over s.phase ≡ false → drops s u ≡ true → respond_unit s u ≡ nothing s
unfolding respond_unit
drops_nothing s u o d = grind arith

-- no fault: a unit that fits is discarded, or answered as the table says
pub no_fault : (s : State) (u : Meaning) → is_over s.phase ≡ false → Fits s u
    → respond_unit s u ≡ (if drops s u then nothing s else good s u)
no_fault s u o f = search (arith, drops_nothing, acts_good)

pub fit_next : (s : State) (u : Meaning) → is_over s.phase ≡ false → Fits s u → (respond_unit s u).next ≡ next s u
fit_next s u o f = search (arith, drops_nothing, acts_good)

-- ---- a unit is dropped, or acted on

-- the state after a unit: the same if it is discarded, otherwise what the table says
pub next_cases : (P : State → Type 0) (s : State) (u : Meaning) → (drops s u ≡ true → P s) → (drops s u ≡ false → P (becomes s u))
    → P (next s u)
next_cases P s u h k = by_test (drops s u) (λ e. rw e (let h = rw e at h in h refl)) (λ e. rw e (let k = rw e at k in k refl))

-- the same, of a unit that fits
pub fit_cases : (P : State → Type 0) (s : State) (u : Meaning) → Fits s u → P s → (drops s u ≡ false → Good s u → P (becomes s u))
    → P (next s u)
fit_cases P s u f h k = next_cases P s u (λ d. h) (λ d. k d (f.good d))

pub next_dropped : (s : State) (u : Meaning) → drops s u ≡ true → next s u ≡ s
next_dropped s u d = ap (λ (b : Bool). if b then s else becomes s u) d

pub next_acted : (s : State) (u : Meaning) → drops s u ≡ false → next s u ≡ becomes s u
next_acted s u d = ap (λ (b : Bool). if b then s else becomes s u) d

pub and_false : (b : Bool) → (b && false) ≡ false
and_false b = grind arith

-- a restart is never discarded unread
pub restart_acted : (s : State) (u : Meaning) → stops s u ≡ true → drops s u ≡ false
restart_acted s u h = grind (arith, and_false)

-- after a restart that takes effect an answer is due
pub restart_due : (s : State) (u : Meaning) → stops s u ≡ true → is_restart_due (next s u).phase ≡ true
restart_due s u h = grind arith

-- ---- nothing acts at a side that owes the answer to a restart

pub none_due : (p : Phase) (u : Meaning) → is_restart_due p ≡ true → is_plain u ≡ true → is_expected p u ≡ false
none_due p u h k = grind arith

pub due_next : (s : State) (u : Meaning) → is_restart_due s.phase ≡ true → Fits s u → next s u ≡ s
due_next s u h f = fit_cases (λ r. r ≡ s) s u f refl (λ d g. absurd (let n = none_due s.phase u h f.plain in let e = g.expected in cc))

-- ---- no unit leads to Restarting

pub chosen : (P : State → Type 0) (b : Bool) (x y : State) → P x → P y → P (if b then x else y)
chosen P b x y h k = grind arith

abbrev Hears : State → Type 0
Hears s = hears s.phase ≡ true

pub becomes_hears : (s : State) (u : Meaning) → hears s.phase ≡ true → hears (becomes s u).phase ≡ true
becomes_hears s u h = search (arith, chosen)

pub next_hears : (s : State) (u : Meaning) → hears s.phase ≡ true → hears (next s u).phase ≡ true
next_hears s u h = next_cases Hears s u (λ d. h) (λ d. becomes_hears s u h)
