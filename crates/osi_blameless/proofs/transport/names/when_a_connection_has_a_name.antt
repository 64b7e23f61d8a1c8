-- When a reference names a connection, or is in use for it, after its sides have sent more: by the phases of the sides.
-- For the law on references.
use Rattle.osi_blameless.proofs.transport.Vocabulary.{arith, Bool, false, refl, true, ℕ, ◌≡◌, ◌⊎◌, not, ◌&&◌, ◌==◌, ◌||◌, is_closed}
use Rattle.osi_blameless.proofs.transport.Vocabulary.{is_closing, is_open}
use Rattle.osi_blameless.proofs.transport.Vocabulary.{is_over_by, is_refused, is_silent, Half}
use Rattle.osi_blameless.proofs.transport.small_facts_that_many_lemmas_use.{differ}

-- what was known of a side, and what it has sent since
pub record IsEarlier (known now : Half) : Type 0 where
  pub reference : is_silent known.phase ≡ false → known.reference ≡ now.reference
  pub there : is_silent known.phase ≡ false → is_silent now.phase ≡ false
  pub refused : is_refused known.phase ≡ true → is_refused now.phase ≡ true
  pub closing : is_closing known.phase ≡ true → is_closing now.phase ≡ true
  pub closed : is_closed known.phase ≡ true → is_closed now.phase ≡ true

pub earlier_same : (h : Half) → IsEarlier h h
earlier_same h = record { reference = λ _. refl; there = λ e. e; refused = λ e. e; closing = λ e. e; closed = λ e. e }

-- ---- named, and in use

-- a reference names a connection that is judged or not (`j`), for a side that has sent `mine` and knows `known`
abbrev pub named_by : (j : Bool) → (mine known : Half) → ℕ → Bool
named_by j mine known n = not (j && is_over_by mine known) && (not (is_silent known.phase) && (known.reference == n))

abbrev pub used_by : (j : Bool) → (mine known : Half) → ℕ → Bool
used_by j mine known n = not (j && is_over_by mine known) && (not (is_silent mine.phase) && (mine.reference == n))

pub three : (a b c : Bool) → (not (true && a) && (not b && c)) ≡ true → (a ≡ false) × (b ≡ false) × (c ≡ true)
three a b c h = grind arith

pub three_make : (a b c : Bool) → a ≡ false → b ≡ false → c ≡ true → (not (true && a) && (not b && c)) ≡ true
three_make a b c h k m = rw (h, k, m) refl

-- a side whose packet begins names only what is in use
pub named_is_used : (mine theirs known : Half) (n : ℕ) → IsEarlier known mine → (is_closed theirs.phase ≡ true →
    is_closing mine.phase ≡ true) →
    named_by true mine theirs n ≡ true → used_by true theirs known n ≡ true
named_is_used mine theirs known n e closed h = grind (arith, three, three_make)

-- what is in use as its packet begins was in use before
pub used_before : (mine seen theirs : Half) (n : ℕ) → IsEarlier seen theirs → used_by true mine theirs n ≡ true →
    used_by true mine seen n ≡ true
used_before mine seen theirs n e h = grind (arith, three, three_make)

-- ---- a side sends more

-- a unit that has its effect, and is no CC
pub record HalfMoves (mine seen after : Half) : Type 0 where
  pub reference : is_silent mine.phase ≡ false → after.reference ≡ mine.reference
  pub there : is_silent mine.phase ≡ false → is_silent after.phase ≡ false
  pub phase : (after.phase ≡ mine.phase) ⊎ ((is_silent mine.phase || is_open mine.phase) ≡ true)
  pub closed : is_closed after.phase ≡ true → (is_closed mine.phase ≡ true) ⊎ (is_closing seen.phase ≡ true)

pub still_closing : (mine seen after : Half) → HalfMoves mine seen after → is_closing mine.phase ≡ true → is_closing after.phase ≡ true
still_closing mine seen after m h = grind arith

pub earlier_moves : (known mine seen after : Half) → IsEarlier known mine → HalfMoves mine seen after → IsEarlier known after
earlier_moves known mine seen after e m = grind arith

-- a unit that is for the connection, and no CC, gives it no name
pub named_still : (mine seen after : Half) (n : ℕ) → is_over_by mine seen ≡ false → named_by true after seen n ≡ true →
    named_by true mine seen n ≡ true
named_still mine seen after n live h = grind (arith, three, three_make)

pub used_still : (mine seen after : Half) (n : ℕ) → is_over_by mine seen ≡ false → HalfMoves mine seen after →
    (is_silent mine.phase ≡ true → (is_silent after.phase || is_refused after.phase) ≡ true) →
    used_by true after seen n ≡ true → used_by true mine seen n ≡ true
used_still mine seen after n live m silent h = grind (arith, three, differ, three_make)
