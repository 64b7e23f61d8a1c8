-- What a CN and an AC agree, and what it limits.
use Rattle.osi_session.proofs.Vocabulary.{and_parts, and_from, TsduMaximumSize, named_by, are_sizes, written, State, Step, allowed, Call}
use Rattle.osi_session.proofs.Vocabulary.{smaller, smaller_sizes, answered_sizes, limit_of, is_bounded, ◌≡◌, ℕ, ◌<◌, ◌≤◌, true, length, Ok}
use Rattle.osi_session.proofs.Vocabulary.{arith, TsduSizes}
use Rattle.osi_session.specs.Sizes.{answered}
use Rattle.osi_session.proofs.tables.what_an_accepted_call_has_passed.{passed}

-- the smaller of sizes are sizes
pub smaller_are : (a b : TsduMaximumSize) → are_sizes a ≡ true → are_sizes b ≡ true → are_sizes (smaller_sizes a b) ≡ true
unfolding smaller_sizes
smaller_are a b h k = grind (arith, and_parts, and_from)

-- and so are those that an AC names
pub answered_are : (a b : TsduMaximumSize) → are_sizes a ≡ true → are_sizes b ≡ true → are_sizes (answered_sizes a b) ≡ true
unfolding answered_sizes
answered_are a b h k = grind (arith, and_parts, and_from)

-- those that a user gives are sizes
pub user_sizes : (s : TsduSizes) → are_sizes (named_by s) ≡ true
user_sizes s = and_from _ _ s.from_asker.is_size s.from_answerer.is_size

-- ---- what is agreed

-- an AC names a size if the CN does
pub answered_named : (a b : ℕ) → 0 < a → 0 < answered a b
answered_named a b h = grind arith

-- at most what the CN names
pub answered_asked : (a b : ℕ) → answered a b ≤ a
answered_asked a b = grind arith

-- and at most what the answerer gives
pub answered_given : (a b : ℕ) → 0 < b → answered a b ≤ b
answered_given a b h = grind arith

agreed : (a b : ℕ) → smaller a (answered a b) ≡ answered a b
agreed a b = grind arith

-- the side that takes the AC agrees on what it names
pub sizes_agreed : (a b : TsduMaximumSize) → smaller_sizes a (answered_sizes a b) ≡ answered_sizes a b
unfolding smaller_sizes answered_sizes
sizes_agreed a b = λ i. record { from_asker = agreed a.from_asker b.from_asker i; from_answerer = agreed a.from_answerer b.from_answerer i }

-- ---- what it bounds

pub sent_under : (s : State) (c : Call) (x : Step) → allowed s c ≡ Ok x → is_bounded c ≡ true → 0 < limit_of s →
    length (written x.sent) ≤ limit_of s
sent_under s c x e b h = search (arith, passed)
