-- A session that goes on has taken one TSDU more, and no more than had passed: for all walks.
use Rattle.osi_side.proofs.Vocabulary.{◌≡◌, ℕ, suc, ◌+◌, ◌<◌, ◌≤◌, Bool, if◌then◌else◌, List, [], get_or, Option, Some, None, arith, Count}
use Rattle.osi_side.proofs.Vocabulary.{listens, Member, count_at, quiet_by, next_of}

next_by : (b : Bool) (m t : Member) (c : Count) → (if b then quiet_by m c else None) ≡ Some t → t.taken ≡ m.taken + 1
next_by b m t c e = grind arith

pub next_taken : (us : List (List ℕ)) (m t : Member) → next_of us m ≡ Some t → t.taken ≡ m.taken + 1
next_taken us m t e = next_by (listens m.standing) m t (count_at m.standing (get_or us m.taken [])) e

-- it takes no more than had passed
abbrev pub InBounds : ℕ → ℕ → Option Member → Type 0
InBounds passed n None = Unit {0}
InBounds passed n (Some m) = 0 < n → m.taken + n ≤ passed

pub within_by : (o : Option Member) (passed n taken : ℕ) → ((t : Member) → o ≡ Some t → t.taken ≡ taken + 1) → taken + suc n ≤ passed
    → InBounds passed n o
within_by o passed n taken h l = grind arith
