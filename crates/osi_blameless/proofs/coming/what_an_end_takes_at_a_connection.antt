-- What an end takes in a turn at a connection is the first of what is in flight to it: all that is for it from the time at which it opens.
-- For all connections of an end and a judge.
use Rattle.osi_blameless.proofs.Vocabulary.{[], List, Some, ℕ, ◌++◌, ◌∙◌, ◌∷◌, ◌≡◌, append-nil, units_more, TakesAll, all_units}
use Rattle.osi_blameless.proofs.Vocabulary.{Marked, units_at, arith, AreApart}
use Rattle.osi_blameless.proofs.putting.what_a_turn_puts_waits.{Agree, marks_wait}
use Rattle.osi_blameless.proofs.standing.what_stands_of_a_connection.{waiting_for}
pub use Rattle.osi_blameless.proofs.putting.nothing_is_done_before_a_cr_passes.{apart_none}

takes_agree : (r : ℕ) (units : List Marked) → TakesAll r units → Agree r (Some r) units
takes_agree r [] h = tt
takes_agree r (m ∷ units) h = (h.0 ∙ (grind arith), takes_agree r units h.1)

-- what the link took is what is for the connection, of all that was used while it was open
pub during_taken : (r : ℕ) (took before during after : List Marked) → took ≡ before ++ (during ++ after) → AreApart r before →
    TakesAll r during → AreApart r after → units_at r took ≡ waiting_for (Some r) (all_units during)
during_taken r took before during after is early takes apart =
    grind (arith, units_more, apart_none, marks_wait, takes_agree, append-nil, waiting_for)
