-- A unit of an end is right by all that has passed of the other side when its packet begins.
-- For the laws on a line.
use Rattle.osi_blameless.proofs.transport.Vocabulary.{[], arith, Bool, IfSome, List, Option, true, ℕ, ◌+◌, ◌≡◌, ◌≢◌, ◌≤◌, eq-eqb, le-leb}
use Rattle.osi_blameless.proofs.transport.Vocabulary.{lt-ltb, not}
use Rattle.osi_blameless.proofs.transport.Vocabulary.{Value, fits_size, begins, is_named, is_open, is_silent, Connection, Left, Phase}
use Rattle.osi_blameless.proofs.transport.Vocabulary.{IsRightNow}
use Rattle.osi_blameless.proofs.transport.small_facts_that_many_lemmas_use.{or_last}
use Rattle.osi_blameless.proofs.transport.lines.what_is_right_passes_each_test.{is_right}
use Rattle.osi_blameless.proofs.transport.lines.units_in_flight.{Puts}
use Rattle.osi_blameless.proofs.transport.lines.what_holds_of_a_line.{Tally, Ordered, bounds_of, is_there, as_judged}
use Rattle.osi_blameless.proofs.transport.lines.how_a_connection_opens.{both, or_left}

-- ---- phases

pub not_silent : (phase : Phase) → is_open phase ≡ true → not (is_silent phase) ≡ true
not_silent phase h = grind arith

-- a unit with the reference that the other side gave is for the connection
is_named_so : (c : Connection) (peer n : ℕ) → is_open c.left.phase ≡ true → is_there c.seen_by_left.phase ≡ true →
    c.seen_by_left.reference ≡ peer → n ≡ peer → is_named Left n c ≡ true
is_named_so c peer n live there reference e = grind (arith, eq-eqb)

fits_so : (size : Option ℕ) (limit octets : ℕ) → IfSome size (λ most. limit + 5 ≤ most) → octets ≤ limit →
    fits_size size (octets + 5) ≡ true
fits_so size limit octets h k = grind (arith, le-leb)

module _ (r peer limit : ℕ) (x : Tally) (noted : ℕ) (judge : Connection) (o : Ordered x noted) (t : as_judged r peer limit x noted judge)
    (live : is_open judge.left.phase ≡ true) where
  abbrev known : Connection
  known = begins Left judge

  -- whether the end has closed the connection or not
  pub first_right : (closed : Bool) (e : ℕ → ℕ → Type 0) (put : List Value) → put ≢ [] →
      Puts (bounds_of r peer limit x closed judge.right) e x.passed x.shown judge.left.begun put → IsRightNow Left known put
  first_right closed e put some h =
      grind (arith, is_named_so, lt-ltb, is_right, not_silent, eq-eqb, le-leb, fits_so, or_last, both, or_left)
