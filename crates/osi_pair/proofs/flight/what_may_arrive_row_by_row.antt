-- What may arrive at an end, row by row: the state of the connection there, the message that arrives with the unit, if
-- any, and the answer that is put.
-- For what is in flight, turns, breaks and ends, packets and carries.
use Rattle.osi_between.specs.Messages.{Message, ask, agree, deny, bye, over}
use Rattle.osi_between.specs.Progress as progress
use Rattle.osi_pair.proofs.Vocabulary.{◌≡◌, ℕ, true, List, [], ◌∷◌, Some, arith, flat_map, AllByRecursion, Value, Place, never, was_given}
use Rattle.osi_pair.proofs.Vocabulary.{connection_in, Happening, tsdu, closed, asked, linked, closing, told_of, answers_in, progress_of}
use Rattle.osi_pair.proofs.Vocabulary.{message, messages_after, begun_at, Progress, not_yet, awaiting, in_use, shutting, behind_arrivals}
use Rattle.osi_pair.proofs.Vocabulary.{behind_puts, may_arrive, Terms, by_two, by_zero, refusing, accepts_in, told_opened as opened}
use Rattle.osi_pair.proofs.Vocabulary.{told_refused as refused}
use Rattle.osi_pair.proofs.flight.which_unit_arrives_first.{comes}

pub data Row : Type 0 where
  -- no message: at an open connection, and at one that is closing
  quiet : Row
  still : Row
  -- a CR that is accepted, and one that is refused
  begins : Row
  refuses : ℕ → Row
  -- a CC, and a DR that refuses
  agrees : Row
  denies : ℕ → Row
  -- a TSDU, and a DR that closes
  tells : List ℕ → Row
  leaves : ℕ → Row
  -- what a connection that is closing ignores, and what ends it
  ignores : List ℕ → Row
  ends : Message → Row

abbrev pub before : Row → Progress
before quiet = in_use
before still = shutting
before begins = not_yet
before (refuses reason) = not_yet
before agrees = awaiting
before (denies reason) = awaiting
before (tells octets) = in_use
before (leaves reason) = in_use
before (ignores octets) = shutting
before (ends m) = shutting

abbrev pub after : Row → Progress
after quiet = in_use
after still = shutting
after begins = in_use
after (refuses reason) = not_yet
after agrees = in_use
after (denies reason) = progress.gone
after (tells octets) = in_use
after (leaves reason) = progress.gone
after (ignores octets) = shutting
after (ends m) = progress.gone

abbrev pub arrived_in : Row → List Message
arrived_in quiet = []
arrived_in still = []
arrived_in begins = ask ∷ []
arrived_in (refuses reason) = ask ∷ []
arrived_in agrees = agree ∷ []
arrived_in (denies reason) = deny reason ∷ []
arrived_in (tells octets) = message octets ∷ []
arrived_in (leaves reason) = bye reason ∷ []
arrived_in (ignores octets) = message octets ∷ []
arrived_in (ends m) = m ∷ []

abbrev pub put_for : Row → List Message
put_for begins = agree ∷ []
put_for (refuses reason) = deny reason ∷ []
put_for (leaves reason) = over ∷ []
put_for row = []

abbrev pub told_for : ℕ → Row → List Happening
told_for n begins = opened n ∷ []
told_for n agrees = opened n ∷ []
told_for n (denies reason) = refused n reason ∷ []
told_for n (tells octets) = tsdu n octets ∷ []
told_for n (leaves reason) = closed n reason ∷ []
told_for n row = []

abbrev pub is_row : Terms → Row → Type 0
is_row by_two (refuses reason) = ⊥
is_row by_two (denies reason) = ⊥
is_row by_zero (refuses reason) = ⊥
is_row by_zero (denies reason) = ⊥
is_row (refusing reason) (refuses why) = why ≡ reason
is_row (refusing reason) (denies why) = Unit {0}
is_row (refusing reason) row = ⊥
is_row terms (ends (bye reason)) = Unit {0}
is_row terms (ends over) = Unit {0}
is_row terms (ends m) = ⊥
is_row terms row = Unit {0}

-- a unit at a place is a row
pub record HasRow (terms : Terms) (n : ℕ) (place : Place) (arrived put : List Message) : Type 0 where
  pub row : Row
  pub is : is_row terms row
  pub stands : progress_of place ≡ before row
  pub comes_as : arrived ≡ arrived_in row
  pub answers : put ≡ put_for row
  pub told : flat_map (told_of terms n place) arrived ≡ told_for n row

row_for : Terms → Place → List Message → Row
row_for (refusing reason) never arrived = refuses reason
row_for terms never arrived = begins
row_for terms (was_given (Some asked)) (deny reason ∷ arrived) = denies reason
row_for terms (was_given (Some asked)) arrived = agrees
row_for terms (was_given (Some (linked peer link))) (message octets ∷ arrived) = tells octets
row_for terms (was_given (Some (linked peer link))) (bye reason ∷ arrived) = leaves reason
row_for terms (was_given (Some (closing peer))) [] = still
row_for terms (was_given (Some (closing peer))) (message octets ∷ arrived) = ignores octets
row_for terms (was_given (Some (closing peer))) (m ∷ arrived) = ends m
row_for terms place arrived = quiet

pub row_of : (terms : Terms) (n : ℕ) (place : Place) (u : Value) → comes (accepts_in terms) place u ≡ true →
    AllByRecursion (λ m. may_arrive (progress_of place) m ≡ true) (messages_after (begun_at (connection_in place)) (u ∷ [])) →
    HasRow terms n place (messages_after (begun_at (connection_in place)) (u ∷ [])) (answers_in terms place u)
unfolding row_for
row_of terms n place u h may = record {
  row = row_for terms place (messages_after (begun_at (connection_in place)) (u ∷ []));
  is = grind arith;
  stands = grind arith;
  comes_as = grind arith;
  answers = grind arith;
  told = grind arith;
}

-- the state of the connection then
pub row_after : (terms : Terms) (row : Row) → is_row terms row →
    behind_puts (behind_arrivals (accepts_in terms) (before row) (arrived_in row)) (put_for row) ≡ after row
row_after terms row is = grind arith
