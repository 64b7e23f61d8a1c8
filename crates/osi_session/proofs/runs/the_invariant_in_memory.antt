-- The invariant of a session in memory.
use Rattle.osi_session.proofs.Vocabulary.{State, is_wait_transport, IsSound, HasSerial, called_by, Step, allowed, Opening, Meaning, tsdu_at}
use Rattle.osi_session.proofs.Vocabulary.{said_by_units, in_one, words_of, is_second, spelled, written, asked_for, awaiting, asking, lone}
use Rattle.osi_session.proofs.Vocabulary.{lone_of, unit_in, ◌≡◌, ◌∙◌, refl, ap, false, Some, Ok, arith, Request}
use Rattle.osi_session.specs.declared.requests.Request.TheVariants as request
use Rattle.osi_session.proofs.runs.calls_keep_the_invariant.{call_sound, call_begun}
use Rattle.osi_session.proofs.values.what_sizes_are_agreed.{user_sizes}

-- the number of an Accept in memory is one that a point may have, and its sizes are such
pub request_small : (r : Request) → HasSerial (called_by r)
request_small r = grind (arith, user_sizes)

pub request_sound : (s : State) (r : Request) (x : Step) → allowed s (called_by r) ≡ Ok x → IsSound s → IsSound x.next
request_sound s r x h sound = call_sound s (called_by r) x (request_small r) h sound

pub request_begun : (s : State) (r : Request) (x : Step) → allowed s (called_by r) ≡ Ok x → is_wait_transport x.next.phase ≡ false
request_begun s r x h = call_begun s (called_by r) x h

pub awaiting_sound : IsSound awaiting
awaiting_sound = grind arith

pub asking_sound : (o : Opening) → IsSound (asking o)
asking_sound o = grind (arith, user_sizes)

-- a unit that is sent alone is read as it
pub read_again : (m : Meaning) → is_second m ≡ false → tsdu_at (written m) ≡ Ok (spelled m) → said_by_units (spelled m) ≡ words_of m →
    unit_in (in_one m) ≡ Some m
unfolding unit_in
read_again m f r s = ap lone_of r ∙ ap lone s ∙ (rw f refl)

pub asked_alone : (o : Opening) → is_second (asked_for o) ≡ false
unfolding is_second
asked_alone o = refl
