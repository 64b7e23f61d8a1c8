-- The units that are put as something happens to a session, each with the connection whose link gave it: a session that sends hands
-- TSDUs to its link, and one that closes its connection causes a DR.
-- For the course of a connection.
use Rattle.osi_blameless.proofs.ends.Vocabulary.{[], arith, Bool, false, List, None, Option, refl, Some, subst, sym, true, ℕ, ◌<◌, ◌∷◌, ◌≡◌}
use Rattle.osi_blameless.proofs.ends.Vocabulary.{◌≢◌}
use Rattle.osi_blameless.proofs.ends.Vocabulary.{length, nat_lt, AreShort, Makes, by_line, opens_line, ◌⊎◌, nat_tests, map-append, Value}
use Rattle.osi_blameless.proofs.ends.Vocabulary.{all_given}
use Rattle.osi_blameless.proofs.ends.Vocabulary.{Standing, with_tsdu, Class, closed_on, open_link, send_all_error, sent, Happening}
use Rattle.osi_blameless.proofs.ends.Vocabulary.{value_at}
use Rattle.osi_blameless.proofs.ends.Vocabulary.{State as Carrier, SendError, tsdus_sent, broken, came, Input, Listener}
use Rattle.osi_blameless.proofs.ends.Vocabulary.{linked_up as opened}
use Rattle.osi_blameless.proofs.ends.Vocabulary.{session_react as react, has_given, hears, carrier_by, limit_for, to_session, End, Line}
use Rattle.osi_blameless.proofs.ends.Vocabulary.{answers_by}
use Rattle.osi_blameless.proofs.ends.Vocabulary.{sent_unless, all_units, Marked, put_closing, put_sent, put_together, list_any, refused}
use Rattle.osi_carrier.specs.Happenings as told
use Rattle.osi_carrier.specs.Orderly.{told_of}
use Rattle.osi_blameless.specs.ends.Doing as doing
use Rattle.osi_blameless.proofs.ends.courses.steps_of_a_course.{HasNone}
use Rattle.osi_blameless.proofs.ends.links.units_of_each_connection.{AreAccounted, ArePlain, elsewhere, given_accounted, marked}
use Rattle.osi_blameless.proofs.ends.links.units_of_each_connection.{marked_all}
use Rattle.osi_blameless.proofs.ends.links.units_of_each_connection.{nowhere, plain_accounted, all_of_both}

-- ---- the carrier

abbrev pub put_unless : Option SendError → ℕ → List (List ℕ) → Carrier → List Value
put_unless None q tsdus c = put_together q tsdus c
put_unless (Some e) q tsdus c = []

-- a session answers
abbrev pub answer_puts : Bool → ℕ → List (List ℕ) → Carrier → List Marked
answer_puts true q tsdus c = marked 0 (put_closing q 128 (open_link q c) c.class)
answer_puts false q tsdus c = marked q (put_unless (send_all_error tsdus (open_link q c)) q tsdus c)

-- ---- the end

abbrev pub move_puts : ℕ → Option Listener → Input → Carrier → List Marked
move_puts q None input c = []
move_puts q (Some session) input c =
    answer_puts (react session input).closes q (tsdus_sent (limit_for session input) (react session input).reply) c

abbrev pub line_puts : ℕ → Option Line → Input → End → List Marked
line_puts q None input e = []
line_puts q (Some line) input e = move_puts q line.session input e.carrier

abbrev pub session_puts : ℕ → Input → End → List Marked
session_puts q input e = line_puts q (value_at q e.lines) input e

abbrev pub opening_puts : ℕ → Option Line → End → List Marked
opening_puts q None e = []
opening_puts q (Some line) e = session_puts q opened e

abbrev pub event_puts : Happening → End → List Marked
event_puts (told.opened q) e = opening_puts q (value_at q e.lines) e
event_puts (told.refused q reason) e = session_puts q (refused reason) e
event_puts (told.tsdu q octets) e = session_puts q (came octets) e
event_puts (told.closed q reason) e = session_puts q broken e
event_puts (told.faulted q fault) e = session_puts q broken e

-- ---- this is put

-- it is put, by what makes of the old carrier the new one
abbrev pub Puts : Carrier → List Marked → Carrier → Type 0
Puts old units new = Makes old [] (all_units units) new

all_short : (tsdus : List (List ℕ)) → list_any (λ (t : List ℕ). nat_lt 1048576 (length t)) tsdus ≡ false → AreShort tsdus
all_short [] h = tt
all_short (tsdu ∷ tsdus) h = grind (arith, nat_tests, nat_lt 1048576 (length tsdu), all_short tsdus)

are_short : (tsdus : List (List ℕ)) (o : Option (ℕ × Standing)) → send_all_error tsdus o ≡ None → AreShort tsdus
are_short tsdus o h = grind (arith, all_short)

-- with a mark
marked_puts : (q : ℕ) (units : List Value) (c new : Carrier) → Makes c [] units new → Puts c (marked q units) new
marked_puts q units c new makes = subst (λ (l : List Value). Makes c [] l new) (sym (marked_all q units)) makes

unless_puts : (o : Option SendError) (q : ℕ) (tsdus : List (List ℕ)) (c : Carrier) → send_all_error tsdus (open_link q c) ≡ o →
    Makes c [] (put_unless o q tsdus c) (sent_unless o q tsdus c)
unless_puts None q tsdus c e = doing.sends q tsdus c (are_short tsdus (open_link q c) e)
unless_puts (Some error) q tsdus c e = doing.rests c

pub closing_puts : (q : ℕ) (c : Carrier) → Puts c (marked 0 (put_closing q 128 (open_link q c) c.class)) (closed_on q 128 (open_link q c) c)
closing_puts q c = marked_puts 0 (put_closing q 128 (open_link q c) c.class) c (closed_on q 128 (open_link q c) c) (doing.closes q c)

answer_made : (b : Bool) (q : ℕ) (tsdus : List (List ℕ)) (c : Carrier) → Puts c (answer_puts b q tsdus c) (answers_by b q tsdus c)
answer_made true q tsdus c = closing_puts q c
answer_made false q tsdus c =
    let o = send_all_error tsdus (open_link q c) in
    marked_puts q (put_unless o q tsdus c) c (sent_unless o q tsdus c) (unless_puts o q tsdus c refl)

move_made : (q : ℕ) (o : Option Listener) (input : Input) (c : Carrier) → Puts c (move_puts q o input c) (carrier_by q o input c)
move_made q None input c = doing.rests c
move_made q (Some session) input c =
    answer_made (react session input).closes q (tsdus_sent (limit_for session input) (react session input).reply) c

line_made : (q : ℕ) (o : Option Line) (input : Input) (e : End) → Puts e.carrier (line_puts q o input e) (by_line q o input e).carrier
line_made q None input e = doing.rests e.carrier
line_made q (Some line) input e = move_made q line.session input e.carrier

pub session_made : (q : ℕ) (input : Input) (e : End) → Puts e.carrier (session_puts q input e) (to_session q input e).carrier
session_made q input e = line_made q (value_at q e.lines) input e

opening_made : (q : ℕ) (o : Option Line) (e : End) → Puts e.carrier (opening_puts q o e) (opens_line q o e).carrier
opening_made q None e = doing.rests e.carrier
opening_made q (Some line) e = session_made q opened e

pub event_made : (x : Happening) (e : End) → Puts e.carrier (event_puts x e) (hears x e).carrier
event_made (told.opened q) e = opening_made q (value_at q e.lines) e
event_made (told.refused q reason) e = session_made q (refused reason) e
event_made (told.tsdu q octets) e = session_made q (came octets) e
event_made (told.closed q reason) e = session_made q broken e
event_made (told.faulted q fault) e = session_made q broken e

-- ---- another connection gave none of it

move_others : (q r : ℕ) → r ≢ q → (o : Option Listener) (input : Input) (c : Carrier) → HasNone r (move_puts q o input c)
move_others q r ne o input c = grind (arith, nowhere, elsewhere)

line_others : (q r : ℕ) → r ≢ q → (o : Option Line) (input : Input) (e : End) → HasNone r (line_puts q o input e)
line_others q r ne o input e = grind (arith, move_others)

pub session_others : (q r : ℕ) (input : Input) (e : End) → r ≢ q → HasNone r (session_puts q input e)
session_others q r input e ne = line_others q r ne (value_at q e.lines) input e

opening_others : (q r : ℕ) → r ≢ q → (o : Option Line) (e : End) → HasNone r (opening_puts q o e)
opening_others q r ne o e = grind (arith, session_others)

pub event_others : (r : ℕ) (x : Happening) (e : End) → r ≢ told_of x → HasNone r (event_puts x e)
event_others r x e ne = grind (arith, opening_others, session_others)

-- ---- nor did one that is not open

pub unlinked_put : (q : ℕ) (tsdus : List (List ℕ)) (c : Carrier) → open_link q c ≡ None → put_together q tsdus c ≡ []
unlinked_put q [] c none = refl
unlinked_put q (tsdu ∷ tsdus) c none = grind (arith, unlinked_put q tsdus c none)

pub unlinked_unless : (o : Option SendError) (q : ℕ) (tsdus : List (List ℕ)) (c : Carrier) → open_link q c ≡ None →
    put_unless o q tsdus c ≡ []
unlinked_unless o q tsdus c none = grind (arith, unlinked_put)

move_unlinked : (q : ℕ) (o : Option Listener) (input : Input) (c : Carrier) → open_link q c ≡ None → move_puts q o input c ≡ []
move_unlinked q o input c none = grind arith

line_unlinked : (q : ℕ) (o : Option Line) (input : Input) (e : End) → open_link q e.carrier ≡ None → line_puts q o input e ≡ []
line_unlinked q o input e none = grind (arith, move_unlinked)

opening_unlinked : (q : ℕ) (o : Option Line) (e : End) → open_link q e.carrier ≡ None → opening_puts q o e ≡ []
opening_unlinked q o e none = grind arith

pub event_unlinked : (x : Happening) (e : End) → open_link (told_of x) e.carrier ≡ None → event_puts x e ≡ []
event_unlinked x e none = grind (arith, opening_unlinked, line_unlinked)

-- ---- a link gives DTs and AKs

one_accounted : (q : ℕ) (tsdu : List ℕ) (o : Option (ℕ × Standing)) → 0 < q → AreAccounted (marked q (put_sent tsdu o))
one_accounted q tsdu None some = tt
one_accounted q tsdu (Some (peer, link)) some = given_accounted q peer (all_given (with_tsdu link tsdu)) some

all_accounted : (q : ℕ) (tsdus : List (List ℕ)) (c : Carrier) → 0 < q → AreAccounted (marked q (put_together q tsdus c))
all_accounted q [] c some = tt
all_accounted q (tsdu ∷ tsdus) c some = grind (arith, map-append, all_of_both, one_accounted, all_accounted q tsdus (sent q tsdu c) some)

closing_plain : (q : ℕ) (o : Option (ℕ × Standing)) (held : Option Class) → ArePlain (put_closing q 128 o held)
closing_plain q o c = grind arith

pub closing_accounted : (q : ℕ) (c : Carrier) → AreAccounted (marked 0 (put_closing q 128 (open_link q c) c.class))
closing_accounted q c = plain_accounted (put_closing q 128 (open_link q c) c.class) (closing_plain q (open_link q c) c.class)

answer_accounted : (b : Bool) (q : ℕ) (tsdus : List (List ℕ)) (c : Carrier) → 0 < q → AreAccounted (answer_puts b q tsdus c)
answer_accounted b q tsdus c some = grind (arith, closing_accounted, all_accounted)

move_accounted : (q : ℕ) (o : Option Listener) (input : Input) (c : Carrier) → 0 < q → AreAccounted (move_puts q o input c)
move_accounted q o input c some = grind (arith, answer_accounted)

opening_accounted : (q : ℕ) (o : Option Line) (e : End) → 0 < q → AreAccounted (opening_puts q o e)
opening_accounted q o e some = grind (arith, move_accounted)

given_event : (x : Happening) (e : End) → 0 < told_of x → AreAccounted (event_puts x e)
given_event x e some = grind (arith, opening_accounted, move_accounted)

-- a reference that is not open, or was given
abbrev pub IsGivenIfOpen : ℕ → Carrier → Type 0
IsGivenIfOpen q c = (open_link q c ≡ None) ⊎ (has_given q c ≡ true)

pub session_accounted : (q : ℕ) (input : Input) (e : End) → IsGivenIfOpen q e.carrier → AreAccounted (session_puts q input e)
session_accounted q input e h = grind (arith, line_unlinked, move_accounted, nat_tests)

pub event_accounted : (x : Happening) (e : End) → IsGivenIfOpen (told_of x) e.carrier → AreAccounted (event_puts x e)
event_accounted x e h = grind (arith, event_unlinked, given_event)
