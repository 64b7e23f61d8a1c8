-- What a session that makes a move leaves, and a message that arrives.
use Rattle.osi_stack.proofs.Vocabulary.{nat_tests, list_any, Value, Happening, Rows, value_at, Connection, asked, linked, State as Carrier}
use Rattle.osi_stack.proofs.Vocabulary.{put_here, put_other, Meaning, said_by_units, said_at, words_of, IsSendable, words_sent, tsdus_of}
use Rattle.osi_stack.proofs.Vocabulary.{tsdus_sent, behind_no_token, part_octets, written, spelled, Place as PartPlace, tsdu_at, Input}
use Rattle.osi_stack.proofs.Vocabulary.{Listener, called, opened, refused, broken, taken, came, react, awaits, limit_of, Shown, first_shown}
use Rattle.osi_stack.proofs.Vocabulary.{without_first, move_refusal, session_refusal, has_given, call_error, carries_out, after_unit, opens}
use Rattle.osi_stack.proofs.Vocabulary.{hears, hears_all, with_events, concludes, loses, all_lost, Message, unit, ask, agree, deny, bye}
use Rattle.osi_stack.proofs.Vocabulary.{IsWhole, put_by, puts, Acts, Effect, begins, happens, rests, effect_at, told_at, AreShort, IsShort}
use Rattle.osi_stack.proofs.Vocabulary.{CanHear, Hears, told_all, Arrives, kept_at, waiting_of, Becomes, IsGranted, Says, AreLost}
use Rattle.osi_stack.proofs.Vocabulary.{all_waiting, IsFirstOf, limit_for, line_by, by_line, carrier_by, put, to_session, Line, End}
use Rattle.osi_stack.proofs.Vocabulary.{session_in, session_at, line_waits, waits, is_used, used_lines, joins, answers_by, Answer, allowed}
use Rattle.osi_stack.proofs.Vocabulary.{Call, CallError, ◌≡◌, ℕ, ◌==◌, Bool, true, false, not, List, [], ◌∷◌, length, nat_lt, Option, Some}
use Rattle.osi_stack.proofs.Vocabulary.{None, is_some, option_map, Ok, refl, sym, ap, subst, ◌∙◌, arith, if◌then◌else◌, never, was_given}
use Rattle.osi_stack.proofs.Vocabulary.{part}
use Rattle.osi_carrier.specs.Place.{Place}
use Rattle.osi_carrier.specs.Happenings as told
use Rattle.osi_carrier.specs.React as carriers
use Rattle.osi_message.specs.Words as words
use Rattle.osi_stack.proofs.called.tsdus_that_are_handed_together.{hands_none, handed, puts_words}
use Rattle.osi_stack.proofs.carried.events_one_after_the_other.{all_quiet}
use Rattle.osi_stack.proofs.each_line.the_first_that_indicates.{quiet_line}
use Rattle.osi_stack.proofs.carried.packets_without_events.{or_first, or_second}
use Rattle.osi_session.specs.declared.faults.CallError.TheVariants as error

-- ---- what a session puts

answers_put : (r : ℕ) (closes : Bool) (limit : ℕ) (reply : Option Meaning) (c : Carrier) → IsShort limit reply →
    answers_by closes r (tsdus_sent limit reply) c ≡ puts r (put_by closes limit reply) c
answers_put r true limit reply c short = refl
answers_put r false limit None c short = hands_none r c
answers_put r false limit (Some m) c short = handed r (tsdus_of limit m) c short ∙ puts_words r (words_sent limit m) c

-- ---- a move

by_acts : (r : ℕ) (input : Input) (e : End) (line : Line) (s : Listener) → value_at r e.lines ≡ Some line → line.session ≡ Some s →
    IsShort (limit_for s input) (react s input).reply →
    Acts r input e (to_session r input e)
by_acts r input e line s here is short = record {
  line = line;
  session = s;
  here = here;
  is = is;
  lines = ap (λ o. (by_line r o input e).lines) here ∙ ap (λ o. put r (line_by line o input) e.lines) is;
  carrier = ap (λ o. (by_line r o input e).carrier) here ∙ ap (λ o. carrier_by r o input e.carrier) is
      ∙ answers_put r (react s input).closes (limit_for s input) (react s input).reply e.carrier short;
}

pub acts_becomes : (r : ℕ) (input : Input) (old new : End) (a : Acts r input old new) →
    Becomes r (react a.session input).next (react a.session input).shown old.lines new.lines
acts_becomes r input old new a = grind (arith, line_by, value_at, put_here, session_in, waiting_of, react, put_other)

-- ---- one event

pub one_heard : (e : End) (event : Happening) → e.carrier.events ≡ event ∷ [] → hears_all e ≡ hears event (with_events [] e)
one_heard e event h = grind arith

arrives_by : (r : ℕ) (effect : Effect) (v : Value) (e heard : End) → Hears r effect (told_all v e) heard →
    after_unit e v ≡ concludes heard → Arrives r effect v e (after_unit e v)
arrives_by r effect v e heard h is = record { heard = heard; hears = h; is = is }

happens_by : (r : ℕ) (input : Input) (event : Happening) (v : Value) (e : End) → (carries_out v e).carrier.events ≡ event ∷ [] →
    hears event (told_all v e) ≡ to_session r input (told_all v e) → CanHear r (happens input) e.lines →
    Arrives r (happens input) v e (after_unit e v)
happens_by r input event v e h same can =
    arrives_by r (happens input) v e (to_session r input (told_all v e))
    (by_acts r input (told_all v e) can.0.line can.0.session can.0.here can.0.is can.1)
    (ap concludes (one_heard (carries_out v e) event h ∙ same))

pub record Readings : Type 0 where
  pub parts : (place : PartPlace) (octets : List ℕ) → said_at (part_octets place octets) ≡ Ok (behind_no_token (words.part place octets))
  pub read : (m : Meaning) → IsSendable m → tsdu_at (written m) ≡ Ok (spelled m)
  pub said : (m : Meaning) → IsSendable m → said_by_units (spelled m) ≡ words_of m

-- a message arrives as the words that were sent
pub came_is : Readings → (m : Meaning) → IsSendable m → came (written m) ≡ taken (words_of m)
unfolding said_at
came_is law m sendable = grind arith

-- a unit that reports nothing
quiet_unit : (v : Value) (e : End) → (carries_out v e).carrier.events ≡ [] → after_unit e v ≡ concludes (told_all v e)
quiet_unit v e h = grind (arith, all_quiet)

pub arrives : Readings → (r : ℕ) (place : Place) (m : Message) (v : Value) (e : End) → IsWhole m →
    (carriers.react v e.carrier).events ≡ told_at r place m →
    CanHear r (effect_at place m) e.lines → Arrives r (effect_at place m) v e (after_unit e v)
arrives law r never ask v e whole h can =
    arrives_by r begins v e (joins r awaits (told_all v e)) refl
    (ap concludes (one_heard (carries_out v e) (told.opened r) h ∙ ap (λ o. opens r o (told_all v e)) can))
arrives law r (was_given (Some asked)) agree v e whole h can =
    happens_by r opened (told.opened r) v e h (ap (λ o. opens r o (told_all v e)) can.0.here) can
arrives law r (was_given (Some asked)) (deny reason) v e whole h can = happens_by r (refused reason) (told.refused r reason) v e h refl can
arrives law r (was_given (Some (linked peer link))) (unit m) v e whole h can =
    happens_by r (taken (words_of m)) (told.tsdu r (written m)) v e h (ap (λ i. to_session r i (told_all v e)) (came_is law m whole)) can
arrives law r (was_given (Some (linked peer link))) (part place octets) v e whole h can = search (arith, happens_by, law.parts place octets)
arrives law r (was_given (Some (linked peer link))) (bye reason) v e whole h can = happens_by r broken (told.closed r reason) v e h refl can
arrives law r place m v e whole h can = arrives_by r rests v e (told_all v e) refl (quiet_unit v e h)

-- ---- all are lost

pub lost_at : (r : ℕ) (lines : Rows Line) → value_at r (all_lost lines) ≡ option_map loses (value_at r lines)
lost_at r [] = refl
lost_at r ((q, line) ∷ lines) = grind (arith, lost_at r lines)

pub are_lost : (lines : Rows Line) → AreLost lines (all_lost lines)
are_lost lines = grind (arith, session_in, lost_at, value_at, waiting_of)

-- ---- all that is pending

pub first_of_all : (lines : Rows Line) → IsFirstOf (first_shown lines) (all_waiting lines) (all_waiting (without_first lines))
first_of_all [] = (refl, refl)
first_of_all ((r, line) ∷ lines) = grind (arith, first_of_all lines)

-- what holds if the first pending indication is given after a line, and if it is given there
pub first_keep : (Q : Rows Line → Type 0) (r : ℕ) (line : Line) (lines : Rows Line) → Q ((r, line) ∷ without_first lines) →
    ((left : List Shown) → Q ((r, record line { waiting = left }) ∷ lines)) → Q (without_first ((r, line) ∷ lines))
first_keep Q r line lines behind here = grind arith

-- the sessions are as they were
pub kept_first : (q : ℕ) (lines : Rows Line) → kept_at q (without_first lines) ≡ kept_at q lines
kept_first q [] = refl
kept_first q ((r, line) ∷ lines) = grind (arith, kept_first q lines)

-- if nothing is pending
pub none_waiting : (lines : Rows Line) → waits lines ≡ false → all_waiting lines ≡ []
none_waiting [] h = refl
none_waiting ((r, line) ∷ lines) h =
    grind (arith, or_first, quiet_line, or_second, none_waiting lines (or_second (line_waits line) (waits lines) h))

-- ---- a call

all_short : (tsdus : List (List ℕ)) → list_any (λ (t : List ℕ). nat_lt 1048576 (length t)) tsdus ≡ false → AreShort tsdus
all_short [] h = tt
all_short (tsdu ∷ tsdus) h = grind (arith, nat_tests, all_short tsdus)

granted_by : (r : ℕ) (call : Call) (s : Listener) (c : Carrier) (a : Answer) → allowed s.state call ≡ a →
    move_refusal r (limit_of s.state) (react s (called call)) c ≡ None → IsGranted r call s c
unfolding react
granted_by r call s c a e h = grind (arith, all_short)

pub line_of : (b : Bool) (o : Option Line) (s : Listener) → (if b then session_in o else None) ≡ Some s →
    (line : Line) × (o ≡ Some line) × (line.session ≡ Some s)
line_of b o s h = grind arith

some_none : (x : CallError) → Some x ≡ None → ⊥
some_none x h = cc

says_at : (r : ℕ) (call : Call) (e : End) (o : Option Listener) → session_at r e ≡ o → session_refusal r o call e.carrier ≡ None →
    Says r call e (to_session r (called call) e)
unfolding by_acts
says_at r call e None at h = absurd (some_none error.Ended h)
says_at r call e (Some s) at h =
    let there = line_of (is_some (value_at r e.carrier.live)) (value_at r e.lines) s at in
    let g = granted_by r call s e.carrier (allowed s.state call) refl h in
    let short : IsShort (limit_of s.state) (react s (called call)).reply = subst (IsShort (limit_of s.state)) (sym g.reply) g.short in
    record {
      acts = by_acts r (called call) e there.0 s there.1 there.2 short;
      granted = g;
      live = at;
    }

given_by : (b : Bool) (o : Option CallError) → (if not b then Some error.NoSuchConnection else o) ≡ None → o ≡ None
given_by b o h = grind arith

pub says_is : (r : ℕ) (call : Call) (e : End) → call_error r call e ≡ None → Says r call e (to_session r (called call) e)
says_is r call e h =
    says_at r call e (session_at r e) refl (given_by (has_given r e.carrier) (session_refusal r (session_at r e) call e.carrier) h)

-- ---- a new line

pub used_by : (live : Rows Connection) (row : ℕ × Line) (lines : Rows Line) (b : Bool) → is_used live row ≡ b →
    used_lines live (row ∷ lines) ≡ (if b then row ∷ used_lines live lines else used_lines live lines)
used_by live row lines b e = ap (λ (c : Bool). if◌then◌else◌ {A = Rows Line} c (row ∷ used_lines live lines) (used_lines live lines)) e

-- what holds if a line is dropped, and if it stays
pub used_keep : (Q : Rows Line → Type 0) (live : Rows Connection) (row : ℕ × Line) (lines : Rows Line) → Q (used_lines live lines) →
    (is_used live row ≡ true → Q (row ∷ used_lines live lines)) → Q (used_lines live (row ∷ lines))
used_keep Q live row lines gone stays = grind arith

-- lines of live connections stay
used_live_by : (q p : ℕ) (y : Line) (live : Rows Connection) (lines : Rows Line) (b u : Bool) → (p == q) ≡ b → is_used live (p, y) ≡ u →
    is_some (value_at q live) ≡ true →
    value_at q (used_lines live lines) ≡ value_at q lines → value_at q (used_lines live ((p, y) ∷ lines)) ≡ value_at q ((p, y) ∷ lines)
used_live_by q p y live lines b u e used is more = grind arith

pub used_live : (q : ℕ) (live : Rows Connection) (lines : Rows Line) → is_some (value_at q live) ≡ true →
    value_at q (used_lines live lines) ≡ value_at q lines
used_live q live [] is = refl
used_live q live ((p, y) ∷ lines) is = used_live_by q p y live lines (p == q) (is_used live (p, y)) refl refl is (used_live q live lines is)
