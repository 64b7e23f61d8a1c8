-- The parts of one Data have on an end the effect of the whole, whatever calls come between.
use Rattle.osi_stack.proofs.Vocabulary.{append-nil, Rows, value_at, put, State as Carrier, put_here, put_same, part_octets, Input, Listener}
use Rattle.osi_stack.proofs.Vocabulary.{called, came, react, after_inputs, Act, comes, calls, act_in_octets, calls_in, IsSilent, AreSilent}
use Rattle.osi_stack.proofs.Vocabulary.{Shown, limit_of, kept_at, limit_for, answers, to_session, Selectors, selectors_told, shows_connect}
use Rattle.osi_stack.proofs.Vocabulary.{Line, End, session_in, ◌≡◌, ℕ, List, [], ◌∷◌, ◌++◌, map, Option, Some, None, refl, ap, ◌∙◌}
use Rattle.osi_stack.proofs.Vocabulary.{if◌then◌else◌, arith, to_session_along, sym, Move, line_by, by_line}
use Rattle.osi_session.specs.Parts.{AreAlike}

-- ---- the end with a session at a reference

put_twice : (r : ℕ) (x y : Line) (rows : Rows Line) → put r x (put r y rows) ≡ put r x rows
put_twice r x y [] = refl
put_twice r x y ((q, z) ∷ rows) = grind (arith, put_twice r x y rows)

-- with these pending indications for its user, and with these selectors
abbrev at : ℕ → Carrier → Listener → List Shown → Option Selectors → Rows Line → End
at r c l waiting selectors rows =
    record { carrier = c; lines = put r (record { session = Some l; waiting = waiting; selectors = selectors }) rows }

-- its selectors after a move with these indications
abbrev names : List Shown → Option Selectors → Option Selectors → Option Selectors
names shown told selectors = if shows_connect shown then told else selectors

-- a reference that has a line
record HasLine (r : ℕ) (rows : Rows Line) : Type 0 where
  line : Line
  here : value_at r rows ≡ Some line

moves_at : (r : ℕ) (input : Input) (c : Carrier) (l : Listener) (waiting : List Shown) (selectors : Option Selectors) (rows : Rows Line) →
    HasLine r rows →
    to_session r input (at r c l waiting selectors rows)
    ≡ at r (answers r (limit_for l input) (react l input) c) (react l input).next (waiting ++ (react l input).shown)
    (names (react l input).shown (selectors_told input) selectors) rows
moves_at r input c l waiting selectors rows h =
    let line : Line = record { session = Some l; waiting = waiting; selectors = selectors } in
    ap (λ (o : Option Line). by_line r o input (at r c l waiting selectors rows)) (put_here r line h.line rows h.here)
    ∙ ap (λ (x : Rows Line). record { carrier = answers r (limit_for l input) (react l input) c; lines = x })
    (put_twice r (line_by line (Some l) input) line rows)

-- ---- a part before the last, and a call

silent_at : (r : ℕ) (input : Input) (c : Carrier) (l : Listener) (waiting : List Shown) (selectors : Option Selectors) (rows : Rows Line) →
    HasLine r rows → IsSilent (react l input) →
    to_session r input (at r c l waiting selectors rows) ≡ at r c (react l input).next waiting selectors rows
silent_at r input c l waiting selectors rows h s = grind (arith, moves_at, react, selectors_told, limit_for, append-nil)

-- two moves with the same effect, beside the session
alike_at : (r n k : ℕ) (a b : Move) (c : Carrier) (l : Listener) (w : List Shown) (s : Option Selectors) (rows : Rows Line) →
    n ≡ k → AreAlike a b →
    at r (answers r n a c) l (w ++ a.shown) (names a.shown None s) rows
    ≡ at r (answers r k b c) l (w ++ b.shown) (names b.shown None s) rows
alike_at r n k a b c l w s rows sizes same = cc

same_at : (r n k : ℕ) (a b : Move) (c : Carrier) (w : List Shown) (s t u : Option Selectors) (rows : Rows Line) → n ≡ k → a ≡ b → t ≡ u →
    at r (answers r n a c) a.next (w ++ a.shown) (names a.shown t s) rows
    ≡ at r (answers r k b c) b.next (w ++ b.shown) (names b.shown u s) rows
same_at r n k a b c w s t u rows sizes same told = cc

-- ---- both runs

-- the same was sent and indicated, with one session each
record Runs (r : ℕ) (rows : Rows Line) (l m : Listener) (a b : End) : Type 0 where
  carrier : Carrier
  waiting : List Shown
  selectors : Option Selectors
  parts : a ≡ at r carrier l waiting selectors rows
  whole : b ≡ at r carrier m waiting selectors rows

runs : (r : ℕ) (rows : Rows Line) (c : Carrier) (waiting : List Shown) (selectors : Option Selectors) (l m : Listener) (acts : List Act) →
    HasLine r rows → AreSilent l m acts →
    Runs r rows (after_inputs l (map act_in_octets acts)) (after_inputs m (calls_in acts))
    (to_session_along r (map act_in_octets acts) (at r c l waiting selectors rows))
    (to_session_along r (calls_in acts) (at r c m waiting selectors rows))
runs r rows c waiting selectors l m [] h silent =
    record { carrier = c; waiting = waiting; selectors = selectors; parts = refl; whole = refl }
runs r rows c waiting selectors l m (comes place o ∷ acts) h silent =
    let input = came (part_octets place o) in
    let more = runs r rows c waiting selectors (react l input).next m acts h silent.1 in
    search (ap (to_session_along r (map act_in_octets acts)) (silent_at r input c l waiting selectors rows h silent.0) ∙ more.parts)
runs r rows c waiting selectors l m (calls call ∷ acts) h silent =
    let one = react l (called call) in
    let two = react m (called call) in
    let more = runs r rows (answers r (limit_of l.state) one c) (waiting ++ one.shown) (names one.shown None selectors) one.next two.next
    acts h silent.1 in
    let same = alike_at r (limit_of l.state) (limit_of m.state) one two c two.next waiting selectors rows silent.0.0 silent.0.1 in
    record {
      carrier = more.carrier;
      waiting = more.waiting;
      selectors = more.selectors;
      parts = ap (to_session_along r (map act_in_octets acts)) (moves_at r (called call) c l waiting selectors rows h) ∙ more.parts;
      whole = ap (to_session_along r (calls_in acts)) (moves_at r (called call) c m waiting selectors rows h ∙ sym same) ∙ more.whole;
    }

-- ---- the end as it was

line_of : (o : Option Line) (session : Listener) → session_in o ≡ Some session →
    (line : Line) × (o ≡ Some line) × (line.session ≡ Some session)
line_of o session h = grind arith

stands_at : (r : ℕ) (session : Listener) (e : End) (line : Line) → value_at r e.lines ≡ Some line → line.session ≡ Some session →
    e ≡ at r e.carrier session line.waiting line.selectors e.lines
stands_at r session e line here is = grind (arith, put_same)

pub parts_as_whole : (r : ℕ) (session : Listener) (acts : List Act) (last whole : Input) (e : End) → kept_at r e.lines ≡ Some session →
    AreSilent session session acts →
    react (after_inputs session (map act_in_octets acts)) last ≡ react (after_inputs session (calls_in acts)) whole →
    limit_for (after_inputs session (map act_in_octets acts)) last ≡ limit_for (after_inputs session (calls_in acts)) whole →
    selectors_told last ≡ selectors_told whole →
    to_session r last (to_session_along r (map act_in_octets acts) e) ≡ to_session r whole (to_session_along r (calls_in acts) e)
parts_as_whole r session acts last whole e kept silent same sizes told =
    let parted = after_inputs session (map act_in_octets acts) in
    let alone = after_inputs session (calls_in acts) in
    let there = line_of (value_at r e.lines) session kept in
    let h : HasLine r e.lines = record { line = there.0; here = there.1 } in
    let begun = stands_at r session e there.0 there.1 there.2 in
    let both = runs r e.lines e.carrier there.0.waiting there.0.selectors session session acts h silent in
    ap (λ (x : End). to_session r last (to_session_along r (map act_in_octets acts) x)) begun
    ∙ ap (to_session r last) both.parts
    ∙ moves_at r last both.carrier parted both.waiting both.selectors e.lines h
    ∙ same_at r (limit_for parted last) (limit_for alone whole) (react parted last) (react alone whole) both.carrier both.waiting
    both.selectors (selectors_told last) (selectors_told whole) e.lines sizes same told
    ∙ sym (moves_at r whole both.carrier alone both.waiting both.selectors e.lines h)
    ∙ sym (ap (to_session r whole) both.whole)
    ∙ sym (ap (λ (x : End). to_session r whole (to_session_along r (calls_in acts) x)) begun)
