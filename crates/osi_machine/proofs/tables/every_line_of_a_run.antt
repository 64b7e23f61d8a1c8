-- What the moves of one connection preserve, with the words of both sides, is true at each reference after every list of steps.
-- For what_one_side_received_the_other_sent and what_is_in_flight_can_be_sent.
use Rattle.std.proofs.Common.{◌≡◌, refl, sym, subst, ℕ, Bool, true, false, not, ◌&&◌, ◌==◌, if◌then◌else◌, List, [], ◌∷◌}
use Rattle.std.proofs.Common.{◌++◌, append_assoc, map, Option, Some, None, is_some, arith, option_map}
use Rattle.osi_machine.specs.Tables.{after_call, message_taken, closed, start, seen_from, side_of, end_of, noted, call_in, closes_by}
use Rattle.osi_machine.specs.Tables.{without_first, taken_in, delivered_to, cut_channels, step, run, asked_with, turned}
use Rattle.osi_machine.proofs.Vocabulary.{eqb-true, eq-eqb, append-nil, called, react, Meaning, Call, Offer, Side, Left, Right}
use Rattle.osi_machine.proofs.Vocabulary.{Class, class_2, Message, Transport, Terms, Ending, Step, connects, calls, delivers, breaks, ends}
use Rattle.osi_machine.proofs.Vocabulary.{shown_at, connection_at, with_connection, is_given, learns, Line, Turn, Tables, ends_there}
use Rattle.osi_machine.proofs.Vocabulary.{ended_lines, after_turn, cut_line, one_or_none, said_to_first, heard_of_first, said_at_delivery}
use Rattle.osi_machine.proofs.Vocabulary.{heard_at_delivery, said_at_call, said_at, heard_at, said_in, heard_in, is_long}
use Rattle.osi_machine.proofs.Vocabulary.{AllByRecursion, said_to, heard_of, other_side}
use Rattle.osi_machine.proofs.basics.what_holds_in_each_phase.{by_test}
use Rattle.osi_machine.proofs.basics.what_stands_at_a_reference.{with_other, with_same}
use Rattle.osi_machine.proofs.machine.every_connection_of_a_run.{passes, mapped_at, new_there}

-- what a side has sent and received
pub record Words : Type 0 where
  pub said : List Meaning
  pub heard : List Meaning

abbrev pub silent : Words
silent = record { said = []; heard = [] }

abbrev pub and_more : Words → List Meaning → List Meaning → Words
and_more w said heard = record { said = w.said ++ said; heard = w.heard ++ heard }

-- all that a side has sent and received on a connection
abbrev pub words_in : Side → ℕ → Terms → List Step → Words
words_in side r terms steps = record { said = said_in side r (start terms) steps; heard = heard_in side r (start terms) steps }

-- a statement about a connection and the words of its two sides
abbrev pub Claim : Type 1
Claim = Bool → Line → Words → Words → Type 0

-- each move of a connection preserves it, if the steps are such (Ok)
pub record IsKept (P : Claim) (Ok : Step → Type 0) : Type 0 where
  pub new : (b : Bool) (o : Offer) → Ok (connects o) → is_long o ≡ false → P b (asked_with b o) silent silent
  pub turns : (b : Bool) (l : Line) (x y : Words) → P b l x y → P b (turned l) y x
  pub call : (b : Bool) (side : Side) (r : ℕ) (c : Call) (l : Line) (x y : Words) → Ok (calls side r c) → is_given l.own.transport ≡ true
      → P b l x y → P b (after_call b c l) (and_more x (one_or_none (react l.own.session (called c)).reply) []) y
  pub take : (b : Bool) (terms : Terms) (keep : ℕ) (l : Line) (m : Message) (xs : List Message) (x y : Words) → l.peer.channel ≡ m ∷ xs
      → P b l x y → P b (message_taken b terms keep l.own.transport (without_first l xs) m).line
      (and_more x (said_to l.own.transport l.own.session m) (heard_of l.own.transport m)) y
  pub close : (b : Bool) (terms : Terms) (keep to_keep : ℕ) (tr : Transport) (l : Line) (m : Message) (x y : Words)
      → (message_taken b terms keep tr l m).closes ≡ true → P b (message_taken b terms keep tr l m).line x y
      → P b (closed b to_keep (message_taken b terms keep tr l m).line) x y
  pub end : (b : Bool) (keep : ℕ) (l : Line) (x y : Words) → P b l x y → P b (ends_there keep l) x y
  pub cut : (b : Bool) (left right : ℕ) (l : Line) (x y : Words) → P b l x y → P true (cut_line left right l) x y

-- ---- the line at a reference

quiet : (x : Words) → x ≡ and_more x [] []
quiet x = grind (arith, append-nil)

not_equal : (q r : ℕ) → (q == r) ≡ false → r ≡ q → ⊥
not_equal q r e f = absurd (let x = eq-eqb q r (sym f) in cc)

one_by_one : (x : Words) (a b c d : List Meaning) → and_more (and_more x a b) c d ≡ and_more x (a ++ c) (b ++ d)
one_by_one x a b c d = grind (arith, append_assoc)

-- ---- what is true at a reference

-- of the words of its two sides; they are silent if there is no connection
abbrev pub Holds : Claim → Bool → Words → Words → Option Line → Type 0
Holds P b x y None = (x ≡ silent) × (y ≡ silent)
Holds P b x y (Some l) = P b l x y

-- the same, with the words of this side first
abbrev pub HoldsAt : Claim → Side → Bool → Words → Words → Option Line → Type 0
HoldsAt P Left b x y o = Holds P b x y o
HoldsAt P Right b x y o = Holds P b y x o

abbrev pub Knows : Claim → ℕ → Tables → Words → Words → Type 0
Knows P r t x y = Holds P t.broken x y (connection_at r t.lines)

-- of the tables, with the words of this side first
abbrev pub KnowsAt : Claim → Side → ℕ → Tables → Words → Words → Type 0
KnowsAt P side r t x y = HoldsAt P side t.broken x y (connection_at r t.lines)

module _ (P : Claim) (Ok : Step → Type 0) (kept : IsKept P Ok) where
  -- nothing of it is changed
  same_holds : (side : Side) (b : Bool) (x y : Words) (o p : Option Line) → p ≡ o → HoldsAt P side b x y o → HoldsAt P side b x y p
  same_holds side b x y o p e h = subst (HoldsAt P side b x y) (sym e) h

  quiet_holds : (side : Side) (b : Bool) (x y : Words) (o : Option Line) → HoldsAt P side b x y o → HoldsAt P side b (and_more x [] []) y o
  quiet_holds side b x y o h = subst (λ (w : Words). HoldsAt P side b w y o) (quiet x) h

  -- one line is replaced by one of which it holds
  now_holds : (t : Tables) (side : Side) (r : ℕ) (old l : Line) (x y : Words) → connection_at r t.lines ≡ Some old → P t.broken l x y
      → HoldsAt P side t.broken x y (connection_at r (with_connection r (seen_from side l) t.lines))
  now_holds t side r old l x y e h = same_holds side t.broken x y (Some (seen_from side l)) _ (with_same r t.lines old (seen_from side l) e)
      (grind arith)

  -- ---- a call

  call_same : (t : Tables) (side : Side) (r : ℕ) (c : Call) (x y : Words) (o : Option Line) → Ok (calls side r c)
      → connection_at r t.lines ≡ o
      → HoldsAt P side t.broken x y o → KnowsAt P side r (call_in t side r c (side_of side o))
      (and_more x (said_at_call c (side_of side o)) []) y
  call_same t side r c x y None small e h = grind (arith, same_holds, quiet_holds)
  call_same t side r c x y (Some l) small e h = by_test (is_given (seen_from side l).own.transport)
      (λ g. rw g (now_holds t side r l (after_call t.broken c (seen_from side l)) _ y e
      (kept.call t.broken side r c (seen_from side l) x y small g (grind arith))))
      (λ g. rw g (same_holds side t.broken (and_more x [] []) y (Some l) _ e (quiet_holds side t.broken x y (Some l) h)))

  call_knows : (t : Tables) (side : Side) (q r : ℕ) (c : Call) (x y : Words) → Ok (calls side q c) → KnowsAt P side r t x y
      → KnowsAt P side r (call_in t side q c (side_of side (connection_at q t.lines)))
      (and_more x (if q == r then said_at_call c (side_of side (connection_at r t.lines)) else []) []) y
  call_knows t side q r c x y small h = search (arith, eqb-true, call_same, quiet_holds, by_test, same_holds, with_other, not_equal)

  -- ---- the end of a side

  ended_knows : (side : Side) (keep : ℕ → ℕ) (b : Bool) (ls : List Line) (r : ℕ) (x y : Words) → HoldsAt P side b x y (connection_at r ls)
      → HoldsAt P side b x y (connection_at r (ended_lines side keep 1 ls))
  ended_knows side keep b ls r x y h = same_holds side b x y _ _
      (mapped_at (ended_lines side keep) (λ k l. seen_from side (ends_there (keep k) (seen_from side l))) (λ k. refl) (λ k l ls. refl) r ls)
      (by (connection_at r ls) h)
    where
      by : (o : Option Line) → HoldsAt P side b x y o
          → HoldsAt P side b x y (option_map (λ (l : Line). seen_from side (ends_there (keep r) (seen_from side l))) o)
      by None k = k
      by (Some l) k = grind arith

  -- ---- a delivery

  -- the side may close the transport connection, or end
  turn_knows : (t : Tables) (side : Side) (q r : ℕ) (keep : ℕ → ℕ) (turn : Turn) (x y : Words)
      → HoldsAt P side t.broken x y (connection_at r (with_connection q (seen_from side turn.line) t.lines))
      → (turn.closes ≡ true → HoldsAt P side t.broken x y
      (connection_at r (with_connection q (seen_from side (closed t.broken (keep q) turn.line)) t.lines)))
      → KnowsAt P side r (after_turn t side q keep turn) x y
  turn_knows t side q r keep turn x y stayed close = by_test turn.closes (λ c. rw c (last t.known c)) (λ c. rw c stayed)
    where
      last : (known : Option Class) → turn.closes ≡ true
          → KnowsAt P side r (closes_by known (noted (map (shown_at side q) turn.shown) t) side q keep turn.line) x y
      last (Some class_2) c = close c
      last _ c = grind (arith, ended_knows)

  taken_same : (t : Tables) (side : Side) (r : ℕ) (keep : ℕ → ℕ) (l : Line) (x y : Words) → connection_at r t.lines ≡ Some l
      → HoldsAt P side t.broken x y (Some l) → (ms : List Message) → (seen_from side l).peer.channel ≡ ms
      → KnowsAt P side r (taken_in t side r keep (seen_from side l) ms)
      (and_more x (said_to_first (seen_from side l) ms) (heard_of_first (seen_from side l) ms)) y
  taken_same t side r keep l x y e h [] f = grind (arith, same_holds, quiet_holds)
  taken_same t side r keep l x y e h (m ∷ xs) f =
      turn_knows now side r r keep turn _ y (now_holds now side r l turn.line _ y e told)
      (λ c. now_holds now side r l (closed t.broken (keep r) turn.line) _ y e
      (kept.close t.broken t.terms (keep r) (keep r) v.own.transport (without_first v xs) m _ y c told))
    where
      v : Line
      v = seen_from side l

      now : Tables
      now = record t { known = learns t.terms v.own.transport m t.known }

      turn : Turn
      turn = message_taken t.broken t.terms (keep r) v.own.transport (without_first v xs) m

      told : P t.broken turn.line (and_more x (said_to v.own.transport v.own.session m) (heard_of v.own.transport m)) y
      told = kept.take t.broken t.terms (keep r) v m xs x y f (grind arith)

  taken_other : (t : Tables) (side : Side) (q r : ℕ) (keep : ℕ → ℕ) (l : Line) (x y : Words) (ms : List Message) → (r ≡ q → ⊥)
      → KnowsAt P side r t x y → KnowsAt P side r (taken_in t side q keep l ms) x y
  taken_other t side q r keep l x y [] n h = h
  taken_other t side q r keep l x y (m ∷ xs) n h = search (arith, turn_knows, same_holds, with_other)

  delivery_knows : (t : Tables) (side : Side) (q r : ℕ) (keep : ℕ → ℕ) (x y : Words) → KnowsAt P side r t x y
      → KnowsAt P side r (step t (delivers side q keep))
      (and_more x (if (q == r) && not (is_some (end_of side t)) then said_at_delivery (side_of side (connection_at r t.lines)) else [])
      (if (q == r) && not (is_some (end_of side t)) then heard_at_delivery (side_of side (connection_at r t.lines)) else [])) y
  delivery_knows t side q r keep x y h = by (q == r) (is_some (end_of side t)) refl
    where
      by : (a past : Bool) → (q == r) ≡ a
          → KnowsAt P side r (if past then t else delivered_to t side q keep (side_of side (connection_at q t.lines)))
          (and_more x (if a && not past then said_at_delivery (side_of side (connection_at r t.lines)) else [])
          (if a && not past then heard_at_delivery (side_of side (connection_at r t.lines)) else [])) y
      by true true e = quiet_holds side t.broken x y (connection_at r t.lines) h
      by false true e = quiet_holds side t.broken x y (connection_at r t.lines) h
      by true false e = search (arith, eqb-true, same_holds, quiet_holds, taken_same)
      by false false e = quiet_holds side _ x y _ (grind (arith, taken_other))

  -- ---- a break

  cut_knows : (left right : ℕ → ℕ) (b : Bool) (ls : List Line) (r : ℕ) (x y : Words) → Holds P b x y (connection_at r ls)
      → Holds P true x y (connection_at r (cut_channels left right 1 ls))
  cut_knows left right b ls r x y h = same_holds Left true x y _ _
      (mapped_at (cut_channels left right) (λ k l. cut_line (left k) (right k) l) (λ k. refl) (λ k l ls. refl) r ls)
      (by (connection_at r ls) h)
    where
      by : (o : Option Line) → Holds P b x y o → Holds P true x y (option_map (λ (l : Line). cut_line (left r) (right r) l) o)
      by None k = k
      by (Some l) k = kept.cut b (left r) (right r) l x y k

  ends_knows : (t : Tables) (side : Side) (e : Ending) (keep : ℕ → ℕ) (r : ℕ) (x y : Words) → KnowsAt P side r t x y
      → KnowsAt P side r (step t (ends side e keep)) x y
  ends_knows t side e keep r x y h = grind (arith, ended_knows)

  -- ---- a step, and a list of steps

  both_quiet : (b : Bool) (x y : Words) (o : Option Line) → Holds P b x y o → Holds P b (and_more x [] []) (and_more y [] []) o
  both_quiet b x y o h = quiet_holds Left b x (and_more y [] []) o (quiet_holds Right b y x o h)

  step_knows : (r : ℕ) (t : Tables) (s : Step) (x y : Words) → Ok s → Knows P r t x y
      → Knows P r (step t s) (and_more x (said_at Left r t s) (heard_at Left r t s))
      (and_more y (said_at Right r t s) (heard_at Right r t s))
  step_knows r t (connects o) x y small h = both_quiet _ x y _ (grind (arith, new_there, same_holds, passes))
  step_knows r t (calls Left q c) x y small h = quiet_holds Right _ y _ _ (call_knows t Left q r c x y small h)
  step_knows r t (calls Right q c) x y small h = quiet_holds Left _ x _ _ (call_knows t Right q r c y x small h)
  step_knows r t (delivers Left q keep) x y small h = quiet_holds Right _ y _ _ (delivery_knows t Left q r keep x y h)
  step_knows r t (delivers Right q keep) x y small h = quiet_holds Left _ x _ _ (delivery_knows t Right q r keep y x h)
  step_knows r t (breaks left right) x y small h = both_quiet _ x y _ (grind (arith, cut_knows left right t.broken t.lines r x y h))
  step_knows r t (ends Left e keep) x y small h = both_quiet _ x y _ (ends_knows t Left e keep r x y h)
  step_knows r t (ends Right e keep) x y small h = both_quiet _ x y _ (ends_knows t Right e keep r y x h)

  run_knows : (r : ℕ) (t : Tables) (steps : List Step) (x y : Words) → AllByRecursion Ok steps → Knows P r t x y
      → Knows P r (run t steps) (and_more x (said_in Left r t steps) (heard_in Left r t steps))
      (and_more y (said_in Right r t steps) (heard_in Right r t steps))
  run_knows r t [] x y small h = both_quiet t.broken x y (connection_at r t.lines) h
  run_knows r t (s ∷ steps) x y small h =
      grind (arith, one_by_one, step_knows, run_knows r (step t s) steps _ _ small.1 (step_knows r t s x y small.0 h))

  -- seen from either side
  pub all_know : (side : Side) (r : ℕ) (terms : Terms) (steps : List Step) → AllByRecursion Ok steps
      → KnowsAt P side r (run (start terms) steps) (words_in side r terms steps) (words_in (other_side side) r terms steps)
  all_know Left r terms steps small = run_knows r (start terms) steps silent silent small (grind arith)
  all_know Right r terms steps small = run_knows r (start terms) steps silent silent small (grind arith)
