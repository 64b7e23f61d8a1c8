-- A connection is requested, whatever is pending: it is the same but for lines of connections that are gone.
use Rattle.std.proofs.Common.{◌≡◌, ℕ, ◌+◌, Bool, true, List, [], ◌∷◌, ◌++◌, is_some, refl, sym, ap, ◌∙◌, arith}
use Rattle.osi_stack.proofs.Vocabulary.{eqb-true, eq-eqb, flat_map, beyond, push_here, push_other, AreUpTo, Rows, value_at, Connection}
use Rattle.osi_stack.proofs.Vocabulary.{asked, State as Carrier, Listener, Shown, connects, all_waiting, quieted, hushed, put_back}
use Rattle.osi_stack.proofs.Vocabulary.{live_lines, pruned, told_in, carried_in, AreAlike, AreAlikeInLive, Line, End, Holding, used_lines}
use Rattle.osi_stack.proofs.Vocabulary.{Connect, EndCall as Call}
use Rattle.osi_stack.proofs.each_line.the_first_that_indicates.{quiet_line}
use Rattle.osi_stack.proofs.in_step.lines_that_are_gone_do_not_matter.{quieted_live}
use Rattle.osi_stack.proofs.carried.packets_without_events.{both, or_second}
use Rattle.osi_stack.proofs.carried.open_connections_stay_open.{used_by, joined_lines}
use Rattle.osi_stack.proofs.in_step.the_other_lines_may_be_dropped.{only, only_push}
use Rattle.osi_stack.proofs.in_step.what_happens_to_live_connections.{reached, reached_live, Within, only_less, known_live}
use Rattle.osi_stack.proofs.in_step.two_runs_reach_the_same_state.{connects_apart}

-- ---- what is pending

-- no pending indication is dropped
waits_still : (live : Rows Connection) (q : ℕ) (s : Listener) (lines : Rows Line) →
    all_waiting (used_lines live (joined_lines q s lines)) ≡ all_waiting lines
waits_still live q s [] = grind (arith, used_by, quiet_line, or_second)
waits_still live q s ((p, y) ∷ lines) = grind (arith, used_by, quiet_line, or_second, joined_lines, waits_still live q s lines)

pub waits_asked : (c : Connect) (e : End) → all_waiting (connects c e).lines ≡ all_waiting e.lines
waits_asked c e = grind (arith, waits_still)

-- ---- lines of live connections

live_used : (live : Rows Connection) (rows : Rows Line) → live_lines live (used_lines live rows) ≡ live_lines live rows
live_used live [] = refl
live_used live ((p, y) ∷ rows) = grind (arith, live_used live rows)

joined_quieted : (q : ℕ) (s : Listener) (lines : Rows Line) → quieted (joined_lines q s lines) ≡ joined_lines q s (quieted lines)
joined_quieted q s [] = refl
joined_quieted q s ((p, y) ∷ lines) = ap (λ (l : Rows Line). (p, record y { waiting = [] }) ∷ l) (joined_quieted q s lines)

-- the lines of a new connection and of those that are live
abbrev joins_live : Rows Connection → ℕ → Listener → Rows Line → Rows Line
joins_live live q s lines = live_lines live (used_lines live (joined_lines q s lines))

hushed_lines : (live : Rows Connection) (q : ℕ) (s : Listener) (lines : Rows Line) →
    quieted (joins_live live q s lines) ≡ joins_live live q s (quieted lines)
hushed_lines live q s lines =
    grind (
      arith,
      live_used live (joined_lines q s lines),
      live_used live (joined_lines q s (quieted lines)),
      quieted_live live (joined_lines q s lines),
      joined_quieted q s lines,
    )

asked_within : (c : Carrier) → Within (λ r. is_some (value_at r (c.live ++ (c.given + 1, asked) ∷ []))) (reached c)
asked_within c r here = grind (arith, eqb-true, both, eq-eqb, reached_live, push_other)

pruned_lines : (c : Carrier) (s : Listener) (lines : Rows Line) → AreUpTo c.given c.live → AreUpTo c.given lines →
    joins_live (c.live ++ (c.given + 1, asked) ∷ []) (c.given + 1) s (live_lines c.live lines) ≡ joins_live
    (c.live ++ (c.given + 1, asked) ∷ []) (c.given + 1) s lines
pruned_lines c s lines up known =
    let q = c.given + 1 in
    let live = c.live ++ (q, asked) ∷ [] in
    let K : ℕ → Bool = λ r. is_some (value_at r live) in
    let new : K q ≡ true = ap is_some (push_here q asked c.live (beyond q c.given c.live up (omega arith))) in
    let less : only K (live_lines c.live lines) ≡ only K lines = grind (arith, only, known_live, only_less, reached, asked_within) in
    live_used live (joined_lines q s (live_lines c.live lines)) ∙ sym (only_push K q s (live_lines c.live lines) new) ∙
    ap (joined_lines q s) less ∙ only_push K q s lines new
    ∙ sym (live_used live (joined_lines q s lines))

pub connects_pruned : (c : Connect) (e : End) → AreUpTo e.carrier.given e.carrier.live → AreUpTo e.carrier.given e.lines →
    pruned (connects c (pruned e)) ≡ pruned (connects c e)
connects_pruned c e up known = grind (arith, pruned_lines)

-- ---- two ends that are alike

-- with what was carried put back
pub connects_back : (o : List ℕ) (c : Connect) (e : End) →
    put_back o (hushed (pruned (connects c e))) ≡ pruned (connects c (put_back o (hushed e)))
connects_back o c e = grind (arith, hushed_lines, connects_apart)

pub asked_alike : (c : Connect) (a b : Holding) (xs ys : List Call) → AreAlike a xs b ys →
    AreAlikeInLive (record a { end = connects c a.end }) xs (record b { end = connects c b.end }) ys
asked_alike c a b xs ys h =
    search (
      connects_back (flat_map carried_in xs) c a.end ∙ ap (λ (e : End). pruned (connects c e)) h.end ∙
          sym (connects_back (flat_map carried_in ys) c b.end),
      ap (λ (l : List (ℕ × Shown)). flat_map told_in xs ++ l) (waits_asked c a.end) ∙
          h.told ∙ ap (λ (l : List (ℕ × Shown)). flat_map told_in ys ++ l) (sym (waits_asked c b.end)),
    )
