-- What a side will have seen when it has taken all, or all before a restart that takes effect.
-- For the clauses of the invariant on histories.
use Rattle.osi_machine.proofs.Vocabulary.{State, Meaning, DT, MIP, MAP, RS, is_major_due, point_taken, minor_confirmed, major_confirmed}
use Rattle.osi_machine.proofs.Vocabulary.{drops, next, Item, Octets, Point, points, minor_kind, major_point, AreNumberedFrom, seen, AllFit}
use Rattle.osi_machine.proofs.Vocabulary.{stops, heard, view_next, heard_view, is_opening, append-nil, Begins, hears, Party, IsConsistent}
use Rattle.osi_machine.proofs.Vocabulary.{◌≡◌, refl, sym, ◌∙◌, ap, subst, ℕ, ◌+◌, ◌≤◌, true, false, List, [], ◌∷◌, ◌++◌, arith}
use Rattle.osi_machine.proofs.Vocabulary.{append_assoc, ◌⊎◌, inl}
use Rattle.osi_machine.proofs.basics.what_holds_in_each_phase.{by_test, by_either}
use Rattle.osi_machine.proofs.basics.what_a_restart_leaves_of_a_history.{points_append}
use Rattle.osi_machine.proofs.channels.a_unit_is_dropped_bad_or_acted_on.{chosen}
use Rattle.osi_machine.proofs.channels.what_every_unit_in_flight_keeps.{Turned, becomes_turned, until_heard}
use Rattle.osi_machine.proofs.invariant.what_holds_of_both_sides.{hearing, Views}
use Rattle.osi_machine.proofs.invariant.each_step_keeps_one_side.{Lines, unit_lines}

-- ---- V(M) counts

-- what stands of a side by itself, if it has said and got no data
abbrev pub Counted : State → List Item → Type 0
Counted s v = Lines s v [] []

pub heard_counted : (s : State) (us : List Meaning) (v : List Item) → Counted s v → AllFit s us → Counted (heard s us) (heard_view s us v)
heard_counted = until_heard Counted (λ s u v p g st h. let l = unit_lines s u v [] [] g h in grind arith)

-- ---- if an answer to a major point becomes due, there is one point more

abbrev DueAbove : ℕ → State → List Item → Type 0
DueAbove k s v = (k ≤ points v) × (is_major_due s.phase ≡ true → k + 1 ≤ points v)

pub major_came : (s : State) (us : List Meaning) (v : List Item) → is_major_due s.phase ≡ false → AllFit s us
    → is_major_due (heard s us).phase ≡ true
    → points v + 1 ≤ points (heard_view s us v)
major_came s us v n f d =
    (until_heard (DueAbove (points v)) (λ q u x p g st h. grind (arith, chosen, points_append)) s us v
    (omega arith, λ e. absurd (cc)) f).1 d

-- ---- if points are not taken last, none was seen

pub unseen : (s : State) (us : List Meaning) (v : List Item) → AllFit s us → (heard s us).numbers.answers ≡ false
    → points (heard_view s us v) ≡ points v
unfolding point_taken
unseen s us v f n = by_either
    (until_heard (λ q w. (points w ≡ points v) ⊎ Turned q) (λ q u x p g st h. grind (arith, points_append, becomes_turned)) s us v
    (inl refl) f)
    (λ e. e)
    (λ t. absurd (let a = t.answers in cc))

-- ---- one point more

pub numbered_point : (b : ℕ) (h : List Item) (i : Item) → AreNumberedFrom (b + points h) (i ∷ []) → AreNumberedFrom b h
    → AreNumberedFrom b (h ++ i ∷ [])
numbered_point b [] i e a = subst (λ (n : ℕ). AreNumberedFrom n (i ∷ [])) (omega arith) e
numbered_point b (Octets o ∷ h) i e a = numbered_point b h i e a
numbered_point b (Point n kind o ∷ h) i e a =
    (a.0, numbered_point (b + 1) h i (subst (λ (n : ℕ). AreNumberedFrom n (i ∷ [])) (omega arith) e) a.1)

-- ---- what was seen stays

seen_begins : (s : State) (u : Meaning) (v : List Item) → stops s u ≡ false → Begins v (seen s u v)
seen_begins s (DT o) v st = by_test s.units.duplex (λ e. rw e (grind (arith, append-nil))) (λ e. rw e (Octets o ∷ [], refl))
seen_begins s (MIP c n o) v st = (Point n (minor_kind c) o ∷ [], refl)
seen_begins s (MAP n o) v st = (Point n major_point o ∷ [], refl)
seen_begins s (RS k n w o) v st = grind (arith, append-nil)
seen_begins s _ v st = grind (arith, append-nil)

pub begins_twice : (v w z : List Item) → Begins v w → Begins w z → Begins v z
begins_twice v w z a b = (a.0 ++ b.0, sym (append_assoc v a.0 b.0) ∙ ap (λ (r : List Item). r ++ b.0) a.1 ∙ b.1)

pub heard_more : (s : State) (us : List Meaning) (v : List Item) → Begins v (heard_view s us v)
heard_more s [] v = grind (arith, append-nil)
heard_more s (u ∷ us) v = by_test (stops s u)
    (λ e. rw e (grind (arith, append-nil)))
    (λ e. rw e (begins_twice v (view_next s u v) (heard_view (next s u) us (view_next s u v))
    (by_test (drops s u) (λ q. rw q (grind (arith, append-nil))) (λ q. rw q (seen_begins s u v e)))
    (heard_more (next s u) us (view_next s u v))))

pub begins_points : (v w : List Item) → Begins v w → points v ≤ points w
begins_points v w b = let e = points_append v b.0 in let f = ap points b.1 in omega arith

pub view_grows : (s : State) (us : List Meaning) (v : List Item) → points v ≤ points (heard_view s us v)
view_grows s us v = begins_points v (heard_view s us v) (heard_more s us v)

-- ---- V(A) does not fall

-- an open connection whose V(A) has come from here, and is no higher than V(M)
pub record Grown (a : ℕ) (s : State) : Type 0 where
  pub phase : is_opening s.phase ≡ false
  pub from : a ≤ s.numbers.confirmed
  pub to : s.numbers.confirmed ≤ s.numbers.next

pub heard_grown : (a : ℕ) (s : State) (us : List Meaning) → Grown a s → AllFit s us → Grown a (heard s us)
unfolding point_taken minor_confirmed major_confirmed
heard_grown a s us h f = until_heard (λ q w. Grown a q) (λ q u w p g st k. grind arith) s us [] h f

-- ---- a listener

-- V(M) of a side that has received everything counts the points of the history
pub listener_count : (h : List Item) (x y : Party) → IsConsistent x → AllFit x.session y.sent → Views h x y
    → hears (hearing x y).phase ≡ true
    → (hearing x y).numbers.next ≡ (hearing x y).base + points h
listener_count h x y c f v l = search (arith, heard_counted)

-- what it has seen is a prefix of the history
pub listener_begins : (h : List Item) (x y : Party) → Views h x y → hears (hearing x y).phase ≡ true → Begins x.view h
listener_begins h x y v l = subst (Begins x.view) (v.ends l) (heard_more x.session y.sent x.view)
