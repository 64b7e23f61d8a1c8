-- A reference above those of all CRs that have passed is in use for no connection at the judge, and for none that is not judged.
-- For the law of that name.
use Rattle.osi_blameless.proofs.transport.Vocabulary.{[], arith, Bool, false, List, None, Option, refl, Some, subst, suc, sym, true, zero}
use Rattle.osi_blameless.proofs.transport.Vocabulary.{ℕ, ◌++◌, ◌<◌}
use Rattle.osi_blameless.proofs.transport.Vocabulary.{◌∷◌, ◌≡◌, ◌⊎◌, eqb-true, AllByRecursion, list_any, not, slice_get, ◌&&◌, ◌==◌, ◌||◌}
use Rattle.osi_blameless.proofs.transport.Vocabulary.{Connect}
use Rattle.osi_blameless.proofs.transport.Vocabulary.{request, Value, Class, Two, Local, fresh_state, is_applied, reach_of, begins, is_over}
use Rattle.osi_blameless.proofs.transport.Vocabulary.{is_silent}
use Rattle.osi_blameless.proofs.transport.Vocabulary.{uses, asked_by, asks_by, asks_kept, at_found, class_for, connection_after, found_on}
use Rattle.osi_blameless.proofs.transport.Vocabulary.{fresh}
use Rattle.osi_blameless.proofs.transport.Vocabulary.{is_not_judged, is_stopped, route_in, routed, Traffic as State, takes, Connection}
use Rattle.osi_blameless.proofs.transport.Vocabulary.{Direction, Left}
use Rattle.osi_blameless.proofs.transport.Vocabulary.{Right, Finding, Kept, TooMany, Reach, Route, all_asked, all_written, asked_as}
use Rattle.osi_blameless.proofs.transport.Vocabulary.{asked_in, all_passed}
use Rattle.osi_blameless.proofs.transport.Vocabulary.{packet, passes, Passing, rubbish, unit}
use Rattle.osi_carrier.specs.Runs.{Act}
use Rattle.osi_blameless.proofs.transport.names.what_holds_of_one_item.{HoldsOfEach, each_add, each_map, each_set}
use Rattle.osi_blameless.proofs.transport.names.a_reference_names_one_connection.{no_item}
use Rattle.osi_blameless.proofs.transport.requests.references_of_requests_rise.{asked_below}
use Rattle.osi_blameless.proofs.transport.small_facts_that_many_lemmas_use.{left_judged}

-- ---- the reference of left stays

after_same : (applied : Bool) (d : Direction) (s : State) (v : Value) (r : Reach) (c : Connection) →
    is_applied (found_on d s c v) ≡ applied → (connection_after d v applied r c).left.reference ≡ c.left.reference
after_same applied d s v r c h = grind (arith, left_judged)

-- ---- all are below

module _ (m : ℕ) where
  abbrev pub IsBelow : Connection → Type 0
  IsBelow c = c.left.reference < m

  abbrev pub AreBelow : State → Type 0
  AreBelow s = HoldsOfEach IsBelow s.connections

  abbrev pub FewAsked : List ℕ → Type 0
  FewAsked rs = AllByRecursion (λ (r : ℕ). r < m) rs

  below_same : (c e : Connection) → e.left.reference ≡ c.left.reference → IsBelow c → IsBelow e
  below_same c e h b = subst (λ (n : ℕ). n < m) (sym h) b

  by_item : (d : Direction) (v : Value) (s : State) (p : ℕ) (c : Option Connection) → slice_get s.connections p ≡ c → AreBelow s →
      AreBelow (at_found d v s p c).state
  by_item d v s p None at a = a
  by_item d v s p (Some c) at a =
      let applied = is_applied (found_on d s c v) in
      let how_far = reach_of (class_for d s.course) (found_on d s c v) in
      search (arith, each_set, below_same, after_same applied d s v how_far c refl)

  placed_below : (x : Connect) (s : State) (p : Option ℕ) → x.source < m → AreBelow s → AreBelow (asks_kept x s p).state
  placed_below x s (Some p) h a = each_set IsBelow s.connections p (asked_by x) a h
  placed_below x s None h a = each_add IsBelow s.connections (asked_by x) a h

  asking : (d : Direction) (f : Finding) (x : Connect) (s : State) → x.source < m → AreBelow s → AreBelow (asks_by d f x s).state
  asking d f x s h a = search (arith, placed_below)

  by_route : (d : Direction) (v : Value) (s : State) (r : Route) → FewAsked (asked_in v) → AreBelow s → AreBelow (routed d v s r).state
  by_route d v s r h a = search (arith, asking, by_item)

  -- a CR of right is for no connection
  right_asks : (k : Option Class) (stopped : Bool) (x : Connect) (s : State) → AreBelow s →
      AreBelow (routed Right (request x) s (route_in k Right stopped (request x))).state
  right_asks k stopped x s a = grind arith

  pub still_below : (passing : Passing) (s : State) → FewAsked (asked_as passing) → AreBelow s → AreBelow (passes passing s)
  still_below (packet d) s h a = each_map IsBelow (begins d) s.connections a (λ c b. below_same c (begins d c) (grind arith) b)
  still_below (unit Left v) s h a = grind (arith, by_route)
  still_below (unit Right v) s h a = grind (arith, right_asks, by_route)
  still_below (rubbish d) s h a = a

  all_below : (ps : List Passing) (s : State) → FewAsked (all_asked ps) → AreBelow s → AreBelow (all_passed ps s)
  all_below [] s h a = a
  all_below (p ∷ ps) s h a = grind (arith, still_below, all_below ps (passes p s) (grind arith) (still_below p s (grind arith) a))

  -- ---- so none has this reference

  neither : (a b c : Bool) → c ≡ false → (a && (b && c)) ≡ false
  neither a b c h = grind arith

  none_any : (a b : Bool) → a ≡ false → b ≡ false → (a || b) ≡ false
  none_any a b h k = grind arith

  none_so : (f : Connection → Bool) (cs : List Connection) → HoldsOfEach (λ (c : Connection). f c ≡ false) cs → list_any f cs ≡ false
  none_so f [] h = refl
  none_so f (c ∷ cs) h = none_any (f c) (list_any f cs) (h zero c refl) (none_so f cs (λ i e at. h (suc i) e at))

  pub unused : (s : State) → AreBelow s → list_any (uses Left m) s.connections ≡ false
  unused s a = none_so (uses Left m) s.connections (λ i c at. neither (not (is_over Left c)) (not (is_silent c.left.phase))
      (c.left.reference == m) (grind (arith, eqb-true)))

  pub all_unlike : (s : State) → AreBelow s → list_any (is_not_judged m) s.connections ≡ false
  all_unlike s a = grind (arith, none_so)

-- ---- a CR of a carrier

pub next_is_new : (local : Local) (acts : List Act) (ps : List Passing) (r : ℕ) (rest : List ℕ) →
    all_written acts (fresh_state true local) ≡ all_asked ps ++ r ∷ rest →
    (list_any (uses Left r) (all_passed ps fresh).connections ≡ false)
    × (list_any (is_not_judged r) (all_passed ps fresh).connections ≡ false)
next_is_new local acts ps r rest e =
    let few = asked_below acts (fresh_state true local) (all_asked ps) r rest e in
    let below = all_below r ps fresh few (λ i c at. no_item i c at) in
    (unused r (all_passed ps fresh) below, all_unlike r (all_passed ps fresh) below)

abbrev pub Passed : Finding → Type 0
Passed f = (f ≡ Kept) ⊎ (f ≡ TooMany)

pub next_is_right : (local : Local) (acts : List Act) (ps : List Passing) (x : Connect) (rest : List ℕ) →
    all_written acts (fresh_state true local) ≡ all_asked ps ++ x.source ∷ rest →
    is_stopped Left (all_passed ps fresh).course ≡ false → (all_passed ps fresh).course.class_seen ≡ Some Two →
    ((takes Left (request x) (all_passed ps fresh)).told.finding ≡ Kept)
    ⊎ ((takes Left (request x) (all_passed ps fresh)).told.finding ≡ TooMany)
next_is_right local acts ps x rest e judged two = grind (arith, unused, next_is_new)
