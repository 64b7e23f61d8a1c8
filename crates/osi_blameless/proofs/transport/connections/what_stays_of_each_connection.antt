-- What stays of each connection at the judge of a calling end as units pass: its reference, and that no other has it.
-- For the law on DRs.
use Rattle.osi_blameless.proofs.transport.Vocabulary.{arith, asked_by, Asks, asks_by, asks_of, at_found, at_place, Bool, Broke, class_for}
use Rattle.osi_blameless.proofs.transport.Vocabulary.{is_closing, is_open, ◌&&◌}
use Rattle.osi_blameless.proofs.transport.Vocabulary.{confirm}
use Rattle.osi_blameless.proofs.transport.Vocabulary.{Connect, Connection, connection_after, Direction, false, Finding, first_failed}
use Rattle.osi_blameless.proofs.transport.Vocabulary.{found_on, half_after}
use Rattle.osi_blameless.proofs.transport.Vocabulary.{if◌then◌else◌, is_applied, is_free, is_live, is_named, is_refused, is_silent}
use Rattle.osi_blameless.proofs.transport.Vocabulary.{Kept, Left}
use Rattle.osi_blameless.proofs.transport.Vocabulary.{length, List, Named, None, none_told, NotJudged, Only, Option, Outcome, Outside}
use Rattle.osi_blameless.proofs.transport.Vocabulary.{placed, position}
use Rattle.osi_blameless.proofs.transport.Vocabulary.{Reach, reach_of, refl, request, request_tests, Right, Route, route, routed, sent_on}
use Rattle.osi_blameless.proofs.transport.Vocabulary.{set, slice_get}
use Rattle.osi_blameless.proofs.transport.Vocabulary.{Some, takes, TooMany, Traffic as State, true, Unnamed, Value, ℕ, ◌<◌, ◌||◌, ◌∙◌, ◌≡◌}
use Rattle.osi_blameless.proofs.transport.Vocabulary.{◌⊎◌}
use Rattle.osi_blameless.proofs.transport.small_facts_that_many_lemmas_use.{sized_judged}
use Rattle.osi_blameless.proofs.transport.connections.what_is_live_at_an_end.{IsLively, is_there}
use Rattle.osi_blameless.proofs.transport.names.what_holds_of_one_item.{HoldsOfEach, after_add, after_set, each_add, each_set}
pub use Rattle.osi_blameless.proofs.transport.small_facts_that_many_lemmas_use.{left_judged, right_judged}

-- left has not closed it, and right has answered the CR by a CC
abbrev pub is_tracked : Connection → Bool
is_tracked c = is_open c.left.phase && (is_open c.right.phase || is_closing c.right.phase)

-- ---- the halves of a connection after a unit

-- of left, after a unit of left
pub left_own : (v : Value) (r : Reach) (c : Connection) → (connection_after Left v true r c).left ≡ half_after v c.left
left_own v r c = left_judged r (sent_on Left v c) ∙ (grind arith)

pub right_then : (v : Value) (applied : Bool) (r : Reach) (c : Connection) → (connection_after Left v applied r c).right ≡ c.right
right_then v applied r c = grind (arith, right_judged)

-- after a unit of right
pub left_then : (v : Value) (applied : Bool) (r : Reach) (c : Connection) → (connection_after Right v applied r c).left ≡ c.left
left_then v applied r c = grind (arith, left_judged)

pub right_own : (v : Value) (r : Reach) (c : Connection) → (connection_after Right v true r c).right ≡ half_after v c.right
right_own v r c = right_judged r (sent_on Right v c) ∙ (grind arith)

-- ---- what holds of each connection

-- left has sent a CR, and refuses nothing
abbrev pub IsStarted : Connection → Type 0
IsStarted c = (is_silent c.left.phase || is_refused c.left.phase) ≡ false

-- no two have the same reference of left
abbrev pub AreDistinct : List Connection → Type 0
AreDistinct cs = (i j : ℕ) (c e : Connection) → slice_get cs i ≡ Some c → slice_get cs j ≡ Some e →
    c.left.reference ≡ e.left.reference → i ≡ j

-- ---- a unit of left

-- what stays of a connection after a unit
pub record Stays (c e : Connection) : Type 0 where
  pub reference : e.left.reference ≡ c.left.reference
  pub started : IsStarted c → IsStarted e

pub own_stays : (applied : Bool) (s : State) (v : Value) (r : Reach) (c : Connection) → is_applied (found_on Left s c v) ≡ applied →
    Stays c (connection_after Left v applied r c)
own_stays applied s v r c h = search (arith, left_own, left_judged)

stays_by : (d : Direction) (s : State) (v : Value) (r : Reach) (c : Connection) →
    Stays c (connection_after d v (is_applied (found_on d s c v)) r c)
stays_by d s v r c = grind (arith, own_stays, left_then)

-- what is judged after a unit was so before it
pub judged_was : (d : Direction) (v : Value) (applied : Bool) (r : Reach) (c : Connection) →
    (connection_after d v applied r c).is_judged ≡ true → c.is_judged ≡ true
judged_was d v applied r c h = grind (arith, sized_judged)

there_before : (applied : Bool) (s : State) (v : Value) (r : Reach) (c : Connection) → is_applied (found_on Left s c v) ≡ applied →
    is_there (connection_after Left v applied r c).left (connection_after Left v applied r c).right ≡ true → is_there c.left c.right ≡ true
there_before applied s v r c h there = grind (arith, left_own, right_then, left_judged)

-- ---- all connections, after a unit that passes

abbrev AtPlace : List Connection → ℕ → Connection → ℕ → Connection → Type 0
AtPlace cs p new i c = ((i ≡ p) × (c ≡ new)) ⊎ (slice_get cs i ≡ Some c)

distinct_set : (cs : List Connection) (p : ℕ) (c new : Connection) → AreDistinct cs → slice_get cs p ≡ Some c →
    new.left.reference ≡ c.left.reference → AreDistinct (set cs p new)
distinct_set cs p c new a at same i j x y there too e = grind (arith, after_set)

abbrev pub IsAbove : ℕ → List Connection → Type 0
IsAbove n cs = HoldsOfEach (λ (c : Connection). c.left.reference < n) cs

distinct_new : (cs : List Connection) (p : ℕ) (new : Connection) → AreDistinct cs → IsAbove new.left.reference cs →
    (i j : ℕ) (x y : Connection) → AtPlace cs p new i x → AtPlace cs p new j y → x.left.reference ≡ y.left.reference → i ≡ j
distinct_new cs p new a above i j x y l o e = grind arith

-- this holds of the connection that a CR begins
abbrev pub IfAsked : (Connection → Type 0) → List Connection → Value → Type 0
IfAsked P cs (request x) = P (asked_by x) × IsAbove x.source cs
IfAsked P cs _ = Unit {0}

-- Each connection is one that was there, after a unit, or the one that a CR begins.
module _ (P : Connection → Type 0) where
  abbrev pub AllSo : Outcome → Type 0
  AllSo o = HoldsOfEach P o.state.connections × AreDistinct o.state.connections

  abbrev pub StaysAfter : Direction → Value → State → Type 0
  StaysAfter d v s = (c : Connection) → P c → (r : Reach) → P (connection_after d v (is_applied (found_on d s c v)) r c)

  to_one : (d : Direction) (v : Value) (s : State) (p : ℕ) (o : Option Connection) → slice_get s.connections p ≡ o → StaysAfter d v s →
      HoldsOfEach P s.connections → AreDistinct s.connections → AllSo (at_found d v s p o)
  to_one d v s p None at k h a = (h, a)
  to_one d v s p (Some c) at k h a =
      let how_far = reach_of (class_for d s.course) (found_on d s c v) in
      search (arith, each_set, distinct_set, stays_by d s v how_far c)

  to_place : (d : Direction) (v : Value) (s : State) (p : Option ℕ) → StaysAfter d v s →
      HoldsOfEach P s.connections → AreDistinct s.connections → AllSo (at_place d v s p)
  to_place d v s None k h a = (h, a)
  to_place d v s (Some p) k h a = to_one d v s p (slice_get s.connections p) refl k h a

  placed_so : (new : Connection) (cs : List Connection) (o : Option ℕ) → P new → IsAbove new.left.reference cs → HoldsOfEach P cs →
      AreDistinct cs → HoldsOfEach P (placed new cs o) × AreDistinct (placed new cs o)
  placed_so new cs (Some p) is above h a = (
    each_set P cs p new h is,
    λ i j x y there too e. distinct_new cs p new a above i j x y (after_set cs p i new x there) (after_set cs p j new y too) e,
  )
  placed_so new cs None is above h a = (
    each_add P cs new h is,
    λ i j x y there too e. distinct_new cs (length cs) new a above i j x y (after_add cs i new x there) (after_add cs j new y too) e,
  )

  asking : (f : Finding) (x : Connect) (s : State) → P (asked_by x) → IsAbove x.source s.connections → HoldsOfEach P s.connections →
      AreDistinct s.connections → AllSo (asks_by Left f x s)
  asking Kept x s new above h a = placed_so (asked_by x) s.connections (position is_free s.connections) new above h a
  asking (Broke r) x s new above h a = (h, a)
  asking Outside x s new above h a = (h, a)
  asking TooMany x s new above h a = (h, a)
  asking NotJudged x s new above h a = (h, a)

  asks : (v : Value) (s : State) → IfAsked P s.connections v → HoldsOfEach P s.connections → AreDistinct s.connections →
      AllSo (asks_of Left v s)
  asks (request x) s (new, above) h a = asking (first_failed (request_tests s x)) x s new above h a
  asks (confirm destination x) s new h a = (h, a)
  asks _ s new h a = (h, a)

  left_routes : (v : Value) (s : State) (r : Route) → StaysAfter Left v s → IfAsked P s.connections v → HoldsOfEach P s.connections →
      AreDistinct s.connections → AllSo (routed Left v s r)
  left_routes v s Asks k new h a = asks v s new h a
  left_routes v s (Named n) k new h a = to_place Left v s (position (is_named Left n) s.connections) k h a
  left_routes v s Only k new h a = to_place Left v s (position (is_live Left) s.connections) k h a
  left_routes v s (Unnamed finding) k new h a = (h, a)

  if_judged : (stopped : Bool) (d : Direction) (s : State) (o : Outcome) → HoldsOfEach P s.connections → AreDistinct s.connections →
      AllSo o → AllSo (if stopped then none_told d NotJudged s else o)
  if_judged stopped d s o h a b = grind arith

  pub left_passes : (v : Value) (s : State) → StaysAfter Left v s → IfAsked P s.connections v → HoldsOfEach P s.connections →
      AreDistinct s.connections → AllSo (takes Left v s)
  left_passes v s k new h a = search (arith, if_judged, left_routes)

  right_other : (v : Value) (s : State) (r : Route) → StaysAfter Right v s → HoldsOfEach P s.connections → AreDistinct s.connections →
      AllSo (asks_of Right v s) → AllSo (routed Right v s r)
  right_other v s Asks k h a b = b
  right_other v s (Named n) k h a b = to_place Right v s (position (is_named Right n) s.connections) k h a
  right_other v s Only k h a b = to_place Right v s (position (is_live Right) s.connections) k h a
  right_other v s (Unnamed finding) k h a b = (h, a)

  right_routes : (v : Value) (s : State) → StaysAfter Right v s → HoldsOfEach P s.connections → AreDistinct s.connections →
      AllSo (routed Right v s (route Right s.course v))
  right_routes (request x) s k h a = grind arith
  right_routes v s k h a = search (arith, right_other)

  pub right_passes : (v : Value) (s : State) → StaysAfter Right v s → HoldsOfEach P s.connections → AreDistinct s.connections →
      AllSo (takes Right v s)
  right_passes v s k h a = search (arith, if_judged, right_routes)

-- ---- what holds of each connection stays so

pub started_stays : (d : Direction) (v : Value) (s : State) → StaysAfter IsStarted d v s
started_stays d v s c h r = (stays_by d s v r c).started h

pub lively_stays : (L : ℕ → Type 0) (v : Value) (s : State) → StaysAfter (IsLively Left L) Left v s
lively_stays L v s c h r = grind (arith, own_stays, judged_was, there_before)
