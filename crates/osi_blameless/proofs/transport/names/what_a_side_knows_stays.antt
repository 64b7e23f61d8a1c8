-- A connection that is not over for a side keeps its place. What the side knows of the other stays known, and what it closed is closed.
-- For the law on places.
use Rattle.osi_blameless.proofs.transport.Vocabulary.{ap, arith, Bool, false, if◌then◌else◌, inl, inr, length, List, map, None, Option}
use Rattle.osi_blameless.proofs.transport.Vocabulary.{refl, Some, sym}
use Rattle.osi_blameless.proofs.transport.Vocabulary.{true, ℕ, ◌∙◌, ◌≡◌, ◌⊎◌, eqb-true, slice_get_within, not, position, slice_get}
use Rattle.osi_blameless.proofs.transport.Vocabulary.{slice_set, ◌&&◌, ◌==◌}
use Rattle.osi_blameless.proofs.transport.Vocabulary.{◌||◌, Connect, request, Value, is_applied, reach_of, first_failed, begins, is_free}
use Rattle.osi_blameless.proofs.transport.Vocabulary.{is_live}
use Rattle.osi_blameless.proofs.transport.Vocabulary.{is_named, is_open, is_over, is_silent, other, own, seen, asked_by, asks_by, asks_of}
use Rattle.osi_blameless.proofs.transport.Vocabulary.{at_found}
use Rattle.osi_blameless.proofs.transport.Vocabulary.{at_place, class_for, connection_after, found_on, fresh, is_stopped, none_told}
use Rattle.osi_blameless.proofs.transport.Vocabulary.{Outcome, placed}
use Rattle.osi_blameless.proofs.transport.Vocabulary.{request_tests, route, routed, Traffic as State, Connection, Direction, Finding, Kept}
use Rattle.osi_blameless.proofs.transport.Vocabulary.{NotJudged}
use Rattle.osi_blameless.proofs.transport.Vocabulary.{Reach, Half, Route, Asks, Named, Only, Unnamed, all_passed, packet, passes, Passing}
use Rattle.osi_blameless.proofs.transport.Vocabulary.{rubbish, unit}
use Rattle.osi_blameless.proofs.transport.small_facts_that_many_lemmas_use.{and_first, and_second, differ}
use Rattle.osi_blameless.proofs.transport.names.what_holds_of_one_item.{HoldsOfEach, after_add, after_map, after_set, first_true}
use Rattle.osi_blameless.proofs.transport.names.when_a_connection_has_a_name.{IsEarlier, earlier_same, three, three_make}
use Rattle.osi_blameless.proofs.transport.names.what_keeps_names_apart.{Sound, SoundIf}
use Rattle.osi_blameless.proofs.transport.names.a_reference_names_one_connection.{all_apart, fresh_apart, not_first}

-- ---- a unit changes nothing that is known

seen_after : (d e : Direction) (v : Value) (applied : Bool) (r : Reach) (c : Connection) →
    seen d (connection_after e v applied r c) ≡ seen d c
seen_after d e v applied r c = search arith

-- ---- what a side has closed

abbrev HasEnded : Half → Type 0
HasEnded half = (is_silent half.phase || is_open half.phase) ≡ false

after_ended : (applied : Bool) (d b : Direction) (s : State) (v : Value) (r : Reach) (c : Connection) →
    is_applied (found_on b s c v) ≡ applied → HasEnded (own d c) → HasEnded (own d (connection_after b v applied r c))
after_ended applied d b s v r c h e = search arith

-- ---- the connection at a place, before and after

pub same_item : (x y : Connection) → Some x ≡ Some y → x ≡ y
same_item x y e = cc

record KnowsStill (d : Direction) (c e : Connection) : Type 0 where
  known : IsEarlier (seen d c) (seen d e)
  ended : HasEnded (own d c) → HasEnded (own d e)

abbrev Known : Direction → ℕ → List Connection → List Connection → Type 0
Known d p cs after = (c e : Connection) → slice_get cs p ≡ Some c → c.is_judged ≡ true → is_over d c ≡ false →
    slice_get after p ≡ Some e → KnowsStill d c e

known_same : (d : Direction) (p : ℕ) (cs : List Connection) → Known d p cs cs
known_same d p cs c e at j live there = grind arith

set_by : (d : Direction) (p q : ℕ) (cs : List Connection) (old new c e : Connection) → slice_get cs q ≡ Some old →
    KnowsStill d old new → slice_get cs p ≡ Some c → ((p ≡ q) × (e ≡ new)) ⊎ (slice_get cs p ≡ Some e) → KnowsStill d c e
set_by d p q cs old new c e at h there k = grind (arith, same_item)

known_set : (d : Direction) (p q : ℕ) (cs : List Connection) (old new : Connection) → slice_get cs q ≡ Some old →
    KnowsStill d old new → Known d p cs (slice_set cs q new)
known_set d p q cs old new at h c e there j live so = set_by d p q cs old new c e at h there (after_set cs q p new e so)

-- ---- a packet begins

begun_knows : (d b : Direction) (c : Connection) → Sound c → KnowsStill d c (begins b c)
begun_knows d b c s = search (arith, earlier_same)

known_begins : (d b : Direction) (p : ℕ) (cs : List Connection) → HoldsOfEach SoundIf cs → Known d p cs (map (begins b) cs)
known_begins d b p cs sound c e at j live there =
    grind (arith, same_item, after_map (begins b) cs p e there, begun_knows d b c (sound p c at j))

-- ---- a CR takes the place of a connection that is over, or a new one

both : (d : Direction) (c : Connection) → is_free c ≡ true → is_over d c ≡ true
both d c h = grind (arith, and_first, and_second)

put_by : (d : Direction) (p q : ℕ) (cs : List Connection) (new c e : Connection) → position is_free cs ≡ Some q →
    slice_get cs p ≡ Some c → is_over d c ≡ false → ((p ≡ q) × (e ≡ new)) ⊎ (slice_get cs p ≡ Some e) → KnowsStill d c e
put_by d p q cs new c e first at live (inl (same, is)) =
    let here : slice_get cs q ≡ Some c = ap (λ (i : ℕ). slice_get cs i) (sym same) ∙ at in
    differ (is_over d c) (both d c (first_true is_free cs q c first here)) live
put_by d p q cs new c e first at live (inr so) = grind (arith, same_item)

add_by : (d : Direction) (p : ℕ) (cs : List Connection) (new c e : Connection) → slice_get cs p ≡ Some c →
    ((p ≡ length cs) × (e ≡ new)) ⊎ (slice_get cs p ≡ Some e) → KnowsStill d c e
add_by d p cs new c e at h = grind (arith, slice_get_within, same_item)

known_placed : (d : Direction) (p : ℕ) (cs : List Connection) (new : Connection) (q : Option ℕ) → position is_free cs ≡ q →
    Known d p cs (placed new cs q)
known_placed d p cs new (Some q) first c e at j live there = put_by d p q cs new c e first at live (after_set cs q p new e there)
known_placed d p cs new None first c e at j live there = add_by d p cs new c e at (after_add cs p new e there)

-- ---- by the way that a unit takes

module _ (d : Direction) (p : ℕ) (s : State) where
  abbrev So : Outcome → Type 0
  So o = Known d p s.connections o.state.connections

  one_known : (b : Direction) (v : Value) (q : ℕ) (c : Option Connection) → slice_get s.connections q ≡ c → So (at_found b v s q c)
  one_known b v q None at = known_same d p s.connections
  one_known b v q (Some c) at =
      let how_far = reach_of (class_for b s.course) (found_on b s c v) in
      let applied = is_applied (found_on b s c v) in
      let after = connection_after b v applied how_far c in
      known_set d p q s.connections c after at (grind (arith, seen_after, earlier_same, after_ended))

  any_known : (b : Direction) (v : Value) (q : Option ℕ) → So (at_place b v s q)
  any_known b v None = known_same d p s.connections
  any_known b v (Some q) = one_known b v q (slice_get s.connections q) refl

  asking : (b : Direction) (f : Finding) (x : Connect) → So (asks_by b f x s)
  asking b Kept x = known_placed d p s.connections (asked_by x) (position is_free s.connections) refl
  asking b _ x = known_same d p s.connections

  asks : (b : Direction) (v : Value) → So (asks_of b v s)
  asks b (request x) = asking b (first_failed (request_tests s x)) x
  asks b _ = known_same d p s.connections

  by_route : (b : Direction) (v : Value) (r : Route) → So (routed b v s r)
  by_route b v Asks = asks b v
  by_route b v (Named n) = any_known b v (position (is_named b n) s.connections)
  by_route b v Only = any_known b v (position (is_live b) s.connections)
  by_route b v (Unnamed finding) = known_same d p s.connections

  if_judged : (stopped : Bool) (b : Direction) (v : Value) (r : Route) →
      So (if stopped then none_told b NotJudged s else routed b v s r)
  if_judged true b v r = known_same d p s.connections
  if_judged false b v r = by_route b v r

  known_passes : (passing : Passing) → HoldsOfEach SoundIf s.connections → Known d p s.connections (passes passing s).connections
  known_passes (packet b) sound = known_begins d b p s.connections sound
  known_passes (unit b v) sound = if_judged (is_stopped b s.course) b v (route b s.course v)
  known_passes (rubbish b) sound = known_same d p s.connections

-- ---- the name

pub name_stays : (ps : List Passing) (passing : Passing) (d : Direction) (n p : ℕ) (c e : Connection) →
    slice_get (all_passed ps fresh).connections p ≡ Some c →
    slice_get (passes passing (all_passed ps fresh)).connections p ≡ Some e →
    c.is_judged ≡ true → is_named d n c ≡ true → is_over d e ≡ false → is_named d n e ≡ true
name_stays ps passing d n p c e at there j named over =
    let s = all_passed ps fresh in
    let live = not_first (is_over d c) (not (is_silent (seen d c).phase) && ((seen d c).reference == n)) named in
    let known = known_passes d p s passing (all_apart ps fresh fresh_apart).sound c e at j live there in
    grind (arith, three, three_make)

-- what this side has closed it has closed for good
pub ended_stays : (ps : List Passing) (passing : Passing) (d : Direction) (p : ℕ) (c e : Connection) →
    slice_get (all_passed ps fresh).connections p ≡ Some c →
    slice_get (passes passing (all_passed ps fresh)).connections p ≡ Some e →
    c.is_judged ≡ true → is_over d c ≡ false → (is_silent (own d c).phase || is_open (own d c).phase) ≡ false →
    (is_silent (own d e).phase || is_open (own d e).phase) ≡ false
ended_stays ps passing d p c e at there j live h =
    (known_passes d p (all_passed ps fresh) passing (all_apart ps fresh fresh_apart).sound c e at j live there).ended h

-- ---- the reference

pub name_is_own : (ps : List Passing) (d : Direction) (n p : ℕ) (c : Connection) →
    slice_get (all_passed ps fresh).connections p ≡ Some c → c.is_judged ≡ true → is_named (other d) n c ≡ true →
    (own d c).reference ≡ n
name_is_own ps d n p c at j named =
    let sound = (all_apart ps fresh fresh_apart).sound p c at j in
    grind (arith, eqb-true, three)
