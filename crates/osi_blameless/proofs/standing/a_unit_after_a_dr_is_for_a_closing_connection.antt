-- A DT or an AK that is found to come after a DR of its sender is for a connection that this side is closing, in class 2. No other
-- unit but a second DR is found so.
-- For the sessions of an end after such a unit of the other side.
use Rattle.osi_blameless.proofs.Vocabulary.{[], Bool, false, if◌then◌else◌, List, None, not, Option, refl, Some, sym, true, ℕ, ◌∙◌, ◌∷◌}
use Rattle.osi_blameless.proofs.Vocabulary.{◌≡◌, AllByRecursion, slice_get, acknowledge, confirm, Connect, data0, data2, disconnect}
use Rattle.osi_blameless.proofs.Vocabulary.{disconnected, error, request, Value, Class, first_failed, Test, is_closed, is_closing, is_named}
use Rattle.osi_blameless.proofs.Vocabulary.{is_open, is_refused, is_silent, own, asks_of, at_found, found, found_on, Outcome, route_in}
use Rattle.osi_blameless.proofs.Vocabulary.{takes, uses_source, unnamed_by, Traffic as State, Connection, Rules, Way, Finding, Broke}
use Rattle.osi_blameless.proofs.Vocabulary.{NotJudged, Phase, Route, Asks, Named, Only, Unnamed, other, Direction, Joined, reference_of}
use Rattle.osi_blameless.proofs.Vocabulary.{way_of, HaveSamePlaces, IsOneOf, is_report, arith, confirm_tests, in_doubt, Sessions, Course}
use Rattle.osi_rules.specs.Sides as sides
use Rattle.osi_rules.specs.Traffic as traffic
use Rattle.osi_rules.specs.declared.directions.Direction.TheVariants as way
use Rattle.osi_rules.specs.declared.findings.Rule.TheVariants as rule
use Rattle.osi_blameless.proofs.keeping.what_a_taker_passes_over.{IsDr}
use Rattle.osi_blameless.proofs.shown.a_unit_is_joined_where_it_is_named.{named_there, names_there}
use Rattle.osi_blameless.proofs.standing.right_units_leave_all_standing.{IsLink, ak, dt, link_names}
use Rattle.osi_blameless.proofs.standing.what_a_unit_does_at_its_place.{Does, asks_again, asks_more, nowhere, somewhere, unit_does}

-- ---- what is found of such a unit

abbrev IsFound : Finding → Type 0
IsFound f = f ≡ Broke rule.Closed

-- none of these tests finds it
abbrev AreOthers : List Test → Type 0
AreOthers tests = AllByRecursion (λ (t : Test). IsFound t.1 → ⊥) tests

first_other : (tests : List Test) → AreOthers tests → IsFound (first_failed tests) → ⊥
first_other [] all h = cc
first_other (t ∷ tests) all h = grind (arith, first_other tests all.1)

-- ---- of which units it is found

-- a DT, an AK or a DR
pub data MayFollow (v : Value) : Type 0 where
  a_link : (n : ℕ) → IsLink v n → MayFollow v
  a_dr : IsDr v → MayFollow v

found_follows : (d : Way) (course : Rules) (in_use : Bool) (c : Connection) (v : Value) → IsFound (found d course in_use c v) → MayFollow v
found_follows d course in_use c (data2 n number end user) h = a_link n (dt number end user refl)
found_follows d course in_use c (acknowledge credit n number) h = a_link n (ak credit number refl)
found_follows d course in_use c (disconnect n source reason user) h = a_dr tt
found_follows way.Left course in_use c (request x) h = absurd (cc)
found_follows way.Right course in_use c (request x) h = absurd (cc)
found_follows way.Left course in_use c (confirm n x) h = absurd (cc)
found_follows way.Right course in_use c (confirm n x) h =
    absurd (first_other (confirm_tests c course.class in_use course.loose x)
    (λ e. cc e, (λ e. cc e, (λ e. cc e, (grind arith, (λ e. cc e, tt))))) h)
found_follows way.Left course in_use c (disconnected n source) h = grind (arith, first_other)
found_follows way.Right course in_use c (disconnected n source) h = grind (arith, first_other)
found_follows way.Left course in_use c (data0 end user) h = grind (arith, first_other)
found_follows way.Right course in_use c (data0 end user) h = grind (arith, first_other)
found_follows way.Left course in_use c (error n cause) h = grind (arith, first_other)
found_follows way.Right course in_use c (error n cause) h = grind (arith, first_other)

-- a route that finds it finds it of a connection
abbrev IsOther : Route → Type 0
IsOther Asks = Unit {0}
IsOther Only = Unit {0}
IsOther (Named n) = Unit {0}
IsOther (Unnamed f) = IsFound f → ⊥

route_other : (k : Option Class) (d : Way) (b : Bool) (v : Value) → IsOther (route_in k d b v)
route_other k d b v = grind arith

unnamed_not : (reports loose strays : Bool) (v : Value) →
    IsFound (if reports then NotJudged else (if loose then in_doubt (unnamed_by strays v) else unnamed_by strays v)) → ⊥
unnamed_not reports loose strays v h = grind arith

asks_none : (d : Way) (v : Value) (s : State) → IsFound (asks_of d v s).told.finding → ⊥
asks_none d v s h = grind (arith, first_other)

-- ---- what it does

-- it may follow a DR, and it is for a connection
record Goes (d : Way) (v : Value) (s : State) (o : Outcome) : Type 0 where
  follows : MayFollow v
  placed : o.told.place ≡ None → ⊥

module _ (d : Way) (v : Value) (s : State) where
  on_follows : (c : Connection) → IsFound (found_on d s c v) → MayFollow v
  on_follows c h = by c.is_judged h
    where
      by : (b : Bool) → IsFound (if b then found d s.course (uses_source d s.connections v) c v else NotJudged) → MayFollow v
      by true h = found_follows d s.course (uses_source d s.connections v) c v h
      by false h = absurd (cc)

  found_goes : (i : ℕ) (o : Option Connection) → slice_get s.connections i ≡ o → IsFound (at_found d v s i o).told.finding →
      Goes d v s (at_found d v s i o)
  found_goes i None e h = absurd (unnamed_not (is_report (traffic.has_erred (sides.other d) s.course) v) s.course.loose
      (traffic.may_answer d s.course.disconnects) v h)
  found_goes i (Some c) e h = record {
    follows = on_follows c h;
    placed = λ none. cc none;
  }

  goes : IsFound (takes d v s).told.finding → Goes d v s (takes d v s)
  goes h = grind (arith, asks_none, unnamed_not, found_goes, route_other)

-- ---- a DT or an AK after a DR of its sender

pub record IsAfterDr (e : Direction) (v : Value) (c : Course) : Type 0 where
  pub n : ℕ
  pub link : IsLink v n
  pub closed : (takes (way_of e) v c.traffic).told.finding ≡ Broke rule.Closed

pub after_dr : (e : Direction) (v : Value) (c : Course) → (takes (way_of e) v c.traffic).told.finding ≡ Broke rule.Closed →
    (IsDr v → ⊥) → IsAfterDr e v c
after_dr e v c found not = by (goes (way_of e) v c.traffic found).follows
  where
    by : MayFollow v → IsAfterDr e v c
    by (a_link n link) = record { n = n; link = link; closed = found }
    by (a_dr h) = absurd (not h)

-- ---- the connection that it is for

closing_of : (p : Phase) → not (is_silent p) ≡ true → is_open p ≡ false → is_refused p ≡ false → is_closed p ≡ false →
    is_closing p ≡ true
closing_of p a b c h = grind arith

pub not_over : (d : Way) (n : ℕ) (c : Connection) → c.is_judged ≡ true → is_named d n c ≡ true →
    (is_refused (own d c).phase ≡ false) × (is_closed (own d c).phase ≡ false)
not_over d n c judged named = grind arith

phase_of : (d : Way) (course : Rules) (in_use : Bool) (c : Connection) (v : Value) (n : ℕ) → IsLink v n →
    IsFound (found d course in_use c v) → (not (is_silent (own d c).phase) ≡ true) × (is_open (own d c).phase ≡ false)
phase_of d course in_use c v n h h2 = search arith

judged_found : (b : Bool) (f : Finding) → b ≡ true → IsFound (if b then f else NotJudged) → IsFound f
judged_found b f e h = grind arith

-- the side has closed it, and the unit names it by the reference that the other side gave it
pub record IsThere (e : Direction) (n : ℕ) (s : State) (t : Sessions) : Type 0 where
  pub place : ℕ
  pub connection : Connection
  pub joined : Joined
  pub there : slice_get s.connections place ≡ Some connection
  pub here : slice_get t.live place ≡ Some joined
  pub one : IsOneOf connection joined
  pub judged : connection.is_judged ≡ true
  pub closing : is_closing (own (way_of e) connection).phase ≡ true
  pub named : reference_of (other e) joined ≡ Some n

no_cr : {A : Type 0} (v : Value) (n : ℕ) (x : Connect) → IsLink v n → v ≡ request x → A
no_cr v n x h e = grind arith

closed_judged : (j : Bool) (f : Finding) → IsFound (if j then f else NotJudged) → j ≡ true
closed_judged j f h = grind arith

module _ (e : Direction) (at : ℕ) (v : Value) (c : Course) (a : IsAfterDr e v c) where
  there_by : Does e at v c.traffic c.sessions (takes (way_of e) v c.traffic) → IsThere e a.n c.traffic c.sessions
  there_by (nowhere place cs ts) = absurd ((goes (way_of e) v c.traffic a.closed).placed place)
  there_by (somewhere i k j b r place there here one finding is far cs ts) =
      let sure = closed_judged k.is_judged _ (sym finding ∙ a.closed) in
      let named = names_there (way_of e) v c.traffic a.n i k there (link_names v a.n a.link) place in
      let (refused, closed) = not_over (way_of e) a.n k sure named in
      let (silent, opened) = phase_of (way_of e) c.traffic.course (uses_source (way_of e) c.traffic.connections v) k v a.n a.link
      (judged_found k.is_judged _ sure (sym finding ∙ a.closed)) in
      grind (arith, closing_of, named_there)
  there_by (asks_more x is number cs ts) = no_cr v a.n x a.link is
  there_by (asks_again x is number i j here free cs ts) = no_cr v a.n x a.link is

  pub is_there : HaveSamePlaces c.traffic.connections c.sessions.live → IsThere e a.n c.traffic c.sessions
  is_there places = there_by (unit_does e at v c.traffic c.sessions places)
