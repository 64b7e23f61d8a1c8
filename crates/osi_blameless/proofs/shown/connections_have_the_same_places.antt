-- A unit leaves each connection at one place for the rules of transport and for what is joined of it; and a DT that is right is
-- joined at the place that the rules tell.
-- For the law on places.
use Rattle.osi_blameless.proofs.Vocabulary.{[], ap, arith, Bool, length, List, map, None, not, Option, refl, set, Some, subst}
use Rattle.osi_blameless.proofs.Vocabulary.{suc, true, zero, ℕ, ◌++◌, ◌∷◌, ◌≡◌, slice_get_past, slice_get, ◌||◌, Connect, request, Value}
use Rattle.osi_blameless.proofs.Vocabulary.{is_applied, first_failed, begins, is_silent, asks_by, at_place, closing_phase, connection_after}
use Rattle.osi_blameless.proofs.Vocabulary.{found, found_on, judged_on, meaning_if, meant, Outcome, sent_on, Traffic as State, takes}
use Rattle.osi_blameless.proofs.Vocabulary.{Connection, Rules, Finding, Reach, Told, Half, Phase, Capture, Direction, Left, adds, changed}
use Rattle.osi_blameless.proofs.Vocabulary.{Joined, Sessions, taken, taken_at, user_of, marked, noted_by, unit_passes, units_pass, unread}
use Rattle.osi_blameless.proofs.Vocabulary.{way_of, comes_to, Cause, Mark, applied_found, first_there, HasAsked, HaveSamePlaces, IsOneOf}
use Rattle.osi_blameless.proofs.Vocabulary.{named_by, Course, packet_begins, closing_same, differ}
use Rattle.osi_rules.specs.declared.directions.Direction.TheVariants as way
use Rattle.osi_rules.specs.declared.findings.Finding.TheVariants as finding
use Rattle.osi_rules.specs.declared.findings.Meaning.TheVariants as meaning
use Rattle.osi_rules.specs.declared.findings.Rule.TheVariants as rule
use Rattle.osi_judge.specs.Connections as joined
use Rattle.osi_judge.specs.States.{begin}
use Rattle.osi_blameless.proofs.small_facts_that_many_lemmas_use.{or_first, same_one}
use Rattle.osi_blameless.proofs.steps.what_passes_keeps_a_claim.{after_kept}
use Rattle.osi_blameless.proofs.steps.all_is_judged_or_nothing.{changes_traffic}

noted_traffic : (d : Direction) (at : ℕ) (v : Value) (told : Told) (o : Option Cause) (c : Course) →
    (noted_by d at v told o c).traffic ≡ c.traffic
noted_traffic d at v told o c = grind (arith, changes_traffic)

pub unit_knows : (d : Direction) (at : ℕ) (v : Value) (c : Course) → (unit_passes d at v c).traffic ≡ (takes (way_of d) v c.traffic).state
unit_knows d at v c = grind (arith, noted_traffic)

-- ---- lists of the same length

pub at_same : (cs : List Connection) (js : List Joined) (i : ℕ) (c : Connection) → HaveSamePlaces cs js → slice_get cs i ≡ Some c →
    (j : Joined) × (slice_get js i ≡ Some j) × IsOneOf c j
at_same [] js i c h e = absurd (cc)
at_same (x ∷ cs) [] i c h e = absurd h
at_same (x ∷ cs) (j ∷ js) zero c h e = (j, refl, subst (λ (y : Connection). IsOneOf y j) (same_one x c e) h.0)
at_same (x ∷ cs) (j ∷ js) (suc i) c h e = at_same cs js i c h.1 e

pub as_long : (cs : List Connection) (js : List Joined) → HaveSamePlaces cs js → length cs ≡ length js
as_long [] [] h = refl
as_long [] (j ∷ js) h = absurd h
as_long (c ∷ cs) [] h = absurd h
as_long (c ∷ cs) (j ∷ js) h = ap suc (as_long cs js h.1)

one_set : (cs : List Connection) (js : List Joined) (i : ℕ) (c : Connection) (j : Joined) → HaveSamePlaces cs js → IsOneOf c j →
    HaveSamePlaces (set cs i c) (set js i j)
one_set [] [] i c j h k = tt
one_set [] (y ∷ js) i c j h k = absurd h
one_set (x ∷ cs) [] i c j h k = absurd h
one_set (x ∷ cs) (y ∷ js) zero c j h k = (k, h.1)
one_set (x ∷ cs) (y ∷ js) (suc i) c j h k = (h.0, one_set cs js i c j h.1 k)

one_more : (cs : List Connection) (js : List Joined) (c : Connection) (j : Joined) → HaveSamePlaces cs js → IsOneOf c j →
    HaveSamePlaces (cs ++ c ∷ []) (js ++ j ∷ [])
one_more [] [] c j h k = (k, tt)
one_more [] (y ∷ js) c j h k = absurd h
one_more (x ∷ cs) [] c j h k = absurd h
one_more (x ∷ cs) (y ∷ js) c j h k = (h.0, one_more cs js c j h.1 k)

-- ---- a packet begins

pub begun_same : (d : Direction) (cs : List Connection) (js : List Joined) → HaveSamePlaces cs js →
    HaveSamePlaces (map (begins (way_of d)) cs) (map (joined.packet_begins d) js)
begun_same d [] [] h = tt
begun_same d [] (j ∷ js) h = absurd h
begun_same d (c ∷ cs) [] h = absurd h
begun_same d (c ∷ cs) (j ∷ js) h = (grind arith, begun_same d cs js h.1)

-- ---- a unit for a connection, by what is found of it

-- the references of another connection are the same, or of what is joined of it
like_one : (c e : Connection) (j k : Joined) → e.left.reference ≡ c.left.reference → HasAsked e.left →
    named_by e.right.phase e.right.reference ≡ named_by c.right.phase c.right.reference → e.seen_by_left ≡ c.seen_by_left →
    e.seen_by_right ≡ c.seen_by_right → k.calling ≡ j.calling → k.called ≡ j.called → IsOneOf c j → IsOneOf e k
like_one c e j k left asks right known seen calling called h = grind arith

judged_one : (r : Reach) (c : Connection) (j : Joined) → IsOneOf c j → IsOneOf (judged_on r c) j
judged_one r c j h = grind (arith, like_one)

adds_one : (d : Direction) (at : ℕ) (end : Bool) (octets : List ℕ) (c : Connection) (j : Joined) → IsOneOf c j →
    IsOneOf c (adds d at end octets j)
adds_one d at end octets c j h = grind (arith, like_one)

error_test : (b erred : Bool) →
    is_applied (first_failed ((b || not erred, finding.NotJudged) ∷ (b, finding.Broke rule.WrongForm) ∷ [])) ≡ true → b ≡ true
error_test b erred h = grind arith

-- left has asked for it: it stays neither silent nor refused
closing_asked : (half : Half) (p : Phase) → half.phase ≡ p → HasAsked half → HasAsked (closing_phase (is_silent p) half)
closing_asked half p e h = grind arith

pub none_given : (p : Phase) (r : ℕ) → is_silent p ≡ true → named_by p r ≡ None
none_given p r h = grind arith

module _ (course : Rules) (in_use : Bool) (at : ℕ) (c : Connection) (j : Joined) (h : IsOneOf c j) where
  left_one : (v : Value) → is_applied (found way.Left course in_use c v) ≡ true →
      IsOneOf (sent_on way.Left v c) (joined.meant Left at v (meant v) j)
  left_one v k = grind (arith, closing_same, closing_asked, adds_one, differ, error_test, or_first)

  both_one : (d : Direction) (v : Value) → is_applied (found (way_of d) course in_use c v) ≡ true →
      IsOneOf (sent_on (way_of d) v c) (joined.meant d at v (meant v) j)
  both_one d v k = search (arith, left_one)

-- ---- a unit at a place

-- a unit means something for its connection, or nothing, but it doesn't ask for one
pub not_asked : (d : Direction) (at : ℕ) (v : Value) (b : Bool) (i : ℕ) (s : Sessions) →
    taken_at d at v (meaning_if b (meant v)) i s ≡ changed i (joined.meant d at v (meaning_if b (meant v))) s (slice_get s.live i)
not_asked d at v b i s = grind arith

-- the connections after a unit of which this is told
abbrev pub Places : Direction → (at : ℕ) → Value → Outcome → Sessions → Type 0
Places d at v o s = HaveSamePlaces o.state.connections (taken d at v o.told.meaning o.told.place s).live

module _ (d : Direction) (at : ℕ) (v : Value) (s : State) (t : Sessions) (h : HaveSamePlaces s.connections t.live) where
  one_by : (i : ℕ) (c : Connection) (j : Joined) → slice_get t.live i ≡ Some j → IsOneOf c j → (b : Bool) →
      is_applied (found_on (way_of d) s c v) ≡ b → (r : Reach) →
      HaveSamePlaces (set s.connections i (connection_after (way_of d) v b r c)) (taken_at d at v (meaning_if b (meant v)) i t).live
  one_by i c j there one b e r = grind (arith, set, not_asked, one_set, judged_one, both_one, applied_found)

  at_any : (i : Option ℕ) → Places d at v (at_place (way_of d) v s i) t
  at_any i = grind (arith, at_same, one_by)

  -- ---- a CR, which gets the first free place, or a new one

  asks_same : (f : Finding) (c : Connect) → v ≡ request c → Places d at v (asks_by (way_of d) f c s) t
  asks_same f c is = search (arith, slice_get_past, as_long, one_more, first_there, at_same, set, one_set)

-- ---- by route

pub unit_places : (d : Direction) (at : ℕ) (v : Value) (s : State) (t : Sessions) → HaveSamePlaces s.connections t.live →
    Places d at v (takes (way_of d) v s) t
unit_places d at v s t h = grind (arith, asks_same, at_any)

-- ---- what is found changes no connection

pub marked_leaves : (m : Mark) (r : Reach) (c : Course) → (marked m r c).sessions ≡ c.sessions
marked_leaves m r c = grind arith

noted_leaves : (d : Direction) (at : ℕ) (v : Value) (told : Told) (o : Option Cause) (c : Course) →
    (noted_by d at v told o c).sessions ≡ c.sessions
noted_leaves d at v told o c = grind (arith, marked_leaves)

pub marked_traffic : (m : Mark) (r : Reach) (c : Course) → (marked m r c).traffic ≡ c.traffic
marked_traffic m r c = grind arith

-- what a unit does to the connections, and what the rules know after it
pub unit_joins : (d : Direction) (at : ℕ) (v : Value) (c : Course) → (unit_passes d at v c).sessions
    ≡ taken d at v (takes (way_of d) v c.traffic).told.meaning (takes (way_of d) v c.traffic).told.place c.sessions
unit_joins d at v c = grind (arith, noted_leaves)

-- ---- what has passed

abbrev pub Agree : Course → Type 0
Agree c = HaveSamePlaces c.traffic.connections c.sessions.live

pub unit_agrees : (d : Direction) (at : ℕ) (v : Value) (c : Course) → Agree c → Agree (unit_passes d at v c)
unit_agrees d at v c h = grind (arith, unit_knows, unit_joins, unit_places)

pub units_agree : (d : Direction) (at : ℕ) (vs : List Value) (c : Course) → Agree c → Agree (units_pass d at vs c)
units_agree d at [] c h = h
units_agree d at (v ∷ vs) c h = units_agree d at vs (unit_passes d at v c) (unit_agrees d at v c h)

pub packet_agrees : (d : Direction) (c : Course) → Agree c → Agree (packet_begins d c)
packet_agrees d c h = begun_same d c.traffic.connections c.sessions.live h

pub unread_agrees : (d : Direction) (at : ℕ) (cause : Cause) (c : Course) → Agree c → Agree (unread d at cause c)
unread_agrees d at cause c h = grind arith

pub capture_agrees : (capture : Capture) → Agree (comes_to capture).course
capture_agrees capture = after_kept Agree (search (arith, packet_agrees, unit_agrees, unread_agrees)) capture begin tt

-- ---- a DT

-- it is joined at the place that is told
pub joined_there : (d : Direction) (at i : ℕ) (end : Bool) (v : Value) (c : Course) (j : Joined) →
    (takes (way_of d) v c.traffic).told.meaning ≡ meaning.Adds end → (takes (way_of d) v c.traffic).told.place ≡ Some i →
    slice_get c.sessions.live i ≡ Some j →
    (unit_passes d at v c).sessions ≡ record c.sessions { live = set c.sessions.live i (adds d at end (user_of v) j) }
joined_there d at i end v c j means place there = grind (arith, unit_joins)
