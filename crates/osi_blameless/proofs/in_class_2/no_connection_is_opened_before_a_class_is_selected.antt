-- As long as no class is selected on a byte connection, right has given no connection a reference, whatever passes.
-- For a called end that has selected class 0, and whose CC has not passed.
use Rattle.osi_blameless.proofs.Vocabulary.{ap, None, Option, refl, Some, subst, sym, ℕ, ◌∙◌, ◌≡◌, slice_get, Value, Class, Two, Zero}
use Rattle.osi_blameless.proofs.Vocabulary.{at_found, Outcome, routed, Traffic as State, takes, Connection, Way, Meaning, Route, Direction}
use Rattle.osi_blameless.proofs.Vocabulary.{Joined, Sessions, taken, unit_passes, way_of, reached_class, zero_stays, after_add, after_set}
use Rattle.osi_blameless.proofs.Vocabulary.{lasts_passing, unit, arith, Course}
use Rattle.osi_rules.specs.declared.findings.Meaning.TheVariants as meaning
use Rattle.osi_judge.specs.Connections as joined
use Rattle.osi_blameless.proofs.steps.what_passes_keeps_a_claim.{IsClaim}
use Rattle.osi_blameless.proofs.standing.all_connections_stand.{map_of}
use Rattle.osi_blameless.proofs.shown.connections_have_the_same_places.{unit_joins, unit_knows}

-- ---- a unit that opens a connection selects a class

abbrev Selects : Outcome → Type 0
Selects o = o.told.meaning ≡ meaning.Opens → o.state.course.class ≡ None → ⊥

no_meaning : meaning.Nothing ≡ meaning.Opens → ⊥
no_meaning e = cc

found_selects : (d : Way) (v : Value) (s : State) (p : ℕ) (o : Option Connection) → Selects (at_found d v s p o)
found_selects d v s p o opens none = search (arith, no_meaning, reached_class)

routed_selects : (d : Way) (v : Value) (s : State) (r : Route) → Selects (routed d v s r)
routed_selects d v s r = grind (arith, no_meaning, found_selects)

takes_selects : (d : Way) (v : Value) (s : State) → Selects (takes d v s)
takes_selects d v s = grind (arith, routed_selects)

-- ---- what is joined

-- no connection has a reference of right
pub record AreUncalled (t : Sessions) : Type 0 where
  pub live : (i : ℕ) (j : Joined) → slice_get t.live i ≡ Some j → j.called ≡ None
  pub done : (i : ℕ) (j : Joined) → slice_get t.done i ≡ Some j → j.called ≡ None

called_begun : (d : Direction) (j : Joined) → (joined.packet_begins d j).called ≡ j.called
called_begun d j = grind arith

called_meant : (d : Direction) (at : ℕ) (v : Value) (m : Meaning) (j : Joined) → (m ≡ meaning.Opens → ⊥) →
    (joined.meant d at v m j).called ≡ j.called
called_meant d at v m j h = grind arith

module _ (t : Sessions) (h : AreUncalled t) where
  taken_uncalled : (d : Direction) (at : ℕ) (v : Value) (m : Meaning) (o : Option ℕ) → (m ≡ meaning.Opens → ⊥) →
      AreUncalled (taken d at v m o t)
  taken_uncalled d at v m None not = h
  taken_uncalled d at v meaning.Opens (Some p) not = absurd (not refl)
  taken_uncalled d at v meaning.Asks (Some p) not = grind (arith, after_add, after_set)
  taken_uncalled d at v meaning.Nothing (Some p) not = grind (arith, after_set, called_meant)
  taken_uncalled d at v meaning.Closes (Some p) not = grind (arith, after_set, called_meant)
  taken_uncalled d at v (meaning.Adds end) (Some p) not = search (arith, after_set, called_meant)

-- ---- whatever passes

abbrev pub UncalledUntil : Course → Type 0
UncalledUntil c = c.traffic.course.class ≡ None → AreUncalled c.sessions

-- a class that is selected stays so
none_before : (k : Option Class) (after : Option Class) → ((k ≡ Some Zero) → after ≡ Some Zero) → ((k ≡ Some Two) → after ≡ Some Two) →
    after ≡ None → k ≡ None
none_before k after h two none = grind arith

unit_uncalled : (d : Direction) (at : ℕ) (v : Value) (c : Course) → UncalledUntil c → UncalledUntil (unit_passes d at v c)
unit_uncalled d at v c h none =
    let after : (takes (way_of d) v c.traffic).state.course.class ≡ None =
    ap (λ (s : State). s.course.class) (sym (unit_knows d at v c)) ∙ none in
    let before = none_before c.traffic.course.class (takes (way_of d) v c.traffic).state.course.class
    (zero_stays (unit (way_of d) v) c.traffic) (lasts_passing (unit (way_of d) v) c.traffic).two after in
    let told = (takes (way_of d) v c.traffic).told in
    subst AreUncalled (sym (unit_joins d at v c))
    (search (arith, taken_uncalled, takes_selects))

pub uncalled_claim : IsClaim UncalledUntil
uncalled_claim = grind (arith, map_of, called_begun, unit_uncalled)
