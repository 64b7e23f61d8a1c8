-- In class 0 a DT with which the TSDU of its side is too long breaks that rule; and so it would later, whatever the other side has sent.
-- For a TSDU of the other side that becomes too long.
use Rattle.osi_blameless.proofs.Vocabulary.{arith, ◌≡◌, ◌∙◌, refl, sym, ap, subst, ℕ, zero, suc, ◌+◌, ◌<◌, Bool, false, List, [], ◌∷◌}
use Rattle.osi_blameless.proofs.Vocabulary.{map, length, nat_le, Some, eqb-true, leb-false, slice_get, Value, data0, longest_tsdu}
use Rattle.osi_blameless.proofs.Vocabulary.{Zero, other, Direction, Right, Connection, Broke, Kept, is_applied, first_failed}
use Rattle.osi_blameless.proofs.Vocabulary.{begins, own, State, class_for, is_stopped, takes, unlike, IsFirm}
use Rattle.osi_blameless.proofs.Vocabulary.{after_change, Course, unit_passes, way_of}
use Rattle.osi_rules.specs.declared.findings.Rule.TheVariants as rule
use Rattle.osi_rules.specs.Traffic as traffic
use Rattle.osi_blameless.proofs.small_facts_that_many_lemmas_use.{same_item, same_one}
use Rattle.osi_blameless.proofs.standing.a_dt_of_class_0_has_one_place.{IsOnly, dt_takes}
use Rattle.osi_blameless.proofs.transport.requests.one_request_waits.{open_not_refused}
use Rattle.osi_blameless.proofs.shown.connections_have_the_same_places.{unit_knows}
use Rattle.osi_blameless.proofs.standing.each_step_leaves_class_0_one_connection.{IsSure, Sure, is_zero}
use Rattle.osi_blameless.proofs.in_class_0.what_the_stage_of_a_whole_end_says.{IsDt0}
use Rattle.osi_blameless.proofs.coming.the_dr_of_the_other_side_is_in_flight.{theirs_after as other_begun}

-- ---- the one connection

-- a TSDU of the other side is too long with these octets
abbrev pub IsTooLong : Direction → List ℕ → State → Type 0
IsTooLong d user s = (o : IsOnly s) → longest_tsdu < (own (way_of (other d)) o.connection).begun + length user

pub only_of : (s : State) → IsSure s → IsFirm s.course → s.course.class ≡ Some Zero → IsOnly s
only_of s sure firm class = (is_zero Right s sure firm.firm firm.right class).only

same_place : (s : State) (o q : IsOnly s) → q.place ≡ o.place
same_place s o q = grind (arith, eqb-true, open_not_refused, unlike)

same_only : (s : State) (o q : IsOnly s) → q.connection ≡ o.connection
same_only s o q = same_item q.connection o.connection (sym q.there ∙ ap (slice_get s.connections) (same_place s o q) ∙ o.there)

-- ---- the break

long_so : (begun octets : ℕ) → nat_le (begun + octets) longest_tsdu ≡ false → longest_tsdu < begun + octets
long_so begun octets h = leb-false (begun + octets) longest_tsdu h

not_fits : (fits more : Bool) → is_applied (first_failed ((fits, Broke rule.TsduTooLong) ∷ (more, Broke rule.SizeExceeded) ∷ [])) ≡ false →
    fits ≡ false
not_fits fits more h = grind arith

pub breaks_too_long : (d : Direction) (end : Bool) (user : List ℕ) (s : State) → IsSure s → IsFirm s.course → s.course.class ≡ Some Zero →
    is_stopped (way_of (other d)) s.course ≡ false → class_for (way_of (other d)) s.course ≡ Some Zero →
    is_applied (takes (way_of (other d)) (data0 end user) s).told.finding ≡ false → IsTooLong d user s
breaks_too_long d end user s sure firm class goes seen unapplied q =
    let o = only_of s sure firm class in
    let e = way_of (other d) in
    let told = dt_takes e end user s sure.judged firm.firm sure.apart o goes seen in
    grind (arith, long_so, not_fits, sure.judged firm.firm o.place o.connection o.there, same_only s o q)

-- ---- a packet begins

begun_own : (d e : Direction) (c : Connection) → (own (way_of d) (begins (way_of e) c)).begun ≡ (own (way_of d) c).begun
begun_own d e c = grind arith

connection_of : (d : Direction) (xs : List Connection) (i : ℕ) (y : Connection) → slice_get (map (begins (way_of d)) xs) i ≡ Some y →
    (x : Connection) × (slice_get xs i ≡ Some x) × (y ≡ begins (way_of d) x)
connection_of d [] i y h = absurd (cc)
connection_of d (z ∷ xs) zero y h = (z, refl, sym (same_one (begins (way_of d) z) y h))
connection_of d (z ∷ xs) (suc i) y h = connection_of d xs i y h

pub begins_too_long : (d e : Direction) (user : List ℕ) (s : State) → IsOnly s → IsTooLong d user s →
    IsTooLong d user (traffic.packet_begins (way_of e) s)
begins_too_long d e user s o long q = grind (arith, connection_of, same_item, eqb-true, begun_own, open_not_refused, unlike)

-- ---- a DT of the end passes

own_long : (d : Direction) (end : Bool) (mine user : List ℕ) (s : State) → IsSure s → IsFirm s.course → s.course.class ≡ Some Zero →
    is_stopped (way_of d) s.course ≡ false → (takes (way_of d) (data0 end mine) s).told.finding ≡ Kept → IsTooLong d user s →
    IsTooLong d user (takes (way_of d) (data0 end mine) s).state
own_long d end mine user s sure firm class goes kept long =
    search (arith, dt_takes, after_change, other_begun, open_not_refused, only_of s sure firm class)

pub passes_too_long : (d : Direction) (at : ℕ) (v : Value) (user : List ℕ) (c : Course) → IsDt0 v → Sure c → IsFirm c.traffic.course →
    c.traffic.course.class ≡ Some Zero → is_stopped (way_of d) c.traffic.course ≡ false →
    (takes (way_of d) v c.traffic).told.finding ≡ Kept → IsTooLong d user c.traffic → IsTooLong d user (unit_passes d at v c).traffic
passes_too_long d at (data0 end mine) user c dt sure firm class goes kept long =
    subst (IsTooLong d user) (sym (unit_knows d at (data0 end mine) c)) (own_long d end mine user c.traffic sure firm class goes kept long)
passes_too_long d at v user c dt sure firm class goes kept long = absurd dt
