-- An end of class 0 to which no DT is in flight has begun of a TSDU what a judge has joined of it.
-- For a TSDU of the other side that becomes too long.
use Rattle.osi_blameless.proofs.Vocabulary.{arith, ◌≡◌, ◌∙◌, inl, inr, refl, ap, subst, ℕ, ◌<◌, List, [], Some, eq-eqb, slice_get}
use Rattle.osi_blameless.proofs.Vocabulary.{AllByRecursion, Standing, Part, Two, Zero, Local, RiseFrom, linked, other, Direction, Left}
use Rattle.osi_blameless.proofs.Vocabulary.{Right, has_given, IsFirm, Deeds, IsZeroAt, IsSane, amid, stage_at, stage_is, Joined, spoken}
use Rattle.osi_blameless.proofs.Vocabulary.{begun_octets, Joint, State, is_open, own, way_of, true, sym, units_in}
use Rattle.osi_carrier.specs.State.{State as Carrier}
use Rattle.osi_blameless.proofs.small_facts_that_many_lemmas_use.{none_some}
use Rattle.osi_blameless.proofs.standing.a_dt_of_class_0_has_one_place.{IsOnly}
use Rattle.osi_blameless.proofs.breaking.an_end_of_class_0_has_its_connection_open.{MayBeFollowed}
use Rattle.osi_blameless.proofs.in_class_0.an_end_stands_in_class_0.{IsGone, known_in, place_of_one}
use Rattle.osi_blameless.proofs.in_class_0.what_an_end_keeps_until_class_2.{StandsUntilTwo, none_selected}
use Rattle.osi_blameless.proofs.in_class_2.what_is_asked_of_what_holds_at_each_step.{HaveCourses}
use Rattle.osi_blameless.proofs.putting.nothing_is_done_before_a_cr_passes.{is_under_way, may_take}
use Rattle.osi_blameless.proofs.breaking.what_a_link_has_begun_is_left_over.{joined_is_begun, none_in_flight}
use Rattle.osi_blameless.proofs.standing.what_is_in_flight_to_an_end.{known_of}

-- If class 0 is selected, and class 2 is not, what a judge has joined of the unfinished TSDU of the other side is what the link has
-- begun.
abbrev pub HasBegun : (d : Direction) → ((ℕ → Deeds) → Joint → Type 0) → Type 0
HasBegun d Inv = (deeds : ℕ → Deeds) (j : Joint) → Inv deeds j → HaveCourses d deeds j → IsSane j.end →
    IsFirm j.judge.traffic.course → j.judge.traffic.course.class ≡ Some Zero → (j.judge.traffic.course.class ≡ Some Two → ⊥) →
    AllByRecursion MayBeFollowed (units_in j.coming) → (r peer : ℕ) (link : Standing) → IsZeroAt r peer link j.end.end.carrier →
    (o : IsOnly j.judge.traffic) (x : Joined) → slice_get j.judge.sessions.live o.place ≡ Some x →
    begun_octets (spoken (other d) x).begun ≡ link.ends.joining.begun

-- ---- the connection of the end

own_open : (d : Direction) {s : State} (o : IsOnly s) → is_open (own (way_of d) o.connection).phase ≡ true
own_open Left o = o.left
own_open Right o = o.right

module _ (r peer : ℕ) (link : Standing) (c : Carrier) (z : IsZeroAt r peer link c) where
  is_amid : stage_at r c ≡ amid peer
  is_amid = stage_is r c (Some (linked peer link)) (has_given r c) z.lasts refl (grind (arith, eq-eqb))

  is_some : RiseFrom 0 c.live → 0 < r
  is_some rise = (subst (RiseFrom 0) z.live rise).0

  none_later : (coming : List (List ℕ)) → AllByRecursion MayBeFollowed (units_in coming) → (q : ℕ) (later : List Part) → q ≡ r →
      known_of (may_take c) (units_in coming) q later → later ≡ []
  none_later coming all q later same sure =
      sure (ap (λ (n : ℕ). may_take c n) same ∙ ap is_under_way is_amid)
      ∙ none_in_flight q (units_in coming) all

pub begun_until_two : (d : Direction) (local : Local) → HasBegun d (StandsUntilTwo d local)
begun_until_two d local deeds j (inl before) courses sane firm class not all r peer link at o x here =
    none_some j.judge.traffic.course.class Zero (none_selected d local deeds j before) class
begun_until_two d local deeds j (inr h) courses sane firm class not all r peer link at o x here =
    let end = j.end.end.carrier in
    let z = h.zero in
    let same : r ≡ h.r = h.amid_is r peer (is_some r peer link end at sane.between.sound.orderly.rise) (is_amid r peer link end at) in
    let there : o.place ≡ z.one.place = place_of_one d h.r (IsGone end) j.judge.traffic j.judge.sessions o z.one in
    joined_is_begun d deeds (known_in end (units_in j.coming)) j.put j.begun j.judge.traffic j.judge.sessions
    j.end.end z.all courses r peer link at o.place o.connection x o.there here
    (z.all.judged firm.firm o.place o.connection o.there) (own_open d o)
    (z.one.mine x (ap (slice_get j.judge.sessions.live) (sym there) ∙ here) ∙ ap (λ (n : ℕ). Some n) (sym same))
    (λ q later is sure. none_later r peer link end at j.coming all q later is sure.1)
