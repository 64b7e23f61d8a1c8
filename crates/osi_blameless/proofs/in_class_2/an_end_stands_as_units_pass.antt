-- An end of class 2 and a judge: what passes leaves all connections of the end standing, beside what holds of the end alone.
-- For the session of each connection of an end.
use Rattle.osi_blameless.proofs.Vocabulary.{[], ap, false, length, List, refl, Some, subst, sym, true, ℕ, ◌++◌, ◌<◌, ◌^◌, ◌∙◌, ◌∷◌, ◌≡◌}
use Rattle.osi_blameless.proofs.Vocabulary.{append-nil, slice_get, units_of, Value, Deeds, no_deeds, units_in}
use Rattle.osi_blameless.proofs.Vocabulary.{Holding, Joined, spoken, none, unit_passes, units_pass, heard, begins_other, begins_own, Joint}
use Rattle.osi_blameless.proofs.Vocabulary.{begin, passes_other, passes_own, Steps, Direction, other, HaveSamePlaces, arith, packet_begins}
use Rattle.osi_blameless.proofs.Vocabulary.{calls_from, fresh_apart, no_item, HasFieldsInRange, IsFresh, IsOctets, IsOngoing}
use Rattle.osi_blameless.proofs.Vocabulary.{Left, Local, Ok, Right, units_fit, units_found}
use Rattle.osi_blameless.specs.ends.Courses.{Course}
use Rattle.osi_blameless.proofs.shown.a_right_dt_has_one_place.{AreUsedApart, named_apart}
use Rattle.osi_blameless.proofs.putting.a_turn_does_what_its_deeds_say.{units_more}
use Rattle.osi_blameless.proofs.standing.all_connections_stand.{AllStand, all_room}
use Rattle.osi_blameless.proofs.putting.each_reference_of_an_end_is_new.{AreUpTo, IsUpTo, gives_new, units_up}
use Rattle.osi_blameless.proofs.in_class_2.an_end_hears_what_breaks_no_rule.{AreFine, AreHeard}
use Rattle.osi_blameless.proofs.shown.connections_have_the_same_places.{at_same, unit_joins, unit_knows}
use Rattle.osi_blameless.proofs.putting.nothing_is_done_before_a_cr_passes.{IsNoZero, known_from, may_take}
use Rattle.osi_blameless.proofs.putting.references_of_an_end_are_distinct.{AreDistinct, begins_distinct, unit_distinct}
use Rattle.osi_blameless.proofs.standing.steps_leave_all_standing.{IsProper, Standing, step_begins_other, step_begins_own, step_passes_own}
use Rattle.osi_blameless.proofs.coming.the_dr_of_the_other_side_is_in_flight.{first_shut, AreShut, HaveRoom, begins_shut, own_shut}
use Rattle.osi_blameless.proofs.standing.what_stands_of_a_connection.{Known}
use Rattle.osi_blameless.proofs.standing.what_passes_leaves_all_standing.{IsReady}
use Rattle.osi_blameless.specs.transport.Wholes as wholes
use Rattle.osi_blameless.proofs.small_facts_that_many_lemmas_use.{all_front, ranges_of}
use Rattle.osi_blameless.proofs.putting.a_whole_end_runs_along.{has_lines}
use Rattle.osi_blameless.proofs.in_class_2.an_end_of_class_2_goes_on.{MayCome, OwnInTwo, two_first, two_other_begins, two_other_passes}
use Rattle.osi_blameless.proofs.in_class_2.an_end_of_class_2_goes_on.{two_own_begins}
use Rattle.osi_blameless.proofs.in_class_2.an_end_is_ready_for_each_cc_that_passes as ccs
use Rattle.osi_blameless.proofs.in_class_2.an_end_is_ready_for_each_cc_that_passes.{AreKnown}
use Rattle.osi_blameless.proofs.in_class_2.an_end_is_ready_for_each_cr_that_passes as crs
use Rattle.osi_blameless.proofs.putting.a_whole_end_runs_along.{peers_apart, joined_by_line}
use Rattle.osi_blameless.proofs.in_class_2.no_unit_waits_for_the_reference_that_a_cc_gives as crs_heard
use Rattle.osi_blameless.proofs.in_class_2.no_unit_waits_for_the_reference_that_a_cc_gives.{IsPlain, fine_plain}
use Rattle.osi_blameless.proofs.in_class_2.no_unit_of_the_other_side_gives_a_reference as ccs_heard
use Rattle.osi_blameless.proofs.putting.what_a_turn_puts_goes_to_its_peer.{all_so}
use Rattle.osi_blameless.proofs.keeping.steps_are_events.{whole_of}
use Rattle.osi_blameless.proofs.putting.a_whole_end_runs_along.{IsBehind}
use Rattle.osi_blameless.proofs.Vocabulary.{Follows}

-- what is known of the parts that are left over
abbrev pub known_at : Joint → Known
known_at j = known_from (may_take j.end.end.carrier) (units_in j.coming)

-- the DRs of the other side are in flight
abbrev pub AreShutAtJoint : Direction → Joint → Type 0
AreShutAtJoint d j = AreShut d (may_take j.end.end.carrier) (units_in j.coming) j.judge.traffic j.judge.sessions

own_passes_shut : (d : Direction) (at : ℕ) (unit : Value) (j : Joint) →
    HaveSamePlaces j.judge.traffic.connections j.judge.sessions.live → HaveRoom j.judge.sessions → AreShutAtJoint d j →
    AreShut d (may_take j.end.end.carrier) (units_in j.coming) (unit_passes d at unit j.judge).traffic
    (unit_passes d at unit j.judge).sessions
own_passes_shut d at unit j places rooms h = grind (arith, may_take, unit_knows, unit_joins, own_shut)

-- ---- at the beginning

pub distinct_first : (d : Direction) → AreDistinct d none
distinct_first d = record { live = λ i k j l r here. absurd (cc here); done = λ i k j l r here. absurd (cc here) }

pub standing_first : (d : Direction) (known : Known) (h : Holding) → Standing d (λ r. no_deeds) known (begin h)
standing_first d known h = grind (arith, fresh_apart, no_item)

-- ---- what passes

-- What holds of the end alone holds, and all its connections stand.
pub record StandsInTwo (d : Direction) (local : Local) (deeds : ℕ → Deeds) (j : Joint) : Type 0 where
  pub own : OwnInTwo d local deeds j
  pub standing : Standing d deeds (known_at j) j
  pub distinct : AreDistinct d j.judge.sessions
  pub shut : AreShutAtJoint d j

-- a calling end gets class 2 if it offers it
abbrev pub MayGetTwo : Direction → Local → Type 0
MayGetTwo Left local = local.class2 ≡ true
MayGetTwo Right local = Unit {0}

pub stands_first : (d : Direction) (local : Local) (h : Holding) → IsFresh (calls_from d) local h →
    StandsInTwo d local (λ r. no_deeds) (begin h)
stands_first d local h fresh = record {
  own = two_first d local h fresh;
  standing = standing_first d (known_at (begin h)) h;
  distinct = distinct_first d;
  shut = first_shut d (may_take h.end.carrier) [];
}

module _ (d : Direction) (local : Local) (deeds : ℕ → Deeds) where
  abbrev Stands : Joint → Type 0
  Stands j = StandsInTwo d local deeds j

  pub stands_own_begins : (old new : Joint) → Steps d begins_own old new →
      ((r : ℕ) → Course (calls_from d) r (deeds r) old.end.end) →
      ((i : ℕ) (j : Joined) → slice_get old.judge.sessions.live i ≡ Some j → length (heard (spoken (other d) j)) < 2 ^ 64) →
      Stands old → Stands new
  stands_own_begins old new (some, none, is) courses few h =
      let mid : Joint = record old { begun = true; judge = packet_begins d old.judge } in
      subst Stands (sym is) (record {
        own = two_own_begins d local deeds old mid (some, none, refl) h.own;
        standing = step_begins_own d deeds (known_at old) old mid (some, none, refl) courses few h.standing;
        distinct = begins_distinct d d old.judge.sessions h.distinct;
        shut = search (arith, begins_shut, may_take);
      })

  pub stands_other_begins : (old new : Joint) → Steps d begins_other old new → Stands old → Stands new
  stands_other_begins old new is h =
      let mid : Joint = record old { judge = packet_begins (other d) old.judge } in
      subst Stands (sym is) (record {
        own = two_other_begins d local deeds old mid refl h.own;
        standing = step_begins_other d deeds (known_at old) old mid refl h.standing;
        distinct = begins_distinct d (other d) old.judge.sessions h.distinct;
        shut = search (arith, begins_shut, may_take);
      })

  rooms : (j : Joint) → Stands j → HaveRoom j.judge.sessions
  rooms j h i k here = all_room d deeds (known_at j) j.put j.begun j.judge.traffic j.judge.sessions h.standing.all i k here

  own_passes_with : (at : ℕ) (unit : Value) (old new : Joint) → Steps d (passes_own at unit) old new → IsProper d unit old.judge →
      AreUsedApart d old.judge.traffic.connections →
      IsReady d deeds (known_at old) unit new.put old.judge.traffic old.judge.sessions →
      OwnInTwo d local deeds new → Stands old → Stands new
  own_passes_with at unit old new (read, octets, (put, begun, is)) fine apart ready own h =
      let mid : Joint = record old { put = new.put; begun = false; judge = units_pass d at (unit ∷ []) old.judge } in
      let step : Steps d (passes_own at unit) old mid = (read, octets, (put, begun, refl)) in
      let a = h.standing.all in
      subst Stands (sym is) (record {
        own = subst (OwnInTwo d local deeds) is own;
        standing = step_passes_own d deeds (known_at old) at unit old mid step fine apart ready h.standing;
        distinct = subst (AreDistinct d) (sym (unit_joins d at unit old.judge))
            (unit_distinct d d at unit old.judge.traffic old.judge.sessions a.places h.distinct
            (gives_new d (wholes.begin (calls_from d) local) at unit old mid step h.own.ahead) (rooms old h));
        shut = own_passes_shut d at unit old a.places (rooms old h) h.shut;
      })

  -- a packet whose units it has heard
  other_passes_with : (at : ℕ) (packet : List ℕ) (units : List Value) (old new : Joint) →
      Steps d (passes_other at packet units) old new →
      AreHeard d deeds (may_take old.end.end.carrier) old.put old.begun at (units_in old.coming ++ units)
      (units_pass (other d) at units old.judge) → OwnInTwo d local deeds new → Stands old → Stands new
  other_passes_with at packet units old new (octets, read, is) k own h =
      let all = units_more old.coming packet units read in
      let after = units_pass (other d) at units old.judge in
      let live = may_take old.end.end.carrier in
      subst Stands (sym is) (record {
        own = subst (OwnInTwo d local deeds) is own;
        standing = record {
          all = subst (λ (l : List Value). AllStand d deeds (known_from live l) old.put old.begun after.traffic after.sessions) all k.stand;
        };
        distinct = k.distinct;
        shut = subst (λ (l : List Value). AreShut d live l after.traffic after.sessions) all k.shut;
      })

-- ---- references are apart at the judge

-- of a connection that has lost its judgement left knows no refusal
lost_known : (d : Direction) (local : Local) (deeds : ℕ → Deeds) (j : Joint) → StandsInTwo d local deeds j → AreKnown j.judge
lost_known d local deeds j h i e there lost =
    let a = h.standing.all in
    let (k, here, one) = at_same j.judge.traffic.connections j.judge.sessions.live i e a.places there in
    (a.lost i e k there here lost).left_knows

pub used_apart : (d : Direction) (local : Local) → MayGetTwo d local → (deeds : ℕ → Deeds) (j : Joint) → IsOngoing j.judge.traffic.course →
    StandsInTwo d local deeds j → AreUsedApart d j.judge.traffic.connections
used_apart Left local two deeds j clear h = peers_apart local two j h.own.ahead.followed clear
used_apart Right local two deeds j clear h =
    let f = h.own.ahead.followed in
    let lines = has_lines local j f clear h.own.holds.two in
    named_apart Right j.judge.traffic.connections lines.apart lines.named

-- ---- a unit of the end passes

pub stands_own_passes : (d : Direction) (local : Local) → MayGetTwo d local → (deeds : ℕ → Deeds) (at : ℕ) (unit : Value)
    (old new : Joint) → Steps d (passes_own at unit) old new → IsProper d unit old.judge → IsOngoing old.judge.traffic.course →
    StandsInTwo d local deeds old → StandsInTwo d local deeds new
stands_own_passes d local two deeds at unit old new step fine clear h =
    own_passes_with d local deeds at unit old new step fine (used_apart d local two deeds old clear h) (ready_by d two step h)
    (own_by d two step h) h
  where
    ready_by : (d : Direction) → MayGetTwo d local → Steps d (passes_own at unit) old new → StandsInTwo d local deeds old →
        IsReady d deeds (known_at old) unit new.put old.judge.traffic old.judge.sessions
    ready_by Left two step h = crs.is_ready local two deeds at unit old new step clear h.own
    ready_by Right two step h =
        ccs.is_ready local deeds at unit old new step h.standing.all.places (lost_known Right local deeds old h) h.own

    own_by : (d : Direction) → MayGetTwo d local → Steps d (passes_own at unit) old new → StandsInTwo d local deeds old →
        OwnInTwo d local deeds new
    own_by Left two step h = crs.own_passes local two deeds at unit old new step h.standing.all.places h.own
    own_by Right two step h = ccs.own_passes local deeds at unit old new step h.standing.all.places h.own

-- ---- a packet of the other side passes

-- what an end hears in it
pub record HearsIt (d : Direction) (local : Local) (deeds : ℕ → Deeds) (at : ℕ) (units : List Value) (j : Joint) (b : ℕ) : Type 0 where
  pub heard : AreHeard d deeds (may_take j.end.end.carrier) j.put j.begun at (units_in j.coming ++ units)
      (units_pass (other d) at units j.judge)
  pub up : AreUpTo d b (units_pass (other d) at units j.judge).sessions
  pub may : MayCome d b units

-- A calling end knows by the whole end that runs along that nothing waits for the reference that a CC gives.
pub hears_front : (d : Direction) (local : Local) → MayGetTwo d local → (deeds : ℕ → Deeds) (at : ℕ) (octets : List ℕ)
    (front back : List Value) (j : Joint) → IsOctets octets → units_of octets ≡ Ok (front ++ back) → AreFine d at front j.judge →
    (h : StandsInTwo d local deeds j) → HearsIt d local deeds at front j h.own.ahead.bound
hears_front Left local two deeds at octets front back j all read fine h =
    let f = h.own.ahead.followed in
    let b = h.own.ahead.bound in
    let behind : IsBehind (Follows local) j.put j.judge =
    record { whole = whole_of f; holds = joined_by_line local two j f; judge = refl; same = refl } in
    let plain = fine_plain b at front j.judge fine in
    record {
      heard = crs_heard.units_heard local j.put deeds (may_take j.end.end.carrier) j.begun at front
          (units_in j.coming) j.judge fine
          (all_front HasFieldsInRange front back
          (ranges_of (front ++ back) (units_fit (front ++ back) octets (units_found octets (front ++ back) all read)))) behind
          (record { stand = h.standing.all; distinct = h.distinct; shut = h.shut });
      up = units_up Left Right b at front j.judge h.standing.all.places (all_so (IsPlain b) (IsUpTo Left b) (λ v p. p.1) front plain)
          h.own.ahead.below;
      may = all_so (IsPlain b) IsNoZero (λ v p. p.0) front plain;
    }
hears_front Right local two deeds at octets front back j all read fine h =
    let k = ccs_heard.units_heard deeds (may_take j.end.end.carrier) j.put j.begun h.own.ahead.bound at front
    (units_in j.coming) j.judge
    fine (record { stand = h.standing.all; distinct = h.distinct; shut = h.shut }) h.own.ahead.below in
    record { heard = k.all; up = k.up; may = k.below }

pub stands_other_passes : (d : Direction) (local : Local) → MayGetTwo d local → (deeds : ℕ → Deeds) (at : ℕ) (packet : List ℕ)
    (units : List Value) (old new : Joint) → Steps d (passes_other at packet units) old new → AreFine d at units old.judge →
    StandsInTwo d local deeds old → StandsInTwo d local deeds new
stands_other_passes d local two deeds at packet units old new step fine h =
    let k = hears_front d local two deeds at packet units [] old step.0
    (step.1 ∙ ap (λ (l : List Value). Ok l) (sym (append-nil units))) fine
    h in
    other_passes_with d local deeds at packet units old new step k.heard
    (two_other_passes d local deeds at packet units old new step h.own k.may
    (subst (λ (j : Joint). AreUpTo d h.own.ahead.bound j.judge.sessions) (sym step.2) k.up)) h
