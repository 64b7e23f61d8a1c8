-- Steps of an end and of a judge are events of a whole end.
-- For the first break of transport.
use Rattle.osi_blameless.proofs.Vocabulary.{[], ap, append_assoc, Bool, false, is_some, List, None, Option, refl, Some, subst, sym, true, ℕ}
use Rattle.osi_blameless.proofs.Vocabulary.{◌++◌, ◌∙◌, ◌∷◌, ◌≡◌, append-nil, AllByRecursion, units_fit, units_found, units_of, Value, Fits}
use Rattle.osi_blameless.proofs.Vocabulary.{Local, Carrier, EndReason, End, Holding, Traffic, takes, other, Direction, IsFresh, Turn}
use Rattle.osi_blameless.proofs.Vocabulary.{unit_passes, units_pass, way_of, units_by, Event, HappenAlong, Whole}
use Rattle.osi_blameless.proofs.Vocabulary.{begins_other, begins_own, Joint, passes_other, passes_own, Step, Steps, TakesTurn, turns, arith}
use Rattle.osi_blameless.proofs.Vocabulary.{Course, packet_begins, begin, Happens, Way, units_in, PassesOther}
use Rattle.osi_rules.specs.Sides as sides
use Rattle.osi_rules.specs.Traffic as traffic
use Rattle.osi_blameless.specs.transport.Wholes as wholes
use Rattle.osi_blameless.proofs.small_facts_that_many_lemmas_use.{over_none}
use Rattle.osi_blameless.proofs.keeping.a_carrier_does_events.{IsLike, IsNext, comes, none_of}
use Rattle.osi_blameless.proofs.keeping.what_waits_changes_nothing.{bare}
use Rattle.osi_blameless.proofs.transport.what_each_thing_keeps_all_of_them_keep.{along_join}
use Rattle.osi_blameless.proofs.transport.small_facts_that_many_lemmas_use.{units_join}
pub use Rattle.osi_blameless.proofs.shown.connections_have_the_same_places.{unit_knows as unit_traffic}

-- ---- what the rules know of a unit, and of the units of a packet

pub turned : (d : Direction) → way_of (other d) ≡ sides.other (way_of d)
turned d = grind arith

-- ---- an end and a judge, and a whole end

-- The whole end that an end and a judge are, if its carrier is this one, and these units are still to come.
abbrev pub seen : Joint → Carrier → List Value → Whole
seen j end coming = record { end = end; put = j.put; begun = j.begun; judge = j.judge.traffic; coming = coming }

-- Events of a whole end have made the one that the end and the judge are. Its carrier has nothing to report and to hand over. As long as
-- the end lasts, it is the same apart from that, and the units of the packets are still to come.
pub record IsFollowed (d : Direction) (first : Whole) (j : Joint) : Type 0 where
  pub end : Carrier
  pub come : List Value
  pub events : List Event
  pub along : HappenAlong (way_of d) first events (seen j end come)
  pub coming : j.end.end.carrier.ended ≡ None → come ≡ units_in j.coming
  pub like : IsLike end j.end.end.carrier

abbrev pub whole_of : {d : Direction} {first : Whole} {j : Joint} → IsFollowed d first j → Whole
whole_of {j = j} f = seen j f.end f.come

-- units of the other side pass
record Passed (d : Direction) (at : ℕ) (units : List Value) (w : Whole) (c : Course) : Type 0 where
  events : List Event
  along : HappenAlong (way_of d) w events (record w { judge = (units_pass (other d) at units c).traffic; coming = w.coming ++ units })

module _ (d : Direction) (first : Whole) where
  -- more events, and another end and judge
  abbrev pub then_happens : (old new : Joint) (f : IsFollowed d first old) (end : Carrier) (come : List Value) (more : List Event) →
      HappenAlong (way_of d) (whole_of f) more (seen new end come) → (new.end.end.carrier.ended ≡ None → come ≡ units_in new.coming) →
      IsLike end new.end.end.carrier → IsFollowed d first new
  then_happens old new f end come more along coming like = record {
    end = end;
    come = come;
    events = f.events ++ more;
    along = along_join (Happens (way_of d)) f.events more first (whole_of f) (seen new end come) f.along along;
    coming = coming;
    like = like;
  }

  -- so what is another judge or other units on the way, at the same end
  pub event_so : (old new : Joint) (f : IsFollowed d first old) (event : Event) → new.end ≡ old.end → new.coming ≡ old.coming →
      Happens (way_of d) event (whole_of f) (seen new f.end f.come) → IsFollowed d first new
  event_so old new f event end coming happens =
      then_happens old new f f.end f.come (event ∷ []) (seen new f.end f.come, happens, refl)
      (λ lasts. f.coming (ap (λ (h : Holding). h.end.carrier.ended) (sym end) ∙ lasts) ∙ ap units_in (sym coming))
      (subst (λ (h : Holding). IsLike f.end h.end.carrier) (sym end) f.like)

  -- ---- a turn

  module _ (turn : Turn) (old new : Joint) (t : TakesTurn turn old new) (f : IsFollowed d first old) where
    -- with what is still to come after the turn
    done : (later : List Value) → IsNext (whole_of f) t.took later → (new.end.end.carrier.ended ≡ None → later ≡ units_in new.coming) →
        IsFollowed d first new
    done later now then_is =
        let h = comes (way_of d) old.end.end.carrier t.there t.took t.units t.makes (whole_of f) later f.like now in
        then_happens old new f h.end h.coming h.events
        (subst (HappenAlong (way_of d) (whole_of f) h.events)
        (λ i. record {
          end = h.end;
          put = sym t.put i;
          begun = sym t.begun i;
          judge = (sym t.course i).traffic;
          coming =
              h.coming;
        }) h.along)
        (λ lasts.
        h.still (none_of h.end.ended (sym h.like.over ∙ ap is_some (sym (ap (λ (c : Carrier). c.ended) t.same) ∙ lasts)))
        ∙ then_is lasts)
        (subst (IsLike h.end) (sym t.same) (record { over = h.like.over; lasts = h.like.lasts }))

    turn_by : (o : Option EndReason) → old.end.end.carrier.ended ≡ o → IsFollowed d first new
    turn_by None lasts =
        done (t.left ++ units_in new.coming)
        (λ still. f.coming lasts ∙ ap units_in t.coming ∙ units_join t.used new.coming
        ∙ ap (λ (l : List Value). l ++ units_in new.coming) (t.first lasts) ∙ append_assoc t.took t.left (units_in new.coming))
        (λ still. ap (λ (l : List Value). l ++ units_in new.coming) (t.none_left still))
    turn_by (Some reason) over =
        done (units_in new.coming)
        (λ still. over_none f.end.ended (sym f.like.over ∙ ap is_some over) still) (λ still. refl)

    turn_followed : IsFollowed d first new
    turn_followed = turn_by old.end.end.carrier.ended refl

  -- ---- the judge

  -- units of the other side pass
  units_so : (at : ℕ) (units : List Value) (w : Whole) (c : Course) → AllByRecursion Fits units → w.judge ≡ c.traffic →
      Passed d at units w c
  units_so at [] w c fits same = record {
    events = [];
    along = λ i. record w { judge = sym same i; coming = append-nil w.coming i };
  }
  units_so at (v ∷ units) w c fits same =
      let next : Whole = record w { judge = (takes (sides.other (way_of d)) v w.judge).state; coming = w.coming ++ v ∷ [] } in
      let on : next.judge ≡ (unit_passes (other d) at v c).traffic = grind (arith, turned, unit_traffic) in
      let more = units_so at units next (unit_passes (other d) at v c) fits.1 on in
      record {
        events = wholes.passes_other v ∷ more.events;
        along = subst (λ (l : List Value). HappenAlong (way_of d) w (wholes.passes_other v ∷ more.events)
            (record w { judge = (units_pass (other d) at (v ∷ units) c).traffic; coming = l }))
            (append_assoc w.coming (v ∷ []) units) (next, (fits.0.in_range, refl), more.along);
      }

  pub passes_other_so : (old new : Joint) (at : ℕ) (packet : List ℕ) (units : List Value) → AllByRecursion Fits units →
      units_by (units_of packet) ≡ units → PassesOther packet (units_pass (other d) at units) old new → IsFollowed d first old →
      IsFollowed d first new
  passes_other_so old new at packet units fits read is f =
      let p = units_so at units (whole_of f) old.judge fits refl in
      let mid : Joint = record old { judge = units_pass (other d) at units old.judge; coming = old.coming ++ packet ∷ [] } in
      let one : units_in (packet ∷ []) ≡ units =
      append-nil (units_by (units_of packet)) ∙ read in
      subst (IsFollowed d first) (sym is)
      (then_happens old mid f f.end (f.come ++ units) p.events p.along
      (λ lasts. (λ i. f.coming lasts i ++ sym one i) ∙ sym (units_join old.coming (packet ∷ []))) f.like)

  -- ---- each step

  pub step_followed : (step : Step) (old new : Joint) → Steps d step old new → IsFollowed d first old → IsFollowed d first new
  step_followed (turns turn) old new t f = turn_followed turn old new t f
  step_followed begins_own old new (some, none, is) f =
      subst (IsFollowed d first) (sym is)
      (event_so old (record old { begun = true; judge = packet_begins d old.judge }) f wholes.begins_own refl refl (some, none, refl))
  step_followed (passes_own at unit) old new (read, octets, (put, begun, is)) f =
      let mid : Joint = record old { put = new.put; begun = false; judge = units_pass d at (unit ∷ []) old.judge } in
      subst (IsFollowed d first) (sym is)
      (event_so old mid f wholes.passes_own refl refl (
        unit,
        (
          put,
          begun,
          ap (λ (t : Traffic). record (whole_of f) { put = new.put; begun = false; judge = t })
              (unit_traffic d at unit old.judge),
        ),
      ))
  step_followed begins_other old new is f =
      subst (IsFollowed d first) (sym is)
      (event_so old (record old { judge = packet_begins (other d) old.judge }) f wholes.begins_other refl refl
      (ap (λ (e : Way). record (whole_of f) { judge = traffic.packet_begins e old.judge.traffic }) (turned d)))
  step_followed (passes_other at packet units) old new (octets, read, is) f =
      passes_other_so old new at packet units (units_fit units packet (units_found packet units octets read)) (ap units_by read) is f

-- ---- at the beginning

pub begin_followed : (d : Direction) (is_caller : Bool) (local : Local) (h : Holding) → IsFresh is_caller local h →
    IsFollowed d (wholes.begin is_caller local) (begin h)
begin_followed d is_caller local h fresh =
    let same : h.end.carrier ≡ (wholes.begin is_caller local).end = ap (λ (e : End). e.carrier) fresh.end in
    record {
      end = (wholes.begin is_caller local).end;
      come = [];
      events = [];
      along = refl;
      coming = λ lasts. refl;
      like = grind (arith, bare);
    }
