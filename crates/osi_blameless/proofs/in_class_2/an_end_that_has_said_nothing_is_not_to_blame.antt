-- No session of an end is to blame that has sent no DT; and what passes keeps that so, unless it is a DT of the end.
-- For the law that no session of an end is blamed first: of an end that doesn't offer class 2, and of one that has selected class 0 by a
-- CC that has not passed.
use Rattle.osi_blameless.proofs.Vocabulary.{[], Bool, false, inl, inr, List, Some, subst, sym, ℕ, ◌∙◌, ◌∷◌, ◌≡◌, ◌⊎◌, slice_get, Value}
use Rattle.osi_blameless.proofs.Vocabulary.{Zero, Local, meaning_if, meant, Traffic as State, takes, other, Direction, Deeds}
use Rattle.osi_blameless.proofs.Vocabulary.{all_begin, asked, Joined, Sessions, spoken, taken, unit_passes, units_pass, way_of, Room}
use Rattle.osi_blameless.proofs.Vocabulary.{after_add, after_set, IsOngoing, begins_other, begins_own, Joint, passes_other, passes_own}
use Rattle.osi_blameless.proofs.Vocabulary.{Step, Steps, calls_from, arith, Course, TakesTurn, Turn, ap}
use Rattle.osi_blameless.specs.transport.Wholes as wholes
use Rattle.osi_judge.specs.Connections.{packet_begins}
use Rattle.osi_judge.specs.Connections as joined
use Rattle.osi_blameless.proofs.keeping.steps_are_events.{IsFollowed, step_followed}
use Rattle.osi_blameless.proofs.steps.what_the_turns_among_steps_do.{TurnDoes}
use Rattle.osi_blameless.proofs.standing.nobody_of_a_side_is_to_blame.{IsMute}
use Rattle.osi_blameless.proofs.standing.all_connections_stand.{map_of}
use Rattle.osi_blameless.proofs.shown.connections_have_the_same_places.{Agree, packet_agrees, unit_agrees, unit_joins, units_agree}
use Rattle.osi_blameless.proofs.standing.what_a_unit_does_at_its_place.{Does, asks_again, asks_more, nowhere, somewhere, unit_does}
use Rattle.osi_blameless.proofs.standing.what_stands_of_a_connection.{is_part}
use Rattle.osi_blameless.proofs.in_class_2.what_is_asked_of_what_holds_at_each_step.{Leads}
use Rattle.osi_blameless.proofs.standing.steps_of_either_class_leave_all_standing.{silent}

-- ---- sides that have said nothing

abbrev IsUnsaid : Direction → Joined → Type 0
IsUnsaid d j = (spoken d j).said ≡ []

-- ---- what passes

said_begun : (d e : Direction) (j : Joined) → (spoken d (packet_begins e j)).said ≡ (spoken d j).said
said_begun d e j = grind arith

-- what a unit means for its connection
said_meant : (d e : Direction) (at : ℕ) (v : Value) (b : Bool) (j : Joined) → (e ≡ d → is_part v ≡ false) →
    (spoken d (joined.meant e at v (meaning_if b (meant v)) j)).said ≡ (spoken d j).said
said_meant d e at v b j h = grind arith

said_asked : (d : Direction) (number calling : ℕ) (room : Room) → (spoken d (asked number calling room)).said ≡ []
said_asked d number calling room = grind arith

module _ (d e : Direction) (at : ℕ) (v : Value) (s : State) (t : Sessions) (not : e ≡ d → is_part v ≡ false) (h : IsMute d t) where
  one_or : (p i : ℕ) (new j : Joined) → IsUnsaid d new → ((i ≡ p) × (j ≡ new)) ⊎ (slice_get t.live i ≡ Some j) → IsUnsaid d j
  one_or p i new j none (inl (there, is)) = subst (IsUnsaid d) (sym is) none
  one_or p i new j none (inr here) = h.live i j here

  mute_by : Does e at v s t (takes (way_of e) v s) →
      IsMute d (taken e at v (takes (way_of e) v s).told.meaning (takes (way_of e) v s).told.place t)
  mute_by (nowhere place cs ts) = subst (IsMute d) (sym ts) h
  mute_by (somewhere p c k b r place there here one finding is far cs ts) =
      let new : Joined = joined.meant e at v (meaning_if b (meant v)) k in
      let none : IsUnsaid d new = said_meant d e at v b k not ∙ h.live p k here in
      subst (IsMute d) (sym ts) (record {
        live = λ i j here. one_or p i new j none (after_set t.live p i new j here);
        done = h.done;
      })
  mute_by (asks_more x is number cs ts) = search (arith, one_or, said_asked, after_add)
  mute_by (asks_again x is number p k here free cs ts) = search (arith, one_or, said_asked, after_set, after_add)

mute_unit : (d e : Direction) (at : ℕ) (v : Value) (c : Course) → Agree c → (e ≡ d → is_part v ≡ false) → IsMute d c.sessions →
    IsMute d (unit_passes e at v c).sessions
mute_unit d e at v c places not h =
    subst (IsMute d) (sym (unit_joins e at v c))
    (mute_by d e at v c.traffic c.sessions not h (unit_does e at v c.traffic c.sessions places))

others_apart : {A : Type 0} (d : Direction) → other d ≡ d → A
others_apart h e = grind arith

pub mute_units : (d : Direction) (at : ℕ) (vs : List Value) (c : Course) → Agree c → IsMute d c.sessions →
    IsMute d (units_pass (other d) at vs c).sessions
mute_units d at [] c places h = h
mute_units d at (v ∷ vs) c places h =
    mute_units d at vs (unit_passes (other d) at v c) (unit_agrees (other d) at v c places)
    (mute_unit d (other d) at v c places (λ same. others_apart d same) h)

pub mute_begins : (d e : Direction) (t : Sessions) → IsMute d t → IsMute d (all_begin e t)
mute_begins d e t h = grind (arith, map_of, said_begun)

-- ---- the steps

-- for this reason it says nothing more
pub record HasSaidNothing (d : Direction) (local : Local) (Why : Joint → Type 0) (deeds : ℕ → Deeds) (j : Joint) : Type 0 where
  pub followed : IsFollowed d (wholes.begin (calls_from d) local) j
  pub places : Agree j.judge
  pub mute : IsMute d j.judge.sessions
  pub why : Why j

-- As long as both sides are judged, and class 0 is not selected, no unit that passes of the end is a DT then; and this stays so.
pub record KeepsSilent (d : Direction) (local : Local) (Why : Joint → Type 0) : Type 0 where
  pub still : (old new : Joint) → new.put ≡ old.put → Why old → Why new
  pub turns : (turn : Turn) (old new : Joint) (t : TakesTurn turn old new) (deeds : ℕ → Deeds) →
      TurnDoes (calls_from d) deeds turn old new t → Why old → Why new
  pub none_put : (deeds : ℕ → Deeds) (at : ℕ) (v : Value) (old new : Joint) → Steps d (passes_own at v) old new →
      IsOngoing old.judge.traffic.course → (new.judge.traffic.course.class ≡ Some Zero → ⊥) → HasSaidNothing d local Why deeds old →
      (is_part v ≡ false) × Why new

module _ (d : Direction) (local : Local) (Why : Joint → Type 0) (k : KeepsSilent d local Why) where
  abbrev Said : (ℕ → Deeds) → Joint → Type 0
  Said = HasSaidNothing d local Why

  stays_mute : (deeds then_deeds : ℕ → Deeds) (step : Step) (old new : Joint) → Steps d step old new → Agree new.judge →
      IsMute d new.judge.sessions → Why new → Said deeds old → Said then_deeds new
  stays_mute deeds then_deeds step old new does places mute why h = grind (arith, step_followed)

  pub mute_leads : Leads Zero d local Said Said
  mute_leads = record {
    own_begins = λ deeds old new step courses few h.
        stays_mute deeds deeds begins_own old new step
        (subst (λ (j : Joint). Agree j.judge) (sym step.2) (packet_agrees d old.judge h.places))
        (subst (λ (j : Joint). IsMute d j.judge.sessions) (sym step.2) (mute_begins d d old.judge.sessions h.mute))
        (k.still old new (ap (λ (j : Joint). j.put) step.2) h.why) h;
    other_begins = λ deeds old new step h.
        stays_mute deeds deeds begins_other old new step
        (subst (λ (j : Joint). Agree j.judge) (sym step) (packet_agrees (other d) old.judge h.places))
        (subst (λ (j : Joint). IsMute d j.judge.sessions) (sym step) (mute_begins d (other d) old.judge.sessions h.mute))
        (k.still old new (ap (λ (j : Joint). j.put) step) h.why) h;
    own_passes = λ deeds at v old new step fine clear not h.
        let (none, why) = k.none_put deeds at v old new step clear not h in
        stays_mute deeds deeds (passes_own at v) old new step
        (subst (λ (j : Joint). Agree j.judge) (sym step.2.2) (unit_agrees d at v old.judge h.places))
        (subst (λ (j : Joint). IsMute d j.judge.sessions) (sym step.2.2)
        (mute_unit d d at v old.judge h.places (λ same. none) h.mute)) why h;
    other_passes = λ deeds at octets units old new step taken not h.
        stays_mute deeds deeds (passes_other at octets units) old new step
        (subst (λ (j : Joint). Agree j.judge) (sym step.2) (units_agree (other d) at units old.judge h.places))
        (subst (λ (j : Joint). IsMute d j.judge.sessions) (sym step.2) (mute_units d at units old.judge h.places h.mute))
        (k.still old new (ap (λ (j : Joint). j.put) step.2) h.why) h;
    turn = λ turn old new t deeds does f g lasts h. record {
      followed = g;
      places = subst Agree (sym t.course) h.places;
      mute = subst (λ (c : Course). IsMute d c.sessions) (sym t.course) h.mute;
      why = k.turns turn old new t deeds does h.why;
    };
    stands = λ deeds j h. silent h.mute;
    stands_amid = λ deeds at octets front back old new step taken not h. silent (mute_units d at front old.judge h.places h.mute);
  }
