-- Before a class is selected all connections of an end stand at a judge, calling or called: nothing that has come is for one of them. So it
-- is as packets begin, and as the end goes on.
-- For the session of the connection of an end in class 0.
use Rattle.osi_blameless.proofs.Vocabulary.{◌≡◌, ◌≢◌, ◌∙◌, sym, ap, subst, ℕ, ◌^◌, ◌<◌, Bool, true, false, List, [], length, None}
use Rattle.osi_blameless.proofs.Vocabulary.{Some, slice_get, AllByRecursion, Value, Direction, Left, Right, other, Deeds, then_did}
use Rattle.osi_blameless.proofs.Vocabulary.{units_in, Turn, Joined, Sessions, spoken, heard, Course, packet_begins, Joint, TakesTurn}
use Rattle.osi_carrier.specs.State.{State as Carrier}
use Rattle.osi_blameless.proofs.putting.a_turn_does_what_its_deeds_say.{turn_leaves}
use Rattle.osi_blameless.proofs.standing.a_turn_leaves_all_standing.{Turns}
use Rattle.osi_blameless.proofs.standing.all_connections_stand.{AllStand, all_begin_other, all_begin_own}
use Rattle.osi_blameless.proofs.in_class_0.an_end_stands_in_class_0.{class_begun, known_in}
use Rattle.osi_blameless.proofs.standing.each_step_leaves_class_0_one_connection.{Sure, sure_claim}
use Rattle.osi_blameless.proofs.in_class_2.no_connection_is_opened_before_a_class_is_selected.{AreUncalled, uncalled_claim}
use Rattle.osi_blameless.proofs.putting.references_of_an_end_are_distinct.{AreDistinct, begins_distinct}
use Rattle.osi_blameless.proofs.standing.steps_leave_all_standing.{step_turns}
use Rattle.osi_blameless.proofs.in_class_0.units_of_class_0_come_after_its_cc.{IsQuiet}
use Rattle.osi_blameless.proofs.putting.what_a_turn_puts_goes_to_its_peer.{all_back}
use Rattle.osi_blameless.proofs.in_class_2.what_is_asked_of_what_holds_at_each_step.{HaveCourses}

-- A calling end has given each connection a reference, with its CR; a called end has given none, as it does so with its CC.
abbrev pub AreNew : Direction → Sessions → Type 0
AreNew Left t = AreDistinct Left t
AreNew Right t = AreUncalled t

pub record AllInNone (d : Direction) (deeds : ℕ → Deeds) (end : Carrier) (put : List Value) (begun : Bool) (coming : List Value)
    (c : Course) : Type 0 where
  pub sure : Sure c
  pub class : c.traffic.course.class ≡ None
  pub all : AllStand d deeds (known_in end coming) put begun c.traffic c.sessions
  pub quiet : AllByRecursion IsQuiet coming
  pub new : AreNew d c.sessions

-- at a step
abbrev pub StandInNone : Direction → (ℕ → Deeds) → Joint → Type 0
StandInNone d deeds j = AllInNone d deeds j.end.end.carrier j.put j.begun (units_in j.coming) j.judge

-- ---- a packet begins

new_begins : (d e : Direction) (c : Course) → c.traffic.course.class ≡ None → AreNew d c.sessions → AreNew d (packet_begins e c).sessions
new_begins Left e c class h = begins_distinct Left e c.sessions h
new_begins Right e c class h = uncalled_claim.begins e c (λ none. h) (class_begun e c ∙ class)

module _ (d : Direction) (deeds : ℕ → Deeds) (j : Joint) (h : StandInNone d deeds j) where
  abbrev known : ℕ → List (Bool × List ℕ) → Type 0
  known = known_in j.end.end.carrier (units_in j.coming)

  pub none_own_begins : j.begun ≡ false → HaveCourses d deeds j →
      ((i : ℕ) (k : Joined) → slice_get j.judge.sessions.live i ≡ Some k → length (heard (spoken (other d) k)) < 2 ^ 64) →
      StandInNone d deeds (record j { begun = true; judge = packet_begins d j.judge })
  none_own_begins none courses few = record {
    sure = sure_claim.begins d j.judge h.sure;
    class = class_begun d j.judge ∙ h.class;
    all = all_begin_own d deeds known j.put j.end.end j.judge.traffic j.judge.sessions courses few
        (subst (λ (b : Bool). AllStand d deeds known j.put b j.judge.traffic j.judge.sessions) none h.all);
    quiet = h.quiet;
    new = new_begins d d j.judge h.class h.new;
  }

  pub none_other_begins : StandInNone d deeds (record j { judge = packet_begins (other d) j.judge })
  none_other_begins = record {
    sure = sure_claim.begins (other d) j.judge h.sure;
    class = class_begun (other d) j.judge ∙ h.class;
    all = all_begin_other d deeds known j.put j.begun j.judge.traffic j.judge.sessions h.all;
    quiet = h.quiet;
    new = new_begins d (other d) j.judge h.class h.new;
  }

-- ---- a turn

pub none_turns : (d : Direction) (turn : Turn) (old new : Joint) (t : TakesTurn turn old new) (deeds more : ℕ → Deeds) →
    Turns d more (known_in old.end.end.carrier (units_in old.coming)) (known_in new.end.end.carrier (units_in new.coming)) t.units
    old.judge.traffic old.judge.sessions → (old.begun ≡ true → old.put ≢ []) → StandInNone d deeds old →
    StandInNone d (λ r. then_did (deeds r) (more r)) new
none_turns d turn old new t deeds more turns some h = record {
  sure = subst Sure (sym t.course) h.sure;
  class = ap (λ (c : Course). c.traffic.course.class) t.course ∙ h.class;
  all = (step_turns d deeds (known_in old.end.end.carrier (units_in old.coming)) turn more
      (known_in new.end.end.carrier (units_in new.coming)) old new t some turns (record { all = h.all })).all;
  quiet = all_back IsQuiet (units_in t.used) (units_in new.coming)
      (subst (AllByRecursion IsQuiet) (turn_leaves turn old new t) h.quiet);
  new = subst (λ (c : Course). AreNew d c.sessions) (sym t.course) h.new;
}
