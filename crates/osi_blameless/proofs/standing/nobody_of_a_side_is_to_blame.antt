-- No session of a side is to blame, now or at any moment that has passed: what joins nothing leaves that so, and so does a unit after which
-- nobody of it is to blame. For the session of each connection of an end.
use Rattle.osi_blameless.proofs.Vocabulary.{spoken, arith, ◌≡◌, sym, ap, subst, ℕ, Bool, true, false, ◌∷◌, ◌++◌, [], Some, slice_get, Value}
use Rattle.osi_blameless.proofs.Vocabulary.{Direction, AllByRecursion, is_applied, is_stopped, takes, stops_last, IsToBlame, Joined}
use Rattle.osi_blameless.proofs.Vocabulary.{Sessions, all_begin, Course, unit_passes, way_of, Outcome, taken, Moment, moment_of, noted_past}
use Rattle.osi_blameless.proofs.Vocabulary.{cause_of, is_some, marks_of, unread, unread_mark, marked_past, Cause}
use Rattle.osi_rules.specs.Traffic as traffic
use Rattle.osi_judge.specs.Connections.{packet_begins}
use Rattle.osi_judge.specs.Courses as courses
use Rattle.osi_blameless.proofs.keeping.a_break_ends_no_judging_or_all.{refuses, unread_if}
use Rattle.osi_blameless.proofs.small_facts_that_many_lemmas_use.{all_join}
use Rattle.osi_blameless.proofs.steps.all_is_judged_or_nothing.{IsOver}
use Rattle.osi_blameless.proofs.standing.all_connections_stand.{map_of}
use Rattle.osi_blameless.proofs.shown.connections_have_the_same_places.{marked_leaves, unit_joins}
use Rattle.osi_blameless.proofs.shown.what_has_no_effect_joins_nothing.{joins_none}

-- ---- nobody of a side is to blame

pub record NoneIsToBlame (d : Direction) (t : Sessions) : Type 0 where
  pub live : (i : ℕ) (j : Joined) → slice_get t.live i ≡ Some j → IsToBlame d j → ⊥
  pub done : (i : ℕ) (j : Joined) → slice_get t.done i ≡ Some j → IsToBlame d j → ⊥

pub none_begins : (d e : Direction) (t : Sessions) → NoneIsToBlame d t → NoneIsToBlame d (all_begin e t)
none_begins d e t h = record {
  live = λ i j here blame.
      let (x, at, is) = map_of (packet_begins e) t.live i j here in
      h.live i x at (grind arith);
  done = h.done;
}

-- nor while it has said nothing
pub record IsMute (d : Direction) (t : Sessions) : Type 0 where
  pub live : (i : ℕ) (j : Joined) → slice_get t.live i ≡ Some j → (spoken d j).said ≡ []
  pub done : (i : ℕ) (j : Joined) → slice_get t.done i ≡ Some j → (spoken d j).said ≡ []

pub mute_none : (d : Direction) (t : Sessions) → IsMute d t → NoneIsToBlame d t
mute_none d t h = grind arith

-- ---- the moment of a unit

module _ (e : Direction) (at : ℕ) (v : Value) (c : Course) where
  abbrev pub o : Outcome
  o = takes (way_of e) v c.traffic

  abbrev pub then_joined : Sessions
  then_joined = taken e at v o.told.meaning o.told.place c.sessions

  abbrev pub moment : Moment
  moment = moment_of e at v o.told then_joined

  pub unit_past : (unit_passes e at v c).past ≡ c.past ++ moment ∷ []
  unit_past = noted_past e at v o.told (cause_of o.told.finding) _

-- ---- nor was anybody at a moment

abbrev pub NoneWas : Direction → Moment → Type 0
NoneWas d m = NoneIsToBlame d m.sessions

pub record NeverToBlame (d : Direction) (c : Course) : Type 0 where
  pub now : NoneIsToBlame d c.sessions
  pub past : AllByRecursion (NoneWas d) c.past

pub never_first : (d : Direction) → NeverToBlame d courses.fresh
never_first d = record {
  now = record { live = λ i j here. absurd (cc here); done = λ i j here. absurd (cc here) };
  past = tt;
}

pub never_begins : (d e : Direction) (c : Course) → NeverToBlame d c → NeverToBlame d (courses.packet_begins e c)
never_begins d e c h = record { now = none_begins d e c.sessions h.now; past = h.past }

-- a unit after which nobody is
pub never_unit : (d e : Direction) (at : ℕ) (v : Value) (c : Course) → NeverToBlame d c →
    NoneIsToBlame d (unit_passes e at v c).sessions → NeverToBlame d (unit_passes e at v c)
never_unit d e at v c h now = record {
  now = now;
  past = subst (AllByRecursion (NoneWas d)) (sym (unit_past e at v c))
      (all_join (NoneWas d) c.past (moment e at v c ∷ []) h.past (subst (NoneIsToBlame d) (unit_joins e at v c) now, tt));
}

-- a unit that has no effect
pub never_unapplied : (d e : Direction) (at : ℕ) (v : Value) (c : Course) →
    is_applied (takes (way_of e) v c.traffic).told.finding ≡ false → NeverToBlame d c → NeverToBlame d (unit_passes e at v c)
never_unapplied d e at v c unapplied h =
    never_unit d e at v c h (subst (NoneIsToBlame d) (sym (joins_none e at v c unapplied)) h.now)

-- a unit of a side of which nothing more is judged
pub never_stopped : (d e : Direction) (at : ℕ) (v : Value) (c : Course) → is_stopped (way_of e) c.traffic.course ≡ true →
    NeverToBlame d c → NeverToBlame d (unit_passes e at v c)
never_stopped d e at v c stopped h =
    never_unapplied d e at v c (ap (λ (x : Outcome). is_applied x.told.finding) (stops_last (way_of e) v c.traffic stopped)) h

pub never_over : (d e : Direction) (at : ℕ) (v : Value) (c : Course) → IsOver c → NeverToBlame d c → NeverToBlame d (unit_passes e at v c)
never_over d e at v c over h = never_stopped d e at v c (grind arith) h

-- what can't be read
pub never_refused : (d e : Direction) (at : ℕ) (k : Cause) (c : Course) → NeverToBlame d c → NeverToBlame d (refuses e at k c)
never_refused d e at k c h = record {
  now = subst (NoneIsToBlame d) (sym (marked_leaves (unread_mark e at k) (traffic.refused_reach (way_of e) c.traffic) _)) h.now;
  past = subst (AllByRecursion (NoneWas d)) (sym (marked_past (unread_mark e at k) (traffic.refused_reach (way_of e) c.traffic) _))
      (all_join (NoneWas d) c.past (courses.unread_moment e at k c.sessions ∷ []) h.past (h.now, tt));
}

pub never_unread : (d e : Direction) (at : ℕ) (k : Cause) (c : Course) → NeverToBlame d c → NeverToBlame d (unread e at k c)
never_unread d e at k c h = by (is_some (marks_of e c).halted)
  where
    by : (b : Bool) → NeverToBlame d (unread_if b e at k c)
    by true = h
    by false = never_refused d e at k c h
