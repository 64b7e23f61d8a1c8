-- With a break of the other side in class 0, an end and a judge begin to go on as if it had not come, for the end takes no packet of it;
-- and so they go on, step by step. For the law that no session of an end is to blame after such a break.
use Rattle.osi_blameless.proofs.Vocabulary.{packets, ◌≡◌, ◌∙◌, inl, inr, refl, sym, ap, subst, ℕ, ◌^◌, ◌<◌, ◌≤◌, Bool, true, false, List}
use Rattle.osi_blameless.proofs.Vocabulary.{[], ◌∷◌, ◌++◌, length, Some, arith, append_assoc, Result, Ok, AllByRecursion, append-nil}
use Rattle.osi_blameless.proofs.Vocabulary.{IsOctets, units_of, Value, data0, TpduFault, Two, Zero, Local, other, Direction, is_applied}
use Rattle.osi_blameless.proofs.Vocabulary.{class_for, takes, side_zero, Deeds, AreHard, IsHard, Known, Cause, unit_passes, units_pass}
use Rattle.osi_blameless.proofs.Vocabulary.{unread, way_of, Joint, Step, begins_other, begins_own, passes_other, passes_own, turns}
use Rattle.osi_blameless.proofs.Vocabulary.{stops_last, calls_from, IsNoPacket, IsUnread, LaterAlong, LaterSteps, spoilt, units_in}
use Rattle.osi_rules.specs.declared.courses.Course.{Course as Judging}
use Rattle.osi_rules.specs.declared.findings.Reach.TheVariants as reach
use Rattle.osi_blameless.specs.transport.Wholes as wholes
use Rattle.osi_judge.specs.Courses.{Course as Passed}
use Rattle.osi_blameless.proofs.keeping.a_break_ends_no_judging_or_all.{reach_so, refuses}
use Rattle.osi_blameless.proofs.keeping.an_end_that_is_judged_alone_stays_so.{later_kept}
use Rattle.osi_blameless.proofs.keeping.in_class_0_one_side_alone_is_judged.{IsAlone}
use Rattle.osi_blameless.proofs.keeping.later_steps_are_events.{later_followed, spoilt_followed}
use Rattle.osi_blameless.proofs.keeping.steps_are_events.{IsFollowed}
use Rattle.osi_blameless.proofs.steps.all_is_judged_or_nothing.{IsJudged}
use Rattle.osi_blameless.proofs.steps.what_is_halted_stays_halted.{unread_same}
use Rattle.osi_blameless.proofs.steps.what_passes_keeps_a_claim.{units_kept}
use Rattle.osi_blameless.proofs.keeping.what_is_judged_beside_a_halted_side.{IsBeside, beside_break, beside_unread}
use Rattle.osi_blameless.proofs.breaking.a_dt_that_is_too_long_stays_so.{IsTooLong, breaks_too_long}
use Rattle.osi_blameless.proofs.breaking.an_end_beside_a_judge.{Goes, other_goes}
use Rattle.osi_blameless.proofs.breaking.an_end_goes_on_as_if_no_break_had_come.{How, IsAsWithout, IsHardFor, is_over, none_alone}
use Rattle.osi_blameless.proofs.breaking.an_end_goes_on_as_if_no_break_had_come.{none_comes}
use Rattle.osi_blameless.proofs.breaking.an_end_goes_on_as_if_no_break_had_come.{other_alone, other_begins_alone, own_alone_so}
use Rattle.osi_blameless.proofs.breaking.an_end_goes_on_as_if_no_break_had_come.{own_begins_alone, still_units, turn_alone, waits_for}
use Rattle.osi_blameless.proofs.breaking.an_end_of_class_0_has_begun_what_a_judge_has_joined.{HasBegun}
use Rattle.osi_blameless.proofs.breaking.an_end_of_class_0_has_its_connection_open.{MayBeFollowed}
use Rattle.osi_blameless.proofs.standing.each_step_leaves_class_0_one_connection.{Sure, sure_claim}
use Rattle.osi_blameless.proofs.breaking.no_more_tsdus_than_moments_have_passed.{AreFew, few_claim}
use Rattle.osi_blameless.proofs.in_class_2.what_is_asked_of_what_holds_at_each_step.{ArePassed, Keeps, firm_so, goes_so, long_claim}
use Rattle.osi_blameless.proofs.in_class_2.what_is_asked_of_what_holds_at_each_step.{knows_zero, units_join}
use Rattle.osi_blameless.proofs.small_facts_that_many_lemmas_use.{zero_two}
use Rattle.osi_blameless.proofs.standing.nobody_of_a_side_is_to_blame.{NeverToBlame, NoneIsToBlame, never_begins, never_stopped, never_unit}
use Rattle.osi_blameless.proofs.breaking.the_first_units_of_a_packet_are_a_packet.{leads_off, leads_read}

-- ---- what an end of class 0 never takes

-- a DT of class 0, or a unit that no link of class 0 takes
pub data Kind (v : Value) : Type 0 where
  is_data : (end : Bool) (user : List ℕ) → v ≡ data0 end user → Kind v
  is_hard : ((begun : List ℕ) → IsHard begun v) → Kind v

pub kind_of : (v : Value) → Kind v
kind_of (data0 end user) = is_data end user refl
kind_of v = is_hard (λ begun. tt)

selects : (e : Direction) (c : Judging) → (c.class_seen ≡ Some Zero → c.class ≡ Some Zero) → class_for (way_of e) c ≡ Some Zero →
    c.class ≡ Some Zero
selects e c agrees is = grind arith

followed_hard : (v : Value) → MayBeFollowed v → (begun : List ℕ) → IsHard begun v
followed_hard v h begun = grind arith

unread_hard : (r : Result (List Value) TpduFault) → IsUnread r → (begun : List ℕ) → AreHard begun r
unread_hard r h begun = grind arith

-- ---- units of a side of which nothing more is judged

pub units_alone : (d : Direction) (at : ℕ) (vs : List Value) (c : Passed) → IsAlone d c → NeverToBlame d c →
    NeverToBlame d (units_pass (other d) at vs c)
units_alone d at [] c a h = h
units_alone d at (v ∷ vs) c a h =
    units_alone d at vs (unit_passes (other d) at v c) (grind (arith, stops_last)) (never_stopped d (other d) at v c a.stopped h)

module _ (known : Known) (d : Direction) (local : Local)
    (Inv : (ℕ → Deeds) → Joint → Type 0) (k : Keeps Two d local Inv) (has_begun : HasBegun d Inv) where
  abbrev pub Judged : (ℕ → Deeds) → Joint → Type 0
  Judged deeds j = Goes Two d local Inv k deeds j

  abbrev pub AsWithout : Bool → Joint → Type 0
  AsWithout ends j = IsAsWithout known d local Inv k has_begun ends j

  -- ---- a unit with which the judging of the other side ends

  module _ (deeds : ℕ → Deeds) (at : ℕ) (octets : List ℕ) (front back : List Value) (v : Value) (old : Joint) (g : Judged deeds old)
      (all : IsOctets octets) (read : units_of octets ≡ Ok (front ++ v ∷ back)) (taken : ArePassed Two d at front old.judge)
      (judged : IsJudged (units_pass (other d) at front old.judge))
      (never : NeverToBlame d (units_pass (other d) at front old.judge))
      (unapplied : is_applied (takes (way_of (other d)) v (units_pass (other d) at front old.judge).traffic).told.finding ≡ false)
      (side : (takes (way_of (other d)) v (units_pass (other d) at front old.judge).traffic).told.reach ≡ reach.Side)
      (alone : IsAlone d (unit_passes (other d) at v (units_pass (other d) at front old.judge)))
      (kind : Kind v) where
    abbrev c : Passed
    c = units_pass (other d) at front old.judge

    abbrev after_it : Passed
    after_it = units_pass (other d) at (front ++ v ∷ back) old.judge

    abbrev new : Joint
    new = record old { judge = after_it; coming = old.coming ++ octets ∷ [] }

    zero : class_for (way_of (other d)) c.traffic.course ≡ Some Zero
    zero = grind (arith, side_zero, reach_so)

    sure : Sure c
    sure = units_kept Sure sure_claim (other d) at front old.judge g.sure

    long_so : (end : Bool) (user : List ℕ) → v ≡ data0 end user → IsTooLong d user c.traffic
    long_so end user is = grind (arith, breaks_too_long, sure, firm_so, selects, goes_so)

    read_as : (f : List Value) → front ≡ f → units_of octets ≡ Ok (f ++ v ∷ back)
    read_as f is = read ∙ ap (λ (l : List Value). Ok (l ++ v ∷ back)) is

    hard_packet : IsHardFor d c octets
    hard_packet = by front refl kind
      where
        by : (f : List Value) → front ≡ f → Kind v → IsHardFor d c octets
        by (u ∷ f) is any =
            inl (grind (arith, followed_hard, read_as (u ∷ f) is, leads_off u f v back octets all (read_as (u ∷ f) is)))
        by [] is (is_hard hard) = inl (λ begun. subst (AreHard begun) (sym (read_as [] is)) (hard begun))
        by [] is (is_data end user it) =
            inr (grind (arith, read_as [] is, long_so end user it))

    -- what there is without it: what passed before, and of its packet the units before it
    record Before (w : Joint) : Type 0 where
      goes : Judged deeds w
      end : w.end ≡ old.end
      put : w.put ≡ old.put
      begun : w.begun ≡ old.begun
      judge : w.judge ≡ c
      extra : List (List ℕ)
      coming : w.coming ≡ old.coming ++ extra
      followed : AllByRecursion MayBeFollowed (units_in extra)

    begins_alone : IsFollowed d (wholes.begin (calls_from d) local) new → (w : Joint) → Before w → AsWithout false new
    begins_alone f w b =
        let s = still_units known d local Inv k has_begun at back (unit_passes (other d) at v c) c (record {
          beside = beside_break d at v c zero (goes_so (other d) c judged) unapplied side;
          alone = alone;
          few = (few_claim (other d)).passes (other d) at v c (grind (arith, units_kept, few_claim));
        }) in
        let all_join : units_pass (other d) at back (unit_passes (other d) at v c) ≡ after_it =
        sym (units_join (other d) at front (v ∷ back) old.judge) in
        record {
          deeds = deeds;
          without = w;
          is = record {
            goes = b.goes;
            put = ap packets b.put;
            begun = b.begun;
            beside = subst (λ (x : Passed). IsBeside d x w.judge) all_join (subst (IsBeside d _) (sym b.judge) s.beside);
            alone = subst (IsAlone d) all_join s.alone;
            followed = f;
            few = subst (AreFew (other d)) all_join s.few;
            how = waits_for refl (sym b.end) old.coming b.extra b.coming b.followed octets [] refl
                (subst (λ (x : Passed). IsHardFor d x octets) (sym b.judge) hard_packet);
          };
        }

    pub unit_begins : IsFollowed d (wholes.begin (calls_from d) local) new → AsWithout false new
    unit_begins f = by front refl
      where
        by : (xs : List Value) → front ≡ xs → AsWithout false new
        by [] none = begins_alone f old (grind (arith, append-nil))
        by (u ∷ xs) some =
            let l = leads_off u xs v back octets all (read ∙ ap (λ (f : List Value). Ok (f ++ v ∷ back)) some) in
            let front_read : units_of l.packet ≡ Ok front = leads_read (u ∷ xs) l ∙ ap (λ (f : List Value). Ok f) (sym some) in
            let w : Joint = record old { judge = c; coming = old.coming ++ l.packet ∷ [] } in
            begins_alone f w (record {
              goes = other_goes Two d local Inv k deeds at l.packet front old w (l.octets, front_read, refl) g taken
                  (zero_two c.traffic.course.class (knows_zero (other d) c sure zero)) judged never;
              end = refl;
              put = refl;
              begun = refl;
              judge = refl;
              extra = l.packet ∷ [];
              coming = refl;
              followed = grind (arith, append-nil);
            })

  -- ---- what can't be read

  module _ (deeds : ℕ → Deeds) (at : ℕ) (cause : Cause) (packets : List (List ℕ)) (none : units_in packets ≡ []) (old : Joint)
      (g : Judged deeds old) (zero : class_for (way_of (other d)) old.judge.traffic.course ≡ Some Zero)
      (is : unread (other d) at cause old.judge ≡ refuses (other d) at cause old.judge)
      (alone : IsAlone d (unread (other d) at cause old.judge)) where
    abbrev bad : Joint
    bad = spoilt d at cause packets old

    as_without : (ends : Bool) → How known d local Inv k has_begun ends old bad → AsWithout ends bad
    as_without ends how = record {
      deeds = deeds;
      without = old;
      is = record {
        goes = g;
        put = refl;
        begun = refl;
        beside = beside_unread d at cause old.judge zero is;
        alone = alone;
        followed = spoilt_followed d (wholes.begin (calls_from d) local) at cause packets none old g.followed;
        few = (few_claim (other d)).bad (other d) at cause old.judge g.few;
        how = how;
      };
    }

    -- a packet
    pub packet_begins_alone : (packet : List ℕ) → packets ≡ packet ∷ [] → IsUnread (units_of packet) → AsWithout false bad
    packet_begins_alone packet one unreadable =
        as_without false (waits_for refl refl old.coming [] (sym (append-nil old.coming)) tt packet []
        (ap (λ (l : List (List ℕ)). old.coming ++ l) one) (inl (λ begun. unread_hard (units_of packet) unreadable begun)))

    -- or octets with which none begins
    pub octets_begin_alone : packets ≡ [] → AsWithout true bad
    octets_begin_alone nothing = grind (arith, as_without, none_comes, append-nil)

  -- ---- so they go on

  abbrev first : wholes.Whole
  first = wholes.begin (calls_from d) local

  -- what can't be read is nothing more then
  pub spoilt_alone : (at : ℕ) (cause : Cause) (packets : List (List ℕ)) → units_in packets ≡ [] → (old : Joint) → AsWithout false old →
      AsWithout false (spoilt d at cause packets old)
  spoilt_alone at cause packets none old a =
      let same = unread_same (other d) at cause old.judge a.is.alone.halted in
      record {
        deeds = a.deeds;
        without = a.without;
        is = record {
          goes = a.is.goes;
          put = a.is.put;
          begun = a.is.begun;
          beside = subst (λ (c : Passed). IsBeside d c a.without.judge) (sym same) a.is.beside;
          alone = subst (IsAlone d) (sym same) a.is.alone;
          followed = spoilt_followed d first at cause packets none old a.is.followed;
          few = subst (AreFew (other d)) (sym same) a.is.few;
          how = by a.is.how;
        };
      }
    where
      by : How known d local Inv k has_begun false a.without old →
          How known d local Inv k has_begun false a.without (spoilt d at cause packets old)
      by (is_over over) = is_over over
      by (waits_for reads same front extra is all packet more there hard) =
          waits_for reads same front extra is all packet (more ++ packets)
          (ap (λ (l : List (List ℕ)). l ++ packets) there ∙ append_assoc front (packet ∷ more) packets) hard
      by (none_comes spent same is) = absurd (let no : false ≡ true = spent in cc)

  pub later_step : (ends : Bool) (step : Step) (old new : Joint) → LaterSteps d step old new → (ends ≡ true → IsNoPacket step) →
      length old.judge.past < 2 ^ 64 → AsWithout ends old → AsWithout ends new
  later_step ends (turns turn) old new t none short a = search (arith, turn_alone)
  later_step ends begins_own old new step none short a = search (arith, own_begins_alone)
  later_step ends begins_other old new step none short a = search (arith, other_begins_alone)
  later_step ends (passes_own at v) old new step none short a = search (arith, own_alone_so)
  later_step true (passes_other at packet units) old new step none short a = absurd (none refl)
  later_step false (passes_other at packet units) old new (octets, read, is) none short a =
      other_alone known d local Inv k has_begun at packet units old new is
      (later_followed d first (passes_other at packet units) old new (octets, read, is) a.is.followed) a

  -- nobody of the end is to blame
  pub never_alone : (ends : Bool) (step : Step) (old new : Joint) → LaterSteps d step old new → AsWithout ends old → AsWithout ends new →
      NeverToBlame d old.judge → NeverToBlame d new.judge
  never_alone ends (turns turn) old new t a now never = subst (NeverToBlame d) (sym t.course) never
  never_alone ends begins_own old new step a now never =
      subst (λ (j : Joint). NeverToBlame d j.judge) (sym step.2) (never_begins d d old.judge never)
  never_alone ends begins_other old new step a now never =
      subst (λ (j : Joint). NeverToBlame d j.judge) (sym step) (never_begins d (other d) old.judge never)
  never_alone ends (passes_own at v) old new step a now never =
      subst (λ (j : Joint). NeverToBlame d j.judge) (sym step.2.2) (never_unit d d at v old.judge never
      (subst (λ (j : Joint). NoneIsToBlame d j.judge.sessions) step.2.2
      (none_alone known d local Inv k has_begun ends new now)))
  never_alone ends (passes_other at packet units) old new step a now never =
      subst (λ (j : Joint). NeverToBlame d j.judge) (sym step.2) (units_alone d at units old.judge a.is.alone never)

  pub later_alone : (ends : Bool) (steps : List Step) (old new : Joint) → LaterAlong d old steps new →
      (ends ≡ true → AllByRecursion IsNoPacket steps) → length new.judge.past < 2 ^ 64 → AsWithout ends old →
      NeverToBlame d old.judge → NeverToBlame d new.judge
  later_alone ends [] old new is none short a never = subst (λ (j : Joint). NeverToBlame d j.judge) (sym is) never
  later_alone ends (step ∷ steps) old new (mid, one, more) none short a never =
      let longer = later_kept (λ c. length old.judge.past ≤ length c.past) (long_claim (length old.judge.past)) d (step ∷ steps) old new
      (mid, one, more) (omega arith) in
      let now = later_step ends step old mid one (λ yes. (none yes).0) (omega (arith, longer, short)) a in
      later_alone ends steps mid new more (λ yes. (none yes).1) short now (never_alone ends step old mid one a now never)
