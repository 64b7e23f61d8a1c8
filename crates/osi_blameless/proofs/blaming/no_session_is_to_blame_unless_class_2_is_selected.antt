-- No session of an end is to blame, whatever the other side breaks, as long as class 2 is not selected: after a break with which the
-- judging of the other side ends, an end goes on as if it had not come. For the law that no session of an end is to blame after a break.
use Rattle.osi_blameless.proofs.Vocabulary.{◌≡◌, ◌∙◌, ◌⊎◌, inl, inr, refl, sym, ap, subst, ℕ, ◌^◌, ◌<◌, Bool, true, false, Ok, List, []}
use Rattle.osi_blameless.proofs.Vocabulary.{◌∷◌, ◌++◌, length, Option, Some, None, arith, AllByRecursion, IsOctets, units_of, Value, Two}
use Rattle.osi_blameless.proofs.Vocabulary.{Zero, Local, Capture, other, Direction, Finding, Broke, TooMany, Reach, is_applied, reach_of}
use Rattle.osi_blameless.proofs.Vocabulary.{class_for, is_stopped, takes, Deeds, Holding, IsFresh, Known, Cause, unit_passes, units_pass}
use Rattle.osi_blameless.proofs.Vocabulary.{way_of, comes_to, Joint, Step, Steps, calls_from, Class, IsNoPacket, IsUnread, LaterAlong}
use Rattle.osi_blameless.proofs.Vocabulary.{spoilt, units_in}
use Rattle.osi_blameless.proofs.steps.what_the_turns_among_steps_do.{ComesByDoing}
use Rattle.osi_rules.specs.declared.findings.Reach.TheVariants as reach
use Rattle.osi_rules.specs.declared.findings.Rule.TheVariants as rule
use Rattle.osi_blameless.specs.transport.Wholes as wholes
use Rattle.osi_judge.specs.Courses.{Course as Passed}
use Rattle.osi_blameless.specs.Spoilt.{GoesOn}
use Rattle.osi_blameless.proofs.keeping.a_break_ends_no_judging_or_all.{loose_so, nothing_ends, reach_so}
use Rattle.osi_blameless.proofs.steps.all_is_judged_or_nothing.{IsOver}
use Rattle.osi_blameless.proofs.keeping.an_end_that_is_judged_alone_stays_so.{later_kept, later_too}
use Rattle.osi_blameless.proofs.keeping.in_class_0_one_side_alone_is_judged.{AfterUnread, IsLoose, all_over, alone as is_alone_then}
use Rattle.osi_blameless.proofs.keeping.in_class_0_one_side_alone_is_judged.{loose_claim}
use Rattle.osi_blameless.proofs.keeping.in_class_0_one_side_alone_is_judged.{refused_over_so as unread_ends, unit_alone, unread_alone}
use Rattle.osi_blameless.proofs.keeping.in_class_0_one_side_alone_is_judged.{unread_is}
use Rattle.osi_blameless.proofs.keeping.steps_are_events.{IsFollowed}
use Rattle.osi_blameless.proofs.keeping.what_a_taker_passes_over.{IsMild, Sort, is_hard as is_broken, is_mild, is_shut, mild_reach, sort_of}
use Rattle.osi_blameless.proofs.steps.what_passes_keeps_a_claim.{step_kept, units_kept}
use Rattle.osi_blameless.proofs.breaking.a_break_in_class_0_leaves_an_end_alone.{kind_of, later_alone, later_step, never_alone}
use Rattle.osi_blameless.proofs.breaking.a_break_in_class_0_leaves_an_end_alone.{octets_begin_alone, packet_begins_alone, spoilt_alone}
use Rattle.osi_blameless.proofs.breaking.a_break_in_class_0_leaves_an_end_alone.{unit_begins, units_alone}
use Rattle.osi_blameless.proofs.standing.a_unit_after_a_dr_is_for_a_closing_connection.{IsAfterDr, after_dr}
use Rattle.osi_blameless.proofs.breaking.an_end_beside_a_judge.{Goes}
use Rattle.osi_blameless.proofs.breaking.an_end_goes_on_as_if_no_break_had_come.{IsAsWithout}
use Rattle.osi_blameless.proofs.breaking.an_end_of_class_0_has_begun_what_a_judge_has_joined.{HasBegun}
use Rattle.osi_blameless.proofs.blaming.each_step_keeps_an_end_blameless.{Comes, IsDone, RestsSo, SoFar, Stood, all_done, at_last, ended}
use Rattle.osi_blameless.proofs.blaming.each_step_keeps_an_end_blameless.{done_claim, goes, is_done, is_rest, is_taken, rested}
use Rattle.osi_blameless.proofs.blaming.each_step_keeps_an_end_blameless.{with_packet}
use Rattle.osi_blameless.proofs.standing.nobody_of_a_side_is_to_blame.{NeverToBlame, never_unapplied, never_unread}
use Rattle.osi_blameless.proofs.shown.what_has_no_effect_joins_nothing.{too_many_ends}
use Rattle.osi_blameless.proofs.in_class_2.what_is_asked_of_what_holds_at_each_step.{IsWithout, Keeps, firm_so, goes_so, units_join}
use Rattle.osi_blameless.proofs.shown.a_session_that_is_shown_is_not_to_blame.{not_both}

own_stopped : (d : Direction) (c : Passed) → IsOver c → is_stopped (way_of d) c.traffic.course ≡ true
own_stopped d c o = grind arith

-- one connection too many, or not
many_or : (f : Finding) → (f ≡ TooMany) ⊎ (f ≡ TooMany → ⊥)
many_or f = grind arith

not_many : {f : Finding} → f ≡ Broke rule.Closed → f ≡ TooMany → ⊥
not_many closed many = let no : Broke rule.Closed ≡ TooMany = sym closed ∙ many in cc

module _ (known : Known) (d : Direction) (local : Local) (Inv : (ℕ → Deeds) → Joint → Type 0)
    (k : Keeps Two d local Inv) (has_begun : HasBegun d Inv) where
  abbrev Judging : (ℕ → Deeds) → Joint → Type 0
  Judging deeds j = Goes Two d local Inv k deeds j

  -- it goes on as if no break had come
  abbrev GoesWithout : Bool → Joint → Type 0
  GoesWithout ends j = IsAsWithout known d local Inv k has_begun ends j

  -- a connection has lost its judgement, or the end goes on alone
  abbrev Rest : Joint → Type 0
  Rest j = IsLoose j.judge ⊎ (GoesWithout false j × NeverToBlame d j.judge)

  -- ---- a unit of the other side

  module _ (deeds : ℕ → Deeds) (old : Joint) (g : Judging deeds old) (at : ℕ) (octets : List ℕ) (front back : List Value) (v : Value)
      (all : IsOctets octets) (read : units_of octets ≡ Ok (front ++ v ∷ back)) (so : SoFar Two d at front old.judge)
      (followed : IsFollowed d (wholes.begin (calls_from d) local) (with_packet d at octets (front ++ v ∷ back) old)) where
    abbrev c : Passed
    c = units_pass (other d) at front old.judge

    abbrev next : Passed
    next = unit_passes (other d) at v c

    abbrev new : Joint
    new = with_packet d at octets (front ++ v ∷ back) old

    abbrev found : Finding
    found = (takes (way_of (other d)) v c.traffic).told.finding

    abbrev One : Type 0
    One = Comes Two d Rest at v c new

    all_join : new.judge ≡ units_pass (other d) at back next
    all_join = units_join (other d) at front (v ∷ back) old.judge

    -- it has no effect
    none_joined : is_applied found ≡ false → NeverToBlame d next
    none_joined unapplied = never_unapplied d (other d) at v c unapplied so.never

    by_mild : IsMild v found → (found ≡ TooMany) ⊎ (found ≡ TooMany → ⊥) → One
    by_mild m (inl many) = is_done (all_done d (other d) at v c (too_many_ends (other d) v c.traffic many) so.never)
    by_mild m (inr few) =
        is_taken (record {
          taken = inl (record { firm = so.judged.firm; goes = goes_so (other d) c so.judged; mild = m });
          firm = firm_so c so.judged;
          not = so.not;
          sure = so.sure;
          few = few;
        })
        (nothing_ends (other d) at v c
        ((reach_so (other d) at v c).far ∙ mild_reach v (class_for (way_of (other d)) c.traffic.course) found m few) so.judged)

    -- it comes after a DR of its sender
    by_after : IsAfterDr (other d) v c → One
    by_after after =
        is_taken (record {
          taken = inr after;
          firm = firm_so c so.judged;
          not = so.not;
          sure = so.sure;
          few = λ many. not_many after.closed many;
        })
        (nothing_ends (other d) at v c
        ((reach_so (other d) at v c).far ∙ ap (reach_of (class_for (way_of (other d)) c.traffic.course)) after.closed) so.judged)

    lost : IsLoose next → IsLoose new.judge
    lost loose = subst IsLoose (sym all_join) (units_kept IsLoose loose_claim (other d) at back next loose)

    by_reach : is_applied found ≡ false → (r : Reach) → (takes (way_of (other d)) v c.traffic).told.reach ≡ r →
        (r ≡ reach.Nothing → ⊥) → One
    by_reach unapplied reach.Nothing reaches less = absurd (less refl)
    by_reach unapplied reach.Connection reaches less = is_rest (inl (lost (loose_so (other d) at v c reach.Connection reaches)))
    by_reach unapplied reach.Side reaches less =
        let alone = unit_alone d at v c so.judged (so.sure.agrees Zero) reaches in
        is_rest (inr (
          unit_begins known d local Inv k has_begun deeds at octets front back v old g all read so.passed so.judged so.never
              unapplied reaches alone (kind_of v) followed,
          subst (NeverToBlame d) (sym all_join) (units_alone d at back next alone (none_joined unapplied)),
        ))
    by_reach unapplied reach.Everything reaches less = is_done (all_done d (other d) at v c reaches so.never)

    one_by : Sort v found → One
    one_by (is_mild m) = by_mild m (many_or found)
    one_by (is_shut closed other_unit) = by_after (after_dr (other d) v c closed other_unit)
    one_by (is_broken unapplied less) = search (arith, by_reach, reach_so (other d) at v c)

    one : One
    one = one_by (sort_of v found)

  rest_step : (step : Step) (old new : Joint) → Steps d step old new → length old.judge.past < 2 ^ 64 → Rest old → Rest new
  rest_step step old new does few (inl loose) = inl (step_kept IsLoose loose_claim d step old new does loose)
  rest_step step old new does few (inr (a, never)) =
      let later = later_too d step old new does in
      let now = later_step known d local Inv k has_begun false step old new later
      (λ no. absurd (let n : false ≡ true = no in cc)) few a in
      inr (now, never_alone known d local Inv k has_begun false step old new later a now never)

  so_rests : RestsSo Two d local Inv k Rest
  so_rests = record {
    unit = λ deeds old g at octets front back v all read so followed. one deeds old g at octets front back v all read so followed;
    step = rest_step;
  }

  -- ---- the capture

  -- nobody ever was to blame, or a connection has lost its judgement
  abbrev pub EndsWell : Passed → Type 0
  EndsWell c = NeverToBlame d c ⊎ IsLoose c

  abbrev StoodAt : Joint → Type 0
  StoodAt j = Stood Two d local Inv k Rest so_rests j

  ends_so : (j : Joint) → StoodAt j → EndsWell j.judge
  ends_so j (deeds, goes g) = inl g.never
  ends_so j (deeds, ended s) = inl s.never
  ends_so j (deeds, rested (inl loose)) = inr loose
  ends_so j (deeds, rested (inr (a, never))) = inl never

  -- the other side sends what can't be read, and then anything passes
  module _ (at : ℕ) (cause_is : Cause) (packets : List (List ℕ)) (none_in : units_in packets ≡ []) (steps : List Step)
      (how : ((packet : List ℕ) × (packets ≡ packet ∷ []) × IsUnread (units_of packet))
      ⊎ ((packets ≡ []) × AllByRecursion IsNoPacket steps)) (j end : Joint)
      (along : LaterAlong d (spoilt d at cause_is packets j) steps end)
      (within : IsWithout Two end.judge) where
    abbrev bad : Joint
    bad = spoilt d at cause_is packets j

    on_alone : (ends : Bool) → (ends ≡ true → AllByRecursion IsNoPacket steps) → GoesWithout ends bad → NeverToBlame d bad.judge →
        EndsWell end.judge
    on_alone ends none a never =
        inl (later_alone known d local Inv k has_begun ends steps bad end along none within.few a never)

    done_so : IsDone d bad.judge → EndsWell end.judge
    done_so h = inl (later_kept (IsDone d) (done_claim d) d steps bad end along h).never

    unread_by : (deeds : ℕ → Deeds) → Judging deeds j → NeverToBlame d bad.judge → AfterUnread d bad.judge →
        (x : Option Class) → class_for (way_of (other d)) j.judge.traffic.course ≡ x → EndsWell end.judge
    unread_by deeds g never (all_over o) x is = done_so (record { over = o; never = never })
    unread_by deeds g never (is_alone_then a) (Some Zero) is =
        let refuses_so = unread_is d at cause_is j.judge g.judged (g.sure.agrees Zero) in
        elim how [
          | inl (packet, one, unreadable) ↦ on_alone false (λ no. absurd (let n : false ≡ true = no in cc))
              (search (arith, packet_begins_alone)) never
          | inr (nothing, none) ↦ on_alone true (λ yes. none) (search (arith, octets_begin_alone)) never
        ]
    unread_by deeds g never (is_alone_then a) None is = grind (arith, not_both, own_stopped, unread_ends)
    unread_by deeds g never (is_alone_then a) (Some Two) is = grind (arith, not_both, own_stopped, unread_ends)

    after_bad : StoodAt j → EndsWell end.judge
    after_bad (deeds, goes g) =
        unread_by deeds g (never_unread d (other d) at cause_is j.judge g.never)
        (unread_alone d at cause_is j.judge g.judged (g.sure.agrees Zero)) (class_for (way_of (other d)) j.judge.traffic.course) refl
    after_bad (deeds, ended s) = done_so ((done_claim d).bad (other d) at cause_is j.judge s)
    after_bad (deeds, rested (inl loose)) =
        inr (later_kept IsLoose loose_claim d steps bad end along (loose_claim.bad (other d) at cause_is j.judge loose))
    after_bad (deeds, rested (inr (a, never))) =
        on_alone false (λ no. absurd (let n : false ≡ true = no in cc))
        (spoilt_alone known d local Inv k has_begun at cause_is packets none_in j a)
        (never_unread d (other d) at cause_is j.judge never)

  pub ends_well : (h : Holding) (capture : Capture) → IsFresh (calls_from d) local h → ComesByDoing d (calls_from d) capture h →
      IsWithout Two (comes_to capture).course → EndsWell (comes_to capture).course
  ends_well h capture fresh comes within = by comes.on
    where
      last : IsWithout Two comes.last.judge × StoodAt comes.last
      last = at_last Two d local Inv k Rest so_rests h capture fresh comes within

      by : ((comes_to capture).course ≡ comes.last.judge) ⊎ GoesOn d capture comes.last → EndsWell (comes_to capture).course
      by (inl is) = subst EndsWell (sym is) (ends_so comes.last last.1)
      by (inr g) = subst EndsWell (sym g.all)
          (after_bad g.at g.cause g.packets g.none g.steps g.how comes.last g.end g.along (subst (IsWithout Two) g.all within) last.1)
