-- After a break of the other side in class 0 an end and a judge go on as if the break had not come: the end takes what came before it, and
-- is over with the break; and the judge joins nothing more of the other side. For the law that no session of an end is to blame after such
-- a break.
use Rattle.osi_blameless.proofs.Vocabulary.{◌≡◌, ◌∙◌, ◌⊎◌, inl, inr, refl, sym, ap, subst, ℕ, ◌^◌, ◌<◌, Bool, true, false, List, [], ◌∷◌}
use Rattle.osi_blameless.proofs.Vocabulary.{◌++◌, length, Option, Ok, Some, None, IsSome, arith, append_assoc, AllByRecursion, lt-ltb}
use Rattle.osi_blameless.proofs.Vocabulary.{append-nil, empty_partial, ArePackets, units_of, Value, data0, written, Standing, Two, Zero}
use Rattle.osi_blameless.proofs.Vocabulary.{Local, packets, EndReason, other, Direction, Kept, is_stopped, takes, stops_last, lasting_of}
use Rattle.osi_blameless.proofs.Vocabulary.{TakesPackets, End, Holding, Deeds, all_units, Takes, Turn, over_acts, IsHardPacket, IsLast}
use Rattle.osi_blameless.proofs.Vocabulary.{IsZeroAt, hard_ends, leads_to, Stopped, TakesFirst, none_held, prefix_or, stopped_there, TurnOf}
use Rattle.osi_blameless.proofs.Vocabulary.{turn_continues, Known, packet_begins, unit_passes, units_pass, way_of, Joint, Steps, TakesTurn}
use Rattle.osi_blameless.proofs.Vocabulary.{begins_other, begins_own, passes_own, turns, calls_from, CanBeWritten, all_did, packet_of}
use Rattle.osi_blameless.proofs.Vocabulary.{packets_joined, read_again, Result, TpduFault, IsOctets, units_in}
use Rattle.osi_blameless.specs.transport.Wholes as wholes
use Rattle.osi_blameless.proofs.steps.what_the_turns_among_steps_do.{takes_turn}
use Rattle.osi_stack.specs.Feeding.{stops}
use Rattle.osi_judge.specs.Courses.{Course as Passed}
use Rattle.osi_blameless.proofs.keeping.a_break_ends_no_judging_or_all.{far_of}
use Rattle.osi_blameless.proofs.keeping.an_end_that_is_judged_alone_stays_so.{own_alone}
use Rattle.osi_blameless.proofs.keeping.in_class_0_one_side_alone_is_judged.{IsAlone, alone_begins, alone_own}
use Rattle.osi_blameless.proofs.keeping.steps_are_events.{IsFollowed, step_followed}
use Rattle.osi_blameless.proofs.keeping.no_unit_of_a_whole_end_is_a_break.{IsNoBreak}
use Rattle.osi_blameless.proofs.keeping.what_is_judged_beside_a_halted_side.{IsBeside, beside_own}
use Rattle.osi_blameless.proofs.steps.what_passes_keeps_a_claim.{step_kept}
use Rattle.osi_blameless.proofs.breaking.a_dt_that_is_too_long_stays_so.{IsTooLong, begins_too_long, only_of, passes_too_long}
use Rattle.osi_blameless.proofs.in_class_0.what_the_stage_of_a_whole_end_says.{own_is_dt}
use Rattle.osi_blameless.proofs.standing.nobody_of_a_side_is_to_blame.{NoneIsToBlame}
use Rattle.osi_blameless.proofs.breaking.an_end_beside_a_judge.{Goes, other_begins_goes, own_begins_goes, own_goes, turn_goes}
use Rattle.osi_blameless.proofs.breaking.an_end_of_class_0_has_begun_what_a_judge_has_joined.{HasBegun}
use Rattle.osi_blameless.proofs.breaking.an_end_of_class_0_has_its_connection_open.{IsOpenIn, MayBeFollowed, end_opens}
use Rattle.osi_blameless.proofs.shown.connections_have_the_same_places.{at_same, unit_joins, unit_knows}
use Rattle.osi_blameless.proofs.breaking.no_more_tsdus_than_moments_have_passed.{AreFew, few_claim}
use Rattle.osi_blameless.proofs.in_class_2.what_is_asked_of_what_holds_at_each_step.{Keeps, firm_so, goes_so}

-- with this packet the TSDU of the other side is too long
pub record LongPacket (d : Direction) (c : Passed) (packet : List ℕ) : Type 0 where
  pub end : Bool
  pub user : List ℕ
  pub rest : List Value
  pub read : units_of packet ≡ Ok (data0 end user ∷ rest)
  pub long : IsTooLong d user c.traffic

-- a packet that no end of class 0 takes, whatever it has begun; or that it does not take as it is now
abbrev pub IsHardFor : Direction → Passed → List ℕ → Type 0
IsHardFor d c packet = ((begun : List ℕ) → IsHardPacket begun packet) ⊎ LongPacket d c packet

-- ---- what is written alike

none_written : (units : List Value) → packets units ≡ [] → units ≡ []
none_written [] e = refl
none_written (unit ∷ units) e = absurd (cc)

same_split : (a b x y : List ℕ) → length a ≡ length b → a ++ x ≡ b ++ y → (a ≡ b) × (x ≡ y)
same_split [] [] x y l e = (refl, e)
same_split [] (b ∷ bs) x y l e = absurd (cc)
same_split (a ∷ some) [] x y l e = absurd (cc)
same_split (a ∷ some) (b ∷ others) x y l e =
    let one : a ≡ b = cc in
    let rest : some ++ x ≡ others ++ y = cc in
    let long : length some ≡ length others = omega arith in
    let more = same_split some others x y long rest in
    (λ i. one i ∷ more.0 i, more.1)

one_packet : (u w x y : List ℕ) → packet_of u ++ x ≡ packet_of w ++ y → (u ≡ w) × (x ≡ y)
one_packet u w x y e = grind (arith, same_split)

one_read : (u v : Value) → ◌≡◌ {A = Result (List Value) TpduFault} (Ok (u ∷ [])) (Ok (v ∷ [])) → u ≡ v
one_read u v e = cc

-- of units that are written as others, the first is the unit that is read
record SameFirst (units : List Value) (unit : Value) (rest : List Value) : Type 0 where
  others : List Value
  is : units ≡ unit ∷ others
  more : packets others ≡ packets rest

same_first : (units : List Value) (unit : Value) (rest : List Value) → AllByRecursion CanBeWritten units → IsOctets (written unit) →
    units_of (written unit) ≡ Ok (unit ∷ []) → packets units ≡ packets (unit ∷ rest) → SameFirst units unit rest
same_first [] unit rest can octets read e = absurd (cc)
same_first (u ∷ units) unit rest can octets read e =
    let both = one_packet (written u) (written unit) (packets units) (packets rest) e in
    let again = read_again u can.0 (subst IsOctets (sym both.0) octets) in
    let same = one_read u unit (sym again ∙ ap units_of both.0 ∙ read) in
    record { others = units; is = ap (λ (v : Value). v ∷ units) same; more = both.1 }

module _ (known : Known) (d : Direction) (local : Local)
    (Inv : (ℕ → Deeds) → Joint → Type 0) (k : Keeps Two d local Inv) (has_begun : HasBegun d Inv) where
  abbrev pub Judged : (ℕ → Deeds) → Joint → Type 0
  Judged deeds j = Goes Two d local Inv k deeds j

  abbrev first : wholes.Whole
  first = wholes.begin (calls_from d) local

  -- ---- what holds

  -- What the end has still to take: it is over; or it takes what it would without the break, and then a packet with which it is over; or
  -- no packet comes any more.
  pub data How (ends : Bool) (without j : Joint) : Type 0 where
    is_over : IsSome j.end.end.carrier.ended → How ends without j
    waits_for : ends ≡ false → j.end ≡ without.end → (front extra : List (List ℕ)) → without.coming ≡ front ++ extra →
        AllByRecursion MayBeFollowed (units_in extra) → (packet : List ℕ) (more : List (List ℕ)) → j.coming ≡ front ++ packet ∷ more →
        IsHardFor d without.judge packet → How ends without j
    none_comes : ends ≡ true → j.end ≡ without.end → j.coming ≡ without.coming → How ends without j

  -- An end and a judge, and the same without the break.
  pub record Alone (ends : Bool) (deeds : ℕ → Deeds) (without j : Joint) : Type 0 where
    pub goes : Judged deeds without
    pub put : packets without.put ≡ packets j.put
    pub begun : without.begun ≡ j.begun
    pub beside : IsBeside d j.judge without.judge
    pub alone : IsAlone d j.judge
    pub followed : IsFollowed d first j
    pub few : AreFew (other d) j.judge
    pub how : How ends without j

  pub record IsAsWithout (ends : Bool) (j : Joint) : Type 0 where
    pub deeds : ℕ → Deeds
    pub without : Joint
    pub is : Alone ends deeds without j

  -- nobody is to blame then
  pub none_alone : (ends : Bool) (j : Joint) → IsAsWithout ends j → NoneIsToBlame d j.judge.sessions
  none_alone ends j a = grind arith

  -- ---- units of the other side

  pub record Still (c without : Passed) : Type 0 where
    pub beside : IsBeside d c without
    pub alone : IsAlone d c
    pub few : AreFew (other d) c

  pub still_units : (at : ℕ) (vs : List Value) (c without : Passed) → Still c without → Still (units_pass (other d) at vs c) without
  still_units at [] c without s = s
  still_units at (u ∷ vs) c without s =
      still_units at vs (unit_passes (other d) at u c) without (record {
        beside = grind (arith, stops_last, unit_joins, unit_knows);
        alone = grind (arith, stops_last);
        few = (few_claim (other d)).passes (other d) at u c s.few;
      })

  zero_not : (c without : Passed) → IsBeside d c without → IsAlone d c → without.traffic.course.class ≡ Some Two → ⊥
  zero_not c without b a is = grind arith

  zero_without : (c without : Passed) → IsBeside d c without → IsAlone d c → without.traffic.course.class ≡ Some Zero
  zero_without c without b a = grind arith

  -- ---- a packet begins

  same_how : (ends : Bool) (v j w i : Joint) → w.end ≡ v.end → w.coming ≡ v.coming → i.end ≡ j.end →
      i.coming ≡ j.coming → ((p : List ℕ) → IsHardFor d v.judge p → IsHardFor d w.judge p) → How ends v j → How ends w i
  same_how ends v j w i a b c e still (is_over over) = is_over (subst (λ (h : Holding). IsSome h.end.carrier.ended) (sym c) over)
  same_how ends v j w i a b c e still (waits_for reads same front extra is all packet more there hard) =
      waits_for reads (c ∙ same ∙ sym a) front extra (b ∙ is) all packet more (e ∙ there) (still packet hard)
  same_how ends v j w i a b c e still (none_comes spent same is) = none_comes spent (c ∙ same ∙ sym a) (e ∙ is ∙ sym b)

  begins_hard : (e : Direction) (deeds : ℕ → Deeds) (v : Joint) → Judged deeds v → v.judge.traffic.course.class ≡ Some Zero →
      (p : List ℕ) → IsHardFor d v.judge p → IsHardFor d (packet_begins e v.judge) p
  begins_hard e deeds v g zero p (inl all) = inl all
  begins_hard e deeds v g zero p (inr l) =
      inr (search (arith, begins_too_long, only_of, firm_so))

  pub own_begins_alone : (ends : Bool) (old new : Joint) → Steps d begins_own old new → length old.judge.past < 2 ^ 64 →
      IsAsWithout ends old → IsAsWithout ends new
  own_begins_alone ends old new (some, none, is) short a =
      let v = a.without in
      let w : Joint = record v { begun = true; judge = packet_begins d v.judge } in
      let mid : Joint = record old { begun = true; judge = packet_begins d old.judge } in
      let h = a.is in
      subst (IsAsWithout ends) (sym is) (record {
        deeds = a.deeds;
        without = w;
        is = record {
          goes = own_begins_goes Two d local Inv k v w
              ((λ nothing. some (none_written old.put (sym h.put ∙ ap packets nothing))), h.begun ∙ none, refl)
              (grind arith) a.deeds h.goes;
          put = h.put;
          begun = refl;
          beside = grind arith;
          alone = alone_begins d d old.judge h.alone;
          followed = step_followed d first begins_own old mid (some, none, refl) h.followed;
          few = step_kept (AreFew (other d)) (few_claim (other d)) d begins_own old mid (some, none, refl) h.few;
          how = same_how ends v old w mid refl refl refl refl
              (begins_hard d a.deeds v h.goes (zero_without old.judge v.judge h.beside h.alone)) h.how;
        };
      })

  pub other_begins_alone : (ends : Bool) (old new : Joint) → Steps d begins_other old new → IsAsWithout ends old → IsAsWithout ends new
  other_begins_alone ends old new is a =
      let v = a.without in
      let w : Joint = record v { judge = packet_begins (other d) v.judge } in
      let mid : Joint = record old { judge = packet_begins (other d) old.judge } in
      let h = a.is in
      subst (IsAsWithout ends) (sym is) (record {
        deeds = a.deeds;
        without = w;
        is = record {
          goes = other_begins_goes Two d local Inv k v w refl a.deeds h.goes;
          put = h.put;
          begun = h.begun;
          beside = grind arith;
          alone = alone_begins d (other d) old.judge h.alone;
          followed = step_followed d first begins_other old mid refl h.followed;
          few = step_kept (AreFew (other d)) (few_claim (other d)) d begins_other old mid refl h.few;
          how = same_how ends v old w mid refl refl refl refl
              (begins_hard (other d) a.deeds v h.goes (zero_without old.judge v.judge h.beside h.alone)) h.how;
        };
      })

  -- ---- a unit of the end passes

  own_hard : (at : ℕ) (unit : Value) (v w : Joint) → Steps d (passes_own at unit) v w → (deeds : ℕ → Deeds) → Judged deeds v →
      v.judge.traffic.course.class ≡ Some Zero → is_stopped (way_of d) v.judge.traffic.course ≡ false →
      (takes (way_of d) unit v.judge.traffic).told.finding ≡ Kept → (p : List ℕ) → IsHardFor d v.judge p →
      IsHardFor d (unit_passes d at unit v.judge) p
  own_hard at unit v w step deeds g zero goes kept p (inl all) = inl all
  own_hard at unit v w step deeds g zero goes kept p (inr l) =
      let firm = firm_so v.judge g.judged in
      inr (search (arith, passes_too_long, own_is_dt))

  pub own_alone_so : (ends : Bool) (at : ℕ) (unit : Value) (old new : Joint) → Steps d (passes_own at unit) old new →
      IsAsWithout ends old → IsAsWithout ends new
  own_alone_so ends at unit old new (read, octets, (put, begun, is)) a =
      let v = a.without in
      let h = a.is in
      let f = same_first v.put unit new.put h.goes.can octets read (h.put ∙ ap packets put) in
      let w : Joint = record v { put = f.others; begun = false; judge = units_pass d at (unit ∷ []) v.judge } in
      let mid : Joint = record old { put = new.put; begun = false; judge = units_pass d at (unit ∷ []) old.judge } in
      let step : Steps d (passes_own at unit) v w = (read, octets, (f.is, h.begun ∙ begun, refl)) in
      let goes = goes_so d v.judge h.goes.judged in
      let dt = own_is_dt local d at unit v w step h.goes.followed (firm_so v.judge h.goes.judged)
      (zero_without old.judge v.judge h.beside h.alone) in
      let (b, found) = beside_own d at unit old.judge v.judge goes dt h.beside in
      let kept = own_alone d local at unit old mid (read, octets, (put, begun, refl)) h.followed
      h.alone in
      let then_alone = alone_own d at unit old.judge kept h.alone in
      let far = far_of d at unit v.judge Kept (sym found ∙ kept) in
      let none : IsNoBreak (takes (way_of d) unit v.judge.traffic).told.finding = subst IsNoBreak (sym (sym found ∙ kept)) tt in
      subst (IsAsWithout ends) (sym is) (record {
        deeds = a.deeds;
        without = w;
        is = record {
          goes = own_goes Two d local Inv k a.deeds at unit v w step h.goes
              (zero_not old.judge v.judge h.beside h.alone)
              (zero_not (unit_passes d at unit old.judge) (unit_passes d at unit v.judge) b then_alone) none far;
          put = f.more;
          begun = refl;
          beside = b;
          alone = then_alone;
          followed = step_followed d first (passes_own at unit) old mid (read, octets, (put, begun, refl)) h.followed;
          few = step_kept (AreFew (other d)) (few_claim (other d)) d (passes_own at unit) old mid (read, octets, (put, begun, refl))
              h.few;
          how = same_how ends v old w mid refl refl refl refl
              (own_hard at unit v w step a.deeds h.goes (zero_without old.judge v.judge h.beside h.alone) goes
              (sym found ∙ kept)) h.how;
        };
      })

  -- ---- a packet of the other side passes

  more_how : (v j i : Joint) (packet : List ℕ) → i.end ≡ j.end → i.coming ≡ j.coming ++ packet ∷ [] → How false v j →
      How false v i
  more_how v j i u c e (is_over over) = is_over (subst (λ (h : Holding). IsSome h.end.carrier.ended) (sym c) over)
  more_how v j i u c e (waits_for reads same front extra is all packet more there hard) =
      waits_for reads (c ∙ same) front extra is all packet (more ++ u ∷ [])
      (e ∙ ap (λ (l : List (List ℕ)). l ++ u ∷ []) there ∙ append_assoc front (packet ∷ more) (u ∷ [])) hard
  more_how v j i u c e (none_comes spent same is) = absurd (cc spent)

  -- whatever units are read of it
  pub other_alone : (at : ℕ) (packet : List ℕ) (units : List Value) (old new : Joint) →
      new ≡ record old { judge = units_pass (other d) at units old.judge; coming = old.coming ++ packet ∷ [] } →
      IsFollowed d first new → IsAsWithout false old → IsAsWithout false new
  other_alone at packet units old new is f a =
      let v = a.without in
      let h = a.is in
      let mid : Joint = record old { judge = units_pass (other d) at units old.judge; coming = old.coming ++ packet ∷ [] } in
      let s = still_units at units old.judge v.judge (record { beside = h.beside; alone = h.alone; few = h.few }) in
      subst (IsAsWithout false) (sym is) (record {
        deeds = a.deeds;
        without = v;
        is = record {
          goes = h.goes;
          put = h.put;
          begun = h.begun;
          beside = s.beside;
          alone = s.alone;
          followed = subst (IsFollowed d first) is f;
          few = s.few;
          how = more_how v old mid packet refl refl h.how;
        };
      })

  -- ---- a turn without the break

  record Next (deeds : ℕ → Deeds) (v : Joint) (turn : Turn) (new : Holding) (left : List (List ℕ)) : Type 0 where
    then_deeds : ℕ → Deeds
    w : Joint
    goes : Judged then_deeds w
    end : w.end ≡ new
    coming : w.coming ≡ left
    units : List Value
    put : w.put ≡ v.put ++ units
    written_is : turn.put ≡ packets units
    begun : w.begun ≡ v.begun
    judge : w.judge ≡ v.judge

  next : (deeds : ℕ → Deeds) (v : Joint) → Judged deeds v → (v.judge.traffic.course.class ≡ Some Two → ⊥) → (turn : Turn)
      (new : Holding) → Takes v.end turn new → (used left : List (List ℕ)) (rest : List ℕ) → v.coming ≡ used ++ left →
      (v.end.end.carrier.ended ≡ None → ArePackets used (v.end.held.octets ++ turn.used) rest) →
      (new.end.carrier.ended ≡ None → rest ≡ new.held.octets) →
      (v.end.end.carrier.ended ≡ None → (new.end.carrier.ended ≡ None → ⊥) → (more : List (List ℕ)) (last : List ℕ) →
      ArePackets more rest last → more ≡ []) → Next deeds v turn new left
  next deeds v g not turn new takes used left rest parts cut held all =
      let at : TurnOf (calls_from d) deeds turn v.end new =
      turn_continues known (calls_from d) deeds turn v.end new g.sane.between g.courses takes in
      let units = all_units at.on.put in
      let w : Joint = record v { end = new; put = v.put ++ units; coming = left } in
      let t : TakesTurn turn v w = takes_turn (calls_from d) deeds turn v new takes at.on used left rest parts cut held all in
      record {
        then_deeds = all_did deeds at.on.more;
        w = w;
        goes = turn_goes Two d local Inv k turn v w t deeds (record { on = at.on; life = at.life; first = at.first; units = refl }) g not;
        end = refl;
        coming = refl;
        units = units;
        put = refl;
        written_is = at.on.written;
        begun = refl;
        judge = refl;
      }

  none_more_in : (more : List (List ℕ)) (last : List ℕ) → ArePackets more [] last → more ≡ []
  none_more_in more last h = none_held [] last more empty_partial h

  -- ---- a turn

  module _ (ends : Bool) (turn : Turn) (old new : Joint) (t : TakesTurn turn old new) (deeds : ℕ → Deeds) (v : Joint)
      (h : Alone ends deeds v old) where
    then_followed : IsFollowed d first new
    then_followed = step_followed d first (turns turn) old new t h.followed

    not_two : v.judge.traffic.course.class ≡ Some Two → ⊥
    not_two = zero_not old.judge v.judge h.beside h.alone

    put_then : (w : Joint) (units : List Value) → w.put ≡ v.put ++ units → packets units ≡ turn.put → packets w.put ≡ packets new.put
    put_then w units put is =
        let now : packets units ≡ packets t.units = is ∙ t.written in
        ap packets put ∙ packets_joined v.put units ∙ (λ i. h.put i ++ now i) ∙ sym (packets_joined old.put t.units) ∙ ap packets
        (sym t.put)

    -- without a turn
    idle : turn.put ≡ [] → IsSome new.end.end.carrier.ended → IsAsWithout ends new
    idle none over = record {
      deeds = deeds;
      without = v;
      is = grind (arith, then_followed, put_then v [] (sym (append-nil v.put)) (sym none), append-nil v.put);
    }

    -- with one
    goes_with : (turn_too : Turn) (last : Holding) (left : List (List ℕ)) (n : Next deeds v turn_too last left) →
        turn_too.put ≡ turn.put → How ends n.w new → IsAsWithout ends new
    goes_with turn_too last left n same how = record {
      deeds = n.then_deeds;
      without = n.w;
      is = record {
        goes = n.goes;
        put = put_then n.w n.units n.put (sym n.written_is ∙ same);
        begun = n.begun ∙ h.begun ∙ sym t.begun;
        beside = grind arith;
        alone = subst (IsAlone d) (sym t.course) h.alone;
        followed = then_followed;
        few = grind arith;
        how = how;
      };
    }

    over_idle : IsSome old.end.end.carrier.ended → IsAsWithout ends new
    over_idle over = let k = over_acts turn old.end new.end over t.takes in idle k.1 k.0

    -- the same turn, of what comes without the break
    plain : old.end ≡ v.end → (left : List (List ℕ)) → v.coming ≡ t.used ++ left →
        ((w : Joint) → w.end ≡ new.end → w.coming ≡ left → w.judge ≡ v.judge → How ends w new) → IsAsWithout ends new
    plain same left parts how =
        let n = next deeds v h.goes not_two turn new.end (subst (λ (x : Holding). Takes x turn new.end) same t.takes) t.used
        left t.rest parts
        (subst (λ (x : Holding). x.end.carrier.ended ≡ None → ArePackets t.used (x.held.octets ++ turn.used) t.rest) same t.cut)
        t.held
        (grind arith) in
        goes_with turn new.end left n refl (how n.w n.end n.coming n.judge)

    -- the end takes the packet with which it is over
    module _ (same : old.end ≡ v.end) (lasts : v.end.end.carrier.ended ≡ None) (front extra : List (List ℕ))
        (parts : v.coming ≡ front ++ extra) (followed : AllByRecursion MayBeFollowed (units_in extra)) (packet : List ℕ)
        (more : List (List ℕ)) (used : t.used ≡ front ++ packet ∷ more) (hard : IsHardFor d v.judge packet) where
      front_cut : (us vs : List (List ℕ)) (s r : List ℕ) → ArePackets (us ++ vs) s r → (left : List ℕ) × ArePackets us s left
      front_cut [] vs s r c = (s, refl)
      front_cut (u ∷ us) vs s r (b, y, p, is, c) = let (left, x) = front_cut us vs y r c in (left, (b, y, p, is, x))

      opened : (w : Joint) (deeds_too : ℕ → Deeds) → Judged deeds_too w → w.judge ≡ v.judge → w.coming ≡ extra →
          w.end.end.carrier.ended ≡ None → IsOpenIn w.end.end.carrier
      opened w deeds_too g course coming still =
          end_opens local d w g.followed (firm_so w.judge g.judged)
          (ap (λ (c : Passed). c.traffic.course.class) course ∙ zero_without old.judge v.judge h.beside h.alone)
          (subst (λ (l : List (List ℕ)). AllByRecursion MayBeFollowed (units_in l)) (sym coming) followed) still

      hard_there : (w : Joint) (deeds_too : ℕ → Deeds) → Judged deeds_too w → w.judge ≡ v.judge → w.coming ≡ extra →
          (r peer : ℕ) (link : Standing) → IsZeroAt r peer link w.end.end.carrier → IsHardFor d v.judge packet →
          IsHardPacket link.ends.joining.begun packet
      hard_there w deeds_too g course coming r peer link at (inl all) = all link.ends.joining.begun
      hard_there w deeds_too g course coming r peer link at (inr l) =
          let firm = firm_so w.judge g.judged in
          let zero : w.judge.traffic.course.class ≡ Some Zero = grind (arith, zero_without) in
          let o = only_of w.judge.traffic g.sure firm zero in
          let (x, here, one) = at_same w.judge.traffic.connections w.judge.sessions.live o.place o.connection g.counted.places
          o.there in
          let is = has_begun deeds_too w g.holds g.courses g.sane firm zero
          (λ two_is. not_two (ap (λ (c : Passed). c.traffic.course.class) (sym course) ∙ two_is))
          (subst (λ (l : List (List ℕ)). AllByRecursion MayBeFollowed (units_in l)) (sym coming) followed) r peer link at o x here in
          let long : IsTooLong d l.user w.judge.traffic = subst (λ (c : Passed). IsTooLong d l.user c.traffic) (sym course) l.long in
          grind (arith, lt-ltb, g.counted.each o.place o.connection x o.there here)

      last_by : (w : Joint) (deeds_too : ℕ → Deeds) → Judged deeds_too w → w.judge ≡ v.judge → w.coming ≡ extra → (x : End) →
          w.end.end ≡ x → IsOpenIn w.end.end.carrier → IsLast packet x
      last_by w deeds_too g course coming x is o =
          subst (IsLast packet) is
          (hard_ends o.r o.peer o.link packet w.end.end o.at (hard_there w deeds_too g course coming o.r o.peer o.link o.at hard))

      last_there : (us : List (List ℕ)) → front ≡ us → (x : End) → TakesPackets v.end.end us x → stops x ≡ false → IsLast packet x
      last_there [] is x taken still =
          let coming : v.coming ≡ extra = parts ∙ ap (λ (l : List (List ℕ)). l ++ extra) is in
          last_by v deeds h.goes refl coming x (sym taken) (opened v deeds h.goes refl coming lasts)
      last_there (u ∷ us) is x taken still =
          let (left, cut) = front_cut (u ∷ us) (packet ∷ more) (v.end.held.octets ++ turn.used) t.rest
          (subst (λ (l : List (List ℕ)). ArePackets (l ++ packet ∷ more) (v.end.held.octets ++ turn.used) t.rest) is (grind arith)) in
          let to = leads_to known (calls_from d) deeds v.end h.goes.sane h.goes.courses u us turn.used left x taken.0 cut taken
          still in
          let n = next deeds v h.goes not_two to.turn to.new to.takes (u ∷ us) extra []
          (parts ∙ ap (λ (l : List (List ℕ)). l ++ extra) is) (λ l. to.cut) (λ l. sym to.held) (λ l over m last. none_more_in m last) in
          let end_is : n.w.end.end ≡ x = ap (λ (y : Holding). y.end) n.end ∙ to.there in
          last_by n.w n.then_deeds n.goes n.judge n.coming x end_is
          (grind (arith, opened, lasting_of))

      stopped : Stopped front turn.put v.end new.end
      stopped =
          stopped_there v.end new.end turn lasts h.goes.sane.part front packet more t.rest (last_there front refl)
          (subst (λ (x : Holding). Takes x turn new.end) same t.takes) (grind arith)

      ends_by : (turn.put ≡ []) ⊎ TakesFirst front turn.put v.end → IsAsWithout ends new
      ends_by (inl none) = idle none stopped.over
      ends_by (inr f) =
          let n = next deeds v h.goes not_two f.turn f.new f.takes f.used (f.left ++ extra) []
          (parts ∙ ap (λ (l : List (List ℕ)). l ++ extra) f.parts ∙ append_assoc f.used f.left extra) (λ l. f.cut) (λ l. sym f.held)
          (λ l over m last. none_more_in m last) in
          goes_with f.turn f.new (f.left ++ extra) n f.put_is (is_over stopped.over)

    by_packets : ends ≡ false → old.end ≡ v.end → (front extra : List (List ℕ)) → v.coming ≡ front ++ extra →
        AllByRecursion MayBeFollowed (units_in extra) → (packet : List ℕ) (more : List (List ℕ)) → old.coming ≡ front ++ packet ∷ more →
        IsHardFor d v.judge packet → (o : Option EndReason) → v.end.end.carrier.ended ≡ o →
        ((m : List (List ℕ)) × (t.used ≡ front ++ packet ∷ m))
        ⊎ ((m : List (List ℕ)) × (front ≡ t.used ++ m) × (m ++ packet ∷ more ≡ new.coming)) → IsAsWithout ends new
    by_packets reads same front extra parts followed packet more there hard (Some reason) over found = grind (arith, over_idle)
    by_packets reads same front extra parts followed packet more there hard None lasts (inl (m, used)) =
        search (arith, ends_by, stopped same lasts front extra parts followed packet m used hard)
    by_packets reads same front extra parts followed packet more there hard None lasts (inr (m, used, rest)) =
        plain same (m ++ extra) (parts ∙ ap (λ (l : List (List ℕ)). l ++ extra) used ∙ append_assoc t.used m extra)
        (λ w holding coming course.
        waits_for reads (sym holding) m extra coming followed packet more (sym rest)
        (subst (λ (c : Passed). IsHardFor d c packet) (sym course) hard))

    by_how : How ends v old → IsAsWithout ends new
    by_how (is_over over) = over_idle over
    by_how (waits_for reads same front extra parts followed packet more there hard) =
        by_packets reads same front extra parts followed packet more there hard v.end.end.carrier.ended refl
        (prefix_or front packet more t.used new.coming (sym there ∙ t.coming))
    by_how (none_comes spent same is) =
        plain same new.coming (sym is ∙ t.coming) (λ w holding coming course. none_comes spent (sym holding) (sym coming))

  pub turn_alone : (ends : Bool) (turn : Turn) (old new : Joint) → TakesTurn turn old new → IsAsWithout ends old → IsAsWithout ends new
  turn_alone ends turn old new t a = by_how ends turn old new t a.deeds a.without a.is a.is.how
