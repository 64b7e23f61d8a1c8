-- Once class 0 is selected at a judge, all connections of an end stand there, calling or called: the one that is open, for which what
-- comes is DTs, and those whose references are gone. So it is as packets begin, and as units of either side pass.
-- For the session of the connection of an end in class 0.
use Rattle.osi_blameless.proofs.Vocabulary.{◌≡◌, ◌≢◌, ◌∙◌, refl, sym, ap, subst, ℕ, ◌^◌, ◌<◌, ◌≤◌, Bool, true, false, List, [], ◌∷◌, ◌++◌}
use Rattle.osi_blameless.proofs.Vocabulary.{length, Option, Some, None, arith, slice_get, append-nil, append_assoc, AllByRecursion}
use Rattle.osi_blameless.proofs.Vocabulary.{Connect, Value, acknowledge, confirm, data0, data2, disconnect, disconnected, error}
use Rattle.osi_blameless.proofs.Vocabulary.{request, is_over, list_all, unlike, eqb-true, ◌==◌, is_refused, differ, unit_parts, Part}
use Rattle.osi_blameless.proofs.Vocabulary.{Class, Two, Zero, Local, Direction, Left, Right, other, State, class_for, takes}
use Rattle.osi_blameless.proofs.Vocabulary.{zero_stays, Deeds, units_in, past, stage_at, Joined, Sessions, spoken}
use Rattle.osi_blameless.proofs.Vocabulary.{Course, packet_begins, unit_passes, units_pass, heard, way_of, Joint, Steps}
use Rattle.osi_blameless.proofs.Vocabulary.{begins_other, begins_own, passes_other, passes_own, amid, calls_from, IsFirm}
use Rattle.osi_carrier.specs.State.{State as Carrier}
use Rattle.osi_rules.specs.declared.directions.Direction.TheVariants as way
use Rattle.osi_blameless.specs.transport.Naming.{unit as passing}
use Rattle.osi_blameless.specs.transport.Wholes as wholes
use Rattle.osi_blameless.proofs.keeping.what_a_taker_passes_over.{IsMild}
use Rattle.osi_blameless.proofs.small_facts_that_many_lemmas_use.{all_join, none_some, same_one, zero_two}
use Rattle.osi_blameless.proofs.standing.a_dt_of_class_0_has_one_place.{IsOnly, is_live_there}
use Rattle.osi_blameless.proofs.coming.a_dt_of_class_0_is_in_flight.{zero_grows, zero_stays as flight_stays}
use Rattle.osi_blameless.proofs.standing.a_dt_of_class_0_leaves_all_standing as in_zero
use Rattle.osi_blameless.proofs.standing.a_dt_of_class_0_leaves_all_standing.{GrowsThere, IsHeardZero, IsZero, told_there}
use Rattle.osi_blameless.proofs.putting.a_turn_does_what_its_deeds_say.{units_more}
use Rattle.osi_blameless.proofs.standing.all_connections_stand.{AllStand, all_begin_other, all_begin_own}
use Rattle.osi_blameless.proofs.transport.requests.one_request_waits.{all_so}
use Rattle.osi_blameless.proofs.in_class_0.class_0_keeps_its_one_place.{HasOne, IsStill, one_begins, one_stays, zero_still}
use Rattle.osi_blameless.proofs.shown.connections_have_the_same_places.{unit_knows}
use Rattle.osi_blameless.proofs.putting.each_reference_of_an_end_is_new.{GoesOn, IsAhead, IsUpTo, IsWithin, begins_other_ahead}
use Rattle.osi_blameless.proofs.putting.each_reference_of_an_end_is_new.{begins_own_ahead, other_up, passes_other_ahead, passes_own_ahead}
use Rattle.osi_blameless.proofs.standing.each_step_leaves_class_0_one_connection.{Sure, is_zero, sure_claim}
use Rattle.osi_blameless.proofs.putting.nothing_is_done_before_a_cr_passes.{is_under_way, may_take}
use Rattle.osi_blameless.proofs.standing.steps_of_either_class_leave_all_standing.{InZero, IsRight, IsTolerable, any_passes_own}
use Rattle.osi_blameless.proofs.in_class_0.units_of_class_0_come_after_its_cc.{InOrder, IsCcFor, IsLater, IsQuiet, order_more}
use Rattle.osi_blameless.proofs.in_class_2.what_is_asked_of_what_holds_at_each_step.{ArePassed, HaveCourses, IsTakenEarly}
use Rattle.osi_blameless.proofs.in_class_2.what_is_asked_of_what_holds_at_each_step.{early as tolerable}
use Rattle.osi_blameless.proofs.standing.what_is_in_flight_to_an_end.{flight_same, known_of}
use Rattle.osi_blameless.proofs.standing.what_passes_leaves_all_standing as in_two
use Rattle.osi_blameless.proofs.standing.what_passes_leaves_all_standing.{IsHeardFirm, cc_broke, goes_on}
use Rattle.osi_blameless.proofs.standing.what_stands_of_a_connection.{Known}
use Rattle.osi_blameless.proofs.in_class_0.what_the_stage_of_a_whole_end_says.{IsDt0, own_is_dt}
use Rattle.osi_blameless.proofs.transport.names.a_reference_names_one_connection.{not_true}

-- ---- what holds

-- what is known of the parts in flight, at each connection
abbrev pub known_in : Carrier → List Value → Known
known_in end coming q later = (0 < q) × known_of (may_take end) coming q later

-- this reference is not asked for and not open any more
abbrev pub IsGone : Carrier → ℕ → Type 0
IsGone end q = (0 < q) × (stage_at q end ≡ past)

-- All connections of an end stand. The one that the judge has open has this reference of the end, and a CC that comes is for that.
pub record AllInZero (d : Direction) (deeds : ℕ → Deeds) (r : ℕ) (end : Carrier) (put : List Value) (begun : Bool) (coming : List Value)
    (c : Course) : Type 0 where
  pub sure : Sure c
  pub class : c.traffic.course.class ≡ Some Zero
  pub all : AllStand d deeds (known_in end coming) put begun c.traffic c.sessions
  pub one : HasOne d r (IsGone end) c.traffic c.sessions
  pub ccs : AllByRecursion (IsCcFor r) coming
  pub order : InOrder coming

-- So it is, and the end has no other connection open.
pub record StandsInZero (d : Direction) (local : Local) (deeds : ℕ → Deeds) (j : Joint) : Type 0 where
  pub ahead : IsAhead d (wholes.begin (calls_from d) local) j
  pub r : ℕ
  pub within : IsWithin ahead.bound r
  pub zero : AllInZero d deeds r j.end.end.carrier j.put j.begun (units_in j.coming) j.judge
  pub amid_is : (q peer : ℕ) → 0 < q → stage_at q j.end.end.carrier ≡ amid peer → q ≡ r
  pub some : j.begun ≡ true → j.put ≢ []

-- ---- small facts

pub past_not : (q : ℕ) (end : Carrier) → stage_at q end ≡ past → may_take end q ≡ false
past_not q end e = ap is_under_way e

-- the connection that is not refused is at the one place
pub place_of_one : (d : Direction) (r : ℕ) (gone : ℕ → Type 0) (s : State) (t : Sessions) (o : IsOnly s) (one : HasOne d r gone s t) →
    o.place ≡ one.place
place_of_one d r gone s t o one = by (o.place == one.place) refl
  where
    by : (b : Bool) → (o.place == one.place) ≡ b → o.place ≡ one.place
    by true e = eqb-true o.place one.place e
    by false e =
        differ (is_refused one.connection.right.phase)
        (o.others one.place one.connection one.there (λ same. unlike o.place one.place e (sym same))) one.up

-- a packet that begins selects no class
pub class_begun : (e : Direction) (c : Course) → (packet_begins e c).traffic.course.class ≡ c.traffic.course.class
class_begun Left c = refl
class_begun Right c = refl

-- no unit of the other side gives a reference of the end
unnamed_so : (d : Direction) (b : ℕ) (v : Value) (c : Course) → IsTakenEarly d v c → IsUpTo d b v
unnamed_so Left b v c k = let right = tolerable Left v c k in grind arith
unnamed_so Right b (confirm n x) c k =
    let right = tolerable Right (confirm n x) c k in
    let judged = k.sure.judged in
    grind (arith, cc_broke, goes_on)
unnamed_so Right b _ c k = tt

pub none_named : (d : Direction) (b at : ℕ) (vs : List Value) (c : Course) → ArePassed Two d at vs c → AllByRecursion (IsUpTo d b) vs
none_named d b at [] c passed = tt
none_named d b at (v ∷ vs) c passed =
    (unnamed_so d b v c passed.0, none_named d b at vs (unit_passes (other d) at v c) passed.1)

-- ---- a unit of the other side

module _ (d : Direction) (deeds : ℕ → Deeds) (r : ℕ) (end : Carrier) (put : List Value) (begun : Bool) (at : ℕ) where
  abbrev Zero_so : List Value → Course → Type 0
  Zero_so coming c = AllInZero d deeds r end put begun coming c

  abbrev after : Value → Course → Course
  after v c = unit_passes (other d) at v c

  pub same_known : (coming : List Value) (v : Value) → unit_parts v ≡ [] → (q : ℕ) (later : List Part) → known_in end coming q later →
      known_in end (coming ++ v ∷ []) q later
  same_known coming v none q later sure = (sure.0, flight_same (may_take end) coming v q later none sure.1)

  module _ (coming : List Value) (v : Value) (c : Course) (h : Zero_so coming c) (right : IsTolerable (other d) v c) where
    later_so : (u : Value) → IsStill (other d) u c.traffic → IsLater u × IsCcFor r u
    later_so u k = grind arith

    -- a unit of class 0 leaves the one connection
    still_zero : IsStill (other d) v c.traffic →
        AllStand d deeds (known_in end (coming ++ v ∷ [])) put begun (after v c).traffic (after v c).sessions →
        Zero_so (coming ++ v ∷ []) (after v c)
    still_zero still all =
        let (later, cc_for) = later_so v still in
        record {
          sure = sure_claim.passes (other d) at v c h.sure;
          class = ap (λ (s : State). s.course.class) (unit_knows (other d) at v c)
              ∙ zero_stays (passing (way_of (other d)) v) c.traffic h.class;
          all = all;
          one = one_stays d (other d) r (IsGone end) at v c h.one h.all.places still;
          ccs = all_join (IsCcFor r) coming (v ∷ []) h.ccs (cc_for, tt);
          order = order_more coming v h.order later;
        }

    -- the other side knows class 0
    module _ (knows : InZero (other d) c) where
      is_z : IsZero (other d) c.traffic
      is_z = is_zero (other d) c.traffic h.sure right.firm right.goes knows

      still : IsStill (other d) v c.traffic
      still = zero_still (other d) c.traffic right.goes knows v right.mild

      -- a DT passes at the one connection
      place_is : (p i : ℕ) (last : Bool) (user : List ℕ) → (takes (way_of (other d)) (data0 last user) c.traffic).told.place ≡ Some p →
          (i ≡ p → ⊥) → i ≡ h.one.place → ⊥
      place_is p i last user told apart same =
          let here : Some is_z.only.place ≡ Some p =
          sym (told_there d (other d) deeds (known_in end coming) put begun last user c.traffic c.sessions h.all is_z) ∙ told in
          apart (same ∙ sym (place_of_one d r (IsGone end) c.traffic c.sessions is_z.only h.one) ∙ same_one is_z.only.place p here)

      grows : (last : Bool) (user : List ℕ) →
          GrowsThere d (known_in end coming) (known_in end (coming ++ data0 last user ∷ [])) last user c.traffic c.sessions
      grows last user = record {
        grows = λ p j place here q later named sure. (sure.0, zero_grows (may_take end) coming last user q later sure.1);
        stays = record {
          live = λ p i j apart place here q later named sure. (
            sure.0,
            flight_stays (may_take end) coming last user q later
                (past_not q end (h.one.others i j q (place_is p i last user place apart) here named).1) sure.1,
          );
          done = λ i j here q later named sure.
              (sure.0, flight_stays (may_take end) coming last user q later (past_not q end (h.one.done i j q here named).1) sure.1);
        };
      }

      heard_so : (u : Value) → IsStill (other d) u c.traffic →
          IsHeardZero d (known_in end coming) (known_in end (coming ++ u ∷ [])) u c.traffic c.sessions
      heard_so (data0 last user) k = grows last user
      heard_so (disconnected n source) k = same_known coming (disconnected n source) refl
      heard_so (error n cause) k = same_known coming (error n cause) refl
      heard_so (request x) k = absurd k
      heard_so (confirm n x) k = absurd k
      heard_so (disconnect n source reason user) k = absurd k
      heard_so (data2 n number last user) k = absurd k
      heard_so (acknowledge credit n number) k = absurd k

      knows_zero : Zero_so (coming ++ v ∷ []) (after v c)
      knows_zero =
          still_zero still
          (in_zero.other_stands d deeds (known_in end coming) (known_in end (coming ++ v ∷ [])) at v put begun c is_z right.mild
          (heard_so v still) h.all)

-- ---- the calling side doesn't know the class yet

-- it sends CRs and DCs
abbrev pub IsAsking : Value → Type 0
IsAsking (request x) = Unit {0}
IsAsking (disconnected n source) = Unit {0}
IsAsking _ = ⊥

pub asking_quiet : (v : Value) → IsAsking v → IsQuiet v
asking_quiet v h = grind arith

module _ (deeds : ℕ → Deeds) (end : Carrier) (put : List Value) (begun : Bool) (at : ℕ) (coming : List Value) (v : Value) (c : Course)
    (right : IsTolerable Left v c) (seen : c.traffic.course.class_seen ≡ None) where
  pub only_asking : IsAsking v
  only_asking = let mild = right.mild in let goes = right.goes in grind arith

  asked_heard : (u : Value) → IsAsking u →
      IsHeardFirm Right (known_in end coming) (known_in end (coming ++ u ∷ [])) u put c.traffic c.sessions
  asked_heard (request x) a = same_known Right deeds 0 end put begun at coming (request x) refl
  asked_heard (disconnected n source) a = same_known Right deeds 0 end put begun at coming (disconnected n source) refl
  asked_heard (confirm n x) a = absurd a
  asked_heard (disconnect n source reason user) a = absurd a
  asked_heard (data0 last user) a = absurd a
  asked_heard (data2 n number last user) a = absurd a
  asked_heard (acknowledge credit n number) a = absurd a
  asked_heard (error n cause) a = absurd a

  pub unseen_stands : AllStand Right deeds (known_in end coming) put begun c.traffic c.sessions →
      AllStand Right deeds (known_in end (coming ++ v ∷ [])) put begun (unit_passes Left at v c).traffic (unit_passes Left at v c).sessions
  unseen_stands all =
      in_two.other_stands_firm Right deeds (known_in end coming) (known_in end (coming ++ v ∷ [])) at v put begun c right.firm right.goes
      (λ e. none_some c.traffic.course.class_seen Zero seen e) right.mild (asked_heard v only_asking) all

  -- while class 0 is selected it is a DC
  module _ (r : ℕ) (h : AllInZero Right deeds r end put begun coming c) (firm : c.traffic.course.right_stopped ≡ false) where
    all_over : (x : Connect) → IsMild (request x) (takes way.Left (request x) c.traffic).told.finding →
        list_all (is_over way.Left) c.traffic.connections ≡ true
    all_over x mild = let goes = right.goes in grind arith

    still_so : (u : Value) → u ≡ v → IsAsking u → IsStill Left u c.traffic
    still_so (disconnected n source) e a = tt
    still_so (request x) e a =
        let z = is_zero Right c.traffic h.sure right.firm firm h.class in
        let mild : IsMild (request x) (takes way.Left (request x) c.traffic).told.finding =
        subst (λ (u : Value). IsMild u (takes way.Left u c.traffic).told.finding) (sym e) right.mild in
        grind (
          arith,
          all_so,
          all_over x mild,
          differ,
          not_true,
          is_live_there c.traffic h.all.judged right.firm h.all.apart z.only way.Left,
        )
    still_so (confirm n x) e a = absurd a
    still_so (disconnect n source reason user) e a = absurd a
    still_so (data0 last user) e a = absurd a
    still_so (data2 n number last user) e a = absurd a
    still_so (acknowledge credit n number) e a = absurd a
    still_so (error n cause) e a = absurd a

    unseen_zero : AllInZero Right deeds r end put begun (coming ++ v ∷ []) (unit_passes Left at v c)
    unseen_zero = still_zero Right deeds r end put begun at coming v c h right (still_so v refl only_asking) (unseen_stands h.all)

-- ---- each unit

-- The called side selects the class, and the calling side learns it later.
pub unit_zero : (d : Direction) (deeds : ℕ → Deeds) (r : ℕ) (end : Carrier) (put : List Value) (begun : Bool) (at : ℕ) (coming : List Value)
    (v : Value) (c : Course) → IsTakenEarly d v c → AllInZero d deeds r end put begun coming c →
    AllInZero d deeds r end put begun (coming ++ v ∷ []) (unit_passes (other d) at v c)
unit_zero Left deeds r end put begun at coming v c k h =
    knows_zero Left deeds r end put begun at coming v c h (tolerable Left v c k) h.class
unit_zero Right deeds r end put begun at coming v c k h = by c.traffic.course.class_seen refl
  where
    right : IsTolerable Left v c
    right = tolerable Right v c k

    by : (o : Option Class) → c.traffic.course.class_seen ≡ o →
        AllInZero Right deeds r end put begun (coming ++ v ∷ []) (unit_passes Left at v c)
    by None seen = unseen_zero deeds end put begun at coming v c right seen r h k.firm.right
    by (Some Zero) seen = knows_zero Right deeds r end put begun at coming v c h right seen
    by (Some Two) seen = absurd (k.not (h.sure.agrees Two seen))

pub units_zero : (d : Direction) (deeds : ℕ → Deeds) (r : ℕ) (end : Carrier) (put : List Value) (begun : Bool) (at : ℕ)
    (vs coming : List Value) (c : Course) → ArePassed Two d at vs c → AllInZero d deeds r end put begun coming c →
    AllInZero d deeds r end put begun (coming ++ vs) (units_pass (other d) at vs c)
units_zero d deeds r end put begun at [] coming c passed h =
    subst (λ (l : List Value). AllInZero d deeds r end put begun l c) (sym (append-nil coming)) h
units_zero d deeds r end put begun at (v ∷ vs) coming c passed h =
    subst (λ (l : List Value). AllInZero d deeds r end put begun l (units_pass (other d) at (v ∷ vs) c)) (append_assoc coming (v ∷ []) vs)
    (units_zero d deeds r end put begun at vs (coming ++ v ∷ []) (unit_passes (other d) at v c) passed.1
    (unit_zero d deeds r end put begun at coming v c passed.0 h))

-- ---- a DT of the end

-- its side knows class 0: it would be a break
knows_own : (d : Direction) (v : Value) (c : Course) → Sure c → c.traffic.course.class ≡ Some Zero → IsDt0 v → IsRight d v c → InZero d c
knows_own d v c sure class dt right = by (class_for (way_of d) c.traffic.course) refl
  where
    by : (o : Option Class) → class_for (way_of d) c.traffic.course ≡ o → InZero d c
    by (Some Zero) is = is
    by (Some Two) is =
        zero_two c.traffic.course.class class (grind (arith, sure))
    by None is = grind (arith, right)

own_zero : (d : Direction) (deeds : ℕ → Deeds) (r : ℕ) (at : ℕ) (v : Value) (old new : Joint) → Steps d (passes_own at v) old new →
    IsDt0 v → IsRight d v old.judge → AllInZero d deeds r old.end.end.carrier old.put old.begun (units_in old.coming) old.judge →
    AllInZero d deeds r new.end.end.carrier new.put new.begun (units_in new.coming) new.judge
own_zero d deeds r at v old new (read, octets, (put, begun, is)) dt right h =
    let mid : Joint = record old { put = new.put; begun = false; judge = units_pass d at (v ∷ []) old.judge } in
    let end = old.end.end.carrier in
    let known = known_in end (units_in old.coming) in
    subst (λ (j : Joint). AllInZero d deeds r j.end.end.carrier j.put j.begun (units_in j.coming) j.judge) (sym is) (record {
      sure = sure_claim.passes d at v old.judge h.sure;
      class = ap (λ (s : State). s.course.class) (unit_knows d at v old.judge)
          ∙ zero_stays (passing (way_of d) v) old.judge.traffic h.class;
      all = (any_passes_own d deeds known at v old mid (read, octets, (put, begun, refl)) h.sure right
          (λ not. absurd (not (knows_own d v old.judge h.sure h.class dt right))) (record { all = h.all })).all;
      one = one_stays d d r (IsGone end) at v old.judge h.one h.all.places (dt_still v dt);
      ccs = h.ccs;
      order = h.order;
    })
  where
    dt_still : (u : Value) → IsDt0 u → IsStill d u old.judge.traffic
    dt_still u k = grind arith

-- ---- each step but a turn

pub within_higher : (b n r : ℕ) → b ≤ n → IsWithin b r → IsWithin n r
within_higher b n r up h = (h.0, (let low = h.1 in omega (arith, low, up)))

module _ (d : Direction) (local : Local) (deeds : ℕ → Deeds) where
  abbrev first : wholes.Whole
  first = wholes.begin (calls_from d) local

  abbrev Stands : Joint → Type 0
  Stands j = StandsInZero d local deeds j

  -- what an end of the same connections has ahead of it
  stands_on : (old new : Joint) (h : Stands old) → GoesOn d first h.ahead.bound new → new.end ≡ old.end →
      AllInZero d deeds h.r new.end.end.carrier new.put new.begun (units_in new.coming) new.judge →
      (new.begun ≡ true → new.put ≢ []) → Stands new
  stands_on old new h g same zero some = record {
    ahead = g.ahead;
    r = h.r;
    within = within_higher h.ahead.bound g.ahead.bound h.r g.rises h.within;
    zero = zero;
    amid_is = grind arith;
    some = some;
  }

  pub zero_own_begins : (old new : Joint) → Steps d begins_own old new → HaveCourses d deeds old →
      ((i : ℕ) (j : Joined) → slice_get old.judge.sessions.live i ≡ Some j → length (heard (spoken (other d) j)) < 2 ^ 64) →
      Stands old → Stands new
  zero_own_begins old new (some, none, is) courses few h =
      let mid : Joint = record old { begun = true; judge = packet_begins d old.judge } in
      let known = known_in old.end.end.carrier (units_in old.coming) in
      let z = h.zero in
      subst Stands (sym is) (stands_on old mid h (begins_own_ahead d first old mid (some, none, refl) h.ahead) refl (record {
        sure = sure_claim.begins d old.judge z.sure;
        class = class_begun d old.judge ∙ z.class;
        all = all_begin_own d deeds known old.put old.end.end old.judge.traffic old.judge.sessions courses few
            (subst (λ (b : Bool). AllStand d deeds known old.put b old.judge.traffic old.judge.sessions) none z.all);
        one = one_begins d d h.r (IsGone old.end.end.carrier) old.judge.traffic old.judge.sessions z.one;
        ccs = z.ccs;
        order = z.order;
      }) (λ begun. some))

  pub zero_other_begins : (old new : Joint) → Steps d begins_other old new → Stands old → Stands new
  zero_other_begins old new is h =
      let mid : Joint = record old { judge = packet_begins (other d) old.judge } in
      let known = known_in old.end.end.carrier (units_in old.coming) in
      let z = h.zero in
      subst Stands (sym is) (stands_on old mid h (begins_other_ahead d first old mid refl h.ahead) refl (record {
        sure = sure_claim.begins (other d) old.judge z.sure;
        class = class_begun (other d) old.judge ∙ z.class;
        all = all_begin_other d deeds known old.put old.begun old.judge.traffic old.judge.sessions z.all;
        one = one_begins d (other d) h.r (IsGone old.end.end.carrier) old.judge.traffic old.judge.sessions z.one;
        ccs = z.ccs;
        order = z.order;
      }) h.some)

  -- a unit of the end is a DT
  pub zero_own_passes : (at : ℕ) (v : Value) (old new : Joint) → Steps d (passes_own at v) old new → IsRight d v old.judge →
      IsFirm old.judge.traffic.course → Stands old → Stands new
  zero_own_passes at v old new step right firm h =
      let dt : IsDt0 v = own_is_dt local d at v old new step h.ahead.followed firm h.zero.class in
      stands_on old new h (passes_own_ahead d first at v old new step h.zero.all.places h.ahead).on
      (ap (λ (j : Joint). j.end) step.2.2) (own_zero d deeds h.r at v old new step dt right h.zero)
      (λ begun. absurd (cc (sym begun ∙ ap (λ (j : Joint). j.begun) step.2.2)))

  pub zero_other_passes : (at : ℕ) (packet : List ℕ) (units : List Value) (old new : Joint) →
      Steps d (passes_other at packet units) old new →
      ArePassed Two d at units old.judge → Stands old → Stands new
  zero_other_passes at packet units old new (octets, read, is) passed h =
      let mid : Joint = record old { judge = units_pass (other d) at units old.judge; coming = old.coming ++ packet ∷ [] } in
      let b = h.ahead.bound in
      let all = units_more old.coming packet units read in
      let end = old.end.end.carrier in
      subst Stands (sym is) (stands_on old mid h
      (passes_other_ahead d first at packet units old mid (octets, read, refl) h.ahead
      (other_up d first at b packet units old mid (octets, read, refl) h.zero.all.places (none_named d b at units old.judge passed)
      h.ahead.below))
      refl
      (subst (λ (l : List Value). AllInZero d deeds h.r end old.put old.begun l mid.judge) all
      (units_zero d deeds h.r end old.put old.begun at units (units_in old.coming) old.judge passed h.zero))
      h.some)
