-- What passes of class 2 leaves all connections of an end standing at a judge: a unit of the end that is no break, and one of the other
-- side after which a connection may have lost its judgement. For the session of each connection of an end.
use Rattle.osi_blameless.proofs.Vocabulary.{◌≡◌, ◌∙◌, arith, refl, sym, subst, ℕ, Bool, true, false, if◌then◌else◌, List, [], ◌∷◌, ◌++◌}
use Rattle.osi_blameless.proofs.Vocabulary.{Option, Some, None, inr, slice_get, Connect, Value, acknowledge, confirm, data0, data2}
use Rattle.osi_blameless.proofs.Vocabulary.{disconnect, disconnected, error, request, parts_in, Part, Class, Two, Zero, other, Direction}
use Rattle.osi_blameless.proofs.Vocabulary.{Left, Right, Connection, Finding, NotJudged, Reach, is_applied, reach_of, acknowledge_tests}
use Rattle.osi_blameless.proofs.Vocabulary.{first_failed, Outcome, State, at_place, class_for, found_on, is_stopped, none_told, route}
use Rattle.osi_blameless.proofs.Vocabulary.{route_in, routed, takes, unnamed_by, AreJudged, Deeds, Joined, Sessions, Course, unit_passes}
use Rattle.osi_blameless.proofs.Vocabulary.{way_of, differ}
use Rattle.osi_rules.specs.declared.directions.Direction.{Direction as Way}
use Rattle.osi_rules.specs.declared.directions.Direction.TheVariants as way
use Rattle.osi_rules.specs.declared.findings.Reach.TheVariants as reach
use Rattle.osi_rules.specs.declared.findings.Rule.TheVariants as rule
use Rattle.osi_blameless.proofs.keeping.a_break_ends_no_judging_or_all.{takes_reach}
use Rattle.osi_blameless.proofs.keeping.no_unit_of_a_whole_end_is_a_break.{IsNoBreak}
use Rattle.osi_blameless.proofs.keeping.what_a_taker_passes_over.{IsMild, applied_of, mild_of, mild_reach}
use Rattle.osi_blameless.proofs.shown.a_dt_that_is_no_break_is_right.{IsClear, clear_any, clear_tests, dt_clear, found_two}
use Rattle.osi_blameless.proofs.shown.a_right_dt_has_one_place.{AreUsedApart, judged_apart, never_unnamed}
use Rattle.osi_blameless.proofs.standing.all_connections_stand.{AllStand, Leaves, Loses, all_after, like_same, other_plain}
use Rattle.osi_blameless.proofs.standing.ccs_and_crs_leave_all_standing.{other_cc, own_cc, own_cr}
use Rattle.osi_blameless.proofs.shown.connections_have_the_same_places.{unit_joins, unit_knows}
use Rattle.osi_blameless.proofs.standing.right_units_leave_all_standing.{IsLink, StaysElsewhere, StaysThere, ak, dt, other_close}
use Rattle.osi_blameless.proofs.standing.right_units_leave_all_standing.{other_close_if, other_dt, own_ack, own_close, own_close_if, own_dt}
use Rattle.osi_blameless.proofs.standing.right_units_leave_all_standing.{rests_on}
use Rattle.osi_blameless.proofs.standing.what_stands_of_a_connection.{Known, waiting_for, stands_other_none, unnamed}
use Rattle.osi_blameless.proofs.transport.names.names_stay_apart_though_one_is_lost.{applied_ends_none as applied_reach}

-- ---- what is no break

-- an AK
ack_tests_clear : (d : Way) (c : Connection) (number credit : ℕ) → IsClear (first_failed (acknowledge_tests d c number credit))
ack_tests_clear d c number credit = grind (arith, clear_tests)

nowhere_ack : (b : Bool) (credit n number : ℕ) → IsClear (unnamed_by b (acknowledge credit n number))
nowhere_ack b credit n number = grind arith

routed_ack : (k : Option Class) (d : Way) (b : Bool) (credit n number : ℕ) (s : State) → s.course.loose ≡ false → AreJudged s →
    IsClear (routed d (acknowledge credit n number) s (route_in k d b (acknowledge credit n number))).told.finding
routed_ack None way.Left b credit n number s firm judged = inr (rule.UnexpectedUnit, refl)
routed_ack None way.Right b credit n number s firm judged = inr (rule.UnexpectedUnit, refl)
routed_ack (Some Zero) way.Left b credit n number s firm judged = inr (rule.WrongForm, refl)
routed_ack (Some Zero) way.Right b credit n number s firm judged = inr (rule.WrongForm, refl)
routed_ack (Some Two) way.Left b credit n number s firm judged = search (arith, clear_any, nowhere_ack, ack_tests_clear)
routed_ack (Some Two) way.Right b credit n number s firm judged = search (arith, clear_any, nowhere_ack, ack_tests_clear)

pub ack_clear : (d : Way) (credit n number : ℕ) (s : State) → is_stopped d s.course ≡ false → s.course.loose ≡ false → AreJudged s →
    IsClear (takes d (acknowledge credit n number) s).told.finding
ack_clear d credit n number s goes firm judged = grind (arith, routed_ack)

-- a DT of class 0 is a break in class 2, and before a class is known
pub zero_broke : {A : Type 0} (k : Option Class) (d : Way) (b : Bool) (end : Bool) (user : List ℕ) (s : State) → (k ≡ Some Zero → ⊥) →
    IsMild (data0 end user) (routed d (data0 end user) s (route_in k d b (data0 end user))).told.finding → A
zero_broke k d b end user s two none = grind arith

-- a CR of right
cr_broke : {A : Type 0} (k : Option Class) (b : Bool) (x : Connect) (s : State) →
    IsMild (request x) (routed way.Right (request x) s (route_in k way.Right b (request x))).told.finding → A
cr_broke k b x s none = grind arith

pub cc_broke : {A : Type 0} (k : Option Class) (b : Bool) (n : ℕ) (x : Connect) (s : State) → s.course.loose ≡ false → AreJudged s →
    IsMild (confirm n x) (routed way.Left (confirm n x) s (route_in k way.Left b (confirm n x))).told.finding → A
cc_broke k b n x s firm judged none = grind arith

pub goes_on : (v : Value) (b : Bool) (d : Way) (s : State) (o : Outcome) → b ≡ false →
    IsMild v (if b then none_told d NotJudged s else o).told.finding →
    IsMild v o.told.finding
goes_on v b d s o h none = grind arith

zero_ends : {A : Type 0} (k : Option Class) (d : Way) (b : Bool) (end : Bool) (user : List ℕ) (s : State) → class_for d s.course ≡ k →
    (k ≡ Some Zero → ⊥) → ((routed d (data0 end user) s (route_in k d b (data0 end user))).told.reach ≡ reach.Everything → ⊥) → A
zero_ends k d b end user s is two on = grind arith

-- a DT of class 0 ends it outside class 0
pub no_zero : {A : Type 0} (d : Way) (end : Bool) (user : List ℕ) (s : State) → is_stopped d s.course ≡ false →
    (class_for d s.course ≡ Some Zero → ⊥) → ((takes d (data0 end user) s).told.reach ≡ reach.Everything → ⊥) → A
no_zero d end user s goes two on = grind (arith, zero_ends)

-- and so does a CR of right
pub no_request : {A : Type 0} (x : Connect) (s : State) → is_stopped way.Right s.course ≡ false →
    (class_for way.Right s.course ≡ Some Zero → ⊥) → ((takes way.Right (request x) s).told.reach ≡ reach.Everything → ⊥) → A
no_request x s goes two on = grind arith

-- a CC of left has no effect
pub cc_idle : (s : State) (n : ℕ) (x : Connect) (c : Connection) → is_applied (found_on way.Left s c (confirm n x)) ≡ false
cc_idle s n x c = grind arith

cc_placed : {A : Type 0} (n : ℕ) (x : Connect) (s : State) (o : Option ℕ) →
    is_applied (at_place way.Left (confirm n x) s o).told.finding ≡ true → A
cc_placed n x s o h = grind (arith, never_unnamed)

pub applied_goes : {A : Type 0} (d : Way) (v : Value) (s : State) (r : Reach) → is_applied (takes d v s).told.finding ≡ true →
    (reach.Nothing ≡ r → ⊥) → (takes d v s).told.reach ≡ r → A
applied_goes d v s r h not is = grind (arith, applied_reach, takes_reach)

-- ---- a unit of the end

-- Before a CR passes nothing is done at its connection. What waits after a CC is all that was put there, and nothing was taken.
abbrev pub IsReady : Direction → (ℕ → Deeds) → Known → Value → (rest : List Value) → State → Sessions → Type 0
IsReady Left deeds known (request x) rest s t = ((deeds x.source).put ≡ []) × (parts_in (deeds x.source).calls ≡ []) × known x.source []
IsReady Right deeds known (confirm n x) rest s t =
    ((p : ℕ) (j : Joined) → (takes way.Right (confirm n x) s).told.place ≡ Some p → slice_get t.live p ≡ Some j →
    (deeds x.source).put ≡ waiting_for (Some j.calling) rest) × (parts_in (deeds x.source).calls ≡ []) × known x.source []
IsReady d deeds known v rest s t = Unit {0}

dt_kept : (d : Way) (n number : ℕ) (end : Bool) (user : List ℕ) (s : State) (c : Connection) → c.is_judged ≡ true →
    IsNoBreak (found_on d s c (data2 n number end user)) → is_applied (found_on d s c (data2 n number end user)) ≡ true
dt_kept d n number end user s c judged none = grind (arith, found_two)

ak_kept : (d : Way) (credit n number : ℕ) (s : State) (c : Connection) → c.is_judged ≡ true →
    IsNoBreak (found_on d s c (acknowledge credit n number)) → is_applied (found_on d s c (acknowledge credit n number)) ≡ true
ak_kept d credit n number s c judged none = grind arith

-- all judging ends with no DT or AK
abbrev pub LinksGoOn : Direction → Value → State → Type 0
LinksGoOn d v s = (n : ℕ) → IsLink v n → (takes (way_of d) v s).told.reach ≡ reach.Everything → ⊥

module _ (deeds : ℕ → Deeds) (known : Known) (at : ℕ) (rest : List Value) (s : State) (t : Sessions) where
  abbrev pub OwnGoes : Direction → Value → Type 0
  OwnGoes d v = AreUsedApart d s.connections → is_stopped (way_of d) s.course ≡ false → (class_for (way_of d) s.course ≡ Some Zero → ⊥) →
      IsNoBreak (takes (way_of d) v s).told.finding → LinksGoOn d v s → IsReady d deeds known v rest s t →
      AllStand d deeds known (v ∷ rest) true s t → Leaves d deeds known known (v ∷ rest) rest true false d at v s t

  abbrev under : Way → Value → Outcome
  under d v = routed d v s (route d s.course v)

  own_goes : (d : Direction) (v : Value) → OwnGoes d v
  own_goes d (data2 n number end user) apart goes two none on ready a =
      own_dt d deeds known at rest s t apart goes two n number end user a
      (λ c finding judged. dt_kept (way_of d) n number end user s c judged (subst IsNoBreak finding none))
      (on n (dt number end user refl))
  own_goes d (acknowledge credit n number) apart goes two none on ready a =
      own_ack d deeds known at rest s t apart goes two credit n number a
      (λ c finding judged. ak_kept (way_of d) credit n number s c judged (subst IsNoBreak finding none))
      (on n (ak credit number refl))
  own_goes d (data0 end user) apart goes two none on ready a = grind (arith, zero_broke, goes_on, mild_of)
  own_goes d (disconnect n source reason user) apart goes two none on ready a = grind (arith, own_close)
  own_goes d (disconnected n source) apart goes two none on ready a = grind (arith, own_close)
  own_goes d (error n cause) apart goes two none on ready a = grind (arith, own_close)
  own_goes Left (request x) apart goes two none on ready a = own_cr deeds known at x rest s t ready.0 ready.1 ready.2
  own_goes Right (request x) apart goes two none on ready a = grind (arith, cr_broke, goes_on, mild_of)
  own_goes Right (confirm n x) apart goes two none on ready a = own_cc deeds known at n x rest s t ready.0 ready.1 ready.2 a
  own_goes Left (confirm n x) apart goes two none on ready a = grind (arith, own_close_if, cc_idle)

no_part : (k : Option Class) (f : Finding) → IsNoBreak f → reach_of k f ≡ reach.Connection → ⊥
no_part k f none h = grind arith

own_loses : (d : Direction) (v : Value) (s : State) (t : Sessions) → IsNoBreak (takes (way_of d) v s).told.finding → Loses d d v s t
own_loses d v s t none p c j place there here one judged far = grind (arith, no_part, takes_reach)

pub own_stands : (d : Direction) (deeds : ℕ → Deeds) (known : Known) (at : ℕ) (v : Value) (rest : List Value) (c : Course) →
    AreUsedApart d c.traffic.connections → is_stopped (way_of d) c.traffic.course ≡ false →
    (class_for (way_of d) c.traffic.course ≡ Some Zero → ⊥) → IsNoBreak (takes (way_of d) v c.traffic).told.finding →
    LinksGoOn d v c.traffic → IsReady d deeds known v rest c.traffic c.sessions →
    AllStand d deeds known (v ∷ rest) true c.traffic c.sessions →
    AllStand d deeds known rest false (unit_passes d at v c).traffic (unit_passes d at v c).sessions
own_stands d deeds known at v rest c apart goes two none on ready a = search (arith, unit_knows, unit_joins, all_after, own_goes, own_loses)

-- while each connection is judged, such a unit is right
pub firm_links : (d : Direction) (v : Value) (s : State) → s.course.loose ≡ false → AreJudged s → is_stopped (way_of d) s.course ≡ false →
    IsNoBreak (takes (way_of d) v s).told.finding → LinksGoOn d v s
firm_links d v s firm judged goes none n (dt number end user is) far =
    grind (arith, applied_goes, dt_clear (way_of d) (data2 n number end user) end s refl goes firm judged)
firm_links d v s firm judged goes none n (ak credit number is) far =
    grind (arith, applied_goes, ack_clear (way_of d) credit n number s goes firm judged)

pub own_stands_firm : (d : Direction) (deeds : ℕ → Deeds) (known : Known) (at : ℕ) (v : Value) (rest : List Value) (c : Course) →
    c.traffic.course.loose ≡ false → is_stopped (way_of d) c.traffic.course ≡ false → (class_for
    (way_of d) c.traffic.course ≡ Some Zero → ⊥) →
    IsNoBreak (takes (way_of d) v c.traffic).told.finding → IsReady d deeds known v rest c.traffic c.sessions →
    AllStand d deeds known (v ∷ rest) true c.traffic c.sessions →
    AllStand d deeds known rest false (unit_passes d at v c).traffic (unit_passes d at v c).sessions
own_stands_firm d deeds known at v rest c firm goes two none ready a =
    own_stands d deeds known at v rest c (judged_apart d c.traffic.connections a.apart (a.judged firm)) goes two none
    (firm_links d v c.traffic firm a.judged goes none) ready a

-- ---- a unit of the other side

-- What is known of the parts in flight grows by a DT at its connection alone, if it has its effect. A CC gives a reference for which no
-- unit of the end waits.
abbrev pub IsHeard : Direction → Known → Known → Value → (put : List Value) → State → Sessions → Type 0
IsHeard d known then_known (data2 n number end user) put s t =
    ((later : List Part) → known n later → then_known n (later ++ (end, user) ∷ [])) × StaysElsewhere d known then_known
    (data2 n number end user) s t × StaysThere d known then_known (data2 n number end user) s t
IsHeard Left known then_known (confirm n x) put s t =
    (is_applied (takes way.Right (confirm n x) s).told.finding ≡ true → waiting_for (Some x.source) put ≡ [])
    × ((r : ℕ) (later : List Part) → known r later → then_known r later)
IsHeard d known then_known v put s t = (r : ℕ) (later : List Part) → known r later → then_known r later

-- of these units it is asked that all judging does not end with them
abbrev pub AllGoesOn : Value → Direction → State → Type 0
AllGoesOn (data2 n number end user) d s = (takes (way_of (other d)) (data2 n number end user) s).told.reach ≡ reach.Everything → ⊥
AllGoesOn (data0 end user) d s = (takes (way_of (other d)) (data0 end user) s).told.reach ≡ reach.Everything → ⊥
AllGoesOn (request x) Left s = (takes way.Right (request x) s).told.reach ≡ reach.Everything → ⊥
AllGoesOn (request x) Right s = Unit {0}
AllGoesOn (confirm n x) Left s = Unit {0}
AllGoesOn (confirm n x) Right s = (takes way.Left (confirm n x) s).told.reach ≡ reach.Everything → ⊥
AllGoesOn (acknowledge credit n number) d s =
    (takes (way_of (other d)) (acknowledge credit n number) s).told.reach ≡ reach.Everything → ⊥
AllGoesOn v d s = Unit {0}

module _ (deeds : ℕ → Deeds) (known then_known : Known) (at : ℕ) (put : List Value) (b : Bool) (s : State) (t : Sessions) where
  abbrev pub OtherGoes : Direction → Value → Type 0
  OtherGoes d v = is_stopped (way_of (other d)) s.course ≡ false → (class_for (way_of (other d)) s.course ≡ Some Zero → ⊥) →
      AllGoesOn v d s → IsHeard d known then_known v put s t → AllStand d deeds known put b s t →
      Leaves d deeds known then_known put put b b (other d) at v s t

  other_goes : (d : Direction) (v : Value) → OtherGoes d v
  other_goes d (data2 n number end user) goes two on heard a = search (arith, other_dt)
  other_goes d (acknowledge credit n number) goes two on heard a = grind (arith, other_close)
  other_goes d (data0 end user) goes two on heard a = grind (arith, no_zero)
  other_goes d (disconnect n source reason user) goes two on heard a = grind (arith, other_close)
  other_goes d (disconnected n source) goes two on heard a = grind (arith, other_close)
  other_goes d (error n cause) goes two on heard a = grind (arith, other_close)
  other_goes Right (request x) goes two on heard a = search (arith, stands_other_none, like_same, other_plain, unnamed, rests_on)
  other_goes Left (request x) goes two on heard a = no_request x s goes two on
  other_goes Left (confirm n x) goes two on heard a = other_cc deeds known then_known at n x put b s t heard.0 heard.1
  other_goes Right (confirm n x) goes two on heard a = grind (arith, other_close_if, cc_idle)

pub other_stands : (d : Direction) (deeds : ℕ → Deeds) (known then_known : Known) (at : ℕ) (v : Value) (put : List Value) (b : Bool)
    (c : Course) → is_stopped (way_of (other d)) c.traffic.course ≡ false →
    (class_for (way_of (other d)) c.traffic.course ≡ Some Zero → ⊥) → AllGoesOn v d c.traffic →
    IsHeard d known then_known v put c.traffic c.sessions → Loses d (other d) v c.traffic c.sessions →
    AllStand d deeds known put b c.traffic c.sessions →
    AllStand d deeds then_known put b (unit_passes (other d) at v c).traffic (unit_passes (other d) at v c).sessions
other_stands d deeds known then_known at v put b c goes two on heard loses a = search (arith, unit_knows, unit_joins, all_after, other_goes)

-- ---- the same of one that is no break, or a break that is passed over, while each connection is judged

abbrev pub IsHeardFirm : Direction → Known → Known → Value → (put : List Value) → State → Sessions → Type 0
IsHeardFirm d known then_known (data2 n number end user) put s t =
    ((later : List Part) → known n later → then_known n (later ++ (end, user) ∷ [])) × StaysElsewhere d known then_known
    (data2 n number end user) s t
IsHeardFirm d known then_known (confirm n x) put s t =
    (waiting_for (Some x.source) put ≡ []) × ((r : ℕ) (later : List Part) → known r later → then_known r later)
IsHeardFirm d known then_known v put s t = (r : ℕ) (later : List Part) → known r later → then_known r later

-- its finding ends no judging of one connection
mild_part : (v : Value) (k : Option Class) (f : Finding) → IsMild v f → reach_of k f ≡ reach.Connection → ⊥
mild_part v k f mild h = grind (arith, mild_reach)

pub mild_stays : (d : Direction) (v : Value) (s : State) → IsMild v (takes (way_of d) v s).told.finding →
    (takes (way_of d) v s).told.reach ≡ reach.Connection → ⊥
mild_stays d v s mild far =
    mild_part v (class_for (way_of d) s.course) (takes (way_of d) v s).told.finding mild (sym (takes_reach (way_of d) v s).far ∙ far)

mild_loses : (d : Direction) (v : Value) (s : State) (t : Sessions) → IsMild v (takes (way_of (other d)) v s).told.finding →
    Loses d (other d) v s t
mild_loses d v s t mild p c j place there here one judged far = absurd (mild_stays (other d) v s mild far)

module _ (d : Direction) (known then_known : Known) (put : List Value) (s : State) (t : Sessions) (firm : s.course.loose ≡ false)
    (judged : AreJudged s) (goes : is_stopped (way_of (other d)) s.course ≡ false)
    (two : class_for (way_of (other d)) s.course ≡ Some Zero → ⊥) where
  heard_firm : (v : Value) → IsMild v (takes (way_of (other d)) v s).told.finding → IsHeardFirm d known then_known v put s t →
      IsHeard d known then_known v put s t
  heard_firm v mild h = search (arith, differ)

  -- all judging goes on with those of which that is asked
  pub firm_goes : (v : Value) → IsMild v (takes (way_of (other d)) v s).told.finding → AllGoesOn v d s
  firm_goes (data2 n number end user) mild =
      applied_goes (way_of (other d)) (data2 n number end user) s reach.Everything (grind (arith, applied_of, dt_clear)) (λ e. cc e)
  firm_goes (data0 end user) mild = grind (arith, zero_broke, goes_on)
  firm_goes (request x) mild = grind (arith, cr_broke, goes_on)
  firm_goes (confirm n x) mild = grind (arith, cc_broke, goes_on)
  firm_goes (disconnect n source reason user) mild = tt
  firm_goes (disconnected n source) mild = tt
  firm_goes (acknowledge credit n number) mild = grind (arith, applied_goes, applied_of, ack_clear)
  firm_goes (error n cause) mild = tt

pub other_stands_firm : (d : Direction) (deeds : ℕ → Deeds) (known then_known : Known) (at : ℕ) (v : Value) (put : List Value) (b : Bool)
    (c : Course) →
    c.traffic.course.loose ≡ false → is_stopped (way_of (other d)) c.traffic.course ≡ false →
    (class_for (way_of (other d)) c.traffic.course ≡ Some Zero → ⊥) → IsMild v (takes (way_of (other d)) v c.traffic).told.finding →
    IsHeardFirm d known then_known v put c.traffic c.sessions → AllStand d deeds known put b c.traffic c.sessions →
    AllStand d deeds then_known put b (unit_passes (other d) at v c).traffic (unit_passes (other d) at v c).sessions
other_stands_firm d deeds known then_known at v put b c firm goes two mild heard a =
    search (arith, other_stands, firm_goes, heard_firm, mild_loses)
