-- What an end takes in a turn at a connection is the first of what is in flight to it, whether the connection opens in this turn, is open,
-- or is gone: if nothing is for it before the unit with which it opens.
-- For all connections of an end and a judge.
use Rattle.osi_blameless.proofs.Vocabulary.{[], ap, append_assoc, Bool, false, inl, inr, is_some, List, None, Option, refl, Some, subst}
use Rattle.osi_blameless.proofs.Vocabulary.{sym, true, ℕ, ◌++◌, ◌<◌, ◌==◌, ◌∙◌, ◌∷◌, ◌≡◌, append-nil, AllByRecursion, confirm, Connect}
use Rattle.osi_blameless.proofs.Vocabulary.{Value, Part, Carrier, EndReason, amid, early, Life, opens_by, past, Time as Stage, stage_at}
use Rattle.osi_blameless.proofs.Vocabulary.{stage_over, stays, all_units_more, none_mark, Opens, TakesAll, Continues, Deeds, units_in}
use Rattle.osi_blameless.proofs.Vocabulary.{units_taken, all_units, Marked, units_at, Turn, IsNoCc, IsDc, parts_of, picked_join}
use Rattle.osi_blameless.proofs.Vocabulary.{picked_rest, those, those_join, Joint, TakesTurn, arith, AreApart, HasNoDr, WhileOpen}
use Rattle.osi_blameless.proofs.small_facts_that_many_lemmas_use.{all_left}
use Rattle.osi_blameless.proofs.putting.a_turn_does_what_its_deeds_say.{turn_uses}
use Rattle.osi_blameless.proofs.putting.nothing_is_done_before_a_cr_passes.{is_under_way, may_take}
use Rattle.osi_blameless.proofs.coming.what_an_end_takes_at_a_connection.{apart_none, during_taken}
use Rattle.osi_blameless.proofs.standing.what_is_in_flight_to_an_end.{in_flight, in_flight_more, known_of, parts_taken, takes_none}
use Rattle.osi_blameless.proofs.standing.what_stands_of_a_connection.{Takes, is_for, waiting_for}

-- ---- before it opens

-- What is left of a turn at a connection that has not opened: the unit with which it opens is the next, or it does not open and may do so
-- later.
pub data EndsEarly (is_caller : Bool) (r : ℕ) (t : Stage) : List Marked → Type 0 where
  opens_not : t ≡ early → EndsEarly is_caller r t []
  opens_next : (peer : ℕ) (unit : Value) (rest : List Marked) → Opens is_caller r peer unit → EndsEarly is_caller r t ((0, unit) ∷ rest)

-- none of the units before that is for it
abbrev pub AreCalm : Bool → ℕ → Stage → List Marked → Type 0
AreCalm is_caller r t took = (front back : List Marked) → took ≡ front ++ back → EndsEarly is_caller r t back →
    waiting_for (Some r) (all_units front) ≡ []

opening_not : (is_caller : Bool) (r peer : ℕ) (unit : Value) → Opens is_caller r peer unit → is_for (Some r) unit ≡ false
opening_not is_caller r peer unit o = grind arith

no_marks : (r : ℕ) (unit : Value) (some : List Marked) → AreApart r some → (0 == r) ≡ false → AreApart r (some ++ (0, unit) ∷ [])
no_marks r unit [] h zero = (zero, tt)
no_marks r unit (m ∷ some) h zero = (h.0, no_marks r unit some h.1 zero)

never : {A : Type 0} (t : Stage) → t ≡ past → is_under_way t ≡ true → A
never t e h = absurd (let gone : is_under_way t ≡ false = ap is_under_way e in cc)

-- What is left over of the parts for it. Of a front that is clean all of them are, and then what is left over of the others; and while the
-- connection is open, or opens, what comes is clean.
pub record IsFlight (is_caller : Bool) (r : ℕ) (Left : List Value → List Part → Type 0) (IsClean : List Value → Type 0) : Type 0 where
  pub front : (some rest : List Value) (later : List Part) → IsClean some → Left (some ++ rest) later →
      (more : List Part) × (later ≡ in_flight r some ++ more) × Left rest more
  pub join : (some more : List Value) → IsClean some → IsClean more → IsClean (some ++ more)
  pub during : (units : List Marked) → HasNoDr r units → IsClean (all_units units)
  pub opening : (peer : ℕ) (unit : Value) → Opens is_caller r peer unit → IsClean (unit ∷ [])

-- none of the units before it opens is for it, and they are clean
abbrev pub AreReady : Bool → ℕ → (List Value → Type 0) → Stage → List Marked → Type 0
AreReady is_caller r IsClean t took = (front back : List Marked) → took ≡ front ++ back → EndsEarly is_caller r t back →
    (waiting_for (Some r) (all_units front) ≡ []) × IsClean (all_units front)

module _ (is_caller : Bool) (r : ℕ) (zero : (0 == r) ≡ false) (Left : List Value → List Part → Type 0) (IsClean : List Value → Type 0)
    (flight : IsFlight is_caller r Left IsClean) (took put : List Marked) (t : Stage) where
  opened_clean : (peer : ℕ) (unit : Value) (some : List Marked) → Opens is_caller r peer unit → IsClean (all_units some) →
      IsClean (all_units (some ++ (0, unit) ∷ []))
  opened_clean peer unit some o clean = grind (arith, all_units_more)

  opened_parts : (unit : Value) (some rest during after : List Marked) → took ≡ some ++ ((0, unit) ∷ rest) → rest ≡ during ++ after →
      took ≡ (some ++ (0, unit) ∷ []) ++ (during ++ after)
  opened_parts unit some rest during after parts is = grind (arith, append_assoc)

  lasts_so : (peer : ℕ) (later put_later : List Marked) (w : WhileOpen r peer later put_later t) → (t ≡ past → ⊥) → w.after ≡ []
  lasts_so peer later put_later w lasts = grind (arith, amid, past)

  -- if it is not gone after them, all of these units are clean
  open_clean : (before during after : List Marked) → took ≡ before ++ (during ++ after) → IsClean (all_units before) → HasNoDr r during →
      after ≡ [] → IsClean (all_units took)
  open_clean before during after parts clean no_dr none = grind (arith, append-nil, all_units_more)

  pub life_clean : (s : Stage) → Life is_caller r s took put t → (s ≡ early → AreReady is_caller r IsClean t took) →
      (t ≡ past → ⊥) → IsClean (all_units took)
  life_clean past w ready lasts = absurd (lasts w.is)
  life_clean (amid peer) w ready lasts =
      open_clean [] w.during w.after w.took_is (flight.during [] tt) w.no_dr (lasts_so peer took put w lasts)
  life_clean early (stays a b (inr gone)) ready lasts = absurd (lasts gone)
  life_clean early (stays a b (inl still)) ready lasts = (ready refl took [] (sym (append-nil took)) (opens_not still)).1
  life_clean early (opens_by peer unit o some rest none_some parts others answer put_later apart none_answer ans put_so w) ready lasts =
      open_clean (some ++ (0, unit) ∷ []) w.during w.after (opened_parts unit some rest w.during w.after parts w.took_is)
      (opened_clean peer unit some o (ready refl some ((0, unit) ∷ rest) parts (opens_next peer unit rest o)).1) w.no_dr
      (lasts_so peer rest put_later w lasts)

  module _ (is_live : ℕ → Bool) (live_is : is_live r ≡ is_under_way t) (more : Deeds) (later : List Part) (coming : List Value)
      (taken : units_taken more.calls ≡ units_at r took) where
    abbrev Answer : Type 0
    Answer = Takes more later (λ (l : List Part). is_live r ≡ true → Left coming l)

    -- it takes nothing, and is gone
    takes_gone : AreApart r took → t ≡ past → Answer
    takes_gone none e =
        takes_none more (λ (l : List Part). is_live r ≡ true → Left coming l) later (taken ∙ apart_none r took none)
        (λ live. never t e (sym live_is ∙ live))

    -- it takes what is for it of these, the first that had come
    takes_so : (some others : List Value) → units_taken more.calls ≡ waiting_for (Some r) some → IsClean some →
        Left (some ++ others) later → (is_under_way t ≡ true → others ≡ coming) → Answer
    takes_so some others taken_so clean left same =
        let (rest, first, then_left) = flight.front some others later clean left in
        record {
          rest = rest;
          first = first ∙ ap (λ (l : List Part). l ++ rest) (ap parts_of (sym taken_so) ∙ sym (parts_taken more.calls));
          sure = λ live. subst (λ (l : List Value). Left l rest) (same (sym live_is ∙ live)) then_left;
        }

    -- from here on, until it is gone
    takes_open : (before during after : List Marked) → took ≡ before ++ (during ++ after) → AreApart r before → TakesAll r during →
        HasNoDr r during → AreApart r after → waiting_for (Some r) (all_units before) ≡ [] → IsClean (all_units before) →
        Left (all_units took ++ coming) later → ((t ≡ past → ⊥) → after ≡ []) → Answer
    takes_open before during after parts apart all no_dr none_after calm clean left lasts =
        takes_so (all_units before ++ all_units during) (all_units after ++ coming)
        (taken ∙ during_taken r took before during after parts apart all none_after
        ∙ sym (picked_join (is_for (Some r)) (all_units before) (all_units during)
        ∙ ap (λ (l : List Value). l ++ waiting_for (Some r) (all_units during)) calm))
        (flight.join (all_units before) (all_units during) clean (flight.during during no_dr))
        (subst (λ (l : List Value). Left l later) units left)
        (λ live. ap (λ (l : List Marked). all_units l ++ coming) (lasts (λ e. never t e live)))
      where
        units : all_units took ++ coming ≡ (all_units before ++ all_units during) ++ (all_units after ++ coming)
        units =
            ap (λ (l : List Marked). all_units l ++ coming) (parts ∙ sym (append_assoc before during after))
            ∙ ap (λ (l : List Value). l ++ coming) (all_units_more (before ++ during) after)
            ∙ append_assoc (all_units (before ++ during)) (all_units after) coming
            ∙ ap (λ (l : List Value). l ++ (all_units after ++ coming)) (all_units_more before during)

    -- what is left of it is in flight, unless it was gone before
    pub life_takes : (s : Stage) → Life is_caller r s took put t → (s ≡ early → AreReady is_caller r IsClean t took) →
        (is_under_way s ≡ true → Left (all_units took ++ coming) later) → Answer
    life_takes past w ready left = takes_gone w.none_took w.is
    life_takes (amid peer) w ready left =
        takes_open [] w.during w.after w.took_is tt w.takes w.no_dr w.none_after refl (flight.during [] tt) (left refl)
        (lasts_so peer took put w)
    life_takes early (stays a b (inr gone)) ready left = takes_gone a gone
    life_takes early (stays a b (inl still)) ready left =
        let (calm, clean) = ready refl took [] (sym (append-nil took)) (opens_not still) in
        takes_so (all_units took) coming (taken ∙ apart_none r took a ∙ sym calm) clean (left refl) (λ live. refl)
    life_takes early (opens_by peer unit o some rest none_some parts others answer put_later apart none_answer ans put_so w) ready left =
        let (calm, clean) = ready refl some ((0, unit) ∷ rest) parts (opens_next peer unit rest o) in
        takes_open (some ++ (0, unit) ∷ []) w.during w.after (opened_parts unit some rest w.during w.after parts w.took_is)
        (no_marks r unit some none_some zero) w.takes w.no_dr w.none_after
        (ap (waiting_for (Some r)) (all_units_more some ((0, unit) ∷ []))
        ∙ picked_join (is_for (Some r)) (all_units some) (unit ∷ [])
        ∙ (λ i. calm i ++ picked_rest (is_for (Some r)) unit [] (opening_not is_caller r peer unit o) i))
        (opened_clean peer unit some o clean) (left refl) (lasts_so peer rest put_later w)

-- ---- a turn

takes_as : (more : Deeds) (live : Type 0) (Left : List Value → List Part → Type 0) (later : List Part) (some others : List Value) →
    (live → some ≡ others) → Takes more later (λ (l : List Part). live → Left some l) →
    Takes more later (λ (l : List Part). live → Left others l)
takes_as more live Left later some others same h = grind arith

over_past : {A : Type 0} (r : ℕ) (c : Carrier) (reason : EndReason) → c.ended ≡ Some reason → may_take c r ≡ true → A
over_past r c reason over live = never (stage_at r c) (stage_over r c (ap is_some over)) live

-- What is left over of a connection is so as long as it may take more; and what is known of that before a turn is known after it.
module _ (is_caller : Bool) (turn : Turn) (old new : Joint) (t : TakesTurn turn old new) (deeds : ℕ → Deeds)
    (on : Continues is_caller deeds old.end turn new.end) (r : ℕ) (some : 0 < r) (Left : List Value → List Part → Type 0)
    (IsClean : List Value → Type 0) (flight : IsFlight is_caller r Left IsClean)
    (life : Life is_caller r (stage_at r old.end.end.carrier) on.took on.put (stage_at r new.end.end.carrier))
    (ready : stage_at r old.end.end.carrier ≡ early →
    AreReady is_caller r IsClean (stage_at r new.end.end.carrier) on.took) where
  abbrev IsLive : Type 0
  IsLive = may_take new.end.end.carrier r ≡ true

  takes_with : (later : List Part) (coming : List Value) →
      (may_take old.end.end.carrier r ≡ true → Left (all_units on.took ++ coming) later) →
      Takes (on.more r) later (λ (l : List Part). IsLive → Left coming l)
  takes_with later coming left =
      life_takes is_caller r (none_mark r some) Left IsClean flight on.took on.put (stage_at r new.end.end.carrier)
      (may_take new.end.end.carrier) refl (on.more r) later coming (on.taken r some) (stage_at r old.end.end.carrier) life ready
      left

  pub turn_takes_by : (later : List Part) → (may_take old.end.end.carrier r ≡ true → Left (units_in old.coming) later) →
      Takes (on.more r) later (λ (l : List Part). IsLive → Left (units_in new.coming) l)
  turn_takes_by later sure = by old.end.end.carrier.ended refl
    where
      by : (o : Option EndReason) → old.end.end.carrier.ended ≡ o →
          Takes (on.more r) later (λ (l : List Part). IsLive → Left (units_in new.coming) l)
      by None lasts =
          let s = turn_uses turn old new t is_caller deeds on lasts in
          takes_as (on.more r) IsLive Left later (s.left ++ units_in new.coming) (units_in new.coming)
          (grind (arith, over_past))
          (takes_with later (s.left ++ units_in new.coming) (λ live. subst (λ (l : List Value). Left l later) s.coming (sure live)))
      by (Some reason) over =
          takes_with later (units_in new.coming) (λ live. over_past r old.end.end.carrier reason over live)

  -- and if it may take more, all that the end used is clean
  pub turn_clean : IsLive → IsClean (all_units on.took)
  turn_clean live =
      life_clean is_caller r (none_mark r some) Left IsClean flight on.took on.put (stage_at r new.end.end.carrier)
      (stage_at r old.end.end.carrier) life ready (λ gone. never (stage_at r new.end.end.carrier) gone live)

-- ---- all that is in flight

exact : (is_caller : Bool) (r : ℕ) → IsFlight is_caller r (λ (coming : List Value) (later : List Part). later ≡ in_flight r coming)
    (λ (units : List Value). Unit {0})
exact is_caller r = record {
  front = λ some rest later clean is. (in_flight r rest, is ∙ in_flight_more r some rest, refl);
  join = λ some more a b. tt;
  during = λ units none. tt;
  opening = λ peer unit o. tt;
}

pub turn_takes : (is_caller : Bool) (turn : Turn) (old new : Joint) (t : TakesTurn turn old new) (deeds : ℕ → Deeds)
    (on : Continues is_caller deeds old.end turn new.end) (r : ℕ) → 0 < r →
    Life is_caller r (stage_at r old.end.end.carrier) on.took on.put (stage_at r new.end.end.carrier) →
    (stage_at r old.end.end.carrier ≡ early → AreCalm is_caller r (stage_at r new.end.end.carrier) on.took) → (later : List Part) →
    known_of (may_take old.end.end.carrier) (units_in old.coming) r later →
    Takes (on.more r) later (known_of (may_take new.end.end.carrier) (units_in new.coming) r)
turn_takes is_caller turn old new t deeds on r some life calm later sure = search (arith, turn_takes_by, in_flight, exact is_caller r)

-- ---- the CC of a calling end

cc_in : {A : Type 0} (r : ℕ) (y : Connect) (vs rest : List Value) → AllByRecursion IsNoCc (vs ++ confirm r y ∷ rest) → A
cc_in r y [] rest h = absurd (h.0 r y refl)
cc_in r y (u ∷ vs) rest h = cc_in r y vs rest h.1

-- DCs, a CC, and no other CC: before a CC only DCs come
pub dcs_before : (r : ℕ) (x y : Connect) (front rest firsts later : List Value) →
    front ++ confirm r y ∷ rest ≡ firsts ++ confirm r x ∷ later →
    AllByRecursion IsDc firsts → AllByRecursion IsNoCc later → AllByRecursion IsDc front
dcs_before r x y [] rest firsts later e dcs calm = tt
dcs_before r x y (v ∷ front) rest [] later e dcs calm =
    let same : front ++ confirm r y ∷ rest ≡ later = cc in
    cc_in r y front rest (subst (AllByRecursion IsNoCc) (sym same) calm)
dcs_before r x y (v ∷ front) rest (d ∷ firsts) later e dcs calm =
    let one : d ≡ v = cc in
    let more : front ++ confirm r y ∷ rest ≡ firsts ++ confirm r x ∷ later = cc in
    (subst IsDc one dcs.0, dcs_before r x y front rest firsts later more dcs.1 calm)

-- So of the units before it, those that come for the connection are DCs: what comes for it is DCs, its CC, and then no other CC.
pub dcs_first : (r : ℕ) (x y : Connect) (front coming firsts later dcs rest : List Value) →
    those r (front ++ coming) ≡ firsts ++ confirm r x ∷ later → AllByRecursion IsDc firsts → AllByRecursion IsNoCc later →
    those r coming ≡ dcs ++ confirm r y ∷ rest → AllByRecursion IsDc (those r front)
dcs_first r x y front coming firsts later dcs rest is some calm there =
    grind (arith, all_left, dcs_before, those r front, append_assoc (those r front) dcs (confirm r y ∷ rest), those_join r front coming)
