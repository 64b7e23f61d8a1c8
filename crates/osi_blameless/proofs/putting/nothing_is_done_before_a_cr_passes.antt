-- Nothing is done at a connection of a calling end before its CR has passed; and then the CR may pass.
-- For all connections of an end and a judge.
use Rattle.osi_blameless.proofs.Vocabulary.{◌≡◌, ◌∙◌, refl, sym, ap, subst, ℕ, ◌<◌, ◌≤◌, Bool, true, false, List, [], ◌∷◌, ◌++◌, Option}
use Rattle.osi_blameless.proofs.Vocabulary.{Some, None, arith, inl, inr, is_some, ◌⊎◌, le-leb, lt-ltb, AllByRecursion, Connect}
use Rattle.osi_blameless.proofs.Vocabulary.{Value, acknowledge, confirm, data0, data2, destination_of, disconnect, disconnected, error}
use Rattle.osi_blameless.proofs.Vocabulary.{request, Local, EndReason, Left, State, Whole, AreGiven, Followed, IsAnswer, IsAsking, Tracked}
use Rattle.osi_blameless.proofs.Vocabulary.{IsDc, is_dc, first_kept, first_left, names, picked_rest, those, Opens}
use Rattle.osi_blameless.proofs.Vocabulary.{Deeds, then_did, units_in, units_taken, Marked, all_units, units_at, Turn, Life, amid, early}
use Rattle.osi_blameless.proofs.Vocabulary.{opens_by, past, stage_at, stage_over, stays, asked_so, taken_more, has_given, Sessions, Joint}
use Rattle.osi_blameless.proofs.Vocabulary.{TakesTurn, HaveSamePlaces}
use Rattle.osi_carrier.specs.State.{State as Carrier}
use Rattle.osi_blameless.proofs.ends.links.how_long_a_connection_is_open.{Stage}
use Rattle.osi_blameless.proofs.keeping.a_carrier_does_events.{none_of}
use Rattle.osi_blameless.proofs.keeping.steps_are_events.{whole_of, IsFollowed}
use Rattle.osi_blameless.proofs.putting.a_turn_does_what_its_deeds_say.{turn_uses}
use Rattle.osi_blameless.proofs.shown.connections_have_the_same_places.{at_same}
use Rattle.osi_blameless.proofs.putting.each_reference_of_an_end_is_new.{AreUpTo}
use Rattle.osi_blameless.proofs.standing.what_is_in_flight_to_an_end.{parts_taken}
use Rattle.osi_blameless.proofs.standing.what_is_left_for_an_end.{known_left, left_empty}
use Rattle.osi_blameless.proofs.standing.what_passes_leaves_all_standing.{IsReady}
use Rattle.osi_blameless.proofs.standing.what_stands_of_a_connection.{Known, is_for, waiting_for}
use Rattle.osi_blameless.proofs.small_facts_that_many_lemmas_use.{all_left}
use Rattle.osi_blameless.proofs.steps.what_the_turns_among_steps_do.{TurnDoes}
pub use Rattle.osi_blameless.proofs.ends.links.the_first_cc_opens_a_connection.{IsNotCc}
use Rattle.osi_blameless.proofs.Vocabulary.{AreApart}

pub apart_none : (r : ℕ) (units : List Marked) → AreApart r units → units_at r units ≡ []
apart_none r [] h = refl
apart_none r (m ∷ units) h = grind (arith, apart_none r units h.1)

-- ---- one connection

-- nothing was put or taken there, and it is not open
pub record IsUndone (deeds : Deeds) (s : Stage) : Type 0 where
  pub put : deeds.put ≡ []
  pub taken : units_taken deeds.calls ≡ []
  pub shut : (peer : ℕ) → s ≡ amid peer → ⊥

-- a CC for it among the units
cc_among : {A : Type 0} (r : ℕ) (some later : List Marked) (unit : Value) (x : Connect) → unit ≡ confirm r x →
    AllByRecursion (IsNotCc r) (all_units (some ++ (0, unit) ∷ later)) → A
cc_among r [] later unit x is h = absurd (h.0 x is)
cc_among r (m ∷ some) later unit x is h = cc_among r some later unit x is h.1

opens_not : {A : Type 0} (r peer : ℕ) (unit : Value) (some later : List Marked) → Opens true r peer unit →
    AllByRecursion (IsNotCc r) (all_units (some ++ (0, unit) ∷ later)) → A
opens_not r peer (confirm n x) some later o h = cc_among r some later (confirm n x) x (ap (λ (m : ℕ). confirm m x) o.0) h
opens_not r peer (request x) some later o h = absurd (cc o.0)
opens_not r peer (disconnect n source reason user) some later o h = absurd o
opens_not r peer (disconnected n source) some later o h = absurd o
opens_not r peer (data0 end user) some later o h = absurd o
opens_not r peer (data2 n number end user) some later o h = absurd o
opens_not r peer (acknowledge credit n number) some later o h = absurd o
opens_not r peer (error n cause) some later o h = absurd o

module _ (r : ℕ) (deeds more : Deeds) (took put : List Marked) (put_is : more.put ≡ units_at r put)
    (taken : units_taken more.calls ≡ units_at r took) where
  pub life_undone : (s t : Stage) → Life true r s took put t → (s ≡ early → AllByRecursion (IsNotCc r) (all_units took)) →
      IsUndone deeds s → IsUndone (then_did deeds more) t
  life_undone early t (stays a b (inl is)) none u = grind (arith, apart_none, taken_more)
  life_undone early t (stays a b (inr is)) none u = grind (arith, apart_none, taken_more)
  life_undone early t (opens_by peer unit o some later none_some is others answer put_later apart none_answer ans put_so w) none u =
      opens_not r peer unit some later o (subst (λ (l : List Marked). AllByRecursion (IsNotCc r) (all_units l)) is (none refl))
  life_undone (amid peer) t w none u = absurd (u.shut peer refl)
  life_undone past t w none u = grind (arith, apart_none, taken_more)

-- ---- all of them

-- of each reference above this one
abbrev pub AreUndone : ℕ → (ℕ → Deeds) → Carrier → Type 0
AreUndone b deeds c = (r : ℕ) → b < r → IsUndone (deeds r) (stage_at r c)

never_early : {A : Type 0} (s : Stage) → s ≡ past → s ≡ early → A
never_early s e h = absurd (cc (sym e ∙ h))

pub turn_undone : (b : ℕ) (turn : Turn) (old new : Joint) (t : TakesTurn turn old new) (deeds : ℕ → Deeds)
    (does : TurnDoes true deeds turn old new t) →
    (old.end.end.carrier.ended ≡ None → (r : ℕ) → b < r → stage_at r old.end.end.carrier ≡ early →
    AllByRecursion (IsNotCc r) (units_in old.coming)) → AreUndone b deeds old.end.end.carrier →
    AreUndone b (λ r. then_did (deeds r) (does.on.more r)) new.end.end.carrier
turn_undone b turn old new t deeds does none u r less =
    let some : 0 < r = omega (arith, less) in
    life_undone r (deeds r) (does.on.more r) does.on.took does.on.put (does.on.own r some) (does.on.taken r some)
    (stage_at r old.end.end.carrier)
    (stage_at r new.end.end.carrier) (does.life r some) (λ is. by old.end.end.carrier.ended refl is) (u r less)
  where
    by : (o : Option EndReason) → old.end.end.carrier.ended ≡ o → stage_at r old.end.end.carrier ≡ early →
        AllByRecursion (IsNotCc r) (all_units does.on.took)
    by None lasts is =
        let s = turn_uses turn old new t true deeds does.on lasts in
        all_left (IsNotCc r) (all_units does.on.took) (s.left ++ units_in new.coming)
        (subst (AllByRecursion (IsNotCc r)) s.coming (none lasts r less is))
    by (Some reason) over is =
        never_early (stage_at r old.end.end.carrier) (stage_over r old.end.end.carrier (ap is_some over)) is

-- ---- what has come, as the whole end has it

-- Each CC that has come for a reference above those of the judge is for one that was not given, or at which no CC is awaited.
given_or : (r : ℕ) (end : Carrier) → (has_given r end ≡ false) ⊎ (has_given r end ≡ true)
given_or r end = grind arith

not_given : {A : Type 0} (r : ℕ) (end : Carrier) → 0 < r → has_given r end ≡ false → r ≤ end.given → A
not_given r end some free up = absurd (let both : true ≡ false = sym (grind (arith, lt-ltb, le-leb)) ∙ free in cc)

module _ (b : ℕ) (s : State) (t : Sessions) (end : Carrier) (places : HaveSamePlaces s.connections t.live) (up : AreUpTo Left b t)
    (lasts : end.ended ≡ None) (r : ℕ) (less : b < r) (may : stage_at r end ≡ early) where
  -- a CC that is awaited is for a connection of the judge
  tracked_low : {A : Type 0} → Tracked s.connections r → A
  tracked_low (p, c, at, tracked, same) =
      let (j, here, one) = at_same s.connections t.live p c places at in
      let low = (up.live p j r here (ap (λ (m : ℕ). Some m) (one.calling ∙ same))).1 in
      absurd (omega (arith, low, less))

  none_comes : (vs : List Value) → AllByRecursion (λ (v : Value). IsAnswer s.course.loose s.connections end v) vs →
      AllByRecursion (AreGiven end.given) vs → AllByRecursion (IsNotCc r) vs
  none_comes [] h few = tt
  none_comes (v ∷ vs) h few = (λ x is. by x is (given_or r end), none_comes vs h.1 few.1)
    where
      by : (x : Connect) → v ≡ confirm r x → (has_given r end ≡ false) ⊎ (has_given r end ≡ true) → ⊥
      by x is (inl free) =
          not_given r end (omega (arith, less)) free (few.0 (ap is_dc is) r (ap destination_of is))
      by x is (inr has) = tracked_low (h.0 r x is lasts (inl (asked_so r end has may).1)).0

pub none_come : (b : ℕ) (local : Local) (first : Whole) (j : Joint) (f : IsFollowed Left first j) → Followed local (whole_of f) →
    HaveSamePlaces j.judge.traffic.connections j.judge.sessions.live → AreUpTo Left b j.judge.sessions →
    j.end.end.carrier.ended ≡ None → (r : ℕ) → b < r → stage_at r j.end.end.carrier ≡ early →
    AllByRecursion (IsNotCc r) (units_in j.coming)
none_come b local first j f h places up lasts r less may =
    let whole_lasts = none_of f.end.ended (sym f.like.over ∙ ap is_some lasts) in
    let alike : stage_at r f.end ≡ stage_at r j.end.end.carrier = ap (stage_at r) (f.like.lasts whole_lasts) in
    subst (AllByRecursion (IsNotCc r)) (f.coming lasts)
    (none_comes b j.judge.traffic j.judge.sessions f.end places up whole_lasts r less (alike ∙ may) f.come h.answers h.few)

-- ---- a CR that passes

-- no DT of class 0
abbrev pub IsNoZero : Value → Type 0
IsNoZero (data0 end user) = ⊥
IsNoZero (request x) = Unit {0}
IsNoZero (confirm n x) = Unit {0}
IsNoZero (disconnect n source reason user) = Unit {0}
IsNoZero (disconnected n source) = Unit {0}
IsNoZero (data2 n number end user) = Unit {0}
IsNoZero (acknowledge credit n number) = Unit {0}
IsNoZero (error n cause) = Unit {0}

dc_not : (r : ℕ) (v : Value) → IsDc v → is_for (Some r) v ≡ false
dc_not r v h = grind arith

unnamed_not : (r : ℕ) (v : Value) → IsNoZero v → names r v ≡ false → is_for (Some r) v ≡ false
unnamed_not r v z h = grind arith

-- of DCs none adds to the connection
pub dcs_none : (r : ℕ) (vs : List Value) → AllByRecursion IsNoZero vs → AllByRecursion IsDc (those r vs) → waiting_for (Some r) vs ≡ []
dcs_none r [] z h = refl
dcs_none r (v ∷ vs) z h = by (names r v) refl (λ more. dcs_none r vs z.1 more)
  where
    by : (b : Bool) → names r v ≡ b → (AllByRecursion IsDc (those r vs) → waiting_for (Some r) vs ≡ []) →
        waiting_for (Some r) (v ∷ vs) ≡ []
    by true e rest =
        let both = subst (AllByRecursion IsDc) (first_kept r v vs e) h in
        picked_rest (is_for (Some r)) v vs (dc_not r v both.0) ∙ rest both.1
    by false e rest =
        picked_rest (is_for (Some r)) v vs (unnamed_not r v z.0 e) ∙ rest (subst (AllByRecursion IsDc) (first_left r v vs e) h)

-- as long as the connection may open or is open
abbrev pub is_under_way : Stage → Bool
is_under_way early = true
is_under_way (amid peer) = true
is_under_way past = false

abbrev pub may_take : Carrier → ℕ → Bool
may_take c r = is_under_way (stage_at r c)

-- of the references that an end gives this is known
abbrev pub known_from : (ℕ → Bool) → List Value → Known
known_from is_live coming r later = (0 < r) × known_left is_live coming r later

-- nothing is done there, and none of the units in flight is for it unless the end is over
pub cr_ready : (b : ℕ) (deeds : ℕ → Deeds) (c : Carrier) (x : Connect) (coming rest : List Value) (s : State) (t : Sessions) →
    b < x.source →
    AreUndone b deeds c → (c.ended ≡ None → waiting_for (Some x.source) coming ≡ []) →
    IsReady Left deeds (known_from (may_take c) coming) (request x) rest s t
cr_ready b deeds c x coming rest s t less u none = grind (arith, parts_taken, past, left_empty, stage_at, stage_over)

-- as the whole end says of a CR that it has put
pub cr_calm : (local : Local) (first : Whole) (j : Joint) (f : IsFollowed Left first j) → Followed local (whole_of f) → (x : Connect)
    (rest : List Value) → j.put ≡ request x ∷ rest → AllByRecursion IsNoZero (units_in j.coming) →
    j.end.end.carrier.ended ≡ None → waiting_for (Some x.source) (units_in j.coming) ≡ []
cr_calm local first j f h x rest put zero lasts =
    let asking =
    (subst (AllByRecursion (λ (v : Value). (y : Connect) → v ≡ request y → IsAsking local f.end f.come y)) put h.requests).0
    x refl in
    grind (arith, dcs_none, those)
