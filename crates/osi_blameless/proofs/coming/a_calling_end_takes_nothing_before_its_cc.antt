-- A calling end takes no unit of a connection before its CC: of what comes for the connection, only DCs come before the CC, and after it no
-- other CC if the connection is judged. So the end is calm in a turn before the connection opens.
-- For all connections of an end and a judge.
use Rattle.osi_blameless.proofs.Vocabulary.{[], ap, append_assoc, Bool, List, None, refl, Some, subst, sym, true, ℕ, ◌++◌, ◌∙◌, ◌∷◌, ◌≡◌}
use Rattle.osi_blameless.proofs.Vocabulary.{append-nil, AllByRecursion, confirm, Connect, request, Value, Local, Carrier, has_given, early}
use Rattle.osi_blameless.proofs.Vocabulary.{Time as Stage, stage_at, stage_is, all_units_more, Opens, all_units, Marked, Follows, IsNoCc}
use Rattle.osi_blameless.proofs.Vocabulary.{Row, Tracked, first_kept, IsDc, first_left, names, picked_join, those, those_join, Line, Whole}
use Rattle.osi_blameless.proofs.Vocabulary.{acknowledge, data0, data2, disconnect, disconnected, error, false, ◌||◌, slice_get, Connection}
use Rattle.osi_blameless.proofs.Vocabulary.{is_tracked, arith, is_dr, IsOngoing}
use Rattle.osi_blameless.proofs.small_facts_that_many_lemmas_use.{amid_not, over_not}
use Rattle.osi_blameless.proofs.putting.nothing_is_done_before_a_cr_passes.{IsNoZero, dcs_none}
use Rattle.osi_blameless.proofs.coming.what_an_end_takes_at_each_stage.{AreCalm, AreReady, EndsEarly, dcs_before, dcs_first, opens_next}
use Rattle.osi_blameless.proofs.coming.what_an_end_takes_at_each_stage.{opens_not}
use Rattle.osi_blameless.proofs.standing.what_is_left_for_an_end.{has_dr}
use Rattle.osi_blameless.proofs.standing.what_stands_of_a_connection.{is_for, waiting_for}

-- ---- what comes for a connection

-- DCs, then the CC
pub record HasCc (r : ℕ) (coming : List Value) : Type 0 where
  pub confirmed : Connect
  pub before : List Value
  pub after : List Value
  pub is : those r coming ≡ before ++ confirm r confirmed ∷ after
  pub only : AllByRecursion IsDc before

-- and no other CC
pub record AwaitsCc (r : ℕ) (coming : List Value) : Type 0 where
  pub confirmed : Connect
  pub before : List Value
  pub after : List Value
  pub is : those r coming ≡ before ++ confirm r confirmed ∷ after
  pub only : AllByRecursion IsDc before
  pub calm : AllByRecursion IsNoCc after

module _ (local : Local) (c : Carrier) (r : ℕ) (given : has_given r c ≡ true) (may : stage_at r c ≡ early) (lasts : c.ended ≡ None) where
  -- as long as it may open, its row awaits the CC
  row_awaits : (coming : List Value) (peer : ℕ) (line : Line) → AllByRecursion IsNoCc line.coming → Row local c coming r peer line →
      AwaitsCc r coming
  row_awaits coming peer line calm h = grind (arith, amid_not, stage_at, stage_is, over_not)

  row_has : (coming : List Value) (peer : ℕ) (line : Line) → Row local c coming r peer line → HasCc r coming
  row_has coming peer line h = grind (arith, amid_not, stage_at, stage_is, over_not)

-- the connection with this reference is open at the judge, and judged
abbrev pub TrackedJudged : List Connection → ℕ → Type 0
TrackedJudged cs r = (p : ℕ) × (c : Connection) × (slice_get cs p ≡ Some c) × (is_tracked c ≡ true) × (c.left.reference ≡ r)
    × (c.is_judged ≡ true)

-- of a whole end
pub awaits_cc : (local : Local) (w : Whole) (r : ℕ) → Follows local w → IsOngoing w.judge.course → TrackedJudged w.judge.connections r →
    has_given r w.end ≡ true → stage_at r w.end ≡ early → w.end.ended ≡ None → AwaitsCc r w.coming
awaits_cc local w r j clear (p, c, at, tracked, same, judged) given may lasts =
    let f = (j.followed clear).lines p c at tracked in
    let is : f.r ≡ r = sym f.left ∙ same in
    row_awaits local w.end r given may lasts w.coming f.peer f.line (f.calm judged)
    (subst (λ (q : ℕ). Row local w.end w.coming q f.peer f.line) is f.row)

-- also of a connection that has lost its judgement
pub has_cc : (local : Local) (w : Whole) (r : ℕ) → Follows local w → IsOngoing w.judge.course → Tracked w.judge.connections r →
    has_given r w.end ≡ true → stage_at r w.end ≡ early → w.end.ended ≡ None → HasCc r w.coming
has_cc local w r j clear (p, c, at, tracked, same) given may lasts =
    let f = (j.followed clear).lines p c at tracked in
    let is : f.r ≡ r = sym f.left ∙ same in
    row_has local w.end r given may lasts w.coming f.peer f.line
    (subst (λ (q : ℕ). Row local w.end w.coming q f.peer f.line) is f.row)

-- ---- a turn

zero_front : (xs ys : List Value) → AllByRecursion IsNoZero (xs ++ ys) → AllByRecursion IsNoZero xs
zero_front [] ys h = tt
zero_front (x ∷ xs) ys h = (h.0, zero_front xs ys h.1)

before_opening : (r peer : ℕ) (unit : Value) (front rest : List Value) → Opens true r peer unit → AwaitsCc r (front ++ unit ∷ rest) →
    AllByRecursion IsDc (those r front)
before_opening r peer (confirm n x) front rest o a = grind (arith, dcs_before, those, those_join)
before_opening r peer (request x) front rest o a = absurd (cc o.0)
before_opening r peer _ front rest o a = absurd o

-- The end took these units, the first of those that had come. If it may still open afterwards, the CC is among the others. So before it
-- opens only DCs come for it.
dcs_turn : (r : ℕ) (t : Stage) (took : List Marked) (others : List Value) → AwaitsCc r (all_units took ++ others) →
    (t ≡ early → AwaitsCc r others) → (front back : List Marked) → took ≡ front ++ back → EndsEarly true r t back →
    AllByRecursion IsDc (those r (all_units front))
dcs_turn r t took others a then_awaits front back parts ends = by back parts ends
  where
    by : (back : List Marked) → took ≡ front ++ back → EndsEarly true r t back → AllByRecursion IsDc (those r (all_units front))
    by _ is (opens_not still) =
        let same : took ≡ front = is ∙ append-nil front in
        let b = then_awaits still in
        dcs_first r a.confirmed b.confirmed (all_units front) others a.before a.after b.before b.after
        (subst (λ (l : List Marked). those r (all_units l ++ others) ≡ a.before ++ confirm r a.confirmed ∷ a.after) same a.is)
        a.only a.calm b.is
    by _ is (opens_next peer unit rest o) =
        let units : all_units took ++ others ≡ all_units front ++ unit ∷ (all_units rest ++ others) =
        grind (arith, all_units_more, append_assoc) in
        before_opening r peer unit (all_units front) (all_units rest ++ others) o (subst (AwaitsCc r) units a)

-- of units of which only DCs come for it, none is a DR for it
dcs_clean : (r : ℕ) (vs : List Value) → AllByRecursion IsDc (those r vs) → has_dr r vs ≡ false
dcs_clean r [] h = refl
dcs_clean r (v ∷ vs) h = by (names r v) refl (λ more. dcs_clean r vs more)
  where
    dc_not : (u : Value) → IsDc u → is_dr r u ≡ false
    dc_not (disconnect n source reason user) k = absurd (cc)
    dc_not (disconnected n source) k = refl
    dc_not (request x) k = refl
    dc_not (confirm n x) k = refl
    dc_not (data0 end user) k = refl
    dc_not (data2 n number end user) k = refl
    dc_not (acknowledge credit n number) k = refl
    dc_not (error n cause) k = refl

    other_not : (u : Value) → names r u ≡ false → is_dr r u ≡ false
    other_not (disconnect n source reason user) e = e
    other_not (disconnected n source) e = refl
    other_not (request x) e = refl
    other_not (confirm n x) e = refl
    other_not (data0 end user) e = refl
    other_not (data2 n number end user) e = refl
    other_not (acknowledge credit n number) e = refl
    other_not (error n cause) e = refl

    by : (b : Bool) → names r v ≡ b → (AllByRecursion IsDc (those r vs) → has_dr r vs ≡ false) → has_dr r (v ∷ vs) ≡ false
    by true e rest =
        let both = subst (AllByRecursion IsDc) (first_kept r v vs e) h in
        ap (λ (b : Bool). b || has_dr r vs) (dc_not v both.0) ∙ rest both.1
    by false e rest =
        ap (λ (b : Bool). b || has_dr r vs) (other_not v e) ∙ rest (subst (AllByRecursion IsDc) (first_left r v vs e) h)

-- So none is for it, and no DR is for it.
pub calm_turn : (r : ℕ) (t : Stage) (took : List Marked) (others : List Value) → AwaitsCc r (all_units took ++ others) →
    (t ≡ early → AwaitsCc r others) → AllByRecursion IsNoZero (all_units took ++ others) →
    AreReady true r (λ (units : List Value). has_dr r units ≡ false) t took
calm_turn r t took others a then_awaits zero front back parts ends =
    grind (
      arith,
      dcs_none,
      zero_front,
      dcs_clean,
      all_units_more front back,
      append_assoc (all_units front) (all_units back) others,
      those r (all_units front),
      dcs_turn r t took others a then_awaits front back parts ends,
    )

-- or none of what has come is for it
pub quiet_turn : (is_caller : Bool) (r : ℕ) (t : Stage) (took : List Marked) (others : List Value) →
    waiting_for (Some r) (all_units took ++ others) ≡ [] → AreCalm is_caller r t took
quiet_turn is_caller r t took others none front back parts ends =
    none_first (waiting_for (Some r) (all_units front)) (waiting_for (Some r) (all_units back ++ others))
    (grind (arith, picked_join, is_for, waiting_for, append_assoc, all_units_more))
  where
    none_first : (xs ys : List Value) → xs ++ ys ≡ [] → xs ≡ []
    none_first [] ys e = refl
    none_first (x ∷ xs) ys e = absurd (cc)
