-- What passes of class 0 leaves all connections of an end standing at a judge: a unit of the end that is no break, and one of the other
-- side that is none or is passed over. For the session of the connection of an end in class 0.
use Rattle.osi_blameless.proofs.Vocabulary.{◌≡◌, ◌∙◌, arith, Option, refl, sym, ap, ℕ, Bool, true, false, List, [], ◌∷◌, ◌++◌, Some, None}
use Rattle.osi_blameless.proofs.Vocabulary.{is_some, slice_get, Value, acknowledge, confirm, data0, data2, disconnect, disconnected, error}
use Rattle.osi_blameless.proofs.Vocabulary.{request, Part, Class, Zero, other, Direction, Connection, Finding, Kept, Reach, Half}
use Rattle.osi_blameless.proofs.Vocabulary.{is_applied, reach_of, is_open, own, State, class_for, connection_after, is_stopped, meaning_if}
use Rattle.osi_blameless.proofs.Vocabulary.{meant, takes, Deeds, Joined, Sessions, reference_of, Course, unit_passes, way_of, IsOneOf}
use Rattle.osi_rules.specs.declared.findings.Reach.TheVariants as reach
use Rattle.osi_judge.specs.Connections as joined
use Rattle.osi_blameless.proofs.keeping.a_break_ends_no_judging_or_all.{takes_reach}
use Rattle.osi_blameless.proofs.keeping.no_unit_of_a_whole_end_is_a_break.{IsNoBreak}
use Rattle.osi_blameless.proofs.keeping.what_a_taker_passes_over.{IsMild, applied_of, mild_of}
use Rattle.osi_blameless.proofs.standing.a_dt_of_class_0_has_one_place.{IsOnly, both_named, dt_takes, other_none}
use Rattle.osi_blameless.proofs.shown.a_dt_that_is_no_break_is_right.{dt_clear}
use Rattle.osi_blameless.proofs.shown.a_right_dt_has_one_place.{zero_placed}
use Rattle.osi_blameless.proofs.standing.all_connections_stand.{AllStand, Leaves, Loses, all_after, like_same, other_after, own_after}
use Rattle.osi_blameless.proofs.shown.connections_have_the_same_places.{unit_joins, unit_knows}
use Rattle.osi_blameless.proofs.standing.right_units_leave_all_standing.{StaysElsewhere, other_close, own_close, rests_on}
use Rattle.osi_blameless.proofs.shown.what_a_judge_shows_goes_on.{named_added}
use Rattle.osi_blameless.proofs.standing.what_stands_of_a_connection.{Known, Stands, stands_elsewhere, stands_other_none, stands_other_part}
use Rattle.osi_blameless.proofs.standing.what_stands_of_a_connection.{stands_part}
use Rattle.osi_blameless.proofs.small_facts_that_many_lemmas_use.{same_one}

-- ---- small facts

no_place : {A : Type 0} (i : ℕ) → Some i ≡ None → A
no_place i e = absurd (cc)

same_place : (p i : ℕ) → Some p ≡ Some i → p ≡ i
same_place p i e = cc

-- ---- a DT of either side has its place

-- in class 0, of which a side knows, that is judged
pub record IsZero (d : Direction) (s : State) : Type 0 where
  pub firm : s.course.loose ≡ false
  pub goes : is_stopped (way_of d) s.course ≡ false
  pub zero : class_for (way_of d) s.course ≡ Some Zero
  pub only : IsOnly s

module _ (d e : Direction) (deeds : ℕ → Deeds) (known : Known) (put : List Value) (b end : Bool) (user : List ℕ) (s : State) (t : Sessions)
    (a : AllStand d deeds known put b s t) (z : IsZero e s) where
  pub told_there : (takes (way_of e) (data0 end user) s).told.place ≡ Some z.only.place
  told_there = grind (arith, dt_takes (way_of e) end user s a.judged z.firm a.apart z.only z.goes z.zero)

  -- the connection at its place is open for both sides
  here_open : (p : ℕ) (c : Connection) → (takes (way_of e) (data0 end user) s).told.place ≡ Some p → slice_get s.connections p ≡ Some c →
      c ≡ z.only.connection
  here_open p c place there = grind (arith, same_one, same_place, told_there)

  -- no other one is
  elsewhere_none : (p i : ℕ) (c : Connection) (j : Joined) → (i ≡ p → ⊥) → (takes (way_of e) (data0 end user) s).told.place ≡ Some p →
      slice_get s.connections i ≡ Some c → IsOneOf c j → is_open (own (way_of d) c).phase ≡ true →
      is_some (reference_of (other d) j) ≡ false
  elsewhere_none p i c j apart place there one live = grind (arith, other_none, same_place, told_there)

-- ---- of the end

own_dt : (d : Direction) (deeds : ℕ → Deeds) (known : Known) (at : ℕ) (end : Bool) (user : List ℕ) (rest : List Value)
    (s : State) (t : Sessions) → AllStand d deeds known (data0 end user ∷ rest) true s t → IsZero d s →
    (takes (way_of d) (data0 end user) s).told.finding ≡ Kept →
    Leaves d deeds known known (data0 end user ∷ rest) rest true false d at (data0 end user) s t
own_dt d deeds known at end user rest s t a z kept = record {
  all = λ e c j h. no_place _ (sym (zero_placed (way_of d) end user s kept).told ∙ e);
  elsewhere = search (arith, stands_elsewhere, elsewhere_none);
  here = λ p c j x r place there at_j one finding is far on judged h.
      by x (sym (ap is_applied (sym finding ∙ kept)) ∙ is) p c j r one
      (here_open d d deeds known (data0 end user ∷ rest) true end user s t a z p c place there) h;
  asked_so = λ x number is. absurd (cc);
  others = λ x is c j h. absurd (cc);
  moves = λ x is j h. h;
  keeps = λ i j here h. h;
}
  where
    by : (x : Bool) → true ≡ x → (p : ℕ) (c : Connection) (j : Joined) (r : Reach) → IsOneOf c j → c ≡ z.only.connection →
        Stands d deeds known (data0 end user ∷ rest) true c j →
        Stands d deeds known rest false (connection_after (way_of d) (data0 end user) x r c)
        (joined.meant d at (data0 end user) (meaning_if x (meant (data0 end user))) j)
    by false e p c j r one same h = absurd (cc)
    by true e p c j r one same h =
        let v = data0 end user in
        let live : is_open (own (way_of d) c).phase ≡ true =
        ap (λ (y : Connection). is_open (own (way_of d) y).phase) same ∙ (grind arith) in
        let right : is_open c.right.phase ≡ true = ap (λ (y : Connection). is_open y.right.phase) same ∙ z.only.right in
        stands_part d deeds known v rest at end c (connection_after (way_of d) v true r c) j refl refl
        (both_named (other d) c j one right) (both_named d c j one right) live
        (ap (λ (x : Half). is_open x.phase) (own_after d v r c) ∙ live)
        (named_added at end user (other d) d j (grind arith)) h

-- ---- of the other side

-- what is known of the parts in flight grows by a DT at its connection alone
pub record GrowsThere (d : Direction) (known then_known : Known) (end : Bool) (user : List ℕ) (s : State) (t : Sessions) : Type 0 where
  pub grows : (p : ℕ) (j : Joined) → (takes (way_of (other d)) (data0 end user) s).told.place ≡ Some p → slice_get t.live p ≡ Some j →
      (r : ℕ) (later : List Part) → reference_of d j ≡ Some r → known r later → then_known r (later ++ (end, user) ∷ [])
  pub stays : StaysElsewhere d known then_known (data0 end user) s t

other_dt : (d : Direction) (deeds : ℕ → Deeds) (known then_known : Known) (at : ℕ) (end : Bool) (user : List ℕ) (put : List Value)
    (b : Bool) (s : State) (t : Sessions) → AllStand d deeds known put b s t → IsZero (other d) s →
    is_applied (takes (way_of (other d)) (data0 end user) s).told.finding ≡ true → GrowsThere d known then_known end user s t →
    Leaves d deeds known then_known put put b b (other d) at (data0 end user) s t
other_dt d deeds known then_known at end user put b s t a z applied g = record {
  all = λ e c j h. no_place _ (sym (told_there d (other d) deeds known put b end user s t a z) ∙ e);
  elsewhere = λ p i first c k j apart place there one at_k finding at_c at_j another judged h.
      stands_other_none d deeds known then_known put b c c j j (like_same d j) refl refl (g.stays.live p i j apart place at_j) h;
  here = λ p c j x r place there at_j one finding is far on judged h.
      by x (sym applied ∙ ap is_applied finding ∙ is) p c j r place at_j one
      (here_open d (other d) deeds known put b end user s t a z p c place there) h;
  asked_so = λ x number is. absurd (cc);
  others = λ x is c j h. absurd (cc);
  moves = λ x is j h. absurd (cc);
  keeps = λ i j here h. rests_on d deeds known then_known j (g.stays.done i j here) h;
}
  where
    by : (x : Bool) → true ≡ x → (p : ℕ) (c : Connection) (j : Joined) (r : Reach) →
        (takes (way_of (other d)) (data0 end user) s).told.place ≡ Some p → slice_get t.live p ≡ Some j → IsOneOf c j →
        c ≡ z.only.connection → Stands d deeds known put b c j →
        Stands d deeds then_known put b (connection_after (way_of (other d)) (data0 end user) x r c)
        (joined.meant (other d) at (data0 end user) (meaning_if x (meant (data0 end user))) j)
    by false e p c j r place at_j one same h = absurd (cc)
    by true e p c j r place at_j one same h =
        let v = data0 end user in
        stands_other_part d deeds known then_known put b at end user c (connection_after (way_of (other d)) v true r c) j
        (both_named d c j one (ap (λ (y : Connection). is_open y.right.phase) same ∙ z.only.right))
        (ap (λ (y : Half). y.phase) (other_after d v true r c))
        (named_added at end user (other d) (other d) j (grind arith))
        (g.grows p j place at_j) h

-- ---- what else may pass in class 0

-- every other unit is a break that is not passed over
abbrev pub Breaks : Value → Type 0
Breaks (request x) = Unit {0}
Breaks (confirm n x) = Unit {0}
Breaks (disconnect n source reason user) = Unit {0}
Breaks (data2 n number end user) = Unit {0}
Breaks (acknowledge credit n number) = Unit {0}
Breaks (data0 end user) = ⊥
Breaks (disconnected n source) = ⊥
Breaks (error n cause) = ⊥

is_break : {A : Type 0} (e : Direction) (v : Value) (s : State) → IsZero e s → Breaks v → IsMild v (takes (way_of e) v s).told.finding → A
is_break e v s z h mild = grind arith

own_break : {A : Type 0} (e : Direction) (v : Value) (s : State) → IsZero e s → Breaks v → IsNoBreak (takes (way_of e) v s).told.finding → A
own_break e v s z h none = is_break e v s z h (mild_of v (takes (way_of e) v s).told.finding none)

-- none loses its judgement
zero_part : (k : Option Class) (f : Finding) → k ≡ Some Zero → reach_of k f ≡ reach.Connection → ⊥
zero_part k f zero h = grind arith

zero_loses : (d e : Direction) (v : Value) (s : State) (t : Sessions) → IsZero e s → Loses d e v s t
zero_loses d e v s t z p c j place there here one judged far = grind (arith, zero_part, takes_reach)

-- ---- a unit of the end

own_goes : (d : Direction) (deeds : ℕ → Deeds) (known : Known) (at : ℕ) (v : Value) (rest : List Value) (s : State) (t : Sessions) →
    IsZero d s → IsNoBreak (takes (way_of d) v s).told.finding → AllStand d deeds known (v ∷ rest) true s t →
    Leaves d deeds known known (v ∷ rest) rest true false d at v s t
own_goes d deeds known at (data0 end user) rest s t z none a =
    search (arith, own_dt, dt_clear (way_of d) (data0 end user) end s refl z.goes z.firm a.judged)
own_goes d deeds known at (disconnected n source) rest s t z none a = grind (arith, own_close)
own_goes d deeds known at (error n cause) rest s t z none a = grind (arith, own_close)
own_goes d deeds known at (request x) rest s t z none a = own_break d (request x) s z tt none
own_goes d deeds known at (confirm n x) rest s t z none a = own_break d (confirm n x) s z tt none
own_goes d deeds known at (disconnect n source reason user) rest s t z none a = own_break d (disconnect n source reason user) s z tt none
own_goes d deeds known at (data2 n number end user) rest s t z none a = own_break d (data2 n number end user) s z tt none
own_goes d deeds known at (acknowledge credit n number) rest s t z none a = own_break d (acknowledge credit n number) s z tt none

pub own_stands : (d : Direction) (deeds : ℕ → Deeds) (known : Known) (at : ℕ) (v : Value) (rest : List Value) (c : Course) →
    IsZero d c.traffic → IsNoBreak (takes (way_of d) v c.traffic).told.finding →
    AllStand d deeds known (v ∷ rest) true c.traffic c.sessions →
    AllStand d deeds known rest false (unit_passes d at v c).traffic (unit_passes d at v c).sessions
own_stands d deeds known at v rest c z none a = search (arith, unit_knows, unit_joins, all_after, own_goes, zero_loses)

-- ---- a unit of the other side

abbrev pub IsHeardZero : Direction → Known → Known → Value → State → Sessions → Type 0
IsHeardZero d known then_known (data0 end user) s t = GrowsThere d known then_known end user s t
IsHeardZero d known then_known v s t = (r : ℕ) (later : List Part) → known r later → then_known r later

other_goes : (d : Direction) (deeds : ℕ → Deeds) (known then_known : Known) (at : ℕ) (v : Value) (put : List Value) (b : Bool) (s : State)
    (t : Sessions) → IsZero (other d) s → IsMild v (takes (way_of (other d)) v s).told.finding →
    IsHeardZero d known then_known v s t → AllStand d deeds known put b s t →
    Leaves d deeds known then_known put put b b (other d) at v s t
other_goes d deeds known then_known at (data0 end user) put b s t z mild heard a =
    search (arith, other_dt, applied_of, dt_clear (way_of (other d)) (data0 end user) end s refl z.goes z.firm a.judged)
other_goes d deeds known then_known at (disconnected n source) put b s t z mild heard a = grind (arith, other_close)
other_goes d deeds known then_known at (error n cause) put b s t z mild heard a = grind (arith, other_close)
other_goes d deeds known then_known at (request x) put b s t z mild heard a = is_break (other d) (request x) s z tt mild
other_goes d deeds known then_known at (confirm n x) put b s t z mild heard a = is_break (other d) (confirm n x) s z tt mild
other_goes d deeds known then_known at (disconnect n source reason user) put b s t z mild heard a = grind (arith, is_break)
other_goes d deeds known then_known at (data2 n number end user) put b s t z mild heard a = grind (arith, is_break)
other_goes d deeds known then_known at (acknowledge credit n number) put b s t z mild heard a = grind (arith, is_break)

pub other_stands : (d : Direction) (deeds : ℕ → Deeds) (known then_known : Known) (at : ℕ) (v : Value) (put : List Value) (b : Bool)
    (c : Course) → IsZero (other d) c.traffic → IsMild v (takes (way_of (other d)) v c.traffic).told.finding →
    IsHeardZero d known then_known v c.traffic c.sessions → AllStand d deeds known put b c.traffic c.sessions →
    AllStand d deeds then_known put b (unit_passes (other d) at v c).traffic (unit_passes (other d) at v c).sessions
other_stands d deeds known then_known at v put b c z mild heard a =
    search (arith, unit_knows, unit_joins, all_after, other_goes, zero_loses)
