-- Units of class 2 leave all connections of an end standing at a judge: units of the end that are no break, and of the other side.
-- For the session of each connection of an end.
use Rattle.osi_blameless.proofs.Vocabulary.{arith, ◌≡◌, ◌∙◌, refl, sym, ap, ℕ, Bool, true, false, List, [], ◌∷◌, ◌++◌, Option}
use Rattle.osi_blameless.proofs.Vocabulary.{Some, None, slice_get, eqb-true, Connect, Value, acknowledge, confirm, data2, destination_of}
use Rattle.osi_blameless.proofs.Vocabulary.{request, Part, Zero, other, Direction, Connection, Reach, Half, is_applied}
use Rattle.osi_blameless.proofs.Vocabulary.{is_open, own, State, class_for, connection_after, found_on, is_stopped, meaning_if}
use Rattle.osi_blameless.proofs.Vocabulary.{meant, takes, Deeds, Joined, Sessions, reference_of, way_of, IsOneOf}
use Rattle.osi_rules.specs.declared.directions.Direction.{Direction as Way}
use Rattle.osi_rules.specs.declared.directions.Direction.TheVariants as way
use Rattle.osi_rules.specs.declared.findings.Reach.TheVariants as reach
use Rattle.osi_judge.specs.Connections as joined
use Rattle.osi_blameless.proofs.shown.a_right_dt_has_one_place.{AreUsedApart, lost_use, one_use}
use Rattle.osi_blameless.proofs.shown.a_unit_is_joined_where_it_is_named.{named_any, named_there, names_there}
use Rattle.osi_blameless.proofs.standing.all_connections_stand.{AllStand, IsPlain, Leaves, Rests, like_same, other_after, other_part}
use Rattle.osi_blameless.proofs.standing.all_connections_stand.{other_plain, own_part, own_plain, quiet, rests}
use Rattle.osi_blameless.proofs.standing.what_stands_of_a_connection.{Known, Stands, is_for, names_it, stands_elsewhere, stands_other_none}
use Rattle.osi_blameless.proofs.transport.small_facts_that_many_lemmas_use.{is_false as not_so}

-- ---- a DT or an AK of class 2

pub data IsLink (v : Value) (n : ℕ) : Type 0 where
  dt : (number : ℕ) (end : Bool) (user : List ℕ) → v ≡ data2 n number end user → IsLink v n
  ak : (credit number : ℕ) → v ≡ acknowledge credit n number → IsLink v n

pub link_names : (v : Value) (n : ℕ) → IsLink v n → destination_of v ≡ Some n
link_names v n h = grind arith

link_for : (v : Value) (n : ℕ) (o : Option ℕ) → IsLink v n → is_for o v ≡ names_it o n
link_for v n o h = grind (arith, is_for)

-- ---- its place

-- it has a place, unless all judging ends with it
pub link_placed : {A : Type 0} (d : Way) (v : Value) (n : ℕ) (s : State) → IsLink v n → is_stopped d s.course ≡ false →
    (class_for d s.course ≡ Some Zero → ⊥) → ((takes d v s).told.reach ≡ reach.Everything → ⊥) → (takes d v s).told.place ≡ None → A
link_placed d v n s h goes two on none = search arith

pub cc_placed : {A : Type 0} (n : ℕ) (x : Connect) (s : State) → is_stopped way.Left s.course ≡ false →
    (class_for way.Left s.course ≡ Some Zero → ⊥) → ((takes way.Left (confirm n x) s).told.reach ≡ reach.Everything → ⊥) →
    (takes way.Left (confirm n x) s).told.place ≡ None → A
cc_placed n x s goes two on none = grind arith

-- ---- its sender has not closed the connection, if it is right

link_open : (d : Way) (v : Value) (n : ℕ) (s : State) (c : Connection) → IsLink v n → is_applied (found_on d s c v) ≡ true →
    is_open (own d c).phase ≡ true
link_open d v n s c h h2 = grind arith

pub names_so : (o : Option ℕ) (n : ℕ) → names_it o n ≡ true → o ≡ Some n
names_so o n h = grind (arith, eqb-true)

-- ---- units of the end

module _ (d : Direction) (deeds : ℕ → Deeds) (known : Known) (at : ℕ) (v : Value) (rest : List Value) (s : State) (t : Sessions)
    (a : AllStand d deeds known (v ∷ rest) true s t) (apart : AreUsedApart d s.connections) where
  -- it is right, if it is for a connection that is judged
  abbrev IsKept : Type 0
  IsKept = (c : Connection) → (takes (way_of d) v s).told.finding ≡ found_on (way_of d) s c v → c.is_judged ≡ true →
      is_applied (found_on (way_of d) s c v) ≡ true

  named_so : (n : ℕ) → IsLink v n → (p : ℕ) (first : Connection) (k : Joined) → (takes (way_of d) v s).told.place ≡ Some p →
      slice_get s.connections p ≡ Some first → slice_get t.live p ≡ Some k → IsOneOf first k → reference_of (other d) k ≡ Some n
  named_so n link p first k place there at_k one =
      named_any d n first k one (λ lost. (a.lost p first k there at_k lost).left_knows)
      (names_there (way_of d) v s n p first there (link_names v n link) place)

  -- it is for no other connection that the end has open
  module _ (n : ℕ) (link : IsLink v n) (kept : IsKept) (p i : ℕ) (first c : Connection) (k j : Joined)
      (place : (takes (way_of d) v s).told.place ≡ Some p) (there : slice_get s.connections p ≡ Some first)
      (at_k : slice_get t.live p ≡ Some k) (one : IsOneOf first k)
      (finding : (takes (way_of d) v s).told.finding ≡ found_on (way_of d) s first v) (here : slice_get s.connections i ≡ Some c)
      (another : IsOneOf c j) (live : is_open (own (way_of d) c).phase ≡ true) where
    same_by : (b : Bool) → first.is_judged ≡ b → reference_of (other d) j ≡ Some n → i ≡ p
    same_by true judged mine =
        sym (one_use d n p i first c k j s.connections apart there here one another (named_so n link p first k place there at_k one) mine
        live (link_open (way_of d) v n s first link (kept first finding judged)))
    same_by false lost mine =
        sym (search (arith, lost_use, named_so))

    link_elsewhere : (i ≡ p → ⊥) → is_for (reference_of (other d) j) v ≡ false
    link_elsewhere from = search (arith, not_so, is_for, same_by, names_so, link_for)

  -- a DT or an AK
  pub link_leaves : (n : ℕ) → IsLink v n → IsKept → is_stopped (way_of d) s.course ≡ false →
      (class_for (way_of d) s.course ≡ Some Zero → ⊥) → ((takes (way_of d) v s).told.reach ≡ reach.Everything → ⊥) →
      ((p : ℕ) (c : Connection) (j : Joined) (x : Bool) (r : Reach) → (takes (way_of d) v s).told.place ≡ Some p →
      slice_get s.connections p ≡ Some c → slice_get t.live p ≡ Some j → IsOneOf c j →
      is_applied (found_on (way_of d) s c v) ≡ true → is_applied (found_on (way_of d) s c v) ≡ x →
      Stands d deeds known (v ∷ rest) true c j →
      Stands d deeds known rest false (connection_after (way_of d) v x r c) (joined.meant d at v (meaning_if x (meant v)) j)) →
      ((x : Connect) → v ≡ request x → ⊥) → Leaves d deeds known known (v ∷ rest) rest true false d at v s t
  link_leaves n link kept goes two on here no_cr = record {
    all = λ e c j h. link_placed (way_of d) v n s link goes two on e;
    elsewhere = λ p i first c k j from place there one at_k finding at_c at_j another judged h.
        search (arith, stands_elsewhere, link_elsewhere);
    here = search arith;
    asked_so = λ x number is. absurd (no_cr x is);
    others = λ x is c j h. absurd (no_cr x is);
    moves = λ x is j h. h;
    keeps = λ i j here h. h;
  }

module _ (d : Direction) (deeds : ℕ → Deeds) (known : Known) (at : ℕ) (rest : List Value) (s : State) (t : Sessions)
    (apart : AreUsedApart d s.connections) (goes : is_stopped (way_of d) s.course ≡ false)
    (two : class_for (way_of d) s.course ≡ Some Zero → ⊥) where
  -- a DT
  pub own_dt : (n number : ℕ) (end : Bool) (user : List ℕ) (a : AllStand d deeds known (data2 n number end user ∷ rest) true s t) →
      IsKept d deeds known at (data2 n number end user) rest s t a apart →
      ((takes (way_of d) (data2 n number end user) s).told.reach ≡ reach.Everything → ⊥) →
      Leaves d deeds known known (data2 n number end user ∷ rest) rest true false d at (data2 n number end user) s t
  own_dt n number end user a kept on =
      link_leaves d deeds known at v rest s t a apart n link kept goes two on
      (λ p c j x r place there at_j one right is h. by x (sym right ∙ is) p c j r place there at_j one right h) (λ x e. cc e)
    where
      v : Value
      v = data2 n number end user

      link : IsLink (data2 n number end user) n
      link = dt number end user refl

      by : (x : Bool) → true ≡ x → (p : ℕ) (c : Connection) (j : Joined) (r : Reach) →
          (takes (way_of d) (data2 n number end user) s).told.place ≡ Some p → slice_get s.connections p ≡ Some c →
          slice_get t.live p ≡ Some j → IsOneOf c j → is_applied (found_on (way_of d) s c (data2 n number end user)) ≡ true →
          Stands d deeds known (data2 n number end user ∷ rest) true c j →
          Stands d deeds known rest false (connection_after (way_of d) (data2 n number end user) x r c)
          (joined.meant d at (data2 n number end user) (meaning_if x (meant (data2 n number end user))) j)
      by false e p c j r place there at_j one right h = absurd (cc)
      by true e p c j r place there at_j one right h =
          own_part d deeds known at n number end user rest r c j one (link_open (way_of d) (data2 n number end user) n s c link right)
          (named_so d deeds known at (data2 n number end user) rest s t a apart n link p c j place there at_j one) h

  -- an AK
  pub own_ack : (credit n number : ℕ) (a : AllStand d deeds known (acknowledge credit n number ∷ rest) true s t) →
      IsKept d deeds known at (acknowledge credit n number) rest s t a apart →
      ((takes (way_of d) (acknowledge credit n number) s).told.reach ≡ reach.Everything → ⊥) →
      Leaves d deeds known known (acknowledge credit n number ∷ rest) rest true false d at (acknowledge credit n number) s t
  own_ack credit n number a kept on =
      link_leaves d deeds known at (acknowledge credit n number) rest s t a apart n (ak credit number refl) kept goes two on
      (λ p c j x r place there at_j one right is h. own_plain d deeds known at (acknowledge credit n number) rest x true r c j tt h)
      (λ x e. cc e)

-- a DR, a DC or an ER; or a CC without an effect
pub own_close_if : (d : Direction) (deeds : ℕ → Deeds) (known : Known) (at : ℕ) (v : Value) (rest : List Value) (s : State)
    (t : Sessions) → AllStand d deeds known (v ∷ rest) true s t →
    ((c : Connection) (x : Bool) → is_applied (found_on (way_of d) s c v) ≡ x → IsPlain x v) → ((o : Option ℕ) → is_for o v ≡ false) →
    ((x : Connect) → v ≡ request x → ⊥) → Leaves d deeds known known (v ∷ rest) rest true false d at v s t
own_close_if d deeds known at v rest s t a plain not_for no_cr = record {
  all = λ e c j h. stands_elsewhere d deeds known v rest true c j (λ live. not_for (reference_of (other d) j)) h;
  elsewhere = search (arith, stands_elsewhere);
  here = search (arith, own_plain);
  asked_so = λ x number is. absurd (no_cr x is);
  others = λ x is c j h. absurd (no_cr x is);
  moves = λ x is j h. h;
  keeps = λ i j here h. h;
}

pub own_close : (d : Direction) (deeds : ℕ → Deeds) (known : Known) (at : ℕ) (v : Value) (rest : List Value) (s : State) (t : Sessions) →
    AllStand d deeds known (v ∷ rest) true s t → ((b : Bool) → IsPlain b v) → ((o : Option ℕ) → is_for o v ≡ false) →
    ((x : Connect) → v ≡ request x → ⊥) → Leaves d deeds known known (v ∷ rest) rest true false d at v s t
own_close d deeds known at v rest s t a plain not_for no_cr = grind (arith, own_close_if)

-- ---- units of the other side

pub rests_on : (d : Direction) (deeds : ℕ → Deeds) (known then_known : Known) (j : Joined) →
    ((r : ℕ) (later : List Part) → reference_of d j ≡ Some r → known r later → then_known r later) → Rests d deeds known j →
    Rests d deeds then_known j
rests_on d deeds known then_known j keeps (quiet none mine theirs) = quiet none mine theirs
rests_on d deeds known then_known j keeps (rests r waiting later sure h) = rests r waiting later (keeps r later h.shown.named sure) h

-- what is known of the parts in flight at the other connections stays
pub record StaysElsewhere (d : Direction) (known then_known : Known) (v : Value) (s : State) (t : Sessions) : Type 0 where
  pub live : (p i : ℕ) (j : Joined) → (i ≡ p → ⊥) → (takes (way_of (other d)) v s).told.place ≡ Some p → slice_get t.live i ≡ Some j →
      (r : ℕ) (later : List Part) → reference_of d j ≡ Some r → known r later → then_known r later
  pub done : (i : ℕ) (j : Joined) → slice_get t.done i ≡ Some j → (r : ℕ) (later : List Part) → reference_of d j ≡ Some r →
      known r later → then_known r later

-- and at its own connection, if the unit has no effect and the connection is judged after it
abbrev pub StaysThere : Direction → Known → Known → Value → State → Sessions → Type 0
StaysThere d known then_known v s t = (p : ℕ) (c : Connection) (j : Joined) → (takes (way_of (other d)) v s).told.place ≡ Some p →
    slice_get s.connections p ≡ Some c → slice_get t.live p ≡ Some j → c.is_judged ≡ true →
    (takes (way_of (other d)) v s).told.finding ≡ found_on (way_of (other d)) s c v →
    is_applied (takes (way_of (other d)) v s).told.finding ≡ false →
    ((takes (way_of (other d)) v s).told.reach ≡ reach.Connection → ⊥) →
    (r : ℕ) (later : List Part) → reference_of d j ≡ Some r → known r later → then_known r later

-- a DT
pub other_dt : (d : Direction) (deeds : ℕ → Deeds) (known then_known : Known) (at n number : ℕ) (end : Bool) (user : List ℕ)
    (put : List Value) (b : Bool) (s : State) (t : Sessions) → AllStand d deeds known put b s t →
    is_stopped (way_of (other d)) s.course ≡ false → (class_for (way_of (other d)) s.course ≡ Some Zero → ⊥) →
    ((takes (way_of (other d)) (data2 n number end user) s).told.reach ≡ reach.Everything → ⊥) →
    ((later : List Part) → known n later → then_known n (later ++ (end, user) ∷ [])) →
    StaysElsewhere d known then_known (data2 n number end user) s t → StaysThere d known then_known (data2 n number end user) s t →
    Leaves d deeds known then_known put put b b (other d) at (data2 n number end user) s t
other_dt d deeds known then_known at n number end user put b s t a goes two on grows stays there_too = record {
  all = λ e c j h. link_placed (way_of (other d)) (data2 n number end user) n s (dt number end user refl) goes two on e;
  elsewhere = λ p i first c k j apart place there one at_k finding at_c at_j another judged h.
      stands_other_none d deeds known then_known put b c c j j (like_same d j) refl refl (stays.live p i j apart place at_j) h;
  here = λ p c j x r place there at_j one finding is far goes_on judged h.
      by x p c j r is place there at_j one finding (λ e. goes_on (sym far ∙ e)) judged h;
  asked_so = λ x number is. absurd (cc);
  others = λ x is c j h. absurd (cc);
  moves = λ x is j h. absurd (cc);
  keeps = λ i j here h. rests_on d deeds known then_known j (stays.done i j here) h;
}
  where
    by : (x : Bool) (p : ℕ) (c : Connection) (j : Joined) (r : Reach) →
        is_applied (found_on (way_of (other d)) s c (data2 n number end user)) ≡ x →
        (takes (way_of (other d)) (data2 n number end user) s).told.place ≡ Some p → slice_get s.connections p ≡ Some c →
        slice_get t.live p ≡ Some j → IsOneOf c j →
        (takes (way_of (other d)) (data2 n number end user) s).told.finding ≡ found_on (way_of (other d)) s c (data2 n number end user) →
        ((takes (way_of (other d)) (data2 n number end user) s).told.reach ≡ reach.Connection → ⊥) → c.is_judged ≡ true →
        Stands d deeds known put b c j →
        Stands d deeds then_known put b (connection_after (way_of (other d)) (data2 n number end user) x r c)
        (joined.meant (other d) at (data2 n number end user) (meaning_if x (meant (data2 n number end user))) j)
    by false p c j r is place there at_j one finding goes_on judged h =
        stands_other_none d deeds known then_known put b c (connection_after (way_of (other d)) (data2 n number end user) false r c) j j
        (like_same d j) refl (ap (λ (y : Half). y.phase) (other_after d (data2 n number end user) false r c))
        (there_too p c j place there at_j judged finding (ap is_applied finding ∙ is) goes_on) h
    by true p c j r is place there at_j one finding goes_on judged h =
        other_part d deeds known then_known at n number end user put b r c j
        (sym (grind arith) ∙ named_there (other d) n c j one judged
        (names_there (way_of (other d)) (data2 n number end user) s n p c there refl place)) grows h

-- what is neither a DT, nor a CC that has its effect, nor a CR
pub other_close_if : (d : Direction) (deeds : ℕ → Deeds) (known then_known : Known) (at : ℕ) (v : Value) (put : List Value) (b : Bool)
    (s : State) (t : Sessions) → AllStand d deeds known put b s t →
    ((c : Connection) (x : Bool) → is_applied (found_on (way_of (other d)) s c v) ≡ x → IsPlain x v) →
    ((x : Connect) → v ≡ request x → ⊥) → ((r : ℕ) (later : List Part) → known r later → then_known r later) →
    Leaves d deeds known then_known put put b b (other d) at v s t
other_close_if d deeds known then_known at v put b s t a plain no_cr stays = record {
  all = λ e c j h. stands_other_none d deeds known then_known put b c c j j (like_same d j) refl refl (λ r later is. stays r later) h;
  elsewhere = λ p i first c k j apart place there one at_k finding at_c at_j another judged h.
      stands_other_none d deeds known then_known put b c c j j (like_same d j) refl refl (λ r later is. stays r later) h;
  here = search (arith, other_plain);
  asked_so = λ x number is. absurd (no_cr x is);
  others = λ x is c j h. absurd (no_cr x is);
  moves = λ x is j h. absurd (no_cr x is);
  keeps = λ i j here h. rests_on d deeds known then_known j (λ r later is. stays r later) h;
}

pub other_close : (d : Direction) (deeds : ℕ → Deeds) (known then_known : Known) (at : ℕ) (v : Value) (put : List Value) (b : Bool)
    (s : State)
    (t : Sessions) → AllStand d deeds known put b s t → ((x : Bool) → IsPlain x v) → ((x : Connect) → v ≡ request x → ⊥) →
    ((r : ℕ) (later : List Part) → known r later → then_known r later) → Leaves d deeds known then_known put put b b (other d) at v s t
other_close d deeds known then_known at v put b s t a plain no_cr stays = grind (arith, other_close_if)
