-- A CR and a CC leave all connections of an end standing at a judge: those of the end, and those of the other side.
-- For the session of each connection of an end.
use Rattle.osi_blameless.proofs.Vocabulary.{[], ap, arith, Bool, false, List, map, None, Option, refl, Some, subst, sym, true, ℕ, ◌++◌, ◌∙◌}
use Rattle.osi_blameless.proofs.Vocabulary.{◌∷◌, ◌≡◌, slice_get, confirm, Connect, request, Value, parts_in, Part, Class, is_applied}
use Rattle.osi_blameless.proofs.Vocabulary.{is_open, asked_by, connection_after, found_on, meaning_if, meant, Traffic as State, takes}
use Rattle.osi_blameless.proofs.Vocabulary.{Connection, Reach, Half, other, Direction, Left, Right, Deeds, said_in, asked, Joined, opened}
use Rattle.osi_blameless.proofs.Vocabulary.{reference_of, Sessions, spoken, Spoken, All, applied_found, picked_first, picked_rest}
use Rattle.osi_blameless.proofs.Vocabulary.{all_before, AreAfter, before_begun, before_of, IsShownNow, IsOneOf, and_false, no_list}
use Rattle.osi_rules.specs.declared.directions.Direction.TheVariants as way
use Rattle.osi_judge.specs.Connections.{class_of}
use Rattle.osi_judge.specs.Connections as joined
use Rattle.osi_blameless.proofs.small_facts_that_many_lemmas_use.{not_some}
use Rattle.osi_blameless.proofs.standing.all_connections_stand.{AllStand, Leaves, like_same, other_after, other_plain, own_after, own_plain}
use Rattle.osi_blameless.proofs.shown.connections_have_the_same_places.{none_given}
use Rattle.osi_blameless.proofs.standing.right_units_leave_all_standing.{rests_on}
use Rattle.osi_blameless.proofs.standing.what_stands_of_a_connection.{IsLike, IsUnsaid, Known, Stands, is_for, is_next, is_part, like_shown}
use Rattle.osi_blameless.proofs.standing.what_stands_of_a_connection.{lives, no_next, past, stands_elsewhere, stands_other_none, unnamed}
use Rattle.osi_blameless.proofs.standing.what_stands_of_a_connection.{waiting_for}

-- ---- a connection at its beginning

none_before : (s : Spoken) → IsUnsaid s → all_before s ≡ []
none_before s u = (λ i. map before_of (u.said i) ++ before_begun (u.begun i))

-- nothing has passed of what was put, and nothing was taken
pub starts_shown : (d : Direction) (r : ℕ) (deeds : Deeds) (waiting : List Value) (j : Joined) → reference_of d j ≡ Some r →
    IsUnsaid (spoken d j) → IsUnsaid (spoken (other d) j) → j.room ≡ All → deeds.put ≡ waiting → parts_in deeds.calls ≡ [] →
    IsShownNow d r deeds waiting [] false j
starts_shown d r deeds waiting j named mine theirs room put none = record {
  shown = record {
    named = named;
    passed = [];
    waiting = waiting;
    put = put;
    said = grind arith;
    after = subst (λ (l : List ℕ). AreAfter l (said_in 0 deeds.calls)) (sym (none_before (spoken d j) mine)) tt;
    so_far = grind (arith, none_before);
    later = [];
    came = grind arith;
  };
  waiting_is = refl;
  later_is = refl;
  since = (let zero_is = mine.since in omega (arith, zero_is));
  next = λ e. absurd (cc);
  room = room;
}

pub none_for : (put : List Value) → waiting_for None put ≡ []
none_for [] = refl
none_for (v ∷ put) = picked_rest (is_for None) v put (grind arith) ∙ none_for put

-- ---- a CR

-- of a calling end: nothing is done there yet
pub own_cr : (deeds : ℕ → Deeds) (known : Known) (at : ℕ) (x : Connect) (rest : List Value) (s : State) (t : Sessions) →
    (deeds x.source).put ≡ [] → parts_in (deeds x.source).calls ≡ [] → known x.source [] →
    Leaves Left deeds known known (request x ∷ rest) rest true false Left at (request x) s t
own_cr deeds known at x rest s t put none sure = record {
  all = λ e c j h. stands_elsewhere Left deeds known (request x) rest true c j (λ live. refl) h;
  elsewhere = search (arith, stands_elsewhere);
  here = λ p c j b r place there at_j one finding is far on judged h. own_plain Left deeds known at (request x) rest b true r c j tt h;
  asked_so = λ y number is. asked_one y number (request_is x y is);
  others = λ y is c j h. stands_elsewhere Left deeds known (request x) rest true c j (λ live. refl) h;
  moves = λ y is j h. h;
  keeps = λ i j here h. h;
}
  where
    request_is : (x y : Connect) → request x ≡ request y → x ≡ y
    request_is x y e = cc

    asked_one : (y : Connect) (number : ℕ) → x ≡ y → Stands Left deeds known rest false (asked_by y) (asked number y.source All)
    asked_one y number same =
        subst (λ (z : Connect). Stands Left deeds known rest false (asked_by z) (asked number z.source All)) same
        (lives x.source None refl refl [] sure
        (search (arith, none_for, starts_shown)))

-- ---- a CC

-- of a called end: what it has put there is what waits after the CC
pub own_cc : (deeds : ℕ → Deeds) (known : Known) (at n : ℕ) (x : Connect) (rest : List Value) (s : State) (t : Sessions) →
    ((p : ℕ) (j : Joined) → (takes way.Right (confirm n x) s).told.place ≡ Some p → slice_get t.live p ≡ Some j →
    (deeds x.source).put ≡ waiting_for (Some j.calling) rest) → parts_in (deeds x.source).calls ≡ [] → known x.source [] →
    AllStand Right deeds known (confirm n x ∷ rest) true s t →
    Leaves Right deeds known known (confirm n x ∷ rest) rest true false Right at (confirm n x) s t
own_cc deeds known at n x rest s t put none sure a = record {
  all = λ e c j h. stands_elsewhere Right deeds known (confirm n x) rest true c j (λ live. refl) h;
  elsewhere = search (arith, stands_elsewhere);
  here = λ p c j b r place there at_j one finding is far on judged h. by b p c j r is place at_j one h;
  asked_so = λ y number is. absurd (cc);
  others = λ y is c j h. absurd (cc);
  moves = λ y is j h. h;
  keeps = λ i j here h. h;
}
  where
    opens : (p : ℕ) (c : Connection) (j : Joined) (r : Reach) → (takes way.Right (confirm n x) s).told.place ≡ Some p →
        slice_get t.live p ≡ Some j → j.called ≡ None → Stands Right deeds known (confirm n x ∷ rest) true c j →
        Stands Right deeds known rest false (connection_after way.Right (confirm n x) true r c) (opened x.source (class_of (confirm n x)) j)
    opens p c j r place at_j un (unnamed is mine theirs room) =
        lives x.source (Some j.calling) refl (ap (λ (y : Half). is_open y.phase) (own_after Right (confirm n x) r c)) [] sure
        (search (arith, waiting_for, starts_shown))
    opens p c j r place at_j un (lives q o is live later know h) = not_some j.called q h.shown.named un
    opens p c j r place at_j un (past q closed waiting later know h) = not_some j.called q h.shown.named un

    by : (b : Bool) (p : ℕ) (c : Connection) (j : Joined) (r : Reach) → is_applied (found_on way.Right s c (confirm n x)) ≡ b →
        (takes way.Right (confirm n x) s).told.place ≡ Some p → slice_get t.live p ≡ Some j → IsOneOf c j →
        Stands Right deeds known (confirm n x ∷ rest) true c j →
        Stands Right deeds known rest false (connection_after way.Right (confirm n x) b r c)
        (joined.meant Right at (confirm n x) (meaning_if b (meant (confirm n x))) j)
    by false p c j r is place at_j one h = own_plain Right deeds known at (confirm n x) rest false true r c j refl h
    by true p c j r is place at_j one h = opens p c j r place at_j (grind (arith, applied_found, none_given)) h

-- of no unit that waits none is the next
next_none : (o : Option ℕ) (b : Bool) (put : List Value) → waiting_for o put ≡ [] → is_next o b put ≡ false
next_none o b put none = grind (arith, and_false, is_for, is_next, no_list, waiting_for, picked_first, is_part)

like_opened : (called : ℕ) (class : Class) (j : Joined) → IsLike Left j (opened called class j)
like_opened called class j = record { own_is = refl; theirs = refl; named = refl; room = refl }

-- that comes to a calling end: no unit of the end is for this reference yet
pub other_cc : (deeds : ℕ → Deeds) (known then_known : Known) (at n : ℕ) (x : Connect) (put : List Value) (b : Bool) (s : State)
    (t : Sessions) → (is_applied (takes way.Right (confirm n x) s).told.finding ≡ true → waiting_for (Some x.source) put ≡ []) →
    ((r : ℕ) (later : List Part) → known r later → then_known r later) →
    Leaves Left deeds known then_known put put b b Right at (confirm n x) s t
other_cc deeds known then_known at n x put b s t unheard stays = record {
  all = λ e c j h. stands_other_none Left deeds known then_known put b c c j j (like_same Left j) refl refl (λ r later is. stays r later) h;
  elsewhere = search (arith, stands_other_none, like_same);
  here = λ p c j y r place there at_j one finding is far on judged h.
      by y c j r is one (λ applied. ap is_applied finding ∙ applied) h;
  asked_so = λ y number is. absurd (cc);
  others = λ y is c j h. absurd (cc);
  moves = λ y is j h. absurd (cc);
  keeps = λ i j here h. rests_on Left deeds known then_known j (λ r later is. stays r later) h;
}
  where
    opens : (c : Connection) (j : Joined) (r : Reach) → j.called ≡ None → waiting_for (Some x.source) put ≡ [] →
        Stands Left deeds known put b c j →
        Stands Left deeds then_known put b (connection_after way.Right (confirm n x) true r c) (opened x.source (class_of (confirm n x)) j)
    opens c j r un none_waits (unnamed is mine theirs room) = absurd (cc)
    opens c j r un none_waits (lives q o is live later sure h) =
        let k = opened x.source (class_of (confirm n x)) j in
        let none : waiting_for o put ≡ waiting_for (Some x.source) put =
        ap (λ (y : Option ℕ). waiting_for y put) (sym is ∙ un) ∙ none_for put ∙ sym none_waits in
        let goes = like_shown Left q (deeds q) (waiting_for (Some x.source) put) later false j k
        (like_opened x.source (class_of (confirm n x)) j)
        (subst (λ (l : List Value). IsShownNow Left q (deeds q) l later false j) none
        (no_next Left q (deeds q) (waiting_for o put) later (is_next o b put) j h)) in
        lives q (Some x.source) refl (ap (λ (y : Half). is_open y.phase) (other_after Left (confirm n x) true r c) ∙ live) later
        (stays q later sure)
        (search (arith, waiting_for, next_none))
    opens c j r un none_waits (past q closed waiting later sure h) =
        past q (ap (λ (y : Half). is_open y.phase) (other_after Left (confirm n x) true r c) ∙ closed) waiting later (stays q later sure)
        (search (arith, like_shown, like_opened))

    by : (y : Bool) (c : Connection) (j : Joined) (r : Reach) → is_applied (found_on way.Right s c (confirm n x)) ≡ y → IsOneOf c j →
        (is_applied (found_on way.Right s c (confirm n x)) ≡ true → is_applied (takes way.Right (confirm n x) s).told.finding ≡ true) →
        Stands Left deeds known put b c j →
        Stands Left deeds then_known put b (connection_after way.Right (confirm n x) y r c)
        (joined.meant Right at (confirm n x) (meaning_if y (meant (confirm n x))) j)
    by false c j r is one told h =
        other_plain Left deeds known then_known at (confirm n x) put false b r c j refl (λ m later e. stays m later) h
    by true c j r is one told h = opens c j r (grind (arith, applied_found, none_given)) (unheard (told is)) h
