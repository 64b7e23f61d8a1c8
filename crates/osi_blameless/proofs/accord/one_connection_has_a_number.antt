-- One connection has a number, and what both sides said on it goes on as more passes.
-- For the law that two kept sides are a pair.
use Rattle.osi_blameless.proofs.accord.Vocabulary.{[], ap, append-nil, append_assoc, arith, Bool, cond, false, filter, filter-append, find}
use Rattle.osi_blameless.proofs.accord.Vocabulary.{length-append, length-map, length-set, List, map, None, Option, refl, set, slice_get}
use Rattle.osi_blameless.proofs.accord.Vocabulary.{Some, subst}
use Rattle.osi_blameless.proofs.accord.Vocabulary.{suc, sym, true, zero, ℕ, ◌++◌, ◌+◌, ◌-◌, ◌<◌, ◌^◌, ◌∙◌, ◌∷◌, ◌≡◌, ◌≤◌, eqb-true}
use Rattle.osi_blameless.proofs.accord.Vocabulary.{Direction}
use Rattle.osi_blameless.proofs.accord.Vocabulary.{all_begin, asked, changed, count, has_number, IsClaim, Joined, source_of, meant, none}
use Rattle.osi_blameless.proofs.accord.Vocabulary.{numbered}
use Rattle.osi_blameless.proofs.accord.Vocabulary.{offset_of, packet_begins, placed, Sessions, silent, taken, taken_at, Value, Turn, Room}
use Rattle.osi_blameless.proofs.accord.what_both_sides_said_has_an_order.{begins_on, GoesOn, IsOrder, meant_on}
use Rattle.osi_rules.specs.declared.findings.Meaning.{Meaning}
use Rattle.osi_rules.specs.declared.findings.Meaning.TheVariants.{Asks}

-- those with a number
abbrev ours : ℕ → List Joined → List Joined
ours n js = filter (has_number n) js

abbrev all_ours : ℕ → Sessions → List Joined
all_ours n s = ours n s.live ++ ours n s.done

-- at most one connection, and these are the TSDUs of both sides of it
abbrev Only : List Turn → List Joined → Type 0
Only turns [] = turns ≡ []
Only turns (j ∷ []) = IsOrder turns j
Only turns (i ∷ j ∷ js) = ⊥

-- Of the connection with this number these are the TSDUs; there is none before so many were requested.
pub record Tells (n : ℕ) (turns : List Turn) (s : Sessions) : Type 0 where
  pub new : count s ≤ n → all_ours n s ≡ []
  pub only : Only turns (all_ours n s)

-- and with these more
pub record Later (n : ℕ) (turns : List Turn) (s : Sessions) : Type 0 where
  pub more : List Turn
  pub tells : Tells n (turns ++ more) s

pub same_later : (n : ℕ) (turns : List Turn) (s : Sessions) → Tells n turns s → Later n turns s
same_later n turns s h = record { more = []; tells = rw (append-nil turns) h }

later_still : (n : ℕ) (turns more : List Turn) (s : Sessions) → Later n (turns ++ more) s → Later n turns s
later_still n turns more s h = record {
  more = more ++ h.more;
  tells = subst (λ (x : List Turn). Tells n x s) (append_assoc turns more h.more) h.tells;
}

-- ---- one among others

-- the one that has the number is the only one
record IsAlone (turns : List Turn) (before : List Joined) (j : Joined) (after done : List Joined) : Type 0 where
  before_none : before ≡ []
  after_none : after ≡ []
  done_none : done ≡ []
  is : IsOrder turns j

alone : (turns : List Turn) (before : List Joined) (j : Joined) (after done : List Joined) →
    Only turns ((before ++ j ∷ after) ++ done) → IsAlone turns before j after done
alone turns [] j [] [] h = record { before_none = refl; after_none = refl; done_none = refl; is = h }
alone turns [] j [] (d ∷ done) h = absurd h
alone turns [] j (a ∷ after) done h = absurd h
alone turns (b ∷ []) j after done h = absurd h
alone turns (b ∷ c ∷ before) j after done h = absurd h

-- the list with one element at a place, or another in its place
record Parts (js : List Joined) (i : ℕ) (j : Joined) : Type 0 where
  before : List Joined
  after : List Joined
  is : js ≡ before ++ j ∷ after
  sets : (k : Joined) → set js i k ≡ before ++ k ∷ after

pub same_joined : (j k : Joined) → Some j ≡ Some k → j ≡ k
same_joined j k e = cc

parts : (js : List Joined) (i : ℕ) (j : Joined) → slice_get js i ≡ Some j → Parts js i j
parts [] i j e = absurd (cc)
parts (x ∷ js) zero j e = record {
  before = [];
  after = js;
  is = ap (λ (y : Joined). y ∷ js) (same_joined x j e);
  sets = λ k. refl;
}
parts (x ∷ js) (suc i) j e = let p = parts js i j e in record {
  before = x ∷ p.before;
  after = p.after;
  is = ap (λ (l : List Joined). x ∷ l) p.is;
  sets = λ k. ap (λ (l : List Joined). x ∷ l) (p.sets k);
}

-- those with the number, if the one in the middle has it or not
with_one : (n : ℕ) (before : List Joined) (j : Joined) (after : List Joined) → has_number n j ≡ true →
    ours n (before ++ j ∷ after) ≡ ours n before ++ j ∷ ours n after
with_one n before j after e = grind (arith, filter-append, cond)

without_one : (n : ℕ) (before : List Joined) (j : Joined) (after : List Joined) → has_number n j ≡ false →
    ours n (before ++ j ∷ after) ≡ ours n before ++ ours n after
without_one n before j after e = grind (arith, filter-append, cond)

none_joined : (before : List Joined) (j : Joined) (after done : List Joined) → (before ++ j ∷ after) ++ done ≡ [] → ⊥
none_joined [] j after done e = cc
none_joined (b ∷ before) j after done e = cc

-- ---- a packet begins

map_ours : (d : Direction) (n : ℕ) (js : List Joined) → ours n (map (packet_begins d) js) ≡ map (packet_begins d) (ours n js)
map_ours d n [] = refl
map_ours d n (j ∷ js) = grind (arith, cond, map_ours d n js)

map_only : (d : Direction) (turns : List Turn) (js ks : List Joined) → Only turns (js ++ ks) → Only turns (map (packet_begins d) js ++ ks)
map_only d turns [] ks h = h
map_only d turns (j ∷ []) [] h = begins_on d turns j h
map_only d turns (j ∷ []) (k ∷ ks) h = absurd h
map_only d turns (i ∷ j ∷ js) ks h = absurd h

map_none : (d : Direction) (js ks : List Joined) → js ++ ks ≡ [] → map (packet_begins d) js ++ ks ≡ []
map_none d [] ks e = e
map_none d (j ∷ js) ks e = absurd (cc)

begins_tells : (n : ℕ) (turns : List Turn) (d : Direction) (s : Sessions) → Tells n turns s → Tells n turns (all_begin d s)
begins_tells n turns d s h = record {
  new = λ l. rw (map_ours d n s.live) (map_none d (ours n s.live) (ours n s.done) (h.new (grind (arith, length-map))));
  only = rw (map_ours d n s.live) (map_only d turns (ours n s.live) (ours n s.done) h.only);
}

-- ---- a unit for one of them

-- how many were requested stays
same_count : (i : ℕ) (k : Joined) (s : Sessions) → count (record s { live = set s.live i k }) ≡ count s
same_count i k s = grind (arith, length-set)

module _ (n : ℕ) (turns : List Turn) (s : Sessions) (h : Tells n turns s) where
  module _ (i : ℕ) (j k : Joined) (p : Parts s.live i j) where
    abbrev front : List Joined
    front = ours n p.before

    abbrev back : List Joined
    back = ours n p.after

    abbrev over : List Joined
    over = ours n s.done

    with_old : has_number n j ≡ true → all_ours n s ≡ (front ++ j ∷ back) ++ over
    with_old e = ap (λ (x : List Joined). ours n x ++ over) p.is ∙ ap (λ (x : List Joined). x ++ over) (with_one n p.before j p.after e)

    without_old : has_number n j ≡ false → all_ours n s ≡ (front ++ back) ++ over
    without_old e =
        ap (λ (x : List Joined). ours n x ++ over) p.is ∙ ap (λ (x : List Joined). x ++ over) (without_one n p.before j p.after e)

    with_new : has_number n k ≡ true → ours n (set s.live i k) ≡ front ++ k ∷ back
    with_new e = ap (ours n) (p.sets k) ∙ with_one n p.before k p.after e

    without_new : has_number n k ≡ false → ours n (set s.live i k) ≡ front ++ back
    without_new e = ap (ours n) (p.sets k) ∙ without_one n p.before k p.after e

    old_alone : has_number n j ≡ true → IsAlone turns front j back over
    old_alone e = alone turns front j back over (subst (Only turns) (with_old e) h.only)

    change_by : (b : Bool) → has_number n j ≡ b → has_number n k ≡ b → (IsOrder turns j → GoesOn turns k) →
        Later n turns (record s { live = set s.live i k })
    change_by true e f g =
        let a = old_alone e in
        let on = g a.is in
        record {
          more = on.more;
          tells = record {
            new = λ l. absurd (none_joined front j back over (sym (with_old e) ∙ h.new (grind (arith, same_count))));
            only = rw (with_new f, a.before_none, a.after_none, a.done_none) on.is;
          };
        }
    change_by false e f g = same_later n turns (record s { live = set s.live i k }) (record {
      new = λ l. rw (without_new f) (sym (without_old e) ∙ h.new (grind (arith, same_count)));
      only = rw (without_new f) (subst (Only turns) (without_old e) h.only);
    })

  changed_by : (i : ℕ) (f : Joined → Joined) → ((j : Joined) → has_number n (f j) ≡ has_number n j) →
      ((j : Joined) → IsOrder turns j → GoesOn turns (f j)) → (o : Option Joined) → slice_get s.live i ≡ o → Later n turns (changed i f s o)
  changed_by i f same on None e = same_later n turns s h
  changed_by i f same on (Some j) e = change_by i j (f j) (parts s.live i j e) (has_number n j) refl (same j) (on j)

  -- ---- a connection is requested

  -- the number of the next one, if it is below 2^64 - 1, is how many were requested
  next_number : n < 2 ^ 64 - 1 → offset_of (count s) ≡ n → count s ≡ n
  next_number l e = omega arith

  none_ours : count s ≡ n → all_ours n s ≡ []
  none_ours e = h.new (omega arith)

  no_turns : (js : List Joined) → js ≡ [] → Only turns js → turns ≡ []
  no_turns js e o = subst (Only turns) e o

  front_none : (js ks : List Joined) → js ++ ks ≡ [] → js ≡ []
  front_none [] ks e = refl
  front_none (j ∷ js) ks e = absurd (cc)

  back_none : (js ks : List Joined) → js ++ ks ≡ [] → ks ≡ []
  back_none [] ks e = e
  back_none (j ∷ js) ks e = absurd (cc)

  -- the one that is requested
  module _ (k : Joined) (l : k.left ≡ silent) (r : k.right ≡ silent) where
    first_order : IsOrder [] k
    first_order = grind arith

    first_later : (t : Sessions) → turns ≡ [] → (count t ≤ n → ⊥) → all_ours n t ≡ k ∷ [] → Later n turns t
    first_later t e more is = record {
      more = [];
      tells = record {
        new = λ less. absurd (more less);
        only = rw (is, e) first_order;
      };
    }

    is_first : count s ≡ n → turns ≡ []
    is_first e = no_turns (all_ours n s) (none_ours e) h.only

    -- at a place of its own
    new_by : (b : Bool) → has_number n k ≡ b → (b ≡ true → count s ≡ n) → Later n turns (record s { live = s.live ++ k ∷ [] })
    new_by true e c =
        let none = none_ours (c refl) in
        first_later (record s { live = s.live ++ k ∷ [] }) (is_first (c refl)) (λ less. grind (arith, length-append))
        (rw (
          with_one n s.live k [] e,
          front_none (ours n s.live) (ours n s.done) none,
          back_none (ours n s.live) (ours n s.done) none,
        ) refl)
    new_by false e c = same_later n turns (record s { live = s.live ++ k ∷ [] }) (record {
      new = λ less. rw (without_one n s.live k [] e, append-nil (ours n s.live)) (h.new (grind (arith, length-append)));
      only = rw (without_one n s.live k [] e, append-nil (ours n s.live)) h.only;
    })

    -- at the place of another
    module _ (i : ℕ) (j : Joined) (p : Parts s.live i j) where
      abbrev after : Sessions
      after = record s { live = set s.live i k; done = s.done ++ j ∷ [] }

      one_count : count after ≡ count s + 1
      one_count = grind (arith, length-set, length-append)

      over_by : (b a : Bool) → has_number n k ≡ b → has_number n j ≡ a → (b ≡ true → count s ≡ n) → Later n turns after
      over_by true true e f c =
          absurd (none_joined (front i j k p) j (back i j k p) (over i j k p) (sym (with_old i j k p f) ∙ none_ours (c refl)))
      over_by true false e f c =
          let none = sym (without_old i j k p f) ∙ none_ours (c refl) in
          let both = front_none (front i j k p ++ back i j k p) (over i j k p) none in
          first_later after (is_first (c refl)) (λ less. let more = one_count in let so = c refl in omega arith)
          (rw (
            with_new i j k p e,
            without_one n s.done j [] f,
            front_none (front i j k p) (back i j k p) both,
            back_none (front i j k p) (back i j k p) both,
            back_none (front i j k p ++ back i j k p) (over i j k p) none,
          ) refl)
      over_by false true e f c =
          let a = old_alone i j k p f in
          same_later n turns after (record {
            new = λ less.
                let more = one_count in
                let none = sym (with_old i j k p f) ∙ h.new (omega arith) in
                absurd (none_joined (front i j k p) j (back i j k p) (over i j k p) none);
            only = rw (without_new i j k p e, with_one n s.done j [] f, a.before_none, a.after_none, a.done_none) a.is;
          })
      over_by false false e f c = same_later n turns after (record {
        new = λ less.
            let more = one_count in
            rw (without_new i j k p e, without_one n s.done j [] f, append-nil (over i j k p))
            (sym (without_old i j k p f) ∙ h.new (omega arith));
        only = rw (without_new i j k p e, without_one n s.done j [] f, append-nil (over i j k p))
            (subst (Only turns) (without_old i j k p f) h.only);
      })

  has_next : (calling : ℕ) (room : Room) → n < 2 ^ 64 - 1 → has_number n (asked (offset_of (count s)) calling room) ≡ true → count s ≡ n
  has_next calling room l e = grind (arith, next_number, eqb-true)

  asked_by : (i calling : ℕ) → n < 2 ^ 64 - 1 → (o : Option Joined) → slice_get s.live i ≡ o →
      Later n turns (placed i (asked (offset_of (count s)) calling s.room) s o)
  asked_by i calling l None e =
      let k = asked (offset_of (count s)) calling s.room in
      new_by k refl refl (has_number n k) refl (has_next calling s.room l)
  asked_by i calling l (Some j) e =
      let k = asked (offset_of (count s)) calling s.room in
      over_by k refl refl i j (parts s.live i j e) (has_number n k) (has_number n j) refl refl (has_next calling s.room l)

  same_number : (d : Direction) (at : ℕ) (v : Value) (m : Meaning) (j : Joined) → has_number n (meant d at v m j) ≡ has_number n j
  same_number d at v m j = grind arith

  takes_at : (d : Direction) (at : ℕ) (v : Value) (m : Meaning) (i : ℕ) → n < 2 ^ 64 - 1 → Later n turns (taken_at d at v m i s)
  takes_at d at v Asks i l = asked_by i (source_of v) l (slice_get s.live i) refl
  takes_at d at v m i l = changed_by i (meant d at v m) (same_number d at v m) (meant_on d at v m turns) (slice_get s.live i) refl

  takes_tells : (d : Direction) (at : ℕ) (v : Value) (m : Meaning) (place : Option ℕ) → n < 2 ^ 64 - 1 →
      Later n turns (taken d at v m place s)
  takes_tells d at v m None l = same_later n turns s h
  takes_tells d at v m (Some i) l = takes_at d at v m i l

pub later_claim : (n : ℕ) (turns : List Turn) → n < 2 ^ 64 - 1 → IsClaim (Later n turns)
later_claim n turns l = record {
  begins = λ d s h. record { more = h.more; tells = begins_tells n (turns ++ h.more) d s h.tells };
  takes = λ d at v m place s h.
      later_still n turns h.more (taken d at v m place s) (takes_tells n (turns ++ h.more) s h.tells d at v m place l);
}

-- ---- what is told of the one with a number

by_first : (b : Bool) (x j : Joined) (o : Option Joined) (js : List Joined) → cond b (Some x) o ≡ Some j →
    (o ≡ Some j → (rest : List Joined) × (js ≡ j ∷ rest)) → (rest : List Joined) × (cond b (x ∷ js) js ≡ j ∷ rest)
by_first true x j o js e f = (js, ap (λ (y : Joined). y ∷ js) (same_joined x j e))
by_first false x j o js e f = f e

first_found : (n : ℕ) (js : List Joined) (j : Joined) → find (has_number n) js ≡ Some j → (rest : List Joined) × (ours n js ≡ j ∷ rest)
first_found n [] j e = absurd (cc)
first_found n (x ∷ js) j e = by_first (has_number n x) x j (find (has_number n) js) (ours n js) e (first_found n js j)

only_first : (turns : List Turn) (j : Joined) (rest : List Joined) → Only turns (j ∷ rest) → IsOrder turns j
only_first turns j [] h = h
only_first turns j (k ∷ rest) h = absurd h

pub told_of_one : (n : ℕ) (turns : List Turn) (s : Sessions) (j : Joined) → Tells n turns s → numbered n s ≡ Some j → IsOrder turns j
told_of_one n turns s j h e =
    let f = first_found n (s.live ++ s.done) j e in
    only_first turns j f.0 (subst (Only turns) (sym (filter-append (has_number n) s.live s.done) ∙ f.1) h.only)

pub nothing_told : (n : ℕ) (room : Room) → Tells n [] (record none { room = room })
nothing_told n room = record { new = λ l. refl; only = refl }
