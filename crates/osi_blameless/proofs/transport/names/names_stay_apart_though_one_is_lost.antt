-- The references that a side gives stay apart too if a connection has lost its judgement, since that side broke a rule of it in class 2.
-- For the laws on whole ends. To a called end left gives references, by its CRs; to a calling end right does, by its CCs.
use Rattle.osi_blameless.proofs.transport.Vocabulary.{arith, [], ap, Bool, false, inl, inr, length, List, map, None, Option, refl, set}
use Rattle.osi_blameless.proofs.transport.Vocabulary.{Some, subst, sym}
use Rattle.osi_blameless.proofs.transport.Vocabulary.{true, ℕ, ◌++◌, ◌∙◌, ◌∷◌, ◌≡◌, ◌⊎◌, eqb-true, list_any, nat_le, not, slice_get, ◌&&◌}
use Rattle.osi_blameless.proofs.transport.Vocabulary.{◌==◌, confirm}
use Rattle.osi_blameless.proofs.transport.Vocabulary.{Connect, Value, Class, is_applied, reach_of, begins, code_named, is_inside, is_named}
use Rattle.osi_blameless.proofs.transport.Vocabulary.{is_offered}
use Rattle.osi_blameless.proofs.transport.Vocabulary.{is_over, is_over_by, is_silent, other, own, seen, uses, asked_by, connection_after}
use Rattle.osi_blameless.proofs.transport.Vocabulary.{found, found_on}
use Rattle.osi_blameless.proofs.transport.Vocabulary.{judged_on, placed, sent_on, Traffic as State, uses_source, Connection, Direction}
use Rattle.osi_blameless.proofs.transport.Vocabulary.{Left, Right}
use Rattle.osi_blameless.proofs.transport.Vocabulary.{Finding, Reach}
use Rattle.osi_rules.specs.declared.findings.Reach.TheVariants as reach
use Rattle.osi_blameless.proofs.transport.small_facts_that_many_lemmas_use.{differ}
use Rattle.osi_blameless.proofs.transport.names.what_holds_of_one_item.{HoldsOfEach, after_add, after_map, after_set, none_true}
use Rattle.osi_blameless.proofs.transport.names.when_a_connection_has_a_name.{earlier_same}
use Rattle.osi_blameless.proofs.transport.names.what_keeps_names_apart.{AreApart, Lessens, Sound}
use Rattle.osi_blameless.proofs.transport.names.a_reference_names_one_connection.{applied_found, applied_judged, confirm_test, left_sent}
use Rattle.osi_blameless.proofs.transport.names.a_reference_names_one_connection.{not_true, right_goes}
use Rattle.osi_blameless.proofs.transport.small_facts_that_many_lemmas_use.{and_second as last_of}
use Rattle.osi_blameless.proofs.transport.lines.an_open_end_is_fair.{sent_judged as judged_sent}

-- ---- what holds

-- the other side knows that this one gave the connection this reference, and it is not over for both
abbrev pub is_known : Direction → ℕ → Connection → Bool
is_known d n c =
    not (is_over d c && is_over (other d) c) && (not (is_silent (seen (other d) c).phase) && ((seen (other d) c).reference == n))

-- this holds of one connection at most, be they judged or not
abbrev pub OnlyOne : (Connection → Bool) → List Connection → Type 0
OnlyOne f cs = (i j : ℕ) (c e : Connection) → slice_get cs i ≡ Some c → slice_get cs j ≡ Some e → f c ≡ true → f e ≡ true → i ≡ j

-- of the references that this side has given
pub record AreNamedApart (d : Direction) (cs : List Connection) : Type 0 where
  pub lost : (i : ℕ) (c : Connection) → slice_get cs i ≡ Some c → c.is_judged ≡ false → Sound c
  pub used : (n : ℕ) → OnlyOne (uses d n) cs
  pub known : (n : ℕ) → OnlyOne (is_known d n) cs

-- ---- lists

module _ (f : Connection → Bool) (cs : List Connection) (p : ℕ) (new : Connection) (h : OnlyOne f cs) where
  changed_by : (old : Connection) → slice_get cs p ≡ Some old → (f new ≡ true → f old ≡ true) → (i j : ℕ) (c e : Connection) →
      ((i ≡ p) × (c ≡ new)) ⊎ (slice_get cs i ≡ Some c) → ((j ≡ p) × (e ≡ new)) ⊎ (slice_get cs j ≡ Some e) → f c ≡ true → f e ≡ true →
      i ≡ j
  changed_by old at was i j c e (inl (a, b)) (inl (x, y)) fc fe = a ∙ sym x
  changed_by old at was i j c e (inl (a, b)) (inr y) fc fe = grind arith
  changed_by old at was i j c e (inr y) (inl (a, b)) fc fe = grind arith
  changed_by old at was i j c e (inr x) (inr y) fc fe = h i j c e x y fc fe

  one_changed : (old : Connection) → slice_get cs p ≡ Some old → (f new ≡ true → f old ≡ true) → OnlyOne f (set cs p new)
  one_changed old at was i j c e x y = changed_by old at was i j c e (after_set cs p i new c x) (after_set cs p j new e y)

  new_by : ((i : ℕ) (c : Connection) → slice_get cs i ≡ Some c → f c ≡ true → f new ≡ true → ⊥) → (i j : ℕ) (c e : Connection) →
      ((i ≡ p) × (c ≡ new)) ⊎ (slice_get cs i ≡ Some c) → ((j ≡ p) × (e ≡ new)) ⊎ (slice_get cs j ≡ Some e) → f c ≡ true → f e ≡ true →
      i ≡ j
  new_by none i j c e (inl (a, b)) (inl (x, y)) fc fe = a ∙ sym x
  new_by none i j c e (inl (a, b)) (inr y) fc fe = absurd (none j e y fe (ap f (sym b) ∙ fc))
  new_by none i j c e (inr y) (inl (a, b)) fc fe = absurd (none i c y fc (ap f (sym b) ∙ fe))
  new_by none i j c e (inr x) (inr y) fc fe = h i j c e x y fc fe

  one_put : ((i : ℕ) (c : Connection) → slice_get cs i ≡ Some c → f c ≡ true → f new ≡ true → ⊥) → OnlyOne f (set cs p new)
  one_put none i j c e x y = new_by none i j c e (after_set cs p i new c x) (after_set cs p j new e y)

one_added : (f : Connection → Bool) (cs : List Connection) (new : Connection) → OnlyOne f cs →
    ((i : ℕ) (c : Connection) → slice_get cs i ≡ Some c → f c ≡ true → f new ≡ true → ⊥) → OnlyOne f (cs ++ new ∷ [])
one_added f cs new h none i j c e x y = search (arith, new_by, after_add)

one_mapped : (f k : Connection → Bool) (g : Connection → Connection) (cs : List Connection) → OnlyOne f cs →
    ((i : ℕ) (c : Connection) → slice_get cs i ≡ Some c → k (g c) ≡ true → f c ≡ true) → OnlyOne k (map g cs)
one_mapped f k g cs h was i j c e x y fc fe =
    let (c0, at, is) = after_map g cs i c x in
    let (e0, there, so) = after_map g cs j e y in
    h i j c0 e0 at there (was i c0 at (ap k (sym is) ∙ fc)) (was j e0 there (ap k (sym so) ∙ fe))

-- ---- each connection is sound

sound_by : (d : Direction) (cs : List Connection) (i : ℕ) (c : Connection) → AreApart cs → AreNamedApart d cs → slice_get cs i ≡ Some c →
    (b : Bool) → c.is_judged ≡ b → Sound c
sound_by d cs i c apart named at true is = apart.sound i c at is
sound_by d cs i c apart named at false is = named.lost i c at is

pub each_sound : (d : Direction) (cs : List Connection) → AreApart cs → AreNamedApart d cs → HoldsOfEach Sound cs
each_sound d cs apart named i c at = sound_by d cs i c apart named at c.is_judged refl

-- a unit of the other side with this reference is for one connection at most
named_known : (a b k : Bool) → (not b && k) ≡ true → (not (a && b) && k) ≡ true
named_known a b k h = grind arith

pub only_named : (d : Direction) (cs : List Connection) (n : ℕ) → AreNamedApart d cs → OnlyOne (is_named (other d) n) cs
only_named d cs n named i j c e x y fc fe = named.known n i j c e x y
    (named_known (is_over d c) (is_over (other d) c) (not (is_silent (seen (other d) c).phase) && ((seen (other d) c).reference == n)) fc)
    (named_known (is_over d e) (is_over (other d) e) (not (is_silent (seen (other d) e).phase) && ((seen (other d) e).reference == n)) fe)

-- ---- a packet begins

sound_begins : (e : Direction) (c : Connection) → Sound c → Sound (begins e c)
sound_begins e c s = grind (arith, earlier_same)

-- a packet of this side
own_used : (d : Direction) (n : ℕ) (c : Connection) → Sound c → uses d n (begins d c) ≡ true → uses d n c ≡ true
own_used d n c s h = search arith

own_known : (d : Direction) (n : ℕ) (c : Connection) → Sound c → is_known d n (begins d c) ≡ true → is_known d n c ≡ true
own_known Left n c s h = grind arith
own_known Right n c s h = grind arith

-- a packet of the other side
other_used : (d : Direction) (n : ℕ) (c : Connection) → uses d n (begins (other d) c) ≡ true → uses d n c ≡ true
other_used d n c h = grind arith

other_known : (d : Direction) (n : ℕ) (c : Connection) → Sound c → is_known d n (begins (other d) c) ≡ true → uses d n c ≡ true
other_known Left n c s h = grind arith
other_known Right n c s h = grind arith

module _ (d : Direction) (cs : List Connection) (apart : AreApart cs) (named : AreNamedApart d cs) where
  lost_begins : (e : Direction) (i : ℕ) (c : Connection) → slice_get (map (begins e) cs) i ≡ Some c → Sound c
  lost_begins e i c at =
      let (x, was, is) = after_map (begins e) cs i c at in
      subst Sound (sym is) (sound_begins e x (each_sound d cs apart named i x was))

  pub side_begins : AreNamedApart d (map (begins d) cs)
  side_begins = record {
    lost = λ i c at j. lost_begins d i c at;
    used = λ n. one_mapped (uses d n) (uses d n) (begins d) cs (named.used n)
        (λ i c at h. own_used d n c (each_sound d cs apart named i c at) h);
    known = λ n. one_mapped (is_known d n) (is_known d n) (begins d) cs (named.known n)
        (λ i c at h. own_known d n c (each_sound d cs apart named i c at) h);
  }

  pub end_begins : AreNamedApart d (map (begins (other d)) cs)
  end_begins = record {
    lost = λ i c at j. lost_begins (other d) i c at;
    used = λ n. one_mapped (uses d n) (uses d n) (begins (other d)) cs (named.used n) (λ i c at h. other_used d n c h);
    known = λ n. one_mapped (uses d n) (is_known d n) (begins (other d)) cs (named.used n)
        (λ i c at h. other_known d n c (each_sound d cs apart named i c at) h);
  }

-- ---- one connection changes

named_set : (d : Direction) (cs : List Connection) (p : ℕ) (c new : Connection) → AreNamedApart d cs → slice_get cs p ≡ Some c →
    (new.is_judged ≡ false → Sound new) → ((n : ℕ) → uses d n new ≡ true → uses d n c ≡ true) →
    ((n : ℕ) → is_known d n new ≡ true → is_known d n c ≡ true) → AreNamedApart d (set cs p new)
named_set d cs p c new named at sound used known = record {
  lost = λ i e there j. lost_by i e (after_set cs p i new e there) j;
  used = λ n. one_changed (uses d n) cs p new (named.used n) c at (used n);
  known = λ n. one_changed (is_known d n) cs p new (named.known n) c at (known n);
}
  where
    lost_by : (i : ℕ) (e : Connection) → ((i ≡ p) × (e ≡ new)) ⊎ (slice_get cs i ≡ Some e) → e.is_judged ≡ false → Sound e
    lost_by i e (inl (same, is)) j = subst Sound (sym is) (sound (ap (λ (x : Connection). x.is_judged) (sym is) ∙ j))
    lost_by i e (inr there) j = named.lost i e there j

-- what is not over for a side is not over for both
known_live : (a b k : Bool) → (a ≡ false) ⊎ (b ≡ false) → k ≡ true → (not (a && b) && k) ≡ true
known_live a b k h e = grind arith

-- what has its effect ends no judging
pub applied_ends_none : (k : Option Class) (f : Finding) → is_applied f ≡ true → reach_of k f ≡ reach.Nothing
applied_ends_none k f h = grind arith

seen_sent : (d : Direction) (v : Value) (c : Connection) → seen (other d) (sent_on d v c) ≡ seen (other d) c
seen_sent d v c = grind arith

less_used : (d : Direction) (c new : Connection) → Lessens c new → (n : ℕ) → new.is_judged ≡ true → uses d n new ≡ true → uses d n c ≡ true
less_used d c new l n j h = grind arith

-- it is judged no more
lost_used : (d : Direction) (n : ℕ) (c : Connection) → is_over d c ≡ false → uses d n (record c { is_judged = false }) ≡ true →
    uses d n c ≡ true
lost_used d n c live h = grind arith

lost_seen : (d : Direction) (c : Connection) → seen d (record c { is_judged = false }) ≡ seen d c
lost_seen d c = grind arith

live_by : (j over : Bool) → (j && over) ≡ false → j ≡ true → over ≡ false
live_by j over h k = grind arith

module _ (d : Direction) (s : State) (apart : AreApart s.connections) (named : AreNamedApart d s.connections) (p : ℕ) (c : Connection)
    (at : slice_get s.connections p ≡ Some c) where
  abbrev cs : List Connection
  cs = s.connections

  -- what the other side knows stays
  still_known : (new : Connection) → seen (other d) new ≡ seen (other d) c → (is_over d c ≡ false) ⊎ (is_over (other d) c ≡ false) →
      (n : ℕ) → is_known d n new ≡ true → is_known d n c ≡ true
  still_known new same live n h = grind (arith, known_live, last_of)

  -- a unit of this side that has no effect: the connection may be judged no more
  idle_set : (r : Reach) → is_over d c ≡ false → AreNamedApart d (set cs p (judged_on r c))
  idle_set reach.Connection live =
      search (
        arith,
        named_set,
        lost_used,
        each_sound d cs apart named p c at,
        still_known (record c { is_judged = false }) (lost_seen (other d) c) (inl live),
        lost_seen (other d) c,
      )
  idle_set _ live = named_set d cs p c c named at (named.lost p c at) (λ n h. h) (λ n h. h)

  -- one that has its effect, and gives no reference
  sends_set : (v : Value) → Lessens c (sent_on d v c) → c.is_judged ≡ true → is_over d c ≡ false →
      AreNamedApart d (set cs p (sent_on d v c))
  sends_set v l judged live =
      let j = judged_sent d v c ∙ judged in
      named_set d cs p c (sent_on d v c) named at (λ k. differ (sent_on d v c).is_judged j k)
      (λ n h. less_used d c (sent_on d v c) l n j h) (still_known (sent_on d v c) (seen_sent d v c) (inl live))

  -- whether it has its effect or not
  side_by : (v : Value) (k : Option Class) (b : Bool) → is_applied (found_on d s c v) ≡ b → is_over d c ≡ false →
      (is_applied (found_on d s c v) ≡ true → AreNamedApart d (set cs p (sent_on d v c))) →
      AreNamedApart d (set cs p (connection_after d v b (reach_of k (found_on d s c v)) c))
  side_by v k b e live applied = grind (arith, idle_set, set, applied_ends_none)

  -- a unit of the other side that is right
  pub end_set : (new : Connection) → is_over (other d) c ≡ false → new.is_judged ≡ true → c.is_judged ≡ true → own d new ≡ own d c →
      seen d new ≡ seen d c → seen (other d) new ≡ seen (other d) c → AreNamedApart d (set cs p new)
  end_set new live judged was same knows known = named_set d cs p c new named at (λ j. differ new.is_judged judged j)
      (grind arith)
      (still_known new known (inr live))

-- ---- a unit of left

pub left_set : (s : State) (apart : AreApart s.connections) → AreNamedApart Left s.connections → (p : ℕ) (c : Connection) →
    slice_get s.connections p ≡ Some c → (v : Value) (k : Option Class) → is_over Left c ≡ false →
    AreNamedApart Left (set s.connections p
    (connection_after Left v (is_applied (found_on Left s c v)) (reach_of k (found_on Left s c v)) c))
left_set s apart named p c at v k live = side_by Left s apart named p c at v k (is_applied (found_on Left s c v)) refl live (λ e.
    let j = applied_judged c.is_judged (found Left s.course (uses_source Left s.connections v) c v) e in
    let f = applied_found c.is_judged (found Left s.course (uses_source Left s.connections v) c v) e in
    sends_set Left s apart named p c at v (left_sent s.course (uses_source Left s.connections v) c v f j (apart.sound p c at j)
    (live_by c.is_judged (is_over_by c.left c.seen_by_left) live j)) j live)

-- ---- a unit of right

-- whether it is a CC
data Kind (v : Value) : Type 0 where
  is_cc : (m : ℕ) (x : Connect) → v ≡ confirm m x → Kind v
  no_cc : ((m : ℕ) (x : Connect) → v ≡ confirm m x → ⊥) → Kind v

kind_of : (v : Value) → Kind v
kind_of (confirm m x) = is_cc m x refl
kind_of v = no_cc (λ m x e. cc e)

module _ (s : State) (apart : AreApart s.connections) (named : AreNamedApart Right s.connections) (p : ℕ) (c : Connection)
    (at : slice_get s.connections p ≡ Some c) where
  -- a CC gives a reference that is in use nowhere
  given_free : (x : Connect) (new : Connection) → new.right.reference ≡ x.source →
      list_any (λ (e : Connection). uses Right x.source e) s.connections ≡ false → (n i : ℕ) (e : Connection) →
      slice_get s.connections i ≡ Some e → uses Right n e ≡ true → uses Right n new ≡ true → ⊥
  given_free x new is none n i e there h k =
      let same : new.right.reference ≡ n = grind (arith, eqb-true, last_of) in
      differ (uses Right n e) h (subst (λ (m : ℕ). uses Right m e ≡ false) (sym is ∙ same)
      (none_true (λ (e : Connection). uses Right x.source e) s.connections i e none there))

  opens_set : (m : ℕ) (x : Connect) → list_any (λ (e : Connection). uses Right x.source e) s.connections ≡ false → c.is_judged ≡ true →
      is_over Right c ≡ false → AreNamedApart Right (set s.connections p (sent_on Right (confirm m x) c))
  opens_set m x none judged live =
      let new = sent_on Right (confirm m x) c in
      record {
        lost = λ i e there j. lost_by i e (after_set s.connections p i new e there) j;
        used = λ n. one_put (uses Right n) s.connections p new (named.used n)
            (λ i e there h k. given_free x new refl none n i e there h k);
        known = λ n. one_changed (is_known Right n) s.connections p new (named.known n) c at
            (still_known Right s apart named p c at new refl (inl live) n);
      }
    where
      lost_by : (i : ℕ) (e : Connection) → ((i ≡ p) × (e ≡ sent_on Right (confirm m x) c)) ⊎ (slice_get s.connections i ≡ Some e) →
          e.is_judged ≡ false → Sound e
      lost_by i e (inl (same, is)) j = differ e.is_judged (ap (λ (y : Connection). y.is_judged) is ∙ judged) j
      lost_by i e (inr there) j = named.lost i e there j

  applied_set : (v : Value) → is_over Right c ≡ false → is_applied (found_on Right s c v) ≡ true → Kind v →
      AreNamedApart Right (set s.connections p (sent_on Right v c))
  applied_set v live e (no_cc none) =
      let j = applied_judged c.is_judged (found Right s.course (uses_source Right s.connections v) c v) e in
      let f = applied_found c.is_judged (found Right s.course (uses_source Right s.connections v) c v) e in
      sends_set Right s apart named p c at v (right_goes s.course (uses_source Right s.connections v) c v none f j (apart.sound p c at j)
      (live_by c.is_judged (is_over_by c.right c.seen_by_right) live j)) j live
  applied_set v live e (is_cc m x is) =
      let j = applied_judged c.is_judged (found Right s.course (uses_source Right s.connections v) c v) e in
      let f = applied_found c.is_judged (found Right s.course (uses_source Right s.connections v) c v) e in
      let in_use = list_any (λ (e : Connection). uses Right x.source e) s.connections in
      let (silent, unused, nothing) = confirm_test (is_silent c.right.phase) (is_offered c.offer s.course.class x) (is_inside x)
      (not in_use) s.course.loose (nat_le (code_named x.parameters.size) c.offer.size_code)
      (ap (λ (u : Value). is_applied (found Right s.course (uses_source Right s.connections u) c u)) (sym is) ∙ f) in
      subst (λ (u : Value). AreNamedApart Right (set s.connections p (sent_on Right u c))) (sym is)
      (opens_set m x (not_true in_use unused) j live)

  pub right_set : (v : Value) (k : Option Class) → is_over Right c ≡ false → AreNamedApart Right (set s.connections p
      (connection_after Right v (is_applied (found_on Right s c v)) (reach_of k (found_on Right s c v)) c))
  right_set v k live = search (arith, side_by, applied_set, kind_of)

-- ---- a CR

module _ (d : Direction) (cs : List Connection) (x : Connect) (named : AreNamedApart d cs)
    (free : (n i : ℕ) (e : Connection) → slice_get cs i ≡ Some e → uses d n e ≡ true → uses d n (asked_by x) ≡ true → ⊥)
    (none_known : (n : ℕ) → is_known d n (asked_by x) ≡ true → ⊥) where
  asked_lost : (i p : ℕ) (c : Connection) → ((i ≡ p) × (c ≡ asked_by x)) ⊎ (slice_get cs i ≡ Some c) → c.is_judged ≡ false → Sound c
  asked_lost i p c (inl (same, is)) j = differ c.is_judged (ap (λ (y : Connection). y.is_judged) is) j
  asked_lost i p c (inr there) j = named.lost i c there j

  asked_set : (o : Option ℕ) → AreNamedApart d (placed (asked_by x) cs o)
  asked_set (Some p) = record {
    lost = λ i c at j. asked_lost i p c (after_set cs p i (asked_by x) c at) j;
    used = λ n. one_put (uses d n) cs p (asked_by x) (named.used n) (λ i e at h k. free n i e at h k);
    known = λ n. one_put (is_known d n) cs p (asked_by x) (named.known n) (λ i e at h k. none_known n k);
  }
  asked_set None = record {
    lost = λ i c at j. asked_lost i (length cs) c (after_add cs i (asked_by x) c at) j;
    used = λ n. one_added (uses d n) cs (asked_by x) (named.used n) (λ i e at h k. free n i e at h k);
    known = λ n. one_added (is_known d n) cs (asked_by x) (named.known n) (λ i e at h k. none_known n k);
  }

asked_free : (cs : List Connection) (x : Connect) → list_any (λ (e : Connection). uses Left x.source e) cs ≡ false → (n i : ℕ)
    (e : Connection) → slice_get cs i ≡ Some e → uses Left n e ≡ true → uses Left n (asked_by x) ≡ true → ⊥
asked_free cs x none n i e at h k = grind (arith, differ, eqb-true, none_true)

-- left gives a reference
pub left_asked : (cs : List Connection) (x : Connect) (o : Option ℕ) → list_any (λ (e : Connection). uses Left x.source e) cs ≡ false →
    AreNamedApart Left cs → AreNamedApart Left (placed (asked_by x) cs o)
left_asked cs x o none named = asked_set Left cs x named (asked_free cs x none) (λ n h. cc h) o

-- right gives none
pub right_asked : (cs : List Connection) (x : Connect) (o : Option ℕ) → AreNamedApart Right cs →
    AreNamedApart Right (placed (asked_by x) cs o)
right_asked cs x o named = asked_set Right cs x named (λ n i e at h k. cc k) (λ n h. cc h) o
