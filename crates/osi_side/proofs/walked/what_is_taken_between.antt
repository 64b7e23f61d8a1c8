-- Of three sessions that differ in V(A) alone, in the order of V(A), what the second does with a TSDU the first does, or the
-- third. For the law of what lies between.
use Rattle.osi_side.proofs.Vocabulary.{◌≡◌, ◌∙◌, refl, sym, ap, subst, ℕ, ◌+◌, ◌≤◌, ◌⊎◌, inl, inr, Bool, true, false, not, ◌&&◌, ◌||◌}
use Rattle.osi_side.proofs.Vocabulary.{if◌then◌else◌, nat_le, nat_lt, List, [], ◌∷◌, Option, is_none, Result, Ok, Err, arith, leb-true}
use Rattle.osi_side.proofs.Vocabulary.{le-leb, ltb-true, lt-ltb, SpduFault, Meaning, AC, MIP, MIA, MAP, MAA, RS, said_at, Word, Words}
use Rattle.osi_side.proofs.Vocabulary.{says, part, as_message, UnitFault, Unexpected, NotSelected, BadNumber, BadEnclosure, State}
use Rattle.osi_side.proofs.Vocabulary.{taker_with, Taker, Hearing, begins_anew, enacted_word, heard_then, idle, respond_came, word_verdict}
use Rattle.osi_side.proofs.Vocabulary.{lower, is_over, is_major_asked, takes_minor_ack, Outcome, Verdict, over, dropped, fine, agreed_base}
use Rattle.osi_side.proofs.Vocabulary.{by_fault, drops, first_fault, in_aborting, in_ended, replies_abort, shown_for, si, Seen, Count}
use Rattle.osi_side.proofs.Vocabulary.{Takes, counted, both_units, functional_units, so_many, so_many_are, word_at, confirmed_to, seen_to}
use Rattle.osi_session.specs.Joining.{heard}
unfoldable use Rattle.osi_session.specs.Joining.{acting_words, respond_word, respond_words}
unfoldable use Rattle.osi_session.specs.Numbers.{point_taken, minor_confirmed, major_confirmed, restarted_at}
use Rattle.osi_session.specs.Respond.{faulty, becomes}
unfoldable use Rattle.osi_session.specs.Respond.{stands, respond_fault}
use Rattle.osi_side.proofs.told.a_tsdu_leaves_one_count.{then_words, by_reply, one_count}

-- the same with this V(A) afterwards
abbrev pub moved_to : ℕ → Hearing → Hearing
moved_to n h = record h { next = taker_with (confirmed_to n h.next.state) h.next.joined }

abbrev outcome_to : ℕ → Outcome → Outcome
outcome_to n o = record o { next = confirmed_to n o.next }

-- ---- a word that is no confirmation

abbrev pub confirms : Word → Bool
confirms (says (MIA n octets)) = true
confirms _ = false

-- V(A) after a good message
abbrev pub rise_by : State → Meaning → ℕ → ℕ
rise_by s (AC v r i w z o) n = agreed_base (both_units s.units (functional_units r)) i s.proposed
rise_by s (MIP c k o) n = if s.numbers.answers then n else s.numbers.next
rise_by s (MAP k o) n = if s.numbers.answers then n else s.numbers.next
rise_by s (MAA k o) n = s.numbers.next
rise_by s (RS t k w o) n = if stands s k then lower k n else n
rise_by s _ n = n

abbrev pub rise : State → Word → Verdict → ℕ → ℕ
rise s w fine n = rise_by s (as_message w) n
rise s w _ n = n

becomes_at : (s : State) (u : Meaning) (n : ℕ) → confirms (says u) ≡ false
    → becomes (confirmed_to n s) u ≡ confirmed_to (rise_by s u n) (becomes s u)
unfolding point_taken major_confirmed restarted_at stands
becomes_at s u n e = grind arith

shown_at : (s : State) (u : Meaning) (n : ℕ) → shown_for (confirmed_to n s) u ≡ shown_for s u
unfolding stands
shown_at s u n = grind arith

over_at : (s : State) (n : ℕ) (b : Bool) (u : Meaning) → (if b then in_aborting (confirmed_to n s) u else in_ended (confirmed_to n s) u) ≡
    outcome_to n (if b then in_aborting s u else in_ended s u)
over_at s n b u = grind arith

-- a word that is not good
abbrev is_fine : Verdict → Bool
is_fine fine = true
is_fine _ = false

rest_at : (s : State) (j : Option (List ℕ)) (w : Word) (v : Verdict) (n : ℕ) → is_fine v ≡ false
    → enacted_word (taker_with (confirmed_to n s) j) w v ≡ moved_to n (enacted_word (taker_with s j) w v)
rest_at s j w v n e = grind (arith, over_at)

by_verdict : (s : State) (j : Option (List ℕ)) (w : Word) (v : Verdict) (n : ℕ) → confirms w ≡ false
    → enacted_word (taker_with (confirmed_to n s) j) w v ≡ moved_to (rise s w v n) (enacted_word (taker_with s j) w v)
by_verdict s j w v n e = grind (arith, rest_at, becomes_at, shown_at)

pub lower_rises : (k a b : ℕ) → a ≤ b → lower k a ≤ lower k b
lower_rises k a b h = grind (arith, ltb-true, lt-ltb)

by_rises : (s : State) (u : Meaning) (a b : ℕ) → a ≤ b → rise_by s u a ≤ rise_by s u b
by_rises s u a b h = grind arith

rises : (s : State) (w : Word) (v : Verdict) (a b : ℕ) → a ≤ b → rise s w v a ≤ rise s w v b
rises s w v a b h = grind (arith, by_rises)

-- ---- what each of three does

-- all do the same, and differ in V(A) as before
pub record Three (x y z : Hearing) : Type 0 where
  pub from : Hearing
  pub low : ℕ
  pub mid : ℕ
  pub high : ℕ
  pub to_mid : low ≤ mid
  pub to_high : mid ≤ high
  pub one : x ≡ moved_to low from
  pub two : y ≡ moved_to mid from
  pub three : z ≡ moved_to high from

-- the connection is over for both
pub record Both (x y : Hearing) : Type 0 where
  pub from : Hearing
  pub first : ℕ
  pub second : ℕ
  pub one : x ≡ moved_to first from
  pub other : y ≡ moved_to second from
  pub over : is_over from.next.state.phase ≡ true

abbrev pub OneDoes : Hearing → Hearing → Type 0
OneDoes x y = (x ≡ y) ⊎ Both x y

abbrev pub AmongThree : Hearing → Hearing → Hearing → Type 0
AmongThree x y z = Three x y z ⊎ (OneDoes x y ⊎ OneDoes z y)

-- a bad word ends it
abbrev Stops : Hearing → Hearing → Type 0
Stops x y = (x ≡ y) ⊎ ((b : Both x y) × (replies_abort b.from.reply ≡ true))

abbrev WordDoes : Hearing → Hearing → Hearing → Type 0
WordDoes x y z = Three x y z ⊎ (Stops x y ⊎ Stops z y)

-- ---- a confirmation of minor points

abbrev mia_verdict : State → Option (List ℕ) → ℕ → List ℕ → Bool → Verdict
mia_verdict s j k o b = if is_over s.phase then over else if drops s (MIA k o) then dropped else if not (takes_minor_ack s.phase) then
    faulty (Unexpected (si (MIA k o)))
    else by_fault (first_fault (si (MIA k o)) ((s.units.minor, NotSelected) ∷ (
      not s.numbers.answers && (b && (if is_major_asked s.phase
          then nat_lt (k + 1) s.numbers.next else nat_lt k s.numbers.next)),
      BadNumber,
    )
    ∷ (is_none j || not (begins_anew (MIA k o)), BadEnclosure) ∷ []))

over_any : (o d x : Bool) (u : UnitFault) (f g : Option UnitFault) → (if o then over else if d then dropped else if not x then faulty u
    else by_fault f) ≡ over
    → (if o then over else if d then dropped else if not x then faulty u else by_fault g) ≡ over
over_any o d x u f g h = grind arith

dropped_any : (o d x : Bool) (u : UnitFault) (f g : Option UnitFault) → (if o then over else if d then dropped else if not x then faulty u
    else by_fault f) ≡ dropped
    → (if o then over else if d then dropped else if not x then faulty u else by_fault g) ≡ dropped
dropped_any o d x u f g h = grind arith

module _ (s : State) (j : Option (List ℕ)) (k : ℕ) (o : List ℕ) where
  abbrev mia : Word
  mia = says (MIA k o)

  abbrev at : ℕ → Taker
  at n = taker_with (confirmed_to n s) j

  mia_over : (n m : ℕ) → word_verdict (at n) mia ≡ over → word_verdict (at m) mia ≡ over
  mia_over n m h = over_any (is_over s.phase) (drops s (MIA k o)) (takes_minor_ack s.phase) (Unexpected (si (MIA k o))) _ _ h

  mia_dropped : (n m : ℕ) → word_verdict (at n) mia ≡ dropped → word_verdict (at m) mia ≡ dropped
  mia_dropped n m h = dropped_any (is_over s.phase) (drops s (MIA k o)) (takes_minor_ack s.phase) (Unexpected (si (MIA k o))) _ _ h

  mia_rests : (v : Verdict) (n : ℕ) → is_fine v ≡ false → word_verdict (at n) mia ≡ v
      → respond_word (at n) mia ≡ moved_to n (enacted_word (taker_with s j) mia v)
  mia_rests v n e h = word_at (at n) mia v h ∙ rest_at s j mia v n e

  mia_fine : (n m : ℕ) → enacted_word (at n) mia fine ≡ enacted_word (at m) mia fine
  unfolding minor_confirmed
  mia_fine n m = refl

  -- one of them does what the second does
  mia_one : (x v : ℕ) (d : Verdict) → word_verdict (at x) mia ≡ d → word_verdict (at v) mia ≡ d
      → (Stops (respond_word (at x) mia) (respond_word (at v) mia)) ⊎ ((d ≡ over) ⊎ (d ≡ dropped))
  mia_one x v over p q = inr (inl refl)
  mia_one x v dropped p q = inr (inr refl)
  mia_one x v (faulty fault) p q = inl (inr (
    search (arith, mia_rests (faulty fault) x refl p, mia_rests (faulty fault) v refl q),
    refl,
  ))
  mia_one x v fine p q = inl (inl (word_at (at x) mia fine p ∙ mia_fine x v ∙ sym (word_at (at v) mia fine q)))

  mia_three : (a v c : ℕ) (d : Verdict) → a ≤ v → v ≤ c → is_fine d ≡ false → word_verdict (at a) mia ≡ d → word_verdict (at v) mia ≡ d
      → word_verdict (at c) mia ≡ d
      → Three (respond_word (at a) mia) (respond_word (at v) mia) (respond_word (at c) mia)
  mia_three a v c d l m e p q r = grind (arith, mia_rests)

  mia_between : (a v c : ℕ) → a ≤ v → v ≤ c → WordDoes (respond_word (at a) mia) (respond_word (at v) mia) (respond_word (at c) mia)
  mia_between a v c l m = by (nat_le v k) refl
    where
      low : nat_le v k ≡ true → nat_le a k ≡ true
      low h = let w = leb-true v k h in le-leb a k (omega arith)

      high : (b : Bool) → nat_le c k ≡ b → nat_le v k ≡ false → nat_le c k ≡ false
      high true e h = let w = leb-true c k e in let y = le-leb v k (omega arith) in absurd (cc)
      high false e h = e

      by : (b : Bool) → nat_le v k ≡ b → WordDoes (respond_word (at a) mia) (respond_word (at v) mia) (respond_word (at c) mia)
      by true h = elim (mia_one a v (word_verdict (at v) mia) (ap (mia_verdict s j k o) (low h ∙ sym h)) refl) [
        | inl x ↦ inr (inl x)
        | inr x ↦ inl (grind (arith, mia_three, mia_over, mia_dropped))
      ]
      by false h = elim (mia_one c v (word_verdict (at v) mia) (ap (mia_verdict s j k o) (high (nat_le c k) refl h ∙ sym h)) refl) [
        | inl x ↦ inr (inr x)
        | inr x ↦ inl (grind (arith, mia_three, mia_over, mia_dropped))
      ]

-- ---- one word

word_three : (s : State) (j : Option (List ℕ)) (w : Word) (a v c : ℕ) → confirms w ≡ false → a ≤ v → v ≤ c
    → Three (respond_word (taker_with (confirmed_to a s) j) w) (respond_word (taker_with (confirmed_to v s) j) w) (respond_word (taker_with
    (confirmed_to c s) j) w)
word_three s j w a v c e l m =
    let d = word_verdict (taker_with (confirmed_to v s) j) w in
    record {
      from = enacted_word (taker_with s j) w d;
      low = rise s w d a;
      mid = rise s w d v;
      high = rise s w d c;
      to_mid = rises s w d a v l;
      to_high = rises s w d v c m;
      one = word_at (taker_with (confirmed_to a s) j) w d (grind arith) ∙ by_verdict s j w d a e;
      two = word_at (taker_with (confirmed_to v s) j) w d refl ∙ by_verdict s j w d v e;
      three = word_at (taker_with (confirmed_to c s) j) w d (grind arith) ∙ by_verdict s j w d c e;
    }

word_between : (s : State) (j : Option (List ℕ)) (w : Word) (a v c : ℕ) → a ≤ v → v ≤ c
    → WordDoes (respond_word (taker_with (confirmed_to a s) j) w) (respond_word (taker_with (confirmed_to v s) j) w) (respond_word
    (taker_with (confirmed_to c s) j) w)
word_between s j (says (MIA k o)) a v c l m = mia_between s j k o a v c l m
word_between s j (says u) a v c l m = inl (word_three s j (says u) a v c refl l m)
word_between s j (part place o) a v c l m = inl (word_three s j (part place o) a v c refl l m)

-- ---- words one after the other

among_at : (x y z p q r : Hearing) → x ≡ p → y ≡ q → z ≡ r → AmongThree p q r → AmongThree x y z
among_at x y z p q r d e f h = grind arith

one_lifts : (from : Hearing) (l m : ℕ) (x y : Hearing) → OneDoes x y → OneDoes (heard_then (moved_to l from) x) (heard_then (moved_to m
    from) y)
one_lifts from l m x y (inl e) = inl (ap (heard_then from) e)
one_lifts from l m x y (inr b) = inr (record {
  from = heard_then from b.from;
  first = b.first;
  second = b.second;
  one = ap (heard_then from) b.one;
  other = ap (heard_then from) b.other;
  over = b.over;
})

lifts : (from : Hearing) (l m h : ℕ) (x y z : Hearing) → AmongThree x y z
    → AmongThree (heard_then (moved_to l from) x) (heard_then (moved_to m from) y) (heard_then (moved_to h from) z)
lifts from l m h x y z (inl t) = inl (record {
  from = heard_then from t.from;
  low = t.low;
  mid = t.mid;
  high = t.high;
  to_mid = t.to_mid;
  to_high = t.to_high;
  one = ap (heard_then from) t.one;
  two = ap (heard_then from) t.two;
  three = ap (heard_then from) t.three;
})
lifts from l m h x y z (inr (inl o)) = inr (inl (one_lifts from l m x y o))
lifts from l m h x y z (inr (inr o)) = inr (inr (one_lifts from h m z y o))

abbrev WordsDo : Words → Type 0
WordsDo ws = (s : State) (j : Option (List ℕ)) (a v c : ℕ) → a ≤ v → v ≤ c
    → AmongThree (respond_words (taker_with (confirmed_to a s) j) ws) (respond_words (taker_with (confirmed_to v s) j) ws) (respond_words
    (taker_with (confirmed_to c s) j) ws)

stopped : (ws : Words) (h : Hearing) → replies_abort h.reply ≡ true → then_words ws h ≡ h
stopped ws h e = ap (λ (b : Bool). if b then h else heard_then h (respond_words h.next ws)) e

then_three : (ws : Words) (x y z : Hearing) → WordsDo ws → Three x y z → AmongThree (then_words ws x) (then_words ws y) (then_words ws z)
then_three ws x y z k t =
    among_at _ _ _ (then_words ws (moved_to t.low t.from)) (then_words ws (moved_to t.mid t.from)) (then_words ws (moved_to t.high t.from))
    (ap (then_words ws) t.one) (ap (then_words ws) t.two) (ap (then_words ws) t.three) (by (replies_abort t.from.reply))
  where
    after : ℕ → Bool → Hearing
    after n b = if b then moved_to n t.from else heard_then (moved_to n t.from) (grind arith)

    by : (b : Bool) → AmongThree (if b then moved_to t.low t.from else heard_then (moved_to t.low t.from) (respond_words (taker_with
        (confirmed_to t.low t.from.next.state) t.from.next.joined) ws))
        (if b then moved_to t.mid t.from else heard_then (moved_to t.mid t.from) (respond_words (taker_with (confirmed_to t.mid
        t.from.next.state) t.from.next.joined) ws))
        (if b then moved_to t.high t.from else heard_then (moved_to t.high t.from) (respond_words (taker_with (confirmed_to t.high
        t.from.next.state) t.from.next.joined) ws))
    by true = inl (grind arith)
    by false = lifts t.from t.low t.mid t.high _ _ _ (k t.from.next.state t.from.next.joined t.low t.mid t.high t.to_mid t.to_high)

then_among : (ws : Words) (x y z : Hearing) → WordsDo ws → WordDoes x y z → AmongThree (then_words ws x) (then_words ws y) (then_words ws z)
then_among ws x y z k (inl t) = then_three ws x y z k t
then_among ws x y z k (inr (inl o)) = inr (inl (grind (arith, then_words, stopped)))
then_among ws x y z k (inr (inr o)) = inr (inr (grind (arith, then_words, stopped)))

words_between : (ws : Words) → WordsDo ws
unfolding respond_words
words_between [] = λ s j a v c l m. inl (record {
  from = idle (taker_with s j);
  low = a;
  mid = v;
  high = c;
  to_mid = l;
  to_high = m;
  one =
      refl;
  two = refl;
  three = refl;
})
words_between (w ∷ ws) = search (arith, among_at, by_reply, then_among, word_between, words_between ws)

-- ---- a TSDU

fault_at : (s : State) (j : Option (List ℕ)) (fault : SpduFault) (n : ℕ)
    → heard j (respond_fault (confirmed_to n s) fault) ≡ moved_to n (heard j (respond_fault s fault))
unfolding respond_fault
fault_at s j fault n = grind arith

came_between : (s : State) (j : Option (List ℕ)) (came : Result Words SpduFault) (a v c : ℕ) → a ≤ v → v ≤ c
    → AmongThree (respond_came (taker_with (confirmed_to a s) j) came) (respond_came (taker_with (confirmed_to v s) j) came) (respond_came
    (taker_with (confirmed_to c s) j) came)
came_between s j (Ok words) a v c l m = words_between (acting_words words) s j a v c l m
came_between s j (Err fault) a v c l m = inl (search (arith, fault_at s j fault a, fault_at s j fault v, fault_at s j fault c))

-- ---- by counts

abbrev pub count_to : ℕ → Count → Count
count_to n c = record c { state = confirmed_to n c.state }

pub record TakesThree (s : Seen) (tsdu : List ℕ) (a v c : ℕ) (d : Count) : Type 0 where
  pub from : Count
  pub low : ℕ
  pub mid : ℕ
  pub high : ℕ
  pub to_mid : low ≤ mid
  pub to_high : mid ≤ high
  pub one : Takes (seen_to a s) tsdu (count_to low from)
  pub two : d ≡ count_to mid from
  pub three : Takes (seen_to c s) tsdu (count_to high from)

pub record TakesOver (s : Seen) (tsdu : List ℕ) (x : ℕ) (d : Count) : Type 0 where
  pub from : Count
  pub first : ℕ
  pub second : ℕ
  pub one : Takes (seen_to x s) tsdu (count_to first from)
  pub other : d ≡ count_to second from
  pub over : is_over from.state.phase ≡ true

abbrev pub TakesOne : Seen → List ℕ → ℕ → Count → Type 0
TakesOne s tsdu x d = Takes (seen_to x s) tsdu d ⊎ TakesOver s tsdu x d

abbrev pub TakesBetween : Seen → List ℕ → ℕ → ℕ → ℕ → Count → Type 0
TakesBetween s tsdu a v c d = TakesThree s tsdu a v c d ⊎ (TakesOne s tsdu a d ⊎ TakesOne s tsdu c d)

-- what one does with the octets that are joined here, it does with any
abbrev came_to : Seen → List ℕ → ℕ → Hearing
came_to s tsdu n = respond_came (taker_with (confirmed_to n s.state) (so_many s.joined)) (said_at tsdu)

takes_as : (s : Seen) (tsdu : List ℕ) (n : ℕ) (h : Hearing) → came_to s tsdu n ≡ h → Takes (seen_to n s) tsdu (counted h)
takes_as s tsdu n h e = grind (arith, one_count (seen_to n s) tsdu, so_many s.joined, so_many_are s.joined)

one_takes : (s : Seen) (tsdu : List ℕ) (x v : ℕ) (d : Count) → d ≡ counted (came_to s tsdu v)
    → OneDoes (came_to s tsdu x) (came_to s tsdu v) → TakesOne s tsdu x d
one_takes s tsdu x v d e (inl h) = inl (subst (λ (y : Count). Takes (seen_to x s) tsdu y) (sym e) (takes_as s tsdu x (came_to s tsdu v) h))
one_takes s tsdu x v d e (inr b) = inr (record {
  from = counted b.from;
  first = b.first;
  second = b.second;
  one = takes_as s tsdu x (moved_to b.first b.from) b.one;
  other = e ∙ ap counted b.other;
  over = b.over;
})

pub takes_between : (s : Seen) (tsdu : List ℕ) (a v c : ℕ) (d : Count) → a ≤ v → v ≤ c → Takes (seen_to v s) tsdu d
    → TakesBetween s tsdu a v c d
takes_between s tsdu a v c d l m h = by (came_between s.state (so_many s.joined) (said_at tsdu) a v c l m)
  where
    is : d ≡ counted (came_to s tsdu v)
    is = sym (h (so_many s.joined) (so_many_are s.joined))

    by : AmongThree (came_to s tsdu a) (came_to s tsdu v) (came_to s tsdu c) → TakesBetween s tsdu a v c d
    by (inl t) = inl (record {
      from = counted t.from;
      low = t.low;
      mid = t.mid;
      high = t.high;
      to_mid = t.to_mid;
      to_high = t.to_high;
      one = takes_as s tsdu a (moved_to t.low t.from) t.one;
      two = is ∙ ap counted t.two;
      three = takes_as s tsdu c (moved_to t.high t.from) t.three;
    })
    by (inr (inl o)) = inr (inl (one_takes s tsdu a v d is o))
    by (inr (inr o)) = inr (inr (one_takes s tsdu c v d is o))
