-- Of three sessions that differ in V(A) alone, what the one explains whose V(A) lies between those of the others, one of these
-- explains. For the law.
use Rattle.std.proofs.Common.{arith}
use Rattle.osi_side.proofs.Vocabulary.{◌≡◌, ◌∙◌, refl, sym, ap, subst, ℕ, ◌+◌, ◌<◌, ◌≤◌, ◌⊎◌, inl, inr, true, ◌||◌, List, [], ◌∷◌, get_or}
use Rattle.osi_side.proofs.Vocabulary.{Option, Some, None, Meaning, Word, Seen, Count, CanSay, Takes, listens, after_count, answers_word}
use Rattle.osi_side.proofs.Vocabulary.{confirmed_to, seen_to, Remark, Explains, done, takes, answers}
use Rattle.osi_side.specs.Explaining.{says}
use Rattle.osi_side.proofs.walked.what_ends_alike.{SameEnd, takes_alike, says_alike}
use Rattle.osi_side.proofs.walked.what_is_said_between.{says_between}
use Rattle.osi_side.proofs.walked.what_is_taken_between.{count_to, TakesThree, TakesOne, takes_between}

-- ---- the connection is over

pub over_explains : (us : List (List ℕ)) (ms : List Remark) (j : ℕ) (s t : Seen) → SameEnd s.state t.state → t.closed ≡ s.closed
    → Explains us ms j s → Explains us ms j t
over_explains us ms j s t h c (done _ _) = done j t
over_explains us ms j s t h c (takes m rest _ _ d b l k q e) =
    let a = takes_alike s t (get_or us j []) d h k in
    takes m rest j t a.count b (grind arith) a.taken (a.reply ∙ q)
    (over_explains us (m ∷ rest) (j + 1) (after_count s d) (after_count t a.count) a.ends (λ i. c i || a.closes i) e)
over_explains us ms j s t h c (answers m rest _ _ d reply w b l k r f x e) =
    let a = takes_alike s t (get_or us j []) d h k in
    answers m rest j t a.count reply w b (grind arith) a.taken (a.reply ∙ r) f x
    (over_explains us rest (j + 1) (after_count s d) (after_count t a.count) a.ends (λ i. c i || a.closes i) e)
over_explains us ms j s t h c (says m rest _ _ next w f k e) =
    let a = says_alike s t w m.octets next h c k in
    says m rest j t t w f a.1
    (over_explains us rest j next t (subst (λ (x : Seen). SameEnd x.state t.state) (sym a.0) h) (c ∙ sym (ap (λ (x : Seen). x.closed) a.0))
    e)

-- ---- three sessions

-- one of the two explains it
abbrev Outer : List (List ℕ) → List Remark → ℕ → Seen → (low high : ℕ) → Type 0
Outer us ms j s low high = Explains us ms j (seen_to low s) ⊎ Explains us ms j (seen_to high s)

-- a session with this V(A) takes a TSDU with this answer, and explains from there what is sent later
record TakesOn (us : List (List ℕ)) (ms : List Remark) (j : ℕ) (s : Seen) (n : ℕ) (reply : Option Meaning) : Type 0 where
  pub count : Count
  pub taken : Takes (seen_to n s) (get_or us j []) count
  pub sent : count.reply ≡ reply
  pub on : Explains us ms (j + 1) (after_count (seen_to n s) count)

-- what is sent after a TSDU that the session in the middle takes
abbrev Later : List (List ℕ) → List Remark → ℕ → Seen → Type 0
Later us ms j y = (s : Seen) (a v c : ℕ) → y ≡ seen_to v s → a ≤ v → v ≤ c → Outer us ms j s a c

on_three : (us : List (List ℕ)) (ms : List Remark) (j : ℕ) (s y : Seen) (a v c : ℕ) (d : Count) → y ≡ seen_to v s
    → TakesThree s (get_or us j []) a v c d → Later us ms (j + 1) (after_count y d)
    → TakesOn us ms j s a d.reply ⊎ TakesOn us ms j s c d.reply
on_three us ms j s y a v c d e t more = elim (more (after_count s t.from) t.low t.mid t.high (λ i. after_count (e i) (t.two i)) t.to_mid
    t.to_high) [
      | inl f ↦ inl (record { count = count_to t.low t.from; taken = t.one; sent = sym (ap (λ (x : Count). x.reply) t.two); on = f })
      | inr f ↦ inr (record { count = count_to t.high t.from; taken = t.three; sent = sym (ap (λ (x : Count). x.reply) t.two); on = f })
    ]

on_one : (us : List (List ℕ)) (ms : List Remark) (j : ℕ) (s y : Seen) (x v : ℕ) (d : Count) → y ≡ seen_to v s
    → TakesOne s (get_or us j []) x d → Explains us ms (j + 1) (after_count y d)
    → TakesOn us ms j s x d.reply
on_one us ms j s y x v d e (inl t) f = record {
  count = d;
  taken = t;
  sent = refl;
  on = subst (λ (z : Seen). Explains us ms (j + 1)
      (after_count z d)) e f;
}
on_one us ms j s y x v d e (inr b) f = record {
  count = count_to b.first b.from;
  taken = b.one;
  sent = sym (ap (λ (z : Count). z.reply) b.other);
  on = over_explains us ms (j + 1) (after_count y d) (after_count (seen_to x s) (count_to b.first b.from))
      (subst (λ (z : Count). SameEnd z.state (confirmed_to b.first b.from.state)) (sym b.other) (record {
        over = b.over;
        phase = refl;
        caller = refl;
        sizes = refl;
      }))
      (sym (λ i. (e i).closed || (b.other i).closes)) f;
}

takes_on : (us : List (List ℕ)) (ms : List Remark) (j : ℕ) (s y : Seen) (a v c : ℕ) (d : Count) → y ≡ seen_to v s → a ≤ v → v ≤ c
    → Takes y (get_or us j []) d
    → Later us ms (j + 1) (after_count y d) → Explains us ms (j + 1) (after_count y d)
    → TakesOn us ms j s a d.reply ⊎ TakesOn us ms j s c d.reply
takes_on us ms j s y a v c d e p q k more f =
    elim (takes_between s (get_or us j []) a v c d p q (subst (λ (x : Seen). Takes x (get_or us j []) d) e k)) [
      | inl t ↦ on_three us ms j s y a v c d e t more
      | inr o ↦ elim o [
        | inl t ↦ inl (on_one us ms j s y a v d e t f)
        | inr t ↦ inr (on_one us ms j s y c v d e t f)
      ]
    ]

heard : (us : List (List ℕ)) (m : Remark) (rest : List Remark) (j : ℕ) (s : Seen) (n : ℕ) (reply : Option Meaning) → j < m.before
    → listens s ≡ true → reply ≡ None → TakesOn us (m ∷ rest) j s n reply
    → Explains us (m ∷ rest) j (seen_to n s)
heard us m rest j s n reply b l q t = takes m rest j (seen_to n s) t.count b l t.taken (t.sent ∙ q) t.on

answered : (us : List (List ℕ)) (m : Remark) (rest : List Remark) (j : ℕ) (s : Seen) (n : ℕ) (reply : Option Meaning) (r : Meaning) (w :
    Word) → j < m.before → listens s ≡ true → reply ≡ Some r → m.word ≡ Some w
    → answers_word r w ≡ true → TakesOn us rest j s n reply → Explains us (m ∷ rest) j (seen_to n s)
answered us m rest j s n reply r w b l q f x t = answers m rest j (seen_to n s) t.count r w b l t.taken (t.sent ∙ q) f x t.on

pub lies_between : (us : List (List ℕ)) (ms : List Remark) (j : ℕ) (y : Seen) → Explains us ms j y → Later us ms j y
lies_between us ms j y (done _ _) = λ s a v c h p q. inl (done j (seen_to a s))
lies_between us ms j y (takes m rest _ _ d b l k r e) = λ s a v c h p q.
    let hears = sym (ap listens h) ∙ l in
    elim (takes_on us (m ∷ rest) j s y a v c d h p q k (lies_between us (m ∷ rest) (j + 1) (after_count y d) e) e) [
      | inl t ↦ inl (heard us m rest j s a d.reply b hears r t)
      | inr t ↦ inr (heard us m rest j s c d.reply b hears r t)
    ]
lies_between us ms j y (answers m rest _ _ d reply w b l k r f x e) = λ s a v c h p q.
    let hears = sym (ap listens h) ∙ l in
    elim (takes_on us rest j s y a v c d h p q k (lies_between us rest (j + 1) (after_count y d) e) e) [
      | inl t ↦ inl (answered us m rest j s a d.reply reply w b hears r f x t)
      | inr t ↦ inr (answered us m rest j s c d.reply reply w b hears r f x t)
    ]
lies_between us ms j y (says m rest _ _ next w f k e) = λ s a v c h p q.
    elim (says_between s w m.octets a v c next p q (subst (λ (x : Seen). CanSay x w m.octets next) h k)) [
      | inl t ↦ elim (lies_between us rest j next e t.from t.low t.mid t.high t.two t.to_mid t.to_high) [
        | inl g ↦ inl (says m rest j (seen_to a s) (seen_to t.low t.from) w f t.one g)
        | inr g ↦ inr (says m rest j (seen_to c s) (seen_to t.high t.from) w f t.three g)
      ]
      | inr o ↦ inl (says m rest j (seen_to a s) next w f o e)
    ]
