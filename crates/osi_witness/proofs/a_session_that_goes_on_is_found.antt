-- A session that goes on to a unit is found, and how it does: for the functions of `trails` that look for it.
use Rattle.std.proofs.Common.{◌≡◌, ◌≢◌, MatchBool, ◌∙◌, ◌≤◌, ◌<◌, ◌+◌, ◌-◌, ◌∷◌, ◌⊎◌, ◌↔◌, inl, inr, ap, sym, subst, arith, ℕ, zero, suc}
use Rattle.std.proofs.Common.{Bool, true, false}
use Rattle.std.proofs.Common.{List, [], length, take, get_or, Option, Some, None, IfNone, IfOk, IfSome, Result, Ok, Err}
use Rattle.std.proofs.Math.Numerals.{add-one}
use Rattle.std.proofs.lemmas.Bool.{false≢true}
use Rattle.osi_message.specs.Meanings.{Meaning}
use Rattle.osi_message.specs.Words.{Word}
use Rattle.osi_session.specs.Joining.{is_restart_word}
use Rattle.osi_session.specs.Standing.{Seen, Count, CanSay, Takes, listens, after_count, answers_word, said}
use Rattle.osi_session.specs.Steady.{Hears}
use Rattle.osi_side.specs.declared.members.Member.{Member}
use Rattle.osi_side.specs.Onward.{IsAmong}
use Rattle.osi_side.proofs.walked.a_walk_loses_no_explanation.{takes_one}
use Rattle.osi_witness.specs.declared.trails.Goal.{Goal}
use Rattle.osi_witness.specs.declared.trails.Step.{Step}
use Rattle.osi_side.specs.Explaining.{Remark}
use Rattle.osi_witness.specs.Found.{GoesOn, Stays, answers, says, takes}
use Rattle.osi_witness.specs.Steps.{AnswersBy, AnswersTo, GoesTo, Leading, SaysBy, SaysTo, Waits, heard_for, unit_for, word_for}
use Rattle.osi_witness.specs.Trails.{Listens}

-- ---- a TSDU that is taken

pub hears_one : (s t u : Seen) (tsdu : List ℕ) → Hears s tsdu t → Hears s tsdu u → t ≡ u
hears_one s t u tsdu h k =
    h.next ∙ ap (λ (c : Count). after_count s c) (takes_one s tsdu h.count k.count h.taken k.taken) ∙ sym k.next

pub still_as : (b : Bool) (s next : Seen) (tsdu : List ℕ) → Hears s tsdu next → MatchBool b (next ≡ s) (next ≢ s)
    → MatchBool b (Hears s tsdu s) (Hears s tsdu s → ⊥)
still_as true s next tsdu h e = subst (λ (x : Seen). Hears s tsdu x) e h
still_as false s next tsdu h n = λ k. n (hears_one s next s tsdu h k)

-- ---- where a session goes on to

pub goes_up : (us : List (List ℕ)) (m : Remark) (after : Member) (n : ℕ) (s : Seen) → GoesOn us m after n s → n ≤ after.taken
goes_up us m after n z (takes taken s t h g) = let l = goes_up us m after (taken + 1) t g in omega (arith, l)
goes_up us m after n z (answers taken s c reply w l t q o a e) = let k = ap (λ (y : Member). y.taken) e in omega (arith, k)
goes_up us m after n z (says taken waited s w e k c h f) = omega (arith, c)

-- it takes a TSDU first, or answers it by the unit
record TakesOn (g : Goal) (taken : ℕ) (s : Seen) : Type 0 where
  pub count : Count
  pub listening : listens s ≡ true
  pub took : Takes s (get_or (heard_for g) taken []) count
  pub on : ((count.reply ≡ None) × GoesTo g (taken + 1) (after_count s count))
      ⊎ ((reply : Meaning) × (count.reply ≡ Some reply) × AnswersTo g reply (taken + 1) (after_count s count))

some_is : (v w : Word) → Some v ≡ Some w → w ≡ v
some_is v w e = cc

ways : (g : Goal) (taken : ℕ) (s : Seen) → GoesTo g taken s → SaysTo g taken s ⊎ TakesOn g taken s
ways g n z (takes taken s t h k) = inr (record {
  count = h.count;
  listening = h.listening;
  took = h.taken;
  on = inl (h.quiet, subst (λ (x : Seen). GoesTo g (taken + 1) x) h.next k);
})
ways g n z (answers taken s c reply w l t q o a e) = inr (record {
  count = c;
  listening = l;
  took = t;
  on = inr (reply, q, (subst (λ (v : Word). answers_word reply v ≡ true) (some_is (word_for g) w o) a, e));
})
ways g n z (says taken waited s w o k c h f) =
    let is = some_is (word_for g) w o in
    let more : waited ≡ g.after.now.taken - taken = omega (arith, c) in
    inl (
      subst (λ (v : Word). CanSay s v g.octets g.after.now.standing) is k,
      record {
        stays = subst (λ (i : ℕ). Stays (heard_for g) taken g.after.now.standing i) more h;
        restarts = elim f [
          | inl none ↦ inl (omega (arith, none, c))
          | inr r ↦ inr (subst (λ (v : Word). is_restart_word v ≡ true) is r)
        ];
      },
    )

-- it doesn't send the unit here, and takes nothing any more
pub deaf : (g : Goal) (taken : ℕ) (s : Seen) → (SaysTo g taken s → ⊥) → listens s ≡ false → GoesTo g taken s → ⊥
deaf g taken s none l h = elim (ways g taken s h) [
  | inl here ↦ none here
  | inr on ↦ false≢true (sym l ∙ on.listening)
]

-- or answers the next TSDU by something else
pub answers_else : (g : Goal) (taken : ℕ) (s : Seen) (c : Count) (reply : Meaning) → (SaysTo g taken s → ⊥)
    → Takes s (get_or (heard_for g) taken []) c → c.reply ≡ Some reply → (AnswersTo g reply (taken + 1) (after_count s c) → ⊥)
    → GoesTo g taken s → ⊥
answers_else g taken s c reply none t r differs h = elim (ways g taken s h) [
  | inl here ↦ none here
  | inr on ↦ (let same = takes_one s (get_or (heard_for g) taken []) on.count c on.took t in elim on.on [
    | inl quiet ↦ (let z : None ≡ Some reply = sym quiet.0 ∙ ap (λ (x : Count). x.reply) same ∙ r in absurd (cc))
    | inr a ↦ (let is : a.0 ≡ reply = same_reply a.0 reply (sym a.1 ∙ ap (λ (x : Count). x.reply) same ∙ r) in
        differs (subst (λ (x : Count). AnswersTo g reply (taken + 1) (after_count s x)) same
        (subst (λ (x : Meaning). AnswersTo g x (taken + 1) (after_count s on.count)) is a.2)))
  ])
]
  where
    same_reply : (a b : Meaning) → Some a ≡ Some b → a ≡ b
    same_reply a b e = cc

-- or takes it and sends nothing: it goes on from there
pub goes_further : (g : Goal) (taken : ℕ) (s : Seen) (c : Count) → (SaysTo g taken s → ⊥) → Takes s (get_or (heard_for g) taken []) c
    → c.reply ≡ None → GoesTo g taken s → GoesTo g (taken + 1) (after_count s c)
goes_further g taken s c none t r h = elim (ways g taken s h) [
  | inl here ↦ absurd (none here)
  | inr on ↦ (let same = takes_one s (get_or (heard_for g) taken []) on.count c on.took t in elim on.on [
    | inl quiet ↦ subst (λ (x : Count). GoesTo g (taken + 1) (after_count s x)) same quiet.1
    | inr a ↦ (let z : None ≡ Some a.0 = sym r ∙ ap (λ (x : Count). x.reply) (sym same) ∙ a.1 in absurd (cc))
  ])
]

-- all are taken that the session after the unit has taken
pub goes_no_further : (g : Goal) (taken : ℕ) (s : Seen) → (SaysTo g taken s → ⊥) → g.after.now.taken ≤ taken → GoesTo g taken s → ⊥
goes_no_further g taken s none l h = elim (ways g taken s h) [
  | inl here ↦ none here
  | inr on ↦ elim on.on [
    | inl quiet ↦ (let up = goes_up (heard_for g) (unit_for g) g.after.now (taken + 1) _ quiet.1 in absurd (omega (arith, up, l)))
    | inr a ↦ (let k = ap (λ (y : Member). y.taken) a.2.1 in absurd (omega (arith, k, l)))
  ]
]

-- ---- what a session took on its way to here

pub leading_answered : (g : Goal) (from : Member) (taken : ℕ) (s next : Seen) (c : Count) (reply : Meaning) (t : Step) → from.taken ≤ taken
    → Listens (heard_for g) from.taken from.standing (taken - from.taken) s → listens s ≡ true
    → Takes s (get_or (heard_for g) taken []) c → c.reply ≡ Some reply → next ≡ after_count s c → AnswersBy g reply (taken + 1) next t
    → Leading g from t
leading_answered g from taken s next c reply t low l hears took r n b =
    let at = b.count in
    let is = ap (λ (y : Member). y.taken) b.answers.1 in
    let back : taken ≡ from.taken + (taken - from.taken) = omega (arith, low) in
    let none : 0 ≡ g.after.now.taken - t.taken = omega (arith, at, is) in
    record {
      sends = inr (record {
        is = b.is;
        more = taken - from.taken;
        count = omega (arith, low, at);
        at = s;
        listened = l;
        listening = hears;
        last = c;
        took = subst (λ (i : ℕ). Takes s (get_or (heard_for g) i []) c) back took;
        reply = reply;
        answered = r;
        said = b.answers.0;
        next = b.standing ∙ n;
      });
      no_later = omega (arith, at, is);
      standing = b.standing ∙ ap (λ (y : Member). y.standing) (sym b.answers.1);
      stays = subst (λ (i : ℕ). Stays (heard_for g) t.taken t.standing i) none tt;
    }

-- ---- a session stays as it is, TSDU by TSDU

abbrev StaysTo : (us : List (List ℕ)) (s : Seen) (to number : ℕ) → Type 0
StaysTo us s to number = Stays us number s (to - number)

pub stays_step : (us : List (List ℕ)) (s : Seen) (from to number : ℕ) → number < to → Hears s (get_or us number []) s
    → (StaysTo us s to from ↔ StaysTo us s to number) → (StaysTo us s to from ↔ StaysTo us s to (number + 1))
stays_step us s from to number l h p =
    let e : to - number ≡ suc (to - (number + 1)) = omega (arith, l) in (
      λ k. let here : Stays us number s (suc (to - (number + 1))) = subst (λ (n : ℕ). Stays us number s n) e (p.0 k) in here.1,
      λ k. p.1 (subst (λ (n : ℕ). Stays us number s n) (sym e) (h, k)),
    )

pub stays_not : (us : List (List ℕ)) (s : Seen) (from to number : ℕ) → number < to → (Hears s (get_or us number []) s → ⊥)
    → (StaysTo us s to from ↔ StaysTo us s to number) → StaysTo us s to from → ⊥
stays_not us s from to number l h p k =
    let e : to - number ≡ suc (to - (number + 1)) = omega (arith, l) in
    let here : Stays us number s (suc (to - (number + 1))) = subst (λ (n : ℕ). Stays us number s n) e (p.0 k) in h here.0

pub stays_end : (us : List (List ℕ)) (s : Seen) (from to number : ℕ) → to ≤ number
    → (StaysTo us s to from ↔ StaysTo us s to number) → StaysTo us s to from
stays_end us s from to number l p =
    let e : 0 ≡ to - number = omega (arith, l) in p.1 (subst (λ (n : ℕ). Stays us number s n) e tt)

-- ---- none of the first sessions goes on

among_next : (members : List Member) (i : ℕ) (x : Member) → i < length members → x ≡ get_or members i x → (y : Member)
    → IsAmong y (take (suc i) members) → IsAmong y (take i members) ⊎ (y ≡ x)
among_next [] i x l e y a = absurd (omega (arith, l))
among_next (m ∷ members) zero x l e y (inl k) = inr (k ∙ sym e)
among_next (m ∷ members) zero x l e y (inr none) = absurd none
among_next (m ∷ members) (suc i) x l e y (inl k) = inl (inl k)
among_next (m ∷ members) (suc i) x l e y (inr a) = elim (among_next members i x (omega (arith, l)) e y a) [
  | inl before ↦ inl (inr before)
  | inr is ↦ inr is
]

among_take : (members : List Member) (i : ℕ) (x : Member) → i < length members → x ≡ get_or members i x → (y : Member)
    → IsAmong y (take (i + 1) members) → IsAmong y (take i members) ⊎ (y ≡ x)
among_take members i x l e y a = among_next members i x l e y (subst (λ (n : ℕ). IsAmong y (take n members)) (add-one i) a)

pub none_first : (g : Goal) (members : List Member) (i : ℕ) (x : Member) → i < length members → x ≡ get_or members i x
    → ((y : Member) → IsAmong y (take i members) → GoesTo g y.taken y.standing → ⊥) → (GoesTo g x.taken x.standing → ⊥)
    → (y : Member) → IsAmong y (take (i + 1) members) → GoesTo g y.taken y.standing → ⊥
none_first g members i x l e h n y a k = elim (among_take members i x l e y a) [
  | inl before ↦ h y before k
  | inr is ↦ n (subst (λ (z : Member). GoesTo g z.taken z.standing) is k)
]

pub among_at : (members : List Member) (i : ℕ) (x : Member) → i < length members → x ≡ get_or members i x → IsAmong x members
among_at [] i x l e = absurd (omega (arith, l))
among_at (m ∷ members) zero x l e = inl e
among_at (m ∷ members) (suc i) x l e = inr (among_at members i x (omega (arith, l)) e)

-- ---- a step, or none

pub waits_none : (g : Goal) (taken : ℕ) → taken ≡ g.after.now.taken → Waits g taken
waits_none g taken e =
    let none : g.after.now.taken - taken ≡ 0 = omega (arith, e) in
    record { stays = subst (λ (n : ℕ). Stays (heard_for g) taken g.after.now.standing n) (sym none) tt; restarts = inl none }

pub waits_not : (g : Goal) (taken : ℕ) → (taken ≡ g.after.now.taken → ⊥) → taken ≤ g.after.now.taken
    → is_restart_word (word_for g) ≡ false → Waits g taken → ⊥
waits_not g taken n l r w = elim w.restarts [
  | inl none ↦ n (omega (arith, l, none))
  | inr is ↦ false≢true (sym r ∙ is)
]

pub waits_as : (g : Goal) (taken : ℕ) (b : Bool) → is_restart_word (word_for g) ≡ true
    → MatchBool b (Stays (heard_for g) taken g.after.now.standing (g.after.now.taken - taken))
    (Stays (heard_for g) taken g.after.now.standing (g.after.now.taken - taken) → ⊥)
    → MatchBool b (Waits g taken) (Waits g taken → ⊥)
waits_as g taken true r h = record { stays = h; restarts = inr r }
waits_as g taken false r h = λ w. h w.stays

pub said_here : (g : Goal) (taken : ℕ) (s next : Seen) (t : Step) → said s (word_for g) g.octets ≡ Some next → next ≡ g.after.now.standing
    → Waits g taken → t ≡ record { taken = taken; is_answer = false; from = s; standing = next } → SaysBy g taken s t
said_here g taken s next t k e w is = record {
  count = ap (λ (x : Step). x.taken) is;
  is = ap (λ (x : Step). x.is_answer) is;
  from = ap (λ (x : Step). x.from) is;
  standing = ap (λ (x : Step). x.standing) is ∙ e;
  says = (k ∙ ap (λ (x : Seen). Some x) e, w);
}

pub not_said : (g : Goal) (taken : ℕ) (s : Seen) → said s (word_for g) g.octets ≡ None → SaysTo g taken s → ⊥
not_said g taken s e h = let z = sym e ∙ h.0 in absurd (cc)

pub said_else : (g : Goal) (taken : ℕ) (s next : Seen) → said s (word_for g) g.octets ≡ Some next → (next ≡ g.after.now.standing → ⊥)
    → SaysTo g taken s → ⊥
said_else g taken s next e n h = n (some_seen next g.after.now.standing (sym e ∙ h.0))
  where
    some_seen : (a b : Seen) → Some a ≡ Some b → a ≡ b
    some_seen a b k = cc

pub not_waiting : (g : Goal) (taken : ℕ) (s : Seen) → (Waits g taken → ⊥) → SaysTo g taken s → ⊥
not_waiting g taken s n h = n h.1

pub answers_it : (g : Goal) (reply : Meaning) (taken : ℕ) (next : Seen) (t : Step) → taken ≡ g.after.now.taken
    → answers_word reply (word_for g) ≡ true → next ≡ g.after.now.standing
    → t ≡ record { taken = taken; is_answer = true; from = next; standing = next } → AnswersBy g reply taken next t
answers_it g reply taken next t e a n is = record {
  count = ap (λ (x : Step). x.taken) is;
  is = ap (λ (x : Step). x.is_answer) is;
  standing = ap (λ (x : Step). x.standing) is;
  answers = (a, λ i. record { taken = (sym e) i; standing = (sym n) i });
}

pub not_answered : (g : Goal) (reply : Meaning) (taken : ℕ) (next : Seen) → (taken ≡ g.after.now.taken → answers_word reply (word_for g) ≡ true
    → next ≡ g.after.now.standing → ⊥) → AnswersTo g reply taken next → ⊥
not_answered g reply taken next n h = n (ap (λ (x : Member). x.taken) (sym h.1)) h.0 (ap (λ (x : Member). x.standing) (sym h.1))

-- ---- in memory

pub leading_if : (g : Goal) (from : Member) (taken : ℕ) (s next : Seen) (c : Count) (reply : Meaning) (o : Option Step) → from.taken ≤ taken
    → Listens (heard_for g) from.taken from.standing (taken - from.taken) s → listens s ≡ true
    → Takes s (get_or (heard_for g) taken []) c → c.reply ≡ Some reply → next ≡ after_count s c
    → IfSome o (AnswersBy g reply (taken + 1) next) → IfSome o (Leading g from)
leading_if g from taken s next c reply None low l hears took r n b = tt
leading_if g from taken s next c reply (Some t) low l hears took r n b = leading_answered g from taken s next c reply t low l hears took r n b

pub none_if : (g : Goal) (from : Member) (taken : ℕ) (s next : Seen) (c : Count) (reply : Meaning) (o : Option Step) → (SaysTo g taken s → ⊥)
    → (GoesTo g from.taken from.standing → GoesTo g taken s) → Takes s (get_or (heard_for g) taken []) c → c.reply ≡ Some reply
    → next ≡ after_count s c → IfNone o (AnswersTo g reply (taken + 1) next → ⊥) → IfNone o (GoesTo g from.taken from.standing → ⊥)
none_if g from taken s next c reply None none goes took r n b =
    λ h. answers_else g taken s c reply none took r (λ a. b (subst (λ (x : Seen). AnswersTo g reply (taken + 1) x) (sym n) a)) (goes h)
none_if g from taken s next c reply (Some t) none goes took r n b = tt

pub none_at_end : {E : Type 0} (g : Goal) (from : Member) (taken to : ℕ) (s : Seen) (r : Result (Option Step) E) → to ≡ g.after.now.taken → taken ≡ to
    → (GoesTo g from.taken from.standing → GoesTo g taken s) → IfOk r (λ o. IfNone o (SaysTo g to s → ⊥))
    → IfOk r (λ o. IfNone o (GoesTo g from.taken from.standing → ⊥))
none_at_end g from taken to s (Err e) is at goes h = tt
none_at_end g from taken to s (Ok (Some t)) is at goes h = tt
none_at_end g from taken to s (Ok None) is at goes h =
    λ k. goes_no_further g to s h (omega (arith, is)) (subst (λ (i : ℕ). GoesTo g i s) at (goes k))

pub goes_not_back : (g : Goal) (from : Member) → g.after.now.taken < from.taken → GoesTo g from.taken from.standing → ⊥
goes_not_back g from l h = let up = goes_up (heard_for g) (unit_for g) g.after.now from.taken from.standing h in absurd (omega (arith, up, l))

pub goes_as : (g : Goal) (taken : ℕ) (s t : Seen) → s ≡ t → GoesTo g taken s → GoesTo g taken t
goes_as g taken s t e h = subst (λ (x : Seen). GoesTo g taken x) e h
