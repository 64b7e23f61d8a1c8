-- A walk to the next remark loses no explanation, and finds none that is not one.
use Rattle.osi_side.proofs.Vocabulary.{◌≡◌, ◌∙◌, refl, sym, subst, ℕ, ◌+◌, ◌<◌, ◌≤◌, ◌⊎◌, ◌↔◌, inl, inr, true, false, Bool, List, [], ◌∷◌}
use Rattle.osi_side.proofs.Vocabulary.{get_or, Option, Some, None, IfSome, IfNone, option_map, arith, Meaning, Word, Seen, Count, CanSay}
use Rattle.osi_side.proofs.Vocabulary.{Takes, listens, after_count, answers_word, Hears, so_many, so_many_are, Member, Walker, Remark}
use Rattle.osi_side.proofs.Vocabulary.{Explains, done, takes, answers, SomeExplains, IsBehind, the_remark, SaidHere, WalkerCovers, Open}
use Rattle.osi_side.proofs.Vocabulary.{SaysIt, Answers, MayFollow, Turns, Walked}
use Rattle.osi_side.specs.Explaining.{says}

-- what is taken leaves one count
pub takes_one : (s : Seen) (u : List ℕ) (c d : Count) → Takes s u c → Takes s u d → c ≡ d
takes_one s u c d h k = sym (h (so_many s.joined) (so_many_are s.joined)) ∙ k (so_many s.joined) (so_many_are s.joined)

-- ---- two ways to the next remark

-- a TSDU is taken first
pub record TakenOn (us : List (List ℕ)) (later : List Remark) (m : Remark) (w : Word) (j : ℕ) (s : Seen) : Type 0 where
  pub count : Count
  pub before : j < m.before
  pub listening : listens s ≡ true
  pub taken : Takes s (get_or us j []) count
  pub on : ((count.reply ≡ None) × (Explains us (m ∷ later) (j + 1) (after_count s count)))
      ⊎ ((reply : Meaning) × (count.reply ≡ Some reply) × (answers_word reply w ≡ true) × (Explains us later (j + 1) (after_count s count)))

split : (us : List (List ℕ)) (m : Remark) (later : List Remark) (j : ℕ) (s : Seen) (w : Word) → Some w ≡ m.word →
    Explains us (m ∷ later) j s
    → ((next : Seen) × (CanSay s w m.octets next) × (Explains us later j next)) ⊎ TakenOn us later m w j s
split us m later j s w k (takes _ _ _ _ c b l t n e) = inr (record { count = c; before = b; listening = l; taken = t; on = inl (n, e) })
split us m later j s w k (answers _ _ _ _ c reply v b l t r d a e) =
    inr (record {
      count = c;
      before = b;
      listening = l;
      taken = t;
      on = inr (reply, r, subst (λ (x : Word). answers_word reply x ≡ true) (grind arith) a, e);
    })
split us m later j s w k (says _ _ _ _ next v d a e) = grind arith

abbrev pub Ways : List (List ℕ) → List Remark → Word → ℕ → ℕ → Member → Type 0
Ways us later w octets before at = SaidHere us later w octets at ⊎ TakenOn us later (the_remark w octets before) w at.taken at.standing

pub ways : (us : List (List ℕ)) (later : List Remark) (w : Word) (octets before : ℕ) (at : Member) →
    Explains us (the_remark w octets before ∷ later) at.taken at.standing → Ways us later w octets before at
ways us later w octets before at e = split us (the_remark w octets before) later at.taken at.standing w refl e

pub said_on : (us : List (List ℕ)) (later : List Remark) (w : Word) (octets before : ℕ) (at : Member) → SaidHere us later w octets at →
    Explains us (the_remark w octets before ∷ later) at.taken at.standing
said_on us later w octets before at h = says (the_remark w octets before) later at.taken at.standing h.0 w refl h.1 h.2

-- ---- the end of a walk

-- if no TSDU can be taken, the remark is sent here or not at all
stuck_there : (us : List (List ℕ)) (later : List Remark) (w : Word) (octets before : ℕ) (old new : List Member) (at : Member)
    → ((SomeExplains us old later ⊎ SaidHere us later w octets at) → SomeExplains us new later) →
    (TakenOn us later (the_remark w octets before) w at.taken at.standing → ⊥)
    → (SomeExplains us old later ⊎ Explains us (the_remark w octets before ∷ later) at.taken at.standing) → SomeExplains us new later
stuck_there us later w octets before old new at g none h = grind (arith, ways)

pub stuck : (us : List (List ℕ)) (later : List Remark) (w : Word) (octets before : ℕ) (old new : List Member) (from to : Walker) →
    SaysIt us later w octets old new from to → WalkerCovers us later old from
    → (TakenOn us later (the_remark w octets before) w from.at.taken from.at.standing → ⊥) →
    Open us later (the_remark w octets before) old (Some from) ↔ SomeExplains us new later
stuck us later w octets before old new from to h c none =
    grind (arith, said_on, stuck_there us later w octets before old new from.at (h.gives c).0 none)

not_both : (b : Bool) → b ≡ true → b ≡ false → ⊥
not_both b h k = grind arith

-- a session that takes nothing
pub deaf : (us : List (List ℕ)) (later : List Remark) (w : Word) (octets before : ℕ) (old new : List Member) (from to : Walker) →
    SaysIt us later w octets old new from to
    → listens from.at.standing ≡ false → Turns us later (the_remark w octets before) old new from None
deaf us later w octets before old new from to h l = record {
  gives = λ c. stuck us later w octets before old new from to h c (λ t. not_both (listens from.at.standing) t.listening l);
  covers = λ c. tt;
}

-- ---- a TSDU is taken

-- what one session takes at this place
pub record Took (us : List (List ℕ)) (at next : Member) (count : Count) : Type 0 where
  pub listening : listens at.standing ≡ true
  pub taken : Takes at.standing (get_or us at.taken []) count
  pub place : next.taken ≡ at.taken + 1
  pub standing : next.standing ≡ after_count at.standing count

pub none_or_some : (o : Option Meaning) (a : Meaning) → o ≡ None → o ≡ Some a → ⊥
none_or_some o a h k = grind arith

-- it is answered
answered_there : (us : List (List ℕ)) (later : List Remark) (w : Word) (octets before : ℕ) (old mid new : List Member) (at next : Member)
    (c : Count) (a : Meaning) → Took us at next c → c.reply ≡ Some a
    → ((SomeExplains us old later ⊎ SaidHere us later w octets at) → SomeExplains us mid later) → Answers us later w a next mid new
    → (SomeExplains us old later ⊎ Explains us (the_remark w octets before ∷ later) at.taken at.standing) → SomeExplains us new later
answered_there us later w octets before old mid new at next c a k r g x (inl h) = x.0 (inl (g (inl h)))
answered_there us later w octets before old mid new at next c a k r g x (inr e) = elim (ways us later w octets before at e) [
  | inl s ↦ x.0 (inl (g (inr s)))
  | inr t ↦ (let same = takes_one at.standing (get_or us at.taken []) t.count c t.taken k.taken in grind (arith, none_or_some, takes_one))
]
  where
    some_same : (b d : Meaning) → Some b ≡ Some d → b ≡ d
    some_same b d e = cc

answered_back : (us : List (List ℕ)) (later : List Remark) (w : Word) (octets before : ℕ) (old mid : List Member) (at next : Member)
    (c : Count) (a : Meaning) → Took us at next c → c.reply ≡ Some a → at.taken < before
    → (SomeExplains us mid later → (SomeExplains us old later ⊎ SaidHere us later w octets at))
    → (SomeExplains us mid later ⊎ ((answers_word a w ≡ true) × Explains us later next.taken next.standing))
    → (SomeExplains us old later ⊎ Explains us (the_remark w octets before ∷ later) at.taken at.standing)
answered_back us later w octets before old mid at next c a k r b g (inl h) = grind (arith, said_on)
answered_back us later w octets before old mid at next c a k r b g (inr y) =
    inr (answers (the_remark w octets before) later at.taken at.standing c a w b k.listening k.taken r refl y.0
    (grind arith))

pub answered : (us : List (List ℕ)) (later : List Remark) (w : Word) (octets before : ℕ) (old mid new : List Member) (from to : Walker)
    (next : Member) (c : Count) (a : Meaning)
    → SaysIt us later w octets old mid from to → Took us from.at next c → c.reply ≡ Some a → from.at.taken < before →
    Answers us later w a next mid new
    → Turns us later (the_remark w octets before) old new from None
answered us later w octets before old mid new from to next c a h k r b x = record {
  gives = λ v. (
    answered_there us later w octets before old mid new from.at next c a k r (h.gives v).0 x,
    λ y. answered_back us later w octets before old mid from.at next c a k r b (h.gives v).1 (x.1 y),
  );
  covers = λ v. tt;
}

-- nothing is sent, and the walk continues
on_there : (us : List (List ℕ)) (later : List Remark) (w : Word) (octets before : ℕ) (old mid : List Member) (at next : Member)
    (c : Count) → Took us at next c → c.reply ≡ None
    → ((SomeExplains us old later ⊎ SaidHere us later w octets at) → SomeExplains us mid later)
    → (SomeExplains us old later ⊎ Explains us (the_remark w octets before ∷ later) at.taken at.standing)
    → (SomeExplains us mid later ⊎ Explains us (the_remark w octets before ∷ later) next.taken next.standing)
on_there us later w octets before old mid at next c k r g (inl h) = inl (g (inl h))
on_there us later w octets before old mid at next c k r g (inr e) = elim (ways us later w octets before at e) [
  | inl s ↦ inl (g (inr s))
  | inr t ↦ (let same = takes_one at.standing (get_or us at.taken []) t.count c t.taken k.taken in grind (arith, takes_one, none_or_some))
]

on_back : (us : List (List ℕ)) (later : List Remark) (w : Word) (octets before : ℕ) (old mid : List Member) (at next : Member) (c : Count) →
    Took us at next c → c.reply ≡ None → at.taken < before
    → (SomeExplains us mid later → (SomeExplains us old later ⊎ SaidHere us later w octets at))
    → (SomeExplains us mid later ⊎ Explains us (the_remark w octets before ∷ later) next.taken next.standing)
    → (SomeExplains us old later ⊎ Explains us (the_remark w octets before ∷ later) at.taken at.standing)
on_back us later w octets before old mid at next c k r b g (inl h) = grind (arith, said_on)
on_back us later w octets before old mid at next c k r b g (inr e) =
    inr (takes (the_remark w octets before) later at.taken at.standing c b k.listening k.taken r
    (grind arith))

-- what a session explains after it took a TSDU, it explains before
pub before_it : (us : List (List ℕ)) (later : List Remark) (before j : ℕ) (s t : Seen) → j < before → IsBehind before later →
    Hears s (get_or us j []) t → Explains us later (j + 1) t → Explains us later j s
before_it us [] before j s t b h f e = done j s
before_it us (m ∷ ms) before j s t b h f e =
    takes m ms j s f.count (omega arith) f.listening f.taken f.quiet (subst (λ (x : Seen). Explains us (m ∷ ms) (j + 1) x) f.next e)

pub goes_on : (us : List (List ℕ)) (later : List Remark) (w : Word) (octets before : ℕ) (old mid : List Member) (from to now : Walker)
    (c : Count)
    → SaysIt us later w octets old mid from to → Took us from.at now.at c → c.reply ≡ None → from.at.taken < before → IsBehind before later
    → MayFollow to.said_before (get_or us from.at.taken []) now.said_before →
    Turns us later (the_remark w octets before) old mid from (Some now)
goes_on us later w octets before old mid from to now c h k r b i f = record {
  gives = λ v. search (arith, on_there, on_back, h.gives v);
  covers = grind (arith, before_it);
}

-- ---- a walk

pub walked_turn : (us : List (List ℕ)) (later : List Remark) (m : Remark) (first old new : List Member) (from at now : Walker) →
    Walked us later m first old from at → Turns us later m old new at (Some now)
    → Walked us later m first new from now
walked_turn us later m first old new from at now w t = search arith

pub walked_stop : (us : List (List ℕ)) (later : List Remark) (m : Remark) (first old new : List Member) (from at : Walker) →
    Walked us later m first old from at → Turns us later m old new at None
    → Open us later m first (Some from) ↔ SomeExplains us new later
walked_stop us later m first old new from at w t = (λ h. (t.gives w.covers).0 (w.gives.0 h), λ h. w.gives.1 ((t.gives w.covers).1 h))

pub walked_last : (us : List (List ℕ)) (later : List Remark) (w : Word) (octets before : ℕ) (first old new : List Member)
    (from at to : Walker)
    → Walked us later (the_remark w octets before) first old from at → SaysIt us later w octets old new at to → before ≤ at.at.taken
    → Open us later (the_remark w octets before) first (Some from) ↔ SomeExplains us new later
walked_last us later w octets before first old new from at to x h b =
    let s = stuck us later w octets before old new at to h x.covers (λ t. let l = t.before in absurd (omega arith)) in
    (λ k. s.0 (x.gives.0 k), λ k. x.gives.1 (s.1 k))

pub none_of : {A B : Type 0} (f : A → B) (o : Option A) → ((a : A) → o ≡ Some a → ⊥) → option_map f o ≡ None
none_of f o h = grind arith

-- what an option that is known gives
pub at_some : {A : Type 0} (P : A → Type 0) (o : Option A) (a : A) → o ≡ Some a → IfSome o P → P a
at_some P o a e h = grind arith

pub at_none : {A : Type 0} (P : Type 0) (o : Option A) → ((a : A) → o ≡ Some a → ⊥) → IfNone o P → P
at_none P o n h = grind arith
