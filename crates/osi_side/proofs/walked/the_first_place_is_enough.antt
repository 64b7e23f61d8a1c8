-- A session that sends a steady remark at the first point at which it may explains all that it explains with it.
use Rattle.osi_side.proofs.Vocabulary.{◌≡◌, ◌∙◌, refl, sym, ap, subst, ℕ, ◌+◌, ◌<◌, ◌≤◌, ◌↔◌, inl, inr, true, false, List, [], ◌∷◌, get_or}
use Rattle.osi_side.proofs.Vocabulary.{Option, Some, None, arith, Meaning, Word, Seen, Count, Takes, listens, after_count, is_steady}
use Rattle.osi_side.proofs.Vocabulary.{Hears, IsAhead, is_gone, said_ahead, said_alike, both_hear, gone_stays, gone_said, no_answer}
use Rattle.osi_side.proofs.Vocabulary.{Member, Remark, Explains, takes, answers, IsBehind, the_remark, SaysTo, HearsTo, MovesTo}
use Rattle.osi_side.proofs.Vocabulary.{OneExplains}
use Rattle.osi_side.specs.Explaining.{says}
use Rattle.osi_side.proofs.walked.a_walk_loses_no_explanation.{takes_one, none_or_some, ways, said_on, before_it}

-- ---- what it takes

-- it is taken, and nothing is sent
pub heard_one : (s t : Seen) (tsdu : List ℕ) (c : Count) → listens s ≡ true → Takes s tsdu c → c.reply ≡ None → t ≡ after_count s c →
    HearsTo s tsdu (Some t)
heard_one s t tsdu c l k r n = record { count = c; listening = l; taken = k; quiet = r; next = n }

pub not_heard : (s : Seen) (tsdu : List ℕ) → listens s ≡ false → HearsTo s tsdu None
not_heard s tsdu l = λ t h. let k = h.listening in absurd (cc)

pub answers_it : (s : Seen) (tsdu : List ℕ) (c : Count) (a : Meaning) → Takes s tsdu c → c.reply ≡ Some a → HearsTo s tsdu None
answers_it s tsdu c a k r =
    λ t h. none_or_some h.count.reply a h.quiet (ap (λ (x : Count). x.reply) (takes_one s tsdu h.count c h.taken k) ∙ r)

pub moves_nowhere : (s : Seen) (u v : List ℕ) (r : Option Seen) → u ≡ v → r ≡ None → HearsTo s u r → (t : Seen) → Hears s v t → ⊥
moves_nowhere s u v r e n h t k =
    let none : HearsTo s u None = subst (λ (x : Option Seen). HearsTo s u x) n h in
    none t (subst (λ (x : List ℕ). Hears s x t) (sym e) k)

-- ---- the point

-- a side that can't send the remark any more can't be explained
never : (us : List (List ℕ)) (m : Remark) (later : List Remark) (j : ℕ) (s : Seen) (w : Word) → Some w ≡ m.word → is_steady w ≡ true →
    is_gone w s.state.phase ≡ true → Explains us (m ∷ later) j s → ⊥
never us m later j s w k d g (takes _ _ _ _ c l i t n e) =
    never us m later (j + 1) _ w k d
    (gone_stays s (after_count s c) w (get_or us j []) g (record { count = c; listening = i; taken = t; quiet = n; next = refl })) e
never us m later j s w k d g (answers _ _ _ _ c reply v l i t r f a e) = grind (arith, no_answer)
never us m later j s w k d g (says _ _ _ _ next v f a e) = grind (arith, gone_said)

-- a session that has sent it explains all that one that has not sent it explains with it
ahead_explains : (us : List (List ℕ)) (m : Remark) (later : List Remark) (j : ℕ) (s y : Seen) (w : Word) → Some w ≡ m.word →
    is_steady w ≡ true → IsBehind m.before later → IsAhead w s y
    → Explains us (m ∷ later) j s → Explains us later j y
ahead_explains us m later j s y w k d b h (takes _ _ _ _ c l i t n e) =
    elim (both_hear s (after_count s c) y w (get_or us j []) h (record { count = c; listening = i; taken = t; quiet = n; next = refl })) [
      | inl g ↦ absurd (never us m later (j + 1) (after_count s c) w k d g e)
      | inr x ↦ before_it us later m.before j y x.0 l b x.1 (ahead_explains us m later (j + 1) (after_count s c) x.0 w k d b x.2 e)
    ]
ahead_explains us m later j s y w k d b h (answers _ _ _ _ c reply v l i t r f a e) = grind (arith, no_answer)
ahead_explains us m later j s y w k d b h (says _ _ _ _ next v f a e) = search (arith, said_alike)

-- a session that sends it here explains what is sent later
pub said_first : (us : List (List ℕ)) (later : List Remark) (w : Word) (octets before : ℕ) (at said : Member) → is_steady w ≡ true →
    IsBehind before later → SaysTo at w octets (Some said)
    → Explains us (the_remark w octets before ∷ later) at.taken at.standing ↔ Explains us later said.taken said.standing
said_first us later w octets before at said d b h =
    search (arith, ahead_explains, said_on, said_ahead at.standing said.standing w octets d h.1)

-- it is not sent here
later_place : (us : List (List ℕ)) (later : List Remark) (w : Word) (octets before : ℕ) (at : Member) → is_steady w ≡ true →
    SaysTo at w octets None
    → Explains us (the_remark w octets before ∷ later) at.taken at.standing
    → (t : Seen) × (Hears at.standing (get_or us at.taken []) t) × (at.taken < before) ×
    (Explains us (the_remark w octets before ∷ later) (at.taken + 1) t)
later_place us later w octets before at d h e = search (arith, no_answer, ways us later w octets before at e)

-- and the walk continues
pub moved_first : (us heard : List (List ℕ)) (later : List Remark) (w : Word) (octets before : ℕ) (at on : Member) → is_steady w ≡ true →
    at.taken < before
    → get_or us at.taken [] ≡ get_or heard at.taken [] → SaysTo at w octets None → MovesTo heard at (Some on)
    → Explains us (the_remark w octets before ∷ later) at.taken at.standing ↔ Explains us (the_remark w octets before ∷ later) on.taken
    on.standing
moved_first us heard later w octets before at on d l x h m =
    let k : Hears at.standing (get_or us at.taken []) on.standing = subst (λ (u : List ℕ). Hears at.standing u on.standing) (sym x) m.1 in (
      λ e.
          let p = later_place us later w octets before at d h e in
          grind (arith, takes_one at.standing (get_or us at.taken []) p.1.count k.count p.1.taken k.taken),
      λ e. takes (the_remark w octets before) later at.taken at.standing k.count l k.listening k.taken k.quiet
          (grind arith),
    )

-- or there is no such point
pub nowhere : (us heard : List (List ℕ)) (later : List Remark) (w : Word) (octets before : ℕ) (at : Member) → is_steady w ≡ true
    → get_or us at.taken [] ≡ get_or heard at.taken [] → SaysTo at w octets None → MovesTo heard at None
    → Explains us (the_remark w octets before ∷ later) at.taken at.standing → ⊥
nowhere us heard later w octets before at d x h m e =
    let p = later_place us later w octets before at d h e in
    m p.0 (subst (λ (u : List ℕ). Hears at.standing u p.0) x p.1)

pub at_last : (us : List (List ℕ)) (later : List Remark) (w : Word) (octets before : ℕ) (at : Member) (said : Option Member) →
    is_steady w ≡ true → IsBehind before later → before ≤ at.taken
    → SaysTo at w octets said → Explains us (the_remark w octets before ∷ later) at.taken at.standing ↔ OneExplains us later said
at_last us after w octets before at (Some place) d b l h = said_first us after w octets before at place d b h
at_last us after w octets before at None d b l h = grind (arith, later_place)

-- one after the other
pub chain : {A B C : Type 0} → (A ↔ B) → (B ↔ C) → (A ↔ C)
chain f g = (λ a. g.0 (f.0 a), λ c. f.1 (g.1 c))

pub none_explains : {A B : Type 0} → (A ↔ B) → (B → ⊥) → (A ↔ ⊥)
none_explains f n = (λ a. n (f.0 a), λ c. absurd c)
