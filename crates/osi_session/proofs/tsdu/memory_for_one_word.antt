-- If memory is needed for one word, it is needed for all: a word that indicates and sends nothing joins no less.
use Rattle.osi_session.proofs.Vocabulary.{is_none, cases_Bool, and_parts, length-append, UnitFault, is_over, may_hold, nothing, is_nil}
use Rattle.osi_session.proofs.Vocabulary.{Verdict, over, dropped, faulty, fine, by_fault, Shown, First, Middle, Last, Word, Words, says}
use Rattle.osi_session.proofs.Vocabulary.{part, Taker, Hearing, joined_octets, word_verdict, heard, heard_then, respond_word, respond_words}
use Rattle.osi_session.proofs.Vocabulary.{takes_room, ◌≡◌, refl, sym, ap, subst, ℕ, ◌≤◌, Bool, true, false, not, ◌&&◌, if◌then◌else◌, List}
use Rattle.osi_session.proofs.Vocabulary.{[], ◌∷◌, ◌++◌, length, Option, Some, arith}
use Rattle.osi_session.proofs.tsdu.the_effect_of_a_word.{fine_holds, first_is, middle_is, last_is}
use Rattle.osi_session.proofs.tsdu.what_is_joined.{InPhase}
use Rattle.osi_session.proofs.tsdu.the_verdict_while_joining.{bad_loud}
use Rattle.osi_session.proofs.tables.messages_act_as_the_table_says.{word_at, word_kept}
use Rattle.osi_session.proofs.tables.a_word_acts_as_its_message.{words_do}

abbrev pub quiet : Hearing → Bool
quiet h = is_nil h.shown && is_none h.reply

abbrev pub size : Option (List ℕ) → ℕ
size joined = length (joined_octets joined)

-- ---- what needs memory

nil_after : (a b : List Shown) → is_nil (a ++ b) ≡ true → (is_nil a ≡ true) × (is_nil b ≡ true)
nil_after [] b h = (refl, h)
nil_after (i ∷ a) b h = absurd (cc)

-- what is quiet together is quiet in each
pub quiet_both : (a b : Hearing) → quiet (heard_then a b) ≡ true → (quiet a ≡ true) × (quiet b ≡ true)
quiet_both a b h = grind (arith, and_parts, nil_after)

pub takes_then : (j : Option (List ℕ)) (a b : Hearing) → takes_room j a ≡ true →
    (quiet b ≡ true → size a.next.joined ≤ size b.next.joined) → takes_room j (heard_then a b) ≡ true
takes_then j a b h g = grind (arith, quiet_both)

pub takes_behind : (j : Option (List ℕ)) (a b : Hearing) → (quiet a ≡ true → size j ≤ size a.next.joined) →
    takes_room a.next.joined b ≡ true → takes_room j (heard_then a b) ≡ true
takes_behind j a b g h = search (arith, quiet_both)

-- ---- a quiet word joins no less

early_grows : (t : Taker) (w : Word) (octets : List ℕ) → may_hold t.state.phase ≡ true →
    respond_word t w ≡ heard (Some (joined_octets t.joined ++ octets)) (nothing t.state)
    → size t.joined ≤ size (respond_word t w).next.joined
early_grows t w octets m e = grind (arith, length-append)

abbrev Grows : Option (List ℕ) → Hearing → Type 0
Grows j h = quiet h ≡ true → size j ≤ size h.next.joined

fine_grows : (t : Taker) (w : Word) → InPhase t → word_verdict t w ≡ fine → Grows t.joined (respond_word t w)
fine_grows t (says u) k e = grind (arith, word_at t (says u) fine e)
fine_grows t (part First octets) k e = λ q. early_grows t (part First octets) octets (fine_holds t First octets e) (first_is t octets e)
fine_grows t (part Middle octets) k e = λ q. early_grows t (part Middle octets) octets (fine_holds t Middle octets e) (middle_is t octets e)
fine_grows t (part Last octets) k e = subst (Grows t.joined) (sym (last_is t octets e)) (λ q. absurd (cc))

over_by : (b d x : Bool) (n : UnitFault) (f : Option UnitFault) →
    (if b then over else if d then dropped else if not x then faulty n else by_fault f) ≡ over → b ≡ true
over_by b d x n f h0 = grind arith

live_grows : (t : Taker) (w : Word) (v : Verdict) → InPhase t → is_over t.state.phase ≡ false → word_verdict t w ≡ v →
    Grows t.joined (respond_word t w)
live_grows t w v k o e = grind (arith, over_by, bad_loud, fine_grows, word_at t w v e)

word_grows : (t : Taker) (w : Word) → InPhase t → Grows t.joined (respond_word t w)
word_grows t w h0 = grind (arith, cases_Bool, live_grows)

pub word_in_phase : (t : Taker) (w : Word) → InPhase (respond_word t w).next
word_in_phase t w = ap (λ (r : Taker). r.joined) (word_kept t w)

-- and so do words
both_grow : (j : Option (List ℕ)) (a b : Hearing) → Grows j a → Grows a.next.joined b → Grows j (heard_then a b)
both_grow j a b g h = λ q. let p = quiet_both a b q in let x = g p.0 in let y = h p.1 in omega arith

words_grow : (t : Taker) (ws : Words) → InPhase t → Grows t.joined (respond_words t ws)
words_grow = words_do (λ t ws h. InPhase t → Grows t.joined h) (λ t k q. omega arith) (λ t w ws k. word_grows t w k)
    (λ t w ws more k. both_grow t.joined (respond_word t w) (respond_words (respond_word t w).next ws) (word_grows t w k)
    (more (word_in_phase t w)))

either_takes : (c : Bool) (j : Option (List ℕ)) (a b : Hearing) → takes_room j a ≡ true → takes_room j b ≡ true →
    takes_room j (if c then a else b) ≡ true
either_takes c j a b g h = grind arith

pub word_takes : (t : Taker) (w : Word) (ws : Words) → takes_room t.joined (respond_word t w) ≡ true →
    takes_room t.joined (respond_words t (w ∷ ws)) ≡ true
unfolding respond_words
word_takes t w ws h = search (arith, either_takes, takes_then, words_grow (respond_word t w).next ws (word_in_phase t w), word_in_phase t w)

-- ---- so far

-- unless it led to an indication, a reply or a close, what was received so far left no less joined; and it is kept
pub record SoFar (j : Option (List ℕ)) (h : Hearing) : Type 0 where
  pub grows : quiet h ≡ true → size j ≤ size h.next.joined
  pub phase : InPhase h.next

pub word_so_far : (j : Option (List ℕ)) (h : Hearing) (w : Word) → SoFar j h → SoFar j (heard_then h (respond_word h.next w))
word_so_far j h w s = search (arith, both_grow, word_grows, word_in_phase)
