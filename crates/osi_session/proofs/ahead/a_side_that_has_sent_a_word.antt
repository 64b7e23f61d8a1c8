-- A side that has already sent a word takes TSDUs just as the side that has not, for the words that may be sent first.
use Rattle.osi_session.proofs.Vocabulary.{cases_Bool, SpduFault, Phase, Aborting, State, is_over, is_wait_transport, may_hold, Meaning}
use Rattle.osi_session.proofs.Vocabulary.{replies_abort, first_reply, is_faulty, respond_unit, respond_fault, Taker, Hearing, heard_then}
use Rattle.osi_session.proofs.Vocabulary.{word_verdict, respond_word, respond_words, acting_words, respond_came, said_at, arith, ◌≡◌, ◌∙◌}
use Rattle.osi_session.proofs.Vocabulary.{refl, sym, ap, subst, ℕ, Bool, true, false, not, ◌||◌, ◌⊎◌, inl, inr, List, [], ◌∷◌, length}
use Rattle.osi_session.proofs.Vocabulary.{Option, None, option_map, Result, Ok, Err, Word, Words, Seen, Count, counted, kept_count, Hears}
use Rattle.osi_session.proofs.tsdu.words_one_after_the_other.{good_then}
use Rattle.osi_session.proofs.tsdu.the_effect_of_a_word.{word_told}
use Rattle.osi_session.proofs.tables.what_is_true_of_each_phase.{excluded}
use Rattle.osi_session.proofs.sent.what_a_side_may_send.{so_many, so_many_are}
use Rattle.osi_session.proofs.tables.a_word_acts_as_its_message.{word_keeps, all_keep, any_word}

-- the state is that which a word leaves
abbrev pub shifted : (State → State) → Taker → Taker
shifted f t = record { state = f t.state; joined = t.joined }

pub record Shifted (f : State → State) (h k : Hearing) : Type 0 where
  pub next : k.next ≡ shifted f h.next
  pub quiet : k.reply ≡ None
  pub closes : k.closes ≡ h.closes

-- the word may never be sent again, or both continue alike
abbrev pub Goes : (State → Type 0) → (Phase → Bool) → (State → State) → Hearing → Hearing → Type 0
Goes P gone f h k = (gone h.next.state.phase ≡ true) ⊎ (P h.next.state × Shifted f h k)

-- The conditions on a word: in the states of P it may have been sent, f is the state that it leaves, and in the phases
-- of `gone` it is not sent any more.
pub record IsAheadBy (P : State → Type 0) (gone : Phase → Bool) (f : State → State) : Type 0 where
  pub holds : (s : State) → P s → may_hold s.phase ≡ true
  pub phase : (s : State) → (f s).phase ≡ s.phase
  pub ends : (s : State) (u : Meaning) → gone s.phase ≡ true → gone (respond_unit s u).next.phase ≡ true
  pub aborts : gone Aborting ≡ true
  pub step : (t : Taker) (v : Word) → P t.state → (respond_word t v).reply ≡ None →
      Goes P gone f (respond_word t v) (respond_word (shifted f t) v)

-- ---- what is not answered

quiet_both : (a b : Option Meaning) → first_reply a b ≡ None → (a ≡ None) × (b ≡ None)
quiet_both a b h = grind arith

-- what is not answered is not bad
pub quiet_good : (t : Taker) (v : Word) → (respond_word t v).reply ≡ None → is_faulty (word_verdict t v) ≡ false
quiet_good t v r = sym (word_told t v (respond_word t v) (replies_abort (respond_word t v).reply) refl refl) ∙ ap replies_abort r

words_quiet : (t : Taker) (v : Word) (vs : Words) → (respond_words t (v ∷ vs)).reply ≡ None
    → ((respond_word t v).reply ≡ None) × ((respond_words (respond_word t v).next vs).reply ≡ None)
unfolding respond_words
words_quiet t v vs r = elim (cases_Bool (is_faulty (word_verdict t v))) [
  | inl b ↦ grind (arith, quiet_good)
  | inr b ↦ quiet_both (respond_word t v).reply _ (sym (ap (λ (h : Hearing). h.reply) (good_then t v vs b)) ∙ r)
]

fault_loud : (s : State) (fault : SpduFault) → is_over s.phase ≡ false → (respond_fault s fault).reply ≡ None → ⊥
unfolding respond_fault
fault_loud s fault o h = grind arith

gone_fault : (gone : Phase → Bool) (s : State) (fault : SpduFault) → gone Aborting ≡ true → gone s.phase ≡ true →
    gone (respond_fault s fault).next.phase ≡ true
unfolding respond_fault
gone_fault gone s fault a h = grind arith

-- ---- a side

-- what a word leaves of a side: of its state, and of the data that it has not finished
abbrev pub leaves : (State → State) → (Option ℕ → Option ℕ) → Seen → Seen
leaves f g s = record s { state = f s.state; sent = g s.sent }

-- what one hearing leaves, as counted
abbrev came_of : Seen → List ℕ → Option (List ℕ) → Hearing
came_of s tsdu j = respond_came (record { state = s.state; joined = j }) (said_at tsdu)

kept_held : (p : Phase) (n : Option ℕ) → may_hold p ≡ true → kept_count p n ≡ n
kept_held p n h = rw h refl

shifted_count : (f : State → State) (h k : Hearing) (c : Count) → Shifted f h k → counted h ≡ c → c.reply ≡ None →
    counted k ≡ record c { state = f c.state }
shifted_count f h k c s e r = grind arith

module _ {P : State → Type 0} {gone : Phase → Bool} {f : State → State} (a : IsAheadBy P gone f) where
  -- what is gone stays gone
  gone_word : (t : Taker) (v : Word) → gone t.state.phase ≡ true → gone (respond_word t v).next.state.phase ≡ true
  gone_word t v h = word_keeps (λ s. gone s.phase ≡ true) t v (λ u acts. a.ends t.state u h) (λ o. a.aborts) h

  gone_words : (t : Taker) (vs : Words) → gone t.state.phase ≡ true → gone (respond_words t vs).next.state.phase ≡ true
  gone_words t vs h = all_keep (λ s. gone s.phase ≡ true) (λ w. Unit {0}) t vs (λ r w q. gone_word r w) (any_word vs) h

  gone_came : (t : Taker) (came : Result Words SpduFault) → gone t.state.phase ≡ true
      → gone (respond_came t came).next.state.phase ≡ true
  gone_came t (Ok words) h = gone_words t (acting_words words) h
  gone_came t (Err fault) h = gone_fault gone t.state fault a.aborts h

  words_go : (t : Taker) (vs : Words) → P t.state → (respond_words t vs).reply ≡ None
      → Goes P gone f (respond_words t vs) (respond_words (shifted f t) vs)
  unfolding respond_words
  words_go t [] p r = inr (p, record { next = refl; quiet = refl; closes = refl })
  words_go t (v ∷ vs) p r =
      let q = words_quiet t v vs r in
      let h = respond_word t v in
      let k = respond_word (shifted f t) v in
      let whole = good_then t v vs (quiet_good t v q.0) in
      elim (a.step t v p q.0) [
        | inl g ↦ inl (subst (λ (x : Hearing). gone x.next.state.phase ≡ true) (sym whole) (gone_words h.next vs g))
        | inr s ↦ (let ahead = good_then (shifted f t) v vs (quiet_good (shifted f t) v s.1.quiet)
            ∙ ap (λ (x : Taker). heard_then k (respond_words x vs)) s.1.next in
            grind (arith, respond_words, words_go h.next vs s.0 q.1))
      ]

  came_goes : (t : Taker) (came : Result Words SpduFault) → P t.state → (respond_came t came).reply ≡ None
      → Goes P gone f (respond_came t came) (respond_came (shifted f t) came)
  came_goes t (Ok words) p r = words_go t (acting_words words) p r
  came_goes t (Err fault) p r = absurd (fault_loud t.state fault (excluded may_hold is_over refl t.state.phase (a.holds t.state p)) r)

  -- both take one TSDU, or the word is gone
  pub hears_ahead : (g : Option ℕ → Option ℕ) (s t : Seen) (tsdu : List ℕ) → P s.state → Hears s tsdu t
      → (gone t.state.phase ≡ true) ⊎ (P t.state × Hears (leaves f g s) tsdu (leaves f g t))
  hears_ahead g s t tsdu p h = elim (cases_Bool (gone h.count.state.phase)) [
    | inl y ↦ inl (subst (λ (x : Seen). gone x.state.phase ≡ true) (sym h.next) y)
    | inr n ↦ inr (on n)
  ]
    where
      went_on : gone h.count.state.phase ≡ false → (j : Option (List ℕ)) → option_map length j ≡ s.joined →
          P h.count.state × Shifted f (came_of s tsdu j) (came_of (leaves f g s) tsdu j)
      went_on n j e = elim (came_goes (record { state = s.state; joined = j }) (said_at tsdu) p
          (ap (λ (c : Count). c.reply) (h.taken j e) ∙ h.quiet)) [
            | inl y ↦ (let z = subst (λ (c : Count). gone c.state.phase ≡ true) (h.taken j e) y in absurd (cc))
            | inr m ↦ (subst (λ (c : Count). P c.state) (h.taken j e) m.0, m.1)
          ]

      on : gone h.count.state.phase ≡ false → P t.state × Hears (leaves f g s) tsdu (leaves f g t)
      on n =
          let q = (went_on n (so_many s.joined) (so_many_are s.joined)).0 in
          let held = a.holds h.count.state q in
          let sent = kept_held h.count.state.phase s.sent held in (
            subst (λ (x : Seen). P x.state) (sym h.next) q,
            record {
              count = record h.count { state = f h.count.state };
              listening = ap (λ (x : Phase). not (s.closed || is_wait_transport x)) (a.phase s.state) ∙ h.listening;
              taken = λ j e. shifted_count f (came_of s tsdu j) (came_of (leaves f g s) tsdu j) h.count (went_on n j e).1 (h.taken j e)
                  h.quiet;
              quiet = h.quiet;
              next = grind arith;
            },
          )

  -- what is gone stays gone
  pub hears_gone : (s t : Seen) (tsdu : List ℕ) → gone s.state.phase ≡ true → Hears s tsdu t → gone t.state.phase ≡ true
  hears_gone s t tsdu g h =
      subst (λ (x : Seen). gone x.state.phase ≡ true) (sym h.next)
      (subst (λ (c : Count). gone c.state.phase ≡ true) (h.taken (so_many s.joined) (so_many_are s.joined))
      (gone_came (record { state = s.state; joined = so_many s.joined }) (said_at tsdu) g))
