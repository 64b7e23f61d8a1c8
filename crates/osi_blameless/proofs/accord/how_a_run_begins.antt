-- A run whose first TSDU is the CN of a caller goes on from where this CN is in flight.
-- For the laws that a run of two sessions is one of the machine.
use Rattle.osi_blameless.proofs.accord.Vocabulary.{[], ap, length, List, Option, refl, Some, subst, ℕ, ◌++◌, ◌∙◌, ◌∷◌, ◌≡◌, IsSendable}
use Rattle.osi_blameless.proofs.accord.Vocabulary.{says, Word}
use Rattle.osi_blameless.proofs.accord.Vocabulary.{written, begins, CanSay, Seen, seen_called, seen_calling, Offer, offer_sent, offering}
use Rattle.osi_blameless.proofs.accord.Vocabulary.{other}
use Rattle.osi_blameless.proofs.accord.Vocabulary.{Direction, Left, Accords, end_of, Sending, sending, words_in, connect_of, channel_of}
use Rattle.osi_blameless.proofs.accord.Vocabulary.{Pair}
use Rattle.osi_blameless.proofs.accord.Vocabulary.{pair_of, party_of, session_of, with_channel, with_session, arith}
use Rattle.osi_session.specs.Joining.{acting_words}
use Rattle.osi_session.specs.Standing.{said}
use Rattle.osi_message.specs.Written.{is_second}
use Rattle.osi_blameless.specs.accord.Accords as accord
use Rattle.osi_blameless.proofs.accord.messages_of_a_run.{AsMessages}

-- what is said of a run, and of what is left of it after a word and after a TSDU
pub record IsKept (P : (sent : List Sending) (p : Pair) → Accords sent p → Type 0) : Type 0 where
  pub says : (d : Direction) (later : List Sending) (p : Pair) (own : List ℕ) (before : ℕ) (w : Word) (words : List (Option Word))
      (next : Seen) (can : CanSay (session_of d p) w (length own) next)
      (run : Accords (sending d own before words ∷ later) (with_session d next p)) →
      P (sending d own before (Some w ∷ words) ∷ later) p (accord.says d later p own before w words next can run) →
      P (sending d own before words ∷ later) (with_session d next p) run
  pub sends : (d : Direction) (later : List Sending) (p : Pair) (own : List ℕ) (before : ℕ)
      (run : Accords later (with_channel d (channel_of d p ++ own ∷ []) p)) →
      P (sending d own before [] ∷ later) p (accord.sends d later p own before run) →
      P later (with_channel d (channel_of d p ++ own ∷ []) p) run

-- the CN of a caller is in flight
abbrev pub asking : Offer → Pair
asking o = record {
  left = record { session = begins (offering o); taken = 0; channel = written (offer_sent o) ∷ [] };
  right = party_of seen_called;
}

abbrev first_words : List Sending → List (Option Word)
first_words [] = []
first_words (sending d own before words ∷ sent) = words

abbrev first_side : List Sending → Direction
first_side [] = Left
first_side (sending d own before words ∷ sent) = d

abbrev first_octets : List Sending → List ℕ
first_octets [] = []
first_octets (sending d own before words ∷ sent) = own

abbrev after_first : List Sending → List Sending
after_first [] = []
after_first (x ∷ sent) = sent

abbrev beginning : Pair
beginning = pair_of seen_calling seen_called

connect_words : AsMessages → (o : Offer) → IsSendable (offer_sent o) → words_in (written (offer_sent o)) ≡ Some (says (offer_sent o)) ∷ []
unfolding acting_words is_second
connect_words k o send = rw (k.read (offer_sent o) send) refl

connect_leaves : (o : Offer) (octets : ℕ) (next : Seen) → CanSay seen_calling (says (offer_sent o)) octets next → next ≡ begins (offering o)
unfolding said
connect_leaves o octets next h = grind arith

nothing_comes : (d : Direction) (p : Pair) (tsdu : List ℕ) (rest : List (List ℕ)) → p ≡ beginning → channel_of (other d) p ≡ tsdu ∷ rest → ⊥
nothing_comes h p tsdu rest e there = grind arith

module _ (P : (sent : List Sending) (p : Pair) → Accords sent p → Type 0) (kept : IsKept P) where
  -- such a run, and its end
  abbrev Free : Pair → List Sending → Pair → Type 0
  Free q sent p = (run : Accords sent p) × P sent p run × (end_of run ≡ q)

  -- the TSDU is whole
  whole : (own : List ℕ) (before : ℕ) (sent : List Sending) {p : Pair} (run : Accords (sending Left own before [] ∷ sent) p) →
      P _ _ run →
      Free (end_of run) sent (with_channel Left (channel_of Left p ++ own ∷ []) p)
  whole own before sent (accord.sends d later p o b run) free = (run, kept.sends d later p o b run free, refl)

  -- the word of the CN is sent
  begun : (q : Pair) (o : Offer) (sent : List Sending) (d : Direction) (p : Pair) (own : List ℕ) (before : ℕ) (words : List (Option Word))
      (later : List Sending) (next : Seen) → p ≡ beginning → d ≡ Left → own ≡ written (offer_sent o) → words ≡ [] → later ≡ sent →
      next ≡ begins (offering o) → Free q (sending d own before words ∷ later) (with_session d next p) → Free q sent (asking o)
  begun q o sent d p own before words later next start left octets none same is free =
      let at : Free q (sending d own before words ∷ later) (with_session d next beginning) =
      subst (λ (x : Pair). Free q (sending d own before words ∷ later) (with_session d next x)) start free in
      let side : Free q (sending Left own before words ∷ later) (with_session Left next beginning) =
      subst (λ (x : Direction). Free q (sending x own before words ∷ later) (with_session x next beginning)) left at in
      let goes_on : Free q (sending Left own before words ∷ later) (with_session Left (begins (offering o)) beginning) =
      subst (λ (x : Seen). Free q (sending Left own before words ∷ later) (with_session Left x beginning)) is side in
      let all : Free q (sending Left (written (offer_sent o)) before [] ∷ sent) (with_session Left (begins (offering o)) beginning) =
      subst (λ (x : List Sending). Free q x (with_session Left (begins (offering o)) beginning))
      (λ i. sending Left (octets i) before (none i) ∷ same i) goes_on in
      let more = whole (written (offer_sent o)) before sent all.0 all.1 in
      (more.0, more.1, more.2 ∙ all.2)

  connected_from : AsMessages → (o : Offer) → IsSendable (offer_sent o) → (before : ℕ) (sent : List Sending) {all : List Sending} {p : Pair}
      (run : Accords all p) → P _ _ run → all ≡ connect_of o before ∷ sent → p ≡ beginning → Free (end_of run) sent (asking o)
  connected_from k o send before sent (accord.done p) free is start = absurd (cc)
  connected_from k o send before sent (accord.takes d later p own b w words tsdu rest c passed there hears taken quiet run) free is start =
      absurd (nothing_comes d p tsdu rest start there)
  connected_from k o send before sent (accord.answers d later p own b w words tsdu rest c m passed there hears taken replied r run) free is
      start = absurd (nothing_comes d p tsdu rest start there)
  connected_from k o send before sent (accord.says d later p own b w words next can run) free is start =
      let words_of_it : Some w ∷ words ≡ Some (says (offer_sent o)) ∷ [] = ap first_words is ∙ connect_words k o send in
      let word : w ≡ says (offer_sent o) = cc in
      let none : words ≡ [] = cc in
      let left : d ≡ Left = ap first_side is in
      let first : CanSay (session_of d beginning) w (length own) next =
      subst (λ (x : Pair). CanSay (session_of d x) w (length own) next) start can in
      let there : CanSay seen_calling w (length own) next = grind arith in
      begun (end_of run) o sent d p own b words later next start left (ap first_octets is) none (ap after_first is)
      (connect_leaves o (length own) next (subst (λ (x : Word). CanSay seen_calling x (length own) next) word there))
      (run, kept.says d later p own b w words next can run free, refl)
  connected_from k o send before sent (accord.sends d later p own b run) free is start = search (arith, connect_words)

  pub connected : AsMessages → (o : Offer) → IsSendable (offer_sent o) → (before : ℕ) (sent : List Sending)
      (run : Accords (connect_of o before ∷ sent) (pair_of seen_calling seen_called)) → P _ _ run → Free (end_of run) sent (asking o)
  connected k o send before sent run free = connected_from k o send before sent run free refl refl
