-- A side that has sent a word at the first point at which it may, beside one that has not sent it: what both take, and
-- what the other sends.
use Rattle.osi_session.proofs.Vocabulary.{and_parts, Phase, State, Place, is_last, Call, Minor, MinorConfirm, MIA, MIP, available}
use Rattle.osi_session.proofs.Vocabulary.{minor_confirmed, point_sent, arith, ◌≡◌, refl, sym, subst, ℕ, ◌+◌, Bool, true, false, ◌||◌, ◌==◌}
use Rattle.osi_session.proofs.Vocabulary.{◌⊎◌, inl, inr, is_none, unwrap_or, if◌then◌else◌, List, [], ◌∷◌, length, Option, Some, None}
use Rattle.osi_session.proofs.Vocabulary.{option_map, Word, says, part, Seen, goes, where_is, calling, CanSay, is_steady, Hears, HearsAll}
use Rattle.osi_session.proofs.ahead.a_side_that_has_sent_a_word.{leaves, IsAheadBy, hears_ahead, hears_gone}
use Rattle.osi_session.proofs.ahead.words_that_may_be_sent_first.{past_ready, past_confirming, IsReady, same_state, part_ahead, renumbered}
use Rattle.osi_session.proofs.ahead.words_that_may_be_sent_first.{MayPoint, point_ahead, MayConfirm, conf_ahead}
use Rattle.osi_session.proofs.tables.what_is_true_of_each_phase.{excluded}
use Rattle.osi_session.proofs.ahead.the_state_after_a_word.{if_seen, if_state, within, CallLeaves, call_leaves, mapped, idle_leaves}

-- ---- what each word leaves

abbrev same_sent : Option ℕ → Option ℕ
same_sent sent = sent

-- how much of an unfinished Data is sent after a part
abbrev sent_by : Place → List ℕ → Option ℕ → Option ℕ
sent_by place octets sent = if is_last place then None else Some (unwrap_or sent 0 + length octets)

call_next : (s y : Seen) (c : Call) (b : Bool) → (if b then option_map (goes s) (calling s.state c) else None) ≡ Some y →
    (n : State) × CallLeaves s.state c n × (y ≡ goes s n)
call_next s y c b h =
    let a = if_seen b _ y h in
    search (arith, call_leaves, mapped (goes s) (calling s.state c) y a.1)

numbered_next : (s y : Seen) (c : Call) (b d : Bool) → (if b then option_map (goes s) (where_is d (calling s.state c)) else None) ≡ Some y →
    (n : State) × CallLeaves s.state c n × (y ≡ goes s n)
numbered_next s y c b d h =
    let a = if_seen b _ y h in
    let m = mapped (goes s) (where_is d (calling s.state c)) y a.1 in
    (m.0, call_leaves s.state c m.0 (if_state d (calling s.state c) m.0 m.1).1, m.2)

said_point : (s y : Seen) (c : Bool) (k : ℕ) (o : List ℕ) (n : ℕ) → CanSay s (says (MIP c k o)) n y →
    MayPoint s.state × (y ≡ leaves (renumbered point_sent) same_sent s)
unfolding available
said_point s y c k o n h =
    let m = numbered_next s y (Minor c o) (is_none s.sent || false) (k == s.state.numbers.next) (within s y (says (MIP c k o)) n h).1 in
    grind (arith, and_parts)

said_conf : (s y : Seen) (k : ℕ) (o : List ℕ) (n : ℕ) → CanSay s (says (MIA k o)) n y →
    MayConfirm s.state × (y ≡ leaves (renumbered (minor_confirmed k)) same_sent s)
said_conf s y k o n h =
    let m = call_next s y (MinorConfirm k o) (is_none s.sent || true) (within s y (says (MIA k o)) n h).1 in
    grind (arith, and_parts)

said_part : (s y : Seen) (place : Place) (o : List ℕ) (n : ℕ) → CanSay s (part place o) n y →
    IsReady s.state × (y ≡ leaves same_state (sent_by place o) s)
said_part s y place o n h = search (arith, and_parts, unwrap_or s.sent 0, within s y (part place o) n h)

-- ---- beside each other

-- The second has sent the word, and the first has not.
abbrev pub IsAhead : Word → Seen → Seen → Type 0
IsAhead (says (MIP confirm n octets)) s y = MayPoint s.state × (y ≡ leaves (renumbered point_sent) same_sent s)
IsAhead (says (MIA n octets)) s y = MayConfirm s.state × (y ≡ leaves (renumbered (minor_confirmed n)) same_sent s)
IsAhead (part place octets) s y = IsReady s.state × (y ≡ leaves same_state (sent_by place octets) s)
IsAhead _ s y = y ≡ s

-- it may never be sent again
abbrev pub is_gone : Word → Phase → Bool
is_gone (says (MIP confirm n octets)) p = past_ready p
is_gone (says (MIA n octets)) p = past_confirming p
is_gone (part place octets) p = past_ready p
is_gone _ p = false

pub said_ahead : (s y : Seen) (w : Word) (n : ℕ) → is_steady w ≡ true → CanSay s w n y → IsAhead w s y
said_ahead s y w n e h = grind (arith, idle_leaves, said_point, said_conf, said_part)

-- if the first sends it too, both are equal
pub said_alike : (s y z : Seen) (w : Word) (n : ℕ) → is_steady w ≡ true → IsAhead w s y → CanSay s w n z → z ≡ y
said_alike s y z w n e a h = same_ahead w s y z a (said_ahead s z w n e h)
  where
    same_ahead : (w : Word) (s y z : Seen) → IsAhead w s y → IsAhead w s z → z ≡ y
    same_ahead w s y z a b = grind arith

-- a TSDU that the first takes and does not answer, the second takes too, and does not answer it, unless the first will
-- never send the word
abbrev pub BothHear : Word → Seen → Seen → List ℕ → Type 0
BothHear w y t tsdu = (is_gone w t.state.phase ≡ true) ⊎ ((z : Seen) × (Hears y tsdu z) × (IsAhead w t z))

by_ahead : {P : State → Type 0} {gone : Phase → Bool} {f : State → State} {s t y : Seen} {tsdu : List ℕ} (a : IsAheadBy P gone f)
    (g : Option ℕ → Option ℕ) → P s.state → y ≡ leaves f g s → Hears s tsdu t
    → (gone t.state.phase ≡ true) ⊎ ((z : Seen) × (Hears y tsdu z) × (P t.state × (z ≡ leaves f g t)))
by_ahead {f = f} {s = s} {t = t} {tsdu = tsdu} a g p e h = elim (hears_ahead a g s t tsdu p h) [
  | inl x ↦ inl x
  | inr x ↦ inr (leaves f g t, subst (λ (v : Seen). Hears v tsdu (leaves f g t)) (sym e) x.1, (x.0, refl))
]

pub both_hear : (s t y : Seen) (w : Word) (tsdu : List ℕ) → IsAhead w s y → Hears s tsdu t → BothHear w y t tsdu
both_hear s t y (says (MIP c k o)) tsdu a h = by_ahead point_ahead same_sent a.0 a.1 h
both_hear s t y (says (MIA k o)) tsdu a h = by_ahead (conf_ahead k) same_sent a.0 a.1 h
both_hear s t y (part place o) tsdu a h = by_ahead part_ahead (sent_by place o) a.0 a.1 h
both_hear s t y _ tsdu a h = inr (t, subst (λ (v : Seen). Hears v tsdu t) (sym a) h, refl)

-- what is gone stays gone, and is not sent
pub gone_stays : (s t : Seen) (w : Word) (tsdu : List ℕ) → is_gone w s.state.phase ≡ true → Hears s tsdu t → is_gone w t.state.phase ≡ true
gone_stays s t (says (MIP c k o)) tsdu g h = hears_gone point_ahead s t tsdu g h
gone_stays s t (says (MIA k o)) tsdu g h = hears_gone (conf_ahead k) s t tsdu g h
gone_stays s t (part place o) tsdu g h = hears_gone part_ahead s t tsdu g h
gone_stays s t _ tsdu g h = absurd (cc)

pub gone_said : (s z : Seen) (w : Word) (n : ℕ) → is_gone w s.state.phase ≡ true → CanSay s w n z → ⊥
gone_said s z w n g h = grind (arith, said_point, excluded, past_ready, said_conf, past_confirming, said_part)

-- ---- and so over all TSDUs that are taken

gone_all : (s t z : Seen) (tsdus : List (List ℕ)) (w : Word) (n : ℕ) → is_gone w s.state.phase ≡ true → HearsAll s tsdus t →
    CanSay t w n z → ⊥
gone_all s t z [] w n g h k = gone_said s z w n g (subst (λ (x : Seen). CanSay x w n z) h k)
gone_all s t z (u ∷ us) w n g h k = gone_all h.0 t z us w n (gone_stays s h.0 w u g h.1) h.2 k

ahead_all : (s t y z : Seen) (tsdus : List (List ℕ)) (w : Word) (n : ℕ) → is_steady w ≡ true → IsAhead w s y → HearsAll s tsdus t →
    CanSay t w n z → HearsAll y tsdus z
ahead_all s t y z [] w n e a h k = said_alike s y z w n e a (subst (λ (x : Seen). CanSay x w n z) h k)
ahead_all s t y z (u ∷ us) w n e a h k = elim (both_hear s h.0 y w u a h.1) [
  | inl g ↦ absurd (gone_all h.0 t z us w n g h.2 k)
  | inr b ↦ (b.0, b.1, ahead_all h.0 t b.0 z us w n e b.2 h.2 k)
]

pub may_be_first : (s t y z : Seen) (tsdus : List (List ℕ)) (w : Word) (n : ℕ) → is_steady w ≡ true → CanSay s w n y → HearsAll s tsdus t →
    CanSay t w n z → HearsAll y tsdus z
may_be_first s t y z tsdus w n e c h k = ahead_all s t y z tsdus w n e (said_ahead s y w n e c) h k
