-- A session that waits for the answer to its restart explains the same before and after a TSDU that it discards. For `wait`.
use Rattle.std.proofs.Common.{arith}
use Rattle.osi_side.proofs.Vocabulary.{◌≡◌, ◌∙◌, refl, sym, ap, subst, ℕ, ◌+◌, ◌<◌, ◌⊎◌, ◌↔◌, inl, inr, Bool, true, false, not, ◌||◌}
use Rattle.osi_side.proofs.Vocabulary.{is_none, unwrap_or, if◌then◌else◌, List, [], get_or, Some, None, option_map, and_parts, Meaning, CN}
use Rattle.osi_side.proofs.Vocabulary.{AC, RF, DT, GT, PT, MIP, MIA, MAP, MAA, RS, RA, FN, DN, NF, AB, AA, names, Word, part, Phase}
use Rattle.osi_side.proofs.Vocabulary.{Aborting, State, may_call, Call, Data, Give, Please, ReleaseAccept, ReleaseRefuse, Abort}
use Rattle.osi_side.proofs.Vocabulary.{begins_anew, is_ready, is_release_due, is_restarting, may_ask, may_give, has_no_effect, Seen, Count}
use Rattle.osi_side.proofs.Vocabulary.{CanSay, Takes, after_count, calling, goes, said_message, said_within, where_is, without_tokens}
use Rattle.osi_side.proofs.Vocabulary.{Hears, excluded, call_leaves, if_seen, if_state, mapped, Remark, Explains, done, takes, answers}
use Rattle.osi_side.proofs.Vocabulary.{IsBehind, Waits, aborted, is_abort_word}
use Rattle.osi_message.specs.Words.{says}
use Rattle.osi_session.proofs.ahead.the_state_after_a_word.{within}
use Rattle.osi_side.specs.Explaining.{says}
use Rattle.osi_side.proofs.walked.a_walk_loses_no_explanation.{takes_one, none_or_some, before_it}
use Rattle.osi_side.proofs.walked.what_ends_alike.{SameEnd, says_alike}

neither : (b : Bool) → b ≡ true → b ≡ false → ⊥
neither b h k = grind arith

-- ---- what it may send: an abort

refused : (g : Phase → Bool) (s : State) (c : Call) (x : State) → is_restarting s.phase ≡ true → (is_restarting s.phase ≡ true
    → may_call s.phase c ≡ false) → calling s c ≡ Some x → ⊥
refused g s c x r k h = neither (may_call s.phase c) (call_leaves s c x h).phase (k r)

only_abort : (s : State) (m : Meaning) (x : State) → is_restarting s.phase ≡ true → said_message s m ≡ Some x
    → x ≡ without_tokens Aborting s
only_abort s (CN y r i w f t z o) x e h = grind (arith, neither, and_parts, if_state, excluded)
only_abort s (AC y r i w z o) x e h = grind (arith, neither, and_parts, if_state, excluded)
only_abort s (RF reason o) x e h = grind (arith, refused, excluded)
only_abort s (DT o) x e h = absurd (refused is_ready s (Data o) x e (excluded is_restarting is_ready refl s.phase) h)
only_abort s (GT t) x e h = absurd (refused may_give s (Give t) x e (excluded is_restarting may_give refl s.phase) h)
only_abort s (PT t o) x e h = absurd (refused may_ask s (Please t o) x e (excluded is_restarting may_ask refl s.phase) h)
only_abort s (MIP c k o) x e h = grind (arith, refused, excluded, if_state)
only_abort s (MIA k o) x e h = grind (arith, refused, excluded)
only_abort s (MAP k o) x e h = grind (arith, refused, excluded, if_state)
only_abort s (MAA k o) x e h = grind (arith, refused, excluded, if_state)
only_abort s (RS t k w o) x e h = grind (arith, refused, excluded, if_state)
only_abort s (RA k w o) x e h = grind (arith, refused, excluded, if_state)
only_abort s (FN o) x e h = grind (arith, neither, and_parts, if_state, excluded)
only_abort s (DN o) x e h = absurd (refused is_release_due s (ReleaseAccept o) x e (excluded is_restarting is_release_due refl s.phase) h)
only_abort s (NF o) x e h = absurd (refused is_release_due s (ReleaseRefuse o) x e (excluded is_restarting is_release_due refl s.phase) h)
only_abort s (AB b o) x e h = (call_leaves s (Abort o) x (if_state (not (names b 4)) (calling s (Abort o)) x h).1).next
only_abort s AA x e h = absurd (cc)

if_this : (b : Bool) (x y : Seen) → (if b then Some x else None) ≡ Some y → b ≡ true
if_this b x y h = grind arith

waiting_within : (s next : Seen) (w : Word) → is_restarting s.state.phase ≡ true → said_within s w ≡ Some next
    → (next ≡ s) ⊎ (next ≡ aborted s)
waiting_within s next (part place octets) e h = grind (arith, if_this, unwrap_or, and_parts, neither, excluded)
waiting_within s next (says m) e h = by (has_no_effect m) refl (is_none s.sent || not (begins_anew m)) refl
  where
    by : (b : Bool) → has_no_effect m ≡ b → (d : Bool) → (is_none s.sent || not (begins_anew m)) ≡ d → (next ≡ s) ⊎ (next ≡ aborted s)
    by true p d q = let at : said_within s (says m) ≡ Some s = rw p refl in inl (grind arith)
    by false p false q = let none : said_within s (says m) ≡ None = rw (p, q) refl in let z = sym none ∙ h in absurd (cc)
    by false p true q =
        let some : said_within s (says m) ≡ option_map (goes s) (said_message s.state m) = rw (p, q) refl in
        let k = mapped (goes s) (said_message s.state m) next (sym some ∙ h) in
        inr (k.2 ∙ ap (goes s) (only_abort s.state m k.0 e k.1))

waiting_says : (s next : Seen) (w : Word) (o : ℕ) → is_restarting s.state.phase ≡ true → CanSay s w o next → (next ≡ s) ⊎ (next ≡ aborted s)
waiting_says s next w o e h = waiting_within s next w e (within s next w o h).1

-- ---- a session that a TSDU leaves as it is

left_as : (s y : Seen) (tsdu : List ℕ) (d : Count) → y ≡ s → Hears s tsdu s → Takes y tsdu d → (d.reply ≡ None) × (after_count y d ≡ y)
left_as s y tsdu d e h k =
    let same = takes_one s tsdu d h.count (subst (λ (x : Seen). Takes x tsdu d) e k) h.taken in
    (ap (λ (c : Count). c.reply) same ∙ h.quiet, (λ i. after_count (e i) (same i)) ∙ sym h.next ∙ sym e)

over_stays : (us : List (List ℕ)) (ms : List Remark) (j : ℕ) (s : Seen) → SameEnd s.state s.state → Hears s (get_or us j []) s
    → (y : Seen) → y ≡ s → Explains us ms j y → Explains us ms (j + 1) y
over_stays us ms j s o h y e (done _ _) = done (j + 1) y
over_stays us ms j s o h y e (takes m rest _ _ d b l k r f) = grind (arith, left_as s y (get_or us j []) d e h k)
over_stays us ms j s o h y e (answers m rest _ _ d reply w b l k r a x f) = absurd (none_or_some d.reply reply (left_as s y (get_or us j
    []) d e h k).0 r)
over_stays us ms j s o h y e (says m rest _ _ next w a k f) =
    let same = (says_alike s s w m.octets next o refl (subst (λ (x : Seen). CanSay x w m.octets next) e k)).0 in
    says m rest (j + 1) y next w a k (over_stays us rest j s o h next same f)

waits_on : (us : List (List ℕ)) (ms : List Remark) (j : ℕ) (s : Seen) → Waits s (get_or us j []) → (y : Seen) → y ≡ s
    → Explains us ms j y → Explains us ms (j + 1) y
waits_on us ms j s w y e (done _ _) = done (j + 1) y
waits_on us ms j s w y e (takes m rest _ _ d b l k r f) = grind (arith, left_as s y (get_or us j []) d e w.stays k)
waits_on us ms j s w y e (answers m rest _ _ d reply v b l k r a x f) = absurd (none_or_some d.reply reply (left_as s y (get_or us j []) d
    e w.stays k).0 r)
waits_on us ms j s w y e (says m rest _ _ next v a k f) =
    elim (waiting_says s next v m.octets w.restarting (subst (λ (x : Seen). CanSay x v m.octets next) e k)) [
      | inl same ↦ says m rest (j + 1) y next v a k (waits_on us rest j s w next same f)
      | inr over ↦ says m rest (j + 1) y next v a k
          (over_stays us rest j (aborted s) (record { over = refl; phase = refl; caller = refl; sizes = refl }) w.over next over f)
    ]

pub waits_both : (us : List (List ℕ)) (later : List Remark) (before j : ℕ) (s : Seen) → j < before → IsBehind before later
    → Waits s (get_or us j [])
    → Explains us later j s ↔ Explains us later (j + 1) s
waits_both us later before j s b h w = (waits_on us later j s w s refl, before_it us later before j s s b h w.stays)

-- ---- the session after an abort

is_the_abort : (s x : Seen) (b : ℕ) (d : List ℕ) (o : ℕ) → CanSay s (says (AB b d)) o x → x ≡ aborted s
is_the_abort s x b d o h =
    let a = if_seen (is_none s.sent || true) _ x (within s x (says (AB b d)) o h).1 in
    let m = mapped (goes s) (where_is (not (names b 4)) (calling s.state (Abort d))) x a.1 in
    m.2 ∙ ap (goes s) (call_leaves s.state (Abort d) m.0 (if_state (not (names b 4)) (calling s.state (Abort d)) m.0 m.1).1).next

pub it_waits : (s x : Seen) (tsdu : List ℕ) (w : Word) (o : ℕ) → is_abort_word w ≡ true → CanSay s w o x
    → is_restarting s.state.phase ≡ true → Hears s tsdu s → Hears x tsdu x → Waits s tsdu
it_waits s x tsdu w o e h r p q = record {
  restarting = r;
  stays = p;
  over = subst (λ (y : Seen). Hears y tsdu y) (grind (arith, is_the_abort)) q;
}
