-- Two sessions whose connection is over, in the same phase, take and send the same. For the law of what lies between.
use Rattle.std.proofs.Common.{arith}
use Rattle.osi_side.proofs.Vocabulary.{◌≡◌, ◌∙◌, refl, sym, ap, subst, ℕ, Bool, true, false, not, ◌||◌, is_none, unwrap_or, if◌then◌else◌}
use Rattle.osi_side.proofs.Vocabulary.{List, [], ◌∷◌, Option, Some, None, option_map, Result, Ok, Err, and_parts, SpduFault, Meaning}
use Rattle.osi_side.proofs.Vocabulary.{said_at, Word, Words, says, part, State, Call, taker_with, Hearing, begins_anew, heard_then}
use Rattle.osi_side.proofs.Vocabulary.{respond_came, is_over, over, first_reply, has_no_effect, replies_abort, Seen, Count, Takes, CanSay}
use Rattle.osi_side.proofs.Vocabulary.{calling, goes, is_in_size, said_message, said_within, where_is, may_call, excluded, so_many}
use Rattle.osi_side.proofs.Vocabulary.{so_many_are, over_refuses, call_leaves, if_state, word_at}
unfoldable use Rattle.osi_session.specs.Joining.{acting_words, respond_word, respond_words}
unfoldable use Rattle.osi_session.specs.Respond.{respond_fault}
use Rattle.osi_session.proofs.ahead.the_state_after_a_word.{within}
use Rattle.osi_side.proofs.told.a_tsdu_leaves_one_count.{then_words, by_reply, one_count}
use Rattle.osi_side.proofs.walked.what_is_said_between.{can_say}

-- the connection is over for both, in the same way
pub record SameEnd (s t : State) : Type 0 where
  pub over : is_over s.phase ≡ true
  pub phase : t.phase ≡ s.phase
  pub caller : t.is_caller ≡ s.is_caller
  pub sizes : t.sizes ≡ s.sizes

pub record AlikeHearing (h k : Hearing) : Type 0 where
  pub ends : SameEnd h.next.state k.next.state
  pub reply : k.reply ≡ h.reply
  pub closes : k.closes ≡ h.closes

heard_alike : (j k : Option (List ℕ)) (s t : State) (w : Word) → SameEnd s t
    → AlikeHearing (respond_word (taker_with s j) w) (respond_word (taker_with t k) w)
heard_alike j k s t w h =
    let other : is_over t.phase ≡ true = ap is_over h.phase ∙ h.over in
    grind (arith, word_at (taker_with s j) w over (rw h.over refl), word_at (taker_with t k) w over (rw other refl))

abbrev EndAlike : Words → Type 0
EndAlike ws = (j k : Option (List ℕ)) (s t : State) → SameEnd s t → AlikeHearing (respond_words (taker_with s j) ws) (respond_words
    (taker_with t k) ws)

then_alike : (ws : Words) (h k : Hearing) → EndAlike ws → AlikeHearing h k → AlikeHearing (then_words ws h) (then_words ws k)
then_alike ws h k more a =
    subst (λ (b : Bool). AlikeHearing (then_words ws h) (if b then k else heard_then k (respond_words k.next ws))) (sym (ap replies_abort
    a.reply)) (by (replies_abort h.reply))
  where
    rest : AlikeHearing (respond_words h.next ws) (respond_words k.next ws)
    rest = more h.next.joined k.next.joined h.next.state k.next.state a.ends

    by : (b : Bool) → AlikeHearing (if b then h else heard_then h (respond_words h.next ws)) (if b then k else heard_then k (respond_words
        k.next ws))
    by true = a
    by false = record {
      ends = rest.ends;
      reply = ap (λ (r : Option Meaning). first_reply r (respond_words k.next ws).reply) a.reply ∙ ap (first_reply h.reply) rest.reply;
      closes = ap (λ (c : Bool). c || (respond_words k.next ws).closes) a.closes ∙ ap (λ (c : Bool). h.closes || c) rest.closes;
    }

words_alike : (ws : Words) → EndAlike ws
unfolding respond_words
words_alike [] = λ j k s t h. record { ends = h; reply = refl; closes = refl }
words_alike (w ∷ ws) = search (arith, by_reply, then_words, then_alike, heard_alike, words_alike ws)

fault_alike : (j k : Option (List ℕ)) (s t : State) (fault : SpduFault) → SameEnd s t
    → AlikeHearing (respond_came (taker_with s j) (Err fault)) (respond_came (taker_with t k) (Err fault))
unfolding respond_fault
fault_alike j k s t fault h = grind arith

came_alike : (j k : Option (List ℕ)) (s t : State) (came : Result Words SpduFault) → SameEnd s t
    → AlikeHearing (respond_came (taker_with s j) came) (respond_came (taker_with t k) came)
came_alike j k s t (Ok words) h = words_alike (acting_words words) j k s t h
came_alike j k s t (Err fault) h = fault_alike j k s t fault h

-- ---- a TSDU that they take

pub record TakesAlike (t : Seen) (tsdu : List ℕ) (c : Count) : Type 0 where
  pub count : Count
  pub taken : Takes t tsdu count
  pub ends : SameEnd c.state count.state
  pub reply : count.reply ≡ c.reply
  pub closes : count.closes ≡ c.closes

pub takes_alike : (s t : Seen) (tsdu : List ℕ) (c : Count) → SameEnd s.state t.state → Takes s tsdu c → TakesAlike t tsdu c
takes_alike s t tsdu c h k =
    let o = one_count t tsdu in
    let a = came_alike (so_many s.joined) (so_many t.joined) s.state t.state (said_at tsdu) h in
    grind (arith, so_many, so_many_are)

-- ---- what they send

neither : (b : Bool) → b ≡ true → b ≡ false → ⊥
neither b h k = grind arith

no_call : (s : State) (c : Call) (x : State) → is_over s.phase ≡ true → calling s c ≡ Some x → ⊥
no_call s c x o h = neither (may_call s.phase c) (call_leaves s c x h).phase (over_refuses c s.phase o)

no_where : (b : Bool) (s : State) (c : Call) (x : State) → is_over s.phase ≡ true → where_is b (calling s c) ≡ Some x → ⊥
no_where b s c x o h = no_call s c x o (if_state b (calling s c) x h).1

if_this : (b : Bool) (x y : Seen) → (if b then Some x else None) ≡ Some y → b ≡ true
if_this b x y h = grind arith

-- a side whose connection is over sends only token items that name no token
pub record SaysNothing (s : Seen) (w : Word) (next : Seen) : Type 0 where
  pub same : next ≡ s
  pub any : (t : Seen) → said_within t w ≡ Some t

over_within : (s next : Seen) (w : Word) → is_over s.state.phase ≡ true → said_within s w ≡ Some next → SaysNothing s w next
over_within s next (part place octets) e h = search (arith, if_this, unwrap_or, and_parts, neither, excluded)
over_within s next (says m) e h = by (has_no_effect m) refl (is_none s.sent || not (begins_anew m)) refl
  where
    by : (b : Bool) → has_no_effect m ≡ b → (d : Bool) → (is_none s.sent || not (begins_anew m)) ≡ d → SaysNothing s (says m) next
    by true p d q =
        let at : (t : Seen) → said_within t (says m) ≡ Some t = λ t. rw p refl in
        record { same = grind arith; any = at }
    by false p false q = let none : said_within s (says m) ≡ None = rw (p, q) refl in let z = sym none ∙ h in absurd (cc)
    by false p true q =
        let some : said_within s (says m) ≡ option_map (goes s) (said_message s.state m) = rw (p, q) refl in
        absurd (grind (arith, neither, and_parts, if_state, excluded, no_call, no_where))

same_size : (s t : State) (n : ℕ) → SameEnd s t → is_in_size t n ≡ is_in_size s n
same_size s t n h = grind arith

-- the other says it too
pub says_alike : (s t : Seen) (w : Word) (n : ℕ) (next : Seen) → SameEnd s.state t.state → t.closed ≡ s.closed → CanSay s w n next
    → (next ≡ s) × CanSay t w n t
says_alike s t w n next h c k =
    let p = within s next w n k in
    let q = over_within s next w h.over p.1 in
    let size = same_size s.state t.state n h in search (arith, can_say, q.any t)
