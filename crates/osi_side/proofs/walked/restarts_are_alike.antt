-- Two sessions that restarted at one number, and would be equal if they had restarted at V(R), differ in V(A) alone. For `join`.
use Rattle.osi_side.proofs.Vocabulary.{◌≡◌, ◌∙◌, sym, subst, ℕ, ◌≤◌, ◌||◌, true, is_none, List, None, arith, and_parts}
use Rattle.osi_side.proofs.Vocabulary.{leb-true, ResyncType, TokenSetting, RS, Word, says, Restarting, Restart, is_restart_word, lower}
use Rattle.osi_side.proofs.Vocabulary.{is_restart, offered, Seen, CanSay, calling, goes, where_is, without_tokens, if_seen, if_state}
use Rattle.osi_side.proofs.Vocabulary.{call_leaves, mapped, seen_to, Restarted}
unfoldable use Rattle.osi_session.specs.Numbers.{restarted_at}
use Rattle.osi_session.proofs.ahead.the_state_after_a_word.{within}

-- a word that is a restart
pub record IsRestart (w : Word) : Type 0 where
  pub kind : ResyncType
  pub number : ℕ
  pub wishes : TokenSetting
  pub octets : List ℕ
  pub is : w ≡ says (RS kind number wishes octets)

-- the session after it
abbrev restarted : Seen → ℕ → TokenSetting → Seen
restarted s n w = record s {
  state = record (without_tokens Restarting s.state) {
    wishes = offered s.state.units w;
    numbers = restarted_at
        n s.state.numbers;
  };
  joined = None;
  sent = None;
}

left_by_it : (s x : Seen) (k : ResyncType) (n : ℕ) (w : TokenSetting) (d : List ℕ) (o : ℕ) → CanSay s (says (RS k n w d)) o x
    → (x ≡ restarted s n w) × (s.state.numbers.lowest ≤ n)
left_by_it s x k n w d o h =
    let a = if_seen (is_none s.sent || true) _ x (within s x (says (RS k n w d)) o h).1 in
    let m = mapped (goes s) (where_is (is_restart k) (calling s.state (Restart n w d))) x a.1 in
    let c = if_state (is_restart k) (calling s.state (Restart n w d)) m.0 m.1 in
    grind (arith, leb-true, and_parts, call_leaves s.state (Restart n w d) m.0 c.1)

alike_at : (s t : Seen) (n k : ℕ) (w v : TokenSetting) → s.state.numbers.lowest ≤ k → t.state.numbers.lowest ≤ k
    → restarted s k v ≡ restarted t k v
    → restarted t n w ≡ seen_to (lower n t.state.numbers.confirmed) (restarted s n w)
unfolding restarted_at
alike_at s t n k w v p q e = search arith

alike_by : (r q : Word) (o : ℕ) (x y p : Seen) (a : IsRestart r) (b : IsRestart q) → Restarted r q o x p → Restarted r q o y p
    → y ≡ seen_to y.state.numbers.confirmed x
unfolding restarted_at
alike_by r q o x y p a b f g =
    let s = f.from in
    let t = g.from in
    let k = left_by_it s x a.kind a.number a.wishes a.octets o (subst (λ (w : Word). CanSay s w o x) a.is f.sent) in
    let l = left_by_it s p b.kind b.number b.wishes b.octets o (subst (λ (w : Word). CanSay s w o p) b.is f.shows) in
    let m = left_by_it t y a.kind a.number a.wishes a.octets o (subst (λ (w : Word). CanSay t w o y) a.is g.sent) in
    let n = left_by_it t p b.kind b.number b.wishes b.octets o (subst (λ (w : Word). CanSay t w o p) b.is g.shows) in
    grind (arith, alike_at s t a.number b.number a.wishes b.wishes l.1 n.1 (sym l.0 ∙ n.0))

pub alike : (r q : Word) (o : ℕ) (x y p : Seen) → is_restart_word r ≡ true → is_restart_word q ≡ true → Restarted r q o x p
    → Restarted r q o y p → y ≡ seen_to y.state.numbers.confirmed x
alike r q o x y p a b f g = alike_by r q o x y p (grind arith) (grind arith) f g
