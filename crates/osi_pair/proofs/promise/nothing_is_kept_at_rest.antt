-- If nothing is in flight between two ends, a connection that is open at one is open at the other, and no received
-- octet is kept.
-- For the promises.
use Rattle.osi_between.specs.Zero as zero
use Rattle.osi_pair.proofs.Vocabulary.{◌≡◌, refl, sym, ◌∙◌, ap, ℕ, Bool, true, false, if◌then◌else◌, List, [], ◌∷◌, ◌++◌, Option, Some}
use Rattle.osi_pair.proofs.Vocabulary.{None, is_some, arith, none_open, at_one, first_here, eqb-true, sum_by-cons, Value, absent, begun_by}
use Rattle.osi_pair.proofs.Vocabulary.{kept_in, RiseFrom, Rows, value_at, Connection, State, linked, within_given, AreJoinedBy, Terms}
use Rattle.osi_pair.proofs.Vocabulary.{by_two, by_zero, refusing, Listener, kept_at, joined_of, joined_live, joined_in, Link as Standing}
use Rattle.osi_pair.proofs.Vocabulary.{EndLine as Line, kept_first}

-- ---- a connection that is open at one end

pub record IsLinkedAt (n : ℕ) (s : State) : Type 0 where
  pub peer : ℕ
  pub link : Standing
  pub live : value_at n s.live ≡ Some (linked peer link)

last_there : (us : List Value) (u : Value) → us ++ u ∷ [] ≡ [] → ⊥
last_there [] u e = cc
last_there (v ∷ us) u e = cc

-- class 0: there is one connection
one_linked : (n : ℕ) (s : State) (x : Standing) → n ≡ 1 → s.live ≡ (1, linked 1 x) ∷ [] → IsLinkedAt n s
one_linked n s x e live = record { peer = 1; link = x; live = ap (value_at n) live ∙ ap (λ (m : ℕ). value_at m ((1, linked 1 x) ∷ [])) e }

zero_across : (end : Bool) (s r : State) (n p : ℕ) (x : Standing) (g : zero.ZeroCourse) → zero.HasOne s (zero.at_end true g) →
    zero.HasOne r (zero.at_end false g) → [] ≡ zero.from_end false r.local g →
    value_at n (if end then s else r).live ≡ Some (linked p x) → IsLinkedAt n (if end then r else s)
zero_across end s r n p x g one other back at = grind (arith, one_linked, at_one)

-- a connection that is open at one end is open at the other, whatever they agree on
pub open_across : (end : Bool) (terms : Terms) (s r : State) (n p : ℕ) (x : Standing) → AreJoinedBy terms s r [] [] →
    value_at n (if end then s else r).live ≡ Some (linked p x) → IsLinkedAt n (if end then r else s)
open_across true by_two s r n p x j at =
    let st = j.stands n (within_given n s (linked p x) j.orderly at).0 in
    grind (arith, last_there)
open_across false by_two s r n p x j at =
    let st = j.stands n (within_given n r (linked p x) j.orderly_called at).0 in
    grind (arith, last_there)
open_across end by_zero s r n p x j at = zero_across end s r n p x j.course j.one j.one_called j.coming at
open_across true (refusing reason) s r n p x j at = absurd (none_open s j.stage n p x j.live at)
open_across false (refusing reason) s r n p x j at =
    absurd (let no : None ≡ Some (linked p x) = sym (ap (value_at n) j.live_called) ∙ at in cc)

-- ---- the octets of all connections

pub none_begun : (n : ℕ) (rows : Rows Connection) → RiseFrom n rows →
    ((r : ℕ) (x : Connection) → value_at r rows ≡ Some x → begun_by x ≡ 0) → kept_in rows ≡ 0
none_begun n [] rise all = refl
none_begun n ((r, x) ∷ rows) rise all =
    let first : begun_by x ≡ 0 = all r x (first_here r x rows) in
    grind (arith, eqb-true, absent, sum_by-cons, none_begun r rows rise.1 (λ q y at. all q y (grind (arith, eqb-true, absent))))

-- ---- the octets that sessions have joined

none_of : (live : Bool) (session : Option Listener) → ((l : Listener) → live ≡ true → session ≡ Some l → l.joined ≡ None) →
    (if live then joined_of session else 0) ≡ 0
none_of live session all = grind arith

pub none_joined : (n : ℕ) (live : Rows Connection) (lines : Rows Line) → RiseFrom n lines →
    ((r : ℕ) (l : Listener) → is_some (value_at r live) ≡ true → kept_at r lines ≡ Some l → l.joined ≡ None) → joined_in live lines ≡ 0
none_joined n live [] rise all = refl
none_joined n live ((r, line) ∷ lines) rise all =
    let first : joined_live live (r, line) ≡ 0 =
    none_of (is_some (value_at r live)) line.session (λ l lives is. all r l lives (kept_first r line lines ∙ is)) in
    let rest : joined_in live lines ≡ 0 =
    none_joined r live lines rise.1 (λ q l lives at. all q l lives (grind (arith, eqb-true, absent))) in
    (sum_by-cons (λ (row : ℕ × Line). joined_live live row) (r, line) lines) ∙ omega arith
