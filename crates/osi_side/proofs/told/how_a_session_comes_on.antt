-- How a session comes on, one TSDU after the other: for `take_next` and `stands_behind`.
use Rattle.osi_side.proofs.Vocabulary.{◌≡◌, refl, sym, ◌+◌, ◌<◌, ◌⊎◌, Result, IfOk, ap, subst, true, false, zero, suc, inl, inr, List, []}
use Rattle.osi_side.proofs.Vocabulary.{◌∷◌, ℕ, length, get_or, arith, Option, Some, None, option_map, is_some, slice_get, Reply, Taking}
use Rattle.osi_side.proofs.Vocabulary.{reply_of, count_taken, Seen, seen_called, Takes, listens, after_count, Member, Turn, Goes, Stops}
use Rattle.osi_side.proofs.Vocabulary.{Stands, Told, Remark, Explains, foremost, SomeExplains, Observed, is_empty, Keeps, goes_to, StopsBy}
use Rattle.osi_side.proofs.Vocabulary.{Quietly, GoesOn, Comes, stays, StandsBehind, IsAmong, StandsFor}
use Rattle.osi_side.specs.Foremost.{first_of}
use Rattle.osi_side.proofs.told.the_nearest_of_all_sessions_is_told.{goes_stop}
use Rattle.osi_side.specs.Onward.{goes}

-- what a session does with a TSDU that it takes
pub record Takings (s : Seen) (tsdu : List ℕ) (t : Taking) : Type 0 where
  pub listening : listens s ≡ true
  pub taken : Takes s tsdu (count_taken t)
  pub next : t.next ≡ after_count s (count_taken t)

owes_by : (s : Seen) (tsdu : List ℕ) (t : Taking) (reply : Option Reply) → t.reply ≡ reply → is_some reply ≡ true → Takings s tsdu t →
    StopsBy s tsdu reply
owes_by s tsdu t None e some k = absurd (cc)
owes_by s tsdu t (Some reply) e some k =
    record { count = count_taken t; listening = k.listening; taken = k.taken; sent = ap (option_map reply_of) e }

pub stops : (s : Seen) (tsdu other : List ℕ) (t : Taking) → tsdu ≡ other → is_some t.reply ≡ true → Takings s tsdu t →
    StopsBy s other t.reply
stops s tsdu other t e some k = subst (λ (u : List ℕ). StopsBy s u t.reply) e (owes_by s tsdu t t.reply refl some k)

pub goes_quietly : (us : List (List ℕ)) (m : Member) (tsdu : List ℕ) (t : Taking) → tsdu ≡ get_or us m.taken [] → is_some t.reply ≡ false →
    Takings m.standing tsdu t
    → Quietly us m (record { taken = m.taken + 1; standing = t.next })
goes_quietly us m tsdu t e none k = record {
  taken = refl;
  follows = record {
    count = count_taken t;
    listening = k.listening;
    taken = subst (λ (u : List ℕ). Takes m.standing u (count_taken t)) e k.taken;
    quiet = grind arith;
    next = k.next;
  };
}

pub comes_on : (us : List (List ℕ)) (m n t : Member) → Comes us m n → Quietly us n t → Comes us m t
comes_on us m n t (stays k) q = goes n t t q (stays t)
comes_on us m n t (goes k l o p c) q = goes m l t p (comes_on us l n t c q)

pub comes_next : (us : List (List ℕ)) (m n t : Member) (turn : Turn) → turn ≡ Goes t → Comes us m n → GoesOn us n turn → Comes us m t
comes_next us m n t turn e c g = comes_on us m n t c (subst (λ (x : Turn). GoesOn us n x) e g)

-- the state before the TSDU that it stops at
pub stands_stop : (us : List (List ℕ)) (m at : Member) (s : Stands) (owes : Option Reply) (turn : Turn)
    → s ≡ record { taken = at.taken; standing = at.standing; owes = owes } → at.taken < length us → turn ≡ Stops owes → GoesOn us at turn
    → Comes us m at → goes_to us at ≡ goes_to us m → StandsBehind us m s
stands_stop us m at s owes turn e l t g c h = subst (λ (x : Stands). StandsBehind us m x) (sym e) (grind (
  arith,
  goes_stop us at m turn owes l t g h,
))

-- ---- a session that explains a side

pub among_at : (members : List Member) (i : ℕ) (x : Member) → i < length members → x ≡ get_or members i x → IsAmong x members
among_at [] i x l e = absurd (omega arith)
among_at (m ∷ members) zero x l e = inl e
among_at (m ∷ members) (suc i) x l e = inr (among_at members i x (omega arith) e)

some_explains : (us : List (List ℕ)) (later : List Remark) (members : List Member) (m : Member) → IsAmong m members →
    Explains us later m.taken m.standing → SomeExplains us members later
some_explains us later [] m a h = absurd a
some_explains us later (n ∷ members) m (inl e) h = inl (subst (λ (x : Member). Explains us later x.taken x.standing) e h)
some_explains us later (n ∷ members) m (inr a) h = inr (some_explains us later members m a h)

pub stands_ok : {E : Type 0} (r : Result Stands E) (w : Observed) (heard : List (List ℕ)) (m : Member) → heard ≡ w.heard
    → m ≡ foremost w.members
    → (is_empty w.members ≡ false → IsAmong m w.members)
    → IfOk r (λ s. StandsBehind heard m s) → IfOk r (λ s. (told : List Told) → Keeps w told → StandsFor w told s)
stands_ok r w heard m e v a b = grind (arith, some_explains)

pub first_among : (members : List Member) (m : Member) → Some m ≡ slice_get members 0 → is_empty members ≡ false → IsAmong m members
first_among members m e s = grind arith

pub first_is : (members : List Member) (m : Member) → Some m ≡ slice_get members 0 → m ≡ first_of members
first_is members m e = grind arith

abbrev pub fresh : Seen → Member
fresh s = record { taken = 0; standing = s }

pub first_none : (members : List Member) (s : Seen) → s ≡ seen_called → None ≡ slice_get members 0 → fresh s ≡ first_of members
first_none members s e n = grind arith

pub among_next : (members : List Member) (best next : Member) (i : ℕ) (x : Member) → i < length members → x ≡ get_or members i x →
    (next ≡ best) ⊎ (next ≡ x)
    → (is_empty members ≡ false → IsAmong best members) → is_empty members ≡ false → IsAmong next members
among_next members best next i x l e h a s = grind (arith, among_at)
