-- A run that is told of a side explains what this side sent.
use Rattle.std.proofs.Common.{◌≡◌, ℕ, zero, suc, ◌+◌, ◌≤◌, ◌<◌, List, [], ◌∷◌, get_or, map, ◌-◌, Option, Some, None, IfSome, IfNone, subst}
use Rattle.std.proofs.Common.{sym, arith, inl, inr}
use Rattle.osi_session.specs.Standing.{Seen, after_count}
use Rattle.osi_session.specs.Steady.{Hears}
use Rattle.osi_side.specs.Explaining.{Remark, Explains}
use Rattle.osi_side.specs.Explaining as explained
use Rattle.osi_witness.specs.declared.streams.Kept.{Kept}
use Rattle.osi_witness.specs.declared.streams.Said.{Said}
use Rattle.osi_witness.specs.declared.streams.Stream.{Stream}
use Rattle.osi_witness.specs.Streams.{tsdus_of, Keeps}
use Rattle.osi_witness.specs.Told.{IsTold, IsTraced}
use Rattle.osi_witness.specs.Trails.{Listens, Calls, Answers, Sends, Runs, remark_of}

heard_one : (us : List (List ℕ)) (m : Remark) (ms : List Remark) (at : ℕ) (t u : Seen) → Hears t (get_or us at []) u → at < m.before
    → Explains us (m ∷ ms) (at + 1) u → Explains us (m ∷ ms) at t
heard_one us m ms at t u h l e =
    explained.takes m ms at t h.count l h.listening h.taken h.quiet (subst (λ (v : Seen). Explains us (m ∷ ms) (at + 1) v) h.next e)

listened : (us : List (List ℕ)) (m : Remark) (ms : List Remark) (from : ℕ) (s : Seen) (n : ℕ) (t : Seen) → Listens us from s n t
    → from + n ≤ m.before → Explains us (m ∷ ms) (from + n) t → Explains us (m ∷ ms) from s
listened us m ms from s zero t h l e =
    let is : from + zero ≡ from = omega arith in
    subst (λ (k : ℕ). Explains us (m ∷ ms) k s) is (subst (λ (v : Seen). Explains us (m ∷ ms) (from + zero) v) h e)
listened us m ms from s (suc n) u (t, before, h) l e =
    let is : from + suc n ≡ from + n + 1 = omega arith in
    let lt : from + n < m.before = omega arith in
    let le : from + n ≤ m.before = omega arith in
    listened us m ms from s n t before le
    (heard_one us m ms (from + n) t u h lt (subst (λ (k : ℕ). Explains us (m ∷ ms) k u) is e))

by_call : (us : List (List ℕ)) (m : Remark) (ms : List Remark) (from : ℕ) (s : Seen) (x : Said) → Calls us m from s x
    → Explains us ms x.taken x.standing → Explains us (m ∷ ms) from s
by_call us m ms from s x c e =
    let le : from + c.more ≤ m.before = subst (λ (k : ℕ). k ≤ m.before) c.count c.passed in
    listened us m ms from s c.more c.at c.listened le
    (subst (λ (k : ℕ). Explains us (m ∷ ms) k c.at) c.count (explained.says m ms x.taken c.at x.standing c.word c.unit c.said e))

by_answer : (us : List (List ℕ)) (m : Remark) (ms : List Remark) (from : ℕ) (s : Seen) (x : Said) → Answers us m from s x
    → Explains us ms x.taken x.standing → Explains us (m ∷ ms) from s
by_answer us m ms from s x c e =
    let at : from + suc c.more ≡ from + c.more + 1 = omega arith in
    let is : x.taken ≡ from + c.more + 1 = omega (arith, c.count) in
    let lt : from + c.more < m.before = omega (arith, c.count, c.passed) in
    let le : from + c.more ≤ m.before = omega (arith, c.count, c.passed) in
    listened us m ms from s c.more c.at c.listened le
    (explained.answers m ms (from + c.more) c.at c.last c.reply c.word lt c.listening c.took c.answered c.unit c.said
    (subst (λ (k : ℕ). Explains us ms k (after_count c.at c.last)) is (subst (λ (v : Seen). Explains us ms x.taken v) c.next e)))

one_more : (us : List (List ℕ)) (m : Remark) (ms : List Remark) (from : ℕ) (s : Seen) (x : Said) → Sends us m from s x
    → Explains us ms x.taken x.standing → Explains us (m ∷ ms) from s
one_more us m ms from s x (inl c) e = by_call us m ms from s x c e
one_more us m ms from s x (inr c) e = by_answer us m ms from s x c e

pub run_explains : (own us : List (List ℕ)) (ks : List Kept) (xs : List Said) (taken : ℕ) (s : Seen) → Runs own us ks xs taken s
    → Explains us (map (remark_of own) ks) taken s
run_explains own us [] [] taken s h = explained.done taken s
run_explains own us [] (x ∷ xs) taken s h = absurd h
run_explains own us (k ∷ ks) [] taken s h = absurd h
run_explains own us (k ∷ ks) (x ∷ xs) taken s (is, sends, runs) =
    one_more us (remark_of own k) (map (remark_of own) ks) taken s x sends (run_explains own us ks xs x.taken x.standing runs)

-- ---- a TSDU more is taken

pub listens_more : (us : List (List ℕ)) (from number : ℕ) (s t u : Seen) → from ≤ number → Listens us from s (number - from) t
    → Hears t (get_or us number []) u → Listens us from s (number + 1 - from) u
listens_more us from number s t u l h g =
    let more : number + 1 - from ≡ suc (number - from) = omega arith in
    let is : from + (number - from) ≡ number = omega arith in
    subst (λ (k : ℕ). Listens us from s k u) (sym more) (t, h, subst (λ (k : ℕ). Hears t (get_or us k []) u) (sym is) g)

-- ---- what is told of a side stays told

pub tsdus_same : (a b : Stream) → Keeps a b → tsdus_of b ≡ tsdus_of a
tsdus_same a b k = let o = k.octets in let t = k.tsdus in grind arith

kept_same : (a b : Stream) → Keeps a b → b.kept.items ≡ a.kept.items
kept_same a b k = let e = k.kept in grind arith

pub still_told : (a b c d : Stream) (xs : List Said) (s : Seen) → Keeps a c → Keeps b d
    → Runs (tsdus_of a) (tsdus_of b) a.kept.items xs 0 s → c.said.items ≡ xs → IsTold c d s
still_told a b c d xs s k l r e =
    subst (λ (o : List (List ℕ)). Runs o (tsdus_of d) c.kept.items c.said.items 0 s) (sym (tsdus_same a c k))
    (subst (λ (o : List (List ℕ)). Runs (tsdus_of a) o c.kept.items c.said.items 0 s) (sym (tsdus_same b d l))
    (subst (λ (o : List Kept). Runs (tsdus_of a) (tsdus_of b) o c.said.items 0 s) (sym (kept_same a c k))
    (subst (λ (o : List Said). Runs (tsdus_of a) (tsdus_of b) a.kept.items o 0 s) (sym e) r)))

pub traced_side : {V : Type 0} (items : V → List Said) (run : Option V) (a b c d : Stream) (s : Seen) → Keeps a c → Keeps b d
    → IfSome run (λ v. Runs (tsdus_of a) (tsdus_of b) a.kept.items (items v) 0 s) → IfSome run (λ v. c.said.items ≡ items v)
    → IfNone run (c.said ≡ a.said) → IsTraced a c d s
traced_side items None a b c d s k l r e n = inr n
traced_side items (Some v) a b c d s k l r e n = inl (still_told a b c d (items v) s k l r e)
