-- What is known of a side, as it hears and tells.
use Rattle.osi_side.proofs.Vocabulary.{◌≡◌, ◌∙◌, refl, sym, ap, subst, ℕ, suc, zero, ◌+◌, ◌<◌, ◌≤◌, ◌↔◌, ◌==◌, ◌&&◌, Bool, nat_lt, true}
use Rattle.osi_side.proofs.Vocabulary.{false, inl, inr, List, [], ◌∷◌, ◌++◌, length, map, take, get_or, Result, Ok, Err, OnOk, arith}
use Rattle.osi_side.proofs.Vocabulary.{append-nil, append_assoc, length-append, said_at, Words, Seen, Member, Finding, Kept, Broke}
use Rattle.osi_side.proofs.Vocabulary.{TooMany, Remark, remark, Told, remarks_of, remarks, Explains, done, IsExplained, SomeExplains}
use Rattle.osi_side.proofs.Vocabulary.{Extends, IsBehind, Ever, Break, BreaksAt, selection_of, ended_at, EndsAt, offered_in, accepted_in}
use Rattle.osi_side.proofs.Vocabulary.{in_first, is_outside, selects_outside, Observed, is_empty, StandsBefore, BrokeBy, LeftBy}
use Rattle.osi_side.proofs.Vocabulary.{IsKept, IsAstray, BrokeFor, LeftFor, CrowdedFor, AreAll, Keeps, ObservesBy, Observes, IsFound}
use Rattle.osi_side.proofs.Vocabulary.{HasRoom, after_tsdu}
use Rattle.osi_side.specs.declared.findings.Finding.TheVariants.{Left}
use Rattle.osi_session.specs.Phases.{is_releasing}
use Rattle.osi_side.specs.Profiles.{accepts_too, answers_in_1, first_is, is_disconnect, is_finish, leaves}
use Rattle.std.proofs.lemmas.Bool.{ltb-true}
use Rattle.osi_side.proofs.told.a_break_stays_the_break.{extends_front, breaks_heard}
use Rattle.osi_side.proofs.kept.what_is_kept_follows_what_is_told.{take_front, take_whole, kept_more, kept_begins, few_begins, few_more}
use Rattle.osi_side.proofs.kept.what_is_kept_follows_what_is_told.{crowd_more, few_members}

-- ---- the TSDUs of the other side become more

stands_heard : (w : Observed) (x : List ℕ) (told : List Told) (i : ℕ) (t : Told) → StandsBefore w told i t
    → StandsBefore (record w { heard = w.heard ++ x ∷ [] }) told i t
stands_heard w x told i t k =
    let n = length-append w.heard (x ∷ []) in
    let p = k.passed in record {
      is = k.is;
      passed = omega arith;
      all = λ us later e h. k.all us later (extends_front us w.heard x e) h;
      kept = λ us e. k.kept us (extends_front us w.heard x e);
      some = k.some;
      few = λ us e. k.few us (extends_front us w.heard x e);
    }

-- what the other side says later does not change whether a TSDU leaves the profile
in_1_heard : (us : List (List ℕ)) (x tsdu : List ℕ) (before : ℕ) (s : Seen) → before ≤ length us
    → answers_in_1 (us ++ x ∷ []) tsdu before s ≡ answers_in_1 us tsdu before s
in_1_heard us x tsdu zero s l = refl
in_1_heard [] x tsdu (suc n) s l = absurd (omega arith)
in_1_heard (u ∷ us) x tsdu (suc n) s l = refl

too_heard : (us : List (List ℕ)) (x tsdu : List ℕ) (before : ℕ) (by : Break) → before ≤ length us
    → accepts_too (us ++ x ∷ []) tsdu before by ≡ accepts_too us tsdu before by
too_heard us x tsdu before by l = at (nat_lt by.taken before) refl
  where
    asked : Bool → List ℕ → Bool
    asked n fn = is_releasing by.standing.state.phase && (n && (first_is is_finish (said_at fn) && first_is is_disconnect (said_at tsdu)))

    at : (n : Bool) → nat_lt by.taken before ≡ n → asked n (get_or (us ++ x ∷ []) by.taken []) ≡ asked n (get_or us by.taken [])
    at false e = refl
    at true e = ap (asked true) (extends_front (us ++ x ∷ []) us x (λ i m. refl) by.taken (omega (arith, ltb-true by.taken before e)))

leaves_heard : (us : List (List ℕ)) (x tsdu : List ℕ) (before : ℕ) (by : Break) → before ≤ length us
    → leaves (us ++ x ∷ []) tsdu before by ≡ leaves us tsdu before by
unfolding leaves
leaves_heard us x tsdu before by l = grind (arith, in_1_heard us x tsdu before by.standing l, too_heard us x tsdu before by l)

broke_heard : (w : Observed) (x : List ℕ) (told : List Told) (i : ℕ) → BrokeBy w told i
    → BrokeBy (record w { heard = w.heard ++ x ∷ [] }) told i
broke_heard w x told i (t, s, b, l) = (
  t,
  stands_heard w x told i t s,
  breaks_heard w.heard x t.octets t.before w.members w.by s.passed b,
  leaves_heard w.heard x t.octets t.before w.by s.passed ∙ l,
)

left_heard : (w : Observed) (x : List ℕ) (told : List Told) (i : ℕ) → LeftBy w told i
    → LeftBy (record w { heard = w.heard ++ x ∷ [] }) told i
left_heard w x told i (t, s, inl (b, l, k)) = (
  t,
  stands_heard w x told i t s,
  inl (
    breaks_heard w.heard x t.octets t.before w.members w.by s.passed b,
    leaves_heard w.heard x t.octets t.before w.by s.passed ∙ l,
    (k.0, λ us e. k.1 us (extends_front us w.heard x e)),
  ),
)
left_heard w x told i (t, s, inr (e, k)) = (t, stands_heard w x told i t s, inr (e, λ us h. k us (extends_front us w.heard x h)))

heard_by : (f : Finding) (w : Observed) (x : List ℕ) (told : List Told) → ObservesBy f w told →
    ObservesBy f (record w { heard = w.heard ++ x ∷ [] }) told
heard_by Kept w x told k = record {
  count = k.count;
  all = λ us later e h. k.all us later (extends_front us w.heard x e) h;
  kept = λ us e. k.kept us (extends_front us w.heard x e);
  some = k.some;
  few = λ us e. k.few us (extends_front us w.heard x e);
  inside = λ us e. k.inside us (extends_front us w.heard x e);
}
heard_by (Broke i) w x told k = ((k.0.0, λ us e. k.0.1 us (extends_front us w.heard x e)), broke_heard w x told i k.1)
heard_by (Left i) w x told k = ((k.0.0, λ us e. k.0.1 us (extends_front us w.heard x e)), left_heard w x told i k.1)
heard_by TooMany w x told k = (k.0, λ us e. k.1 us (extends_front us w.heard x e))

pub hears : (w : Observed) (x : List ℕ) (told : List Told) → Observes w told → Observes (record w { heard = w.heard ++ x ∷ [] }) told
hears w x told k = heard_by w.finding w x told k

-- the TSDUs of the other side, by what is in memory
pub hears_as : (w n : Observed) (x : List ℕ) (told : List Told) → n ≡ record w { heard = w.heard ++ x ∷ [] } → Observes w told →
    Observes n told
hears_as w n x told e k = subst (λ (y : Observed). Observes y told) (sym e) (hears w x told k)

-- ---- its own TSDUs become more

-- what is said of the front part of what was told stays
kept_still : (begin : Seen) (us : List (List ℕ)) (a b : List Told) → a ≡ b → IsKept begin us b → IsKept begin us a
kept_still begin us a b e k = subst (λ (z : List Told). IsKept begin us z) (sym e) k

astray_still : (begin : Seen) (us : List (List ℕ)) (a b : List Told) → a ≡ b → IsAstray begin us b → IsAstray begin us a
astray_still begin us a b e k = subst (λ (z : List Told). IsAstray begin us z) (sym e) k

broke_stays : (begin : Seen) (heard : List (List ℕ)) (told : List Told) (x : Told) (i : ℕ) → BrokeFor begin heard told i
    → BrokeFor begin heard (told ++ x ∷ []) i
broke_stays begin heard told x i k = grind (arith, length-append, take_front, kept_still)

crowded_stays : (begin : Seen) (heard : List (List ℕ)) (told : List Told) (x : Told) (i : ℕ) → CrowdedFor begin heard told i
    → CrowdedFor begin heard (told ++ x ∷ []) i
crowded_stays begin heard told x i k = grind (arith, length-append, take_front, kept_still)

told_front : (xs ys : List Told) (i : ℕ) (t : Told) → i < length xs → get_or (xs ++ ys) i t ≡ get_or xs i t
told_front [] ys i t l = absurd (omega arith)
told_front (x ∷ xs) ys zero t l = refl
told_front (x ∷ xs) ys (suc i) t l = told_front xs ys i t (omega arith)

-- what is known of the sessions that explain what was said before stays
stood_stays : (w : Observed) (told : List Told) (x : Told) (i : ℕ) (t : Told) → i < length told → StandsBefore w told i t
    → StandsBefore w (told ++ x ∷ []) i t
stood_stays w told x i t l k = grind (arith, take_front, told_front)

left_by_stays : (w : Observed) (told : List Told) (x : Told) (i : ℕ) → i < length told → LeftBy w told i → LeftBy w (told ++ x ∷ []) i
left_by_stays w told x i l (t, s, inl (b, e, k)) = (t, stood_stays w told x i t l s, inl (b, e, broke_stays w.begin w.heard told x i k))
left_by_stays w told x i l (t, s, inr (e, k)) = grind (arith, take_front told (x ∷ []) (i + 1) (omega arith), stood_stays w told x i t l s)

stays_by : (f : Finding) (w : Observed) (told : List Told) (x : Told) → (f ≡ Kept → ⊥) → ObservesBy f w told →
    ObservesBy f w (told ++ x ∷ [])
stays_by f w told x n k =
    grind (arith, broke_stays, stood_stays, length-append, take_front, kept_still, astray_still, left_by_stays, crowded_stays)

pub broke_as : (w n : Observed) (told : List Told) (x : Told) (i : ℕ) → w.finding ≡ Broke i → n ≡ w → Observes w told
    → Observes n (told ++ x ∷ [])
broke_as w n told x i f e k = grind (arith, stays_by)

pub left_as : (w n : Observed) (told : List Told) (x : Told) (i : ℕ) → w.finding ≡ Left i → n ≡ w → Observes w told
    → Observes n (told ++ x ∷ [])
left_as w n told x i f e k = grind (arith, stays_by)

pub too_many_as : (w n : Observed) (told : List Told) (x : Told) → w.finding ≡ TooMany → n ≡ w → Observes w told →
    Observes n (told ++ x ∷ [])
too_many_as w n told x f e k = grind (arith, stays_by)

-- the remarks of one TSDU more
remarks_more : (told : List Told) (x : Told) (later : List Remark) →
    remarks (told ++ x ∷ []) ++ later ≡ remarks told ++ (remarks_of x ++ later)
remarks_more [] x later = ap (λ (z : List Remark). z ++ later) (append-nil (remarks_of x))
remarks_more (t ∷ told) x later = grind (arith, append_assoc, remarks_more told x later)

behind_words : (a : ℕ) (t : Told) (ws : Words) (later : List Remark) → a ≤ t.before → IsBehind t.before later →
    IsBehind a (map (remark t) ws ++ later)
behind_words a t [] later l h = grind arith
behind_words a t (w ∷ ws) later l h = l

-- what the members after a TSDU explain
abbrev pub Gives : Observed → Told → List Member → Type 0
Gives w x new =
    Ever w.heard x.before (λ (us : List (List ℕ)) (later : List Remark). SomeExplains us w.members (remarks_of x ++ later) ↔ SomeExplains us
    new later)

all_more : (w : Observed) (told : List Told) (x : Told) (new : List Member) → w.before ≤ x.before →
    AreAll w.begin w.heard w.before w.members told → Gives w x new
    → AreAll w.begin w.heard x.before new (told ++ x ∷ [])
all_more w told x new l a g = grind (arith, behind_words, remarks_more)

-- ---- what the first TSDU selects

same_offer : (us heard : List (List ℕ)) (x : Told) → Extends us heard → x.before ≤ length heard
    → selects_outside us (x ∷ []) ≡ selects_outside heard (x ∷ [])
same_offer us heard x e l = by x.before l
  where
    asked : ℕ → List ℕ → Bool
    asked n cn = nat_lt 0 n && is_outside (in_first offered_in (said_at cn)) (in_first accepted_in (said_at x.octets))

    by : (n : ℕ) → n ≤ length heard → asked n (get_or us 0 []) ≡ asked n (get_or heard 0 [])
    by zero l = refl
    by (suc n) l = ap (asked (suc n)) (e 0 (omega arith))

-- whether it selects what the profile leaves out, tested of a first TSDU alone
abbrev pub OpensBy : Observed → Told → Bool → Type 0
OpensBy w x b = (w.told ≡ 0 → b ≡ selects_outside w.heard (x ∷ [])) × (0 < w.told → b ≡ false)

opens_by : (w : Observed) (told : List Told) (x : Told) (b : Bool) (us : List (List ℕ)) → Extends us w.heard → x.before ≤ length w.heard
    → OpensBy w x b → Keeps w told
    → selects_outside us (told ++ x ∷ []) ≡ b
opens_by w [] x b us e l o k = same_offer us w.heard x e l ∙ sym (o.0 k.count)
opens_by w (t ∷ told) x b us e l o k = let c = k.count in k.inside us e ∙ sym (o.1 (omega arith))

-- ---- one TSDU more

some_done : (us : List (List ℕ)) (members : List Member) → is_empty members ≡ false → SomeExplains us members []
some_done us [] s = absurd (cc)
some_done us (m ∷ members) s = inl (done m.taken m.standing)

explained_more : (w : Observed) (told : List Told) (x : Told) (new : List Member) (us : List (List ℕ)) → w.before ≤ x.before
    → Gives w x new → is_empty new ≡ false → Keeps w told → Extends us w.heard
    → IsExplained w.begin us (told ++ x ∷ [])
explained_more w told x new us l g s k e =
    grind (arith, append-nil (remarks (told ++ x ∷ [])), all_more w told x new l k.all g us [] e tt, some_done us new s)

pub kept_as : (w n : Observed) (told : List Told) (x : Told) (new : List Member) (b : Bool)
    → n ≡ record w { members = new; told = w.told + 1; before = x.before } → w.finding ≡ Kept → w.before ≤ x.before
    → Gives w x new → new ≡ after_tsdu w.heard w.members x → is_empty new ≡ false → length new ≤ 4096 → x.before ≤ length w.heard
    → OpensBy w x b → b ≡ false → Keeps w told → Observes n (told ++ x ∷ [])
kept_as w n told x new b e f l g v s y p o z k =
    let m = length-append told (x ∷ []) in let c = k.count in
    subst (λ (y : Observed). Observes y (told ++ x ∷ [])) (sym e)
    (subst (λ (y : Finding). ObservesBy y (record w { members = new; told = w.told + 1; before = x.before }) (told ++ x ∷ [])) (sym f)
    (record {
      count = omega arith;
      all = all_more w told x new l k.all g;
      kept = kept_more w.begin w.heard told x w.members new k.kept p v;
      some = s;
      few = λ us h. grind (arith, few_more, k.few us h, kept_more w.begin w.heard told x w.members new k.kept p v us h);
      inside = λ us h. opens_by w told x b us h p o k ∙ z;
    }))

-- too many sessions explain it
pub crowds_as : (w n : Observed) (told : List Told) (x : Told) (new : List Member) (b : Bool) → n ≡ record w { finding = TooMany }
    → w.before ≤ x.before
    → Gives w x new → new ≡ after_tsdu w.heard w.members x → is_empty new ≡ false → 4096 < length new → x.before ≤ length w.heard
    → OpensBy w x b → b ≡ false → Keeps w told → Observes n (told ++ x ∷ [])
crowds_as w n told x new b e l g v s y p o z k =
    let m = length-append told (x ∷ []) in let c = k.count in
    let whole = take_whole (told ++ x ∷ []) (w.told + 1) (omega arith) in
    subst (λ (y : Observed). Observes y (told ++ x ∷ [])) (sym e) (
      omega arith,
      λ us h. (
        grind (arith, kept_still, explained_more w told x new us l g s k h, opens_by w told x b us h p o k),
        grind (arith, crowd_more, k.few us h, kept_more w.begin w.heard told x w.members new k.kept p v us h),
      ),
    )

-- ---- a break

kept_so_far : (w : Observed) (told : List Told) (us : List (List ℕ)) → Extends us w.heard → Keeps w told → IsKept w.begin us told
kept_so_far w told us e k = (grind (arith, append-nil (remarks told), k.all us [] e tt, some_done us w.members k.some), k.inside us e)

pub broke_here : (w : Observed) (told : List Told) (x : Told) (new : List Member) → w.before ≤ x.before → Gives w x new → new ≡ [] →
    Keeps w told → BrokeFor w.begin w.heard (told ++ x ∷ []) w.told
broke_here w told x new l g z k =
    let m = length-append told (x ∷ []) in let c = k.count in
    let front = take_front told (x ∷ []) w.told (omega arith) ∙ take_whole told w.told (omega arith) in
    let whole = take_whole (told ++ x ∷ []) (w.told + 1) (omega arith) in (
      omega arith,
      λ us e. (
        kept_still w.begin us (take w.told (told ++ x ∷ [])) told front (kept_so_far w told us e k),
        grind (arith, all_more w told x new l k.all g us [] e tt, append-nil (remarks (told ++ x ∷ []))),
      ),
    )

last_told : (told : List Told) (x : Told) (i : ℕ) → i ≡ length told → x ≡ get_or (told ++ x ∷ []) i x
last_told [] x zero e = refl
last_told [] x (suc i) e = absurd (omega arith)
last_told (t ∷ told) x zero e = absurd (omega arith)
last_told (t ∷ told) x (suc i) e = last_told told x i (omega arith)

-- the sessions that explain what was said before the new TSDU
stands_here : (w : Observed) (f : Finding) (by : Break) (told : List Told) (x : Told) → x.before ≤ length w.heard → Keeps w told
    → StandsBefore (record w { finding = f; by = by }) (told ++ x ∷ []) w.told x
stands_here w f by told x p k = grind (arith, length-append, take_front, take_whole, last_told)

-- ---- a side that leaves the profile

-- by what it selects
left_here : (w : Observed) (told : List Told) (x : Told) (b : Bool) → x.before ≤ length w.heard → OpensBy w x b → b ≡ true → Keeps w told
    → LeftFor w.begin w.heard (told ++ x ∷ []) w.told
left_here w told x b p o z k =
    let m = length-append told (x ∷ []) in let c = k.count in
    let front = take_front told (x ∷ []) w.told (omega arith) ∙ take_whole told w.told (omega arith) in
    let whole = take_whole (told ++ x ∷ []) (w.told + 1) (omega arith) in (
      omega arith,
      λ us e. (
        kept_still w.begin us (take w.told (told ++ x ∷ [])) told front (kept_so_far w told us e k),
        astray_still w.begin us (take (w.told + 1) (told ++ x ∷ [])) (told ++ x ∷ []) whole (inr (opens_by w told x b us e p o k ∙ z)),
      ),
    )

pub leaves_as : (w n : Observed) (told : List Told) (x : Told) (new : List Member) (b : Bool) → w.before ≤ x.before → Gives w x new
    → is_empty new ≡ false
    → n ≡ record w { finding = Left w.told; by = selection_of x.before w.members }
    → x.before ≤ length w.heard → OpensBy w x b → b ≡ true → Keeps w told
    → Observes n (told ++ x ∷ [])
leaves_as w n told x new b l g s e p o z k =
    let m = length-append told (x ∷ []) in let c = k.count in
    let by = selection_of x.before w.members in
    let whole = take_whole (told ++ x ∷ []) (w.told + 1) (omega arith) in
    subst (λ (y : Observed). Observes y (told ++ x ∷ [])) (sym e) (
      left_here w told x b p o z k,
      grind (arith, explained_more, stands_here w (Left w.told) by told x p k),
    )

-- it is outside of the profile, or breaks the protocol
ends_by : (b : Bool) (w : Observed) (by : Break) (told : List Told) (x : Told) (new : List Member) → leaves w.heard x.octets x.before by ≡ b
    → BreaksAt w.heard x.octets x.before w.members by → x.before ≤ length w.heard → w.before ≤ x.before → Gives w x new → new ≡ []
    → Keeps w told
    → ObservesBy (ended_at b w.told) (record w { finding = ended_at b w.told; by = by }) (told ++ x ∷ [])
ends_by true w by told x new e h p l g z k = grind (arith, broke_here w told x new l g z k, stands_here w (Left w.told) by told x p k)
ends_by false w by told x new e h p l g z k = (broke_here w told x new l g z k, (x, stands_here w (Broke w.told) by told x p k, h, e))

pub ends_as : (w n : Observed) (told : List Told) (x : Told) (new : List Member) → EndsAt x.octets x.before w n → x.before ≤ length w.heard
    → w.before ≤ x.before → Gives w x new → new ≡ [] → Keeps w told
    → Observes n (told ++ x ∷ [])
ends_as w n told x new e p l g z k = grind (arith, ends_by)

pub ends_ok : {A E : Type 0} (r : Result A E) (w n : Observed) (x : Told) (new : List Member) → x.before ≤ length w.heard
    → w.before ≤ x.before
    → Gives w x new → new ≡ [] → OnOk r (EndsAt x.octets x.before w n)
    → OnOk r ((told : List Told) → Keeps w told → Observes n (told ++ x ∷ []))
ends_ok (Ok u) w n x new p l g z e = λ told k. ends_as w n told x new e p l g z k
ends_ok (Err f) w n x new p l g z e = tt

-- ---- the beginning, and what was found

pub begins : (w : Observed) (m : Member) → w.heard ≡ [] → w.members ≡ m ∷ [] → m.taken ≡ 0 → m.standing ≡ w.begin → w.told ≡ 0 →
    w.finding ≡ Kept → Observes w []
begins w m h s t b o f = subst (λ (y : Finding). ObservesBy y w []) (sym f) (record {
  count = o;
  all = grind arith;
  kept = λ us e. kept_begins w.begin us w.members m s t b;
  some = ap is_empty s;
  few = λ us e. few_begins w.begin us;
  inside = λ us e. refl;
})
  where
    begin_only : (us : List (List ℕ)) (later : List Remark) (m : Member) (begin : Seen) → m.taken ≡ 0 → m.standing ≡ begin →
        SomeExplains us (m ∷ []) later → Explains us later 0 begin
    begin_only us later m begin t b (inl p) =
        subst (λ (y : Seen). Explains us later 0 y) b (subst (λ (y : ℕ). Explains us later y m.standing) t p)
    begin_only us later m begin t b (inr p) = absurd p

found_by : (f : Finding) (w : Observed) (told : List Told) → ObservesBy f w told → IsFound w.begin w.heard told f
found_by Kept w told k = kept_so_far w told w.heard (λ i l. refl) k
found_by (Broke i) w told k = let y = k.0.1 w.heard (λ j l. refl) in (record { there = k.0.0; so_far = y.0.0; broke = y.1 }, y.0.1)
found_by (Left i) w told k = let y = k.0.1 w.heard (λ j l. refl) in (k.0.0, y.0, y.1)
found_by TooMany w told k = (w.told, k.0, (k.1 w.heard (λ i l. refl)).0)

-- whether there were too many sessions
room_by : (f : Finding) (w : Observed) (told : List Told) → ObservesBy f w told → HasRoom w.begin w.heard told f
room_by Kept w told k = k.few w.heard (λ i l. refl)
room_by (Broke i) w told k = k.1.1.few w.heard (λ i l. refl)
room_by (Left i) w told (k, (x, s, h)) = s.few w.heard (λ i l. refl)
room_by TooMany w told k = let y = k.1 w.heard (λ i l. refl) in (w.told, k.0, y.0, y.1)

pub room_as : (w : Observed) (told : List Told) → Observes w told → HasRoom w.begin w.heard told w.finding
room_as w told k = room_by w.finding w told k

pub few_by : (w : Observed) (told : List Told) → w.finding ≡ Kept → Observes w told → length w.members ≤ 4096
few_by w told f k =
    let h : Keeps w told = subst (λ (g : Finding). ObservesBy g w told) f k in
    few_members w.begin w.heard told w.members (h.kept w.heard (λ i l. refl)) (h.few w.heard (λ i l. refl))

-- the rule by which it broke the protocol, or left the profile
pub broke_by : (w : Observed) (told : List Told) (i : ℕ) → Observes w told → w.finding ≡ Broke i → BrokeBy w told i
broke_by w told i k f = let b : ObservesBy (Broke i) w told = subst (λ (g : Finding). ObservesBy g w told) f k in b.1

pub left_by : (w : Observed) (told : List Told) (i : ℕ) → Observes w told → w.finding ≡ Left i → LeftBy w told i
left_by w told i k f = let b : ObservesBy (Left i) w told = subst (λ (g : Finding). ObservesBy g w told) f k in b.1

pub found_as : (w : Observed) (told : List Told) → Observes w told → IsFound w.begin w.heard told w.finding
found_as w told k = found_by w.finding w told k

-- ---- in memory

pub empty_is : (members : List Member) → (length members == 0) ≡ is_empty members
empty_is members = grind arith

pub nil_of : (members : List Member) → is_empty members ≡ true → members ≡ []
nil_of members e = grind arith

pub after_as : (w : Observed) (x : Told) (new members : List Member) → members ≡ w.members → new ≡ after_tsdu w.heard members x
    → new ≡ after_tsdu w.heard w.members x
after_as w x new members m e = e ∙ ap (λ (ms : List Member). after_tsdu w.heard ms x) m

pub gives_as : (w : Observed) (x : Told) (new : List Member) (heard : List (List ℕ)) (members : List Member) → heard ≡ w.heard →
    members ≡ w.members
    → Ever heard x.before
    (λ (us : List (List ℕ)) (later : List Remark). SomeExplains us members (remarks_of x ++ later) ↔ SomeExplains us new later) →
    Gives w x new
gives_as w x new heard members h m g = grind arith

-- ---- how many TSDUs it told

pub count_kept : (w : Observed) (said : List Told) → Observes w said → w.finding ≡ Kept → w.told ≡ length said
count_kept w said k e = grind arith
