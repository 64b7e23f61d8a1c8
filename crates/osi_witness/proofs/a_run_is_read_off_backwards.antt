-- A run is read off backwards: before a run of the units that follow, one unit more is sent, as a step of the search found it.
use Rattle.std.proofs.Common.{◌≡◌, ◌∙◌, ◌≤◌, ◌<◌, ◌+◌, ◌-◌, ◌++◌, ◌∷◌, refl, ap, sym, subst, arith, ℕ, zero, suc, true, false, inl, inr}
use Rattle.std.proofs.Common.{List, [], length, get_or, drop, reverse, Option, Some, None, IfSome}
use Rattle.std.proofs.lemmas.Bool.{false≢true}
use Rattle.std.proofs.lemmas.List.{drop_more, reverse-append}
use Rattle.std.specs.List.{slice_get}
use Rattle.osi_session.specs.Standing.{Seen, CanSay, Takes}
use Rattle.osi_session.specs.Steady.{Hears}
use Rattle.osi_side.specs.declared.members.Member.{Member}
use Rattle.osi_side.specs.Explaining.{Remark}
use Rattle.osi_side.specs.Onward.{IsAmong}
use Rattle.osi_witness.specs.declared.streams.Kept.{Kept}
use Rattle.osi_witness.specs.declared.streams.Said.{Said}
use Rattle.osi_witness.specs.declared.trails.Goal.{Goal}
use Rattle.osi_witness.specs.declared.trails.Step.{Step}
use Rattle.osi_witness.specs.Found.{GoesOn, Stays, answers, says, takes}
use Rattle.osi_witness.specs.Steps.{Answering, Calling, Leading, heard_for, unit_for, word_for}
use Rattle.osi_witness.specs.Backwards.{HasRoom, IsLater, IsLatest, IsNext, Meets, StepsTo, last_before, said_by_step}
use Rattle.osi_witness.specs.Units.{words_of}
use Rattle.osi_witness.specs.Trails.{Answers, Calls, IsOf, Listens, Runs, Sends, remark_of}
use Rattle.osi_witness.proofs.a_session_that_goes_on_is_found.{hears_one}

-- ---- TSDUs that a session takes, one after the other

listens_first : (us : List (List ℕ)) (from : ℕ) (s t u : Seen) (n : ℕ) → Hears s (get_or us from []) t → Listens us (from + 1) t n u
    → Listens us from s (suc n) u
listens_first us from s t u zero h l =
    let e : from + zero ≡ from = omega arith in
    (s, refl, subst (λ (i : ℕ). Hears s (get_or us i []) u) (sym e) (subst (λ (x : Seen). Hears s (get_or us from []) x) (sym l) h))
listens_first us from s t u (suc n) h (v, before, k) =
    let e : from + 1 + n ≡ from + suc n = omega arith in
    (v, listens_first us from s t v n h before, subst (λ (i : ℕ). Hears v (get_or us i []) u) e k)

pub stays_listens : (us : List (List ℕ)) (from : ℕ) (s : Seen) (n : ℕ) → Stays us from s n → Listens us from s n s
stays_listens us from s zero h = refl
stays_listens us from s (suc n) h = listens_first us from s s s n h.0 (stays_listens us (from + 1) s n h.1)

listens_join : (us : List (List ℕ)) (from n m : ℕ) (s t u : Seen) → Listens us from s n t → Listens us (from + n) t m u
    → Listens us from s (n + m) u
listens_join us from n zero s t u l k =
    let e : n + zero ≡ n = omega arith in
    subst (λ (i : ℕ). Listens us from s i u) (sym e) (subst (λ (x : Seen). Listens us from s n x) (sym k) l)
listens_join us from n (suc m) s t u l (v, before, h) =
    let e : n + suc m ≡ suc (n + m) = omega arith in
    let at : from + n + m ≡ from + (n + m) = omega arith in
    let here : Listens us from s (suc (n + m)) u =
    (v, listens_join us from n m s t v l before, subst (λ (i : ℕ). Hears v (get_or us i []) u) at h) in
    subst (λ (i : ℕ). Listens us from s i u) (sym e) here

listens_split : (us : List (List ℕ)) (from n m : ℕ) (s u : Seen) → Listens us from s (n + m) u
    → (t : Seen) × Listens us from s n t × Listens us (from + n) t m u
listens_split us from n zero s u l =
    let e : n + zero ≡ n = omega arith in (u, subst (λ (i : ℕ). Listens us from s i u) e l, refl)
listens_split us from n (suc m) s u l =
    let e : n + suc m ≡ suc (n + m) = omega arith in
    let at : from + (n + m) ≡ from + n + m = omega arith in
    let here : Listens us from s (suc (n + m)) u = subst (λ (i : ℕ). Listens us from s i u) e l in
    let rest = listens_split us from n m s here.0 here.1 in
    (rest.0, rest.1, (here.0, rest.2, subst (λ (i : ℕ). Hears here.0 (get_or us i []) u) at here.2))

listens_one : (us : List (List ℕ)) (from n : ℕ) (s t u : Seen) → Listens us from s n t → Listens us from s n u → t ≡ u
listens_one us from zero s t u l k = l ∙ sym k
listens_one us from (suc n) s t u (v, a, h) (w, b, k) =
    hears_one w t u (get_or us (from + n) [])
    (subst (λ (x : Seen). Hears x (get_or us (from + n) []) t) (listens_one us from n s v w a b) h) k

-- ---- a run from a state is one from the states before it, and from those after it up to where its first unit is sent

calls_earlier : (us : List (List ℕ)) (m : Remark) (from n : ℕ) (s t : Seen) (x : Said) → Listens us from s n t → Calls us m (from + n) t x
    → Calls us m from s x
calls_earlier us m from n s t x l c =
    let count = c.count in
    record {
      is = c.is;
      more = n + c.more;
      count = omega (arith, count);
      passed = c.passed;
      at = c.at;
      listened = listens_join us from n c.more s t c.at l c.listened;
      word = c.word;
      unit = c.unit;
      said = c.said;
    }

answers_earlier : (us : List (List ℕ)) (m : Remark) (from n : ℕ) (s t : Seen) (x : Said) → Listens us from s n t
    → Answers us m (from + n) t x → Answers us m from s x
answers_earlier us m from n s t x l c =
    let count = c.count in
    let at : from + n + c.more ≡ from + (n + c.more) = omega arith in
    record {
      is = c.is;
      more = n + c.more;
      count = omega (arith, count);
      passed = c.passed;
      at = c.at;
      listened = listens_join us from n c.more s t c.at l c.listened;
      listening = c.listening;
      last = c.last;
      took = subst (λ (i : ℕ). Takes c.at (get_or us i []) c.last) at c.took;
      reply = c.reply;
      answered = c.answered;
      word = c.word;
      unit = c.unit;
      said = c.said;
      next = c.next;
    }

sends_earlier : (us : List (List ℕ)) (m : Remark) (from n : ℕ) (s t : Seen) (x : Said) → Listens us from s n t → Sends us m (from + n) t x
    → Sends us m from s x
sends_earlier us m from n s t x l (inl c) = inl (calls_earlier us m from n s t x l c)
sends_earlier us m from n s t x l (inr c) = inr (answers_earlier us m from n s t x l c)

runs_earlier : (own us : List (List ℕ)) (ks : List Kept) (xs : List Said) (from n : ℕ) (s t : Seen) → Listens us from s n t
    → Runs own us ks xs (from + n) t → Runs own us ks xs from s
runs_earlier own us [] [] from n s t l r = tt
runs_earlier own us [] (x ∷ xs) from n s t l r = absurd r
runs_earlier own us (k ∷ ks) [] from n s t l r = absurd r
runs_earlier own us (k ∷ ks) (x ∷ xs) from n s t l (is, sends, runs) =
    (is, sends_earlier us (remark_of own k) from n s t x l sends, runs)

last_call : (x : Said) → x.is_answer ≡ false → last_before x ≡ x.taken
last_call x e = grind (arith, e)

last_answer : (x : Said) → x.is_answer ≡ true → last_before x ≡ x.taken - 1
last_answer x e = grind (arith, e)

calls_later : (us : List (List ℕ)) (m : Remark) (from n : ℕ) (s t : Seen) (x : Said) → Listens us from s n t → from + n ≤ last_before x
    → Calls us m from s x → Calls us m (from + n) t x
calls_later us m from n s t x l top c =
    let count = c.count in
    let last = last_call x c.is in
    let e : c.more ≡ n + (c.more - n) = omega (arith, count, last, top) in
    let parts = listens_split us from n (c.more - n) s c.at (subst (λ (i : ℕ). Listens us from s i c.at) e c.listened) in
    let same : parts.0 ≡ t = listens_one us from n s parts.0 t parts.1 l in
    record {
      is = c.is;
      more = c.more - n;
      count = omega (arith, count, e);
      passed = c.passed;
      at = c.at;
      listened = subst (λ (v : Seen). Listens us (from + n) v (c.more - n) c.at) same parts.2;
      word = c.word;
      unit = c.unit;
      said = c.said;
    }

answers_later : (us : List (List ℕ)) (m : Remark) (from n : ℕ) (s t : Seen) (x : Said) → Listens us from s n t → from + n ≤ last_before x
    → Answers us m from s x → Answers us m (from + n) t x
answers_later us m from n s t x l top c =
    let count = c.count in
    let last = last_answer x c.is in
    let e : c.more ≡ n + (c.more - n) = omega (arith, count, last, top) in
    let at : from + c.more ≡ from + n + (c.more - n) = omega (arith, e) in
    let parts = listens_split us from n (c.more - n) s c.at (subst (λ (i : ℕ). Listens us from s i c.at) e c.listened) in
    let same : parts.0 ≡ t = listens_one us from n s parts.0 t parts.1 l in
    record {
      is = c.is;
      more = c.more - n;
      count = omega (arith, count, e);
      passed = c.passed;
      at = c.at;
      listened = subst (λ (v : Seen). Listens us (from + n) v (c.more - n) c.at) same parts.2;
      listening = c.listening;
      last = c.last;
      took = subst (λ (i : ℕ). Takes c.at (get_or us i []) c.last) at c.took;
      reply = c.reply;
      answered = c.answered;
      word = c.word;
      unit = c.unit;
      said = c.said;
      next = c.next;
    }

sends_later : (us : List (List ℕ)) (m : Remark) (from n : ℕ) (s t : Seen) (x : Said) → Listens us from s n t → from + n ≤ last_before x
    → Sends us m from s x → Sends us m (from + n) t x
sends_later us m from n s t x l top (inl c) = inl (calls_later us m from n s t x l top c)
sends_later us m from n s t x l top (inr c) = inr (answers_later us m from n s t x l top c)

runs_later : (own us : List (List ℕ)) (ks : List Kept) (xs : List Said) (most from n : ℕ) (s t : Seen) → Listens us from s n t
    → from + n ≤ most → HasRoom most xs → Runs own us ks xs from s → Runs own us ks xs (from + n) t
runs_later own us [] [] most from n s t l top room r = tt
runs_later own us [] (x ∷ xs) most from n s t l top room r = absurd r
runs_later own us (k ∷ ks) [] most from n s t l top room r = absurd r
runs_later own us (k ∷ ks) (x ∷ xs) most from n s t l top room (is, sends, runs) =
    (is, sends_later us (remark_of own k) from n s t x l (omega (arith, top, room)) sends, runs)

-- the units that follow are sent by the session that sent this one as well
meets_runs : (own us : List (List ℕ)) (ks : List Kept) (xs : List Said) (most : ℕ) (x : Said) (after : Member) → Meets us most x after
    → HasRoom most xs → Runs own us ks xs after.taken after.standing → Runs own us ks xs x.taken x.standing
meets_runs own us ks xs most x after m room r =
    let first : Runs own us ks xs m.taken m.at =
    runs_earlier own us ks xs m.taken m.waited m.at after.standing m.stays
    (subst (λ (i : ℕ). Runs own us ks xs i after.standing) m.count r) in
    elim m.room [
      | inl none ↦ (let same : x.standing ≡ m.at = subst (λ (i : ℕ). Listens us m.taken m.at i x.standing) none m.listened in
          let here : x.taken ≡ m.taken = (let later = m.later in omega (arith, none, later)) in
          subst (λ (i : ℕ). Runs own us ks xs i x.standing) (sym here) (subst (λ (v : Seen). Runs own us ks xs m.taken v) (sym same) first))
      | inr top ↦ (let later = m.later in
          subst (λ (i : ℕ). Runs own us ks xs i x.standing) (sym later)
          (runs_later own us ks xs most m.taken m.more m.at x.standing m.listened (omega (arith, later, top)) room first))
    ]

-- one unit more is sent before a run
pub runs_before : (own us : List (List ℕ)) (k : Kept) (ks : List Kept) (xs : List Said) (most : ℕ) (x : Said) (from after : Member)
    → IsOf k x → Sends us (remark_of own k) from.taken from.standing x → Meets us most x after → HasRoom most xs
    → Runs own us ks xs after.taken after.standing → Runs own us (k ∷ ks) (x ∷ xs) from.taken from.standing
runs_before own us k ks xs most x from after is sends m room r = (is, sends, meets_runs own us ks xs most x after m room r)

-- ---- a step is made later

pub later_step : (g : Goal) (most : ℕ) (s t u : Step) → s.is_answer ≡ false → IsLatest g most s t → IsNext g t u → u.taken ≤ most → u.taken ≤ g.before
    → IsLatest g most s u
later_step g most s t u e (inl is) n top passed =
    let same : t ≡ s = is in
    let next : IsNext g s u = subst (λ (v : Step). IsNext g v u) same n in
    let count = next.count in
    let at : s.taken + 0 ≡ s.taken = omega arith in
    inr (record {
      calls = e;
      is = next.is;
      more = 1;
      count = count;
      from = (s.from, refl, subst (λ (i : ℕ). Hears s.from (get_or (heard_for g) i []) u.from) (sym at) next.from);
      standing = (s.standing, refl, subst (λ (i : ℕ). Hears s.standing (get_or (heard_for g) i []) u.standing) (sym at) next.standing);
      said = next.said;
      room = top;
      passed = passed;
    })
later_step g most s t u e (inr l) n top passed =
    let count = l.count in
    let more = n.count in
    inr (record {
      calls = e;
      is = n.is;
      more = suc l.more;
      count = omega (arith, count, more);
      from = (t.from, l.from, subst (λ (i : ℕ). Hears t.from (get_or (heard_for g) i []) u.from) count n.from);
      standing = (t.standing, l.standing, subst (λ (i : ℕ). Hears t.standing (get_or (heard_for g) i []) u.standing) count n.standing);
      said = n.said;
      room = top;
      passed = passed;
    })

-- ---- a step that was found sends the unit

sends_calling : (g : Goal) (from : Member) (t : Step) (x : Said) → x ≡ said_by_step x t → t.taken ≤ g.before → Calling g from t
    → Sends (heard_for g) (unit_for g) from.taken from.standing x
sends_calling g from t x e l c =
    let count = c.count in
    let taken = ap (λ (y : Said). y.taken) e in
    inl (record {
      is = ap (λ (y : Said). y.is_answer) e ∙ c.is;
      more = c.more;
      count = taken ∙ count;
      passed = omega (arith, taken, l);
      at = t.from;
      listened = c.listened;
      word = word_for g;
      unit = refl;
      said = subst (λ (s : Seen). CanSay t.from (word_for g) g.octets s) (sym (ap (λ (y : Said). y.standing) e)) c.said;
    })

sends_answering : (g : Goal) (from : Member) (t : Step) (x : Said) → x ≡ said_by_step x t → t.taken ≤ g.before → Answering g from t
    → Sends (heard_for g) (unit_for g) from.taken from.standing x
sends_answering g from t x e l c =
    let count = c.count in
    let taken = ap (λ (y : Said). y.taken) e in
    inr (record {
      is = ap (λ (y : Said). y.is_answer) e ∙ c.is;
      more = c.more;
      count = taken ∙ count;
      passed = omega (arith, taken, l);
      at = c.at;
      listened = c.listened;
      listening = c.listening;
      last = c.last;
      took = c.took;
      reply = c.reply;
      answered = c.answered;
      word = word_for g;
      unit = refl;
      said = c.said;
      next = ap (λ (y : Said). y.standing) e ∙ c.next;
    })

sends_by : (g : Goal) (from : Member) (t : Step) (x : Said) → x ≡ said_by_step x t → t.taken ≤ g.before → Leading g from t
    → Sends (heard_for g) (unit_for g) from.taken from.standing x
sends_by g from t x e l h = elim h.sends [
  | inl c ↦ sends_calling g from t x e l c
  | inr c ↦ sends_answering g from t x e l c
]

sends_later_by : (g : Goal) (most : ℕ) (from : Member) (t u : Step) (x : Said) → x ≡ said_by_step x u → IsLater g most t u → Leading g from t
    → Sends (heard_for g) (unit_for g) from.taken from.standing x
sends_later_by g most from t u x e k h = elim h.sends [
  | inl c ↦ (let first = c.count in
      let more = k.count in
      let taken = ap (λ (y : Said). y.taken) e in
      let passed = k.passed in
      inl (record {
        is = ap (λ (y : Said). y.is_answer) e ∙ k.is;
        more = c.more + k.more;
        count = omega (arith, first, more, taken);
        passed = omega (arith, passed, taken);
        at = u.from;
        listened = listens_join (heard_for g) from.taken c.more k.more from.standing t.from u.from c.listened
            (subst (λ (i : ℕ). Listens (heard_for g) i t.from k.more u.from) first k.from);
        word = word_for g;
        unit = refl;
        said = subst (λ (s : Seen). CanSay u.from (word_for g) g.octets s) (sym (ap (λ (y : Said). y.standing) e)) k.said;
      }))
  | inr c ↦ absurd (false≢true (sym k.calls ∙ c.is))
]

step_sends : (g : Goal) (most : ℕ) (from : Member) (t u : Step) (x : Said) → x ≡ said_by_step x u → g.after.now.taken ≤ g.before
    → Leading g from t → IsLatest g most t u → Sends (heard_for g) (unit_for g) from.taken from.standing x
step_sends g most from t u x e l h (inl is) =
    let up = h.no_later in
    sends_by g from t x (subst (λ (v : Step). x ≡ said_by_step x v) is e) (omega (arith, up, l)) h
step_sends g most from t u x e l h (inr k) = sends_later_by g most from t u x e k h

-- and meets the session after it
waits_as : (g : Goal) (from : Member) (t : Step) → Leading g from t
    → Listens (heard_for g) t.taken t.standing (g.after.now.taken - t.taken) g.after.now.standing
waits_as g from t h =
    subst (λ (s : Seen). Listens (heard_for g) t.taken t.standing (g.after.now.taken - t.taken) s) h.standing
    (stays_listens (heard_for g) t.taken t.standing (g.after.now.taken - t.taken) h.stays)

step_meets : (g : Goal) (most : ℕ) (from : Member) (t u : Step) (x : Said) → x ≡ said_by_step x u → Leading g from t
    → IsLatest g most t u → Meets (heard_for g) most x g.after.now
step_meets g most from t u x e h (inl is) =
    let up = h.no_later in
    let same = subst (λ (v : Step). x ≡ said_by_step x v) is e in
    let taken = ap (λ (y : Said). y.taken) same in
    record {
      taken = t.taken;
      at = t.standing;
      waited = g.after.now.taken - t.taken;
      count = omega (arith, up);
      stays = waits_as g from t h;
      more = 0;
      later = omega (arith, taken);
      listened = ap (λ (y : Said). y.standing) same;
      room = inl refl;
    }
step_meets g most from t u x e h (inr k) =
    let up = h.no_later in
    let count = k.count in
    let room = k.room in
    let taken = ap (λ (y : Said). y.taken) e in
    record {
      taken = t.taken;
      at = t.standing;
      waited = g.after.now.taken - t.taken;
      count = omega (arith, up);
      stays = waits_as g from t h;
      more = k.more;
      later = taken ∙ count;
      listened = subst (λ (s : Seen). Listens (heard_for g) t.taken t.standing k.more s) (sym (ap (λ (y : Said). y.standing) e)) k.standing;
      room = inr (omega (arith, taken, room));
    }

pub found_step : (g : Goal) (members : List Member) (o : Option (Member × Step)) (from : Member) (t : Step) → o ≡ Some (from, t)
    → IfSome o (λ s. IsAmong s.0 members × Leading g s.0 s.1) → IsAmong from members × Leading g from t
found_step g members o from t e h = subst (λ (x : Option (Member × Step)). IfSome x (λ s. IsAmong s.0 members × Leading g s.0 s.1)) e h

unit_is : (own : List (List ℕ)) (k : Kept) (g : Goal) (tsdu : List ℕ) → tsdu ≡ get_or own k.tsdu []
    → Some (word_for g) ≡ slice_get (words_of tsdu) k.place → g.octets ≡ length tsdu → g.before ≡ k.before → remark_of own k ≡ unit_for g
unit_is own k g tsdu a w n b = λ i. record {
  word = (ap (λ (u : List ℕ). slice_get (words_of u) k.place) (sym a) ∙ sym w) i;
  octets = (ap (λ (u : List ℕ). length u) (sym a) ∙ sym n) i;
  before = (sym b) i;
}

pub step_to : (g : Goal) (from : Member) (t : Step) → Leading g from t → (own : List (List ℕ)) (k : Kept) (tsdu : List ℕ) (most : ℕ) (u : Step)
    (x : Said) → IsLatest g most t u → tsdu ≡ get_or own k.tsdu [] → Some (word_for g) ≡ slice_get (words_of tsdu) k.place
    → g.octets ≡ length tsdu → g.before ≡ k.before → IsOf k x → x ≡ said_by_step x u → g.after.now.taken ≤ k.before
    → StepsTo own (heard_for g) most k from x g.after.now
step_to g from t h own k tsdu most u x j a w n b is e l =
    let same = unit_is own k g tsdu a w n b in
    let up : g.after.now.taken ≤ g.before = omega (arith, b, l) in
    record {
      is = is;
      sends = subst (λ (m : Remark). Sends (heard_for g) m from.taken from.standing x) (sym same) (step_sends g most from t u x e up h j);
      meets = step_meets g most from t u x e h j;
    }

-- ---- the unit can be read

pub goes_read : (us : List (List ℕ)) (m : Remark) (after : Member) (n : ℕ) (s : Seen) → m.word ≡ None → GoesOn us m after n s → ⊥
goes_read us m after n z e (takes taken s t h g) = goes_read us m after (taken + 1) t e g
goes_read us m after n z e (answers taken s c reply w l t q o a f) = let none : None ≡ Some w = sym e ∙ o in absurd (cc)
goes_read us m after n z e (says taken waited s w o k c h f) = let none : None ≡ Some w = sym e ∙ o in absurd (cc)

-- ---- the run so far

pub one_before : (own us : List (List ℕ)) (ks : List Kept) (xs : List Said) (i most : ℕ) (k : Kept) (x : Said) (from after : Member)
    → i < length ks → k ≡ get_or ks i k → IsOf k x → Sends us (remark_of own k) from.taken from.standing x → Meets us most x after
    → HasRoom most (reverse xs) → Runs own us (drop (i + 1) ks) (reverse xs) after.taken after.standing
    → Runs own us (drop i ks) (reverse (xs ++ x ∷ [])) from.taken from.standing
one_before own us ks xs i most k x from after l e is sends m room r =
    let cut : drop i ks ≡ k ∷ drop (i + 1) ks = drop_more ks i k l ∙ ap (λ (y : Kept). y ∷ drop (i + 1) ks) (sym e) in
    let back : reverse (xs ++ x ∷ []) ≡ x ∷ reverse xs = reverse-append xs (x ∷ []) in
    subst (λ (zs : List Kept). Runs own us zs (reverse (xs ++ x ∷ [])) from.taken from.standing) (sym cut)
    (subst (λ (ys : List Said). Runs own us (k ∷ drop (i + 1) ks) ys from.taken from.standing) (sym back)
    (runs_before own us k (drop (i + 1) ks) (reverse xs) most x from after is sends m room r))

pub less_room : (xs : List Said) (x : Said) (most : ℕ) → most ≤ last_before x → HasRoom most (reverse (xs ++ x ∷ []))
less_room xs x most l =
    let back : reverse (xs ++ x ∷ []) ≡ x ∷ reverse xs = reverse-append xs (x ∷ []) in
    subst (HasRoom most) (sym back) l
