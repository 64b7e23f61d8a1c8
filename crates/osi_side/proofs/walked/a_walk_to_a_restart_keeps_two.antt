-- A walk to a restart loses no explanation, though it keeps only the first and the last session of those that differ in V(A)
-- alone. For the functions of `restarts`.
use Rattle.osi_side.proofs.Vocabulary.{◌≡◌, ◌∙◌, refl, sym, ap, subst, ℕ, ◌+◌, ◌<◌, ◌≤◌, ◌⊎◌, ◌↔◌, inl, inr, true, List, [], ◌∷◌, get_or}
use Rattle.osi_side.proofs.Vocabulary.{Option, Some, None, arith, Word, is_restart_word, Seen, after_count, Hears, Member, Asked, Asker}
use Rattle.osi_side.proofs.Vocabulary.{seen_to, Remark, Explains, SomeExplains, IsBehind, Waits, Restarted, AreAsked, MayBeAsked, Known}
use Rattle.osi_side.proofs.Vocabulary.{StillOpen, the_remark, SaidHere, SaysTo, MovesTo}
use Rattle.osi_side.proofs.walked.a_walk_loses_no_explanation.{takes_one, TakenOn, ways, said_on, before_it}
use Rattle.osi_side.proofs.walked.a_restart_waits.{waits_both}
use Rattle.osi_side.proofs.walked.restarts_are_alike.{alike}
use Rattle.osi_side.proofs.walked.what_lies_between.{lies_between}

pub both : {A B C : Type 0} → (A ↔ B) → (B ↔ C) → (A ↔ C)
both f g = (λ a. g.0 (f.0 a), λ c. f.1 (g.1 c))

-- ---- one more that sent it

abbrev pub Joins : List (List ℕ) → List Remark → ℕ → List Member → List Member → Option Asked → Seen → Option Asked → Type 0
Joins us later taken old new asked said r = (Known us later taken old asked ⊎ Explains us later taken said) ↔ Known us later taken new r

-- the last before it lies between
pub replaces : (us : List (List ℕ)) (later : List Remark) (taken : ℕ) (old : List Member) (r q : Word) (o : ℕ) (a : Asked) (said shown :
    Seen) → is_restart_word r ≡ true → is_restart_word q ≡ true
    → AreAsked r q o a → Restarted r q o said shown → a.shown ≡ shown → a.first.state.numbers.confirmed ≤ a.last.state.numbers.confirmed
    → a.last.state.numbers.confirmed ≤ said.state.numbers.confirmed
    → Joins us later taken old old (Some a) said (Some (record { first = a.first; last = said; shown = a.shown }))
replaces us later taken old r q o a said shown p k h x e low high = (there, back)
  where
    last_is : a.last ≡ seen_to a.last.state.numbers.confirmed a.first
    last_is = alike r q o a.first a.last a.shown p k h.first h.last

    said_is : said ≡ seen_to said.state.numbers.confirmed a.first
    said_is = alike r q o a.first said a.shown p k h.first (subst (λ (y : Seen). Restarted r q o said y) (sym e) x)

    there : (Known us later taken old (Some a) ⊎ Explains us later taken said)
        → Known us later taken old (Some (record { first = a.first; last = said; shown = a.shown }))
    there (inl (inl m)) = inl m
    there (inl (inr (inl m))) = inr (inl m)
    there (inl (inr (inr m))) = elim (lies_between us later taken a.last m a.first a.first.state.numbers.confirmed
        a.last.state.numbers.confirmed said.state.numbers.confirmed last_is low high) [
          | inl n ↦ inr (inl n)
          | inr n ↦ inr (inr (subst (λ (y : Seen). Explains us later taken y) (sym said_is) n))
        ]
    there (inr m) = inr (inr m)

    back : Known us later taken old (Some (record { first = a.first; last = said; shown = a.shown }))
        → (Known us later taken old (Some a) ⊎ Explains us later taken said)
    back (inl m) = inl (inl m)
    back (inr (inl m)) = inl (inr (inl m))
    back (inr (inr m)) = inr m

-- ---- it sends it here, or does not

pub said_is : (us : List (List ℕ)) (later : List Remark) (w : Word) (o : ℕ) (at said : Member) → SaysTo at w o (Some said)
    → SaidHere us later w o at ↔ Explains us later at.taken said.standing
said_is us later w o at said h = grind arith

-- ---- those that wait

pub still_wait : (us : List (List ℕ)) (later : List Remark) (before taken : ℕ) (old : List Member) (a : Asked) → taken < before
    → IsBehind before later
    → Waits a.first (get_or us taken []) → Waits a.last (get_or us taken [])
    → Known us later taken old (Some a) ↔ Known us later (taken + 1) old (Some a)
still_wait us later before taken old a b h v w = grind (arith, waits_both)

-- ---- a TSDU that the session takes on its way

quiet_only : (us : List (List ℕ)) (later : List Remark) (m : Remark) (w : Word) (j : ℕ) (s : Seen) → is_restart_word w ≡ true
    → (t : TakenOn us later m w j s)
    → (t.count.reply ≡ None) × (Explains us (m ∷ later) (j + 1) (after_count s t.count))
quiet_only us later m w j s r t = grind arith

pub goes_on : (us heard : List (List ℕ)) (later : List Remark) (w : Word) (o before : ℕ) (at on : Member) → is_restart_word w ≡ true
    → at.taken < before → get_or us at.taken [] ≡ get_or heard at.taken []
    → MovesTo heard at (Some on) → Explains us (the_remark w o before ∷ later) at.taken at.standing ↔ (SaidHere us later w o at ⊎ Explains
    us (the_remark w o before ∷ later) on.taken on.standing)
goes_on us heard later w o before at on r b e h = (there, back)
  where
    hears : Hears at.standing (get_or us at.taken []) on.standing
    hears = subst (λ (u : List ℕ). Hears at.standing u on.standing) (sym e) h.1

    from : (t : TakenOn us later (the_remark w o before) w at.taken at.standing)
        → Explains us (the_remark w o before ∷ later) on.taken on.standing
    from t =
        let k = quiet_only us later (the_remark w o before) w at.taken at.standing r t in
        let same = takes_one at.standing (get_or us at.taken []) t.count hears.count t.taken hears.taken in
        let next : after_count at.standing t.count ≡ on.standing = ap (after_count at.standing) same ∙ sym hears.next in
        subst (λ (x : ℕ). Explains us (the_remark w o before ∷ later) x on.standing) (sym h.0)
        (subst (λ (x : Seen). Explains us (the_remark w o before ∷ later) (at.taken + 1) x) next k.1)

    there : Explains us (the_remark w o before ∷ later) at.taken at.standing
        → (SaidHere us later w o at ⊎ Explains us (the_remark w o before ∷ later) on.taken on.standing)
    there k = elim (ways us later w o before at k) [ inl x ↦ inl x | inr t ↦ inr (from t) ]

    back : (SaidHere us later w o at ⊎ Explains us (the_remark w o before ∷ later) on.taken on.standing)
        → Explains us (the_remark w o before ∷ later) at.taken at.standing
    back (inl x) = said_on us later w o before at x
    back (inr x) = before_it us (the_remark w o before ∷ later) before at.taken at.standing on.standing b (omega arith) hears
        (subst (λ (y : ℕ). Explains us (the_remark w o before ∷ later) y on.standing) h.0 x)

pub stops_here : (us heard : List (List ℕ)) (later : List Remark) (w : Word) (o before : ℕ) (at : Member) → is_restart_word w ≡ true
    → get_or us at.taken [] ≡ get_or heard at.taken []
    → MovesTo heard at None → Explains us (the_remark w o before ∷ later) at.taken at.standing ↔ SaidHere us later w o at
stops_here us heard later w o before at r e h = (there, λ x. said_on us later w o before at x)
  where
    there : Explains us (the_remark w o before ∷ later) at.taken at.standing → SaidHere us later w o at
    there k = elim (ways us later w o before at k) [
      | inl x ↦ x
      | inr t ↦ (let q = quiet_only us later (the_remark w o before) w at.taken at.standing r t in
          let t_hears : Hears at.standing (get_or us at.taken []) (after_count at.standing t.count)
          = record { count = t.count; listening = t.listening; taken = t.taken; quiet = q.0; next = refl } in
          absurd (h (after_count at.standing t.count) (grind arith)))
    ]

pub ends_here : (us : List (List ℕ)) (later : List Remark) (w : Word) (o before : ℕ) (at : Member) → before ≤ at.taken
    → Explains us (the_remark w o before ∷ later) at.taken at.standing ↔ SaidHere us later w o at
ends_here us later w o before at b = search (arith, said_on, ways)

-- ---- a step, by what it is made of

pub stopped : {K L M E S : Type 0} → ((K ⊎ S) ↔ L) → (E ↔ S) → (L ↔ M) → ((K ⊎ E) ↔ M)
stopped a e c = grind arith

-- ---- what `join` ensures, at each of its ends

abbrev pub JoinsBy : ℕ → List Member → List Member → Option Asked → Seen → Seen → Option Asked → Type 0
JoinsBy taken old new asked said shown r = (restart other : Word) (octets : ℕ) → is_restart_word restart ≡ true
    → is_restart_word other ≡ true → MayBeAsked restart other octets asked
    → Restarted restart other octets said shown → MayBeAsked restart other octets r × ((us : List (List ℕ)) (later : List Remark)
    → Joins us later taken old new asked said r)

abbrev pub asked_once : Seen → Seen → Asked
asked_once said shown = record { first = said; last = said; shown = shown }

pub joins_apart : (taken : ℕ) (old new : List Member) (asked : Option Asked) (said shown : Seen) (b : Asked) → asked ≡ Some b
    → ((us : List (List ℕ)) (later : List Remark) → Known us later taken old (Some b) ↔ SomeExplains us new later)
    → JoinsBy taken old new asked said shown (Some (asked_once said shown))
joins_apart taken old new asked said shown b e g = grind arith

pub joins_between : (taken : ℕ) (old : List Member) (asked : Option Asked) (said shown : Seen) (b : Asked) → asked ≡ Some b
    → b.shown ≡ shown
    → (b.first.state.numbers.confirmed ≤ b.last.state.numbers.confirmed) × (b.last.state.numbers.confirmed ≤ said.state.numbers.confirmed)
    → JoinsBy taken old old asked said shown (Some (record { first = b.first; last = said; shown = b.shown }))
joins_between taken old asked said shown b e s l =
    subst (λ (a : Option Asked). JoinsBy taken old old a said shown (Some (record { first = b.first; last = said; shown = b.shown }))) (sym
    e)
    (λ r q o p k m x. (grind arith, λ us later. replaces us later taken old r q o b said shown p k m x s l.0 l.1))

pub joins_after : (taken : ℕ) (old new : List Member) (asked : Option Asked) (said shown : Seen) (b : Asked) → asked ≡ Some b
    → b.shown ≡ shown
    → ((us : List (List ℕ)) (later : List Remark) → (SomeExplains us old later ⊎ Explains us later taken b.last) ↔ SomeExplains us new
    later)
    → JoinsBy taken old new asked said shown (Some (record { first = b.first; last = said; shown = b.shown }))
joins_after taken old new asked said shown b e s g = grind arith

-- ---- what `ask` ensures, by what `join` ensures

pub asks : (us : List (List ℕ)) (later : List Remark) (w : Word) (o : ℕ) (at said : Member) (old new : List Member) (asked r : Option
    Asked) → SaysTo at w o (Some said)
    → Joins us later at.taken old new asked said.standing r → (Known us later at.taken old asked ⊎ SaidHere us later w o at) ↔ Known us
    later at.taken new r
asks us later w o at said old new asked r h g = grind arith

pub restarted_by : (r q : Word) (o : ℕ) (at said shown : Member) → SaysTo at r o (Some said) → SaysTo at q o (Some shown)
    → Restarted r q o said.standing shown.standing
restarted_by r q o at said shown h k = record { from = at.standing; sent = h.1; shows = k.1 }

-- ---- what `step` and `walk_with` ensure

pub steps_on : (us heard : List (List ℕ)) (later : List Remark) (w : Word) (o before : ℕ) (from to : Asker) (old mid new : List Member)
    (asked : Option Asked) → is_restart_word w ≡ true → from.at.taken < before
    → get_or us from.at.taken [] ≡ get_or heard from.at.taken [] → MovesTo heard from.at (Some to.at)
    → (Known us later from.at.taken old from.asked ⊎ SaidHere us later w o from.at) ↔ Known us later from.at.taken mid asked
    → Known us later from.at.taken mid asked ↔ Known us later (from.at.taken + 1) new to.asked
    → StillOpen us later (the_remark w o before) old (Some from) ↔ StillOpen us later (the_remark w o before) new (Some to)
steps_on us heard later w o before from to old mid new asked r b e h a g =
    grind (arith, goes_on us heard later w o before from.at to.at r b e h)

pub steps_out : (us heard : List (List ℕ)) (later : List Remark) (w : Word) (o before : ℕ) (from : Asker) (old mid new : List Member)
    (asked : Option Asked) → is_restart_word w ≡ true
    → get_or us from.at.taken [] ≡ get_or heard from.at.taken [] → MovesTo heard from.at None
    → (Known us later from.at.taken old from.asked ⊎ SaidHere us later w o from.at) ↔ Known us later from.at.taken mid asked
    → Known us later from.at.taken mid asked ↔ SomeExplains us new later
    → StillOpen us later (the_remark w o before) old (Some from) ↔ SomeExplains us new later
steps_out us heard later w o before from old mid new asked r e h a g = stopped a (stops_here us heard later w o before from.at r e h) g

pub steps_last : (us : List (List ℕ)) (later : List Remark) (w : Word) (o before : ℕ) (from : Asker) (old mid new : List Member) (asked :
    Option Asked) → before ≤ from.at.taken
    → (Known us later from.at.taken old from.asked ⊎ SaidHere us later w o from.at) ↔ Known us later from.at.taken mid asked
    → Known us later from.at.taken mid asked ↔ SomeExplains us new later
    → StillOpen us later (the_remark w o before) old (Some from) ↔ SomeExplains us new later
steps_last us later w o before from old mid new asked b a g = stopped a (ends_here us later w o before from.at b) g

pub moves_none : (heard : List (List ℕ)) (at : Member) (o : Option Member) → ((m : Member) → o ≡ Some m → ⊥) → MovesTo heard at o
    → MovesTo heard at None
moves_none heard at None n h = h
moves_none heard at (Some m) n h = absurd (n m refl)
