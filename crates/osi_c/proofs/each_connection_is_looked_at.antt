-- If nothing is due of each connection that a judge holds, nothing is due of the connection with any number.
-- For `is_still`, `due_by`, `due_of_each` and `sessions_due`.
use Rattle.std.proofs.Common.{◌≡◌, ◌∙◌, refl, sym, ap, subst, ℕ, zero, suc, ◌+◌, ◌<◌, ◌≤◌, ◌⊎◌, inl, inr, arith, List, [], ◌∷◌, ◌++◌}
use Rattle.std.proofs.Common.{length, get_or, Bool, true, false, Option, Some, None}
use Rattle.std.proofs.lemmas.Bool.{eqb-true}
use Rattle.std.specs.Prelude.{IfNone, slice_get}
use Rattle.std.specs.List.{find}
use Rattle.std.proofs.lemmas.Option.{slice_get-get_or}
use Rattle.osi_side.specs.Captures.{Capture}
use Rattle.osi_side.specs.declared.directions.Direction.{Direction}
use Rattle.osi_side.specs.declared.directions.Direction.TheVariants.{Left, Right}
use Rattle.osi_judge.specs.declared.connections.Connection.{Connection}
use Rattle.osi_judge.specs.declared.pasts.Past.{Past}
use Rattle.osi_judge.specs.Connections.{Joined, has_number, numbered}
use Rattle.osi_judge.specs.Pasts.{AllPast, HoldsPast}
use Rattle.osi_judge.specs.Holding.{AreHeard, HoldAll, HoldsJoined, IsHeard}
use Rattle.osi_judge.specs.Standing.{HoldsState, IsJudged, IsSettled}
use Rattle.osi_judge.specs.States.{State}
use Rattle.osi_c.specs.Fed.{fed, WasFed}
use Rattle.osi_c.specs.Judges.{AreDoneWith, IsDoneWith, Knows}
use Rattle.osi_c.specs.Notes.{IsNoteOf, IsStill, IsStillAt, IsStillOf, IsStillPast, StillIf, StillPastIf, is_certain}
use Rattle.osi_c.specs.Fetching.{HasNone, HasNoneBy, HasNoneByEach, HasNoneByPast, HasNoneByPasts, HasNoneOf, HasNoneOfSessions, HasNoneAt}
use Rattle.osi_c.specs.Fetching.{AreDoneBy, DoneByBothIf, IsDoneBy, IsDoneByBoth}
use Rattle.osi_c.specs.Subjects.{told_by}
use Rattle.osi_c.proofs.a_piece_passes_to_a_judge.{was_fed}
use Rattle.osi_c.specs.declared.judges.HeldJudge.{HeldJudge}
use Rattle.osi_c.specs.declared.notes.Note.{Note}
use Rattle.osi_c.specs.declared.notes.Note.TheVariants as note
use Rattle.osi_c.specs.declared.subjects.Subject.{Subject}
use Rattle.osi_c.specs.declared.subjects.Subject.TheVariants.{Session}

-- ---- one connection

pub still_both : (c : Connection) (n m : Note) → ((j : Joined) → HoldsJoined c j → IsHeard c → IsNoteOf Left j n)
    → ((j : Joined) → HoldsJoined c j → IsHeard c → IsNoteOf Right j m) → is_certain n ≡ false → is_certain m ≡ false → IsStill c
still_both c n m left right e f j h k = ((n, left j h k, e), (m, right j h k, f))

pub still_if : (b : Bool) (c : Connection) → b ≡ true → StillIf b c → IsStill c
still_if b c e h = grind arith

pub past_still_both : (p : Past) (n m : Note) → ((j : Joined) → HoldsPast p j → IsNoteOf Left j n)
    → ((j : Joined) → HoldsPast p j → IsNoteOf Right j m) → is_certain n ≡ false → is_certain m ≡ false → IsStillPast p
past_still_both p n m left right e f j h = ((n, left j h, e), (m, right j h, f))

pub past_still_if : (b : Bool) (p : Past) → b ≡ true → StillPastIf b p → IsStillPast p
past_still_if b p e h = grind arith

pub none_as : {X : Type 0} (r : Option X) (A B : Type 0) → (A → B) → IfNone r A → IfNone r B
none_as h h2 h3 f h4 = grind arith

-- by its number
pub by_its_number : (w : HeldJudge) (told : Subject → Bool) (c : Connection) (n : ℕ) → ((j : Joined) → HoldsJoined c j → n ≡ j.number)
    → HasNoneOf w told n → HasNoneBy w told c
by_its_number w told c n is h = inr (λ j holds. subst (λ (m : ℕ). HasNoneOf w told m) (is j holds) h)

pub past_by_its_number : (w : HeldJudge) (told : Subject → Bool) (p : Past) (n : ℕ) → ((j : Joined) → HoldsPast p j → n ≡ j.number)
    → HasNoneOf w told n → HasNoneByPast w told p
past_by_its_number w told p n is h = inr (λ j holds. subst (λ (m : ℕ). HasNoneOf w told m) (is j holds) h)

-- ---- one after the other

at_place : {X : Type 0} → (cs : List X) (m : ℕ) (d c : X) → m < length cs → slice_get cs m ≡ Some c → get_or cs m d ≡ c
at_place [] m d c lt e = absurd (omega arith)
at_place (x ∷ cs) zero d c lt e = cc
at_place (x ∷ cs) (suc m) d c lt e = at_place cs m d c (omega arith) e

within : {X : Type 0} → (cs : List X) (i : ℕ) (c : X) → slice_get cs i ≡ Some c → i < length cs
within [] i c e = absurd (cc)
within (x ∷ cs) zero c e = omega arith
within (x ∷ cs) (suc i) c e = let r = within cs i c e in omega (arith, r)

-- what holds of each from one place up to another
abbrev pub EachBetween : {X : Type 0} → (P : X → Type 0) → List X → ℕ → ℕ → Type 0
EachBetween {X} P cs n m = (i : ℕ) (c : X) → n ≤ i → i < m → slice_get cs i ≡ Some c → P c

pub one_more_between : {X : Type 0} → (P : X → Type 0) (cs : List X) (n m : ℕ) (d : X) → m < length cs → EachBetween P cs n m
    → P (get_or cs m d) → EachBetween P cs n (m + 1)
one_more_between P cs n m d lt h k i c from below e = search (arith, at_place)

pub each_from : {X : Type 0} → (P : X → Type 0) (cs : List X) (n m : ℕ) → length cs ≤ m → EachBetween P cs n m
    → (i : ℕ) (c : X) → n ≤ i → slice_get cs i ≡ Some c → P c
each_from P cs n m le h i c from e = let lt = within cs i c e in h i c from (omega (arith, lt, le)) e

-- what holds of each before a place
abbrev pub EachBefore : {X : Type 0} → (P : X → Type 0) → List X → ℕ → Type 0
EachBefore {X} P cs m = (i : ℕ) (c : X) → i < m → slice_get cs i ≡ Some c → P c

pub one_more_place : {X : Type 0} → (P : X → Type 0) (cs : List X) (m : ℕ) (d : X) → m < length cs → EachBefore P cs m
    → P (get_or cs m d) → EachBefore P cs (m + 1)
one_more_place P cs m d lt h k i c below e = search (arith, at_place)

pub each_place : {X : Type 0} → (P : X → Type 0) (cs : List X) (m : ℕ) → length cs ≤ m → EachBefore P cs m
    → (i : ℕ) (c : X) → slice_get cs i ≡ Some c → P c
each_place P cs m le h i c e = let lt = within cs i c e in h i c (omega (arith, lt, le)) e

-- ---- the one with a number

-- nothing is certain of a side of a connection, or nothing is due of it
abbrev Silent : Direction → HeldJudge → (Subject → Bool) → Joined → Type 0
Silent d w told j = IsStillOf d j ⊎ HasNone w told (Session j.number d)

abbrev AreSilent : Direction → HeldJudge → (Subject → Bool) → List Joined → Type 0
AreSilent d w told [] = Unit {0}
AreSilent d w told (j ∷ js) = Silent d w told j × AreSilent d w told js

none_of_a_side : (d : Direction) (w : HeldJudge) (told : Subject → Bool) (n : ℕ) → HasNoneOf w told n → HasNone w told (Session n d)
none_of_a_side Left w told n h = h.0
none_of_a_side Right w told n h = h.1

still_of : (d : Direction) (c : Connection) (j : Joined) → IsStill c → HoldsJoined c j → IsHeard c → IsStillOf d j
still_of Left c j still h k = (still j h k).0
still_of Right c j still h k = (still j h k).1

silent : (d : Direction) (w : HeldJudge) (told : Subject → Bool) (c : Connection) (j : Joined) → HoldsJoined c j → IsHeard c → HasNoneBy w told c
    → Silent d w told j
silent d w told c j h k none = elim none [
  | inl still ↦ inl (still_of d c j still h k)
  | inr due ↦ inr (none_of_a_side d w told j.number (due j h))
]

all_silent : (d : Direction) (w : HeldJudge) (told : Subject → Bool) (cs : List Connection) (js : List Joined) → HoldAll cs js → AreHeard cs
    → HasNoneByEach w told cs → AreSilent d w told js
all_silent d w told [] [] h k each = tt
all_silent d w told [] (j ∷ js) h k each = absurd h
all_silent d w told (c ∷ cs) [] h k each = absurd h
all_silent d w told (c ∷ cs) (j ∷ js) h k each =
    (silent d w told c j h.0 k.0 (each zero c refl), all_silent d w told cs js h.1 k.1 (λ i x e. each (suc i) x e))

past_still_of : (d : Direction) (p : Past) (j : Joined) → IsStillPast p → HoldsPast p j → IsStillOf d j
past_still_of Left p j still h = (still j h).0
past_still_of Right p j still h = (still j h).1

past_silent : (d : Direction) (w : HeldJudge) (told : Subject → Bool) (p : Past) (j : Joined) → HoldsPast p j → HasNoneByPast w told p
    → Silent d w told j
past_silent d w told p j h none = elim none [
  | inl still ↦ inl (past_still_of d p j still h)
  | inr due ↦ inr (none_of_a_side d w told j.number (due j h))
]

-- the record at a place, and the connection that it is of
past_of : (ps : List Past) (js : List Joined) (i : ℕ) (j : Joined) → AllPast ps js → slice_get js i ≡ Some j
    → (p : Past) × (slice_get ps i ≡ Some p) × HoldsPast p j
past_of [] [] i j h e = absurd (cc)
past_of [] (k ∷ js) i j h e = absurd h
past_of (p ∷ ps) [] i j h e = absurd h
past_of (p ∷ ps) (k ∷ js) zero j h e = (p, refl, grind (arith, h.0))
past_of (p ∷ ps) (k ∷ js) (suc i) j h e = past_of ps js i j h.1 e

joined_of : (ps : List Past) (js : List Joined) (i : ℕ) (p : Past) → AllPast ps js → slice_get ps i ≡ Some p
    → (j : Joined) × (slice_get js i ≡ Some j) × HoldsPast p j
joined_of [] [] i p h e = absurd (cc)
joined_of [] (k ∷ js) i p h e = absurd h
joined_of (q ∷ ps) [] i p h e = absurd h
joined_of (q ∷ ps) (k ∷ js) zero p h e = (k, refl, grind (arith, h.0))
joined_of (q ∷ ps) (k ∷ js) (suc i) p h e = joined_of ps js i p h.1 e

done_of : (d : Direction) (told : Subject → Bool) (j : Joined) → IsDoneWith Left told j × IsDoneWith Right told j → IsDoneWith d told j
done_of Left told j h = h.0
done_of Right told j h = h.1

-- of one that was seen
done_silent : (d : Direction) (w : HeldJudge) (told : Subject → Bool) (j : Joined) → IsDoneWith d told j → Silent d w told j
done_silent d w told j h = elim h [ inl still ↦ inl still | inr e ↦ inr (inl e) ]

before_or_not : (i n : ℕ) → (i < n) ⊎ (n ≤ i)
before_or_not i zero = inr (omega arith)
before_or_not zero (suc n) = inl (omega arith)
before_or_not (suc i) (suc n) = elim (before_or_not i n) [ inl lt ↦ inl (omega (arith, lt)) | inr le ↦ inr (omega (arith, le)) ]

over_silent : (d : Direction) (w : HeldJudge) (told : Subject → Bool) (n : ℕ) (ps : List Past) (js : List Joined) (i : ℕ) (j : Joined)
    → AllPast ps js → AreDoneWith n told js → HasNoneByPasts n w told ps → slice_get js i ≡ Some j → Silent d w told j
over_silent d w told n ps js i j h seen gone e = elim (before_or_not i n) [
  | inl lt ↦ of_seen (seen i lt)
  | inr le ↦ of_unseen le (past_of ps js i j h e)
]
  where
    of_seen : (k : Joined) × (slice_get js i ≡ Some k) × IsDoneWith Left told k × IsDoneWith Right told k → Silent d w told j
    of_seen r = subst (Silent d w told) (some_same r.0 j (sym r.1 ∙ e)) (done_silent d w told r.0 (done_of d told r.0 (r.2, r.3)))
      where
        some_same : (a b : Joined) → Some a ≡ Some b → a ≡ b
        some_same a b e = cc

    of_unseen : n ≤ i → (p : Past) × (slice_get ps i ≡ Some p) × HoldsPast p j → Silent d w told j
    of_unseen le r = past_silent d w told r.0 j r.2 (gone i r.0 le r.1)

silent_each : (d : Direction) (w : HeldJudge) (told : Subject → Bool) (js : List Joined)
    → ((i : ℕ) (j : Joined) → slice_get js i ≡ Some j → Silent d w told j) → AreSilent d w told js
silent_each d w told [] f = tt
silent_each d w told (j ∷ js) f = (f zero j refl, silent_each d w told js (λ i k e. f (suc i) k e))

pasts_silent : (d : Direction) (w : HeldJudge) (told : Subject → Bool) (n : ℕ) (ps : List Past) (js : List Joined) → AllPast ps js
    → AreDoneWith n told js → HasNoneByPasts n w told ps → AreSilent d w told js
pasts_silent d w told n ps js h seen gone = silent_each d w told js (λ i j e. over_silent d w told n ps js i j h seen gone e)

both_silent : (d : Direction) (w : HeldJudge) (told : Subject → Bool) (js ks : List Joined) → AreSilent d w told js → AreSilent d w told ks
    → AreSilent d w told (js ++ ks)
both_silent d w told [] ks h k = k
both_silent d w told (j ∷ js) ks h k = (h.0, both_silent d w told js ks h.1 k)

abbrev SilentAt : Direction → HeldJudge → (Subject → Bool) → ℕ → Option Joined → Type 0
SilentAt d w told number None = Unit {0}
SilentAt d w told number (Some j) = (j.number ≡ number) × Silent d w told j

silent_found : (d : Direction) (w : HeldJudge) (told : Subject → Bool) (number : ℕ) (js : List Joined) → AreSilent d w told js
    → SilentAt d w told number (find (has_number number) js)
silent_found d w told number [] h = tt
silent_found d w told number (j ∷ js) h = grind (arith, eqb-true, silent_found d w told number js h.1)

not_both : (b : Bool) → b ≡ true → b ≡ false → ⊥
not_both b h k = cc

of_none : (d : Direction) (w : HeldJudge) (told : Subject → Bool) (capture : Capture) (number : ℕ) (j : Joined) → j.number ≡ number
    → WasFed w capture → IsSettled w.judge → told (Session number d) ≡ false → HasNone w told (Session j.number d)
    → IsStillAt d (numbered number (fed capture).course.sessions)
of_none d w told capture number j e h k fresh none = elim none [
  | inl before ↦ absurd (not_both (told (Session number d)) (ap (λ (n : ℕ). told (Session n d)) (sym e) ∙ before) fresh)
  | inr nothing ↦ subst (λ (n : ℕ). IsStillAt d (numbered n (fed capture).course.sessions)) e (nothing capture h k)
]

note_of_silent : (d : Direction) (w : HeldJudge) (told : Subject → Bool) (capture : Capture) (number : ℕ) (o : Option Joined)
    → numbered number (fed capture).course.sessions ≡ o → WasFed w capture → IsSettled w.judge → told (Session number d) ≡ false
    → SilentAt d w told number o → IsStillAt d (numbered number (fed capture).course.sessions)
note_of_silent d w told capture number None e h k fresh is =
    subst (λ (o : Option Joined). IsStillAt d o) (sym e) (note.Silent, refl, refl)
note_of_silent d w told capture number (Some j) e h k fresh is = elim is.1 [
  | inl said ↦ subst (λ (o : Option Joined). IsStillAt d o) (sym e) said
  | inr none ↦ of_none d w told capture number j is.0 h k fresh none
]

-- ---- those that are over are passed over

pub both_done_if : (b : Bool) (told : Subject → Bool) (p : Past) → b ≡ true → DoneByBothIf b told p → IsDoneByBoth told p
both_done_if true told p e h = h
both_done_if false told p e h = absurd (cc)

-- C was told of it
pub done_told : (d : Direction) (told : Subject → Bool) (p : Past) (n : ℕ) → ((j : Joined) → HoldsPast p j → n ≡ j.number)
    → told (Session n d) ≡ true → IsDoneBy d told p
done_told d told p n is e j h = inr (subst (λ (m : ℕ). told (Session m d) ≡ true) (is j h) e)

-- or nothing is certain of it
pub done_still : (d : Direction) (told : Subject → Bool) (p : Past) (n : Note) → ((j : Joined) → HoldsPast p j → IsNoteOf d j n)
    → is_certain n ≡ false → IsDoneBy d told p
done_still d told p n notes e j h = inl (n, notes j h, e)

pub none_seen : (first : ℕ) (told : Subject → Bool) (ps : List Past) → AreDoneBy first first told ps
none_seen first told ps i le lt = absurd (omega (arith, le, lt))

pub one_more_seen : (first last : ℕ) (told : Subject → Bool) (ps : List Past) (d : Past) → last < length ps → AreDoneBy first last told ps
    → IsDoneByBoth told (get_or ps last d) → AreDoneBy first (last + 1) told ps
one_more_seen first last told ps d lt done both i le below = elim (before_or_not i last) [
  | inl before ↦ done i le before
  | inr after ↦ at_last (omega (arith, after, below))
]
  where
    at_last : i ≡ last → (p : Past) × (slice_get ps i ≡ Some p) × IsDoneByBoth told p
    at_last e = (get_or ps last d, ap (slice_get ps) e ∙ slice_get-get_or ps last d lt, both)

-- what the judge knows, once it has seen more of them
pub seen_on : (told : Subject → Bool) (n m : ℕ) (ps : List Past) (js : List Joined) → AllPast ps js → AreDoneBy n m told ps
    → AreDoneWith n told js → AreDoneWith m told js
seen_on told n m ps js h done seen i lt = elim (before_or_not i n) [
  | inl before ↦ seen i before
  | inr after ↦ of_record (done i after lt)
]
  where
    of_record : (p : Past) × (slice_get ps i ≡ Some p) × IsDoneByBoth told p
        → (j : Joined) × (slice_get js i ≡ Some j) × IsDoneWith Left told j × IsDoneWith Right told j
    of_record r =
        let q = joined_of ps js i r.0 h r.1 in
        (q.0, q.1, r.2.0 q.0 q.2, r.2.1 q.0 q.2)

-- ---- any number

module _ (w : HeldJudge) (cs : List Connection) (ps : List Past)
    (placed : (s : State) → HoldsState w.judge s → IsJudged w.judge → HoldAll cs s.course.sessions.live)
    (heard : IsSettled w.judge → AreHeard cs)
    (replaced : (s : State) → HoldsState w.judge s → IsJudged w.judge → AllPast ps s.course.sessions.done)
    (each : HasNoneByEach w (told_by w.told) cs) (gone : HasNoneByPasts w.seen w (told_by w.told) ps) where
  by_number : (d : Direction) (number : ℕ) (capture : Capture) → Knows w capture → IsSettled w.judge
      → told_by w.told (Session number d) ≡ false → IsStillAt d (numbered number (fed capture).course.sessions)
  by_number d number capture h k fresh =
      let all = (fed capture).course.sessions in
      note_of_silent d w (told_by w.told) capture number (numbered number all) refl (was_fed w capture h) k fresh
      (silent_found d w (told_by w.told) number (all.live ++ all.done)
      (both_silent d w (told_by w.told) all.live all.done
      (all_silent d w (told_by w.told) cs all.live (placed (fed capture) h.holds k.judged) (heard k) each)
      (pasts_silent d w (told_by w.told) w.seen ps all.done (replaced (fed capture) h.holds k.judged) h.seen gone)))

  none_by : (d : Direction) (number : ℕ) (capture : Capture) → Knows w capture → IsSettled w.judge → (b : Bool)
      → told_by w.told (Session number d) ≡ b → HasNoneAt d (told_by w.told) number (fed capture)
  none_by d number capture h k true e = inl e
  none_by d number capture h k false e = inr (by_number d number capture h k e)

  pub of_any_number : HasNoneOfSessions w (told_by w.told)
  of_any_number = λ capture h k number lt. (
    none_by Left number capture h k (told_by w.told (Session number Left)) refl,
    none_by Right number capture h k (told_by w.told (Session number Right)) refl,
  )
