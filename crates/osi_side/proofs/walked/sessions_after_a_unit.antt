-- Members after a unit, after the units of a TSDU, and after a TSDU that is not session units.
use Rattle.osi_side.proofs.Vocabulary.{◌≡◌, refl, sym, ap, ℕ, suc, zero, ◌+◌, ◌<◌, ◌≤◌, ◌⊎◌, ◌↔◌, ◌||◌, Bool, true, false, inl, inr, List}
use Rattle.osi_side.proofs.Vocabulary.{[], ◌∷◌, ◌++◌, length, map, drop, get_or, None, Result, Err, arith, SpduFault, Word, Words}
use Rattle.osi_side.proofs.Vocabulary.{is_restart_word, Seen, acting_behind, Member, Remark, Told, read_as, Explains, takes, answers}
use Rattle.osi_side.proofs.Vocabulary.{SomeExplains, IsBehind, the_remark, remarked, Ever}
use Rattle.osi_session.specs.Joining.{acting_words}
use Rattle.osi_side.specs.Explaining.{says}

-- ---- a unit

-- how far the loop over the members has come
abbrev pub SoFar : List (List ℕ) → List Remark → Remark → List Member → List Member → ℕ → Type 0
SoFar us later m members next i =
    SomeExplains us members (m ∷ later) ↔ (SomeExplains us next later ⊎ SomeExplains us (drop i members) (m ∷ later))

pub first_so_far : (us : List (List ℕ)) (later : List Remark) (m : Remark) (members next : List Member) → next ≡ [] →
    SoFar us later m members next 0
first_so_far us later m members next e = grind arith

pub drop_here : (members : List Member) (i : ℕ) (x : Member) → i < length members → x ≡ get_or members i x
    → drop i members ≡ x ∷ drop (i + 1) members
drop_here [] i x l e = absurd (omega arith)
drop_here (n ∷ members) zero x l e = ap (λ (y : Member). y ∷ members) (sym e)
drop_here (n ∷ members) (suc i) x l e = let k : suc i + 1 ≡ suc (i + 1) = omega arith in rw k (drop_here members i x (omega arith) e)

pub drop_end : (members : List Member) (i : ℕ) → length members ≤ i → drop i members ≡ []
drop_end [] zero l = refl
drop_end [] (suc i) l = refl
drop_end (n ∷ members) zero l = absurd (omega arith)
drop_end (n ∷ members) (suc i) l = drop_end members i (omega arith)

pub next_so_far : (us : List (List ℕ)) (later : List Remark) (m : Remark) (members old new : List Member) (i : ℕ) (x : Member) →
    i < length members → x ≡ get_or members i x
    → SoFar us later m members old i →
    (SomeExplains us old later ⊎ Explains us (m ∷ later) x.taken x.standing) ↔ SomeExplains us new later →
    SoFar us later m members new (i + 1)
next_so_far us later m members old new i x l e s w = grind (arith, drop_here)

pub last_so_far : (us : List (List ℕ)) (later : List Remark) (m : Remark) (members next : List Member) (i : ℕ) → length members ≤ i →
    SoFar us later m members next i
    → SomeExplains us members (m ∷ later) ↔ SomeExplains us next later
last_so_far us later m members next i l s = grind (arith, drop_end)

-- ---- units

-- the remarks of a TSDU with these words, followed by `later`
abbrev pub further : ℕ → ℕ → Words → List Remark → List Remark
further octets before ws later = map (remarked octets before) ws ++ later

pub further_behind : (octets before : ℕ) (ws : Words) (later : List Remark) → IsBehind before later →
    IsBehind before (further octets before ws later)
further_behind octets before [] later h = h
further_behind octets before (w ∷ ws) later h = omega arith

-- so far the members explain the units that have not taken effect yet
abbrev pub UnitsSoFar : List (List ℕ) → ℕ → ℕ → List Member → Words → List Member → Bool → Word → Words → Type 0
UnitsSoFar heard octets before members words now restarts item ws = Ever heard before (λ (us : List (List ℕ)) (later : List Remark).
    SomeExplains us members (further octets before (acting_words words) later) ↔ SomeExplains us now
    (further octets before (acting_behind restarts item ws) later))

abbrev pub UnitGives : List (List ℕ) → ℕ → ℕ → List Member → Word → List Member → Type 0
UnitGives heard octets before old w new =
    Ever heard before (λ (us : List (List ℕ)) (later : List Remark). SomeExplains us old (the_remark w octets before ∷ later) ↔ SomeExplains
    us new later)

pub units_begin : (heard : List (List ℕ)) (octets before : ℕ) (members now : List Member) (item first : Word) (ws units : Words) →
    now ≡ members → item ≡ first → ws ≡ units
    → UnitsSoFar heard octets before members (first ∷ units) now false item ws
unfolding acting_words
units_begin heard octets before members now item first ws units e i b = grind (arith, acting_behind)

pub units_turn : (heard : List (List ℕ)) (octets before : ℕ) (members : List Member) (words : Words) (old new : List Member)
    (restarts now : Bool) (item u v : Word) (ws units : Words)
    → UnitsSoFar heard octets before members words old restarts item ws → ws ≡ v ∷ units → u ≡ v → UnitGives heard octets before old u new →
    now ≡ (restarts || is_restart_word u)
    → UnitsSoFar heard octets before members words new now item units
units_turn heard octets before members words old new restarts now item u v ws units s e i g r = grind (arith, further_behind)

pub units_restarted : (heard : List (List ℕ)) (octets before : ℕ) (members : List Member) (words : Words) (now : List Member)
    (restarts : Bool) (item : Word) (ws : Words)
    → UnitsSoFar heard octets before members words now restarts item ws → ws ≡ [] → restarts ≡ true
    → Ever heard before
    (λ (us : List (List ℕ)) (later : List Remark). SomeExplains us members (further octets before (acting_words words) later) ↔
    SomeExplains us now later)
units_restarted heard octets before members words now restarts item ws s e r = grind (arith, acting_behind)

pub units_item : (heard : List (List ℕ)) (octets before : ℕ) (members : List Member) (words : Words) (now new : List Member)
    (restarts : Bool) (item first : Word) (ws : Words)
    → UnitsSoFar heard octets before members words now restarts item ws → ws ≡ [] → restarts ≡ false → item ≡ first →
    UnitGives heard octets before now first new
    → Ever heard before
    (λ (us : List (List ℕ)) (later : List Remark). SomeExplains us members (further octets before (acting_words words) later) ↔
    SomeExplains us new later)
units_item heard octets before members words now new restarts item first ws s e r i g = grind (arith, acting_behind)

-- ---- a TSDU that is not session units

pub unread_explains : (us : List (List ℕ)) (m : Remark) (ms : List Remark) (j : ℕ) (s : Seen) → m.word ≡ None → Explains us (m ∷ ms) j s → ⊥
unread_explains us m ms j s n (takes _ _ _ _ c b l t r e) = unread_explains us m ms (j + 1) _ n e
unread_explains us m ms j s n (answers _ _ _ _ c reply w b l t r k a e) = grind arith
unread_explains us m ms j s n (says _ _ _ _ next w k a e) = grind arith

unread_some : (us : List (List ℕ)) (members : List Member) (m : Remark) (ms : List Remark) → m.word ≡ None →
    SomeExplains us members (m ∷ ms) → ⊥
unread_some us [] m ms n h = h
unread_some us (x ∷ members) m ms n (inl h) = unread_explains us m ms x.taken x.standing n h
unread_some us (x ∷ members) m ms n (inr h) = unread_some us members m ms n h

pub unread_came : (us : List (List ℕ)) (members next : List Member) (t : Told) (came : Result Words SpduFault) (fault : SpduFault)
    (later : List Remark) → came ≡ Err fault → next ≡ []
    → SomeExplains us members (read_as t came ++ later) ↔ SomeExplains us next later
unread_came us members next t came fault later k e = grind (arith, unread_some)
