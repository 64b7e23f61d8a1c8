-- The sessions after a unit, after the units of a TSDU, and after a TSDU, are those of all walks: for the functions of `telling`.
use Rattle.osi_side.proofs.Vocabulary.{◌≡◌, ◌∙◌, sym, ap, ℕ, ◌+◌, ◌<◌, ◌≤◌, ◌||◌, Bool, true, false, List, [], ◌∷◌, length, drop, get_or}
use Rattle.osi_side.proofs.Vocabulary.{Result, IfOk, arith, fold-append, fold, flat_map, Word, Words, is_restart_word, acting_behind}
use Rattle.osi_side.proofs.Vocabulary.{Member, added, places_of, after_word, after_words}
use Rattle.osi_session.specs.Joining.{acting_words}
use Rattle.osi_side.proofs.walked.sessions_after_a_unit.{drop_here, drop_end}

-- ---- a unit

abbrev pub rest_of : List (List ℕ) → Word → ℕ → ℕ → List Member → List Member → List Member
rest_of us w octets before next members = fold added next (flat_map (places_of us w octets before) members)

pub walked_first : (us : List (List ℕ)) (w : Word) (octets before : ℕ) (members next : List Member) → next ≡ []
    → rest_of us w octets before next members ≡ after_word us octets before members w
walked_first us w octets before members next e = ap (λ (ms : List Member). rest_of us w octets before ms members) e

pub walked_next : (us : List (List ℕ)) (w : Word) (octets before : ℕ) (old new all members : List Member) (i : ℕ) (x : Member)
    → i < length members → x ≡ get_or members i x → new ≡ fold added old (places_of us w octets before x)
    → rest_of us w octets before old (drop i members) ≡ all → rest_of us w octets before new (drop (i + 1) members) ≡ all
walked_next us w octets before old new all members i x l e n h = grind (arith, fold-append, drop_here members i x l e)

pub walked_last : (us : List (List ℕ)) (w : Word) (octets before : ℕ) (next all members : List Member) (i : ℕ) → length members ≤ i
    → rest_of us w octets before next (drop i members) ≡ all → next ≡ all
walked_last us w octets before next all members i l h = sym (ap (rest_of us w octets before next) (drop_end members i l)) ∙ h

-- ---- units

-- what is left of them leads from the members now to those after all of them
abbrev pub LeadsOn : List (List ℕ) → ℕ → ℕ → List Member → Words → List Member → Bool → Word → Words → Type 0
LeadsOn us octets before members words now restarts item ws =
    after_words us octets before now (acting_behind restarts item ws) ≡ after_words us octets before members (acting_words words)

pub leads_first : (us : List (List ℕ)) (octets before : ℕ) (members now : List Member) (item first : Word) (ws units : Words)
    → now ≡ members
    → item ≡ first → ws ≡ units → LeadsOn us octets before members (first ∷ units) now false item ws
unfolding acting_words
leads_first us octets before members now item first ws units e i b = grind (arith, acting_behind)

pub leads_next : (us : List (List ℕ)) (octets before : ℕ) (members : List Member) (words : Words) (old new : List Member)
    (restarts now : Bool) (item u v : Word) (ws units : Words) → LeadsOn us octets before members words old restarts item ws
    → ws ≡ v ∷ units → u ≡ v → new ≡ after_word us octets before old u → now ≡ (restarts || is_restart_word u)
    → LeadsOn us octets before members words new now item units
leads_next us octets before members words old new restarts now item u v ws units h e i g r = search (arith, acting_behind restarts item ws)

pub leads_restarted : (us : List (List ℕ)) (octets before : ℕ) (members : List Member) (words : Words) (now : List Member) (restarts : Bool)
    (item : Word) (ws : Words) → LeadsOn us octets before members words now restarts item ws → ws ≡ [] → restarts ≡ true
    → now ≡ after_words us octets before members (acting_words words)
leads_restarted us octets before members words now restarts item ws h e r = grind (arith, acting_behind)

pub leads_item : (us : List (List ℕ)) (octets before : ℕ) (members : List Member) (words : Words) (now new : List Member) (restarts : Bool)
    (item first : Word) (ws : Words) → LeadsOn us octets before members words now restarts item ws → ws ≡ [] → restarts ≡ false
    → item ≡ first → new ≡ after_word us octets before now first → new ≡ after_words us octets before members (acting_words words)
leads_item us octets before members words now new restarts item first ws h e r i g = grind (arith, acting_behind)

-- ---- in memory

pub if_ok_as : {V E : Type 0} (f : V → List Member) (r : Result V E) (xs ys : List Member) → xs ≡ ys → IfOk r (λ v. f v ≡ xs)
    → IfOk r (λ v. f v ≡ ys)
if_ok_as f h xs ys e h2 = grind arith
