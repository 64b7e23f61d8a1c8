-- Which sessions a walk to a restart keeps is a function of where it begins and of what passed: for the functions of `restarts`.
use Rattle.osi_side.proofs.Vocabulary.{◌≡◌, ◌∙◌, sym, ap, ℕ, suc, ◌+◌, ◌-◌, ◌<◌, ◌≤◌, Bool, true, false, ◌&&◌, List, [], get_or, Option}
use Rattle.osi_side.proofs.Vocabulary.{Some, None, Result, Ok, OnOk, arith, fold-append, fold, Word, is_restarting, Seen, SaysAs, said}
use Rattle.osi_side.proofs.Vocabulary.{Member, Asked, Asker, added, member, sends, same_seen, quietly, is_still, remain, Way, both_of}
use Rattle.osi_side.proofs.Vocabulary.{is_between, joined, asks, waited, askers, askers_from, next_of}
use Rattle.osi_side.specs.Kept.{waits}

-- ---- in memory

pub none_is : {A : Type 0} (o r : Option A) → ((x : A) → o ≡ Some x → ⊥) → o ≡ r → r ≡ None
none_is o r n e = grind arith

pub unsaid : {E : Type 0} (r : Result Seen E) (left : Option Seen) → ((s : Seen) → r ≡ Ok s → ⊥) → SaysAs r left → left ≡ None
unsaid r left n h = grind arith

pub on_ok : {A E : Type 0} (r : Result A E) (old new xs ys : List Member) → xs ≡ ys → OnOk r (new ≡ fold added old xs)
    → OnOk r (new ≡ fold added old ys)
on_ok r old new xs ys e h = grind arith

-- ---- one that waits

pub waits_not : (w : Word) (s : Seen) (u : List ℕ) → is_restarting s.state.phase ≡ false → false ≡ waits w s u
unfolding waits
waits_not w s u e = sym (ap (λ (b : Bool). b && remain s (said s w 0) u) e)

remains_not : (w : Word) (s : Seen) (u : List ℕ) → false ≡ remain s (said s w 0) u → false ≡ waits w s u
unfolding waits
remains_not w s u e = sym (grind arith) ∙ ap (λ (b : Bool). is_restarting s.state.phase && b) e

pub waits_unsaid : (w : Word) (s : Seen) (u : List ℕ) → said s w 0 ≡ None → false ≡ waits w s u
waits_unsaid w s u e = remains_not w s u (sym (ap (λ (o : Option Seen). remain s o u) e))

pub waits_moved : (w : Word) (s a : Seen) (u : List ℕ) → said s w 0 ≡ Some a → false ≡ is_still s (quietly s u) → false ≡ waits w s u
waits_moved w s a u e h = grind (arith, remains_not)

pub waits_moved_after : (w : Word) (s a : Seen) (u : List ℕ) → said s w 0 ≡ Some a → false ≡ is_still a (quietly a u) → false ≡ waits w s u
waits_moved_after w s a u e h = search (arith, remains_not)

pub waits_so : (w : Word) (s a : Seen) (u : List ℕ) → is_restarting s.state.phase ≡ true → said s w 0 ≡ Some a
    → true ≡ is_still s (quietly s u) → true ≡ is_still a (quietly a u) → true ≡ waits w s u
unfolding waits
waits_so w s a u p e h k = grind arith

-- ---- one more sends it

abbrev pub JoinsAs : ℕ → Option Asked → Seen → Seen → List Member → List Member → Option Asked → Type 0
JoinsAs taken asked s shown old new r =
    (r ≡ (joined taken asked s shown).waiting) × (new ≡ fold added old (joined taken asked s shown).kept)

pub joined_first : (taken : ℕ) (asked : Option Asked) (s shown : Seen) (old : List Member) → ((a : Asked) → asked ≡ Some a → ⊥)
    → JoinsAs taken asked s shown old old (Some (record { first = s; last = s; shown = shown }))
joined_first taken asked s shown old n = grind arith

pub joined_apart : (taken : ℕ) (asked : Option Asked) (b : Asked) (s shown : Seen) (old new : List Member) → asked ≡ Some b
    → false ≡ same_seen b.shown shown → new ≡ fold added old (both_of taken (Some b))
    → JoinsAs taken asked s shown old new (Some (record { first = s; last = s; shown = shown }))
joined_apart taken asked b s shown old new e d h = grind arith

pub joined_between : (taken : ℕ) (asked : Option Asked) (b : Asked) (s shown : Seen) (old : List Member) → asked ≡ Some b
    → true ≡ same_seen b.shown shown → true ≡ is_between b s
    → JoinsAs taken asked s shown old old (Some (record { first = b.first; last = s; shown = b.shown }))
joined_between taken asked b s shown old e d m = grind arith

pub joined_after : (taken : ℕ) (asked : Option Asked) (b : Asked) (s shown : Seen) (old new : List Member) → asked ≡ Some b
    → true ≡ same_seen b.shown shown → false ≡ is_between b s → new ≡ added old (member taken b.last)
    → JoinsAs taken asked s shown old new (Some (record { first = b.first; last = s; shown = b.shown }))
joined_after taken asked b s shown old new e d m h = grind arith

-- ---- a session sends it here

abbrev pub AsksAs : Way → Option Asked → Member → List Member → List Member → Option Asked → Type 0
AsksAs way asked m old new r = (r ≡ (asks way asked m).waiting) × (new ≡ fold added old (asks way asked m).kept)

pub asks_not : (way : Way) (asked : Option Asked) (m : Member) (old : List Member) → sends way.restart way.octets m ≡ None
    → AsksAs way asked m old old asked
asks_not way asked m old e = grind arith

pub asks_alone : (way : Way) (asked : Option Asked) (m one : Member) (old new : List Member) → Some one ≡ sends way.restart way.octets m
    → sends way.shown way.octets m ≡ None → new ≡ added old one → AsksAs way asked m old new asked
asks_alone way asked m one old new e n h = grind arith

pub asks_joined : (way : Way) (asked : Option Asked) (m one shown : Member) (old new : List Member) (r : Option Asked)
    → Some one ≡ sends way.restart way.octets m → Some shown ≡ sends way.shown way.octets m
    → JoinsAs m.taken asked one.standing shown.standing old new r → AsksAs way asked m old new r
asks_joined way asked m one shown old new r e n h = grind arith

-- ---- those that wait take a TSDU

abbrev pub WaitsAs : Word → ℕ → Option Asked → List ℕ → List Member → List Member → Option Asked → Type 0
WaitsAs abort taken asked u old new r = (r ≡ (waited abort taken asked u).waiting) × (new ≡ fold added old
    (waited abort taken asked u).kept)

pub waited_none : (abort : Word) (taken : ℕ) (asked : Option Asked) (u : List ℕ) (old : List Member) → ((a : Asked) → asked ≡ Some a → ⊥)
    → WaitsAs abort taken asked u old old None
waited_none abort taken asked u old n = grind arith

pub waited_first : (abort : Word) (taken : ℕ) (asked : Option Asked) (a : Asked) (u : List ℕ) (old new : List Member) → asked ≡ Some a
    → false ≡ waits abort a.first u → new ≡ fold added old (both_of taken (Some a)) → WaitsAs abort taken asked u old new None
waited_first abort taken asked a u old new e d h = grind arith

pub waited_last : (abort : Word) (taken : ℕ) (asked : Option Asked) (a : Asked) (u : List ℕ) (old new : List Member) → asked ≡ Some a
    → false ≡ waits abort a.last u → new ≡ fold added old (both_of taken (Some a)) → WaitsAs abort taken asked u old new None
waited_last abort taken asked a u old new e d h = grind arith

pub waited_both : (abort : Word) (taken : ℕ) (asked : Option Asked) (a : Asked) (u : List ℕ) (old : List Member) → asked ≡ Some a
    → true ≡ waits abort a.first u → true ≡ waits abort a.last u → WaitsAs abort taken asked u old old (Some a)
waited_both abort taken asked a u old e d k = grind arith

-- ---- one step

pub step_stops : (us : List (List ℕ)) (way : Way) (n : ℕ) (from : Asker) (r : Option Asked) (old mid new : List Member)
    → AsksAs way from.asked from.at old mid r → next_of us from.at ≡ None → new ≡ fold added mid (both_of from.at.taken r)
    → fold added new (askers_from us way n None) ≡ fold added old (askers_from us way (suc n) (Some from))
step_stops us way n from r old mid new h e k = grind arith

pub step_on : (us : List (List ℕ)) (way : Way) (n : ℕ) (from : Asker) (on : Member) (u : List ℕ) (r s : Option Asked)
    (old mid new : List Member) → AsksAs way from.asked from.at old mid r → next_of us from.at ≡ Some on → u ≡ get_or us from.at.taken []
    → WaitsAs way.abort from.at.taken r u mid new s
    → fold added new (askers_from us way n (Some (record { at = on; asked = s }))) ≡ fold added old (askers_from us way (suc n) (Some from))
step_on us way n from on u r s old mid new h e t k = grind (arith, fold-append)

-- ---- a walk

abbrev pub StepsAs : List (List ℕ) → Way → List Member → List Member → Asker → Option Asker → Type 0
StepsAs us way old new from to =
    (n : ℕ) → fold added new (askers_from us way n to) ≡ fold added old (askers_from us way (suc n) (Some from))

abbrev pub rest_of : List (List ℕ) → Way → ℕ → List Member → Asker → List Member
rest_of us way before members at = fold added members (askers us way (before - at.at.taken) at.asked (Some at.at))

pub walk_on : (us : List (List ℕ)) (way : Way) (before : ℕ) (old new all : List Member) (from to : Asker) → from.at.taken < before
    → to.at.taken ≡ from.at.taken + 1 → StepsAs us way old new from (Some to) → rest_of us way before old from ≡ all
    → rest_of us way before new to ≡ all
walk_on us way before old new all from to l p s h =
    let n : before - from.at.taken ≡ suc (before - to.at.taken) = omega (arith, l, p) in
    s (before - to.at.taken) ∙ sym (ap (λ (k : ℕ). fold added old (askers us way k from.asked (Some from.at))) n) ∙ h

pub walk_stops : (us : List (List ℕ)) (way : Way) (before : ℕ) (old new all : List Member) (from : Asker) → from.at.taken < before
    → StepsAs us way old new from None → rest_of us way before old from ≡ all → new ≡ all
walk_stops us way before old new all from l s h = grind arith

pub walk_ends : (us : List (List ℕ)) (way : Way) (before : ℕ) (old mid new all : List Member) (from : Asker) (r : Option Asked)
    → before ≤ from.at.taken → AsksAs way from.asked from.at old mid r → new ≡ fold added mid (both_of from.at.taken r)
    → rest_of us way before old from ≡ all → new ≡ all
walk_ends us way before old mid new all from r l s k h = grind (arith, fold-append)
