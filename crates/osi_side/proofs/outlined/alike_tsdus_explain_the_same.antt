-- What is explained, found and taken where outlines were heard is so where the TSDUs themselves were.
-- For a side, which keeps outlines, and says what holds of the TSDUs.
use Rattle.osi_side.proofs.Vocabulary.{◌≡◌, ◌∙◌, refl, sym, ap, subst, ℕ, zero, suc, ◌+◌, Bool, true, false, List, [], ◌∷◌, length, take}
use Rattle.osi_side.proofs.Vocabulary.{get_or, Option, None, Result, Ok, IfSome, if◌then◌else◌, arith, SpduFault, Meaning, Word, Words}
use Rattle.osi_side.proofs.Vocabulary.{says, is_second, written, Reply, has_no_effect, Seen, Count, Takes, Finding, Kept, Broke, TooMany}
use Rattle.osi_side.proofs.Vocabulary.{Member, Stands, Explains, Remark, Told, done, takes, answers, IsAstray, IsFound, IsKept, Comes}
use Rattle.osi_side.proofs.Vocabulary.{StandsBehind, StopsBy, standing_of, stays, goes_to, AreAlike, bare, outline_as, outline_behind}
use Rattle.osi_side.proofs.Vocabulary.{outlines, in_first, offered_in, selects_outside}
use Rattle.osi_spdu.specs.Reading.{tsdu_at, unit_at}
use Rattle.osi_message.specs.Reading.{said_at}
use Rattle.osi_side.specs.declared.findings.Finding.TheVariants.{Left}
use Rattle.osi_side.specs.Explaining.{says as sends}
use Rattle.osi_side.specs.Onward.{goes}
use Rattle.osi_side.specs.Outlines.{outline}
use Rattle.osi_side.proofs.outlined.an_outline_is_taken_alike.{Bared, bared, numbered_at, part_again, read_again, taken_alike}

-- ---- what is explained

takes_as : (s : Seen) (a b : List ℕ) (c : Count) → AreAlike a b → Takes s a c → Takes s b c
takes_as s a b c h k = λ joined e. sym (h (record { state = s.state; joined = joined })) ∙ k joined e

-- each of these has the effect of the other in its place
abbrev pub Alike : List (List ℕ) → List (List ℕ) → Type 0
Alike us vs = (i : ℕ) → AreAlike (get_or us i []) (get_or vs i [])

pub back : (us vs : List (List ℕ)) → Alike us vs → Alike vs us
back us vs h = λ i t. sym (h i t)

pub explains_as : (us vs : List (List ℕ)) → Alike us vs → (ms : List Remark) (taken : ℕ) (s : Seen) → Explains us ms taken s
    → Explains vs ms taken s
explains_as us vs h ms n z (done taken s) = done taken s
explains_as us vs h ns n z (takes m ms taken s c l k t q e) =
    takes m ms taken s c l k (takes_as s (get_or us taken []) (get_or vs taken []) c (h taken) t) q (explains_as us vs h _ _ _ e)
explains_as us vs h ns n z (answers m ms taken s c reply w l k t q o a e) =
    answers m ms taken s c reply w l k (takes_as s (get_or us taken []) (get_or vs taken []) c (h taken) t) q o a
    (explains_as us vs h _ _ _ e)
explains_as us vs h ns n z (sends m ms taken s next w o c e) = sends m ms taken s next w o c (explains_as us vs h _ _ _ e)

-- ---- outlines

outline_none : outline [] ≡ []
unfolding outline said_at tsdu_at unit_at
outline_none = refl

pub outlines_at : (us : List (List ℕ)) (i : ℕ) → get_or (outlines us) i [] ≡ outline (get_or us i [])
outlines_at [] i = sym outline_none
outlines_at (u ∷ us) zero = refl
outlines_at (u ∷ us) (suc i) = outlines_at us i

pub length_outlines : (us : List (List ℕ)) → length (outlines us) ≡ length us
length_outlines [] = refl
length_outlines (u ∷ us) = ap (λ (n : ℕ). suc n) (length_outlines us)

pub outlines_alike : (us : List (List ℕ)) → Alike (outlines us) us
outlines_alike us = λ i. subst (λ (x : List ℕ). AreAlike x (get_or us i [])) (sym (outlines_at us i)) (taken_alike (get_or us i []))

-- ---- what is offered

bare_offer : (m : Meaning) → IfSome (bare m) (λ n. offered_in n ≡ offered_in m)
bare_offer m = grind arith

idle_offer : (m : Meaning) → has_no_effect m ≡ true → None ≡ offered_in m
idle_offer m e = grind arith

abbrev Offer : List ℕ → Option ℕ
Offer tsdu = in_first offered_in (said_at tsdu)

either_offer : (b : Bool) (short tsdu : List ℕ) (o : Option ℕ) → Offer short ≡ o → Offer tsdu ≡ o → Offer (if b then short else tsdu) ≡ o
either_offer b short tsdu o h k = grind arith

alone_offer : (m : Meaning) (o : Option Meaning) → Bared m o → IfSome o (λ n. offered_in n ≡ offered_in m) → is_second m ≡ false
    → IfSome o (λ n. Offer (written n) ≡ offered_in m)
alone_offer m o b h e = grind (arith, read_again)

pair_offer : (item m : Meaning) (o : Option Meaning) → Bared m o → has_no_effect item ≡ true → is_second m ≡ true
    → IfSome o (λ n. Offer (written n) ≡ offered_in item)
pair_offer item m o b i e = grind (arith, read_again, idle_offer)

one_offer : (b : Bool) (tsdu : List ℕ) (m : Meaning) → is_second m ≡ b → said_at tsdu ≡ Ok (says m ∷ [])
    → Offer (if b then tsdu else outline_as tsdu (bare m)) ≡ offered_in m
one_offer true tsdu m e h = ap (λ (r : Result Words SpduFault). in_first offered_in r) h
one_offer false tsdu m e h =
    grind (arith, either_offer, alone_offer m (bare m) (bared m (numbered_at tsdu (says m ∷ []) h).0) (bare_offer m) e)

second_offer : (b : Bool) (tsdu : List ℕ) (item m : Meaning) → has_no_effect item ≡ true → is_second m ≡ b
    → said_at tsdu ≡ Ok (says item ∷ says m ∷ [])
    → Offer (if b then outline_as tsdu (bare m) else tsdu) ≡ offered_in item
second_offer false tsdu item m i e h = ap (λ (r : Result Words SpduFault). in_first offered_in r) h
second_offer true tsdu item m i e h =
    grind (arith, either_offer, pair_offer item m (bare m) (bared m (numbered_at tsdu (says item ∷ says m ∷ []) h).1.0) i e)

two_offer : (b : Bool) (tsdu : List ℕ) (item : Meaning) (w : Word) → has_no_effect item ≡ b → said_at tsdu ≡ Ok (says item ∷ w ∷ [])
    → Offer (if b then outline_behind tsdu w else tsdu) ≡ offered_in item
two_offer b tsdu item w i h = grind (arith, second_offer, either_offer, part_again, idle_offer)

same_offer : (tsdu : List ℕ) → Offer (outline tsdu) ≡ Offer tsdu
unfolding outline
same_offer tsdu = grind (arith, one_offer, two_offer)

pub same_selection : (us : List (List ℕ)) (told : List Told) → selects_outside (outlines us) told ≡ selects_outside us told
same_selection us h = grind (arith, outlines_at, same_offer)

-- ---- what is found

pub kept_of_tsdus : (begin : Seen) (us : List (List ℕ)) (told : List Told) → IsKept begin (outlines us) told → IsKept begin us told
kept_of_tsdus begin us told h = (explains_as (outlines us) us (outlines_alike us) _ _ _ h.0, sym (same_selection us told) ∙ h.1)

astray : (begin : Seen) (us : List (List ℕ)) (told : List Told) → IsAstray begin (outlines us) told → IsAstray begin us told
astray begin us told h = grind (arith, explains_as, back, outlines_alike, same_selection)

pub found_of_tsdus : (begin : Seen) (us : List (List ℕ)) (told : List Told) (f : Finding) → IsFound begin (outlines us) told f
    → IsFound begin us told f
found_of_tsdus begin us told Kept h = kept_of_tsdus begin us told h
found_of_tsdus begin us told (Broke i) h = grind (arith, explains_as, outlines_alike, same_selection)
found_of_tsdus begin us told (Left i) h = (h.0, kept_of_tsdus begin us (take i told) h.1, astray begin us (take (i + 1) told) h.2)
found_of_tsdus begin us told TooMany (i, l, h) = (i, l, kept_of_tsdus begin us (take (i + 1) told) h)

-- ---- how a session stands

comes_as : (us vs : List (List ℕ)) → Alike us vs → (m n : Member) → Comes us m n → Comes vs m n
comes_as us vs h m n (stays x) = stays x
comes_as us vs h m n (goes x y t q k) =
    goes x y t (grind (arith, takes_as))
    (comes_as us vs h y t k)

stops_as : (s : Seen) (a b : List ℕ) (owes : Option Reply) → AreAlike a b → StopsBy s a owes → StopsBy s b owes
stops_as s a b owes h k = grind (arith, takes_as)

pub stands_of_tsdus : (us : List (List ℕ)) (m : Member) (s : Stands) → StandsBehind (outlines us) m s → standing_of s ≡ goes_to us m
    → StandsBehind us m s
stands_of_tsdus us m s h g = grind (arith, comes_as, outlines_alike, length_outlines, stops_as)
