-- Which sessions explain a side, and which of them came nearest to what it sent: the same where outlines were heard as where the
-- TSDUs themselves were. For a side, which keeps outlines, and tells the rule by which it broke the protocol.
use Rattle.osi_side.proofs.Vocabulary.{◌≡◌, ◌∙◌, refl, ap, ℕ, ◌+◌, ◌-◌, List, [], ◌∷◌, replicate, length, take, Some, option_map, Result}
use Rattle.osi_side.proofs.Vocabulary.{Ok, Err, arith, fold, flat_map, SpduFault, Units, tsdu_at, Seen, Member, Break, BreaksIn, here}
use Rattle.osi_side.proofs.Vocabulary.{last, later, BreaksAs, BreaksWith, in_effect, Told, Finding, Kept, Broke, TooMany, HasRoom, kept}
use Rattle.osi_side.proofs.Vocabulary.{Unsaid, a_unit, unread, becomes, reached, far, tried, break_of, Stands, StandsBehind, outlines}
use Rattle.osi_side.specs.declared.findings.Finding.TheVariants.{Left}
use Rattle.osi_side.specs.Nearest.{count_at, nearest}
use Rattle.osi_side.proofs.outlined.alike_tsdus_explain_the_same.{Alike, outlines_alike, length_outlines, stands_of_tsdus}
use Rattle.osi_side.proofs.outlined.alike_tsdus_explain_the_same.{kept_of_tsdus as protocol_of_tsdus}
use Rattle.osi_side.proofs.kept.what_is_kept_is_of_what_had_passed.{ActAlike, becomes_alike, word_alike, kept_alike}

-- ---- the sessions that one becomes

pub all_alike : (us vs : List (List ℕ)) → Alike us vs → (n : ℕ) → ActAlike us vs n
unfolding count_at
all_alike us vs h n = λ i l s. h i (record { state = s.state; joined = option_map (λ n. replicate n 0) s.joined })

becomes_as : (us vs : List (List ℕ)) → Alike us vs → (n : ℕ) (m : Member) → becomes us n (Some m) ≡ becomes vs n (Some m)
becomes_as us vs h n m = becomes_alike us vs (m.taken + n) (all_alike us vs h (m.taken + n)) n (Some m) (λ p. omega arith)

reached_as : (us vs : List (List ℕ)) → Alike us vs → (before : ℕ) (members : List Member)
    → flat_map (reached us before) members ≡ flat_map (reached vs before) members
reached_as us vs h before [] = refl
reached_as us vs h before (m ∷ members) = grind (arith, becomes_as, reached_as us vs h before members)

-- ---- the session that came nearest

nearest_as : (us vs : List (List ℕ)) → Alike us vs → (u : Unsaid) (before : ℕ) (members : List Member)
    → nearest u us before members ≡ nearest u vs before members
unfolding nearest
nearest_as us vs h u before members = ap (λ (ms : List Member). fold (tried u) (far members) ms) (reached_as us vs h before members)

pub stands_of_outlines : (us : List (List ℕ)) (m : Member) (s : Stands) → StandsBehind (outlines us) m s → StandsBehind us m s
stands_of_outlines us m s h =
    let b = becomes_as (outlines us) us (outlines_alike us) (length (outlines us) - m.taken) m in
    stands_of_tsdus us m s h (grind (arith, length_outlines))

-- ---- what the sessions explain

-- the sessions that are kept
pub kept_of_tsdus : (heard : List (List ℕ)) (begin : Seen) (told : List Told) → kept begin (outlines heard) told ≡ kept begin heard told
kept_of_tsdus heard begin told = kept_alike (outlines heard) heard begin told (all_alike (outlines heard) heard (outlines_alike heard))

pub room_of_tsdus : (heard : List (List ℕ)) (begin : Seen) (told : List Told) (f : Finding) → HasRoom begin (outlines heard) told f
    → HasRoom begin heard told f
room_of_tsdus heard begin told Kept h = grind (arith, kept_of_tsdus)
room_of_tsdus heard begin told (Broke i) h = grind (arith, kept_of_tsdus)
room_of_tsdus heard begin told (Left i) h = grind (arith, kept_of_tsdus)
room_of_tsdus heard begin told TooMany (i, l, k, c) =
    grind (arith, protocol_of_tsdus begin heard (take (i + 1) told) k, kept_of_tsdus, kept_of_tsdus heard begin (take (i + 1) told))

-- ---- the rule

by_as : (heard : List (List ℕ)) (u : Unsaid) (before : ℕ) (members : List Member) (by : Break)
    → by ≡ break_of u (outlines heard) before members → by ≡ break_of u heard before members
by_as heard u before members by e = e ∙ (grind (arith, nearest_as (outlines heard) heard (outlines_alike heard) u before members))

breaks_in : (heard : List (List ℕ)) (octets before : ℕ) (members : List Member) (units : Units) (at : List Member) (by : Break)
    → BreaksIn (outlines heard) octets before members units at by → BreaksIn heard octets before members units at by
breaks_in heard octets before ms us at b (here members unit units by l e) =
    here members unit units by (grind (arith, word_alike, all_alike, outlines_alike)) (by_as heard (a_unit unit octets) before members by e)
breaks_in heard octets before ms us at b (last members unit by e) =
    last members unit by (by_as heard (a_unit unit octets) before members by e)
breaks_in heard octets before ms us a b (later members next unit units at by l n h) =
    later members next unit units at by (grind (arith, word_alike, all_alike, outlines_alike)) n
    (breaks_in heard octets before next units at by h)

breaks_as : (heard : List (List ℕ)) (octets before : ℕ) (members : List Member) (read : Result Units SpduFault) (at : List Member)
    (by : Break)
    → BreaksAs (outlines heard) octets before members read at by → BreaksAs heard octets before members read at by
breaks_as heard octets before members (Ok units) at by h = breaks_in heard octets before members (in_effect units) at by h
breaks_as heard octets before members (Err fault) at by (s, e) = (s, by_as heard (unread fault) before members by e)

pub rule_of_tsdus : (heard : List (List ℕ)) (tsdu : List ℕ) (before : ℕ) (members at : List Member) (by : Break)
    → BreaksWith (outlines heard) tsdu before members at by → BreaksWith heard tsdu before members at by
rule_of_tsdus heard tsdu before members at by h = breaks_as heard (length tsdu) before members (tsdu_at tsdu) at by h
