-- A session that sends the words of TSDUs, one after the other, explains these TSDUs.
-- For the law that an honest session is explained.
use Rattle.std.proofs.Common.{arith}
use Rattle.osi_side.proofs.Vocabulary.{◌≡◌, refl, sym, subst, ℕ, true, false, List, [], ◌∷◌, ◌++◌, length, map, Ok, Meaning, GT, said_at}
use Rattle.osi_side.proofs.Vocabulary.{words_of, no_token, Word, Words, says, is_second, Seen, CanSay, is_in_size, Told, Remark, Explains}
use Rattle.osi_side.proofs.Vocabulary.{remark, remarks, Pass}
use Rattle.osi_message.specs.Tokens.{is_empty}
use Rattle.osi_session.specs.Joining.{acting_words}
use Rattle.osi_session.specs.Standing.{said}
use Rattle.osi_side.specs.Explaining as explained

-- ---- the words of a TSDU of this many octets

abbrev pub SaysAll : Seen → Words → ℕ → Seen → Type 0
SaysAll s [] n t = s ≡ t
SaysAll s (w ∷ ws) n t = (mid : Seen) × (CanSay s w n mid) × (SaysAll mid ws n t)

words_explained : (us : List (List ℕ)) (t : Told) (ws : Words) (later : List Remark) (taken : ℕ) (s n : Seen) →
    SaysAll s ws (length t.octets) n → Explains us later taken n
    → Explains us (map (remark t) ws ++ later) taken s
words_explained us t [] later taken s n e h = subst (Explains us later taken) (sym e) h
words_explained us t (w ∷ ws) later taken s n e h =
    explained.says (remark t w) (map (remark t) ws ++ later) taken s e.0 w refl e.1 (words_explained us t ws later taken e.0 n e.2 h)

tsdu_explained : (us : List (List ℕ)) (t : Told) (told : List Told) (words : Words) (taken : ℕ) (s n : Seen) → said_at t.octets ≡ Ok words →
    SaysAll s (acting_words words) (length t.octets) n
    → Explains us (remarks told) taken n → Explains us (remarks (t ∷ told)) taken s
tsdu_explained us t told words taken s n r e h = grind (arith, words_explained)

-- ---- TSDUs

abbrev pub SaysTsdus : Seen → List (List ℕ) → Seen → Type 0
SaysTsdus s [] t = s ≡ t
SaysTsdus s (o ∷ os) t = (words : Words) × (mid : Seen) × (said_at o ≡ Ok words) × (SaysAll s (acting_words words) (length o) mid) ×
    (SaysTsdus mid os t)

pub tsdus_explained : (us : List (List ℕ)) (tsdus : List (List ℕ)) (now later : List Told) (taken : ℕ) (s n : Seen) → Pass taken tsdus now →
    SaysTsdus s tsdus n
    → Explains us (remarks later) taken n → Explains us (remarks (now ++ later)) taken s
tsdus_explained us [] [] later taken s n p e h = subst (Explains us (remarks later) taken) (sym e) h
tsdus_explained us (o ∷ os) (t ∷ now) later taken s n p e h =
    grind (arith, tsdu_explained, tsdus_explained us os now later taken e.1 n p.2 e.4 h)
tsdus_explained us [] (t ∷ now) later taken s n p e h = absurd p
tsdus_explained us (o ∷ os) [] later taken s n p e h = absurd p

-- ---- a message, alone or after a GT that names no token

pub says_behind : (s t : Seen) (w : Word) (n : ℕ) → CanSay s w n t → CanSay t (says (GT no_token)) n t →
    SaysAll s (acting_words (says (GT no_token) ∷ w ∷ [])) n t
unfolding acting_words
says_behind s t w n h k = grind arith

says_alone : (s t : Seen) (w : Word) (n : ℕ) → CanSay s w n t → SaysAll s (acting_words (w ∷ [])) n t
unfolding acting_words
says_alone s t w n h = (t, h, refl)

pub says_message : (s t : Seen) (m : Meaning) (n : ℕ) → CanSay s (says m) n t → (is_second m ≡ true → CanSay t (says (GT no_token)) n t) →
    SaysAll s (acting_words (words_of m)) n t
says_message s t m n h k = grind (arith, says_behind, says_alone)

-- it changes nothing
pub says_nothing : (t : Seen) (n : ℕ) → t.closed ≡ false → is_in_size t.state n ≡ true → CanSay t (says (GT no_token)) n t
unfolding said is_empty
says_nothing t n c i = rw (c, i) refl
