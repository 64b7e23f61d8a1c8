-- A script is read line by line.
-- For `Walk`: what is left of the octets after each line.
use Rattle.osi_transcript.proofs.Vocabulary.{◌≡◌, ◌∙◌, ℕ, ◌+◌, ◌<◌, ◌^◌, Bool, true, false, not, List, [], ◌∷◌, length, Option, option_map}
use Rattle.osi_transcript.proofs.Vocabulary.{refl, sym, ap, arith, if◌then◌else◌, option_map_or, length-slice_split, count_by-le-length}
use Rattle.osi_transcript.proofs.Vocabulary.{is_skipped, lines_left}
use Rattle.osi_script.specs.Cutting.{lines_of}
use Rattle.osi_transcript.specs.Numbered.{numbered}

-- a text has at most one line more than octets
pub few_lines : (text : List ℕ) → length text < 2 ^ 32 → 1 + length (lines_of text) < 2 ^ 40
unfolding lines_of
few_lines text h = grind (arith, length-slice_split, count_by-le-length)

pub same_left : {A : Type 0} (now : A → List ℕ) (rest : Option A) →
    option_map_or (λ r. lines_of (now r)) rest [] ≡ lines_left (option_map now rest)
same_left now rest = grind arith

by_test : (number : ℕ) (line : List ℕ) (lines : List (List ℕ)) (b : Bool) → is_skipped line ≡ b →
    numbered number (line ∷ lines) ≡ (if b then numbered (number + 1) lines else (number, line) ∷ numbered (number + 1) lines)
unfolding numbered
by_test number line lines b e = ap (λ (c : Bool). if c then numbered (number + 1) lines else (number, line) ∷ numbered (number + 1) lines) e

-- a line that asks for something is the next
pub asked_next : (all : List (ℕ × List ℕ)) (number : ℕ) (text line : List ℕ) (rest : List (List ℕ)) →
    numbered number (lines_of text) ≡ all →
    lines_of text ≡ line ∷ rest → is_skipped line ≡ false → all ≡ (number, line) ∷ numbered (number + 1) rest
asked_next all number text line rest h cut asks = sym h ∙ ap (numbered number) cut ∙ by_test number line rest false asks

-- a line that asks for nothing is skipped
pub skipped_next : (all : List (ℕ × List ℕ)) (number : ℕ) (text line : List ℕ) (rest : List (List ℕ)) →
    numbered number (lines_of text) ≡ all →
    lines_of text ≡ line ∷ rest → is_skipped line ≡ true → numbered (number + 1) rest ≡ all
skipped_next all number text line rest h cut asks = sym (by_test number line rest true asks) ∙ sym (ap (numbered number) cut) ∙ h

pub none_numbered : (number : ℕ) → numbered number [] ≡ []
unfolding numbered
none_numbered number = refl

pub flip_false : (b : Bool) → not b ≡ true → b ≡ false
flip_false b h = grind arith

pub flip_true : (b : Bool) → not b ≡ false → b ≡ true
flip_true b h = grind arith
