-- The octets of brief messages, and what they mean.
-- For the messages that are written and read directly.
use Rattle.osi_message.proofs.Vocabulary.{number_of, is_group, codes_of, si_of, written_code, body_octets, unit_octets, tsdu_octets}
use Rattle.osi_message.proofs.Vocabulary.{Meaning, GT, PT, FN, DN, NF, AB, AA, Tokens, token_octet, said_by_units, said_at, IsSendable}
use Rattle.osi_message.proofs.Vocabulary.{tsdu_at, words_of, unit_of, is_second, spelled, written, user_data_of, ◌≡◌, ◌∙◌, refl, sym, ap, ℕ}
use Rattle.osi_message.proofs.Vocabulary.{◌==◌, Bool, true, false, not, List, [], ◌∷◌, length, Ok, arith, is_brief}
use Rattle.osi_message.proofs.units_of_the_fast_path.{said_whole}

-- ---- the written form

pub give_written : (tokens : Tokens) → written (GT tokens) ≡ 1 ∷ 3 ∷ 16 ∷ 1 ∷ token_octet tokens ∷ []
unfolding spelled is_second unit_of tsdu_octets unit_octets body_octets written_code is_group codes_of si_of number_of
give_written tokens = refl

pub please_written : (tokens : Tokens) → written (PT tokens []) ≡ 2 ∷ 3 ∷ 16 ∷ 1 ∷ token_octet tokens ∷ []
unfolding spelled is_second unit_of tsdu_octets unit_octets body_octets written_code is_group codes_of si_of number_of
please_written tokens = refl

pub abort_written : (bits : ℕ) → written (AB bits []) ≡ 25 ∷ 3 ∷ 17 ∷ 1 ∷ bits ∷ []
unfolding spelled is_second unit_of tsdu_octets unit_octets body_octets written_code is_group codes_of si_of number_of
abort_written bits = refl

pub finish_written : written (FN []) ≡ 9 ∷ 0 ∷ []
unfolding spelled is_second unit_of tsdu_octets unit_octets body_octets written_code is_group codes_of si_of number_of
finish_written = refl

pub disconnect_written : written (DN []) ≡ 10 ∷ 0 ∷ []
unfolding spelled is_second unit_of tsdu_octets unit_octets body_octets written_code is_group codes_of si_of number_of
disconnect_written = refl

pub not_finished_written : written (NF []) ≡ 8 ∷ 0 ∷ []
unfolding spelled is_second unit_of tsdu_octets unit_octets body_octets written_code is_group codes_of si_of number_of
not_finished_written = refl

pub abort_accept_written : written AA ≡ 26 ∷ 0 ∷ []
unfolding spelled is_second unit_of tsdu_octets unit_octets body_octets written_code is_group codes_of si_of number_of
abort_accept_written = refl

-- ---- no user data, by a test

pub none_there : (octets : List ℕ) (b : Bool) → b ≡ (length octets == 0) → b ≡ true → octets ≡ []
none_there [] b e t = refl
none_there (o ∷ octets) b e t = absurd (grind (arith, e, t))

pub none_left : (octets : List ℕ) (b : Bool) → b ≡ (length octets == 0) → not b ≡ false → octets ≡ []
none_left octets b e t = grind (arith, none_there)

-- ---- the meaning

brief_sendable : (m : Meaning) → is_brief m ≡ true → IsSendable m
unfolding user_data_of
brief_sendable m h = grind arith

-- the octets of a brief message mean it
pub brief_said : ((m : Meaning) → IsSendable m → tsdu_at (written m) ≡ Ok (spelled m)) →
    ((m : Meaning) → IsSendable m → said_by_units (spelled m) ≡ words_of m)
    → (m : Meaning) (tsdu : List ℕ) → is_brief m ≡ true → written m ≡ tsdu → said_at tsdu ≡ Ok (words_of m)
brief_said read said m tsdu h e = ap said_at (sym e) ∙ said_whole read said m (brief_sendable m h)
