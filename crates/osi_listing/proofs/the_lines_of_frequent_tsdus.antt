-- The lines of data, of a minor point and of its confirmation, after a GT that names no token: for the functions of `plain`.
use Rattle.osi_listing.proofs.Vocabulary.{◌≡◌, ◌∙◌, ℕ, ◌≤◌, true, List, [], ◌∷◌, ◌++◌, length, drop, codes, Ok, refl, sym, ap, subst}
use Rattle.osi_listing.proofs.Vocabulary.{arith, append_assoc, append-nil, decimal, encode_lower, Contents, Counts, capped}
use Rattle.osi_listing.proofs.Vocabulary.{session_entries, SessionUnit, Says, ◌+◌}
use Rattle.osi_spdu.specs.declared.kinds.Kind.TheVariants.{GiveTokens}
use Rattle.osi_spdu.specs.Codes.{number_of, is_group}
use Rattle.osi_spdu.specs.Kinds.{codes_of}
use Rattle.osi_spdu.specs.Known.{nothing}
use Rattle.osi_spdu.specs.Reading.{tsdu_at}
use Rattle.osi_spdu.specs.Values.{digits_of}
use Rattle.osi_spdu.specs.Writing.{written_code}
use Rattle.osi_message.specs.Meanings.{Meaning, DT, MIP, MIA}
use Rattle.osi_message.specs.Plain.{data_octets, point_octets}
use Rattle.osi_message.specs.Sendable.{IsSendable}
use Rattle.osi_message.specs.Written.{is_second, spelled, unit_of, unit_with, user_data_of, written}
use Rattle.osi_message.proofs.units_of_the_fast_path.{ack_written, data_written, point_written}
use Rattle.osi_listing.specs.Counting.{one_more}
use Rattle.osi_listing.specs.Listing.{line_of}
use Rattle.osi_listing.specs.SessionLines.{kind_name, session_fields, session_line}
use Rattle.osi_listing.proofs.fields_one_after_the_other.{two_digits}
use Rattle.osi_listing.proofs.units_one_after_the_other.{says_next, says_one}

-- what is sent is read as its units
abbrev pub IsRead : Type 0
IsRead = (m : Meaning) → IsSendable m → tsdu_at (written m) ≡ Ok (spelled m)

-- one more session unit is counted
abbrev pub IsOneUnit : Counts → Counts → Type 0
IsOneUnit was now = now ≡ record was { session_units = capped (was.session_units + 1) }

-- ---- the lines

line_of_tokens : session_line (unit_with GiveTokens nothing) ≡ codes "    GT\n"
unfolding session_line session_fields kind_name codes_of number_of is_group
line_of_tokens = refl

forty_two : decimal 42 ≡ codes "42"
forty_two = two_digits 42 (omega arith) (omega arith)

line_of_data : (octets : List ℕ) → session_line (unit_of (DT octets)) ≡ codes "    DT octets " ++ (decimal (length octets) ++ codes "\n")
unfolding session_line session_fields kind_name codes_of number_of is_group unit_of
line_of_data octets = grind (arith, append_assoc, append-nil)

line_of_point : (n : ℕ) → session_line (unit_of (MIP true n [])) ≡ codes "    MIP 42=" ++ (encode_lower (digits_of n) ++ codes "\n")
unfolding session_line session_fields kind_name codes_of number_of is_group written_code unit_of
line_of_point n = grind (arith, append_assoc, append-nil, forty_two)

line_of_ack : (n : ℕ) → session_line (unit_of (MIA n [])) ≡ codes "    MIA 42=" ++ (encode_lower (digits_of n) ++ codes "\n")
unfolding session_line session_fields kind_name codes_of number_of is_group written_code unit_of
line_of_ack n = grind (arith, append_assoc, append-nil, forty_two)

-- ---- what can be sent

data_sendable : (octets : List ℕ) → IsSendable (DT octets)
unfolding user_data_of
data_sendable octets = grind arith

point_sendable : (n : ℕ) → n ≤ 999999 → IsSendable (MIP true n [])
unfolding user_data_of
point_sendable n small = grind arith

ack_sendable : (n : ℕ) → n ≤ 999999 → IsSendable (MIA n [])
unfolding user_data_of
ack_sendable n small = grind arith

-- ---- both units

-- two lines that are written in one piece
both_say : (old new : List ℕ) (was then now : Counts) (u v : Contents) (a b : List ℕ) → session_line u ≡ a → session_line v ≡ b →
    new ≡ old ++ (a ++ b) → then ≡ one_more was (SessionUnit u) → now ≡ one_more then (SessionUnit v) →
    Says old new was now (SessionUnit u ∷ SessionUnit v ∷ [])
unfolding line_of
both_say old new was then now u v a b first second text one two =
    says_next old (old ++ session_line u) new was then now (SessionUnit u) (SessionUnit v ∷ []) refl one
    (says_one (old ++ session_line u) new then now (SessionUnit v) (grind (arith, append_assoc, first, second, text)) two)

read_says : (old new tsdu : List ℕ) (was then now : Counts) (m : Meaning) (b : List ℕ) → IsRead → IsSendable m → tsdu ≡ written m →
    spelled m ≡ unit_with GiveTokens nothing ∷ unit_of m ∷ [] → session_line (unit_of m) ≡ b → new ≡ old ++ (codes "    GT\n" ++ b) →
    then ≡ one_more was (SessionUnit (unit_with GiveTokens nothing)) → now ≡ one_more then (SessionUnit (unit_of m)) →
    Says old new was now (session_entries (tsdu_at tsdu))
read_says old new tsdu was then now m b reads can is units line text one two =
    subst (λ r. Says old new was now (session_entries r)) (sym (ap tsdu_at is ∙ reads m can ∙ ap Ok units))
    (both_say old new was then now (unit_with GiveTokens nothing) (unit_of m) (codes "    GT\n") b line_of_tokens line text one two)

pub data_says : (old new tsdu octets : List ℕ) (was then now : Counts) → IsRead → tsdu ≡ data_octets octets →
    new ≡ old ++ ((codes "    GT\n    DT octets " ++ decimal (length octets)) ++ codes "\n") →
    IsOneUnit was then → IsOneUnit then now → Says old new was now (session_entries (tsdu_at tsdu))
unfolding spelled is_second one_more
data_says old new tsdu octets was then now reads is text one two =
    read_says old new tsdu was then now (DT octets) (codes "    DT octets " ++ (decimal (length octets) ++ codes "\n")) reads
    (data_sendable octets) (is ∙ sym (data_written octets)) refl (line_of_data octets) (grind (arith, append_assoc, text)) one two

-- the digits of a point
digits_at : (si : ℕ) (tsdu digits : List ℕ) → tsdu ≡ point_octets si digits → drop 6 tsdu ≡ digits
digits_at si tsdu digits e = ap (λ t. drop 6 t) e

pub point_long : (tsdu : List ℕ) (n : ℕ) → tsdu ≡ written (MIP true n []) → 6 ≤ length tsdu
point_long tsdu n e = grind (arith, point_written n)

pub ack_long : (tsdu : List ℕ) (n : ℕ) → tsdu ≡ written (MIA n []) → 6 ≤ length tsdu
ack_long tsdu n e = grind (arith, ack_written n)

pub point_says : (old new tsdu : List ℕ) (was then now : Counts) (n : ℕ) → IsRead → n ≤ 999999 →
    tsdu ≡ written (MIP true n []) → new ≡ old ++ (codes "    GT\n    MIP 42=" ++ (encode_lower (drop 6 tsdu) ++ codes "\n")) →
    IsOneUnit was then → IsOneUnit then now → Says old new was now (session_entries (tsdu_at tsdu))
unfolding spelled is_second one_more
point_says old new tsdu was then now n reads small is text one two =
    read_says old new tsdu was then now (MIP true n []) (codes "    MIP 42=" ++ (encode_lower (digits_of n) ++ codes "\n")) reads
    (point_sendable n small) is refl (line_of_point n)
    (subst (λ d. new ≡ old ++ (codes "    GT\n    MIP 42=" ++ (encode_lower d ++ codes "\n")))
    (digits_at 49 tsdu (digits_of n) (is ∙ point_written n)) text) one two

pub ack_says : (old new tsdu : List ℕ) (was then now : Counts) (n : ℕ) → IsRead → n ≤ 999999 →
    tsdu ≡ written (MIA n []) → new ≡ old ++ (codes "    GT\n    MIA 42=" ++ (encode_lower (drop 6 tsdu) ++ codes "\n")) →
    IsOneUnit was then → IsOneUnit then now → Says old new was now (session_entries (tsdu_at tsdu))
unfolding spelled is_second one_more
ack_says old new tsdu was then now n reads small is text one two =
    read_says old new tsdu was then now (MIA n []) (codes "    MIA 42=" ++ (encode_lower (digits_of n) ++ codes "\n")) reads
    (ack_sendable n small) is refl (line_of_ack n)
    (subst (λ d. new ≡ old ++ (codes "    GT\n    MIA 42=" ++ (encode_lower d ++ codes "\n")))
    (digits_at 50 tsdu (digits_of n) (is ∙ ack_written n)) text) one two
