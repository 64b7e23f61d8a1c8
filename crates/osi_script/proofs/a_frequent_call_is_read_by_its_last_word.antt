-- A frequent call: the text after its last word but the user data spells octets exactly if it is a single word that
-- does.
use Rattle.std.proofs.Common.{◌≡◌, ◌∙◌, ℕ, List, [], ◌∷◌, Option, Some, None, Bool, true, false, Result, Ok, Err, refl, sym, ap, subst}
use Rattle.std.proofs.Common.{arith}
use Rattle.std.specs.Prelude.{codes, option_map, if◌then◌else◌}
use Rattle.std.specs.Result.{result_ok}
use Rattle.std.specs.List.{join_with_byte, All, AllPass}
use Rattle.std.specs.Cmp.Lexicographic.{same_text}
use Rattle.std.proofs.lemmas.List.Splits.{slice_split_none, join_with_byte-slice_split}
use Rattle.std.proofs.lemmas.Bool.Decides.{nat_tests}
use Rattle.hex.specs.Hex.{decode_of, is_hex_digit}
use Rattle.hex.specs.declared.error.FromHexError.{FromHexError}
use Rattle.hex.proofs.HexLemmas.{decode_of-ok}
use Rattle.memchr.specs.Find.{is_byte}
use Rattle.osi_session.specs.Calls.{Call}
use Rattle.osi_session.specs.Calls as call
use Rattle.osi_script.specs.declared.sides.Side.{Side}
use Rattle.osi_script.specs.declared.verbs.Verb.{Verb}
use Rattle.osi_script.specs.declared.verbs.Verb.TheVariants as verb
use Rattle.osi_script.specs.declared.fronts.Frequent.{Frequent}
use Rattle.osi_script.specs.Names.{side_name, verb_name}
use Rattle.osi_script.proofs.the_beginning_of_a_line_is_read_word_by_word.{call_read}
use Rattle.osi_script.specs.declared.fronts.Frequent.TheVariants as frequent
use Rattle.osi_script.specs.Words.{◌>>=◌, only_word, first_of_two, is, words_of, data_of, answer_of, number_to}
use Rattle.osi_script.specs.Calls.{call_of, plain_of, plain_call, plain_data, minor_of, minor_confirm_of}
use Rattle.osi_script.specs.Commands.{OfUser, command_of, last_of}
use Rattle.osi_script.specs.Fronts.{data_behind, spelled, made}

no_blank_digit : (octet : ℕ) → is_hex_digit octet ≡ true → is_byte 32 octet ≡ false
no_blank_digit octet h = grind (arith, nat_tests)

no_blanks : (text : List ℕ) → AllPass is_hex_digit text → All (λ x. is_byte 32 x ≡ false) text
no_blanks text h = grind (arith, no_blank_digit)

digits_alone : (text bytes : List ℕ) (r : Result (List ℕ) FromHexError) → decode_of text ≡ r → result_ok r ≡ Some bytes
    → words_of text ≡ text ∷ []
digits_alone text bytes (Ok octets) e h = slice_split_none (is_byte 32) text (no_blanks text (decode_of-ok text octets e).1)
digits_alone text bytes (Err fault) e h = absurd (cc)

dash_or_digits : (text bytes : List ℕ) (b : Bool) → is text (codes "-") ≡ b
    → (if b then Some [] else result_ok (decode_of text)) ≡ Some bytes →
    words_of text ≡ text ∷ []
dash_or_digits text bytes true e h = subst (λ (t : List ℕ). words_of t ≡ t ∷ []) (sym (same_text text (codes "-") (sym e))) refl
dash_or_digits text bytes false e h = digits_alone text bytes (decode_of text) refl h

-- a text that spells octets has no blank
alone : (text bytes : List ℕ) → data_of text ≡ Some bytes → words_of text ≡ text ∷ []
unfolding data_of
alone text bytes h = grind (arith, dash_or_digits)

whole : (text word : List ℕ) → words_of text ≡ word ∷ [] → word ≡ text
whole text word h = sym (ap (join_with_byte 32) h) ∙ join_with_byte-slice_split 32 text

-- a reading of the words of a text that accepts only a single word is a reading of the text
one_word : (text : List ℕ) (words : List (List ℕ)) (o : Option (List ℕ)) (read : List (List ℕ) → Option Call) (call : List ℕ → Call) →
    words_of text ≡ words → data_of text ≡ o → read [] ≡ None → ((w : List ℕ) → read (w ∷ []) ≡ option_map call (data_of w)) →
    ((w x : List ℕ) (more : List (List ℕ)) → read (w ∷ x ∷ more) ≡ None) → read words ≡ option_map call o
one_word text [] None read call e d none one more = none
one_word text [] (Some bytes) read call e d none one more = let same : [] ≡ text ∷ [] = sym e ∙ alone text bytes d in absurd (cc)
one_word text (w ∷ []) o read call e d none one more =
    one w ∙ ap (λ (t : List ℕ). option_map call (data_of t)) (whole text w e) ∙ ap (option_map call) d
one_word text (w ∷ x ∷ rest) None read call e d none one more = more w x rest
one_word text (w ∷ x ∷ rest) (Some bytes) read call e d none one more =
    let same : w ∷ x ∷ rest ≡ text ∷ [] = sym e ∙ alone text bytes d in absurd (cc)

mapped : (o : Option (List ℕ)) (call : List ℕ → Call) → o >>= (λ (octets : List ℕ). Some (call octets)) ≡ option_map call o
mapped o call = grind arith

pub data_read : (text : List ℕ)
    → call_of verb.Data (words_of text) (spelled (data_behind verb.Data (words_of text))) ≡ option_map (made frequent.Data) (data_of text)
unfolding call_of plain_of plain_call plain_data only_word
data_read text =
    one_word text (words_of text) (data_of text) (λ (words : List (List ℕ)). plain_of verb.Data words (spelled (last_of words)))
    (made frequent.Data) refl refl refl (λ w. mapped (data_of w) (made frequent.Data)) (λ w x more. refl)

pub minor_read : (text answer rest : List ℕ) (confirm : Bool) → words_of text ≡ answer ∷ words_of rest → Some confirm ≡ answer_of answer →
    call_of verb.Minor (words_of text) (spelled (data_behind verb.Minor (words_of text)))
    ≡ option_map (made (frequent.Minor confirm)) (data_of rest)
unfolding call_of minor_of first_of_two
minor_read text answer rest confirm first said =
    ap (λ (words : List (List ℕ)). minor_of words (spelled (last_of words))) first
    ∙ one_word rest (words_of rest) (data_of rest)
    (λ (words : List (List ℕ)). minor_of (answer ∷ words) (spelled (last_of (answer ∷ words))))
    (made (frequent.Minor confirm)) refl refl refl
    (grind (arith, mapped))
    (λ w x more. refl)

pub minor_confirm_read : (text number rest : List ℕ) (n : ℕ) → words_of text ≡ number ∷ words_of rest
    → Some n ≡ number_to 4294967295 number →
    call_of verb.MinorConfirm (words_of text) (spelled (data_behind verb.MinorConfirm (words_of text)))
    ≡ option_map (made (frequent.MinorConfirm n)) (data_of rest)
unfolding call_of minor_confirm_of first_of_two
minor_confirm_read text number rest n first said =
    ap (λ (words : List (List ℕ)). minor_confirm_of words (spelled (last_of words))) first
    ∙ one_word rest (words_of rest) (data_of rest)
    (λ (words : List (List ℕ)). minor_confirm_of (number ∷ words) (spelled (last_of (number ∷ words))))
    (made (frequent.MinorConfirm n)) refl refl refl
    (grind (arith, mapped))
    (λ w x more. refl)

-- a line that calls by a frequent verb
pub frequent_read : (line connection : List ℕ) (all behind : List (List ℕ)) (rest text : List ℕ) (side : Side) (n : ℕ) (v : Verb)
    (call : Frequent) →
    words_of line ≡ side_name side ∷ all → all ≡ connection ∷ behind → behind ≡ verb_name v ∷ words_of rest
    → Some n ≡ number_to 65535 connection →
    call_of v (words_of rest) (spelled (data_behind v (words_of rest))) ≡ option_map (made call) (data_of text) →
    data_of text >>= (λ (octets : List ℕ). Some (OfUser side n (made call octets))) ≡ command_of line
frequent_read line connection all behind rest text side n v call first second third number read =
    grind (arith, call_read line connection all behind (words_of rest) side n v first second third number)
