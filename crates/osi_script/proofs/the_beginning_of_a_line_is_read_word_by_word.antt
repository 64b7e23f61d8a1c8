-- The part of a line before its user data, read word by word.
use Rattle.std.proofs.Common.{◌≡◌, ◌∙◌, ◌≤◌, ℕ, ◌-◌, ◌&&◌, Bool, List, [], ◌∷◌, length, get_or, drop, Option, Some, None, refl, sym, ap}
use Rattle.std.proofs.Common.{arith, true, false}
use Rattle.std.specs.Prelude.{codes, if◌then◌else◌}
use Rattle.std.specs.Cmp.Lexicographic.{same_text}
use Rattle.std.specs.List.{onto_first, list_all}
use Rattle.std.proofs.lemmas.List.Splits.{slice_split-cons_yes, slice_split-cons_no}
use Rattle.memchr.specs.Find.{is_byte}
use Rattle.osi_script.specs.declared.sides.Side.{Side}
use Rattle.osi_script.specs.declared.verbs.Verb.{Verb}
use Rattle.osi_script.specs.Names.{side_name, verb_name, all_verbs}
use Rattle.osi_script.specs.Words.{◌>>=◌, only_word, first_of_two, is, is_digit, number_behind, number_to, words_of, side_of, verb_of}
use Rattle.osi_script.specs.Words.{first_named}
use Rattle.osi_session.specs.Calls.{Call}
use Rattle.osi_script.proofs.each_verb_is_found_by_its_name.{verb_read}
use Rattle.osi_script.specs.Calls.{call_of, accept_of, plain_of, plain_data, give_of, please_of, minor_of, minor_confirm_of, restart_of}
use Rattle.osi_script.specs.Calls.{restart_confirm_of}
use Rattle.osi_script.specs.Commands.{Command, OfUser, Carry, command_in, command_of, carry_of, named_call, user_call, data_word}
use Rattle.osi_script.specs.Commands.{user_data_of, last_of, fourth_or, behind_accept}
use Rattle.osi_script.specs.Fronts.{data_behind, spelled}

no_blank_at : (octet : ℕ) (behind : List ℕ) → is_byte 32 octet ≡ false → words_of (octet ∷ behind) ≡ onto_first octet (words_of behind)
no_blank_at octet behind h = slice_split-cons_no (is_byte 32) octet behind h

blank_behind : (rest : List ℕ) → words_of (32 ∷ rest) ≡ [] ∷ words_of rest
blank_behind rest = slice_split-cons_yes (is_byte 32) 32 rest refl

carry_parted : (rest : List ℕ) → words_of (99 ∷ 97 ∷ 114 ∷ 114 ∷ 121 ∷ 32 ∷ rest) ≡ codes "carry" ∷ words_of rest
carry_parted rest = grind (arith, no_blank_at, blank_behind)

left_parted : (rest : List ℕ) → words_of (108 ∷ 101 ∷ 102 ∷ 116 ∷ 32 ∷ rest) ≡ codes "left" ∷ words_of rest
left_parted rest = grind (arith, no_blank_at, blank_behind)

right_parted : (rest : List ℕ) → words_of (114 ∷ 105 ∷ 103 ∷ 104 ∷ 116 ∷ 32 ∷ rest) ≡ codes "right" ∷ words_of rest
right_parted rest = grind (arith, no_blank_at, blank_behind)

data_parted : (rest : List ℕ) → words_of (100 ∷ 97 ∷ 116 ∷ 97 ∷ 32 ∷ rest) ≡ codes "data" ∷ words_of rest
data_parted rest = grind (arith, no_blank_at, blank_behind)

minor_parted : (rest : List ℕ) → words_of (109 ∷ 105 ∷ 110 ∷ 111 ∷ 114 ∷ 32 ∷ rest) ≡ codes "minor" ∷ words_of rest
minor_parted rest = grind (arith, no_blank_at, blank_behind)

minorconfirm_parted : (rest : List ℕ)
    → words_of (109 ∷ 105 ∷ 110 ∷ 111 ∷ 114 ∷ 99 ∷ 111 ∷ 110 ∷ 102 ∷ 105 ∷ 114 ∷ 109 ∷ 32 ∷ rest) ≡ codes "minorconfirm" ∷ words_of rest
minorconfirm_parted rest = grind (arith, no_blank_at, blank_behind)

-- a text that begins with these letters and a blank
pub carry_first : (text : List ℕ) → 6 ≤ length text → get_or text 0 0 ≡ 99 → get_or text 1 0 ≡ 97 → get_or text 2 0 ≡ 114
    → get_or text 3 0 ≡ 114 → get_or text 4 0 ≡ 121 → get_or text 5 0 ≡ 32 →
    words_of text ≡ codes "carry" ∷ words_of (drop 6 text)
carry_first text long h0 h1 h2 h3 h4 h5 = grind (arith, carry_parted)

pub left_first : (text : List ℕ) → 5 ≤ length text → get_or text 0 0 ≡ 108 → get_or text 1 0 ≡ 101 → get_or text 2 0 ≡ 102
    → get_or text 3 0 ≡ 116 → get_or text 4 0 ≡ 32 →
    words_of text ≡ codes "left" ∷ words_of (drop 5 text)
left_first text long h0 h1 h2 h3 h4 = grind (arith, left_parted)

pub right_first : (text : List ℕ) → 6 ≤ length text → get_or text 0 0 ≡ 114 → get_or text 1 0 ≡ 105 → get_or text 2 0 ≡ 103
    → get_or text 3 0 ≡ 104 → get_or text 4 0 ≡ 116 → get_or text 5 0 ≡ 32 →
    words_of text ≡ codes "right" ∷ words_of (drop 6 text)
right_first text long h0 h1 h2 h3 h4 h5 = grind (arith, right_parted)

pub data_first : (text : List ℕ) → 5 ≤ length text → get_or text 0 0 ≡ 100 → get_or text 1 0 ≡ 97 → get_or text 2 0 ≡ 116
    → get_or text 3 0 ≡ 97 → get_or text 4 0 ≡ 32 →
    words_of text ≡ codes "data" ∷ words_of (drop 5 text)
data_first text long h0 h1 h2 h3 h4 = grind (arith, data_parted)

pub minor_first : (text : List ℕ) → 6 ≤ length text → get_or text 0 0 ≡ 109 → get_or text 1 0 ≡ 105 → get_or text 2 0 ≡ 110
    → get_or text 3 0 ≡ 111 → get_or text 4 0 ≡ 114 → get_or text 5 0 ≡ 32 →
    words_of text ≡ codes "minor" ∷ words_of (drop 6 text)
minor_first text long h0 h1 h2 h3 h4 h5 = grind (arith, minor_parted)

pub minorconfirm_first : (text : List ℕ) → 13 ≤ length text → get_or text 0 0 ≡ 109 → get_or text 1 0 ≡ 105 → get_or text 2 0 ≡ 110
    → get_or text 3 0 ≡ 111 → get_or text 4 0 ≡ 114 → get_or text 5 0 ≡ 99 → get_or text 6 0 ≡ 111 → get_or text 7 0 ≡ 110
    → get_or text 8 0 ≡ 102 → get_or text 9 0 ≡ 105 → get_or text 10 0 ≡ 114 → get_or text 11 0 ≡ 109 → get_or text 12 0 ≡ 32 →
    words_of text ≡ codes "minorconfirm" ∷ words_of (drop 13 text)
minorconfirm_first text long h0 h1 h2 h3 h4 h5 h6 h7 h8 h9 h10 h11 h12 = grind (arith, minorconfirm_parted)

-- ---- digits are one word

first_holds : (a b : Bool) → (a && b) ≡ true → a ≡ true
first_holds a b h = grind arith

second_holds : (a b : Bool) → (a && b) ≡ true → b ≡ true
second_holds a b h = grind arith

digits_alone : (digits : List ℕ) → list_all is_digit digits ≡ true → words_of digits ≡ digits ∷ []
digits_alone [] h = refl
digits_alone (digit ∷ digits) h = grind (arith, digits_alone digits (second_holds (is_digit digit) (list_all is_digit digits) h))

given_holds : (b : Bool) (m n : ℕ) → Some n ≡ (if b then Some m else None) → b ≡ true
given_holds b m n h = grind arith

all_digits : (most n : ℕ) (word : List ℕ) → Some n ≡ number_behind most 0 word → list_all is_digit word ≡ true
unfolding number_behind
all_digits most n word h = first_holds _ _ (given_holds _ _ n h)

other_given : (b : Bool) (o : Option ℕ) (n : ℕ) → Some n ≡ (if b then None else o) → Some n ≡ o
other_given b o n h = grind arith

number_alone : (most n : ℕ) (word : List ℕ) → Some n ≡ number_to most word → words_of word ≡ word ∷ []
unfolding number_to
number_alone most n word h = digits_alone word (all_digits most n word (other_given _ _ n h))

-- ---- a line that carries

carried_so : (side : Side) (digits : List ℕ) (n : ℕ) (user : Option (List ℕ)) → Some n ≡ number_to 4294967295 digits →
    Some (Carry side n) ≡ command_in (codes "carry" ∷ side_name side ∷ digits ∷ []) user
unfolding command_in carry_of side_of only_word
carried_so side digits n user h = grind arith

pub carry_read : (line text digits : List ℕ) (side : Side) (n : ℕ) → words_of line ≡ codes "carry" ∷ words_of text →
    words_of text ≡ side_name side ∷ words_of digits → Some n ≡ number_to 4294967295 digits → Some (Carry side n) ≡ command_of line
unfolding command_of
carry_read line text digits side n first second third = grind (arith, number_alone, carried_so)

-- ---- a line that calls

-- the verb found by the test is the one that the word names
by_test : (word : List ℕ) (verb v : Verb) (verbs : List Verb) (b : Bool) → is word (verb_name verb) ≡ b →
    Some v ≡ (if b then Some verb else first_named word verbs) → (Some v ≡ first_named word verbs → is word (verb_name v) ≡ true) →
    is word (verb_name v) ≡ true
by_test word verb v verbs b e h rest = grind arith

names_it : (word : List ℕ) (verbs : List Verb) (v : Verb) → Some v ≡ first_named word verbs → is word (verb_name v) ≡ true
names_it word [] v h = absurd (cc)
names_it word (verb ∷ verbs) v h = by_test word verb v verbs (is word (verb_name verb)) refl h (names_it word verbs v)

pub verb_is_name : (word : List ℕ) (v : Verb) → Some v ≡ verb_of word → word ≡ verb_name v
unfolding verb_of
verb_is_name word v h = same_text word (verb_name v) (sym (names_it word all_verbs v h))

last_behind : (word next : List ℕ) (words : List (List ℕ)) → last_of (word ∷ next ∷ words) ≡ last_of (next ∷ words)
last_behind word next words = grind arith

last_of_call : (a b c next : List ℕ) (words : List (List ℕ)) → last_of (a ∷ b ∷ c ∷ next ∷ words) ≡ last_of (next ∷ words)
last_of_call a b c next words = grind (arith, last_behind)

-- no call is without words after its verb
no_words : (v : Verb) (a b : Option (List ℕ)) → call_of v [] a ≡ call_of v [] b
unfolding call_of accept_of plain_of plain_data give_of please_of minor_of minor_confirm_of restart_of restart_confirm_of only_word
    first_of_two
no_words v a b = grind arith

-- the user data word comes after the verb
word_behind : (v : Verb) (other : Option (List ℕ)) (connection next : List ℕ) (words : List (List ℕ)) → other ≡ last_of (next ∷ words) →
    fourth_or other (behind_accept (connection ∷ verb_name v ∷ next ∷ words)) ≡ data_behind v (next ∷ words)
unfolding verb_name
word_behind v other connection next words h = grind arith

no_connect : (side : Side) (words : List (List ℕ)) →
    data_word (side_name side ∷ words) ≡ fourth_or (last_of (side_name side ∷ words)) (behind_accept words)
unfolding data_word
no_connect side words = grind arith

word_of_call : (side : Side) (connection next : List ℕ) (v : Verb) (words : List (List ℕ)) →
    data_word (side_name side ∷ connection ∷ verb_name v ∷ next ∷ words) ≡ data_behind v (next ∷ words)
word_of_call side connection next v words =
    no_connect side (connection ∷ verb_name v ∷ next ∷ words)
    ∙ word_behind v (last_of (side_name side ∷ connection ∷ verb_name v ∷ next ∷ words)) connection next words
    (last_of_call (side_name side) connection (verb_name v) next words)

-- the request of a call, from what its user data spells
abbrev calling : Side → ℕ → Option Call → Option Command
calling side n call = call >>= (λ (c : Call). Some (OfUser side n c))

called_so : (side : Side) (connection : List ℕ) (v : Verb) (words : List (List ℕ)) (n : ℕ) (user : Option (List ℕ)) →
    Some n ≡ number_to 65535 connection →
    calling side n (call_of v words user) ≡ command_in (side_name side ∷ connection ∷ verb_name v ∷ words) user
unfolding command_in user_call named_call side_of
called_so side connection v words n user h = grind (arith, verb_read)

-- reading the user data word after the verb gives the same as reading that of the line
same_call : (side : Side) (connection : List ℕ) (v : Verb) (words : List (List ℕ)) →
    call_of v words (spelled (data_behind v words)) ≡ call_of v words (user_data_of (side_name side ∷ connection ∷ verb_name v ∷ words))
same_call side connection v [] = no_words v _ _
same_call side connection v (next ∷ words) =
    ap (λ (o : Option (List ℕ)). call_of v (next ∷ words) (spelled o)) (sym (word_of_call side connection next v words))

call_spelled : (side : Side) (connection : List ℕ) (v : Verb) (words : List (List ℕ)) (n : ℕ) → Some n ≡ number_to 65535 connection →
    calling side n (call_of v words (spelled (data_behind v words)))
    ≡ command_in (side_name side ∷ connection ∷ verb_name v ∷ words) (user_data_of (side_name side ∷ connection ∷ verb_name v ∷ words))
call_spelled side connection v words n h =
    ap (calling side n) (same_call side connection v words)
    ∙ called_so side connection v words n (user_data_of (side_name side ∷ connection ∷ verb_name v ∷ words)) h

pub call_read : (line connection : List ℕ) (all behind words : List (List ℕ)) (side : Side) (n : ℕ) (v : Verb) →
    words_of line ≡ side_name side ∷ all → all ≡ connection ∷ behind → behind ≡ verb_name v ∷ words →
    Some n ≡ number_to 65535 connection → calling side n (call_of v words (spelled (data_behind v words))) ≡ command_of line
unfolding command_of
call_read line connection all behind words side n v first second third number =
    let read : words_of line ≡ side_name side ∷ connection ∷ verb_name v ∷ words =
    first ∙ ap (λ (l : List (List ℕ)). side_name side ∷ l) (second ∙ ap (λ (l : List (List ℕ)). connection ∷ l) third) in
    call_spelled side connection v words n number ∙ sym (ap (λ (l : List (List ℕ)). command_in l (user_data_of l)) read)

-- ---- the verb

-- a word that names a verb, and the text after it
pub verb_read_first : (all words : List (List ℕ)) (name : List ℕ) (v : Verb) → all ≡ name ∷ words → Some v ≡ verb_of name
    → all ≡ verb_name v ∷ words
verb_read_first all words name v first named = first ∙ ap (λ (w : List ℕ). w ∷ words) (verb_is_name name v named)
