-- A TSDU that is read straight leads from one session to at most one, as the general walk does: for the functions of `straight`.
use Rattle.std.proofs.Common.{arith}
use Rattle.osi_side.proofs.Vocabulary.{◌≡◌, ◌∙◌, refl, sym, ap, ℕ, ◌≤◌, true, false, List, [], ◌∷◌, ◌++◌}
use Rattle.osi_side.proofs.Vocabulary.{Option, Some, None, Result, Ok, Err, IfOk}
use Rattle.osi_side.proofs.Vocabulary.{◌↔◌, fold, length, Bor, Serial, Contents, made, DT, GT, MIA, MIP, says, unit_with}
use Rattle.osi_side.proofs.Vocabulary.{HaveDigits, meaning_again, no_token, Word, is_restart_word, is_steady, Member, Remark, Told}
use Rattle.osi_side.proofs.Vocabulary.{Explains, SomeExplains, OneExplains, remarks_of, the_remark, after_tsdu, after_word}
use Rattle.osi_side.proofs.Vocabulary.{first_sender, listed, reached}
use Rattle.osi_spdu.specs.Known.{Known, nothing}
use Rattle.osi_spdu.specs.Made.{ack_params, give_tokens_params, minor_point_params}
use Rattle.osi_spdu.specs.Params.{known_of, no_params}
use Rattle.osi_spdu.specs.declared.kinds.Kind.TheVariants.{DataTransfer, GiveTokens, MinorSyncAck, MinorSyncPoint}
use Rattle.osi_message.specs.Reading.{meaning, word}
use Rattle.osi_message.specs.Tokens.{is_empty}
use Rattle.osi_message.specs.Written.{unit_of}
use Rattle.osi_message.proofs.a_unit_is_made_of_its_meaning.{none_known, number_known}
use Rattle.osi_session.specs.Joining.{acting_words}
use Rattle.osi_side.specs.Kept.{added}
use Rattle.osi_side.specs.Straight.{IsStraight}
use Rattle.osi_side.proofs.kept.a_walk_keeps_who_sends_on_the_way.{place_steady}

-- ---- the words of the units

abbrev with_information : Known → List ℕ → Contents
with_information known octets = record { kind = DataTransfer; known = known; information = octets }

says_data : (octets : List ℕ) → word (with_information nothing octets) ≡ says (DT octets)
unfolding word meaning
says_data octets = refl

pub data_word : (u : Contents) (octets : List ℕ) → u ≡ record { kind = DataTransfer; known = known_of no_params; information = octets }
    → word u ≡ says (DT octets)
data_word u octets e = ap word e ∙ ap (λ (k : Known). word (with_information k octets)) none_known ∙ says_data octets

says_item : word (unit_with GiveTokens nothing) ≡ says (GT no_token)
unfolding word meaning
says_item = grind arith

pub item_word : (u : Contents) → u ≡ made GiveTokens (give_tokens_params None) → word u ≡ says (GT no_token)
item_word u e = ap word e ∙ ap (λ (k : Known). word (unit_with GiveTokens k)) none_known ∙ says_item

says_point : (known : Known) → word (unit_with MinorSyncPoint known) ≡ says (meaning (unit_with MinorSyncPoint known))
unfolding word
says_point known = refl

made_point : (n : Serial) (b : Bor (List ℕ)) → b.now ≡ []
    → made MinorSyncPoint (minor_point_params None n b) ≡ unit_of (MIP true n.number [])
unfolding unit_of
made_point n b e = grind (arith, number_known)

pub point_word : HaveDigits → (u : Contents) (n : Serial) (b : Bor (List ℕ)) → u ≡ made MinorSyncPoint (minor_point_params None n b)
    → b.now ≡ [] → n.number ≤ 999999 → word u ≡ says (MIP true n.number [])
point_word digits u n b e d s = grind (arith, says_point, made_point, meaning_again)

says_ack : (known : Known) → word (unit_with MinorSyncAck known) ≡ says (meaning (unit_with MinorSyncAck known))
unfolding word
says_ack known = refl

made_ack : (n : Serial) (b : Bor (List ℕ)) → b.now ≡ [] → made MinorSyncAck (ack_params n b) ≡ unit_of (MIA n.number [])
unfolding unit_of
made_ack n b e = grind (arith, number_known)

pub ack_word : HaveDigits → (u : Contents) (n : Serial) (b : Bor (List ℕ)) → u ≡ made MinorSyncAck (ack_params n b)
    → b.now ≡ [] → n.number ≤ 999999 → word u ≡ says (MIA n.number [])
ack_word digits u n b e d s = grind (arith, says_ack, made_ack, meaning_again)

-- ---- one session and a steady word

alone : (m : Member) → added [] m ≡ m ∷ []
unfolding added
alone m = refl

listed_alone : (r : Option Member) → fold added [] (listed r ++ []) ≡ listed r
listed_alone None = refl
listed_alone (Some m) = alone m

pub after_one : (us : List (List ℕ)) (w : Word) (octets before : ℕ) (m : Member) (r : Option Member) → is_restart_word w ≡ false
    → is_steady w ≡ true → r ≡ first_sender w octets (reached us before m) → listed r ≡ after_word us octets before (m ∷ []) w
after_one us w octets before m r p s e =
    sym (listed_alone r) ∙ ap (λ (ms : List Member). fold added [] (ms ++ [])) (place_steady us w octets before m r p s e)

-- none, if it never sends it
pub none_after : (us : List (List ℕ)) (w : Word) (octets before : ℕ) (m : Member) (r : Option Member) → is_restart_word w ≡ false
    → is_steady w ≡ true → r ≡ first_sender w octets (reached us before m) → r ≡ None
    → [] ≡ after_word us octets before (after_word us octets before (m ∷ []) w) (says (GT no_token))
none_after us w octets before m r p s e n =
    ap (λ (ms : List Member). after_word us octets before ms (says (GT no_token)))
    (ap listed (sym n) ∙ after_one us w octets before m r p s e)

-- ---- and a token item that names no token

pub item_steady : is_steady (says (GT no_token)) ≡ true
unfolding is_empty
item_steady = refl

if_ok_to : {V E : Type 0} (P Q : V → Type 0) (r : Result V E) → ((v : V) → P v → Q v) → IfOk r P → IfOk r Q
if_ok_to P Q (Ok v) f h = f v h
if_ok_to P Q (Err e) f h = h

pub both_after : {E : Type 0} (us : List (List ℕ)) (w item : Word) (octets before : ℕ) (m said : Member) (r : Option Member)
    (result : Result (Option Member) E) → is_restart_word w ≡ false → is_steady w ≡ true
    → r ≡ first_sender w octets (reached us before m) → r ≡ Some said → item ≡ says (GT no_token)
    → IfOk result (λ p. p ≡ first_sender item octets (reached us before said))
    → IfOk result (λ p. listed p ≡ after_word us octets before (after_word us octets before (m ∷ []) w) (says (GT no_token)))
both_after us w item octets before m said r result p s e q i h =
    let first = ap listed (sym q) ∙ after_one us w octets before m r p s e in
    if_ok_to (λ (o : Option Member). o ≡ first_sender item octets (reached us before said))
    (λ (o : Option Member). listed o ≡ after_word us octets before (after_word us octets before (m ∷ []) w) (says (GT no_token))) result
    (λ o g. after_one us (says (GT no_token)) octets before said o refl item_steady
    (g ∙ ap (λ (x : Word). first_sender x octets (reached us before said)) i)
    ∙ ap (λ (ms : List Member). after_word us octets before ms (says (GT no_token))) first) h

-- ---- a TSDU of two words

pub after_straight : (us : List (List ℕ)) (w : Word) (members : List Member) (t : Told) → IsStraight t.octets w
    → after_word us (length t.octets) t.before (after_word us (length t.octets) t.before members w) (says (GT no_token))
    ≡ after_tsdu us members t
unfolding acting_words
after_straight us w members t s = grind (arith, s.said, s.other)

pub explained_straight : (us : List (List ℕ)) (later : List Remark) (w : Word) (m : Member) (next : List Member) (r : Option Member)
    (members : List Member) (t : Told) → IsStraight t.octets w → members ≡ m ∷ [] → next ≡ listed r
    → Explains us (the_remark w (length t.octets) t.before ∷ the_remark (says (GT no_token)) (length t.octets) t.before ∷ later)
    m.taken m.standing ↔ OneExplains us later r
    → SomeExplains us members (remarks_of t ++ later) ↔ SomeExplains us next later
unfolding acting_words
explained_straight us later w m next r members t s e n h = grind (arith, s.said, s.other)
