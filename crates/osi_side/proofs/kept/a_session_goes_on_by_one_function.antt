-- What a session does by itself on a walk is a function of its state and of what passed: for the functions of `first_places`.
use Rattle.osi_side.proofs.Vocabulary.{◌≡◌, ◌∙◌, sym, ap, ℕ, ◌+◌, ◌<◌, ◌≤◌, Bool, true, false, List, [], get_or, Option, Some, None}
use Rattle.osi_side.proofs.Vocabulary.{option_map, if◌then◌else◌, arith, Meaning, Word, Seen, Count, Takes, listens, after_count, Member}
use Rattle.osi_side.proofs.Vocabulary.{member, sends, quiet_after, quietly, first_sender, count_at, next_of, reached}
use Rattle.osi_side.proofs.told.the_nearest_of_all_sessions_is_told.{count_is, becomes_none, reached_some}
use Rattle.osi_side.proofs.kept.a_session_takes_one_tsdu_at_a_time.{next_taken}

-- ---- a TSDU that is taken, and nothing is sent

abbrev if_quiet : Seen → Count → Bool → Option Seen
if_quiet s c b = if b then quiet_after s c else None

pub quiet_deaf : (s : Seen) (u : List ℕ) → listens s ≡ false → None ≡ quietly s u
quiet_deaf s u l = sym (ap (if_quiet s (count_at s u)) l)

quiet_as : (s : Seen) (u : List ℕ) (c : Count) → listens s ≡ true → Takes s u c → quietly s u ≡ quiet_after s c
quiet_as s u c l t = ap (if_quiet s (count_at s u)) l ∙ ap (quiet_after s) (count_is s u c t)

pub quiet_takes : (s t : Seen) (u : List ℕ) (c : Count) → listens s ≡ true → Takes s u c → c.reply ≡ None → t ≡ after_count s c
    → Some t ≡ quietly s u
quiet_takes s t u c l k r n = grind (arith, quiet_as s u c l k)

pub quiet_answers : (s : Seen) (u : List ℕ) (c : Count) (a : Meaning) → listens s ≡ true → Takes s u c → c.reply ≡ Some a
    → None ≡ quietly s u
quiet_answers s u c a l k r = grind (arith, quiet_as s u c l k)

pub moves_as : (us : List (List ℕ)) (m : Member) (u : List ℕ) (r : Option Seen) (n : Option Member) → u ≡ get_or us m.taken []
    → r ≡ quietly m.standing u → n ≡ option_map (member (m.taken + 1)) r → n ≡ next_of us m
moves_as us m u r n e q k = grind arith

-- ---- the first place at which it may send a word

pub sender_on : (us : List (List ℕ)) (w : Word) (octets before : ℕ) (at on : Member) (all : Option Member) → at.taken < before
    → sends w octets at ≡ None → next_of us at ≡ Some on → first_sender w octets (reached us before at) ≡ all
    → first_sender w octets (reached us before on) ≡ all
sender_on us w octets before at on all l s n h = search (arith, next_taken, reached_some)

pub sender_here : (us : List (List ℕ)) (w : Word) (octets before : ℕ) (at said : Member) (all : Option Member)
    → sends w octets at ≡ Some said → first_sender w octets (reached us before at) ≡ all → Some said ≡ all
sender_here us w octets before at said all s h = grind arith

pub sender_stuck : (us : List (List ℕ)) (w : Word) (octets before : ℕ) (at : Member) (all : Option Member) → at.taken < before
    → sends w octets at ≡ None → next_of us at ≡ None → first_sender w octets (reached us before at) ≡ all → None ≡ all
sender_stuck us w octets before at all l s n h = grind (arith, reached_some, becomes_none)

pub sender_last : (us : List (List ℕ)) (w : Word) (octets before : ℕ) (at : Member) (said all : Option Member) → before ≤ at.taken
    → said ≡ sends w octets at → first_sender w octets (reached us before at) ≡ all → said ≡ all
sender_last us w octets before at said all l s h = grind arith
