-- The effect of a word with the octets of an unfinished SSDU counted: it is the same whatever these octets are.
use Rattle.osi_session.proofs.Vocabulary.{SpduFault, respond_fault, Words, first_reply, replies_abort, heard_then, idle, is_restart_word}
use Rattle.osi_session.proofs.Vocabulary.{respond_tsdu, length-append, le-leb, leb-true, State, UnitFault, Taker, respond_came, DataTooLong}
use Rattle.osi_session.proofs.Vocabulary.{most_data, nothing, bad, Outcome, is_faulty, enacted, si, Hearing, is_last, word_verdict, heard}
use Rattle.osi_session.proofs.Vocabulary.{respond_word, told_of, Meaning, DT, Place, Word, says, part, ◌≡◌, ◌∙◌, sym, ap, ℕ, ◌+◌, ◌<◌, ◌≤◌}
use Rattle.osi_session.proofs.Vocabulary.{Bool, true, false, ◌||◌, if◌then◌else◌, List, [], ◌∷◌, length, Option, Some, None, Result, Err}
use Rattle.osi_session.proofs.Vocabulary.{option_map, unwrap_or, arith, no_octets, count_by, count_by_idle, taker_with, Counts, CountsAll}
use Rattle.osi_session.proofs.Vocabulary.{CountsCame, Count, counted, map, GivesBehind, units_behind, Behind, Spdu, word}
use Rattle.osi_session.specs.declared.joining.PartVerdict.TheVariants as is
use Rattle.osi_session.proofs.tsdu.the_verdict_while_joining.{part_verdict}
use Rattle.osi_session.proofs.tsdu.words_one_after_the_other.{Leads, tsdu_begins, goes_on, stops, ends_restarted, ends_with_item}
use Rattle.osi_session.proofs.tsdu.words_one_after_the_other.{behind_none}
use Rattle.osi_session.proofs.tsdu.the_effect_of_a_word.{word_told, message_is, part_dropped, part_bad, first_is, middle_is, last_is}

-- ---- a hearing, counted

pub heard_counted : (j : Option (List ℕ)) (o : Outcome) → counted (heard j o) ≡ count_by (option_map length j) o
heard_counted j o = grind arith

-- this many octets are joined
heard_so_many : (j : Option (List ℕ)) (n : Option ℕ) (o : Outcome) → option_map length j ≡ n → counted (heard j o) ≡ count_by n o
heard_so_many j n o e = heard_counted j o ∙ ap (λ (m : Option ℕ). count_by m o) e

-- ---- a message

pub message_counts : (s : State) (n : Option ℕ) (k : Option (List ℕ)) (u : Meaning) (o : Outcome) (c : Count) → k ≡ no_octets n
    → enacted s u (word_verdict (taker_with s k) (says u)) ≡ o → c ≡ count_by n o → Counts s n (says u) c
message_counts s n k u o c e h d = grind (arith, message_is, heard_so_many)

-- ---- a part

pub dropped_counts : (s : State) (n : Option ℕ) (k : Option (List ℕ)) (place : Place) (o : List ℕ) (c : Count) → k ≡ no_octets n
    → is.Dropped ≡ told_of (word_verdict (taker_with s k) (part place o)) → c ≡ count_by n (nothing s) → Counts s n (part place o) c
dropped_counts s n k place o c e h d = grind (arith, part_dropped, heard_so_many)

faulty_counts : (s : State) (n : Option ℕ) (place : Place) (o : List ℕ) (fault : UnitFault) (c : Count) →
    ((j : Option (List ℕ)) → option_map length j ≡ n → is.Bad fault ≡ told_of (word_verdict (taker_with s j) (part place o)))
    → c ≡ count_by n (bad s fault) → Counts s n (part place o) c
faulty_counts s n place o fault c told d =
    λ j f. ap counted (part_bad (taker_with s j) place o fault (told j f)) ∙ heard_so_many j n (bad s fault) f ∙ sym d

pub bad_counts : (s : State) (n : Option ℕ) (k : Option (List ℕ)) (place : Place) (o : List ℕ) (fault : UnitFault) (c : Count) →
    k ≡ no_octets n
    → is.Bad fault ≡ told_of (word_verdict (taker_with s k) (part place o)) → c ≡ count_by n (bad s fault) → Counts s n (part place o) c
bad_counts s n k place o fault c e h d = faulty_counts s n place o fault c (λ j f. grind (arith, part_verdict, length-append)) d

-- too much is joined
pub long_counts : (s : State) (n : Option ℕ) (k : Option (List ℕ)) (place : Place) (o : List ℕ) (c : Count) → k ≡ no_octets n
    → is.Good ≡ told_of (word_verdict (taker_with s k) (part place o)) → most_data < unwrap_or n 0 + length o
    → c ≡ count_by n (bad s (DataTooLong (si (DT o)))) → Counts s n (part place o) c
long_counts s n k place o c e h l d =
    faulty_counts s n place o (DataTooLong (si (DT o))) c (λ j f. grind (arith, part_verdict, length-append, leb-true)) d

pub good_counts : (s : State) (n : Option ℕ) (k : Option (List ℕ)) (place : Place) (o : List ℕ) (total : ℕ) (c : Count) → k ≡ no_octets n
    → is.Good ≡ told_of (word_verdict (taker_with s k) (part place o)) → unwrap_or n 0 + length o ≤ most_data →
    total ≡ unwrap_or n 0 + length o
    → c ≡ count_by (if is_last place then None else Some total) (nothing s) → Counts s n (part place o) c
good_counts s n k place o total c e h l t d =
    grind (arith, length-append, le-leb, unwrap_or, first_is, heard_so_many, middle_is, last_is, heard_counted)

-- ---- words one after the other

-- one count, and the one of what acts after it
abbrev pub count_then : Count → Count → Count
count_then a b = record { state = b.state; joined = b.joined; reply = first_reply a.reply b.reply; closes = a.closes || b.closes }

here : (s c : Count) (w : Word) (h : Hearing) → Counts s.state s.joined w c → counted h ≡ s → counted (respond_word h.next w) ≡ c
here s c w h k e = grind arith

pub then_bad : (s c : Count) (w : Word) (b : Bool) → Counts s.state s.joined w c → b ≡ replies_abort c.reply → (h : Hearing) →
    counted h ≡ s → b ≡ is_faulty (word_verdict h.next w)
then_bad s c w b k n h e = grind (arith, word_told, respond_word h.next w, here s c w h k e)

-- what the loop over the words of a TSDU keeps: a hearing of what was done so far, whatever octets are joined
pub record Walks (s : State) (n : Option ℕ) (words : Words) (c : Count) (restarts : Bool) (item : Word) (us : Words)
    (joined : Option (List ℕ)) : Type 0 where
  pub heard : Hearing
  pub leads : Leads (respond_tsdu (taker_with s joined) words) heard restarts item us
  pub counts : counted heard ≡ c

abbrev pub WalksAll : State → Option ℕ → Words → Count → Bool → Word → Words → Type 0
WalksAll s n words c restarts item us = (joined : Option (List ℕ)) → option_map length joined ≡ n →
    Walks s n words c restarts item us joined

pub walks_begin : {c : Count} {item first : Word} {us units : Words} (s : State) (n : Option ℕ) → c ≡ count_by_idle s n → item ≡ first →
    us ≡ units → WalksAll s n (first ∷ units) c false item us
walks_begin {first = first} {units = units} s n e i b = λ j f. record {
  heard = idle (taker_with s j);
  leads = grind (arith, tsdu_begins (taker_with s j) first units);
  counts = ap (count_by_idle s) f ∙ sym e;
}

-- one word is taken off
pub walks_turn : {s : State} {n : Option ℕ} {words : Words} {c : Count} {restarts : Bool} {item u v : Word} {us units : Words} →
    WalksAll s n words c restarts item us → us ≡ v ∷ units → u ≡ v → WalksAll s n words c restarts item (u ∷ units)
walks_turn w e i = grind arith

abbrev pub Tells : Count → Word → Bool → Type 0
Tells c w b = (h : Hearing) → counted h ≡ c → b ≡ is_faulty (word_verdict h.next w)

abbrev pub LeavesBehind : Count → Word → Count → Type 0
LeavesBehind c w next = (h : Hearing) → counted h ≡ c → counted (heard_then h (respond_word h.next w)) ≡ next

pub walks_on : {s : State} {n : Option ℕ} {words : Words} {c next : Count} {restarts now b : Bool} {item u : Word} {us : Words} →
    WalksAll s n words c restarts item (u ∷ us)
    → Tells c u b → b ≡ false → LeavesBehind c u next → now ≡ (restarts || is_restart_word u) → WalksAll s n words next now item us
walks_on {u = u} w t g l r = λ j f.
    let x = w j f in
    record {
      heard = heard_then x.heard (respond_word x.heard.next u);
      leads = grind (arith, goes_on x.leads (sym (t x.heard x.counts) ∙ g));
      counts = l x.heard x.counts;
    }

-- a bad word is the last
pub walks_stop : {s : State} {n : Option ℕ} {words : Words} {c next : Count} {restarts b : Bool} {item u : Word} {us : Words} →
    WalksAll s n words c restarts item (u ∷ us) → Tells c u b → b ≡ true → LeavesBehind c u next → CountsAll s n words next
walks_stop w t g l = λ j f.
    let x = w j f in
    ap counted (sym (stops x.leads (sym (t x.heard x.counts) ∙ g))) ∙ l x.heard x.counts

-- no word is left
pub walks_end : {s : State} {n : Option ℕ} {words : Words} {c : Count} {restarts b : Bool} {item : Word} (old new : Behind)
    (u : Option Spdu) → WalksAll s n words c restarts item (map word (units_behind old)) → GivesBehind old u new →
    ((s : Spdu) → u ≡ Some s → ⊥) → restarts ≡ b → WalksAll s n words c b item []
walks_end old new u w given none e = let left = behind_none old new u given none in grind arith

pub walks_restarted : {s : State} {n : Option ℕ} {words : Words} {c : Count} {item : Word} → WalksAll s n words c true item [] →
    CountsAll s n words c
walks_restarted w = λ j f. let x = w j f in ap counted (sym (ends_restarted x.leads)) ∙ x.counts

pub walks_item : {s : State} {n : Option ℕ} {words : Words} {c next : Count} {item : Word} → WalksAll s n words c false item [] →
    LeavesBehind c item next → CountsAll s n words next
walks_item w l = λ j f. let x = w j f in ap counted (sym (ends_with_item x.leads)) ∙ l x.heard x.counts

-- ---- a TSDU

pub fault_counts : (s : State) (n : Option ℕ) (fault : SpduFault) (c : Count) → c ≡ count_by n (respond_fault s fault) →
    CountsCame s n (Err fault) c
fault_counts s n fault c e = λ j f. heard_so_many j n (respond_fault s fault) f ∙ sym e

-- a TSDU has the count of the word that alone has its effect
pub counts_alone : (s : State) (n : Option ℕ) (came : Result Words SpduFault) (w : Word) (c : Count) →
    ((t : Taker) → respond_came t came ≡ respond_word t w) → Counts s n w c → CountsCame s n came c
counts_alone s n came w c acts counts = λ j e. ap counted (acts (taker_with s j)) ∙ counts j e

-- and so has a TSDU of units
pub counts_lone : (s : State) (n : Option ℕ) (words : Words) (w v : Word) (c : Count) →
    ((t : Taker) → respond_tsdu t words ≡ respond_word t v) → w ≡ v → Counts s n w c → CountsAll s n words c
counts_lone s n words w v c acts e counts = grind arith
