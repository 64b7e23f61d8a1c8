-- A session in any state leaves one count of a TSDU that it takes, whichever octets it has joined, if there are so many.
-- For the sessions that differ in V(A) alone.
use Rattle.osi_side.proofs.Vocabulary.{◌≡◌, ◌∙◌, refl, sym, ap, subst, ℕ, ◌+◌, ◌<◌, ◌≤◌, Bool, true, false, if◌then◌else◌, nat_le, List}
use Rattle.osi_side.proofs.Vocabulary.{[], ◌∷◌, length, Option, Some, None, option_map, unwrap_or, Result, Ok, Err, arith, leb-true}
use Rattle.osi_side.proofs.Vocabulary.{SpduFault, Place, said_at, Word, Words, says, part, State, most_data, no_octets, count_by}
use Rattle.osi_side.proofs.Vocabulary.{taker_with, Counts, CountsCame, Taker, Hearing, heard_then, is_last, word_verdict, Verdict, over}
use Rattle.osi_side.proofs.Vocabulary.{dropped, fine, replies_abort, enacted, nothing, bad, respond_fault, si, Seen, Count, Takes, counted}
use Rattle.osi_side.proofs.Vocabulary.{told_of, DataTooLong, DT, message_counts, dropped_counts, bad_counts, long_counts, good_counts}
use Rattle.osi_side.proofs.Vocabulary.{fault_counts, count_then, word_told}
unfoldable use Rattle.osi_session.specs.Joining.{acting_words, respond_word, respond_words}
use Rattle.osi_session.specs.Respond.{faulty}

-- ---- one word

pub record Counted (s : State) (n : Option ℕ) (w : Word) : Type 0 where
  pub count : Count
  pub counts : Counts s n w count

part_counted : (s : State) (n : Option ℕ) (place : Place) (o : List ℕ) (v : Verdict)
    → word_verdict (taker_with s (no_octets n)) (part place o) ≡ v → Counted s n (part place o)
part_counted s n place o over e = record {
  count = count_by n (nothing s);
  counts = dropped_counts s n (no_octets n) place o _ refl (grind arith) refl;
}
part_counted s n place o dropped e = record {
  count = count_by n (nothing s);
  counts = dropped_counts s n (no_octets n) place o _ refl (grind arith) refl;
}
part_counted s n place o (faulty fault) e = record {
  count = count_by n (bad s fault);
  counts = bad_counts s n (no_octets n) place o fault
      _ refl (sym (ap told_of e)) refl;
}
part_counted s n place o fine e = by (nat_le (unwrap_or n 0 + length o) most_data) refl
  where
    within : (m : ℕ) → nat_le m most_data ≡ true → m ≤ most_data
    within m h = leb-true m most_data h

    above : (m : ℕ) → nat_le m most_data ≡ false → most_data < m
    above m h = grind (arith, leb-true)

    by : (b : Bool) → nat_le (unwrap_or n 0 + length o) most_data ≡ b → Counted s n (part place o)
    by true h = record {
      count = count_by (if is_last place then None else Some (unwrap_or n 0 + length o)) (nothing s);
      counts = good_counts s n (no_octets n) place o (unwrap_or n 0 + length o) _ refl (sym (ap told_of e)) (within (unwrap_or n 0 + length
          o) h) refl refl;
    }
    by false h = record {
      count = count_by n (bad s (DataTooLong (si (DT o))));
      counts = long_counts s n (no_octets n) place o _ refl (sym (ap told_of e)) (above (unwrap_or n 0 + length o) h) refl;
    }

pub word_counted : (s : State) (n : Option ℕ) (w : Word) → Counted s n w
word_counted s n (says u) = record {
  count = count_by n (enacted s u (word_verdict (taker_with s (no_octets n)) (says u)));
  counts = message_counts s n (no_octets n) u _ _ refl refl refl;
}
word_counted s n (part place o) = part_counted s n place o (word_verdict (taker_with s (no_octets n)) (part place o)) refl

-- ---- words one after the other

-- what a word leaves, followed by these words
abbrev pub then_words : Words → Hearing → Hearing
then_words ws h = if replies_abort h.reply then h else heard_then h (respond_words h.next ws)

pub by_reply : (t : Taker) (w : Word) (ws : Words) → respond_words t (w ∷ ws) ≡ then_words ws (respond_word t w)
unfolding respond_words
by_reply t w ws = grind (arith, word_told)

pub record CountedAll (s : State) (n : Option ℕ) (ws : Words) : Type 0 where
  pub count : Count
  pub counts : (joined : Option (List ℕ)) → option_map length joined ≡ n → counted (respond_words (taker_with s joined) ws) ≡ count

abbrev count_words : Count → Count → Count
count_words c d = if replies_abort c.reply then c else count_then c d

then_counted : (h : Hearing) (ws : Words) (c d : Count) → counted h ≡ c → counted (respond_words h.next ws) ≡ d
    → counted (then_words ws h) ≡ count_words c d
then_counted h ws c d e f = grind (arith, count_then)

pub words_counted : (s : State) (n : Option ℕ) (ws : Words) → CountedAll s n ws
unfolding respond_words
words_counted s n [] = record {
  count = record { state = s; joined = n; reply = None; closes = false };
  counts = λ j e. ap (λ (x : Option ℕ). let c : Count = record { state = s; joined = x; reply = None; closes = false } in c) e;
}
words_counted s n (w ∷ ws) =
    let one = word_counted s n w in
    let more = words_counted one.count.state one.count.joined ws in
    record {
      count = count_words one.count more.count;
      counts = λ j e. ap counted (by_reply (taker_with s j) w ws) ∙ then_counted (respond_word (taker_with s j) w) ws one.count more.count
          (one.counts j e)
          (next one.count more.count (respond_word (taker_with s j) w) more.counts (one.counts j e));
    }
  where
    next : (c d : Count) (h : Hearing) → ((j : Option (List ℕ)) → option_map length j ≡ c.joined
        → counted (respond_words (taker_with c.state j) ws) ≡ d)
        → counted h ≡ c → counted (respond_words h.next ws) ≡ d
    next c d h k e = subst (λ (x : State). counted (respond_words (taker_with x h.next.joined) ws) ≡ d) (sym (ap (λ (x : Count). x.state)
        e)) (k h.next.joined (ap (λ (x : Count). x.joined) e))

-- ---- a TSDU

pub record OneCount (s : Seen) (tsdu : List ℕ) : Type 0 where
  pub count : Count
  pub taken : Takes s tsdu count

came_counted : (s : Seen) (came : Result Words SpduFault) → (c : Count) × CountsCame s.state s.joined came c
came_counted s (Ok words) = let k = words_counted s.state s.joined (acting_words words) in (k.count, k.counts)
came_counted s (Err fault) = (count_by s.joined (respond_fault s.state fault), fault_counts s.state s.joined fault _ refl)

pub one_count : (s : Seen) (tsdu : List ℕ) → OneCount s tsdu
one_count s tsdu = let k = came_counted s (said_at tsdu) in record { count = k.0; taken = k.1 }
