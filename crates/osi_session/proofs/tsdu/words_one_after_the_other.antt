-- The words of a TSDU take effect one after the other: what a loop over its units has done so far, and what is still to act.
-- For `take_each` of grouping and `count_each` of counting.
use Rattle.osi_session.proofs.Vocabulary.{list_any, append_assoc, append-nil, GivesBehind, units_behind, Reactions, hearing_of_all}
use Rattle.osi_session.proofs.Vocabulary.{takes_room, Word, Words, is_faulty, Taker, Hearing, heard_then, idle, is_restart_word}
use Rattle.osi_session.proofs.Vocabulary.{word_verdict, respond_word, respond_words, acting_words, respond_tsdu, ◌≡◌, refl, sym, ◌∙◌, ap, ℕ}
use Rattle.osi_session.proofs.Vocabulary.{Bool, true, false, ◌||◌, List, [], ◌∷◌, ◌++◌, Option, Some, None, if◌then◌else◌, arith, Behind}
use Rattle.osi_session.proofs.Vocabulary.{Spdu, map, word}
use Rattle.osi_session.proofs.tsdu.what_is_joined.{InPhase}
use Rattle.osi_session.proofs.tsdu.memory_for_one_word.{SoFar, word_so_far, word_takes, takes_behind}
use Rattle.osi_session.proofs.tables.messages_act_as_the_table_says.{one_word}

-- what is still to act: these units, and after them the item unless one of them is an RS, or one before them was
abbrev pub acting_behind : Bool → Word → Words → Words
acting_behind restarts item us = if restarts || list_any is_restart_word us then us else us ++ item ∷ []

-- this outcome, and those of what is still to act, are what is wanted
pub record Leads (want o : Hearing) (restarts : Bool) (item : Word) (us : Words) : Type 0 where
  pub is : heard_then o (respond_words o.next (acting_behind restarts item us)) ≡ want

pub good_then : (s : Taker) (u : Word) (us : Words) → is_faulty (word_verdict s u) ≡ false
    → respond_words s (u ∷ us) ≡ heard_then (respond_word s u) (respond_words (respond_word s u).next us)
unfolding respond_words
good_then s u us h = rw h refl

-- a unit that is not bad
pub goes_on : {want o : Hearing} {restarts : Bool} {item u : Word} {us : Words} → Leads want o restarts item (u ∷ us)
    → is_faulty (word_verdict o.next u) ≡ false → Leads want (heard_then o (respond_word o.next u)) (restarts || is_restart_word u) item us
goes_on h good = let e = h.is in record { is = grind (arith, respond_words, good_then, append_assoc, respond_word) }

-- a bad unit is the last that acts
pub stops : {want o : Hearing} {restarts : Bool} {item u : Word} {us : Words} → Leads want o restarts item (u ∷ us)
    → is_faulty (word_verdict o.next u) ≡ true → heard_then o (respond_word o.next u) ≡ want
unfolding respond_words
stops h bad = let e = h.is in grind (arith, respond_words)

pub ends_restarted : {want o : Hearing} {item : Word} → Leads want o true item [] → o ≡ want
unfolding respond_words
ends_restarted h = sym (grind (arith, append-nil)) ∙ h.is

pub ends_with_item : {want o : Hearing} {item : Word} → Leads want o false item [] → heard_then o (respond_word o.next item) ≡ want
ends_with_item {o = o} {item = item} h = sym (ap (heard_then o) (one_word o.next item)) ∙ h.is

-- ---- a TSDU of more words than one

pub tsdu_begins : (t : Taker) (item : Word) (us : Words) → Leads (respond_tsdu t (item ∷ us)) (idle t) false item us
unfolding acting_words
tsdu_begins t item us = record { is = refl }

-- if no unit was given there is none
pub behind_none : (old new : Behind) (r : Option Spdu) → GivesBehind old r new → ((u : Spdu) → r ≡ Some u → ⊥) → units_behind old ≡ []
behind_none old new r h k = grind arith

-- what the loop over the words of a TSDU keeps
pub record Walks (want : Hearing) (j : Option (List ℕ)) (r : Reactions) (restarts : Bool) (item : Word) (us : Words) : Type 0 where
  pub leads : Leads want (hearing_of_all j r) restarts item us
  pub so_far : SoFar j (hearing_of_all j r)
  pub ordered : r.first ≡ None → r.more.items ≡ []

pub walks_begin : {r : Reactions} {item first : Word} {us units : Words} (t : Taker) → hearing_of_all t.joined r ≡ idle t → InPhase t →
    r.more.items ≡ [] → item ≡ first → us ≡ units → Walks (respond_tsdu t (first ∷ units)) t.joined r false item us
walks_begin {first = first} {units = units} t e k m i b = grind (arith, tsdu_begins t first units)

-- one word is taken off
pub walks_turn : {want : Hearing} {j : Option (List ℕ)} {r : Reactions} {restarts : Bool} {item u v : Word} {us units : Words} →
    Walks want j r restarts item us → us ≡ v ∷ units → u ≡ v → Walks want j r restarts item (u ∷ units)
walks_turn w e i = grind arith

pub walks_on : {want : Hearing} {j : Option (List ℕ)} {r next : Reactions} {restarts now : Bool} {item u : Word} {us : Words} →
    Walks want j r restarts item (u ∷ us) → is_faulty (word_verdict (hearing_of_all j r).next u) ≡ false →
    hearing_of_all j next ≡ heard_then (hearing_of_all j r) (respond_word (hearing_of_all j r).next u)
    → (next.first ≡ None → next.more.items ≡ []) → now ≡ (restarts || is_restart_word u) → Walks want j next now item us
walks_on {j = j} {r = r} {u = u} w good e ordered n =
    grind (arith, goes_on w.leads good, word_so_far j (hearing_of_all j r) u w.so_far)

-- if memory is needed for a word, it is needed for the whole
takes_by : (j : Option (List ℕ)) (want o : Hearing) (restarts : Bool) (item u : Word) (us : Words) → SoFar j o →
    heard_then o (respond_words o.next (acting_behind restarts item (u ∷ us))) ≡ want
    → takes_room o.next.joined (respond_word o.next u) ≡ true → takes_room j want ≡ true
takes_by j want o restarts item u us s h room = search (arith, takes_behind, word_takes)

pub takes : {want : Hearing} {j : Option (List ℕ)} {r : Reactions} {restarts : Bool} {item u : Word} {us : Words} →
    Walks want j r restarts item (u ∷ us) →
    takes_room (hearing_of_all j r).next.joined (respond_word (hearing_of_all j r).next u) ≡ true → takes_room j want ≡ true
takes {restarts = restarts} {item = item} {u = u} {us = us} w room = takes_by _ _ _ restarts item u us w.so_far w.leads.is room

-- if no unit was given, no word is left
pub walks_end : {want : Hearing} {j : Option (List ℕ)} {r : Reactions} {restarts b : Bool} {item : Word} (old new : Behind)
    (u : Option Spdu) →
    Walks want j r restarts item (map word (units_behind old)) → GivesBehind old u new → ((s : Spdu) → u ≡ Some s → ⊥) → restarts ≡ b →
    Leads want (hearing_of_all j r) b item []
walks_end old new u w given none e = let l = w.leads in let n = behind_none old new u given none in grind arith

pub item_takes : {want o : Hearing} {j : Option (List ℕ)} {item : Word} → SoFar j o → Leads want o false item [] →
    takes_room o.next.joined (respond_word o.next item) ≡ true → takes_room j want ≡ true
item_takes s l room = let e = ends_with_item l in grind (arith, takes_behind)
