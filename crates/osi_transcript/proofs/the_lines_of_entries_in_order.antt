-- The lines of entries, one after the other.
-- For `push_entries` and all that adds entries to a transcript.
use Rattle.osi_transcript.proofs.Vocabulary.{◌≡◌, ◌≢◌, ℕ, ◌+◌, false, List, ◌++◌, length, map, drop, Some, None, arith, ◌≤◌, length-append}
use Rattle.osi_transcript.proofs.Vocabulary.{drop-map, length-map, NoMemory, TwoEnds, entry_by, Adds, Does, CarriesAsMuch, misfit}
use Rattle.osi_transcript.proofs.Vocabulary.{IsReached, FoundMemory, Applied, Event, entry_texts, event_text, DoesEvent}
use Rattle.osi_pair.specs.declared.entries.Entry.{Entry}

-- the journal keeps its entries, and may get more
pub journal_grows : (old new : TwoEnds) (xs ys : List Entry) → map entry_by xs ≡ old.journal → map entry_by ys ≡ new.journal →
    Adds old.journal new.journal → length xs ≤ length ys
journal_grows old new xs ys h k more = grind (arith, length-map, length-append)

-- an event is applied, and its text is added
pub event_done : (event : Event) (old new : TwoEnds) (applied : Applied) (before mid after : List ℕ) (xs ys shown : List Entry) →
    misfit event old ≡ None → Does event old applied.carried new → CarriesAsMuch event old applied → applied.is_cut_short ≡ false →
    FoundMemory new → IsReached new →
    map entry_by xs ≡ old.journal → map entry_by ys ≡ new.journal → shown ≡ drop (length xs) ys →
    mid ≡ before ++ event_text event applied.carried → after ≡ mid ++ entry_texts (map entry_by shown) →
    DoesEvent event old before new after
event_done event old new applied before mid after xs ys shown fits does much whole memory reached h k from says more =
    grind (arith, length-map, drop-map)

-- no side has ended because memory ran out
pub found_memory : (p : TwoEnds) → p.left.end.carrier.ended ≢ Some NoMemory → p.right.end.carrier.ended ≢ Some NoMemory → FoundMemory p
found_memory p left right h = grind arith
