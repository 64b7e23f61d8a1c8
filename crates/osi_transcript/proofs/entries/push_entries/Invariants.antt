use Rattle.osi_transcript.proofs.Vocabulary.{◌≡◌, ◌++◌, map, take, entry_by, entry_texts}
use Rattle.osi_transcript.proofs.entries.push_entries.Given as goal

abbrev pub invariant-entries : goal.invariant-entries
invariant-entries l = l.out.items ≡ l.fn.out.items ++ entry_texts (map entry_by (take l.entry-index l.entries))
