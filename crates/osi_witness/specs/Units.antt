-- The units of a TSDU in the order in which they act.
use Rattle.std.specs.Prelude.{ℕ, List, [], Result, Ok, Err}
use Rattle.osi_spdu.specs.declared.faults.SpduFault.{SpduFault}
use Rattle.osi_message.specs.Reading.{said_at}
use Rattle.osi_message.specs.Words.{Words}
use Rattle.osi_session.specs.Joining.{acting_words}

abbrev pub acting : Result Words SpduFault → Words
acting (Ok words) = acting_words words
acting (Err fault) = []

-- the words of a TSDU as they act; none if it is not session units
abbrev pub words_of : List ℕ → Words
words_of tsdu = acting (said_at tsdu)
