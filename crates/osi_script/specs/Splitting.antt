-- The words of a line that have not been read.
use Rattle.std.specs.Prelude.{ℕ, List, []}
use Rattle.std.specs.Option.{option_map_or}
use Rattle.osi_script.specs.Words.{words_of}
use Rattle.osi_script.specs.declared.splitting.Words.{Words}

abbrev pub words_in : Words → List (List ℕ)
words_in words = option_map_or (λ text. words_of text.now) words.rest []
