-- The effect of `pair`, for a reader and a writer that give access to their octets.
use Rattle.std.specs.Prelude.{ℕ, ◌≤◌, List, length, Option}
use Rattle.std.specs.Io.KnownBytes.{Appends}
use Rattle.osi_script.specs.Cutting.{lines_of}
use Rattle.osi_tool.specs.Show.{BeginsToAppend}
use Rattle.osi_transcript.specs.Numbered.{numbered}
use Rattle.osi_transcript.specs.Playing.{Transcribes}

-- a text of at most 16,777,216 octets is a script, and these lines are its transcript
pub record Tells (text lines : List ℕ) (status : ℕ) : Type 0 where
  pub short : length text ≤ 16777216
  pub told : Transcribes (numbered 1 (lines_of text)) lines status

-- the transcript of the text is written, and nothing else
pub record Pairs (text : List ℕ) (old new : Option (List ℕ)) (status : ℕ) : Type 0 where
  pub lines : List ℕ
  pub tells : Tells text lines status
  pub written : Appends old new lines

-- the text has a transcript, of which a prefix is written and nothing else
pub record PairsPart (text : List ℕ) (old new : Option (List ℕ)) : Type 0 where
  pub lines : List ℕ
  pub status : ℕ
  pub tells : Tells text lines status
  pub begun : BeginsToAppend old new lines
