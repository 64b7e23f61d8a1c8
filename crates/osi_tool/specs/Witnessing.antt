-- What `judge --script` does, where the reader and the writer tell their octets.
use Rattle.std.specs.Prelude.{ℕ, ◌≤◌, List, length, Option}
use Rattle.std.specs.Io.KnownBytes.{Appends}
use Rattle.osi_tool.specs.Show.{BeginsToAppend}
use Rattle.osi_witness.specs.Witnesses.{Witnesses}

-- a text of at most 16,777,216 octets is a capture of both sides, and this is its script
pub record Scripts (text script : List ℕ) (status : ℕ) : Type 0 where
  pub short : length text ≤ 16777216
  pub witnesses : Witnesses text script status

-- the script of the text is written, and nothing else
pub record Tells (text : List ℕ) (old new : Option (List ℕ)) (status : ℕ) : Type 0 where
  pub script : List ℕ
  pub scripts : Scripts text script status
  pub written : Appends old new script

-- the text has a script, of which a prefix is written, and nothing else
pub record TellsPart (text : List ℕ) (old new : Option (List ℕ)) : Type 0 where
  pub script : List ℕ
  pub status : ℕ
  pub scripts : Scripts text script status
  pub begun : BeginsToAppend old new script
