-- The effect of `judge`, for a reader and a writer that give access to their octets.
use Rattle.std.specs.Prelude.{◌≡◌, ℕ, ◌-◌, ◌^◌, ◌≤◌, ◌⊎◌, Bool, true, List, length, Option, IfSome}
use Rattle.std.specs.Io.KnownBytes.{Appends}
use Rattle.osi_report.specs.Disputes.{IsJudgement}
use Rattle.osi_tool.specs.Show.{BeginsToAppend}

-- what was found of the text is written, and nothing else
pub record Finds (text : List ℕ) (old new : Option (List ℕ)) (status : ℕ) : Type 0 where
  pub lines : List ℕ
  pub judged : IsJudgement text lines status
  pub written : Appends old new lines

-- a prefix of what was found of the text is written, and nothing else
pub record FindsPart (text : List ℕ) (old new : Option (List ℕ)) : Type 0 where
  pub lines : List ℕ
  pub status : ℕ
  pub judged : IsJudgement text lines status
  pub begun : BeginsToAppend old new lines

-- a read failed, or there were 2^64 - 1 octets to read, or more
abbrev pub FailsToHear : Bool → Option (List ℕ) → Type 0
FailsToHear has_failed known = (has_failed ≡ true) ⊎ IfSome known (λ text. 2 ^ 64 - 1 ≤ length text)
