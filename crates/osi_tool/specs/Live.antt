-- The effect of `judge_live`, for a reader and a writer that give access to their octets.
use Rattle.std.specs.Prelude.{◌≡◌, ◌++◌, ◌⊎◌, ℕ, List, Option}
use Rattle.std.specs.Io.KnownBytes.{Appends}
use Rattle.osi_report.specs.Disputes.{IsJudgement}
use Rattle.osi_report.specs.News.{IsTold}
use Rattle.osi_tool.specs.Show.{BeginsToAppend}

-- what was certain of the text while it was read is written, and nothing else: lines of the report of what had passed by then
pub record Announces (text : List ℕ) (old new : Option (List ℕ)) : Type 0 where
  pub told : List ℕ
  pub is_told : IsTold text told
  pub written : Appends old new told

-- a prefix of it
pub record AnnouncesPart (text : List ℕ) (old new : Option (List ℕ)) : Type 0 where
  pub told : List ℕ
  pub is_told : IsTold text told
  pub begun : BeginsToAppend old new told

-- after it what was found of the text
pub record FindsLive (text : List ℕ) (old new : Option (List ℕ)) (status : ℕ) : Type 0 where
  pub told : List ℕ
  pub lines : List ℕ
  pub is_told : IsTold text told
  pub judged : IsJudgement text lines status
  pub written : Appends old new (told ++ lines)

-- or a prefix of the one and the other
pub record FindsLivePart (text : List ℕ) (old new : Option (List ℕ)) : Type 0 where
  pub told : List ℕ
  pub lines : List ℕ
  pub status : ℕ
  pub is_told : IsTold text told
  pub judged : IsJudgement text lines status
  pub begun : BeginsToAppend old new (told ++ lines)

abbrev pub BeginsLive : (text : List ℕ) → (old new : Option (List ℕ)) → Type 0
BeginsLive text old new = AnnouncesPart text old new ⊎ FindsLivePart text old new
