-- What each job does with a text.
use Rattle.std.specs.Prelude.{ℕ, Bool, true, false, List, Option, Some, None}
use Rattle.osi_listing.specs.Capture.{IsNoCapture}
use Rattle.osi_tool.specs.declared.jobs.Job.{Job}
use Rattle.osi_tool.specs.declared.jobs.Job.TheVariants.{Show, Pair, Judge, Live, Witness}
use Rattle.osi_tool.specs.Judging.{FailsToHear, Finds, FindsPart}
use Rattle.osi_tool.specs.Live.{BeginsLive, FindsLive}
use Rattle.osi_tool.specs.Pairing.{Pairs, PairsPart}
use Rattle.osi_tool.specs.Show.{FailsToRead, Shows, ShowsPart}
use Rattle.osi_tool.specs.Witnessing.{Tells, TellsPart}

-- all that the job prints of a text is written, and nothing else
abbrev pub Does : Job → (text : List ℕ) → (old new : Option (List ℕ)) → (status : ℕ) → Type 0
Does Show text old new status = Shows text old new status
Does Pair text old new status = Pairs text old new status
Does Judge text old new status = Finds text old new status
Does Live text old new status = FindsLive text old new status
Does Witness text old new status = Tells text old new status

-- a prefix of it is written, and nothing else
abbrev pub BeginsToDo : Job → (text : List ℕ) → (old new : Option (List ℕ)) → Type 0
BeginsToDo Show text old new = ShowsPart text old new
BeginsToDo Pair text old new = PairsPart text old new
BeginsToDo Judge text old new = FindsPart text old new
BeginsToDo Live text old new = BeginsLive text old new
BeginsToDo Witness text old new = TellsPart text old new

-- the job needs a capture, and the text is none; any text is a script
abbrev pub IsUnreadable : Job → (text : List ℕ) → Type 0
IsUnreadable Show text = IsNoCapture text
IsUnreadable Pair text = ⊥
IsUnreadable Judge text = IsNoCapture text
IsUnreadable Live text = IsNoCapture text
IsUnreadable Witness text = IsNoCapture text

-- the longest text of a job; a capture that is judged may have any length
abbrev pub longest : Job → Option ℕ
longest Judge = None
longest Live = None
longest job = Some 16777216

-- a read failed, or the text is too long for the job
abbrev pub FailsToTake : Job → (has_failed : Bool) → Option (List ℕ) → Type 0
FailsToTake Judge has_failed known = FailsToHear has_failed known
FailsToTake Live has_failed known = FailsToHear has_failed known
FailsToTake job has_failed known = FailsToRead has_failed known

-- the job writes what it finds while it reads
abbrev pub is_live : Job → Bool
is_live Live = true
is_live job = false
