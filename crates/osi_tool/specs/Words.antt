-- The words that the program takes.
use Rattle.std.specs.Prelude.{◌≡◌, ℕ, List, codes, Bool, true, false, Option, Some, None, option_map}
use Rattle.std.specs.Option.{option_map_or}
use Rattle.std.specs.Str.{bytes_eq}
use Rattle.clap.specs.Words.{App, Row, Rule, Text, first_of, new_app, new_rule, subcommand_of, with_rule, with_subcommand}
use Rattle.clap.specs.declared.builder.ArgAction.TheVariants.{SetTrue}
use Rattle.clap.specs.declared.error.kind.ErrorKind.{ErrorKind}
use Rattle.clap.specs.declared.error.kind.ErrorKind.TheVariants.{DisplayHelp, DisplayVersion}
use Rattle.clap.specs.declared.error.kind.ErrorKind.TheVariants as kind
use Rattle.osi_tool.specs.declared.faults.WordsFault.{WordsFault}
use Rattle.osi_tool.specs.declared.faults.WordsFault.TheVariants as fault
use Rattle.osi_tool.specs.declared.jobs.Job.{Job}
use Rattle.osi_tool.specs.declared.jobs.Job.TheVariants.{Show, Pair, Judge, Live, Witness}
use Rattle.osi_tool.specs.declared.jobs.Options.{Options}

-- the command `osi`, which needs a subcommand and has a version
abbrev pub top : App
top = record {
  top = record (new_app (codes "osi")).top { has_version = true; subcommand_required = true };
  subs = (new_app (codes "osi")).subs;
}

-- the option of `judge` for a script
abbrev pub script : Rule
script = record (new_rule (codes "script")) { long = Some (codes "script"); action = Some SetTrue }

-- and the one for findings as soon as they are certain
abbrev pub live : Rule
live = record (new_rule (codes "live")) { long = Some (codes "live"); action = Some SetTrue }

-- `judge`
abbrev pub judging : App
judging = with_rule (with_rule (new_app (codes "judge")) script) live

-- the command with its subcommands
unfoldable pub osi : App
osi = with_subcommand (with_subcommand (with_subcommand top (new_app (codes "show")).top) (new_app (codes "pair")).top) judging.top

-- the subcommand of a job, and its options; no job has both
abbrev pub with_options : (script live : Bool) → Options
with_options script live = record { script = script; live = live }

abbrev pub asked_of : Job → List ℕ × Options
asked_of Show = (codes "show", with_options false false)
asked_of Pair = (codes "pair", with_options false false)
asked_of Judge = (codes "judge", with_options false false)
asked_of Live = (codes "judge", with_options false true)
asked_of Witness = (codes "judge", with_options true false)

-- that is what is asked for in a job
abbrev pub IsJob : Option (List ℕ × Options) → Type 0
IsJob asked = (job : Job) × (asked ≡ Some (asked_of job))

-- an option is there
abbrev pub is_set : (name : List ℕ) → List Row → Bool
is_set name rows = option_map_or (λ text. bytes_eq text (codes "true")) (first_of name rows) false

abbrev pub options_in : List Row → Options
options_in rows = with_options (is_set (codes "script") rows) (is_set (codes "live") rows)

-- a subcommand by its rows
abbrev pub asked_in : Option (Text × List Row) → Option (List ℕ × Options)
asked_in = option_map (λ p. (p.0, options_in p.1))

-- the subcommand that clap's matches give for the words, and its options
unfoldable pub asked_by : List Text → Option (List ℕ × Options)
asked_by words = asked_in (subcommand_of osi words)

-- the fault of arguments in which clap finds no job; a request for help or the version is no fault
abbrev pub words_fault : ErrorKind → Option WordsFault
words_fault DisplayHelp = None
words_fault DisplayVersion = None
words_fault kind.OutOfMemory = Some fault.OutOfMemory
words_fault other = Some fault.Words
