-- How the program ends: its status, and the line on standard error.
use Rattle.std.specs.Prelude.{ℕ, List, codes, Option, Some, None, Result, Ok, Err}
use Rattle.osi_tool.specs.declared.faults.ToolFault.TheVariants.{Input, BadHex, Write, OutOfMemory}
use Rattle.osi_tool.specs.declared.faults.WordsFault.TheVariants as words
use Rattle.osi_tool.specs.declared.faults.ProgramFault.{ProgramFault}
use Rattle.osi_tool.specs.declared.faults.ProgramFault.TheVariants.{Words, Tool}

-- the line of a fault
abbrev pub fault_line : ProgramFault → List ℕ
fault_line (Words words.Words) = codes "osi: Words"
fault_line (Words words.Write) = codes "osi: Write"
fault_line (Words words.OutOfMemory) = codes "osi: OutOfMemory"
fault_line (Tool Input) = codes "osi: Input"
fault_line (Tool BadHex) = codes "osi: BadHex"
fault_line (Tool Write) = codes "osi: Write"
fault_line (Tool OutOfMemory) = codes "osi: OutOfMemory"

-- a job that was done has a status; after a fault it is 2
abbrev pub status_of : Result ℕ ProgramFault → ℕ
status_of (Ok status) = status
status_of (Err fault) = 2

-- a fault has a line
abbrev pub line_of : Result ℕ ProgramFault → Option (List ℕ)
line_of (Ok status) = None
line_of (Err fault) = Some (fault_line fault)
