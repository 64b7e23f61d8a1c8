-- A line whose user data was read.
use Rattle.std.specs.Prelude.{ℕ, List, [], Option, option_map}
use Rattle.osi_script.specs.declared.kept.Kept.{Kept}
use Rattle.osi_script.specs.declared.kept.Kept.TheVariants as kept
use Rattle.osi_script.specs.declared.lines.Line.{Line}
use Rattle.osi_script.specs.Commands.{Command}
use Rattle.osi_script.specs.Fronts.{front_command}

-- the octets of user data
abbrev pub octets_kept : Kept → List ℕ
octets_kept kept.None = []
octets_kept (kept.Short octets) = octets
octets_kept (kept.Long octets) = octets.items

-- the command of the line
abbrev pub line_command : Line → Option Command
line_command line = front_command line.front (option_map octets_kept line.user_data)
