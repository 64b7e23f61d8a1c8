use Rattle.std.proofs.Common.{◌∙◌, ap, map, List, ℕ}
use Rattle.clap.specs.Words.{is_simple, subcommand_of}
use Rattle.osi_tool.specs.Words.{asked_by, asked_in}
use Rattle.osi_tool.proofs.a_subcommand_is_met_by_its_rows.{osi_is_simple}
use Rattle.osi_tool.proofs.words.subcommand.Goals as goal

pub returns-in-Ok-clause-named : goal.returns-in-Ok-clause-named
unfolding asked_by
returns-in-Ok-clause-named g c =
    let words : List (List ℕ) = map g.S.AsStr.text c.args.words.now in
    let rows = (c.in-Ok.ensures.matches (ap is_simple c.in_ok-command.ensures ∙ osi_is_simple)).1 ∙ ap
    (λ a. subcommand_of a words) c.in_ok-command.ensures in
    c.asked_in.ensures ∙ ap asked_in rows
