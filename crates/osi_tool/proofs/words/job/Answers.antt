use Rattle.std.proofs.Common.{◌∙◌}
use Rattle.osi_tool.proofs.words.job.Goals as goal

pub returns-in_ok-no_subcommand-in-None-clause-taken : goal.returns-in_ok-no_subcommand-in-None-clause-taken
returns-in_ok-no_subcommand-in-None-clause-taken g c = λ taken named.
    absurd (c.in-None.ensures.none (named.0, c.in-Ok.ensures.named ∙ named.1))
