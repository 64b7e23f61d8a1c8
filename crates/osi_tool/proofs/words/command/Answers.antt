use Rattle.std.proofs.Common.{◌∙◌, ap₂}
use Rattle.std.proofs.lemmas.Result.{IfOk-weaker}
use Rattle.clap.specs.Words.{with_subcommand}
use Rattle.osi_tool.specs.Words.{osi}
use Rattle.osi_tool.proofs.words.command.Goals as goal

pub returns : goal.returns
unfolding osi
returns c =
    let one = c.in_ok-subcommand.ensures.shape c.show.ensures.local
    ∙ ap₂ with_subcommand c.in_ok-bare_command.ensures c.show.ensures.shape in
    let two = c.in_ok-subcommand-2.ensures.shape c.pair.ensures.local
    ∙ ap₂ with_subcommand one c.pair.ensures.shape in
    IfOk-weaker c.subcommand-3.result _ _
    (λ command h. h.shape c.in_ok-judge.ensures.local ∙ ap₂ with_subcommand two c.in_ok-judge.ensures.shape) c.subcommand-3.ensures
