use Rattle.std.proofs.Common.{◌∙◌, ap, true}
use Rattle.clap.specs.Words.{App}
use Rattle.clap.specs.Simple.{app_of_fields}
use Rattle.osi_tool.proofs.words.bare_command.Goals as goal

-- the command that needs a subcommand
abbrev wanting : App → App
wanting a = record { top = record a.top { subcommand_required = true }; subs = a.subs }

-- and has a version
abbrev telling : App → App
telling a = record { top = record a.top { has_version = true; subcommand_required = true }; subs = a.subs }

pub returns : goal.returns
returns c =
    ap app_of_fields c.subcommand_required.ensures
    ∙ ap (λ f. wanting (app_of_fields f)) c.in_ok-command.ensures.0
    ∙ ap (λ f. wanting (app_of_fields f)) c.version.ensures
    ∙ ap (λ f. telling (app_of_fields f)) c.about.ensures
    ∙ ap telling c.new.ensures.app
