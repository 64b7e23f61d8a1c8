use Rattle.osi_transcript.proofs.Vocabulary.{◌≡◌, ◌∙◌, Option, Some, option_map, refl, sym, ap, subst, size_code, window_units, fresh_ends}
use Rattle.osi_transcript.proofs.Vocabulary.{Command, command_by, IsStart}
use Rattle.osi_script.specs.declared.commands.Command.TheVariants.{Ends}
use Rattle.osi_transcript.proofs.transcripts.ends_of.Goals as goal

pub returns-in-Some-Ends : goal.returns-in-Some-Ends
returns-in-Some-Ends c =
    let whole : c.command.result ≡ Some (Ends c.in-Some-Ends.caller c.in-Some-Ends.called c.in-Some-Ends.size c.in-Some-Ends.window) = cc in
    let read = sym c.in_ok-line.ensures ∙ sym c.command.ensures ∙ ap (option_map command_by) whole in
    subst (λ (o : Option Command). IsStart o (fresh_ends c.local.result c.local-in-Some-Ends.result)) (sym read) (record {
      left = c.local.result;
      right = c.local-in-Some-Ends.result;
      is_left = record {
        class0 = c.local.ensures.class0;
        class2 = c.local.ensures.class2;
        size = ap size_code c.local.ensures.size;
        window = ap window_units c.local.ensures.window;
      };
      is_right = record {
        class0 = c.local-in-Some-Ends.ensures.class0;
        class2 = c.local-in-Some-Ends.ensures.class2;
        size = ap size_code c.local-in-Some-Ends.ensures.size;
        window = ap window_units c.local-in-Some-Ends.ensures.window;
      };
      fresh = refl;
    })
