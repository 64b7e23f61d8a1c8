use Rattle.std.proofs.Common.{◌∙◌, sym}
use Rattle.osi_script.proofs.the_beginning_of_a_line_is_read_word_by_word.{verb_read_first}
use Rattle.osi_script.proofs.fronts.behind_verb.Goals as goal

pub returns : goal.returns
returns c = sym c.of-words.ensures ∙ verb_read_first _ _ _ _ c.in_ok-name.ensures.some c.in_ok-verb.ensures
