use Rattle.std.proofs.lemmas.List.Splits.{join_with_byte-slice_split}
use Rattle.osi_script.proofs.laws.words_give_the_line_back.Goals as goal

pub returns : goal.returns
returns c = λ line. join_with_byte-slice_split 32 line
