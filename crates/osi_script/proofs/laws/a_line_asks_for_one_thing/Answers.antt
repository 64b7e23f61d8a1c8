use Rattle.std.proofs.Common.{◌≡◌, ◌∙◌, sym, Some}
use Rattle.osi_script.proofs.laws.a_line_asks_for_one_thing.Goals as goal

pub returns : goal.returns
returns c = λ line a b h k. let same : Some a ≡ Some b = sym h ∙ k in cc
