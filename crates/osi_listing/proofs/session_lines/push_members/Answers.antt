use Rattle.osi_listing.proofs.Vocabulary.{arith, drop_more, drop_all, append-nil}
use Rattle.std.proofs.Common.{◌++◌, List, ℕ, ap}
use Rattle.osi_listing.proofs.fields_one_after_the_other.{joined_fields}
use Rattle.osi_listing.proofs.session_lines.push_members.Goals as goal

pub members-init : goal.members-init
members-init c = ap (λ (t : List ℕ). c.args.text.now.items ++ t) (joined_fields _)

pub members-preserved : goal.members-preserved
members-preserved c = grind (arith, drop_more, c.in_ok-is_first.ensures)

pub returns : goal.returns
returns c = grind (arith, drop_all, append-nil)
