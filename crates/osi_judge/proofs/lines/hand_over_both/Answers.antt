use Rattle.std.proofs.Common.{arith}
use Rattle.osi_judge.proofs.Vocabulary.{◌∙◌, ap, is_unheard}
use Rattle.osi_judge.proofs.what_is_kept_of_a_side_is_what_passed.{flipped}
use Rattle.osi_judge.proofs.what_holds_of_a_result.{on_ok}
use Rattle.osi_judge.proofs.lines.hand_over_both.Goals as goal

pub returns-in-Ok-clause-holds : goal.returns-in-Ok-clause-holds
returns-in-Ok-clause-holds c s t a b h =
    flipped (c.hand_over-in-Ok.ensures.holds t s b a (flipped (c.hand_over.ensures.holds s t a b h)))

pub returns-in-Ok-clause-own : goal.returns-in-Ok-clause-own
returns-in-Ok-clause-own c = grind (arith, on_ok)

pub returns-in-Ok-clause-free : goal.returns-in-Ok-clause-free
returns-in-Ok-clause-free c own beside = c.hand_over-in-Ok.ensures.free (ap is_unheard c.hand_over.ensures.stage ∙ beside)

pub returns-in-Ok-clause-own_finding : goal.returns-in-Ok-clause-own_finding
returns-in-Ok-clause-own_finding c = c.hand_over-in-Ok.ensures.other ∙ c.hand_over.ensures.own

pub returns-in-Ok-clause-other_finding : goal.returns-in-Ok-clause-other_finding
returns-in-Ok-clause-other_finding c = c.hand_over-in-Ok.ensures.own ∙ c.hand_over.ensures.other
