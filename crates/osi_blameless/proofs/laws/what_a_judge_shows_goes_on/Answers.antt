use Rattle.osi_blameless.proofs.shown.what_a_judge_shows_goes_on.{end_turns, none_passes, other_begins, other_passes, own_begins}
use Rattle.osi_blameless.proofs.shown.what_a_judge_shows_goes_on.{part_begins, part_passes}
use Rattle.osi_blameless.proofs.laws.what_a_judge_shows_goes_on.Goals as goal

pub returns-clause-part_begins : goal.returns-clause-part_begins
returns-clause-part_begins c = part_begins

pub returns-clause-own_begins : goal.returns-clause-own_begins
returns-clause-own_begins c = own_begins

pub returns-clause-part_passes : goal.returns-clause-part_passes
returns-clause-part_passes c = part_passes

pub returns-clause-none_passes : goal.returns-clause-none_passes
returns-clause-none_passes c = none_passes

pub returns-clause-other_begins : goal.returns-clause-other_begins
returns-clause-other_begins c = other_begins

pub returns-clause-other_passes : goal.returns-clause-other_passes
returns-clause-other_passes c = other_passes

pub returns-clause-turns : goal.returns-clause-turns
returns-clause-turns c = end_turns
