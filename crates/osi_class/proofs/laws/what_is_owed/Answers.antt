use Rattle.osi_class.proofs.between.owed_acks_keep_the_counts as owed
use Rattle.osi_class.proofs.laws.what_is_owed.Goals as goal

pub returns-clause-begins : goal.returns-clause-begins
returns-clause-begins c = owed.begins

pub returns-clause-kept : goal.returns-clause-kept
returns-clause-kept c = owed.step_keeps

pub returns-clause-window_kept : goal.returns-clause-window_kept
returns-clause-window_kept c = owed.step_window

pub returns-clause-always : goal.returns-clause-always
returns-clause-always c = owed.always
