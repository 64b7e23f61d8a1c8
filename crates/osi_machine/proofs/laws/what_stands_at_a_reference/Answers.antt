use Rattle.osi_machine.proofs.basics.what_stands_at_a_reference.{with_same, with_other, with_count, more_still, more_last, none_there}
use Rattle.osi_machine.proofs.basics.what_stands_at_a_reference.{some_there, ended_there, cut_there, ended_count, cut_count}
use Rattle.osi_machine.proofs.laws.what_stands_at_a_reference.Goals as goal

pub returns-clause-same : goal.returns-clause-same
returns-clause-same c r lines old new e = with_same r lines old new e

pub returns-clause-other : goal.returns-clause-other
returns-clause-other c q r lines new n = with_other q r lines new n

pub returns-clause-count : goal.returns-clause-count
returns-clause-count c r lines new = with_count r lines new

pub returns-clause-before : goal.returns-clause-before
returns-clause-before c q lines old new e = more_still q lines old new e

pub returns-clause-last : goal.returns-clause-last
returns-clause-last c lines new = more_last lines new

pub returns-clause-none : goal.returns-clause-none
returns-clause-none c q lines h = none_there q lines h

pub returns-clause-some : goal.returns-clause-some
returns-clause-some c q lines h k = some_there q lines h k

pub returns-clause-ended : goal.returns-clause-ended
returns-clause-ended c side keep q lines old e = ended_there side keep q lines old e

pub returns-clause-broken : goal.returns-clause-broken
returns-clause-broken c left right q lines old e = cut_there left right q lines old e

pub returns-clause-ended_count : goal.returns-clause-ended_count
returns-clause-ended_count c side keep lines = ended_count side keep 1 lines

pub returns-clause-broken_count : goal.returns-clause-broken_count
returns-clause-broken_count c left right lines = cut_count left right 1 lines
