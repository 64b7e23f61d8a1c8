use Rattle.std.proofs.Common.{arith}
use Rattle.osi_pair.proofs.ending.a_break_is_the_machines.{fresh_at, break_at}
use Rattle.osi_pair.proofs.ending.a_told_side_ends.{told_at}
use Rattle.osi_pair.proofs.standing.how_two_ends_stand.Goals as goal

pub returns-clause-begins : goal.returns-clause-begins
returns-clause-begins c caller called = search (arith, fresh_at, c.whatever_becomes_of_two_carriers.ensures.begins caller called)

pub returns-clause-broken : goal.returns-clause-broken
returns-clause-broken c = break_at (assumption)

pub returns-clause-tells : goal.returns-clause-tells
returns-clause-tells c = told_at (record { behind = c.data_is_no_fault_behind.ensures.under_way; left = c.who_is_left_is_over.ensures })
