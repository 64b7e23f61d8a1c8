use Rattle.osi_carrier.proofs.Vocabulary.{◌≡◌, ◌^◌, ◌-◌, min, take, backlog_of}
use Rattle.osi_carrier.proofs.rows.backlog_of.Given as goal

abbrev pub invariant-loop-row : goal.invariant-loop-row
invariant-loop-row l = l.octets ≡ min (backlog_of (take l.row-index l.rows)) (2 ^ 64 - 1)
