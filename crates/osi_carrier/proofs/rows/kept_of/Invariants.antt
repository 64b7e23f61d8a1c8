use Rattle.osi_carrier.proofs.Vocabulary.{◌≡◌, ◌*◌, ◌≤◌, take, kept_in}
use Rattle.osi_carrier.proofs.rows.kept_of.Given as goal

abbrev pub invariant-loop-row : goal.invariant-loop-row
invariant-loop-row l = (l.octets ≡ kept_in (take l.row-index l.rows)) × (l.octets ≤ 1048576 * l.row-index)
