use Rattle.osi_report.proofs.Vocabulary.{◌≡◌, ◌≤◌, ◌+◌, drop, digits_on, digits_left}
use Rattle.osi_report.proofs.pieces.digits_on.Given as goal

abbrev pub invariant-octets : goal.invariant-octets
invariant-octets l =
    (l.counter.digits + digits_left l.counter.in_comment (drop l.octet-index l.line) ≡ digits_on l.line)
    × (l.counter.digits ≤ l.octet-index)
