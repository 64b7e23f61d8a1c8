use Rattle.std.proofs.Common.{◌≡◌, ◌-◌, ◌<◌, ◌≤◌, ℕ, true, get_or, length}
use Rattle.memchr.specs.Find.{is_byte}
use Rattle.osi_script.proofs.splitting.first_blank.Given as goal

abbrev pub invariant-octets : goal.invariant-octets
invariant-octets l = (l.index ≤ length l.line) × ((k : ℕ) → k < l.index → is_byte 32 (get_or l.line k 0) ≡ true → ⊥)

abbrev pub decreases-octets : goal.decreases-octets
decreases-octets l = length l.line - l.index
