-- Bounds, and the numbers of the small types.
use Rattle.std.specs.Prelude.{ℕ}
use Rattle.osi_class.specs.declared.limits.Credit.{Credit}

-- the most octets of a TSDU that is taken
abbrev pub longest_tsdu : ℕ
longest_tsdu = 1048576

abbrev pub credit_units : Credit → ℕ
credit_units c = c.units
