-- Which findings are breaks of the protocol, and where.
use Rattle.std.specs.Prelude.{ℕ, Bool, true, false, Option, Some, None}
use Rattle.osi_side.specs.declared.findings.Finding.{Finding}
use Rattle.osi_side.specs.declared.findings.Finding.TheVariants.{Broke, Left, TooMany}

abbrev pub broke_session : Finding → Bool
broke_session (Broke i) = true
broke_session (Left i) = true
broke_session finding = false

-- the TSDU at which a side broke the protocol, or left the profile
abbrev pub place_of : Finding → Option ℕ
place_of (Broke i) = Some i
place_of (Left i) = Some i
place_of finding = None

-- there were not too many sessions that explain it
abbrev pub is_judged : Finding → Bool
is_judged TooMany = false
is_judged finding = true
