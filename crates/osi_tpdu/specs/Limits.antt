-- The numbers and octets of the small types with a bound.
use Rattle.std.specs.Prelude.{ℕ, List, take}
use Rattle.osi_tpdu.specs.declared.limits.SizeCode.{SizeCode}
use Rattle.osi_tpdu.specs.declared.limits.Window.{Window}
use Rattle.osi_tpdu.specs.declared.tsaps.Selector.{Selector}
use Rattle.osi_tpdu.specs.declared.tsaps.Tsap.{Tsap}

-- the exponent of the size
abbrev pub size_code : SizeCode → ℕ
size_code s = s.code

abbrev pub window_units : Window → ℕ
window_units w = w.units

abbrev pub tsap_octets : Tsap → List ℕ
tsap_octets t = take t.len t.octets

abbrev pub selector_octets : Selector → List ℕ
selector_octets s = s.octets.now
