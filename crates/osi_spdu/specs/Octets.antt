-- The octets of a value: those computed here, and those borrowed.
use Rattle.std.specs.Prelude.{ℕ, List, ◌++◌, drop}
use Rattle.osi_spdu.specs.declared.octets.Short.{Short}
use Rattle.osi_spdu.specs.declared.octets.Value.{Value}

abbrev pub short_octets : Short → List ℕ
short_octets s = drop s.start s.octets

abbrev pub made_of : Value → List ℕ
made_of v = short_octets v.made

abbrev pub lent_of : Value → List ℕ
lent_of v = v.lent.now

-- all the octets of a value
abbrev pub octets_of : Value → List ℕ
octets_of v = made_of v ++ lent_of v
