use Rattle.std.proofs.Common.{◌≡◌, ◌+◌, ◌≤◌, ◌++◌, take}
use Rattle.std.specs.Prelude.{vec_len, vec_capacity}
use Rattle.osi_script.proofs.texts.put_octets.Given as goal

abbrev pub invariant-octets : goal.invariant-octets
invariant-octets l =
    (l.text.items ≡ l.fn.text.items ++ take l.octet-index l.octets)
    × (vec_len l.text ≡ vec_len l.fn.text + l.octet-index)
    × (vec_capacity l.fn.text ≤ vec_capacity l.text)
