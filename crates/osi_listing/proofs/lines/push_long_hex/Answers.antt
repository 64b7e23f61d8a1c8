use Rattle.std.proofs.Common.{arith}
use Rattle.osi_listing.proofs.fields_one_after_the_other.{hex_ends, hex_goes_on}
use Rattle.osi_listing.proofs.lines.push_long_hex.Goals as goal

pub octets-preserved : goal.octets-preserved
octets-preserved c =
    hex_goes_on c.octets.octet-index c.octets.text.items c.push_octet.new.text.items _ c.args.octets.now (omega arith)
    c.in_ok-push_octet.ensures
    c.octets.invariant

pub returns : goal.returns
returns c = hex_ends c.octets.octet-index c.octets.text.items _ c.args.octets.now (omega arith) c.octets.invariant
