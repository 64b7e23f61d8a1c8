use Rattle.std.proofs.Common.{arith}
use Rattle.osi_spdu.specs.Values.{canonical}
use Rattle.osi_spdu.proofs.basics.values_of_one_octet.{octet_if_one, setting_read}
use Rattle.osi_spdu.proofs.settings.TokenSetting.read.Goals as goal

pub returns-in-len1 : goal.returns-in-len1
unfolding canonical
returns-in-len1 c = grind (arith, octet_if_one, setting_read)
