use Rattle.osi_side.proofs.outlined.an_outline_is_taken_alike.{alone_outline, behind_outline, data_has_one_outline, outline_no_longer}
use Rattle.osi_side.proofs.outlined.an_outline_is_taken_alike.{part_has_one_outline, taken_alike}
use Rattle.osi_side.proofs.laws.an_outline_has_no_user_data.Goals as goal

pub returns-clause-alike : goal.returns-clause-alike
returns-clause-alike c = taken_alike

pub returns-clause-no_longer : goal.returns-clause-no_longer
returns-clause-no_longer c = outline_no_longer

pub returns-clause-alone : goal.returns-clause-alone
returns-clause-alone c = alone_outline

pub returns-clause-behind : goal.returns-clause-behind
returns-clause-behind c = behind_outline

pub returns-clause-data_outline : goal.returns-clause-data_outline
returns-clause-data_outline c = data_has_one_outline

pub returns-clause-part_outline : goal.returns-clause-part_outline
returns-clause-part_outline c = part_has_one_outline
