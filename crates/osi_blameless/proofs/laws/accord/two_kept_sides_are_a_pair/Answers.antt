use Rattle.osi_blameless.proofs.accord.two_kept_sides_run_together.{accord_on, not_blamed, past_tells, judge_tells}
use Rattle.osi_blameless.proofs.laws.accord.two_kept_sides_are_a_pair.Goals as goal

pub returns : goal.returns
returns c = record { pair = accord_on; only = not_blamed; told = judge_tells; over = past_tells }
