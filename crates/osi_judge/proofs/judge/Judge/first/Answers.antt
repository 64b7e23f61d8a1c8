use Rattle.osi_judge.proofs.a_capture_has_one_first_break.{first_held, nobody_held, still_held}
use Rattle.osi_judge.proofs.judge.Judge.first.Goals as goal

pub returns-clause-first : goal.returns-clause-first
returns-clause-first c s h judged = first_held c.args.self.now s h judged

pub returns-clause-none : goal.returns-clause-none
returns-clause-none c s h judged none = nobody_held c.args.self.now s h judged none

pub returns-clause-still : goal.returns-clause-still
returns-clause-still c s f h judged some = still_held c.args.self.now s f h judged some
