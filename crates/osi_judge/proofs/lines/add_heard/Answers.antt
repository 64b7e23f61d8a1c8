use Rattle.std.proofs.Common.{arith}
use Rattle.osi_judge.proofs.Vocabulary.{observed, lined}
use Rattle.osi_judge.proofs.what_holds_of_a_result.{on_ok, on_ok_both}
use Rattle.osi_judge.proofs.what_is_kept_of_a_side_is_what_passed.{part_added, end_added}
use Rattle.osi_judge.proofs.lines.add_heard.Goals as goal

pub returns-then-end-clause-ok : goal.returns-then-end-clause-ok
returns-then-end-clause-ok c =
    on_ok_both c.end_part.result c.end_part.ensures.ok c.end_part.ensures.tells (λ e tells s t other a b h. rw c.if-end.true
    (end_added s t (lined c.args.own.now)
    (lined c.end_part.new.self) other a b c.args.at c.since_first-since.result
    (observed c.end_part.new.self.side) c.args.octets.now c.requires c.since_first-since.ensures e tells h))

pub returns-clause-ok : goal.returns-clause-ok
returns-clause-ok c = grind (arith, on_ok, part_added)
