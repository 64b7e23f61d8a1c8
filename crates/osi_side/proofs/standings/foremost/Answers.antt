use Rattle.std.proofs.Common.{arith}
use Rattle.osi_side.proofs.Vocabulary.{◌∙◌, sym, ap, ◌+◌, drop, fold, Member, before_of}
use Rattle.osi_side.specs.Foremost.{foremost}
use Rattle.osi_side.proofs.told.how_a_session_comes_on.{among_next}
use Rattle.osi_side.proofs.told.the_nearest_of_all_sessions_is_told.{one_more, no_more}
use Rattle.osi_side.proofs.standings.foremost.Goals as goal

pub members-init : goal.members-init
members-init c = grind arith

pub members-preserved : goal.members-preserved
members-preserved c =
    let x = c.member-item.result in
    let rest = drop (c.members.member-index + 1) c.args.members.now in
    record {
      among = grind (arith, among_next);
      value = ap (λ (m : Member). fold before_of m rest) c.before_of-best.ensures.value
          ∙ sym (one_more before_of c.members.best c.args.members.now c.members.member-index x c.members-test.true c.member-item.is)
          ∙ c.members.invariant.value;
    }

pub returns-clause-value : goal.returns-clause-value
unfolding foremost
returns-clause-value c = grind (arith, no_more)
