use Rattle.osi_judge.proofs.Vocabulary.{refl, units_left}
use Rattle.osi_judge.proofs.what_a_packet_still_owes.{rest_owed}
use Rattle.osi_judge.proofs.proceedings.pass_rest.Goals as goal

pub returns-clause-ok : goal.returns-clause-ok
returns-clause-ok c = λ k h.
    let all = units_left c.args.units in
    let o = rest_owed c.args.proceedings.now c.args.direction c.args.at all (units_left c.units_after-rest.result) k
    c.units_after-rest.ensures h in
    let r = c.in_ok-pass_units.ensures.ok all k o in
    record {
      course = record {
        traffic = r.traffic;
        sessions = r.sessions;
        left = r.left;
        right = r.right;
        first = r.first;
        order = r.order;
      };
      told = c.in_ok-pass_units.ensures.told all k o;
      passed = refl;
    }
