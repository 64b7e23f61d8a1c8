use Rattle.std.proofs.Common.{arith}
use Rattle.osi_judge.proofs.Vocabulary.{◌≡◌, ap, Outcome, outcome, takes, value, way_of, applied}
use Rattle.osi_judge.proofs.proceedings.Proceedings.tell_anew.Goals as goal

pub returns-clause-ok : goal.returns-clause-ok
returns-clause-ok c at k h =
    let v = value c.args.unit.now in
    let d = c.args.direction in
    let o = takes (way_of d) v k.traffic in
    let e : outcome c.in_ok-told.told c.take.new.self ≡ o = grind arith in
    record {
      by_now = record k { traffic = o.state };
      holds = grind arith;
      comes = ap (λ (x : Outcome). applied d at v x.told (record k { traffic = o.state })) e;
    }
