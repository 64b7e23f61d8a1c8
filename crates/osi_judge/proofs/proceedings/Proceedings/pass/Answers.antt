use Rattle.std.proofs.Common.{arith}
use Rattle.osi_judge.proofs.Vocabulary.{◌+◌, subst, None, value, Course, moved, moment_of, taken, HoldsCourse, HoldsPassed}
use Rattle.osi_judge.proofs.no_break_was_before_the_first.{unit_earliest}
use Rattle.osi_judge.proofs.what_holds_of_a_result.{any_err}
use Rattle.osi_judge.proofs.proceedings.Proceedings.pass.Goals as goal

pub returns-in_err-told-clause-err : goal.returns-in_err-told-clause-err
returns-in_err-told-clause-err c = grind (arith, any_err)

pub returns-in_err-told-clause-as_many : goal.returns-in_err-told-clause-as_many
returns-in_err-told-clause-as_many c = any_err c.from_residual.result c.in_err-told.ensures.passed

pub returns-in_err-take-clause-err : goal.returns-in_err-take-clause-err
returns-in_err-take-clause-err c = grind (arith, any_err)

pub returns-in_err-take-clause-as_many : goal.returns-in_err-take-clause-as_many
returns-in_err-take-clause-as_many c = any_err c.from_residual-in_err-take.result c.in_ok-told.ensures.passed

pub returns-clause-ok : goal.returns-clause-ok
returns-clause-ok c k h =
    let t = c.in_ok-told.ensures.ok c.args.at k h in
    let told = c.in_ok-told.told in
    let d = c.args.direction in
    let v = value c.args.unit.now in
    let next = moved (moment_of d c.args.at v told (taken d c.args.at v told.meaning told.place t.by_now.sessions)) t.by_now in
    let p : HoldsPassed (record c.tell.new.self { sessions = c.take.new.self }) next = record {
      traffic = t.holds.traffic;
      sessions = c.in_ok-take.ensures.ok _ t.holds.sessions;
      left = t.holds.left;
      right = t.holds.right;
      first = t.holds.first;
    } in
    let r = c.note.ensures.holds next p in
    subst (λ (x : Course). HoldsCourse (record c.note.new.self { told = None; passed = c.note.new.self.passed + 1 }) x) t.comes
    (record {
      traffic = r.traffic;
      sessions = r.sessions;
      left = r.left;
      right = r.right;
      first = r.first;
      order = unit_earliest d c.args.at v told t.by_now c.tell.new.self.first c.note.new.self.first t.holds.order
          (λ e number. c.in_ok-take.ensures.still t.by_now.sessions e number t.holds.sessions)
          (c.in_ok-take.ensures.others t.by_now.sessions t.holds.sessions) (c.note.ensures.first next p)
          (λ f e. c.note.ensures.kept next f p e);
    })
