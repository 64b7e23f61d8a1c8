use Rattle.std.proofs.Common.{◌≡◌, sym, subst}
use Rattle.std.specs.Prelude.{OnOk}
use Rattle.osi_c.specs.Subjects.{also, told_by}
use Rattle.osi_c.specs.declared.subjects.Subject.{Subject}
use Rattle.osi_c.proofs.told.Told.add.Goals as goal

pub returns-in-Session-clause-ok : goal.returns-in-Session-clause-ok
returns-in-Session-clause-ok c =
    subst (λ (k : Subject). OnOk c.add_session.result (told_by c.add_session.new.self ≡ also k (told_by c.args.self.now)))
    (sym c.in-Session.is) c.add_session.ensures.ok
