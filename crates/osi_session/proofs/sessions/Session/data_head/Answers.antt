use Rattle.osi_session.proofs.Vocabulary.{Listener, arith, refl, sent_whole}
use Rattle.osi_session.proofs.tables.what_an_accepted_call_does.{accepts, rests_by}
use Rattle.osi_session.proofs.sessions.Session.data_head.Goals as goal

pub returns : goal.returns
returns c =
    let l : Listener = c.args.self.now in
    let e = c.goes_whole.ensures in
    let a = accepts {v = l} (e.allowed c.if-not-goes_whole.false) refl refl e.sound tt in
    grind (arith, rests_by, sent_whole)
