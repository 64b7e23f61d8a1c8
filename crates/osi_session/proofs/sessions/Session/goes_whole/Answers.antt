use Rattle.osi_session.proofs.Vocabulary.{leb-true, allowed, most_whole, subst, ◌<◌, ◌≤◌, ℕ, length, arith}
use Rattle.osi_session.proofs.sent.data_with_room_in_one_tsdu.{goes}
use Rattle.osi_session.proofs.sessions.Session.goes_whole.Goals as goal

pub returns-clause-allowed : goal.returns-clause-allowed
returns-clause-allowed c = grind (arith, most_whole, leb-true, allowed, goes)

pub returns-clause-whole : goal.returns-clause-whole
returns-clause-whole c = λ k.
    let user = c.args.user_data.now in
    let some : 0 < length user = grind arith in
    let short : length user ≤ most_whole c.self.inside.state =
    subst (λ (m : ℕ). length user ≤ m) c.self.invariant.5 (leb-true (length user) c.self.inside.room k) in
    grind (arith, goes c.self.inside.state user some short)
