use Rattle.osi_side.proofs.Vocabulary.{◌≡◌, ◌∙◌, ap, false, subst, List, refl, Member, foremost, is_empty, IsAmong, observed}
use Rattle.osi_side.proofs.told.how_a_session_comes_on.{stands_ok}
use Rattle.osi_side.proofs.sides.Side.stands.Goals as goal

pub returns : goal.returns
returns c =
    stands_ok c.stands_behind.result (observed c.args.self.now) c.args.self.now.heard c.foremost.result refl
    (c.foremost.ensures.value ∙ ap foremost c.deref.ensures.value)
    (subst (λ (x : List Member). is_empty x ≡ false → IsAmong c.foremost.result x) c.deref.ensures.value c.foremost.ensures.among)
    c.stands_behind.ensures
