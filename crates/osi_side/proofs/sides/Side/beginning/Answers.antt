use Rattle.osi_side.proofs.Vocabulary.{◌∙◌, ap, refl, List, [], ◌∷◌, ◌++◌, Kept, Member, Observed}
use Rattle.osi_side.proofs.told.what_is_known_of_a_side.{begins}
use Rattle.osi_side.proofs.sides.Side.beginning.Goals as goal

pub returns-clause-observes : goal.returns-clause-observes
returns-clause-observes c =
    let m : Member = record { taken = 0; standing = c.args.begin } in
    let w : Observed = record {
      begin = c.args.begin;
      heard = c.new.result;
      members = c.push.new.self.items;
      told = 0;
      before = 0;
      finding = Kept;
      by = c.none.result;
    } in
    begins w m c.new.ensures (c.in_ok-push.ensures.items ∙ ap (λ (ms : List Member). ms ++ m ∷ []) c.new-members.ensures.items) refl refl
    refl
    refl
