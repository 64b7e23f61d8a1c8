use Rattle.osi_side.proofs.Vocabulary.{subst, ℕ, List, IsFound, observed}
use Rattle.osi_side.proofs.told.what_is_known_of_a_side.{found_as, room_as}
use Rattle.osi_side.proofs.outlined.alike_tsdus_explain_the_same.{found_of_tsdus}
use Rattle.osi_side.proofs.sides.Side.finding.Goals as goal

pub returns-clause-found : goal.returns-clause-found
returns-clause-found c = λ told k. found_as (observed c.args.self.now) told k

-- of the TSDUs whose outlines were heard
pub returns-clause-found_of : goal.returns-clause-found_of
returns-clause-found_of c = λ us told e k.
    let w = observed c.args.self.now in
    found_of_tsdus w.begin us told w.finding (subst (λ (x : List (List ℕ)). IsFound w.begin x told w.finding) e (found_as w told k))

pub returns-clause-room : goal.returns-clause-room
returns-clause-room c = λ told k. room_as (observed c.args.self.now) told k
