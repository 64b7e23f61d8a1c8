use Rattle.osi_side.proofs.Vocabulary.{◌≡◌, ◌-◌, ◌↔◌, ℕ, List, ◌∷◌, word, said_by, Remark, Explains, first_sender, reached, the_remark}
use Rattle.osi_side.proofs.Vocabulary.{Ever}
use Rattle.osi_side.proofs.first_places.first_place.Given as goal

abbrev pub invariant-takes : goal.invariant-takes
invariant-takes l = record {
  explains : Ever l.heard l.before (λ (us : List (List ℕ)) (later : List Remark).
      Explains us (the_remark (word (said_by l.unit)) l.octets l.before ∷ later) l.fn.member.taken l.fn.member.standing
      ↔ Explains us (the_remark (word (said_by l.unit)) l.octets l.before ∷ later) l.at.taken l.at.standing);
  value : first_sender (word (said_by l.unit)) l.octets (reached l.heard l.before l.at)
      ≡ first_sender (word (said_by l.unit)) l.octets (reached l.heard l.before l.fn.member);
}

abbrev pub decreases-takes : goal.decreases-takes
decreases-takes l = l.before - l.at.taken
