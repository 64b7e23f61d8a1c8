use Rattle.osi_side.proofs.Vocabulary.{◌≡◌, ℕ, List, drop, word, said_by, Remark, after_word, the_remark, Ever}
use Rattle.osi_side.proofs.walked.sessions_after_a_unit.{SoFar}
use Rattle.osi_side.proofs.kept.all_sessions_are_walked_from.{rest_of}
use Rattle.osi_side.proofs.telling.behind_unit.Given as goal

abbrev pub invariant-members : goal.invariant-members
invariant-members l = record {
  explains : Ever l.heard l.before (λ (us : List (List ℕ)) (later : List Remark).
      SoFar us later (the_remark (word (said_by l.unit)) l.octets l.before) l.members l.next.items l.member-index);
  value : rest_of l.heard (word (said_by l.unit)) l.octets l.before l.next.items (drop l.member-index l.members)
      ≡ after_word l.heard l.octets l.before l.members (word (said_by l.unit));
}
