use Rattle.osi_side.proofs.Vocabulary.{◌≡◌, ◌-◌, ◌∷◌, ◌⊎◌, ◌↔◌, ℕ, List, Some, None, word, said_by, Remark, Explains, way_of, SomeExplains}
use Rattle.osi_side.proofs.Vocabulary.{MayBeAsked, StillOpen, the_remark, Ever}
use Rattle.osi_side.proofs.kept.a_walk_to_a_restart_is_one_function.{rest_of}
use Rattle.osi_side.proofs.restarts.walk_with.Given as goal

abbrev pub invariant-takes : goal.invariant-takes
invariant-takes l = record {
  explains : Ever l.heard l.before (λ (us : List (List ℕ)) (later : List Remark).
      (SomeExplains us l.fn.next.items later ⊎ Explains us (the_remark (word (said_by l.asking.restart)) l.octets l.before ∷ later)
      l.fn.member.taken l.fn.member.standing)
      ↔ StillOpen us later (the_remark (word (said_by l.asking.restart)) l.octets l.before) l.next.items (Some l.asker));
  asked : MayBeAsked (word (said_by l.asking.restart)) (word (said_by l.asking.shown)) l.octets l.asker.asked;
  value : rest_of l.heard (way_of l.asking l.octets) l.before l.next.items l.asker
      ≡ rest_of l.heard (way_of l.asking l.octets) l.before l.fn.next.items (record { at = l.fn.member; asked = None });
}

abbrev pub decreases-takes : goal.decreases-takes
decreases-takes l = l.before - l.asker.at.taken
