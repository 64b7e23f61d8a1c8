use Rattle.osi_side.proofs.Vocabulary.{◌≡◌, ◌-◌, ℕ, List, None, word, said_by, Remark, the_remark, Ever, Walked}
use Rattle.osi_side.proofs.kept.a_walk_keeps_who_sends_on_the_way.{rest_of}
use Rattle.osi_side.proofs.walks.walk_through.Given as goal

abbrev pub invariant-takes : goal.invariant-takes
invariant-takes l = record {
  explains : Ever l.heard l.before (λ (us : List (List ℕ)) (later : List Remark).
      Walked us later (the_remark (word (said_by l.unit)) l.octets l.before) l.fn.next.items l.next.items
      (record { at = l.fn.member; said_before = None }) l.walker);
  value : rest_of l.heard (word (said_by l.unit)) l.octets l.before l.next.items l.walker
      ≡ rest_of l.heard (word (said_by l.unit)) l.octets l.before l.fn.next.items (record { at = l.fn.member; said_before = None });
}

abbrev pub decreases-takes : goal.decreases-takes
decreases-takes l = l.before - l.walker.at.taken
