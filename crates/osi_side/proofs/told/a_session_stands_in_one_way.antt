-- Of a session one state is found after all that passed, and one answer that it owes: for the law that a text has one
-- judgement.
use Rattle.osi_side.proofs.Vocabulary.{◌≡◌, ◌∙◌, refl, sym, subst, ℕ, List, Option, Some, None, arith, Reply, Seen, Member, Stands}
use Rattle.osi_side.proofs.Vocabulary.{StopsBy, IsAtEnd, standing_of, StandsBehind}
use Rattle.osi_side.proofs.walked.a_walk_loses_no_explanation.{takes_one}

one_stop : (s : Seen) (tsdu : List ℕ) (o p : Option Reply) → StopsBy s tsdu o → StopsBy s tsdu p → o ≡ p
one_stop s tsdu None None h k = refl
one_stop s tsdu None (Some q) h k = let e = k.listening in absurd (cc)
one_stop s tsdu (Some r) None h k = let e = h.listening in absurd (cc)
one_stop s tsdu (Some r) (Some q) h k = grind (arith, takes_one s tsdu h.count k.count h.taken k.taken)

one_end : (us : List (List ℕ)) (m : Member) (o p : Option Reply) → IsAtEnd us m o → IsAtEnd us m p → o ≡ p
one_end us m o p h h2 = grind (arith, one_stop)

pub one_stands : (us : List (List ℕ)) (m : Member) (s t : Stands) → StandsBehind us m s → StandsBehind us m t → s ≡ t
one_stands us m s t h k =
    let e = h.goes ∙ sym k.goes in
    let owes = one_end us (standing_of s) s.owes t.owes h.ends (subst (λ (x : Member). IsAtEnd us x t.owes) (sym e) k.ends) in
    λ i. record { taken = (e i).taken; standing = (e i).standing; owes = owes i }
