use Rattle.osi_blameless.proofs.Vocabulary.{Direction, Left, Right, AreOctets, Capture, Holding, IsFresh, IsSeen}
use Rattle.osi_blameless.proofs.Vocabulary.{List, Local, None, Run, Turn, calls_from, comes_to, marks_of, ◌≡◌}
use Rattle.osi_blameless.proofs.keeping.no_unit_of_an_end_breaks_a_rule.{always_unbroken}
use Rattle.osi_blameless.proofs.laws.the_transport_of_an_end_is_blamed_nowhere.Goals as goal

unbroken : (c : goal.After-a_capture_of_an_end_is_steps) (d : Direction) (local : Local) (begin end : Holding) (turns : List Turn)
    (capture : Capture) → IsFresh (calls_from d) local begin → Run begin turns end → AreOctets capture → IsSeen d turns capture →
    (marks_of d (comes_to capture).course).broke ≡ None
unbroken c d local begin end turns capture fresh run octets seen =
    always_unbroken d local begin capture fresh
    (c.a_capture_of_an_end_is_steps.ensures d (calls_from d) local begin end turns capture fresh run octets seen)

pub returns-clause-called : goal.returns-clause-called
returns-clause-called c = unbroken c Right

pub returns-clause-calling : goal.returns-clause-calling
returns-clause-calling c = unbroken c Left
