use Rattle.osi_blameless.proofs.Vocabulary.{Direction, Left, Right, AreOctets, Capture, Holding, IsFresh, IsSeen}
use Rattle.osi_blameless.proofs.Vocabulary.{List, Local, Run, Turn, calls_from, comes_to}
use Rattle.osi_blameless.proofs.keeping.no_unit_of_an_end_breaks_a_rule.{always_unbroken}
use Rattle.osi_blameless.proofs.blaming.the_first_break_of_all_is_of_the_other_side.{IsUnblamed, capture_unblamed, no_transport}
use Rattle.osi_blameless.proofs.laws.the_transport_of_an_end_is_never_blamed_first.Goals as goal

-- no break of transport is of an end, called or calling
unblamed : (c : goal.After-a_capture_of_an_end_is_steps) (d : Direction) (local : Local) (begin end : Holding) (turns : List Turn)
    (capture : Capture) → IsFresh (calls_from d) local begin → Run begin turns end → AreOctets capture → IsSeen d turns capture →
    IsUnblamed d (comes_to capture).course
unblamed c d local begin end turns capture fresh run octets seen =
    capture_unblamed d capture (always_unbroken d local begin capture fresh
    (c.a_capture_of_an_end_is_steps.ensures d (calls_from d) local begin end turns capture fresh run octets seen))

pub returns-clause-called : goal.returns-clause-called
returns-clause-called c = λ local begin end turns capture f fresh run octets seen.
    (unblamed c Right local begin end turns capture fresh run octets seen).first f

pub returns-clause-calling : goal.returns-clause-calling
returns-clause-calling c = λ local begin end turns capture f fresh run octets seen.
    (unblamed c Left local begin end turns capture fresh run octets seen).first f

pub returns-clause-both : goal.returns-clause-both
returns-clause-both c = λ mine theirs begin end called_begin called_end turns called_turns capture octets fresh run seen called_fresh
    called_run called_seen.
    no_transport (comes_to capture).course (unblamed c Left mine begin end turns capture fresh run octets seen)
    (unblamed c Right theirs called_begin called_end called_turns capture called_fresh called_run octets called_seen)
