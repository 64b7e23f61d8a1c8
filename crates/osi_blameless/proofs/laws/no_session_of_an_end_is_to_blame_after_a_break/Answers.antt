use Rattle.osi_blameless.proofs.Vocabulary.{said_again, SpduLaws, all_proper, Known, can_begin, Left, Right, comes_to, Direction, AreOctets}
use Rattle.osi_blameless.proofs.Vocabulary.{Capture, Holding, IsFresh, IsSeen, List, Local, Run, Turn, calls_from, length, ◌<◌, ◌^◌}
use Rattle.osi_blameless.proofs.shown.a_session_that_is_shown_is_not_to_blame.{SessionLaws}
use Rattle.osi_blameless.proofs.blaming.no_end_is_ever_to_blame.{IsBlameless, blameless, none_among}
use Rattle.osi_blameless.proofs.laws.no_session_of_an_end_is_to_blame_after_a_break.Goals as goal

-- what the laws of messages and of units state
laws : (c : goal.After-an_honest_session_is_explained) → SessionLaws
laws c = record {
  sent = record {
    message = λ m s. said_again m (c.what_is_sent_is_read.ensures.read m s) (c.what_is_sent_is_read.ensures.said m s);
    part = c.what_a_part_says.ensures;
    whole = c.what_leaves_in_parts.ensures.whole;
    parts = c.what_leaves_in_parts.ensures.parts;
    joined = c.what_leaves_in_parts.ensures.joined;
    full = c.what_leaves_in_parts.ensures.full;
  };
  parts = c.what_leaves_in_parts.ensures.read;
  caller = c.an_honest_session_is_explained.ensures.caller;
  called = c.an_honest_session_is_explained.ensures.called;
}

known : (c : goal.After-an_honest_session_is_explained) → Known
known c =
    let law : SpduLaws = record { room = c.few_octets_fit.ensures; digits = c.serial_digits.ensures } in
    record { proper = all_proper law c.what_closes_sends_nothing.ensures.octets; can = can_begin law }

blameless_so : (c : goal.After-an_honest_session_is_explained) (d : Direction) (local : Local) (begin end : Holding) (turns : List Turn)
    (capture : Capture) → IsFresh (calls_from d) local begin → Run begin turns end → AreOctets capture → IsSeen d turns capture →
    length (comes_to capture).course.past < 2 ^ 64 → IsBlameless d (comes_to capture).course
blameless_so c d local begin end turns capture =
    blameless (known c) (laws c) local capture d begin end turns

pub returns-clause-called : goal.returns-clause-called
returns-clause-called c = λ local begin end turns capture i j fresh run octets seen few there.
    none_among Right (comes_to capture).course.sessions i j
    (blameless_so c Right local begin end turns capture fresh run octets seen few).never.now there

pub returns-clause-calling : goal.returns-clause-calling
returns-clause-calling c = λ local begin end turns capture i j fresh run octets seen few there.
    none_among Left (comes_to capture).course.sessions i j
    (blameless_so c Left local begin end turns capture fresh run octets seen few).never.now there
