use Rattle.osi_blameless.proofs.Vocabulary.{Option, Some, subst, ◌≡◌, ◌<◌, ◌^◌, List, length, Local, Left, Right, Holding, Direction}
use Rattle.osi_blameless.proofs.Vocabulary.{calls_from, said_again, SpduLaws, Capture, all_proper, Known, can_begin, IsFresh, IsSeen, Run}
use Rattle.osi_blameless.proofs.Vocabulary.{Turn, AreOctets, BreaksFirst, IsFirstOf, first_in, IsFed, comes_to, First, Judge, IsJudged}
use Rattle.osi_blameless.proofs.shown.a_session_that_is_shown_is_not_to_blame.{SessionLaws}
use Rattle.osi_blameless.proofs.blaming.no_end_is_ever_to_blame.{IsBlameless, blameless, blameless_first}
use Rattle.osi_blameless.proofs.blaming.no_end_is_ever_to_blame.{none_among}
use Rattle.osi_blameless.proofs.blaming.the_first_break_of_all_is_of_the_other_side.{neither_first}
use Rattle.osi_blameless.proofs.laws.no_session_of_an_end_is_blamed_first.Goals as goal

-- what the laws of messages and of units state
laws : (c : goal.After-the_first_break_is_the_earliest) → SessionLaws
laws c = record {
  sent = record {
    message = λ m s. said_again m (c.what_is_sent_is_read.ensures.read m s) (c.what_is_sent_is_read.ensures.said m s);
    part = c.what_a_part_says.ensures;
    whole = c.what_leaves_in_parts.ensures.whole;
    parts = c.what_leaves_in_parts.ensures.parts;
    joined = c.what_leaves_in_parts.ensures.joined;
    full = c.what_leaves_in_parts.ensures.full;
  };
  parts = c.what_leaves_in_parts.ensures.read;
  caller = c.an_honest_session_is_explained.ensures.caller;
  called = c.an_honest_session_is_explained.ensures.called;
}

known : (c : goal.After-the_first_break_is_the_earliest) → Known
known c =
    let law : SpduLaws = record { room = c.few_octets_fit.ensures; digits = c.serial_digits.ensures } in
    record { proper = all_proper law c.what_closes_sends_nothing.ensures.octets; can = can_begin law }

-- what a judge tells is the first break
told_first : (c : goal.After-the_first_break_is_the_earliest) (capture : Capture) (t : Judge) (f : First) → IsFed capture t → IsJudged t →
    first_in t ≡ Some f → BreaksFirst f (comes_to capture).course.past
told_first c capture t f was_fed judged told =
    subst (λ (o : Option First). IsFirstOf o (comes_to capture).course.past) told
    (c.the_first_break_is_the_earliest.ensures.first capture t was_fed judged)

-- an end is blameless at a judge of all that passes
blameless_so : (c : goal.After-the_first_break_is_the_earliest) (d : Direction) (local : Local) (begin end : Holding) (turns : List Turn)
    (capture : Capture) → IsFresh (calls_from d) local begin → Run begin turns end → AreOctets capture → IsSeen d turns capture →
    length (comes_to capture).course.past < 2 ^ 64 → IsBlameless d (comes_to capture).course
blameless_so c d local begin end turns capture =
    blameless (known c) (laws c) local capture d begin end turns

pub returns-clause-called : goal.returns-clause-called
returns-clause-called c = λ local begin end turns capture f fresh run octets seen few first.
    blameless_first Right f (comes_to capture).course (blameless_so c Right local begin end turns capture fresh run octets seen few) first

pub returns-clause-calling : goal.returns-clause-calling
returns-clause-calling c = λ local begin end turns capture f fresh run octets seen few first.
    blameless_first Left f (comes_to capture).course (blameless_so c Left local begin end turns capture fresh run octets seen few) first

pub returns-clause-both : goal.returns-clause-both
returns-clause-both c = λ mine theirs begin end called_begin called_end turns called_turns capture first octets fresh run seen called_fresh
    called_run called_seen few is.
    neither_first first (comes_to capture).course.past
    (λ f. blameless_first Left f (comes_to capture).course (blameless_so c Left mine begin end turns capture fresh run octets seen few))
    (λ f. blameless_first Right f (comes_to capture).course
    (blameless_so c Right theirs called_begin called_end called_turns capture called_fresh called_run octets called_seen few)) is

pub returns-clause-called_at_a_judge : goal.returns-clause-called_at_a_judge
returns-clause-called_at_a_judge c = λ local begin end turns capture t f fresh run octets seen few was_fed judged told.
    blameless_first Right f (comes_to capture).course (blameless_so c Right local begin end turns capture fresh run octets seen few)
    (told_first c capture t f was_fed judged told)

pub returns-clause-calling_at_a_judge : goal.returns-clause-calling_at_a_judge
returns-clause-calling_at_a_judge c = λ local begin end turns capture t f fresh run octets seen few was_fed judged told.
    blameless_first Left f (comes_to capture).course (blameless_so c Left local begin end turns capture fresh run octets seen few)
    (told_first c capture t f was_fed judged told)

pub returns-clause-both_at_a_judge : goal.returns-clause-both_at_a_judge
returns-clause-both_at_a_judge c = λ mine theirs begin end called_begin called_end turns called_turns capture t octets fresh run seen
    called_fresh called_run called_seen few was_fed judged.
    neither_first (first_in t) (comes_to capture).course.past
    (λ f. blameless_first Left f (comes_to capture).course (blameless_so c Left mine begin end turns capture fresh run octets seen few))
    (λ f. blameless_first Right f (comes_to capture).course
    (blameless_so c Right theirs called_begin called_end called_turns capture called_fresh called_run octets called_seen few))
    (c.the_first_break_is_the_earliest.ensures.first capture t was_fed judged)

pub returns-clause-called_nowhere : goal.returns-clause-called_nowhere
returns-clause-called_nowhere c = λ local begin end turns capture i j fresh run octets seen few quiet there.
    none_among Right (comes_to capture).course.sessions i j
    (blameless_so c Right local begin end turns capture fresh run octets seen few).never.now there

pub returns-clause-calling_nowhere : goal.returns-clause-calling_nowhere
returns-clause-calling_nowhere c = λ local begin end turns capture i j fresh run octets seen few quiet there.
    none_among Left (comes_to capture).course.sessions i j
    (blameless_so c Left local begin end turns capture fresh run octets seen few).never.now there
