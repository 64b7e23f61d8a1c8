use Rattle.osi_blameless.proofs.Vocabulary.{ℕ, ◌<◌, ◌^◌, List, length, Local, Capture, Left, Right, said_again}
use Rattle.osi_blameless.proofs.shown.a_session_that_is_shown_is_not_to_blame.{SessionLaws}
use Rattle.osi_blameless.proofs.Vocabulary.{Direction, calls_from, Holding, SpduLaws, IsFresh, IsSeen, Run, Turn, all_proper, Known}
use Rattle.osi_blameless.proofs.Vocabulary.{can_begin, first_in, comes_to, comes_within, AreOctets}
use Rattle.osi_blameless.proofs.blaming.a_bound_changes_no_first_break.{blameless_within}
use Rattle.osi_blameless.proofs.blaming.a_judge_with_a_bound_holds_what_passed.{first_told, some_told}
use Rattle.osi_blameless.proofs.blaming.no_end_is_ever_to_blame.{IsBlameless, blameless, blameless_first}
use Rattle.osi_blameless.proofs.blaming.no_end_is_ever_to_blame.{none_among}
use Rattle.osi_blameless.proofs.blaming.the_first_break_of_all_is_of_the_other_side.{neither_first}
use Rattle.osi_blameless.proofs.laws.bounded.no_end_is_blamed_first_within_a_bound.Goals as goal

-- what the laws of messages and of units state
laws : (c : goal.After-an_honest_session_is_explained) → SessionLaws
laws c = record {
  sent = record {
    message = λ m s. said_again m (c.what_is_sent_is_read.ensures.read m s) (c.what_is_sent_is_read.ensures.said m s);
    part = c.what_a_part_says.ensures;
    whole = c.what_leaves_in_parts.ensures.whole;
    parts = c.what_leaves_in_parts.ensures.parts;
    joined = c.what_leaves_in_parts.ensures.joined;
    full = c.what_leaves_in_parts.ensures.full;
  };
  parts = c.what_leaves_in_parts.ensures.read;
  caller = c.an_honest_session_is_explained.ensures.caller;
  called = c.an_honest_session_is_explained.ensures.called;
}

known : (c : goal.After-an_honest_session_is_explained) → Known
known c =
    let law : SpduLaws = record { room = c.few_octets_fit.ensures; digits = c.serial_digits.ensures } in
    record { proper = all_proper law c.what_closes_sends_nothing.ensures.octets; can = can_begin law }

-- an end is blameless at a judge with a bound
blameless_so : (c : goal.After-an_honest_session_is_explained) (d : Direction) (local : Local) (begin end : Holding) (turns : List Turn)
    (capture : Capture) (most : ℕ) → IsFresh (calls_from d) local begin → Run begin turns end → AreOctets capture →
    IsSeen d turns capture → length (comes_to capture).course.past < 2 ^ 64 → IsBlameless d (comes_within most capture).course
blameless_so c d local begin end turns capture most fresh run octets seen few =
    blameless_within most d capture
    (blameless (known c) (laws c) local capture d begin end turns fresh run octets seen few)

pub returns-clause-called : goal.returns-clause-called
returns-clause-called c = λ local begin end turns capture most f fresh run octets seen few first.
    blameless_first Right f (comes_within most capture).course
    (blameless_so c Right local begin end turns capture most fresh run octets seen few) first

pub returns-clause-calling : goal.returns-clause-calling
returns-clause-calling c = λ local begin end turns capture most f fresh run octets seen few first.
    blameless_first Left f (comes_within most capture).course
    (blameless_so c Left local begin end turns capture most fresh run octets seen few) first

pub returns-clause-both : goal.returns-clause-both
returns-clause-both c = λ mine theirs begin end called_begin called_end turns called_turns capture most first octets fresh run seen
    called_fresh called_run called_seen few is.
    neither_first first (comes_within most capture).course.past
    (λ f. blameless_first Left f (comes_within most capture).course
    (blameless_so c Left mine begin end turns capture most fresh run octets seen few))
    (λ f. blameless_first Right f (comes_within most capture).course
    (blameless_so c Right theirs called_begin called_end called_turns capture most called_fresh called_run octets called_seen few)) is

pub returns-clause-called_at_a_judge : goal.returns-clause-called_at_a_judge
returns-clause-called_at_a_judge c = λ local begin end turns capture most t f fresh run octets seen few was_fed judged told.
    blameless_first Right f (comes_within most capture).course
    (blameless_so c Right local begin end turns capture most fresh run octets seen few) (some_told most capture t f was_fed judged told)

pub returns-clause-calling_at_a_judge : goal.returns-clause-calling_at_a_judge
returns-clause-calling_at_a_judge c = λ local begin end turns capture most t f fresh run octets seen few was_fed judged told.
    blameless_first Left f (comes_within most capture).course
    (blameless_so c Left local begin end turns capture most fresh run octets seen few) (some_told most capture t f was_fed judged told)

pub returns-clause-both_at_a_judge : goal.returns-clause-both_at_a_judge
returns-clause-both_at_a_judge c = λ mine theirs begin end called_begin called_end turns called_turns capture most t octets fresh run seen
    called_fresh called_run called_seen few was_fed judged.
    neither_first (first_in t) (comes_within most capture).course.past
    (λ f. blameless_first Left f (comes_within most capture).course
    (blameless_so c Left mine begin end turns capture most fresh run octets seen few))
    (λ f. blameless_first Right f (comes_within most capture).course
    (blameless_so c Right theirs called_begin called_end called_turns capture most called_fresh called_run octets called_seen few))
    (first_told most capture t was_fed judged)

pub returns-clause-called_nowhere : goal.returns-clause-called_nowhere
returns-clause-called_nowhere c = λ local begin end turns capture most i j fresh run octets seen few quiet there.
    none_among Right (comes_within most capture).course.sessions i j
    (blameless_so c Right local begin end turns capture most fresh run octets seen few).never.now there

pub returns-clause-calling_nowhere : goal.returns-clause-calling_nowhere
returns-clause-calling_nowhere c = λ local begin end turns capture most i j fresh run octets seen few quiet there.
    none_among Left (comes_within most capture).course.sessions i j
    (blameless_so c Left local begin end turns capture most fresh run octets seen few).never.now there
