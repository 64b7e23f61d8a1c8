use Rattle.osi_blameless.proofs.Vocabulary.{said_again, AsSent}
use Rattle.osi_blameless.proofs.shown.a_session_that_is_shown_is_not_to_blame.{not_to_blame}
use Rattle.osi_blameless.proofs.laws.a_session_that_is_shown_is_not_to_blame.Goals as goal

-- what the laws of messages state
as_sent : (c : goal.After-an_honest_session_is_explained) → AsSent
as_sent c = record {
  message = λ m s. said_again m (c.what_is_sent_is_read.ensures.read m s) (c.what_is_sent_is_read.ensures.said m s);
  part = c.what_a_part_says.ensures;
  whole = c.what_leaves_in_parts.ensures.whole;
  parts = c.what_leaves_in_parts.ensures.parts;
  joined = c.what_leaves_in_parts.ensures.joined;
  full = c.what_leaves_in_parts.ensures.full;
}

pub returns : goal.returns
returns c = not_to_blame (as_sent c) c.what_leaves_in_parts.ensures.read c.an_honest_session_is_explained.ensures.caller
    c.an_honest_session_is_explained.ensures.called
