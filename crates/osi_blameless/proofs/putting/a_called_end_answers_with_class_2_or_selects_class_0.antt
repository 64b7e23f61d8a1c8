-- As long as both sides are judged and class 0 is not selected at the judge, each CC that a called end has put and that has not passed
-- selects class 2; or the end has selected class 0, and the CC that says so is the first unit that waits.
-- For all connections of a called end and a judge.
use Rattle.osi_blameless.proofs.Vocabulary.{false, inl, inr, ◌⊎◌, AllByRecursion, Local, Selecting, Joint, HaveSamePlaces, IsOngoing}
use Rattle.osi_side.specs.declared.directions.Direction.TheVariants as side
use Rattle.osi_blameless.specs.transport.Wholes.{begin}
use Rattle.osi_blameless.proofs.keeping.steps_are_events.{whole_of, IsFollowed}
use Rattle.osi_blameless.proofs.putting.a_whole_end_runs_along.{HasLines, lines_or_selects}
use Rattle.osi_blameless.proofs.putting.each_cc_of_a_called_end_opens_another_connection.{put_answers_two}
use Rattle.osi_blameless.proofs.putting.ccs_among_units.{AnswersTwo}

module _ (local : Local) (j : Joint) (f : IsFollowed side.Right (begin false local) j)
    (clear : IsOngoing j.judge.traffic.course) (places : HaveSamePlaces j.judge.traffic.connections j.judge.sessions.live) where
  by : HasLines local (whole_of f) ⊎ Selecting local (whole_of f) → AllByRecursion AnswersTwo j.put ⊎ Selecting local (whole_of f)
  by (inl h) = inl (put_answers_two local (whole_of f) j.judge.sessions h places)
  by (inr z) = inr z

  pub answers_or_selects : AllByRecursion AnswersTwo j.put ⊎ Selecting local (whole_of f)
  answers_or_selects = by (lines_or_selects local j f clear)
