-- An end took a packet, or ended: the state of two ends when its users received all indications.
-- For breaks and ends, packets and carries.
use Rattle.osi_pair.proofs.Vocabulary.{◌≡◌, List, None, Held, Between, Step, Tables, run, End, TwoEnds, end_at, noted, side_in, AreArrivals}
use Rattle.osi_pair.proofs.Vocabulary.{Stands, waiting_in, quieted, told_entries, Side}
use Rattle.osi_pair.proofs.turn.a_turn_keeps_the_match.{with_holding}

-- The end of a side, which had not ended, is this one; its users received all pending indications, and the journal says
-- so.
abbrev pub shown_pair : Side → End → Held → TwoEnds → TwoEnds
shown_pair s e h p = noted (told_entries s None e.carrier.ended (waiting_in e.lines))
    (with_holding s (record e { lines = quieted e.lines }) h p)

-- They then match these further steps.
pub record StandsShown (s : Side) (p : TwoEnds) (t : Tables) (e : End) (h : Held) : Type 0 where
  pub more : List Step
  pub are : AreArrivals (side_in s) more
  pub now : Between
  pub local : e.carrier.local ≡ (end_at s p).end.carrier.local
  pub stands : Stands (shown_pair s e h p) now (run t more)
