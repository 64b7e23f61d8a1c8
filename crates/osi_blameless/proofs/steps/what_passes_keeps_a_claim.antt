-- What a packet that begins, a unit and what can't be read leave true of a judge, a capture leaves true, and so does each step of an end
-- and of the judge.
-- For the first break.
use Rattle.osi_blameless.proofs.Vocabulary.{[], Bool, if◌then◌else◌, length, List, refl, ℕ, ◌++◌, ◌∷◌, ◌≡◌, Value, Capture, of, Direction}
use Rattle.osi_blameless.proofs.Vocabulary.{looks, unit_passes, units_pass, unread, counted, Front, gathered, Streamed, after, begun}
use Rattle.osi_blameless.proofs.Vocabulary.{looked_at, octet_passes, stream_of, with_stream, Cause, Joint, Step, Steps, arith, Course}
use Rattle.osi_blameless.proofs.Vocabulary.{packet_begins}
use Rattle.osi_judge.specs.States.{State}

pub record IsClaim (P : Course → Type 0) : Type 0 where
  pub begins : (d : Direction) (c : Course) → P c → P (packet_begins d c)
  pub passes : (d : Direction) (at : ℕ) (v : Value) (c : Course) → P c → P (unit_passes d at v c)
  pub bad : (d : Direction) (at : ℕ) (cause : Cause) (c : Course) → P c → P (unread d at cause c)

module _ (P : Course → Type 0) (k : IsClaim P) where
  pub units_kept : (d : Direction) (at : ℕ) (vs : List Value) (c : Course) → P c → P (units_pass d at vs c)
  units_kept d at [] c h = h
  units_kept d at (v ∷ vs) c h = units_kept d at vs (unit_passes d at v c) (k.passes d at v c h)

  looked_kept : (d : Direction) (t : Streamed) (f : Front) (s : State) → P s.course → P (looked_at d t f s).course
  looked_kept d t f s h = grind (arith, units_kept)

  octet_by : (b : Bool) (d : Direction) (os : List ℕ) (s : State) → P s.course
      → P (if b then with_stream d (counted (length os) (stream_of d s)) s
      else looks d (gathered os (stream_of d s)) (begun d (stream_of d s).held s)).course
  octet_by b d os s h = grind (arith, looked_kept)

  pub after_kept : (capture : Capture) (s : State) → P s.course → P (after capture s).course
  after_kept [] s h = h
  after_kept (of d o ∷ capture) s h =
      after_kept capture (octet_passes (of d o) s) (octet_by (stream_of d s).spent d (o ∷ []) s h)

  -- the steps of an end and of the judge
  pub step_kept : (d : Direction) (step : Step) (old new : Joint) → Steps d step old new → P old.judge → P new.judge
  step_kept d step old new t h = grind (arith, units_kept)

-- one capture after the other
pub after_join : (front back : Capture) (s : State) → after (front ++ back) s ≡ after back (after front s)
after_join [] back s = refl
after_join (o ∷ front) back s = after_join front back (octet_passes o s)
