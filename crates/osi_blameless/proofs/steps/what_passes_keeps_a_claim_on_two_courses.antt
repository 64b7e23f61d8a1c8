-- What a packet that begins, a unit and what can't be read leave true of two courses, a capture leaves true, if both have read the same.
-- For judges with a bound.
use Rattle.osi_blameless.proofs.Vocabulary.{arith, ◌≡◌, refl, subst, ℕ, Bool, true, false, if◌then◌else◌, List, [], ◌∷◌, length, Result}
use Rattle.osi_blameless.proofs.Vocabulary.{Value, TpduFault, Capture, of, Direction, Left, Right, Cause, BadPacket, Course, packet_begins}
use Rattle.osi_blameless.proofs.Vocabulary.{packet_by, unit_passes, units_pass, unread, Front, Streamed, counted, faulty, gathered, partial}
use Rattle.osi_blameless.proofs.Vocabulary.{whole, after, begun, looked_at, octet_passes, with_stream, looks}
use Rattle.osi_judge.specs.States.{State}

pub record IsClaim (P : Course → Course → Type 0) : Type 0 where
  pub begins : (d : Direction) (c e : Course) → P c e → P (packet_begins d c) (packet_begins d e)
  pub passes : (d : Direction) (at : ℕ) (v : Value) (c e : Course) → P c e → P (unit_passes d at v c) (unit_passes d at v e)
  pub bad : (d : Direction) (at : ℕ) (cause : Cause) (c e : Course) → P c e → P (unread d at cause c) (unread d at cause e)

module _ (P : Course → Course → Type 0) (k : IsClaim P) where
  -- two states that have read the same, of whose courses it is true
  pub record AreBoth (s t : State) : Type 0 where
    pub course : Course
    pub same : record s { course = course } ≡ t
    pub so : P s.course course

  units_kept : (d : Direction) (at : ℕ) (vs : List Value) (c e : Course) → P c e → P (units_pass d at vs c) (units_pass d at vs e)
  units_kept d at [] c e h = h
  units_kept d at (v ∷ vs) c e h = units_kept d at vs (unit_passes d at v c) (unit_passes d at v e) (k.passes d at v c e h)

  read_kept : (d : Direction) (at : ℕ) (read : Result (List Value) TpduFault) (c e : Course) → P c e →
      P (packet_by d at read c) (packet_by d at read e)
  read_kept d h h2 c e h3 = grind (arith, units_kept)

  looked_kept : (d : Direction) (t : Streamed) (f : Front) (s : State) (e : Course) → P s.course e →
      AreBoth (looked_at d t f s) (looked_at d t f (record s { course = e }))
  looked_kept Left t partial s e h = record { course = e; same = refl; so = h }
  looked_kept Right t partial s e h = record { course = e; same = refl; so = h }
  looked_kept Left t (faulty fault) s e h = record {
    course = unread Left t.at (BadPacket fault) e;
    same = refl;
    so = k.bad Left t.at (BadPacket fault) s.course e h;
  }
  looked_kept Right t (faulty fault) s e h = record {
    course = unread Right t.at (BadPacket fault) e;
    same = refl;
    so = k.bad Right t.at (BadPacket fault) s.course e h;
  }
  looked_kept Left t (whole unit) s e h = grind (arith, read_kept)
  looked_kept Right t (whole unit) s e h = grind (arith, read_kept)

  begun_kept : (d : Direction) (held : List ℕ) (s : State) (e : Course) → P s.course e →
      AreBoth (begun d held s) (begun d held (record s { course = e }))
  begun_kept d [] s e h = record { course = packet_begins d e; same = refl; so = k.begins d s.course e h }
  begun_kept d (o ∷ held) s e h = grind arith

  then_looked : (d : Direction) (t : Streamed) (s u : State) → AreBoth s u → AreBoth (looks d t s) (looks d t u)
  then_looked d t s u b = grind (arith, looks, looked_kept)

  -- an octet of a side, of which these octets are held
  left_by : (b : Bool) (os : List ℕ) (s : State) (e : Course) → P s.course e →
      AreBoth (if b then with_stream Left (counted (length os) s.left) s else looks Left (gathered os s.left) (begun Left s.left.held s))
      (if b then with_stream Left (counted (length os) s.left) (record s { course = e })
      else looks Left (gathered os s.left) (begun Left s.left.held (record s { course = e })))
  left_by true os s e h = record { course = e; same = refl; so = h }
  left_by false os s e h = search (arith, then_looked, begun_kept)

  right_by : (b : Bool) (os : List ℕ) (s : State) (e : Course) → P s.course e →
      AreBoth (if b then with_stream Right (counted (length os) s.right) s
      else looks Right (gathered os s.right) (begun Right s.right.held s))
      (if b then with_stream Right (counted (length os) s.right) (record s { course = e })
      else looks Right (gathered os s.right) (begun Right s.right.held (record s { course = e })))
  right_by true os s e h = record { course = e; same = refl; so = h }
  right_by false os s e h = search (arith, then_looked, begun_kept)

  octet_kept : (d : Direction) (o : ℕ) (s : State) (e : Course) → P s.course e →
      AreBoth (octet_passes (of d o) s) (octet_passes (of d o) (record s { course = e }))
  octet_kept Left o s e h = left_by s.left.spent (o ∷ []) s e h
  octet_kept Right o s e h = right_by s.right.spent (o ∷ []) s e h

  pub after_kept : (capture : Capture) (s t : State) → AreBoth s t → P (after capture s).course (after capture t).course
  after_kept [] s t b = subst (λ (x : State). P s.course x.course) b.same b.so
  after_kept (of d o ∷ capture) s t b =
      after_kept capture (octet_passes (of d o) s) (octet_passes (of d o) t)
      (subst (λ (x : State). AreBoth (octet_passes (of d o) s) (octet_passes (of d o) x)) b.same (octet_kept d o s b.course b.so))
