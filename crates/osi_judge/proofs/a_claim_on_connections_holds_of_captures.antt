-- A claim on the connections of a byte connection holds of every capture, if it holds before, and stays as a packet begins and as a unit
-- is for one of them: for laws on what is kept of a connection.
use Rattle.std.proofs.Common.{arith}
use Rattle.osi_judge.proofs.Vocabulary.{ℕ, Bool, if◌then◌else◌, List, [], ◌∷◌, length, Option, Meaning, Reach, Told, Value, Capture, of}
use Rattle.osi_judge.proofs.Vocabulary.{Direction, Cause, Mark, Marks, Sessions, all_begin, taken, Course, marked, changes, noted_by}
use Rattle.osi_judge.proofs.Vocabulary.{unit_passes, units_pass, unread, Front, Streamed, counted, gathered, State, stream_of, with_stream}
use Rattle.osi_judge.proofs.Vocabulary.{looked_at, begun, octet_passes, after}
use Rattle.osi_judge.proofs.a_piece_comes_to_what_its_octets_do.{looks}

pub record IsClaim (P : Sessions → Type 0) : Type 0 where
  pub begins : (d : Direction) (s : Sessions) → P s → P (all_begin d s)
  pub takes : (d : Direction) (at : ℕ) (v : Value) (m : Meaning) (place : Option ℕ) (s : Sessions) → P s → P (taken d at v m place s)

module _ (P : Sessions → Type 0) (k : IsClaim P) where
  changes_kept : (d : Direction) (f : Marks → Marks) (c : Course) → P c.sessions → P (changes d f c).sessions
  changes_kept d f c h = grind arith

  marked_kept : (m : Mark) (r : Reach) (c : Course) → P c.sessions → P (marked m r c).sessions
  marked_kept m r c h = grind (arith, changes_kept)

  noted_kept : (d : Direction) (at : ℕ) (v : Value) (told : Told) (o : Option Cause) (c : Course) → P c.sessions
      → P (noted_by d at v told o c).sessions
  noted_kept d at v told o c h = grind (arith, marked_kept)

  units_kept : (d : Direction) (at : ℕ) (vs : List Value) (c : Course) → P c.sessions → P (units_pass d at vs c).sessions
  units_kept d at [] c h = h
  units_kept d at (v ∷ vs) c h = units_kept d at vs (unit_passes d at v c) (grind (arith, noted_kept))

  unread_kept : (d : Direction) (at : ℕ) (cause : Cause) (c : Course) → P c.sessions → P (unread d at cause c).sessions
  unread_kept d at cause c h = grind (arith, marked_kept)

  -- ---- octets

  looked_kept : (d : Direction) (t : Streamed) (f : Front) (s : State) → P s.course.sessions → P (looked_at d t f s).course.sessions
  looked_kept d t f s h = grind (arith, unread_kept, units_kept)

  begun_kept : (d : Direction) (held : List ℕ) (s : State) → P s.course.sessions → P (begun d held s).course.sessions
  begun_kept d [] s h = k.begins d s.course.sessions h
  begun_kept d (o ∷ held) s h = h

  octet_by : (b : Bool) (d : Direction) (os : List ℕ) (s : State) → P s.course.sessions
      → P (if b then with_stream d (counted (length os) (stream_of d s)) s
      else looks d (gathered os (stream_of d s)) (begun d (stream_of d s).held s)).course.sessions
  octet_by b d os s h = grind (arith, looked_kept, begun_kept)

  pub after_kept : (capture : Capture) (s : State) → P s.course.sessions → P (after capture s).course.sessions
  after_kept [] s h = h
  after_kept (of d o ∷ capture) s h =
      after_kept capture (octet_passes (of d o) s) (octet_by (stream_of d s).spent d (o ∷ []) s h)
