-- What C is told of a side of a connection is by what was found of what passed on it, and its references are those that passed.
-- For the functions of `notes` and `verdicts`.
use Rattle.std.proofs.Common.{arith, ◌≡◌, ◌∙◌, sym, ℕ, Bool, Option, Some, None}
use Rattle.std.specs.Prelude.{◌&&◌, not}
use Rattle.osi_side.specs.declared.directions.Direction.{Direction}
use Rattle.osi_side.specs.declared.findings.Finding.{Finding}
use Rattle.osi_judge.specs.declared.outcomes.Outcome.{Outcome}
use Rattle.osi_judge.specs.declared.outcomes.Outcome.TheVariants as outcome
use Rattle.osi_judge.specs.declared.outcomes.Violation.{Violation}
use Rattle.osi_judge.specs.declared.sessions.Found.{Found}
use Rattle.osi_judge.specs.Outcomes.{IsOutcomeOf, violation_of}
use Rattle.osi_side.specs.Captures.{other}
use Rattle.osi_judge.specs.declared.connections.Connection.{Connection}
use Rattle.osi_judge.specs.Connections.{Joined, spoken}
use Rattle.osi_judge.specs.Holding.{line_in, HoldsEither, HoldsFound, HoldsJoined, IsHeard, IsPlace}
use Rattle.osi_judge.specs.Rooms.{is_over}
use Rattle.osi_judge.proofs.the_session_of_a_side_is_known.{session_at}
use Rattle.osi_report.specs.Telling.{is_dropped, leaves}
use Rattle.osi_report.proofs.a_report_says_what_a_judge_holds.{found_leaves}
use Rattle.osi_c.specs.Notes.{note_of_found, note_of_outcome, note_unless, IsNoteOf, IsNoteAt}
use Rattle.osi_c.specs.Verdicts.{named_in}
use Rattle.osi_c.specs.declared.notes.Note.{Note}
use Rattle.osi_c.specs.declared.notes.Note.TheVariants.{Silent}
use Rattle.osi_c.specs.declared.verdicts.References.{References}

-- the note that is made of what was found of both sides
pub note_is : (d : Direction) (c : Connection) (j : Joined) (f g : Finding) (o : ℕ) (b : Violation) (dropped over : Bool) (n m : Note)
    → HoldsJoined c j → IsHeard c → f ≡ (line_in d c).side.finding → g ≡ (line_in (other d) c).side.finding
    → b ≡ violation_of (line_in d c).side.by → IsPlace (line_in d c).side.finding (spoken d j).said o → over ≡ is_over j.room
    → dropped ≡ is_dropped f g → m ≡ note_of_found over f o b → n ≡ note_unless dropped m → IsNoteOf d j n
note_is d c j f g o b dropped over n m h k own beside by place passed drops found is = grind (arith, session_at)

-- or of its outcome
pub past_note : (d : Direction) (j : Joined) (t u : Outcome) (dropped over : Bool) (n m : Note) → IsOutcomeOf d j t
    → IsOutcomeOf (other d) j u → over ≡ is_over j.room → dropped ≡ (leaves u && not (leaves t)) → m ≡ note_of_outcome over t
    → n ≡ note_unless dropped m → IsNoteOf d j n
past_note d j t u dropped over n m h k passed drops found is = by t h drops found
  where
    drop : (t : Outcome) (h : IsOutcomeOf d j t) → dropped ≡ (leaves u && not (leaves t))
        → dropped ≡ is_dropped h.session.finding k.session.finding
    drop t h drops = drops ∙ (λ i. sym (found_leaves (other d) j k.session u k.says) i && not (sym (found_leaves d j h.session t h.says) i))

    as_note : (t : Outcome) (h : IsOutcomeOf d j t) (at : ℕ) → IsPlace h.session.finding (spoken d j).said at
        → dropped ≡ (leaves u && not (leaves t)) → m ≡ note_of_found (is_over j.room) h.session.finding at (violation_of h.session.by)
        → IsNoteOf d j n
    as_note t h at place drops found = record {
      own = h.session;
      beside = k.session;
      of_own = h.is_session;
      of_beside = k.is_session;
      offset = at;
      place = place;
      tells = is ∙ (λ i. note_unless (drop t h drops i) (found i));
    }

    by : (t : Outcome) (h : IsOutcomeOf d j t) → dropped ≡ (leaves u && not (leaves t)) → m ≡ note_of_outcome over t → IsNoteOf d j n
    by (outcome.Kept tsdus state owes) h drops found = as_note _ h 0 (grind arith) drops (grind arith)
    by (outcome.Broke at broke) h drops found = as_note _ h at (grind arith) drops (grind arith)
    by (outcome.Left at left) h drops found = as_note _ h at (grind arith) drops (grind arith)
    by outcome.TooMany h drops found = as_note _ h 0 (grind arith) drops (grind arith)

-- of the connection that has a number, or of none
pub note_held : (d : Direction) (o : Option Joined) (f : Found) (n : Note) → HoldsFound (Some f) o
    → ((j : Joined) → HoldsEither f j → IsNoteOf d j n) → IsNoteAt d o n
note_held d o f n h k = grind arith

pub note_missing : (d : Direction) (o : Option Joined) → HoldsFound None o → IsNoteAt d o Silent
note_missing d o h = grind arith

pub names_held : (o : Option Joined) (f : Found) (r : References) → HoldsFound (Some f) o
    → ((j : Joined) → HoldsEither f j → r ≡ named_in (Some j)) → r ≡ named_in o
names_held o f r h k = grind arith

pub names_missing : (o : Option Joined) → HoldsFound None o → named_in None ≡ named_in o
names_missing o h = grind arith
