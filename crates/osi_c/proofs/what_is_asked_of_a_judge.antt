-- What is shown of a judge by what has passed so far, and the text of its judgement. For the functions of `asking` and `judgements`.
use Rattle.std.proofs.Common.{◌≡◌, ◌∙◌, refl, sym, subst, ℕ, Bool, true, false, is_some, List, [], Option, Some, None}
use Rattle.osi_side.specs.Captures.{Capture, stream}
use Rattle.osi_side.specs.declared.directions.Direction.{Direction}
use Rattle.osi_side.specs.declared.directions.Direction.TheVariants.{Left}
use Rattle.osi_judge.specs.declared.sessions.Found.{Found}
use Rattle.osi_judge.specs.declared.rooms.Room.TheVariants.{Octets}
use Rattle.osi_judge.specs.Connections.{Joined}
use Rattle.osi_judge.specs.Holding.{HoldsFound}
use Rattle.osi_judge.specs.Standing.{IsSettled}
use Rattle.osi_report.specs.Reports.{IsReached}
use Rattle.osi_c.specs.Asking.{HasAsked, ShowsBreak, ShowsOf, ShowsTransport}
use Rattle.osi_c.specs.Fed.{fed}
use Rattle.osi_c.specs.Judges.{Keeps, Settles}
use Rattle.osi_c.specs.Notes.{Tells, is_certain}
use Rattle.osi_c.specs.Verdicts.{Shows}
use Rattle.osi_c.specs.declared.asking.Asked.{Asked}
use Rattle.osi_c.specs.declared.asking.Asked.TheVariants as asked
use Rattle.osi_c.specs.declared.judges.HeldJudge.{HeldJudge}
use Rattle.osi_c.specs.declared.notes.Note.{Note}
use Rattle.osi_c.specs.declared.subjects.Subject.TheVariants.{Transport, Rest}
use Rattle.osi_c.specs.declared.verdicts.OsiVerdict.{OsiVerdict}

-- ---- a transport

pub shows_break : (w : HeldJudge) (d : Direction) (n : Note) (v : OsiVerdict) → Tells w (Transport d) n → is_certain n ≡ true
    → Shows w.judge (Transport d) n v → ShowsTransport w d v
shows_break w d n v tells e shows = record {
  broke = n;
  tells = tells;
  shows = subst (λ (b : Bool). ShowsBreak b w d n v) (sym e) shows;
}

pub shows_rest : (w : HeldJudge) (d : Direction) (n : Note) (v : OsiVerdict) → Tells w (Transport d) n → is_certain n ≡ false
    → ShowsOf w (Rest d) v → ShowsTransport w d v
shows_rest w d n v tells e shows = record {
  broke = n;
  tells = tells;
  shows = subst (λ (b : Bool). ShowsBreak b w d n v) (sym e) shows;
}

-- ---- the number of a connection

pub found_some : (o : Option Found) (p : Option Joined) → HoldsFound o p → is_some p ≡ is_some o
found_some None None h = refl
found_some (Some c) (Some j) h = refl
found_some None (Some j) h = absurd h
found_some (Some c) None h = absurd h

-- ---- after the judge has judged all that passed

pub same_settled : (w : HeldJudge) → IsSettled w.judge → Settles w w
same_settled w settled = record { keeps = record { knows = λ capture k. k; told = refl; text = refl }; settled = settled }

pub asked_after : (r : Asked) (number : Option ℕ) (d : Direction) (old now : HeldJudge) → Keeps old now → HasAsked r number d now now
    → HasAsked r number d old now
asked_after (asked.Shown v) number d old now k h = (record { keeps = k; settled = h.0.settled }, h.1)
asked_after asked.Unknown number d old now k h = (record { keeps = k; settled = h.0.settled }, h.1)
asked_after asked.NoMemory number d old now k h = k

-- ---- the text

pub fed_reached : (capture : Capture) → IsReached (fed capture)
fed_reached capture = record { room = Octets 3145728; capture = capture; is = refl }
