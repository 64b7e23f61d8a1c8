-- Lines of a script, one after the other.
-- For `play`, `play_line` and `play_event`.
use Rattle.osi_transcript.proofs.Vocabulary.{arith, ◌≡◌, ◌∙◌, ℕ, Bool, true, false, List, [], ◌∷◌, ◌++◌, Option, Some, None, inl, inr, refl}
use Rattle.osi_transcript.proofs.Vocabulary.{sym, subst, append_assoc, append-nil, TwoEnds, Event, Command, Ends, Connect, OfUser, Carry}
use Rattle.osi_transcript.proofs.Vocabulary.{Break, Told, command_of, IsEvent, Lines, Applies, Plays, BeginsWith, Transcribes, carried_by}
use Rattle.osi_transcript.proofs.Vocabulary.{event_text, new_texts, all_standings, IsStart, DoesEvent, FailsEvent, PlaysEvent, StopsAtLine}
use Rattle.osi_transcript.proofs.Vocabulary.{GoesBehind, PlaysAll}

-- the event of a line is applied, or does not fit
plays_event : (number : ℕ) (line : List ℕ) (c : Command) (event : Event) (lines : Lines) (p : TwoEnds) (text : List ℕ) (status : ℕ) →
    command_of line ≡ Some c → IsEvent c event → Applies number event (Plays lines) p text status →
    Plays ((number, line) ∷ lines) p text status
plays_event number line c event lines p text status read is h = grind arith

pub done : (number : ℕ) (line : List ℕ) (c : Command) (event : Event) (old new : TwoEnds) (before after : List ℕ) →
    command_of line ≡ Some c → IsEvent c event → DoesEvent event old before new after → GoesBehind number line old before new after
done number line c event old new before after read is h = record {
  text = event_text event (carried_by event old) ++ new_texts old new;
  says = h.says ∙ append_assoc before (event_text event (carried_by event old)) (new_texts old new);
  plays = λ lines more status rest. plays_event number line c event lines old
      ((event_text event (carried_by event old) ++ new_texts old new) ++ more) status read is
      (inl (new, more, h.applied, refl, rest));
}

pub failed : (number : ℕ) (line : List ℕ) (c : Command) (event : Event) (old : TwoEnds) (before after : List ℕ) →
    command_of line ≡ Some c → IsEvent c event → FailsEvent number event old before after → StopsAtLine number line old before after
failed number line c event old before after read is h = record {
  text = h.text;
  says = h.says;
  plays = λ lines. plays_event number line c event lines old h.text 1 read is (inr h.fails);
}

-- ---- lines one after the other

-- the text so far comes before that of the lines that are left
pub record HasPlayed (all : Lines) (old : TwoEnds) (before : List ℕ) (left : Lines) (new : TwoEnds) (after : List ℕ) : Type 0 where
  pub text : List ℕ
  pub says : after ≡ before ++ text
  pub plays : (more : List ℕ) (status : ℕ) → Plays left new more status → Plays all old (text ++ more) status

pub played_none : (all : Lines) (old : TwoEnds) (before : List ℕ) → HasPlayed all old before all old before
played_none all old before = record { text = []; says = sym (append-nil before); plays = λ more status rest. rest }

pub played_all : (all : Lines) (old : TwoEnds) (before : List ℕ) (lines : Lines) (new : TwoEnds) (said after : List ℕ) →
    HasPlayed all old before lines new said → lines ≡ [] → after ≡ said ++ all_standings new → PlaysAll all old before after 0
played_all all old before lines new said after h none says = grind (arith, append_assoc)

-- ---- the effect of a line, by whether the next is to be read

pub event_goes : (b : Bool) (number : ℕ) (event : Event) (old : TwoEnds) (before : List ℕ) (new : TwoEnds) (after : List ℕ) → b ≡ true →
    PlaysEvent b number event old before new after → DoesEvent event old before new after
event_goes b number event old before new after e h = subst (λ (x : Bool). PlaysEvent x number event old before new after) e h

pub event_stops : (b : Bool) (number : ℕ) (event : Event) (old : TwoEnds) (before : List ℕ) (new : TwoEnds) (after : List ℕ) → b ≡ false →
    PlaysEvent b number event old before new after → FailsEvent number event old before after
event_stops b number event old before new after e h = subst (λ (x : Bool). PlaysEvent x number event old before new after) e h

-- ---- a whole script

begins : (number : ℕ) (command : Option Command) (lines : Lines) (p : TwoEnds) (text : List ℕ) (status : ℕ) → IsStart command p →
    Plays lines p text status →
    BeginsWith number command lines text status
begins number None lines p text status starts plays = absurd starts
begins number (Some (Ends caller called size window)) lines p text status starts plays = (p, starts, plays)
begins number (Some (Connect requirements serial wishes sizes octets)) lines p text status starts plays = absurd starts
begins number (Some (OfUser side reference call)) lines p text status starts plays = absurd starts
begins number (Some (Carry side octets)) lines p text status starts plays = absurd starts
begins number (Some (Break left right)) lines p text status starts plays = absurd starts
begins number (Some (Told side)) lines p text status starts plays = absurd starts

-- the two ends are there, and the lines after the first were played
pub transcribed : (lines left : Lines) (number : ℕ) (line : List ℕ) (p : TwoEnds) (before text : List ℕ) (status : ℕ) →
    lines ≡ (number, line) ∷ left →
    IsStart (command_of line) p → before ≡ [] → PlaysAll left p before text status → Transcribes lines text status
transcribed lines left number line p before text status is starts none h = grind (arith, begins)
