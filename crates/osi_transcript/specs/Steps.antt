-- The effect of one line of a script, and of the lines read so far.
use Rattle.std.specs.Prelude.{◌≡◌, ℕ, Bool, true, false, List, ◌∷◌, ◌++◌}
use Rattle.osi_pair.specs.Ends.{TwoEnds}
use Rattle.osi_pair.specs.declared.events.Event.{Event}
use Rattle.osi_transcript.specs.Playing.{Lines, IsApplied, FailsAt, Plays, carried_by, event_text, new_texts}

-- an event that fits is applied, and the text has its lines
pub record DoesEvent (event : Event) (old : TwoEnds) (before : List ℕ) (new : TwoEnds) (after : List ℕ) : Type 0 where
  pub applied : IsApplied event old new
  pub says : after ≡ before ++ event_text event (carried_by event old) ++ new_texts old new

-- an event does not fit, and the text says so
pub record FailsEvent (number : ℕ) (event : Event) (old : TwoEnds) (before after : List ℕ) : Type 0 where
  pub text : List ℕ
  pub fails : FailsAt number event old text 1
  pub says : after ≡ before ++ text

abbrev pub PlaysEvent : Bool → ℕ → Event → TwoEnds → List ℕ → TwoEnds → List ℕ → Type 0
PlaysEvent true number event old before new after = DoesEvent event old before new after
PlaysEvent false number event old before new after = FailsEvent number event old before after

-- a line ends the script, whatever comes after it
pub record StopsAtLine (number : ℕ) (line : List ℕ) (old : TwoEnds) (before after : List ℕ) : Type 0 where
  pub text : List ℕ
  pub says : after ≡ before ++ text
  pub plays : (lines : Lines) → Plays ((number, line) ∷ lines) old text 1

-- a line is done, and its text comes before that of the lines after it
pub record GoesBehind (number : ℕ) (line : List ℕ) (old : TwoEnds) (before : List ℕ) (new : TwoEnds) (after : List ℕ) : Type 0 where
  pub text : List ℕ
  pub says : after ≡ before ++ text
  pub plays : (lines : Lines) (more : List ℕ) (status : ℕ) → Plays lines new more status → Plays ((number, line) ∷ lines) old (text ++ more) status

abbrev pub PlaysOne : Bool → ℕ → List ℕ → TwoEnds → List ℕ → TwoEnds → List ℕ → Type 0
PlaysOne true number line old before new after = GoesBehind number line old before new after
PlaysOne false number line old before new after = StopsAtLine number line old before after

-- all lines are done, up to one that ends the script
pub record PlaysAll (lines : Lines) (old : TwoEnds) (before after : List ℕ) (status : ℕ) : Type 0 where
  pub text : List ℕ
  pub says : after ≡ before ++ text
  pub plays : Plays lines old text status
