-- Of what C is told on a byte connection.
use Rattle.std.specs.Prelude.{ℕ, ◌==◌, ◌||◌, if◌then◌else◌, get_or, Bool, true, false, Option, Some, None}
use Rattle.osi_side.specs.declared.directions.Direction.{Direction}
use Rattle.osi_side.specs.declared.directions.Direction.TheVariants.{Left, Right}
use Rattle.osi_judge.specs.declared.marks.First.{First}
use Rattle.osi_judge.specs.declared.marks.Layer.{Layer}
use Rattle.osi_judge.specs.declared.marks.Layer.TheVariants as layer
use Rattle.osi_c.specs.declared.subjects.Subject.{Subject}
use Rattle.osi_c.specs.declared.subjects.Subject.TheVariants.{Session, Transport, Rest}
use Rattle.osi_c.specs.declared.told.Sides.{Sides}
use Rattle.osi_c.specs.declared.told.Told.{Told}

abbrev pub same_side : Direction → Direction → Bool
same_side Left Left = true
same_side Right Right = true
same_side Left Right = false
same_side Right Left = false

abbrev pub same_session : ℕ → Direction → ℕ → Direction → Bool
same_session n d m e = if n == m then same_side d e else false

abbrev pub same : Subject → Subject → Bool
same (Session n d) (Session m e) = same_session n d m e
same (Session n d) (Transport e) = false
same (Session n d) (Rest e) = false
same (Transport d) (Session m e) = false
same (Transport d) (Transport e) = same_side d e
same (Transport d) (Rest e) = false
same (Rest d) (Session m e) = false
same (Rest d) (Transport e) = false
same (Rest d) (Rest e) = same_side d e

abbrev pub side_in : Subject → Direction
side_in (Session n d) = d
side_in (Transport d) = d
side_in (Rest d) = d

-- ---- of what C was told

abbrev pub no_subject : Subject → Bool
no_subject k = false

-- of this subject too
abbrev pub also : Subject → (Subject → Bool) → Subject → Bool
also k told x = same k x || told x

abbrev pub neither : Sides
neither = record { left = false; right = false }

abbrev pub side_told : Sides → Direction → Bool
side_told s Left = s.left
side_told s Right = s.right

abbrev pub also_side : Direction → Sides → Sides
also_side Left s = record s { left = true }
also_side Right s = record s { right = true }

-- as it is kept: of the sessions on the connection with each number, and of neither after the last
abbrev pub told_by : Told → Subject → Bool
told_by t (Session n d) = side_told (get_or t.sessions.items n neither) d
told_by t (Transport d) = side_told t.transports d
told_by t (Rest d) = side_told t.rests d

-- ---- what the first break is of

abbrev pub leading_session : Direction → Option ℕ → Option Subject
leading_session d None = None
leading_session d (Some n) = Some (Session n d)

abbrev pub leading_by : Layer → First → Option Subject
leading_by layer.Session f = leading_session f.direction f.connection
leading_by layer.Transport f = Some (Transport f.direction)

abbrev pub leading : Option First → Option Subject
leading None = None
leading (Some f) = leading_by f.layer f
