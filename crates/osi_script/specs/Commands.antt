-- The command that a line of a script gives, and the lines that spell it.
use Rattle.std.specs.Prelude.{◌≡◌, ℕ, ◌-◌, Bool, true, false, List, [], ◌∷◌, codes, length, Option, Some, None, if◌then◌else◌}
use Rattle.std.specs.List.{slice_get}
use Rattle.osi_spdu.specs.declared.fields.TsduMaximumSize.{TsduMaximumSize}
use Rattle.osi_spdu.specs.declared.settings.TokenSetting.{TokenSetting}
use Rattle.osi_spdu.specs.Fields.{unit_bits}
use Rattle.osi_spdu.specs.Sizes.{named_by}
use Rattle.osi_session.specs.Calls.{Call, called_by}
use Rattle.osi_tpdu.specs.Limits.{size_code, window_units}
use Rattle.osi_script.specs.declared.commands.Classes.{Classes}
use Rattle.osi_script.specs.declared.commands.Classes.TheVariants.{Zero, Two, Both}
use Rattle.osi_script.specs.declared.commands.Command.{Command as InMemory}
use Rattle.osi_script.specs.declared.commands.Command.TheVariants as memory
use Rattle.osi_script.specs.declared.sides.Side.{Side}
use Rattle.osi_script.specs.Words.{◌>>=◌, words_of, only_word, is, number_to, units_of, serial_of, size_of, window_of, classes_of, side_of, verb_of, wishes_of, sizes_of, data_of}
use Rattle.osi_script.specs.Calls.{call_of}

abbrev pub has_class_0 : Classes → Bool
has_class_0 Zero = true
has_class_0 Two = false
has_class_0 Both = true

abbrev pub has_class_2 : Classes → Bool
has_class_2 Zero = false
has_class_2 Two = true
has_class_2 Both = true

pub data Command : Type 0 where
  Ends : (caller called : Classes) (size window : ℕ) → Command
  Connect : (requirements serial : ℕ) (wishes : TokenSetting) (sizes : TsduMaximumSize) (octets : List ℕ) → Command
  OfUser : (side : Side) (reference : ℕ) (call : Call) → Command
  Carry : (side : Side) (octets : ℕ) → Command
  Break : (left right : ℕ) → Command
  Told : (side : Side) → Command

-- a command in memory
abbrev pub command_by : InMemory → Command
command_by (memory.Ends caller called size window) = Ends caller called (size_code size) (window_units window)
command_by (memory.Connect requirements serial wishes sizes octets) =
    Connect (unit_bits requirements) serial.number wishes (named_by sizes) octets.now
command_by (memory.Call side reference request) = OfUser side reference (called_by request)
command_by (memory.Carry side octets) = Carry side octets
command_by (memory.Break left right) = Break left right
command_by (memory.Told side) = Told side

-- ---- the words after the first; `user` is what the user data word spells

unfoldable pub two_ends : (caller called size window : List ℕ) → Option Command
two_ends caller called size window = do
  a ← classes_of caller
  b ← classes_of called
  s ← size_of size
  w ← window_of window
  Some (Ends a b s w)

unfoldable pub ends_of : List (List ℕ) → Option Command
ends_of (caller ∷ called ∷ size ∷ words) = do
  window ← only_word words
  two_ends caller called size window
ends_of other = None

unfoldable pub connecting : (units serial wishes : List ℕ) → List (List ℕ) → Option (List ℕ) → Option Command
connecting units serial wishes sizes user = do
  u ← units_of units
  s ← serial_of serial
  w ← wishes_of wishes
  z ← sizes_of sizes
  octets ← user
  Some (Connect u s w z octets)

unfoldable pub connect_of : List (List ℕ) → Option (List ℕ) → Option Command
connect_of (units ∷ serial ∷ wishes ∷ word ∷ sizes) user = connecting units serial wishes sizes user
connect_of other user = None

unfoldable pub carry_of : List (List ℕ) → Option Command
carry_of (side ∷ words) = do
  octets ← only_word words
  s ← side_of side
  k ← number_to 4294967295 octets
  Some (Carry s k)
carry_of other = None

unfoldable pub break_of : List (List ℕ) → Option Command
break_of (left ∷ words) = do
  right ← only_word words
  l ← number_to 4294967295 left
  r ← number_to 4294967295 right
  Some (Break l r)
break_of other = None

unfoldable pub told_of : List (List ℕ) → Option Command
told_of words = do
  side ← only_word words
  s ← side_of side
  Some (Told s)

-- a call: its side, the connection, the verb, and the words after it
unfoldable pub named_call : (side reference verb : List ℕ) → List (List ℕ) → Option (List ℕ) → Option Command
named_call side reference verb words user = do
  s ← side_of side
  r ← number_to 65535 reference
  v ← verb_of verb
  c ← call_of v words user
  Some (OfUser s r c)

unfoldable pub user_call : List ℕ → List (List ℕ) → Option (List ℕ) → Option Command
user_call side (reference ∷ verb ∷ words) user = named_call side reference verb words user
user_call side other user = None

-- the command of a line with these words, if the user data word spells these octets
unfoldable pub command_in : List (List ℕ) → Option (List ℕ) → Option Command
command_in [] user = None
command_in (first ∷ words) user =
    if is first (codes "ends") then ends_of words
    else if is first (codes "connect") then connect_of words user
    else if is first (codes "carry") then carry_of words
    else if is first (codes "break") then break_of words
    else if is first (codes "told") then told_of words
    else user_call first words user

-- ---- user data

-- before their user data, a connect and an accept have functional units, a number and sides
abbrev pub fourth : List (List ℕ) → Option (List ℕ)
fourth (units ∷ serial ∷ sides ∷ word ∷ words) = Some word
fourth other = None

abbrev pub last_of : List (List ℕ) → Option (List ℕ)
last_of words = slice_get words (length words - 1)

-- the words after an accept, from those after the first word of a line
abbrev pub behind_accept : List (List ℕ) → Option (List (List ℕ))
behind_accept (reference ∷ verb ∷ words) = if is verb (codes "accept") then Some words else None
behind_accept other = None

abbrev pub fourth_or : Option (List ℕ) → Option (List (List ℕ)) → Option (List ℕ)
fourth_or other None = other
fourth_or other (Some words) = fourth words

-- the user data word: the last word; but in a connect and an accept, sizes may follow it
unfoldable pub data_word : List (List ℕ) → Option (List ℕ)
data_word [] = None
data_word (first ∷ words) =
    if is first (codes "connect") then fourth words else fourth_or (last_of (first ∷ words)) (behind_accept words)

-- the octets that it spells
abbrev pub user_data_of : List (List ℕ) → Option (List ℕ)
user_data_of words = do
  word ← data_word words
  data_of word

-- the command that a line gives
unfoldable pub command_of : List ℕ → Option Command
command_of line = command_in (words_of line) (user_data_of (words_of line))

-- these octets spell a command
abbrev pub Spells : List ℕ → Command → Type 0
Spells line command = command_of line ≡ Some command
