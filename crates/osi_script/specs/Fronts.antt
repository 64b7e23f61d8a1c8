-- The part of a line before its user data.
use Rattle.std.specs.Prelude.{ℕ, List, Option, Some, None}
use Rattle.osi_session.specs.Calls.{Call}
use Rattle.osi_session.specs.Calls as call
use Rattle.osi_script.specs.declared.sides.Side.{Side}
use Rattle.osi_script.specs.declared.fronts.Frequent.{Frequent}
use Rattle.osi_script.specs.declared.fronts.Frequent.TheVariants as frequent
use Rattle.osi_script.specs.declared.fronts.Front.{Front}
use Rattle.osi_script.specs.declared.fronts.Front.TheVariants as front
use Rattle.osi_script.specs.declared.verbs.Verb.{Verb}
use Rattle.osi_script.specs.declared.verbs.Verb.TheVariants as verb
use Rattle.osi_script.specs.Words.{◌>>=◌, words_of, data_of}
use Rattle.osi_script.specs.Splitting.{words_in}
use Rattle.osi_script.specs.Calls.{call_of}
use Rattle.osi_script.specs.Commands.{Command, OfUser, Carry, command_in, data_word, fourth, last_of}

-- the user data word, from the words after a verb
abbrev pub data_behind : Verb → List (List ℕ) → Option (List ℕ)
data_behind verb.Accept words = fourth words
data_behind other words = last_of words

-- the user data word of a line; in a frequent call all the text after what was read
abbrev pub front_data : Front → Option (List ℕ)
front_data (front.Carry side octets) = None
front_data (front.Frequent side reference call text) = Some text.now
front_data (front.Call side reference verb words) = data_behind verb (words_in words)
front_data (front.Unread line) = data_word (words_of line.now)

-- the octets that this word spells
abbrev pub spelled : Option (List ℕ) → Option (List ℕ)
spelled word = word >>= data_of

-- a frequent call with this user data
abbrev pub made : Frequent → List ℕ → Call
made frequent.Data octets = call.Data octets
made (frequent.Minor confirm) octets = call.Minor confirm octets
made (frequent.MinorConfirm number) octets = call.MinorConfirm number octets

-- a frequent call, if this word spells these octets
abbrev pub frequent_command : Side → ℕ → Frequent → Option (List ℕ) → Option Command
frequent_command side reference call user = do
  octets ← user
  Some (OfUser side reference (made call octets))

-- a call by its verb and the words after it
abbrev pub call_command : Side → ℕ → Verb → List (List ℕ) → Option (List ℕ) → Option Command
call_command side reference verb words user = do
  call ← call_of verb words user
  Some (OfUser side reference call)

-- the command of a line, if this word spells these octets
abbrev pub front_command : Front → Option (List ℕ) → Option Command
front_command (front.Carry side octets) user = Some (Carry side octets)
front_command (front.Frequent side reference call text) user = frequent_command side reference call user
front_command (front.Call side reference verb words) user = call_command side reference verb (words_in words) user
front_command (front.Unread line) user = command_in (words_of line.now) user
