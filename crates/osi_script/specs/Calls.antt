-- The calls of a user in a script: the words after the verb. In most calls one of them is the user data.
use Rattle.std.specs.Prelude.{ℕ, List, [], ◌∷◌, Option, Some, None}
use Rattle.osi_session.specs.Calls.{Call}
use Rattle.osi_session.specs.Calls as call
use Rattle.osi_message.specs.Tokens.{named}
use Rattle.osi_script.specs.declared.verbs.Verb.{Verb}
use Rattle.osi_script.specs.declared.verbs.Verb.TheVariants as verb
use Rattle.osi_script.specs.Words.{◌>>=◌, only_word, first_of_two, number_to, units_of, serial_of, tokens_of, wishes_of, sides_of, answer_of, sizes_of}

-- In each of these, the second argument is what the user data word spells. That is the last word; but in an accept,
-- sizes may follow it.
unfoldable pub accepted : (units serial sides : List ℕ) → List (List ℕ) → Option (List ℕ) → Option Call
accepted units serial sides sizes user = do
  u ← units_of units
  s ← serial_of serial
  t ← sides_of sides
  z ← sizes_of sizes
  octets ← user
  Some (call.Accept u s t z octets)

unfoldable pub accept_of : List (List ℕ) → Option (List ℕ) → Option Call
accept_of (units ∷ serial ∷ sides ∷ word ∷ sizes) user = accepted units serial sides sizes user
accept_of other user = None

-- only user data
unfoldable pub plain_data : List (List ℕ) → Option (List ℕ) → Option (List ℕ)
plain_data words user = do
  last ← only_word words
  user

unfoldable pub give_of : List (List ℕ) → Option Call
give_of words = do
  tokens ← only_word words
  bits ← tokens_of tokens
  Some (call.Give (named bits))

-- tokens, by the bits of their names
unfoldable pub asking : ℕ → List ℕ → Call
asking bits octets = call.Please (named bits) octets

unfoldable pub please_of : List (List ℕ) → Option (List ℕ) → Option Call
please_of words user = do
  tokens ← first_of_two words
  bits ← tokens_of tokens
  octets ← user
  Some (asking bits octets)

unfoldable pub minor_of : List (List ℕ) → Option (List ℕ) → Option Call
minor_of words user = do
  answer ← first_of_two words
  confirm ← answer_of answer
  octets ← user
  Some (call.Minor confirm octets)

unfoldable pub minor_confirm_of : List (List ℕ) → Option (List ℕ) → Option Call
minor_confirm_of words user = do
  number ← first_of_two words
  n ← number_to 4294967295 number
  octets ← user
  Some (call.MinorConfirm n octets)

unfoldable pub restarting : (number wishes : List ℕ) → Option (List ℕ) → Option Call
restarting number wishes user = do
  n ← number_to 4294967295 number
  w ← wishes_of wishes
  octets ← user
  Some (call.Restart n w octets)

unfoldable pub restart_of : List (List ℕ) → Option (List ℕ) → Option Call
restart_of (number ∷ words) user = do
  wishes ← first_of_two words
  restarting number wishes user
restart_of other user = None

unfoldable pub restart_confirm_of : List (List ℕ) → Option (List ℕ) → Option Call
restart_confirm_of words user = do
  sides ← first_of_two words
  s ← sides_of sides
  octets ← user
  Some (call.RestartConfirm s octets)

-- the calls whose only word is user data
unfoldable pub plain_call : Verb → List ℕ → Option Call
-- a refusal without user data gives no reason
plain_call verb.Refuse octets = Some (call.Refuse (call.refusal_with octets))
plain_call verb.Data octets = Some (call.Data octets)
plain_call verb.Major octets = Some (call.Major octets)
plain_call verb.MajorConfirm octets = Some (call.MajorConfirm octets)
plain_call verb.Release octets = Some (call.Release octets)
plain_call verb.ReleaseAccept octets = Some (call.ReleaseAccept octets)
plain_call verb.ReleaseRefuse octets = Some (call.ReleaseRefuse octets)
plain_call verb.Abort octets = Some (call.Abort octets)
plain_call other octets = None

unfoldable pub plain_of : Verb → List (List ℕ) → Option (List ℕ) → Option Call
plain_of verb words user = do
  octets ← plain_data words user
  plain_call verb octets

unfoldable pub call_of : Verb → List (List ℕ) → Option (List ℕ) → Option Call
call_of verb.Accept words user = accept_of words user
call_of verb.Give words user = give_of words
call_of verb.Please words user = please_of words user
call_of verb.Minor words user = minor_of words user
call_of verb.MinorConfirm words user = minor_confirm_of words user
call_of verb.Restart words user = restart_of words user
call_of verb.RestartConfirm words user = restart_confirm_of words user
call_of other words user = plain_of other words user
