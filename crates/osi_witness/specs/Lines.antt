-- The lines of a script, by what they ask for. Numbers are decimal; user data, functional units and tokens are hexadecimal.
use Rattle.std.specs.Prelude.{ℕ, ◌/◌, ◌%◌, ◌==◌, ◌&&◌, Bool, true, false, if◌then◌else◌, List, [], ◌∷◌, ◌++◌, codes}
use Rattle.hex.specs.Hex.{encode_lower}
use Rattle.osi_listing.specs.Lines.{number_field}
use Rattle.osi_message.specs.declared.tokens.Tokens.{Tokens}
use Rattle.osi_message.specs.Tokens.{token_octet}
use Rattle.osi_script.specs.Commands.{Command, Ends, Connect, OfUser, Carry, Break, Told}
use Rattle.osi_script.specs.Names.{side_name}
use Rattle.osi_script.specs.Texts.{data_text, wishes_text, sides_text}
use Rattle.osi_script.specs.declared.commands.Classes.{Classes}
use Rattle.osi_script.specs.declared.commands.Classes.TheVariants.{Zero, Two, Both}
use Rattle.osi_script.specs.declared.sides.Side.{Side}
use Rattle.osi_session.specs.declared.sides.Sides.{Sides}
use Rattle.osi_session.specs.Calls.{Call, refusal_octets}
use Rattle.osi_session.specs.Calls as call
use Rattle.osi_spdu.specs.declared.fields.TsduMaximumSize.{TsduMaximumSize}
use Rattle.osi_spdu.specs.declared.settings.TokenSetting.{TokenSetting}

abbrev pub classes_name : Classes → List ℕ
classes_name Zero = codes "0"
classes_name Two = codes "2"
classes_name Both = codes "20"

-- user data
abbrev pub data_field : List ℕ → List ℕ
data_field octets = codes " " ++ data_text octets

-- functional units
abbrev pub units_field : ℕ → List ℕ
units_field bits = codes " " ++ encode_lower (bits / 256 ∷ []) ++ encode_lower (bits % 256 ∷ [])

-- the sizes of TSDUs, if one is not 0
abbrev pub sizes_field : TsduMaximumSize → List ℕ
sizes_field sizes =
    if sizes.from_asker == 0 && sizes.from_answerer == 0 then []
    else number_field (codes " ") sizes.from_asker ++ number_field (codes " ") sizes.from_answerer

abbrev pub tokens_field : Tokens → List ℕ
tokens_field tokens = codes " " ++ encode_lower (token_octet tokens ∷ [])

abbrev pub wishes_field : TokenSetting → List ℕ
wishes_field wishes = codes " " ++ wishes_text wishes

abbrev pub sides_field : Sides → List ℕ
sides_field sides = codes " " ++ sides_text sides

abbrev pub confirm_name : Bool → List ℕ
confirm_name true = codes "minor yes"
confirm_name false = codes "minor no"

-- a call: its verb, and what follows
unfoldable pub call_text : Call → List ℕ
call_text (call.Accept bits serial sides sizes octets) =
    codes "accept" ++ units_field bits ++ number_field (codes " ") serial ++ sides_field sides ++ data_field octets ++ sizes_field sizes
call_text (call.Refuse refusal) = codes "refuse" ++ data_field (refusal_octets refusal)
call_text (call.Data octets) = codes "data" ++ data_field octets
call_text (call.Give tokens) = codes "give" ++ tokens_field tokens
call_text (call.Please tokens octets) = codes "please" ++ tokens_field tokens ++ data_field octets
call_text (call.Minor confirm octets) = confirm_name confirm ++ data_field octets
call_text (call.MinorConfirm number octets) = number_field (codes "minorconfirm ") number ++ data_field octets
call_text (call.Major octets) = codes "major" ++ data_field octets
call_text (call.MajorConfirm octets) = codes "majorconfirm" ++ data_field octets
call_text (call.Restart number wishes octets) = number_field (codes "restart ") number ++ wishes_field wishes ++ data_field octets
call_text (call.RestartConfirm sides octets) = codes "restartconfirm" ++ sides_field sides ++ data_field octets
call_text (call.Release octets) = codes "release" ++ data_field octets
call_text (call.ReleaseAccept octets) = codes "releaseaccept" ++ data_field octets
call_text (call.ReleaseRefuse octets) = codes "releaserefuse" ++ data_field octets
call_text (call.Abort octets) = codes "abort" ++ data_field octets

-- a command; a break and what follows from it are in no script here
unfoldable pub command_text : Command → List ℕ
command_text (Ends caller called size window) =
    codes "ends " ++ classes_name caller ++ codes " " ++ classes_name called ++ number_field (codes " ") size ++ number_field (codes " ") window
command_text (Connect bits serial wishes sizes octets) =
    codes "connect" ++ units_field bits ++ number_field (codes " ") serial ++ wishes_field wishes ++ data_field octets ++ sizes_field sizes
command_text (OfUser side reference call) = side_name side ++ number_field (codes " ") reference ++ codes " " ++ call_text call
command_text (Carry side octets) = codes "carry " ++ side_name side ++ number_field (codes " ") octets
command_text (Break left right) = []
command_text (Told side) = []

-- a comment on the packet of a side at an offset
abbrev pub comment_line : Side → ℕ → List ℕ → List ℕ
comment_line side offset what = codes "# " ++ side_name side ++ number_field (codes " packet ") offset ++ codes ": " ++ what ++ codes "\n"
