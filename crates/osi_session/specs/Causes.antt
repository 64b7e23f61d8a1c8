-- What requests or opens a connection, what gives a token to this side, and what resets the numbers.
use Rattle.std.specs.Prelude.{Bool, true, false, not, ◌&&◌, ◌||◌, if◌then◌else◌, [], ◌∷◌}
use Rattle.std.specs.List.{list_any}
use Rattle.osi_session.specs.declared.state.State.{State}
use Rattle.osi_session.specs.declared.sides.Sides.{Sides}
use Rattle.osi_session.specs.declared.selected.FunctionalUnits.{FunctionalUnits}
use Rattle.osi_message.specs.Tokens.{Token, has}
use Rattle.osi_session.specs.Units.{functional_units, both_units, available}
use Rattle.osi_session.specs.Sides.{settle, stated, side_for, is_asker}
use Rattle.osi_session.specs.Calls.{Call, Accept, Refuse, Give, Restart, RestartConfirm, ReleaseAccept, Abort}
use Rattle.osi_message.specs.Meanings.{Meaning, CN, AC, RF, GT, RS, RA, DN, AB}
use Rattle.osi_message.specs.Words.{Words, as_message}
use Rattle.osi_session.specs.Respond.{is_acceptable, stands}
use Rattle.osi_session.specs.Joining.{acting_words}
use Rattle.osi_session.specs.Listening.{Input, called, taken}

-- one of the words of a TSDU that take effect
abbrev pub some_word : (Meaning → Bool) → Words → Bool
some_word p words = list_any (λ w. p (as_message w)) (acting_words words)

-- ---- a connection is requested

abbrev pub unit_asks : Meaning → Bool
unit_asks (CN version_2 requirements serial wishes from to sizes octets) = true
unit_asks _ = false

-- by the first unit of a TSDU
abbrev pub asks_first : Words → Bool
asks_first [] = false
asks_first (w ∷ words) = unit_asks (as_message w)

abbrev pub asks_for_connection : Input → Bool
asks_for_connection (taken words) = asks_first words
asks_for_connection _ = false

-- the units of a TSDU arrive
abbrev pub is_taken : Input → Bool
is_taken (taken words) = true
is_taken _ = false

-- ---- a connection is opened, and after a restart opened again

abbrev pub call_opens : Call → Bool
call_opens (Accept requirements serial sides sizes octets) = true
call_opens (RestartConfirm sides octets) = true
call_opens _ = false

abbrev pub unit_opens : Meaning → Bool
unit_opens (AC version_2 requirements serial sides sizes octets) = true
unit_opens (RA n sides octets) = true
unit_opens _ = false

abbrev pub opens_connection : Input → Bool
opens_connection (called c) = call_opens c
opens_connection (taken words) = some_word unit_opens words
opens_connection _ = false

-- ---- a token is given to this side

-- an available token that is settled as the asker's, and as the answerer's
abbrev pub to_asker : FunctionalUnits → Sides → Token → Bool
to_asker units sides t = has (available units) t && is_asker (side_for sides t)

abbrev pub to_answerer : FunctionalUnits → Sides → Token → Bool
to_answerer units sides t = has (available units) t && not (is_asker (side_for sides t))

abbrev pub call_gives : State → Call → Token → Bool
call_gives s (Accept requirements serial sides sizes octets) t =
    to_answerer (functional_units requirements) (settle (functional_units requirements) s.wishes sides) t
call_gives s (RestartConfirm sides octets) t = to_answerer s.units (settle s.units s.wishes sides) t
call_gives s _ t = false

abbrev pub unit_gives : State → Meaning → Token → Bool
unit_gives s (AC version_2 requirements serial sides sizes octets) t =
    to_asker (both_units s.units (functional_units requirements)) (stated (both_units s.units (functional_units requirements)) sides) t
unit_gives s (RA n sides octets) t = to_asker s.units (stated s.units sides) t
unit_gives s (GT tokens) t = has tokens t
unit_gives s _ t = false

-- ---- a token is held

-- whether it is after an accepted call
abbrev pub call_holds : State → Call → Token → Bool
call_holds s (Accept requirements serial sides sizes octets) t =
    to_answerer (functional_units requirements) (settle (functional_units requirements) s.wishes sides) t
call_holds s (RestartConfirm sides octets) t = to_answerer s.units (settle s.units s.wishes sides) t
call_holds s (Give tokens) t = has s.held t && not (has tokens t)
call_holds s (Refuse refusal) t = false
call_holds s (Restart n wishes octets) t = false
call_holds s (ReleaseAccept octets) t = false
call_holds s (Abort octets) t = false
call_holds s _ t = has s.held t

-- whether it is after a good unit
abbrev pub unit_holds : State → Meaning → Token → Bool
unit_holds s (CN version_2 requirements serial wishes from to sizes octets) t =
    if is_acceptable version_2 requirements sizes then has s.held t else false
unit_holds s (AC version_2 requirements serial sides sizes octets) t =
    to_asker (both_units s.units (functional_units requirements)) (stated (both_units s.units (functional_units requirements)) sides) t
unit_holds s (RA n sides octets) t = to_asker s.units (stated s.units sides) t
unit_holds s (GT tokens) t = has s.held t || has tokens t
unit_holds s (RS kind n wishes octets) t = if stands s n then false else has s.held t
unit_holds s (RF reason octets) t = false
unit_holds s (DN octets) t = false
unit_holds s (AB bits octets) t = false
unit_holds s _ t = has s.held t

-- ---- the numbers are reset, or continue from the number of a restart

abbrev pub call_renews : Call → Bool
call_renews (Accept requirements serial sides sizes octets) = true
call_renews (Restart n wishes octets) = true
call_renews _ = false

abbrev pub unit_renews : Meaning → Bool
unit_renews (AC version_2 requirements serial sides sizes octets) = true
unit_renews (RS kind n wishes octets) = true
unit_renews _ = false

abbrev pub renews : Input → Bool
renews (called c) = call_renews c
renews (taken words) = some_word unit_renews words
renews _ = false
