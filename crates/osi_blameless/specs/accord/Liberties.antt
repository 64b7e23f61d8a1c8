-- What a side may send, and what a session of this product sends instead.
use Rattle.std.specs.Prelude.{◌≡◌, ℕ, Bool, true, false, not, ◌||◌, ◌&&◌, ◌==◌, unwrap_or, Ok}
use Rattle.osi_spdu.specs.declared.fields.ResyncType.TheVariants.{Restart}
use Rattle.osi_spdu.specs.declared.fields.TsduMaximumSize.{TsduMaximumSize}
use Rattle.osi_message.specs.Meanings.{Meaning, CN, AC, RF, GT, PT, RS, RA, FN, AB}
use Rattle.osi_message.specs.Tokens.{is_empty}
use Rattle.osi_session.specs.declared.state.State.{State}
use Rattle.osi_session.specs.Allowed.{allowed, serial_for}
use Rattle.osi_session.specs.Calls.{Call, refusal_reason, refusal_with}
use Rattle.osi_session.specs.Sides.{offered, setting_of, settle, stated}
use Rattle.osi_session.specs.Sizes.{answered_sizes}
use Rattle.osi_session.specs.Standing.{Seen, goes}
use Rattle.osi_session.specs.Units.{functional_units, is_profile, units_within}

-- The message as a call sends it. A side may leave the first number out of an AC, and may give any reason in an RF, any setting of a
-- token that is not available in an AC, an RS and an RA, and any bits of a provider in an AB.
abbrev pub as_called : State → Meaning → Meaning
as_called s (AC version_2 requirements serial sides sizes octets) =
    AC true requirements (serial_for (functional_units requirements) (unwrap_or serial s.proposed))
    (setting_of (settle (functional_units requirements) s.wishes (stated (functional_units requirements) sides)))
    (answered_sizes s.sizes sizes) octets
as_called s (RF reason octets) = RF (refusal_reason (refusal_with octets)) octets
as_called s (RS kind n wishes octets) = RS Restart n (offered s.units wishes) octets
as_called s (RA n sides octets) = RA n (setting_of (settle s.units s.wishes (stated s.units sides))) octets
as_called s (AB bits octets) = AB 3 octets
as_called s m = m

-- an AC names no size if the CN names none
abbrev pub has_size_of : (asked given : ℕ) → Bool
has_size_of asked given = not (asked == 0) || (given == 0)

abbrev pub has_sizes_of : (asked given : TsduMaximumSize) → Bool
has_sizes_of asked given = has_size_of asked.from_asker given.from_asker && has_size_of asked.from_answerer given.from_answerer

-- Whether a call sends it. A CN is sent when the transport connection is open, and not by a call. No call sends an AC with functional
-- units that the CN does not name or that can't be selected together, or with a size where the CN has none; a GT or PT that names no
-- token; or, with duplex, an FN of the called side.
abbrev pub is_called : State → Meaning → Bool
is_called s (CN version_2 requirements serial wishes from to sizes octets) = false
is_called s (AC version_2 requirements serial sides sizes octets) =
    (units_within (functional_units requirements) s.units && is_profile requirements) && has_sizes_of s.sizes sizes
is_called s (GT tokens) = not (is_empty tokens)
is_called s (PT tokens octets) = not (is_empty tokens)
is_called s (FN octets) = not s.units.duplex || s.is_caller
is_called s m = true

-- the session allows a call that sends this message and leads to this state
pub record IsCall (s : Seen) (m : Meaning) (next : Seen) : Type 0 where
  pub call : Call
  pub state : State
  pub allows : allowed s.state call ≡ Ok (record { next = state; sent = m })
  pub goes_on : next ≡ goes s state
