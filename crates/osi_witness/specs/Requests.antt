-- The call that makes a session send a message, and the connect that makes it send a CN.
use Rattle.std.specs.Prelude.{◌≡◌, ℕ, ◌==◌, Bool, true, not, if◌then◌else◌, List, Option, Some, None, unwrap_or, option_map}
use Rattle.std.specs.Int.RustNames.{bit_and}
use Rattle.osi_message.specs.Meanings.{Meaning, CN, AC, RF, DT, GT, PT, MIP, MIA, MAP, MAA, RS, RA, FN, DN, NF, AB, AA}
use Rattle.osi_message.specs.Reading.{names}
use Rattle.osi_script.specs.Commands.{Command, Connect}
use Rattle.osi_session.specs.Calls.{Call, Accept, Refuse, Data, Give, Please, Minor, MinorConfirm, Major, MajorConfirm, Restart}
use Rattle.osi_session.specs.Calls.{RestartConfirm, Release, ReleaseAccept, ReleaseRefuse, Abort}
use Rattle.osi_session.specs.Calls.{Refusal, refusal_reason, refusal_with}
use Rattle.osi_session.specs.Sides.{named_side, sides_by, wish_for}
use Rattle.osi_session.specs.Units.{is_profile}
use Rattle.osi_session.specs.declared.sides.Sides.{Sides}
use Rattle.osi_spdu.specs.Fields.{unit_bits}
use Rattle.osi_spdu.specs.Sizes.{are_sizes, named_by}
use Rattle.osi_spdu.specs.declared.serials.Serial.{Serial}
use Rattle.osi_spdu.specs.declared.fields.TsduMaximumSize.{TsduMaximumSize}
use Rattle.osi_spdu.specs.declared.settings.TokenSetting.{TokenSetting}
use Rattle.osi_witness.specs.declared.calls.Asking.{Asking}
use Rattle.osi_witness.specs.declared.calls.Offer.{Offer}

-- the number of the first point, 0 if it is left out
abbrev pub first_number : Option ℕ → ℕ
first_number serial = unwrap_or serial 0

-- ---- a CN

-- whether the connection is duplex: the AC says so, or else a CN that doesn't offer half-duplex
abbrev pub is_duplex : (bits : ℕ) → (selected : Option ℕ) → Bool
is_duplex bits None = not (names bits 1)
is_duplex bits (Some both) = names both 2

-- A script offers half-duplex or duplex, and not both. What can be selected together is offered as it is; of other functional units
-- duplex alone, or what goes with half-duplex (00B9).
abbrev pub offered_units : (bits : ℕ) → (selected : Option ℕ) → ℕ
offered_units bits selected = if is_profile bits then bits else if is_duplex bits selected then 2 else bit_and bits 185

-- the functional units that both the CN and the AC name
abbrev pub named_by_both : (bits : ℕ) → Option ℕ → Option ℕ
named_by_both bits selected = option_map (λ (named : ℕ). bit_and named bits) selected

-- the connect that sends a CN of version 2, of which the AC names these functional units; none if its sizes are none that a user may give
abbrev pub connect_of : (selected : Option ℕ) → Meaning → Option Command
connect_of selected (CN true bits serial wishes calling called sizes octets) =
    if are_sizes sizes
    then Some (Connect (offered_units bits (named_by_both bits selected)) (first_number serial) wishes sizes octets) else None
connect_of selected m = None

-- a connect in memory
abbrev pub asks_by : Asking → Command
asks_by a = Connect (unit_bits a.requirements) a.serial.number a.wishes (named_by a.sizes) a.user_data.now

abbrev pub number_of : Option Serial → Option ℕ
number_of serial = option_map (λ (s : Serial). s.number) serial

-- what a CN offers that matters to the answer
abbrev pub IsOffered : Offer → Meaning → Type 0
IsOffered offer (CN version_2 bits serial wishes calling called sizes octets) =
    (offer.requirements ≡ bits) × (number_of offer.serial ≡ serial)
IsOffered offer m = ⊥

-- the functional units that an AC names
abbrev pub units_named_by : Meaning → Option ℕ
units_named_by (AC version_2 bits serial sides sizes octets) = Some bits
units_named_by m = None

-- ---- other messages

-- the sides that an answer names; a choice is that of the asker
abbrev pub named_sides : TokenSetting → Sides
named_sides setting = sides_by (λ t. named_side (wish_for setting t))

-- each of these functional units has a meaning here (00BB)
abbrev pub are_known : ℕ → Bool
are_known bits = bit_and bits 187 == bits

-- the number that an AC names, or else the CN
abbrev pub agreed_number : (answered asked : Option ℕ) → ℕ
agreed_number None asked = first_number asked
agreed_number (Some number) asked = number

-- an AC selects what the CN names too
abbrev pub accept_of : (bits number : ℕ) → TokenSetting → TsduMaximumSize → List ℕ → Option Call
accept_of bits number sides sizes octets =
    if are_known bits then (if are_sizes sizes then Some (Accept bits number (named_sides sides) sizes octets) else None) else None

-- a script has two refusals: without a reason, and with user data
abbrev pub refuse_of : (reason : ℕ) → Refusal → Option Call
refuse_of reason refusal = if reason == refusal_reason refusal then Some (Refuse refusal) else None

-- a message about a point or a restart
abbrev pub point_call : Meaning → Option Call
point_call (MIP confirm number octets) = Some (Minor confirm octets)
point_call (MIA number octets) = Some (MinorConfirm number octets)
point_call (MAP number octets) = Some (Major octets)
point_call (MAA number octets) = Some (MajorConfirm octets)
point_call (RS kind number wishes octets) = Some (Restart number wishes octets)
point_call (RA number sides octets) = Some (RestartConfirm (named_sides sides) octets)
point_call m = None

-- The call of the user of a session that sends a message, on a connection whose CN offers this. None sends a CN, which a connect does, an
-- AA, or an AB of a provider (the second bit is that of a user).
abbrev pub call_of : Offer → Meaning → Option Call
call_of offer (CN version_2 bits serial wishes calling called sizes octets) = None
call_of offer (AC version_2 bits serial sides sizes octets) =
    accept_of (bit_and bits offer.requirements) (agreed_number serial (number_of offer.serial)) sides sizes octets
call_of offer (RF reason octets) = refuse_of reason (refusal_with octets)
call_of offer (DT octets) = Some (Data octets)
call_of offer (GT tokens) = Some (Give tokens)
call_of offer (PT tokens octets) = Some (Please tokens octets)
call_of offer (FN octets) = Some (Release octets)
call_of offer (DN octets) = Some (ReleaseAccept octets)
call_of offer (NF octets) = Some (ReleaseRefuse octets)
call_of offer (AB bits octets) = if names bits 2 then Some (Abort octets) else None
call_of offer AA = None
call_of offer m = point_call m
