-- What X.225 allows and the profile leaves out: functional units that an AC selects together, version 1, a release that
-- both sides ask for, and units that no session sends.
use Rattle.std.specs.Prelude.{ℕ, ◌==◌, ◌||◌, Bool, true, false, not, ◌&&◌, nat_lt, List, [], ◌∷◌, get_or, Option, Some, None, Result, Ok}
use Rattle.std.specs.Prelude.{Err}
use Rattle.std.specs.List.{slice_get}
use Rattle.std.specs.Int.RustNames.{bit_and}
use Rattle.osi_spdu.specs.declared.faults.SpduFault.{SpduFault}
use Rattle.osi_spdu.specs.declared.faults.SpduFault.TheVariants.{UnknownSi}
use Rattle.osi_message.specs.Meanings.{Meaning, CN, AC, FN, DN}
use Rattle.osi_message.specs.Reading.{said_at}
use Rattle.osi_message.specs.Words.{Words, as_message}
use Rattle.osi_session.specs.Phases.{is_releasing, is_wait_cn}
use Rattle.osi_session.specs.Standing.{Seen}
use Rattle.osi_session.specs.Units.{is_profile}
use Rattle.osi_session.specs.declared.breaches.Breach.TheVariants.{Call, Outside}
use Rattle.osi_session.specs.declared.faults.CallError.TheVariants.{BadState}
use Rattle.osi_side.specs.declared.rules.Break.{Break}
use Rattle.osi_side.specs.declared.rules.Rule.{Rule}
use Rattle.osi_side.specs.declared.rules.Rule.TheVariants.{Breach, Fault}
use Rattle.osi_side.specs.Explaining.{Told}

-- the functional units that a CN offers
abbrev pub offered_in : Meaning → Option ℕ
offered_in (CN version_2 requirements serial wishes calling called sizes octets) = Some requirements
offered_in _ = None

-- those that an AC accepts
abbrev pub accepted_in : Meaning → Option ℕ
accepted_in (AC version_2 requirements serial sides sizes octets) = Some requirements
accepted_in _ = None

-- of the first unit of a TSDU
abbrev pub in_first : (Meaning → Option ℕ) → Result Words SpduFault → Option ℕ
in_first f (Ok (w ∷ words)) = f (as_message w)
in_first f (Ok []) = None
in_first f (Err fault) = None

-- the units that both name are selected
abbrev pub is_outside : Option ℕ → Option ℕ → Bool
is_outside (Some offered) (Some accepted) = not (is_profile (bit_and offered accepted))
is_outside _ _ = false

-- A side answers the CN, which is the first TSDU of the other side, by an AC as its own first TSDU, and selects what the
-- profile leaves out.
abbrev pub selects_outside : List (List ℕ) → List Told → Bool
selects_outside us [] = false
selects_outside us (t ∷ told) =
    nat_lt 0 t.before && is_outside (in_first offered_in (said_at (get_or us 0 []))) (in_first accepted_in (said_at t.octets))

-- ---- version 1

-- a CN that offers no version 2
abbrev pub offers_1 : Meaning → Bool
offers_1 (CN version_2 requirements serial wishes calling called sizes octets) = not version_2
offers_1 _ = false

-- an AC that selects none
abbrev pub selects_1 : Meaning → Bool
selects_1 (AC version_2 requirements serial sides sizes octets) = not version_2
selects_1 _ = false

-- the first unit of a TSDU
abbrev pub first_is : (Meaning → Bool) → Result Words SpduFault → Bool
first_is f (Ok (w ∷ words)) = f (as_message w)
first_is f (Ok []) = false
first_is f (Err fault) = false

-- A called side that still waits for a CN of version 2 answers one without it, the first TSDU of the other side, by an AC of
-- version 1.
abbrev pub answers_in_1 : (us : List (List ℕ)) (tsdu : List ℕ) (before : ℕ) → Seen → Bool
answers_in_1 us tsdu before s =
    is_wait_cn s.state.phase && (nat_lt 0 before && (first_is offers_1 (said_at (get_or us 0 [])) && first_is selects_1 (said_at tsdu)))

-- ---- a release that both sides ask for

abbrev pub is_finish : Meaning → Bool
is_finish (FN octets) = true
is_finish _ = false

abbrev pub is_disconnect : Meaning → Bool
is_disconnect (DN octets) = true
is_disconnect _ = false

-- A side that waits for the answer to its FN accepts the release of the other side, whose FN had passed and is the next TSDU that
-- it takes.
abbrev pub accepts_too : (us : List (List ℕ)) (tsdu : List ℕ) (before : ℕ) → Break → Bool
accepts_too us tsdu before by =
    is_releasing by.standing.state.phase
    && (nat_lt by.taken before && (first_is is_finish (said_at (get_or us by.taken [])) && first_is is_disconnect (said_at tsdu)))

-- ---- a TSDU that no session sends, and that is outside of the profile rather than a break

-- a unit with this SI: PREPARE, or connect data that continues
abbrev pub is_left_out : Option ℕ → Bool
is_left_out None = false
is_left_out (Some si) = (si == 7) || ((si == 15) || (si == 16))

-- what no session of this product sends in its state, and X.225 allows there
abbrev pub is_allowed : (us : List (List ℕ)) (tsdu : List ℕ) (before : ℕ) → Break → Bool
is_allowed us tsdu before by = answers_in_1 us tsdu before by.standing || accepts_too us tsdu before by

abbrev pub leaves_by : (is_allowed : Bool) → (tsdu : List ℕ) → Rule → Bool
leaves_by is_allowed tsdu (Breach Outside) = true
leaves_by is_allowed tsdu (Breach (Call BadState)) = is_allowed
leaves_by is_allowed tsdu (Fault (UnknownSi at)) = is_left_out (slice_get tsdu at)
leaves_by is_allowed tsdu rule = false

-- of a side that heard this, by a TSDU before which so many had passed
unfoldable pub leaves : (us : List (List ℕ)) (tsdu : List ℕ) (before : ℕ) → Break → Bool
leaves us tsdu before by = leaves_by (is_allowed us tsdu before by) tsdu by.rule
