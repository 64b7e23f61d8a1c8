-- What is kept of a TSDU: its outline, a TSDU without user data that has the same effect on every session.
use Rattle.std.specs.Prelude.{◌≡◌, ℕ, if◌then◌else◌, nat_le, List, [], ◌∷◌, length, map, replicate, Option, Some, None, Result, Ok}
use Rattle.osi_spdu.specs.declared.faults.SpduFault.{SpduFault}
use Rattle.osi_message.specs.Meanings.{Meaning, CN, AC, RF, DT, GT, PT, MIP, MIA, MAP, MAA, RS, RA, FN, DN, NF, AB, AA}
use Rattle.osi_message.specs.Reading.{said_at}
use Rattle.osi_message.specs.Words.{Word, Words, says, part, part_octets}
use Rattle.osi_message.specs.Written.{is_second, written}
use Rattle.osi_session.specs.Joining.{Taker, respond_came}
use Rattle.osi_session.specs.Respond.{has_no_effect}
use Rattle.osi_session.specs.Standing.{counted}

-- a message without its user data; a CN and an AC stay whole
abbrev pub bare : Meaning → Option Meaning
bare (CN version_2 requirements serial wishes calling called sizes octets) = None
bare (AC version_2 requirements serial sides sizes octets) = None
bare (RF reason octets) = Some (RF reason [])
bare (DT octets) = Some (DT [])
bare (GT tokens) = Some (GT tokens)
bare (PT tokens octets) = Some (PT tokens [])
bare (MIP confirm n octets) = Some (MIP confirm n [])
bare (MIA n octets) = Some (MIA n [])
bare (MAP n octets) = Some (MAP n [])
bare (MAA n octets) = Some (MAA n [])
bare (RS kind n wishes octets) = Some (RS kind n wishes [])
bare (RA n sides octets) = Some (RA n sides [])
bare (FN octets) = Some (FN [])
bare (DN octets) = Some (DN [])
bare (NF octets) = Some (NF [])
bare (AB bits octets) = Some (AB bits [])
bare AA = Some AA

-- these octets for a TSDU, unless they are more
abbrev pub at_most : List ℕ → List ℕ → List ℕ
at_most octets tsdu = if nat_le (length octets) (length tsdu) then octets else tsdu

-- as it is sent without user data
abbrev pub outline_as : List ℕ → Option Meaning → List ℕ
outline_as tsdu None = tsdu
outline_as tsdu (Some m) = at_most (written m) tsdu

-- a part of a Data counts by its length alone, so it has as many octets, all zero
abbrev pub no_data : List ℕ → List ℕ
no_data octets = replicate (length octets) 0

abbrev pub outline_behind : List ℕ → Word → List ℕ
outline_behind tsdu (says m) = if is_second m then outline_as tsdu (bare m) else tsdu
outline_behind tsdu (part place octets) = at_most (part_octets place (no_data octets)) tsdu

-- a message alone in its TSDU, or a word after a token item that names no token; anything else stays whole
abbrev pub outline_by : List ℕ → Result Words SpduFault → List ℕ
outline_by tsdu (Ok (says m ∷ [])) = if is_second m then tsdu else outline_as tsdu (bare m)
outline_by tsdu (Ok (says item ∷ w ∷ [])) = if has_no_effect item then outline_behind tsdu w else tsdu
outline_by tsdu _ = tsdu

unfoldable pub outline : List ℕ → List ℕ
outline tsdu = outline_by tsdu (said_at tsdu)

abbrev pub outlines : List (List ℕ) → List (List ℕ)
outlines tsdus = map outline tsdus

-- two TSDUs have the same effect on every session that takes them, but for what its user is shown
abbrev pub AreAlike : List ℕ → List ℕ → Type 0
AreAlike one other = (t : Taker) → counted (respond_came t (said_at one)) ≡ counted (respond_came t (said_at other))
