-- The meaning of the arguments that C passes.
use Rattle.std.specs.Prelude.{◌≡◌, ℕ, ◌≤◌, ◌&&◌, ◌||◌, List, length, Option, Some, None, IsSome, option_map, ◌==◌, not, nat_le, if◌then◌else◌}
use Rattle.osi_class.specs.declared.terms.Local.{Local}
use Rattle.osi_tpdu.specs.Limits.{size_code, window_units, tsap_octets}
use Rattle.osi_spdu.specs.Fields.{unit_bits}
use Rattle.osi_spdu.specs.Sizes.{named_by}
use Rattle.osi_spdu.specs.Values.{is_size}
use Rattle.osi_spdu.specs.declared.fields.TsduMaximumSize.{TsduMaximumSize}
use Rattle.osi_spdu.specs.declared.settings.Side.{Side}
use Rattle.osi_spdu.specs.declared.settings.Side.TheVariants as side
use Rattle.osi_spdu.specs.declared.settings.Wish.{Wish}
use Rattle.osi_spdu.specs.declared.settings.Wish.TheVariants as wish
use Rattle.osi_spdu.specs.declared.settings.TokenSetting.{TokenSetting}
use Rattle.osi_session.specs.Calls.{Refusal, Unspecified, Congestion, WithData, Call, Accept, Refuse, Restart, RestartConfirm}
use Rattle.osi_session.specs.declared.sides.Sides.{Sides}
use Rattle.osi_stack.specs.Calls.{calling_octets, called_octets}
use Rattle.osi_stack.specs.declared.connecting.Connect.{Connect}
use Rattle.osi_c.specs.Codes.{◌>>=◌}
use Rattle.osi_c.specs.declared.arguments.OsiTerms.{OsiTerms}
use Rattle.osi_c.specs.declared.arguments.OsiSides.{OsiSides}
use Rattle.osi_c.specs.declared.arguments.OsiOpening.{OsiOpening}

-- ---- the side for each token

abbrev pub side_of : ℕ → Option Side
side_of code = if code == 0 then Some side.Asker else if code == 1 then Some side.Answerer else None

abbrev pub wish_of : ℕ → Option Wish
wish_of code = if code == 0 then Some wish.Asker else if code == 1 then Some wish.Answerer else if code == 2 then Some wish.Choice else None

abbrev pub sides_of : OsiSides → Option Sides
sides_of s = do
  data_side ← side_of s.data_token
  minor_side ← side_of s.minor
  major_side ← side_of s.major
  release_side ← side_of s.release
  Some (record { data_token = data_side; minor = minor_side; major = major_side; release = release_side })

abbrev pub wishes_of : OsiSides → Option TokenSetting
wishes_of s = do
  data_wish ← wish_of s.data_token
  minor_wish ← wish_of s.minor
  major_wish ← wish_of s.major
  release_wish ← wish_of s.release
  Some (record { data_token = data_wish; minor = minor_wish; major = major_wish; release = release_wish })

-- ---- numbers and addresses

abbrev pub serial_of : ℕ → Option ℕ
serial_of number = if nat_le number 999999 then Some number else None

-- the largest TSDU of the asker and of the answerer: 0 for no limit, or at least 64 octets
abbrev pub sizes_of : (from_asker from_answerer : ℕ) → Option TsduMaximumSize
sizes_of a b = if is_size a && is_size b then Some (record { from_asker = a; from_answerer = b }) else None

-- an address without octets is no address
abbrev pub given : List ℕ → Option (List ℕ)
given octets = if length octets == 0 then None else Some octets

-- ---- the transport protocol of an end

-- bit 1 is class 0, and bit 2 is class 2
abbrev pub IsTerms : OsiTerms → Type 0
IsTerms t = (t.classes ≤ 3) × (7 ≤ t.size) × (t.size ≤ 13) × (1 ≤ t.window) × (t.window ≤ 15)

abbrev pub SaysTerms : OsiTerms → Local → Type 0
SaysTerms t local =
    (local.class0 ≡ (t.classes == 1 || t.classes == 3)) × (local.class2 ≡ nat_le 2 t.classes)
    × (size_code local.size ≡ t.size) × (window_units local.window ≡ t.window)

-- ---- a requested connection

abbrev pub IsOpening : OsiOpening → Type 0
IsOpening c =
    (c.serial ≤ 999999) × IsSome (wishes_of c.wishes)
    × (length c.calling_tsap.now ≤ 32) × (length c.called_tsap.now ≤ 32)
    × IsSome (sizes_of c.size_from_asker c.size_from_answerer)

abbrev pub SaysOpening : OsiOpening → Connect → Type 0
SaysOpening c connect =
    (unit_bits connect.requirements ≡ c.requirements) × (connect.serial.number ≡ c.serial)
    × (Some connect.wishes ≡ wishes_of c.wishes)
    × (option_map tsap_octets connect.calling_tsap ≡ given c.calling_tsap.now)
    × (option_map tsap_octets connect.called_tsap ≡ given c.called_tsap.now)
    × (calling_octets connect ≡ given c.calling_selector.now)
    × (called_octets connect ≡ given c.called_selector.now)
    × (Some (named_by connect.sizes) ≡ sizes_of c.size_from_asker c.size_from_answerer)
    × (connect.user_data.now ≡ c.user_data.now)

-- ---- calls whose arguments may be out of range

abbrev pub accept_with : ℕ → ℕ → OsiSides → TsduMaximumSize → List ℕ → Option Call
accept_with requirements number codes sizes octets = do
  serial ← serial_of number
  sides ← sides_of codes
  Some (Accept requirements serial sides sizes octets)

abbrev pub accept_of : ℕ → ℕ → OsiSides → (from_asker from_answerer : ℕ) → List ℕ → Option Call
accept_of requirements number codes from_asker from_answerer octets = do
  sizes ← sizes_of from_asker from_answerer
  accept_with requirements number codes sizes octets

-- user data goes only with reason 2
abbrev pub refusal_of : ℕ → List ℕ → Option Refusal
refusal_of reason octets =
    if reason == 2 then Some (WithData octets)
    else if not (length octets == 0) then None
    else if reason == 0 then Some Unspecified
    else if reason == 1 then Some Congestion
    else None

abbrev pub refuse_of : ℕ → List ℕ → Option Call
refuse_of reason octets = do
  refusal ← refusal_of reason octets
  Some (Refuse refusal)

abbrev pub restart_of : ℕ → OsiSides → List ℕ → Option Call
restart_of number codes octets = do
  wishes ← wishes_of codes
  Some (Restart number wishes octets)

abbrev pub restart_confirm_of : OsiSides → List ℕ → Option Call
restart_confirm_of codes octets = do
  sides ← sides_of codes
  Some (RestartConfirm sides octets)
