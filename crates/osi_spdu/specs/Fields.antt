-- The octets of each field of a unit.
use Rattle.std.specs.Prelude.{ℕ, ◌+◌, ◌*◌, ◌/◌, ◌%◌, ◌==◌, Bool, true, List, [], ◌∷◌, Option, Some, None}
use Rattle.osi_spdu.specs.declared.tokens.TokenSet.{TokenSet}
use Rattle.osi_spdu.specs.declared.requirements.Requirements.{Requirements}
use Rattle.osi_spdu.specs.declared.settings.TokenSetting.{TokenSetting}
use Rattle.osi_spdu.specs.declared.settings.Wish.{Wish}
use Rattle.osi_spdu.specs.declared.settings.Wish.TheVariants as wishes
use Rattle.osi_spdu.specs.declared.settings.Side.{Side}
use Rattle.osi_spdu.specs.declared.settings.Side.TheVariants as sides
use Rattle.osi_spdu.specs.declared.fields.SyncType.{SyncType}
use Rattle.osi_spdu.specs.declared.fields.SyncType.TheVariants.{Asked, Open}
use Rattle.osi_spdu.specs.declared.fields.ResyncType.{ResyncType}
use Rattle.osi_spdu.specs.declared.fields.ResyncType.TheVariants.{Restart, Abandon, Set}
use Rattle.osi_spdu.specs.declared.fields.Enclosure.{Enclosure}
use Rattle.osi_spdu.specs.declared.fields.Enclosure.TheVariants.{First, Middle, Last, Whole}
use Rattle.osi_spdu.specs.declared.fields.TsduMaximumSize.{TsduMaximumSize}
use Rattle.osi_spdu.specs.declared.fields.Reason.{Reason}
use Rattle.osi_spdu.specs.Values.{token_bits}

abbrev pub octet_list : ℕ → List ℕ
octet_list b = b ∷ []

abbrev pub sync_octet : SyncType → ℕ
sync_octet Asked = 0
sync_octet Open = 1

-- the bits of a set of tokens, those that name none included
abbrev pub bits_of : TokenSet → ℕ
bits_of t = t.0

abbrev pub token_octets : TokenSet → List ℕ
token_octets t = token_bits (bits_of t) ∷ []

-- every bit of the set names a token
abbrev pub tokens_alone : Option TokenSet → Bool
tokens_alone None = true
tokens_alone (Some t) = token_bits (bits_of t) == bits_of t

-- a number of two octets, the high one first
abbrev pub two_octets : ℕ → List ℕ
two_octets n = n / 256 ∷ n % 256 ∷ []

-- the bits of functional units, all 16
abbrev pub unit_bits : Requirements → ℕ
unit_bits r = r.0

abbrev pub requirement_octets : Requirements → List ℕ
requirement_octets r = two_octets (unit_bits r)

abbrev pub size_octets : TsduMaximumSize → List ℕ
size_octets s = s.from_asker / 256 ∷ s.from_asker % 256 ∷ s.from_answerer / 256 ∷ s.from_answerer % 256 ∷ []

abbrev pub enclosure_octet : Enclosure → ℕ
enclosure_octet Middle = 0
enclosure_octet First = 1
enclosure_octet Last = 2
enclosure_octet Whole = 3

abbrev pub wish_number : Wish → ℕ
wish_number wishes.Asker = 0
wish_number wishes.Answerer = 1
wish_number wishes.Choice = 2

abbrev pub wish_of : Side → Wish
wish_of sides.Asker = wishes.Asker
wish_of sides.Answerer = wishes.Answerer

abbrev pub setting_octets : TokenSetting → List ℕ
setting_octets s = (wish_number s.data_token + 4 * wish_number s.minor + 16 * wish_number s.major + 64 * wish_number s.release) ∷ []

abbrev pub resync_octet : ResyncType → ℕ
resync_octet Restart = 0
resync_octet Abandon = 1
resync_octet Set = 2

abbrev pub reason_octets : Reason → List ℕ
reason_octets r = r.code ∷ r.data_octets.now
