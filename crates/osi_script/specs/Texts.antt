-- Values as words: user data in hexadecimal, or a dash if there is none; the side of each token as a letter.
use Rattle.std.specs.Prelude.{ℕ, ◌*◌, List, [], ◌∷◌, length, codes, Option, Some, None}
use Rattle.hex.specs.Hex.{encode_lower}
use Rattle.osi_spdu.specs.declared.settings.TokenSetting.{TokenSetting}
use Rattle.osi_spdu.specs.declared.settings.Wish.{Wish}
use Rattle.osi_spdu.specs.declared.settings.Wish.TheVariants.{Asker, Answerer, Choice}
use Rattle.osi_spdu.specs.declared.settings.Side.{Side}
use Rattle.osi_spdu.specs.declared.settings.Side.TheVariants as side
use Rattle.osi_session.specs.declared.sides.Sides.{Sides}

unfoldable pub data_text : List ℕ → List ℕ
data_text [] = codes "-"
data_text (octet ∷ octets) = encode_lower (octet ∷ octets)

-- the number of digits of user data
abbrev pub digits_of : Option (List ℕ) → ℕ
digits_of None = 0
digits_of (Some octets) = 2 * length octets

-- a, r and c
abbrev pub wish_letter : Wish → ℕ
wish_letter Asker = 97
wish_letter Answerer = 114
wish_letter Choice = 99

abbrev pub side_letter : Side → ℕ
side_letter side.Asker = 97
side_letter side.Answerer = 114

-- data, minor, major, release
abbrev pub wishes_text : TokenSetting → List ℕ
wishes_text w = wish_letter w.data_token ∷ wish_letter w.minor ∷ wish_letter w.major ∷ wish_letter w.release ∷ []

abbrev pub sides_text : Sides → List ℕ
sides_text s = side_letter s.data_token ∷ side_letter s.minor ∷ side_letter s.major ∷ side_letter s.release ∷ []
