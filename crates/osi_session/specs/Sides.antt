-- The side that is wished for, stated for and given each token.
use Rattle.std.specs.Prelude.{Bool, true, false, not, ◌&&◌, if◌then◌else◌}
use Rattle.osi_spdu.specs.declared.settings.TokenSetting.{TokenSetting}
use Rattle.osi_spdu.specs.declared.settings.Wish.{Wish}
use Rattle.osi_spdu.specs.declared.settings.Wish.TheVariants.{Asker, Answerer, Choice}
use Rattle.osi_spdu.specs.declared.settings.Side.{Side}
use Rattle.osi_spdu.specs.declared.settings.Side.TheVariants as side
use Rattle.osi_spdu.specs.Fields.{wish_of}
use Rattle.osi_session.specs.declared.sides.Sides.{Sides}
use Rattle.osi_session.specs.declared.selected.FunctionalUnits.{FunctionalUnits}
use Rattle.osi_message.specs.declared.tokens.Tokens.{Tokens}
use Rattle.osi_message.specs.Tokens.{Token, data_token, minor, major, release, has, set_of, each}
use Rattle.osi_session.specs.Units.{available}

abbrev pub wish_for : TokenSetting → Token → Wish
wish_for w data_token = w.data_token
wish_for w minor = w.minor
wish_for w major = w.major
wish_for w release = w.release

abbrev pub side_for : Sides → Token → Side
side_for s data_token = s.data_token
side_for s minor = s.minor
side_for s major = s.major
side_for s release = s.release

abbrev pub sides_by : (Token → Side) → Sides
sides_by f = record { data_token = f data_token; minor = f minor; major = f major; release = f release }

abbrev pub setting_by : (Token → Wish) → TokenSetting
setting_by f = record { data_token = f data_token; minor = f minor; major = f major; release = f release }

-- the requested side, or for a choice the one that the answer gives
abbrev pub chosen : Wish → Side → Side
chosen Asker answer = side.Asker
chosen Answerer answer = side.Answerer
chosen Choice answer = answer

-- a token that is not available is settled as the asker's, which is written as 0
abbrev pub settled : Bool → Wish → Side → Side
settled is_available wish answer = if is_available then chosen wish answer else side.Asker

unfoldable pub settle : FunctionalUnits → TokenSetting → Sides → Sides
settle u wishes answer = sides_by (λ t. settled (has (available u) t) (wish_for wishes t) (side_for answer t))

-- the side that is stated
abbrev pub named_side : Wish → Side
named_side Asker = side.Asker
named_side Answerer = side.Answerer
named_side Choice = side.Asker

abbrev pub stated_side : Bool → Wish → Side
stated_side is_available answer = if is_available then named_side answer else side.Asker

unfoldable pub stated : FunctionalUnits → TokenSetting → Sides
stated u answer = sides_by (λ t. stated_side (has (available u) t) (wish_for answer t))

-- what is stated is a side, and one that the wish allows
abbrev pub is_allowed : Wish → Wish → Bool
is_allowed wish Choice = false
is_allowed Choice Asker = true
is_allowed Choice Answerer = true
is_allowed Asker Asker = true
is_allowed Asker Answerer = false
is_allowed Answerer Asker = false
is_allowed Answerer Answerer = true

abbrev pub allows : Bool → Wish → Wish → Bool
allows is_available wish answer = if is_available then is_allowed wish answer else true

-- an answer that settles each available token as was asked
unfoldable pub answers_wishes : FunctionalUnits → TokenSetting → TokenSetting → Bool
answers_wishes u wishes answer = each (λ t. allows (has (available u) t) (wish_for wishes t) (wish_for answer t))

-- a wish for a token that is not available is written as 0
abbrev pub offered_wish : Bool → Wish → Wish
offered_wish is_available wish = if is_available then wish else Asker

unfoldable pub offered : FunctionalUnits → TokenSetting → TokenSetting
offered u wishes = setting_by (λ t. offered_wish (has (available u) t) (wish_for wishes t))

abbrev pub is_asker : Side → Bool
is_asker side.Asker = true
is_asker side.Answerer = false

-- the available tokens of either side, once they are settled
unfoldable pub of_asker : FunctionalUnits → Sides → Tokens
of_asker u s = set_of (λ t. has (available u) t && is_asker (side_for s t))

unfoldable pub of_answerer : FunctionalUnits → Sides → Tokens
of_answerer u s = set_of (λ t. has (available u) t && not (is_asker (side_for s t)))

-- the sides as they are written
abbrev pub setting_of : Sides → TokenSetting
setting_of s = setting_by (λ t. wish_of (side_for s t))
