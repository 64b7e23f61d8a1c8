-- What a unit is and what it says of functional units and of its version, read from a unit and from its word, which is a part only of a DT.
-- For what a side selects that leaves the profile.
use Rattle.std.proofs.Common.{arith}
use Rattle.osi_side.proofs.Vocabulary.{◌≡◌, refl, Option, Contents, Place, as_message, accepted_in, offered_in}
use Rattle.osi_side.specs.Profiles.{is_disconnect, is_finish, offers_1, selects_1}
use Rattle.osi_message.specs.Reading.{meaning, place_of, word, word_at}

offered_placed : (p : Option Place) (unit : Contents) → place_of unit ≡ p →
    offered_in (as_message (word_at p unit)) ≡ offered_in (meaning unit)
unfolding meaning
offered_placed p unit e = grind arith

accepted_placed : (p : Option Place) (unit : Contents) → place_of unit ≡ p →
    accepted_in (as_message (word_at p unit)) ≡ accepted_in (meaning unit)
unfolding meaning
accepted_placed p unit e = grind arith

pub offered_word : (unit : Contents) → offered_in (as_message (word unit)) ≡ offered_in (meaning unit)
unfolding word
offered_word unit = offered_placed (place_of unit) unit refl

pub accepted_word : (unit : Contents) → accepted_in (as_message (word unit)) ≡ accepted_in (meaning unit)
unfolding word
accepted_word unit = accepted_placed (place_of unit) unit refl

-- ---- the version

offers_placed : (p : Option Place) (unit : Contents) → place_of unit ≡ p → offers_1 (as_message (word_at p unit)) ≡ offers_1 (meaning unit)
unfolding meaning
offers_placed p unit e = grind arith

selects_placed : (p : Option Place) (unit : Contents) → place_of unit ≡ p → selects_1 (as_message (word_at p unit)) ≡ selects_1 (meaning unit)
unfolding meaning
selects_placed p unit e = grind arith

pub offers_word : (unit : Contents) → offers_1 (as_message (word unit)) ≡ offers_1 (meaning unit)
unfolding word
offers_word unit = offers_placed (place_of unit) unit refl

pub selects_word : (unit : Contents) → selects_1 (as_message (word unit)) ≡ selects_1 (meaning unit)
unfolding word
selects_word unit = selects_placed (place_of unit) unit refl

finish_placed : (p : Option Place) (unit : Contents) → place_of unit ≡ p → is_finish (as_message (word_at p unit)) ≡ is_finish (meaning unit)
unfolding meaning
finish_placed p unit e = grind arith

pub finish_word : (unit : Contents) → is_finish (as_message (word unit)) ≡ is_finish (meaning unit)
unfolding word
finish_word unit = finish_placed (place_of unit) unit refl

disconnect_placed : (p : Option Place) (unit : Contents) → place_of unit ≡ p → is_disconnect (as_message (word_at p unit)) ≡ is_disconnect (meaning unit)
unfolding meaning
disconnect_placed p unit e = grind arith

pub disconnect_word : (unit : Contents) → is_disconnect (as_message (word unit)) ≡ is_disconnect (meaning unit)
unfolding word
disconnect_word unit = disconnect_placed (place_of unit) unit refl
