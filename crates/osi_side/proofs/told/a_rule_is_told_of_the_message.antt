-- The rule that is told of a unit, read from the unit and from its word, which is a part only of a DT.
use Rattle.std.proofs.Common.{arith}
use Rattle.osi_side.proofs.Vocabulary.{◌≡◌, refl, Option, Contents, Place, Seen, as_message}
use Rattle.osi_session.specs.declared.breaches.Breach.{Breach}
use Rattle.osi_side.specs.Nearest.{told_as}
use Rattle.osi_message.specs.Reading.{meaning, place_of, word, word_at}

told_placed : (p : Option Place) (s : Seen) (unit : Contents) (b : Breach) → place_of unit ≡ p →
    told_as s (as_message (word_at p unit)) b ≡ told_as s (meaning unit) b
unfolding meaning
told_placed p s unit b e = grind arith

pub told_word : (s : Seen) (unit : Contents) (b : Breach) → told_as s (as_message (word unit)) b ≡ told_as s (meaning unit) b
unfolding word
told_word s unit b = told_placed (place_of unit) s unit b refl
