-- A TSDU of one unit, or of one after a GT that names no token, has the effect of that unit.
-- For the units of a TSDU that are taken, and for those that are counted.
use Rattle.osi_session.proofs.Vocabulary.{GT, no_token, Units, says, word, meaning, said_by_units, Taker, respond_tsdu, respond_word, arith}
use Rattle.osi_session.proofs.Vocabulary.{◌≡◌, refl, Bool, true, [], ◌∷◌, Option, None, option_map, TokenItem, Kind, GiveTokens, TokenSet}
use Rattle.osi_session.proofs.Vocabulary.{token_octets, Contents, Known}
use Rattle.osi_session.proofs.tables.messages_act_as_the_table_says.{word_alone, word_behind}

pub empty_give : (unit : Contents) (kind : Kind) (known : Known) (item : Option TokenSet) → kind ≡ unit.kind → kind ≡ GiveTokens →
    known ≡ unit.known → option_map token_octets item ≡ known TokenItem → item ≡ None → word unit ≡ says (GT no_token)
unfolding word meaning
empty_give unit kind known item k g n o e = grind arith

pub first_acts : (first u : Contents) (others : Units) (t : Taker) → others ≡ [] → u ≡ first →
    respond_tsdu t (said_by_units (first ∷ others)) ≡ respond_word t (word u)
first_acts first u others t e h = grind (arith, word_alone, word, respond_word)

pub second_acts : (b : Bool) (first f second : Contents) (others : Units) (t : Taker) → (b ≡ true → word f ≡ says (GT no_token)) →
    b ≡ true → f ≡ first → others ≡ second ∷ [] →
    respond_tsdu t (said_by_units (first ∷ others)) ≡ respond_word t (word second)
second_acts b first f second others t gives e g h = grind (arith, word, word_behind)
