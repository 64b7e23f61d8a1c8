-- TSDUs that are read straight.
use Rattle.std.specs.Prelude.{◌≡◌, ℕ, true, false, List, [], ◌∷◌, Ok}
use Rattle.osi_message.specs.Meanings.{GT}
use Rattle.osi_message.specs.Reading.{said_at}
use Rattle.osi_message.specs.Tokens.{no_token}
use Rattle.osi_message.specs.Words.{Word, says}
use Rattle.osi_session.specs.Joining.{is_restart_word}
use Rattle.osi_session.specs.Steady.{is_steady}

-- a steady word after a token item that names no token
pub record IsStraight (tsdu : List ℕ) (w : Word) : Type 0 where
  pub said : said_at tsdu ≡ Ok (says (GT no_token) ∷ w ∷ [])
  pub steady : is_steady w ≡ true
  pub other : is_restart_word w ≡ false
