-- Octets that begin after the first ones of their buffer.
-- For `Octets`.
use Rattle.osi_message.proofs.Vocabulary.{◌≡◌, ℕ, ◌≤◌, List, ◌++◌, length, drop, min, drop-append-le, drop_min}

pub more_behind : (start : ℕ) (items more : List ℕ) → start ≤ length items → drop start (items ++ more) ≡ drop start items ++ more
more_behind start items more h = drop-append-le start items more h

pub none_beyond : (start : ℕ) (items : List ℕ) → drop (min start (length items)) items ≡ drop start items
none_beyond start items = drop_min start items
