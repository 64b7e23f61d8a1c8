-- Words that a side may send as soon as they are allowed: it loses nothing if it takes other TSDUs later.
use Rattle.std.specs.Prelude.{◌≡◌, Bool, true, false, ℕ, List, [], ◌∷◌, None}
use Rattle.osi_message.specs.Meanings.{DT, GT, PT, MIP, MIA}
use Rattle.osi_message.specs.Tokens.{is_empty}
use Rattle.osi_message.specs.Words.{Word, says, part}
use Rattle.osi_session.specs.Standing.{Seen, Count, Takes, listens, after_count}

-- data and each part of it, a request for tokens, a token item that names none, a minor point and its confirmation
abbrev pub is_steady : Word → Bool
is_steady (says (DT octets)) = true
is_steady (says (PT tokens octets)) = true
is_steady (says (GT tokens)) = is_empty tokens
is_steady (says (MIP confirm number octets)) = true
is_steady (says (MIA number octets)) = true
is_steady (part place octets) = true
is_steady _ = false

-- a side in this state takes this TSDU, sends nothing, and is in that state afterwards
pub record Hears (s : Seen) (tsdu : List ℕ) (t : Seen) : Type 0 where
  pub count : Count
  pub listening : listens s ≡ true
  pub taken : Takes s tsdu count
  pub quiet : count.reply ≡ None
  pub next : t ≡ after_count s count

-- it takes these, one after the other, and sends nothing
abbrev pub HearsAll : Seen → List (List ℕ) → Seen → Type 0
HearsAll s [] t = t ≡ s
HearsAll s (tsdu ∷ tsdus) t = (between : Seen) × (Hears s tsdu between) × (HearsAll between tsdus t)
