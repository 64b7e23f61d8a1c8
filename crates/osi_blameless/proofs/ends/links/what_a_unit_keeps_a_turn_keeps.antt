-- What each thing that is done at a carrier leaves true of it, a turn leaves true, whatever arrives and however much memory there is.
-- For the course of a connection.
use Rattle.osi_blameless.proofs.ends.Vocabulary.{[], List, None, Option, ℕ, ◌∷◌, ◌≡◌, Value, may_connect, sent, sent_all, Happening, react}
use Rattle.osi_blameless.proofs.ends.Vocabulary.{State as Carrier, EndReason, Carries, Makes, asks}
use Rattle.osi_carrier.specs.State as states
use Rattle.osi_blameless.specs.ends.Doing as doing

-- what a carrier keeps as units arrive, sessions speak and the user asks for a connection, whatever events are queued, and at its end
pub record IsKept (P : Carrier → Type 0) : Type 0 where
  pub reacts_to : (v : Value) (c : Carrier) → P c → P (react v c)
  pub carries : Carries P
  pub asks_for : (calling called : Option (List ℕ)) (c : Carrier) → may_connect c ≡ None → P c → P (asks calling called c)
  pub untold : (events : List Happening) (c : Carrier) → P c → P (record c { events = events })
  pub ends_so : (reason : EndReason) (c : Carrier) → P c → P (states.ends reason c)

module _ (P : Carrier → Type 0) (kept : IsKept P) where
  all_sent : (r : ℕ) (tsdus : List (List ℕ)) (c : Carrier) → P c → P (sent_all r tsdus c)
  all_sent r [] c p = p
  all_sent r (tsdu ∷ tsdus) c p = all_sent r tsdus (sent r tsdu c) (kept.carries.sends r tsdu c p)

  pub makes_kept : (old new : Carrier) (took put : List Value) → Makes old took put new → P old → P new
  makes_kept _ _ _ _ (doing.takes v c fits) p = kept.reacts_to v c p
  makes_kept _ _ _ _ (doing.leaves units c over) p = p
  makes_kept _ _ _ _ (doing.sends r tsdus c short) p = all_sent r tsdus c p
  makes_kept _ _ _ _ (doing.closes r c) p = kept.carries.closes r c p
  makes_kept _ _ _ _ (doing.asks_for calling called c may) p = kept.asks_for calling called c may p
  makes_kept _ _ _ _ (doing.ends_so reason c) p = kept.ends_so reason c p
  makes_kept _ _ _ _ (doing.hears events c) p = kept.untold events c p
  makes_kept _ _ _ _ (doing.rests c) p = p
  makes_kept _ _ _ _ (doing.and_then a b c took more put others first next) p =
      makes_kept b c more others next (makes_kept a b took put first p)
