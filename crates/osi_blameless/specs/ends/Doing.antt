-- What is done at the carrier of an end, one thing after the other, with the units that it takes and puts by each.
use Rattle.std.specs.Prelude.{◌≡◌, ℕ, List, [], ◌∷◌, ◌++◌, Option, None, IsSome}
use Rattle.osi_tpdu.specs.Value.{Value}
use Rattle.osi_tpdu.specs.Writing.{Fits}
use Rattle.osi_carrier.specs.Calls.{asks, closed_with, may_connect, open_link, put_asking, put_closing, put_together, sent_all}
use Rattle.osi_carrier.specs.Happenings.{Happening}
use Rattle.osi_carrier.specs.React.{put_for, react}
use Rattle.osi_carrier.specs.State.{State, ends}
use Rattle.osi_carrier.specs.declared.ends.EndReason.{EndReason}
use Rattle.osi_stack.specs.Messages.{AreShort}

-- What was done made of this carrier that one. By it the carrier took these units, and put those.
pub data Makes : State → List Value → List Value → State → Type 0 where
  -- a unit arrives, or units that have no effect since the carrier has ended
  takes : (v : Value) (c : State) → Fits v → Makes c (v ∷ []) (put_for v c) (react v c)
  leaves : (units : List Value) (c : State) → IsSome c.ended → Makes c units [] c
  -- a session sends TSDUs, or closes its connection; the user asks for a connection
  sends : (r : ℕ) (tsdus : List (List ℕ)) (c : State) → AreShort tsdus → Makes c [] (put_together r tsdus c) (sent_all r tsdus c)
  closes : (r : ℕ) (c : State) → Makes c [] (put_closing r 128 (open_link r c) c.class) (closed_with r 128 c)
  asks_for : (calling called : Option (List ℕ)) (c : State) → may_connect c ≡ None →
      Makes c [] (put_asking calling called c) (asks calling called c)
  -- the carrier ends; its events are handled
  ends_so : (reason : EndReason) (c : State) → Makes c [] [] (ends reason c)
  hears : (events : List Happening) (c : State) → Makes c [] [] (record c { events = events })
  -- nothing is done; one thing is done, and then another
  rests : (c : State) → Makes c [] [] c
  and_then : (a b c : State) (took more put others : List Value) → Makes a took put b → Makes b more others c →
      Makes a (took ++ more) (put ++ others) c
