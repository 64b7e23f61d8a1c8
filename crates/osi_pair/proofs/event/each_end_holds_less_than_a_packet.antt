-- Between two events each end holds less than a packet.
-- For events and the code of `Pair`.
use Rattle.osi_pair.proofs.Vocabulary.{◌≡◌, ℕ, Bool, true, false, List, [], ◌∷◌, take, Option, Some, None, refl, sym, subst, Fed, Local}
use Rattle.osi_pair.proofs.Vocabulary.{EndReason, Call as Asked, CallError, connect_error, call_error, Feeds, Holding, waits, ConnectError}
use Rattle.osi_pair.proofs.Vocabulary.{empty_partial, IsPartial, Crossing, CarriesPieces, TwoEnds, fresh_ends, connected_by}
use Rattle.osi_pair.proofs.Vocabulary.{called_by_error, after_connect, after_call, after_break, Does, HoldLess, Event, Connect, Carry}
use Rattle.osi_pair.proofs.Vocabulary.{Break, Told, Side, Left, Right, ConnectCall as Wanted, arith}
use Rattle.osi_pair.specs.declared.events.Event.TheVariants.{Call}

-- an end holds less than a packet
abbrev pub HoldsLess : Holding → Type 0
HoldsLess h = IsPartial h.held.octets

-- nothing is held at first
pub fresh_less : (left right : Local) → HoldLess (fresh_ends left right)
fresh_less left right h = grind (arith, empty_partial)

-- ---- an end is fed

feeds_less : (old new : Holding) (piece : List ℕ) (fed : Fed) (ended : Option EndReason) (waiting : Bool) → old.end.carrier.ended ≡ ended →
    waits old.end.lines ≡ waiting → Feeds old piece fed new → HoldsLess old → HoldsLess new
feeds_less old new piece fed (Some reason) waiting e w f h = grind arith
feeds_less old new piece fed None true e w f h = grind arith
feeds_less old new piece fed None false e w f h = grind (arith, empty_partial)

pieces_less : (side : Side) (most : ℕ) (pieces : List ℕ) (old new : Crossing) → CarriesPieces side most pieces old new →
    HoldsLess old.from → HoldsLess old.to → HoldsLess new.from × HoldsLess new.to
pieces_less side most [] old new same from to = grind arith
pieces_less side most (used ∷ before) old new h from to =
    let mid = pieces_less side most before old h.0 h.1 from to in
    let piece = h.2 in
    let fed = feeds_less h.0.to piece.between (take _ h.0.from.end.carrier.outgoing) piece.feeds.fed h.0.to.end.carrier.ended
    (waits h.0.to.end.lines) refl refl piece.feeds.feeds mid.1 in grind arith

-- ---- an event

connected_less : (error : Option ConnectError) (c : Wanted) (h : Holding) → HoldsLess h → HoldsLess (connected_by error c h)
connected_less error c h less = grind arith

called_less : (error : Option CallError) (r : ℕ) (c : Asked) (h : Holding) → HoldsLess h → HoldsLess (called_by_error error r c h)
called_less error r c h less = grind arith

connect_less : (asked : Wanted) (p : TwoEnds) → HoldLess p → HoldLess (after_connect asked p)
connect_less asked p h Left = connected_less (connect_error asked p.left.end) asked p.left (h Left)
connect_less asked p h Right = h Right

call_less : (side : Side) (r : ℕ) (c : Asked) (p : TwoEnds) → HoldLess p → HoldLess (after_call side r c p)
call_less Left r c p h Left = called_less (call_error r c p.left.end) r c p.left (h Left)
call_less Left r c p h Right = h Right
call_less Right r c p h Left = h Left
call_less Right r c p h Right = called_less (call_error r c p.right.end) r c p.right (h Right)

break_less : (left right : ℕ) (p : TwoEnds) → HoldLess p → HoldLess (after_break left right p)
break_less left right p h h2 = grind arith

pub event_less : (event : Event) (old new : TwoEnds) (octets : ℕ) → Does event old octets new → HoldLess old → HoldLess new
event_less (Connect asked) old new octets does h = subst HoldLess (sym does.0) (connect_less asked old h)
event_less (Call side reference request) old new octets does h = grind (arith, call_less)
event_less (Carry side most) old new octets does h = grind (arith, pieces_less)
event_less (Break left right) old new octets does h = subst HoldLess (sym does.0) (break_less left right old h)
event_less (Told side) old new octets does h = grind arith
