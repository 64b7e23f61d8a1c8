-- The same event leads two pairs of ends in the same state to the same state, if memory suffices.
-- For the laws of `standing`.
use Rattle.osi_session.specs.Listening.{called}
use Rattle.osi_pair.specs.declared.events.Event.TheVariants.{Call}
use Rattle.osi_pair.specs.Entries.{calls}
use Rattle.osi_stack.specs.Calls.{breaks, connects as asks_for}
use Rattle.osi_pair.proofs.Vocabulary.{◌≡◌, ℕ, List, [], ◌∷◌, ◌++◌, Option, Some, None, sym, ap, ap₂, subst, IsSameEnd, AreSameEnds}
use Rattle.osi_pair.proofs.Vocabulary.{FoundMemory, EndReason, Call as Asked, CallError, call_error, to_session, End, Holding, ConnectError}
use Rattle.osi_pair.proofs.Vocabulary.{TwoEnds, end_at, connected_by, called_by_error, after_connect, after_call, CarriesFrom, Entry, Does}
use Rattle.osi_pair.proofs.Vocabulary.{IsToldOfBreak, TellsBreak, IsReached, waiting_in, quieted, Event, Connect, Carry, Break, Told, Side}
use Rattle.osi_pair.proofs.Vocabulary.{Left, Right, ConnectCall as Wanted, append-nil, arith}
use Rattle.osi_pair.proofs.same.a_carry_in_any_pieces.{same_at, same_moved}
use Rattle.osi_pair.proofs.packet.a_packet_is_one_delivery_or_none.{quiet_of}
use Rattle.osi_pair.proofs.session.an_end_with_nothing_pending.{quiet_same}

same_ends : (p q a b : TwoEnds) → AreSameEnds p q → a ≡ p → b ≡ q → AreSameEnds a b
same_ends p q a b h e f = subst (λ (x : TwoEnds). AreSameEnds x b) (sym e) (subst (λ (x : TwoEnds). AreSameEnds p x) (sym f) h)

-- ---- the user of the left end requests a connection

connect_does : Option ConnectError → Wanted → End → End
connect_does None c e = asks_for c e
connect_does (Some error) c e = e

connected_is : (o : Option ConnectError) (c : Wanted) (h : Holding) → connected_by o c h ≡ record h { end = connect_does o c h.end }
unfolding connect_does
connected_is o c h = grind arith

same_connect : (c : Wanted) (p q : TwoEnds) → AreSameEnds p q → AreSameEnds (after_connect c p) (after_connect c q)
same_connect c p q h = grind (arith, connected_is, connect_does)

-- ---- a call

call_does : Option CallError → ℕ → Asked → End → End
call_does None r call e = to_session r (called call) e
call_does (Some error) r call e = e

called_is : (o : Option CallError) (r : ℕ) (call : Asked) (h : Holding) →
    called_by_error o r call h ≡ record h { end = call_does o r call h.end }
unfolding call_does
called_is o r call h = grind arith

-- an end that has ended accepts none
record IsRefused (r : ℕ) (call : Asked) (e : End) : Type 0 where
  why : CallError
  is : call_error r call e ≡ Some why

unchanged : (r : ℕ) (call : Asked) (h : Holding) → IsRefused r call h.end → called_by_error (call_error r call h.end) r call h ≡ h
unchanged r call h out = ap (λ (o : Option CallError). called_by_error o r call h) out.is

same_call : (s : Side) (r : ℕ) (call : Asked) (p q : TwoEnds) → IsReached p → AreSameEnds p q →
    AreSameEnds (after_call s r call p) (after_call s r call q)
same_call Left r call p q at h = record {
  left = grind (arith, same_moved, call_does, called_is, unchanged);
  right = h.right;
  reach = h.reach;
  journal = ap₂ (λ (j : List Entry) (e : End). j ++ calls Left r call (call_error r call e) ∷ []) h.journal h.left.end;
}
same_call Right r call p q at h = record {
  left = h.left;
  right = grind (arith, same_moved, call_does, called_is, unchanged);
  reach = h.reach;
  journal = ap₂ (λ (j : List Entry) (e : End). j ++ calls Right r call (call_error r call e) ∷ []) h.journal h.right.end;
}

-- ---- a break

-- the effect of the break on an end, when nothing is pending
break_does : End → End
break_does e = record (breaks e) { lines = quieted (breaks e).lines }

-- what becomes of the end, and of the journal
record IsToldOnce (a b : Holding) (after others : List Entry) : Type 0 where
  same : IsSameEnd a b
  journal : after ≡ others

told_by : (s : Side) (p q a b : Holding) (before after earlier others : List Entry) (o : Option EndReason) → p.end.carrier.ended ≡ o →
    IsSameEnd p q → before ≡ earlier → waiting_in a.end.lines ≡ [] → waiting_in b.end.lines ≡ [] → IsToldOfBreak s p before a after →
    IsToldOfBreak s q earlier b others → IsToldOnce a b after others
unfolding break_does
told_by s p q a b before after earlier others (Some reason) e same journal quiet still h k = grind (arith, same_moved)
told_by s p q a b before after earlier others None e same journal quiet still h k =
    grind (arith, same_moved, quiet_same, append-nil, break_does p.end, break_does q.end)

same_told : (s : Side) (p q a b : TwoEnds) → AreSameEnds p q → waiting_in (end_at s a).end.lines ≡ [] →
    waiting_in (end_at s b).end.lines ≡ [] → TellsBreak s p a → TellsBreak s q b → AreSameEnds a b
same_told s p q a b h quiet still x y = grind (arith, told_by, same_at s p q h)

-- ---- each event

-- a carry does one thing
abbrev pub CarriesOnce : Type 0
CarriesOnce = (side : Side) (most : ℕ) (p q a b : TwoEnds) (octets : ℕ) → IsReached p → IsReached q → AreSameEnds p q →
    CarriesFrom side most p octets a → CarriesFrom side most q octets b →
    FoundMemory a → FoundMemory b → AreSameEnds a b

pub same_event : CarriesOnce → (event : Event) (p q a b : TwoEnds) (octets : ℕ) → IsReached p → IsReached q → IsReached a → IsReached b →
    AreSameEnds p q → Does event p octets a → Does event q octets b → FoundMemory a → FoundMemory b → AreSameEnds a b
same_event law (Connect asked) p q a b octets at there later too h x y found memory = same_ends _ _ a b (same_connect asked p q h) x.0 y.0
same_event law (Call side reference request) p q a b octets at there later too h x y found memory = grind (arith, same_ends, same_call)
same_event law (Carry side most) p q a b octets at there later too h x y found memory = search arith
same_event law (Break left right) p q a b octets at there later too h x y found memory = grind (arith, same_ends)
same_event law (Told side) p q a b octets at there later too h x y found memory = search (arith, same_told, quiet_of)
