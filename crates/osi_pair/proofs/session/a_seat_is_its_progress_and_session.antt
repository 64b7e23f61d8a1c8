-- A side of a connection, by how far its connection is, and its session.
-- For turns, calls, breaks and ends, packets and the promises.
use Rattle.osi_between.specs.Progress as progress
use Rattle.osi_machine.specs.Worlds as worlds
use Rattle.osi_pair.proofs.Vocabulary.{◌≡◌, ℕ, Bool, true, false, nat_lt, if◌then◌else◌, List, Option, Some, None, is_some, IfSome, ap}
use Rattle.osi_pair.proofs.Vocabulary.{arith, nat_tests, Held, Place, never, was_given, place_at, IsOrderly, Rows, value_at, State, beyond}
use Rattle.osi_pair.proofs.Vocabulary.{progress_of, Progress, not_yet, awaiting, in_use, shutting, Seat, awaits, Message, Transport}
use Rattle.osi_pair.proofs.Vocabulary.{IsInOctets, Listener, Standing, is_ended, kept_at, End, Holding, session_in, session_at}
use Rattle.osi_pair.proofs.Vocabulary.{transport_in, is_parting, IsSeated, joining, EndLine as Line}

-- ---- by how far the connection is

abbrev pub transport_by : Progress → Transport
transport_by not_yet = worlds.not_yet
transport_by awaiting = worlds.waiting
transport_by in_use = worlds.linked
transport_by shutting = worlds.closing
transport_by progress.gone = worlds.gone

abbrev pub lives_in : Progress → Bool
lives_in not_yet = false
lives_in awaiting = true
lives_in in_use = true
lives_in shutting = true
lives_in progress.gone = false

pub transport_at : (p : Place) (g : Progress) → progress_of p ≡ g → transport_in p ≡ transport_by g
transport_at p g e = grind arith

pub place_by : (n : ℕ) (s : State) (b : Bool) → nat_lt s.given n ≡ b → place_at n s ≡ (if b then never else was_given (value_at n s.live))
place_by n s b e = ap (λ (c : Bool). if◌then◌else◌ {A = Place} c never (was_given (value_at n s.live))) e

pub value_same : (n : ℕ) (s t : State) → IsOrderly s → IsOrderly t → place_at n s ≡ place_at n t → value_at n s.live ≡ value_at n t.live
value_same n s t o q h = grind (arith, nat_tests, beyond, place_by)

-- ---- the session

pub record HasSession (n : ℕ) (lines : Rows Line) (g : Progress) (x : Standing) : Type 0 where
  pub joined : Option (List ℕ)
  pub live : lives_in g ≡ true → kept_at n lines ≡ Some (joining joined x)
  pub kept : (y : Listener) → kept_at n lines ≡ Some y → y ≡ joining joined x
  pub over_now : is_parting (transport_by g) ≡ true → is_ended x.state.phase ≡ true
  pub awaiting : transport_by g ≡ worlds.not_yet → x ≡ awaits
  pub octets : IfSome x.waiting IsInOctets

pub live_session : (n : ℕ) (e : End) → is_some (value_at n e.carrier.live) ≡ true → session_at n e ≡ kept_at n e.lines
live_session n e h = ap (λ (b : Bool). if◌then◌else◌ {A = Option Listener} b (session_in (value_at n e.lines)) None) h

pub session_of_seat : (n : ℕ) (h : Holding) (seat : Seat) (g : Progress) → progress_of (place_at n h.end.carrier) ≡ g → IsSeated n h seat →
    HasSession n h.end.lines g seat.session
session_of_seat n h seat g e i = grind (arith, transport_at, live_session)

pub seat_of_session : (n : ℕ) (e : End) (h : Held) (g : Progress) (x : Standing) (channel : List Message) → IsOrderly e.carrier →
    progress_of (place_at n e.carrier) ≡ g → HasSession n e.lines g x →
    IsSeated n (record { end = e; held = h }) (record { transport = transport_by g; session = x; channel = channel })
seat_of_session n e h g x channel o p s = grind (arith, transport_at, live_session, nat_tests, beyond, place_by)
