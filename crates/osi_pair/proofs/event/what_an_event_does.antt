-- The effect of an event on two ends that match the machine.
-- For events, the code of `octets` and the code of `Pair`.
use Rattle.osi_session.specs.Calls as call
use Rattle.osi_session.specs.declared.requests.Request.TheVariants as request
use Rattle.osi_pair.specs.Asked as here
use Rattle.osi_pair.specs.declared.events.Event.TheVariants.{Call}
use Rattle.osi_pair.proofs.Vocabulary.{◌≡◌, ℕ, zero, suc, ◌<◌, ◌≤◌, true, List, [], ◌∷◌, ◌++◌, length, take, None, is_some, arith}
use Rattle.osi_pair.proofs.Vocabulary.{TsduSizes, Tsap, Request, named_by, are_sizes, IsOctets, tsap_octets, Step, connects, calls}
use Rattle.osi_pair.proofs.Vocabulary.{octets_of, Call as Asked, HasSerial, called_by, CanHappen, StandsAfter, asked_of, CanBeAsked}
use Rattle.osi_pair.proofs.Vocabulary.{CarriesFrom, TwoEnds, end_at, after_connect, after_call, after_break, TellsBreak, misfit, Does}
use Rattle.osi_pair.proofs.Vocabulary.{other, side_in, offer_in, StandsAt, StandsAtArrivals, StandsAtBreak, StandsAtTold, Event, Connect}
use Rattle.osi_pair.proofs.Vocabulary.{Carry, Break, Told, Side, ConnectCall as Wanted}

-- ---- what is asked for

-- a user gives no other sizes
pub named_sizes : (s : TsduSizes) → are_sizes (named_by s) ≡ true
named_sizes s = grind arith

pub serial_small : (r : Request) → HasSerial (called_by r)
serial_small r = grind (arith, named_sizes)

pub same_octets : (c : Asked) → here.octets_of c ≡ octets_of c
same_octets c = grind arith

few_taken : (n : ℕ) (xs : List ℕ) → length (take n xs) ≤ n
few_taken zero xs = omega arith
few_taken (suc n) [] = omega arith
few_taken (suc n) (x ∷ xs) = let few = few_taken n xs in omega arith

pub address_short : (t : Tsap) → length (tsap_octets t) ≤ 32
address_short t = let few = few_taken t.len t.octets in let most = t.at_most in omega arith

pub wanted_small : (c : Wanted) → c.serial.number < 1000000
wanted_small c = let few = c.serial.small in omega arith

-- ---- an event

pub record EventLaws : Type 0 where
  pub connects : (p : TwoEnds) (steps : List Step) (c : Wanted) → CanBeAsked c → StandsAt p steps →
      StandsAt (after_connect c p) (steps ++ connects (offer_in (asked_of c)) ∷ [])
  pub calls : (p : TwoEnds) (steps : List Step) (side : Side) (r : ℕ) (c : Asked) → HasSerial c → IsOctets (octets_of c) →
      StandsAt p steps → StandsAt (after_call side r c p) (steps ++ calls (side_in side) r c ∷ [])
  pub carries : (side : Side) (most : ℕ) (old new : TwoEnds) (octets : ℕ) (steps : List Step) → StandsAt old steps →
      CarriesFrom side most old octets new → StandsAtArrivals (other side) new steps
  pub broken : (p : TwoEnds) (steps : List Step) (k l : ℕ) → StandsAt p steps → p.reach ≡ None → StandsAtBreak (after_break k l p) steps
  pub tells : (side : Side) (old new : TwoEnds) (steps : List Step) → StandsAt old steps → is_some old.reach ≡ true →
      TellsBreak side old new → StandsAtTold (end_at side old).end.carrier.ended side new steps

pub event_stands : EventLaws → (event : Event) (old new : TwoEnds) (octets : ℕ) (steps : List Step) → CanHappen event →
    misfit event old ≡ None → Does event old octets new → StandsAt old steps → StandsAfter event old new steps
event_stands laws (Connect asked) old new octets steps can fits does s = grind (arith, laws.connects old steps asked can s)
event_stands laws (Call side reference request) old new octets steps can fits does s =
    grind (arith, laws.calls old steps side reference.0 (called_by request) can.0 can.1 s)
event_stands laws (Carry side most) old new octets steps can fits does s = laws.carries side most old new octets steps s does
event_stands laws (Break left right) old new octets steps can fits does s = grind arith
event_stands laws (Told side) old new octets steps can fits does s = laws.tells side old new steps s (grind arith) does.0
