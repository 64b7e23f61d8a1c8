-- What a call of a link of class 2 does to its numbers and to what it has still to send.
-- For the laws on a line.
use Rattle.osi_blameless.proofs.transport.Vocabulary.{[], arith, Bool, drop, false, IfSome, length, length-drop, length-take, List, nat_lt}
use Rattle.osi_blameless.proofs.transport.Vocabulary.{None, Ok}
use Rattle.osi_blameless.proofs.transport.Vocabulary.{Option, refl, Some, take, true, ℕ, ◌++◌, ◌+◌, ◌-◌, ◌<◌, ◌∷◌, ◌≡◌, ◌≤◌, ltb-false}
use Rattle.osi_blameless.proofs.transport.Vocabulary.{ltb-true}
use Rattle.osi_blameless.proofs.transport.Vocabulary.{acknowledge, data2, Value, at_ok, at_some, choose_some, Ends, ack_number, after_acked}
use Rattle.osi_blameless.proofs.transport.Vocabulary.{Flow}
use Rattle.osi_blameless.proofs.transport.Vocabulary.{steps_before, longest_tsdu, ack, Given, given_part, next, next_by, part0, part2}
use Rattle.osi_blameless.proofs.transport.Vocabulary.{sent_flow, Standing}
use Rattle.osi_blameless.proofs.transport.Vocabulary.{taken, taken_flow, give, Part}

-- ---- TSDUs that are not too long

abbrev pub AreShort : List (List ℕ) → Type 0
AreShort [] = Unit {0}
AreShort (tsdu ∷ tsdus) = (length tsdu ≤ longest_tsdu) × AreShort tsdus

-- so many octets of the first have been given
abbrev pub HaveRoom : ℕ → List (List ℕ) → Type 0
HaveRoom begun [] = begun ≡ 0
HaveRoom begun (tsdu ∷ tsdus) = (begun + length tsdu ≤ longest_tsdu) × AreShort tsdus

short_more : (tsdus : List (List ℕ)) (tsdu : List ℕ) → AreShort tsdus → length tsdu ≤ longest_tsdu → AreShort (tsdus ++ tsdu ∷ [])
short_more [] tsdu h k = (k, tt)
short_more (x ∷ tsdus) tsdu (a, b) k = (a, short_more tsdus tsdu b k)

pub room_more : (begun : ℕ) (tsdus : List (List ℕ)) (tsdu : List ℕ) → HaveRoom begun tsdus → length tsdu ≤ longest_tsdu →
    HaveRoom begun (tsdus ++ tsdu ∷ [])
room_more begun tsdus tsdu h k = grind (arith, short_more)

abbrev pub begun_by : (begun : ℕ) (end : Bool) → ℕ → ℕ
begun_by begun true octets = 0
begun_by begun false octets = begun + octets

-- the next part, and what is left
pub record Gives (limit begun : ℕ) (end : Bool) (octets : List ℕ) (rest : List (List ℕ)) : Type 0 where
  pub fits : length octets ≤ limit
  pub short : begun + length octets ≤ longest_tsdu
  pub room : HaveRoom (begun_by begun end (length octets)) rest

abbrev GivesPart : (limit begun : ℕ) → Part × List (List ℕ) → Type 0
GivesPart limit begun ((end, octets), rest) = Gives limit begun end octets rest

pub front_fits : (limit : ℕ) (tsdu : List ℕ) → limit < length tsdu → length (take limit tsdu) ≡ limit
front_fits limit tsdu h = simp length-take (omega arith)

pub rest_is : (limit : ℕ) (tsdu : List ℕ) → limit < length tsdu → limit + length (drop limit tsdu) ≡ length tsdu
rest_is limit tsdu h = simp length-drop (omega arith)

part_gives : (limit begun : ℕ) (tsdu : List ℕ) (more : List (List ℕ)) → begun + length tsdu ≤ longest_tsdu → AreShort more →
    limit < length tsdu → Gives limit begun false (take limit tsdu) (drop limit tsdu ∷ more)
part_gives limit begun tsdu more a b less = search (arith, front_fits, rest_is)

-- however many octets of the first have been given
abbrev GivesOf : (limit : ℕ) (unsent : List (List ℕ)) → Part × List (List ℕ) → Type 0
GivesOf limit unsent part = (begun : ℕ) → HaveRoom begun unsent → GivesPart limit begun part

gives_a_part : (limit : ℕ) (unsent : List (List ℕ)) → IfSome (give limit unsent) (GivesOf limit unsent)
gives_a_part limit [] = tt
gives_a_part limit (tsdu ∷ more) =
    choose_some (GivesOf limit (tsdu ∷ more)) (nat_lt limit (length tsdu)) (Some ((false, take limit tsdu), drop limit tsdu ∷ more))
    (Some ((true, tsdu), more))
    (λ k begun h. part_gives limit begun tsdu more h.0 h.1 (ltb-true limit (length tsdu) k))
    (λ k begun h. let within = ltb-false limit (length tsdu) k in record { fits = within; short = h.0; room = (grind arith) })

-- ---- the next unit

abbrev pub DoesGive : Ends → Flow → Given × Standing → Type 0
DoesGive e f (part0 end octets, new) = ⊥
DoesGive e f (part2 number end octets, new) = (0 < f.sender.credit) × (number ≡ f.sender.next) × (new.flow ≡ Some (sent_flow f))
    × (new.ends.limit ≡ e.limit) × ((begun : ℕ) → HaveRoom begun e.unsent → Gives e.limit begun end octets new.ends.unsent)
DoesGive e f (ack number credit, new) = (0 < f.receiver.waiting) × (number ≡ ack_number f.receiver) × (credit ≡ f.receiver.window)
    × (new.flow ≡ Some (record f { receiver = after_acked f.receiver })) × (new.ends ≡ e)

gives_data : (e : Ends) (f : Flow) → 0 < f.sender.credit → (o : Option (Part × List (List ℕ))) →
    IfSome o (GivesOf e.limit e.unsent) → IfSome (given_part e (Some (sent_flow f)) (Some f.sender.next) o) (DoesGive e f)
gives_data e f credit None h = tt
gives_data e f credit (Some ((end, octets), rest)) h = (credit, refl, refl, refl, h)

next_gives : (e : Ends) (f : Flow) → IfSome (next_by e (Some f)) (DoesGive e f)
next_gives e f = grind (arith, choose_some, ltb-true, gives_data, gives_a_part)

pub gives_so : (old new : Standing) (f : Flow) (unit : Given) → old.flow ≡ Some f → next old ≡ Some (unit, new) →
    DoesGive old.ends f (unit, new)
gives_so old new f unit is e = grind (arith, at_some, next_gives old.ends f)

-- ---- a unit that is taken

abbrev pub DoesTake : Ends → Flow → Value → Standing → Type 0
DoesTake e f (data2 destination number end octets) new = (new.flow ≡ Some (taken_flow f))
    × (new.ends.limit ≡ e.limit) × (new.ends.unsent ≡ e.unsent)
DoesTake e f (acknowledge credit destination number) new =
    (steps_before f.sender.next number ≤ f.sender.unacknowledged)
    × (f.sender.credit + steps_before f.sender.next number ≤ credit)
    × (new.flow ≡ Some (record f {
      sender = record {
        next = f.sender.next;
        unacknowledged = steps_before f.sender.next number;
        credit =
            credit - steps_before f.sender.next number;
      };
    }))
    × (new.ends ≡ e)
DoesTake e f unit new = ⊥

pub takes_so : (old new : Standing) (f : Flow) (unit : Value) → old.flow ≡ Some f → taken old unit ≡ Ok new → DoesTake old.ends f unit new
takes_so old new f unit is e = grind (arith, at_ok)
