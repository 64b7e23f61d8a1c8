-- If two ends match a list of steps, no indication is pending, and so nothing holds up a carry.
-- For events.
use Rattle.osi_pair.proofs.Vocabulary.{ℕ, ◌≡◌, false, min, sum, List, waits, TwoEnds, end_at, reachable, CarriesAsMuch, Step}
use Rattle.osi_pair.proofs.Vocabulary.{CarriesWhereQuiet, IsReached, StandsAt, other, Applied, Event, Carry, Side, CarriesFrom, crossing}
use Rattle.osi_pair.proofs.Vocabulary.{reach_after, arith, IsHeldUp, NotesIfCutShort, NotesWhereQuiet, IsFullIfCutShort, IsFullWhereQuiet}
use Rattle.osi_pair.proofs.Vocabulary.{Pairing}
use Rattle.osi_pair.proofs.carry.packets_are_taken_in_turn.{still_waits}
use Rattle.osi_pair.proofs.carry.pieces_are_fed_in_turn.{crossed}
use Rattle.osi_pair.proofs.event.what_an_event_does.{EventLaws}

quiet_by : (side : Side) (p : TwoEnds) (steps : List Step) → StandsAt p steps → waits (end_at side p).end.lines ≡ false
quiet_by side p steps h = grind (arith, still_waits)

pub carries_as_much : (event : Event) (p : TwoEnds) (applied : Applied) → IsReached p → CarriesWhereQuiet event p applied →
    CarriesAsMuch event p applied
carries_as_much (Carry side most) p applied is h = grind (arith, quiet_by (other side) p is.steps is.stands)
carries_as_much event p applied is h = h

-- nor is one pending after some pieces
held_up_not : EventLaws → (f : Side) (most : ℕ) (p : TwoEnds) → IsReached p → IsHeldUp (other f) (min most (reachable f p)) (crossing f p) →
    ⊥
held_up_not laws f most p is h =
    let o = reach_after f (sum h.pieces) p.reach in
    let q = crossed f h.between o in
    let way : CarriesFrom f most p (sum h.pieces) q = grind arith in
    let x = laws.carries f most p q (sum h.pieces) is.steps is.stands way in
    let none = quiet_by (other f) q _ x.stands in
    grind arith

-- so only what was noted cuts a carry short
pub cut_by_notes : EventLaws → (event : Event) (p : TwoEnds) (applied : Applied) (new : TwoEnds) → IsReached p →
    CarriesWhereQuiet event p applied → NotesWhereQuiet event p applied new → NotesIfCutShort p applied new
cut_by_notes laws event p applied new is moves h short = search (arith, held_up_not)

-- and only a full journal does
pub cut_when_full : EventLaws → (event : Event) (p : TwoEnds) (applied : Applied) (new : Pairing) → IsReached p →
    CarriesWhereQuiet event p applied → IsFullWhereQuiet event p applied new → IsFullIfCutShort applied new
cut_when_full laws event p applied new is moves h short = search (arith, held_up_not)
