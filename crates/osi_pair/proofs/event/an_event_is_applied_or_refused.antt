-- The state after an event that is applied or refused.
-- For the code of `Pair`.
use Rattle.osi_pair.proofs.Vocabulary.{◌≡◌, List, Result, Ok, Err, OnOk, OnErr, IfOk, None, sym, subst, PairError, Step, CanHappen}
use Rattle.osi_pair.proofs.Vocabulary.{StandsAfter, TwoEnds, misfit, Does, CarriesAsMuch, CarriesWhereQuiet, IsReached, StandsAt, Applied}
use Rattle.osi_pair.proofs.Vocabulary.{Event, arith, NotesIfCutShort, NotesWhereQuiet, IsFullIfCutShort, IsFullWhereQuiet, Pairing, ℕ, ◌++◌}
use Rattle.osi_pair.proofs.carry.nothing_holds_up_a_carry.{carries_as_much, cut_by_notes, cut_when_full}
use Rattle.osi_pair.proofs.event.what_an_event_does.{EventLaws, event_stands}
use Rattle.osi_pair.proofs.event.events_happen_in_turn.{one_behind}
use Rattle.osi_pair.proofs.event.each_end_holds_less_than_a_packet.{event_less}

reached_event : EventLaws → (event : Event) (old new : TwoEnds) (octets : ℕ) → CanHappen event → misfit event old ≡ None →
    Does event old octets new → IsReached old → IsReached new
reached_event laws event old new octets can fits does at =
    let one = one_behind event old new at.steps (event_stands laws event old new octets at.steps can fits does at.stands) in
    record { steps = at.steps ++ one.more; stands = one.stands; held = event_less event old new octets does at.held }

pub result_reached : EventLaws → (event : Event) (old new : TwoEnds) (result : Result Applied PairError) → CanHappen event →
    OnOk result (misfit event old ≡ None) → IfOk result (λ applied. Does event old applied.carried new) → OnErr result (new ≡ old) →
    IsReached old → IsReached new
result_reached laws event old new (Ok applied) can fits does same at = reached_event laws event old new applied.carried can fits does at
result_reached laws event old new (Err error) can fits does same at = subst IsReached (sym same) at

pub result_stands : EventLaws → (event : Event) (old new : TwoEnds) (result : Result Applied PairError) → CanHappen event →
    OnOk result (misfit event old ≡ None) → IfOk result (λ applied. Does event old applied.carried new) →
    OnOk result ((steps : List Step) → StandsAt old steps → StandsAfter event old new steps)
result_stands laws event old new result can h does = grind (arith, event_stands)

pub result_carries : (event : Event) (old : TwoEnds) (result : Result Applied PairError) → IsReached old →
    IfOk result (λ applied. CarriesWhereQuiet event old applied) → IfOk result (λ applied. CarriesAsMuch event old applied)
result_carries event old result h h2 = grind (arith, carries_as_much)

pub result_cut : EventLaws → (event : Event) (old new : TwoEnds) (result : Result Applied PairError) → IsReached old →
    IfOk result (λ applied. CarriesWhereQuiet event old applied) → IfOk result (λ applied. NotesWhereQuiet event old applied new) →
    IfOk result (λ applied. NotesIfCutShort old applied new)
result_cut laws event old new result h moves h2 = grind (arith, cut_by_notes)

pub result_full : EventLaws → (event : Event) (old : TwoEnds) (new : Pairing) (result : Result Applied PairError) → IsReached old →
    IfOk result (λ applied. CarriesWhereQuiet event old applied) → IfOk result (λ applied. IsFullWhereQuiet event old applied new) →
    IfOk result (λ applied. IsFullIfCutShort applied new)
result_full laws event old new result h moves h2 = grind (arith, cut_when_full)
