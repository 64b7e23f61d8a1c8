-- The result and the effect of a call that takes a unit.
use Rattle.std.specs.Prelude.{◌≡◌, Bool, true, Result, Ok, Err, IsOk}
use Rattle.osi_class.specs.declared.faults.LinkFault.{LinkFault}
use Rattle.osi_class.specs.declared.faults.LinkFault.TheVariants.{WrongForm, OutOfSequence, CreditReduced, TsduTooLong, OutOfMemory}

-- `taken` is what the definitions say of the call: the new state or a fault. An allocation failure is possible only if
-- they would take the unit and it needs memory; then nothing has changed either.
abbrev pub TakesUnit : {S A : Type 0} → Result A LinkFault → Bool → Result S LinkFault → S → S → Type 0
TakesUnit (Ok done) needs taken old new = taken ≡ Ok new
TakesUnit (Err WrongForm) needs taken old new = (taken ≡ Err WrongForm) × (new ≡ old)
TakesUnit (Err OutOfSequence) needs taken old new = (taken ≡ Err OutOfSequence) × (new ≡ old)
TakesUnit (Err CreditReduced) needs taken old new = (taken ≡ Err CreditReduced) × (new ≡ old)
TakesUnit (Err TsduTooLong) needs taken old new = (taken ≡ Err TsduTooLong) × (new ≡ old)
TakesUnit (Err OutOfMemory) needs taken old new = (needs ≡ true) × IsOk taken × (new ≡ old)
