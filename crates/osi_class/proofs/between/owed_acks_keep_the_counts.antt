-- Acks that are owed: after each step the counts of the two ends still agree.
use Rattle.std.proofs.Common.{◌≡◌, ℕ, suc, ◌+◌, ◌-◌, ◌≤◌, true, List, [], ◌∷◌, ◌++◌, length, Ok, refl, ap, arith, eq-eqb}
use Rattle.osi_class.proofs.Vocabulary.{lt-ltb, acknowledged, is_awaited, Direction, owed, InStep, CreditStep, write_unit, take_unit}
use Rattle.osi_class.proofs.Vocabulary.{write_ack, take_ack, CreditSteps, known_after, StepsAlong, opened, restored, map-append}
use Rattle.osi_class.proofs.bounds.numbers_and_their_counts.{earlier_number, steps_between, numbers_snoc}

length_snoc : {A : Type 0} (xs : List A) (x : A) → length (xs ++ x ∷ []) ≡ suc (length xs)
length_snoc [] x = refl
length_snoc (y ∷ xs) x = ap suc (length_snoc xs x)

pub begins : (window : ℕ) → window ≤ 15 → InStep (opened window) 0
begins window small = grind arith

pub ack_is_taken : (d : Direction) (known : ℕ) (ack : ℕ × ℕ) (rest : List (ℕ × ℕ)) → InStep d known → d.acks ≡ ack ∷ rest →
    acknowledged d.sender ack.0 ack.1 ≡ Ok (restored d.sender)
ack_is_taken d known ack rest h e = grind (arith, steps_between)

pub step_keeps : (step : CreditStep) (old new : Direction) (known : ℕ) → InStep old known → CreditSteps step old new →
    InStep new (known_after step known)
step_keeps write_unit old new known h (credit, e) = grind (arith, length_snoc, numbers_snoc)
step_keeps take_unit old new known h (number, rest, first, awaited, e) = grind arith
step_keeps write_ack old new known h (waiting, e) = grind (arith, length_snoc, earlier_number, numbers_snoc, map-append)
step_keeps take_ack old new known h (ack, rest, sender, first, taken, e) = grind (arith, ack_is_taken)

pub step_window : (step : CreditStep) (old new : Direction) → CreditSteps step old new → new.receiver.window ≡ old.receiver.window
step_window step old new h = grind arith

-- both ends agree, and the window is this
record EndsInStep (d : Direction) (units : ℕ) : Type 0 where
  known : ℕ
  in_step : InStep d known
  window : d.receiver.window ≡ units

steps_keep : (steps : List CreditStep) (old new : Direction) (known : ℕ) → InStep old known → StepsAlong old steps new →
    EndsInStep new old.receiver.window
steps_keep [] old new known h e = grind arith
steps_keep (step ∷ steps) old new known h (mid, first, rest) =
    grind (arith, steps_keep steps mid new (known_after step known) (step_keeps step old mid known h first) rest)

pub unit_is_awaited : (d : Direction) (known number : ℕ) (rest : List ℕ) → InStep d known → d.units ≡ number ∷ rest →
    is_awaited d.receiver number ≡ true
unit_is_awaited d known number rest h e = grind (arith, eq-eqb, lt-ltb)

pub nothing_under_way : (d : Direction) (known : ℕ) → InStep d known → d.units ≡ [] → d.acks ≡ [] → d.receiver.waiting ≡ 0 →
    d.sender.credit ≡ d.receiver.window
nothing_under_way d known h no_units no_acks none = grind arith

pub always : (window : ℕ) (steps : List CreditStep) (d : Direction) → window ≤ 15 → StepsAlong (opened window) steps d → owed d ≡ window
always window steps d small run = grind (arith, steps_keep steps (opened window) d 0 (begins window small) run, begins window small)
