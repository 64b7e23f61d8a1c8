-- The tests that an accepted call has passed.
use Rattle.std.proofs.Common.{arith, ◌≡◌, Bool, true, false, not, ◌&&◌, List, [], ◌∷◌, length, nat_le, Ok, Err, if◌then◌else◌}
use Rattle.osi_session.specs.declared.faults.CallError.TheVariants as error
use Rattle.osi_session.proofs.Vocabulary.{and_parts, CallError, State, Phase, is_over, Call, fits_limit, Test, Step, Answer, first_error}
use Rattle.osi_session.proofs.Vocabulary.{needs, may_call, octets_of, most_of, sends, met, sized, allowed, AllHold, Passed}
use Rattle.osi_session.proofs.tables.what_is_true_of_each_phase.{excluded}

if_ok : (b : Bool) (a : Answer) (e : CallError) (x : Step) → (if b then a else Err e) ≡ Ok x → (b ≡ true) × (a ≡ Ok x)
if_ok b a e x h = grind arith

if_err : (b : Bool) (a : Answer) (e : CallError) (x : Step) → (if b then Err e else a) ≡ Ok x → (b ≡ false) × (a ≡ Ok x)
if_err b a e x h = grind arith

pub first_error_ok : (ts : List Test) (a : Answer) (x : Step) → first_error ts a ≡ Ok x → AllHold ts × (a ≡ Ok x)
first_error_ok [] a x h = (tt, h)
first_error_ok (t ∷ ts) a x h =
    let one = if_ok t.0 (first_error ts a) t.1 x h in
    grind (arith, first_error_ok ts a x one.1)

sized_ok : (fits : Bool) (a : Answer) (x : Step) → sized fits a ≡ Ok x → (fits ≡ true) × (a ≡ Ok x)
sized_ok fits a x h = grind (arith, if_ok)

phase_ok : (b : Bool) (a : Answer) (x : Step) → (if not b then Err error.BadState else a) ≡ Ok x → (b ≡ true) × (a ≡ Ok x)
phase_ok b a x h = grind arith

-- an accepted call passed every test, and gives what the table says
pub passed : (s : State) (c : Call) (x : Step) → allowed s c ≡ Ok x → Passed s c x
unfolding allowed met
passed s c x h =
    let a = if_err (is_over s.phase) _ error.Ended x h in
    let b = phase_ok (may_call s.phase c) _ x a.1 in
    let d = sized_ok (nat_le (length (octets_of c)) (most_of c) && fits_limit s c (sends s c)) _ x b.1 in
    let f = and_parts (nat_le (length (octets_of c)) (most_of c)) (fits_limit s c (sends s c)) d.0 in
    let e = first_error_ok (needs s c) _ x d.1 in
    record { phase = b.0; needed = e.0; size = f.0; limit = f.1; gives = (let w : _ ≡ _ = e.1 in cc) }

pub over_calls : (c : Call) (p : Phase) → may_call p c ≡ true → is_over p ≡ false
over_calls c p h = grind (arith, excluded)

-- a call that passes every test is accepted
pub accepted : (s : State) (c : Call) (x : Step) → Passed s c x → allowed s c ≡ Ok x
unfolding allowed met
accepted s c x h = grind (arith, over_calls)
