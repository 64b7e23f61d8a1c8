-- The table of calls never returns `OutOfMemory`, and a call sends no more user data than fits.
use Rattle.std.proofs.Common.{◌≡◌, refl, sym, subst, ◌<◌, Bool, true, false, nat_le, length, Ok, Err, arith}
use Rattle.osi_session.specs.declared.faults.CallError.TheVariants as error
use Rattle.osi_session.proofs.Vocabulary.{leb-true, CallError, State, is_over, Call, Step, needs, may_call, octets_of, most_of, after}
use Rattle.osi_session.proofs.Vocabulary.{sends, met, allowed, fits_limit, is_memory, Refused, RefusedBy, Meaning, user_data_of, called}
use Rattle.osi_session.proofs.Vocabulary.{Listener, react}
use Rattle.osi_session.proofs.moves.the_move_of_each_input.{call_errs, call_passes}
use Rattle.osi_session.proofs.tables.what_an_accepted_call_has_passed.{first_error_ok, passed}

pub allowed_named : (s : State) (c : Call) (e : CallError) → allowed s c ≡ Err e → is_memory e ≡ false
unfolding allowed met
allowed_named s c e h = search arith

-- an error of the table is answered as it is
pub refused : (s : Listener) (c : Call) (e : CallError) → allowed s.state c ≡ Err e → Refused e (react s (called c)).error
refused s c e h = subst (λ (b : Bool). RefusedBy b e (react s (called c)).error) (sym (allowed_named s.state c e h)) (call_errs s c e h)

-- and if it gives none, memory may run out
pub wanting : (s : Listener) (c : Call) (x : Step) → allowed s.state c ≡ Ok x → Refused error.OutOfMemory (react s (called c)).error
wanting s c x h = call_passes s c x h

sends_short : (s : State) (c : Call) → nat_le (length (octets_of c)) (most_of c) ≡ true → length (user_data_of (sends s c)) < 65000
unfolding user_data_of
sends_short s c h = grind (arith, leb-true)

abbrev met_step : State → Call → Step
met_step s c = record { next = after s c; sent = sends s c }

-- the result of a call whose tests hold
met_is : (s : State) (c : Call) (x : Step) → met s c ≡ Ok x → x ≡ met_step s c
unfolding met
met_is s c x h = let w : _ ≡ _ = (first_error_ok (needs s c) _ x h).1 in cc

pub met_short : (s : State) (c : Call) (x : Step) → met s c ≡ Ok x → nat_le (length (octets_of c)) (most_of c) ≡ true →
    length (user_data_of x.sent) < 65000
met_short s c x h k = subst (λ (m : Meaning). length (user_data_of m) < 65000) (sym (grind (arith, met_is))) (sends_short s c k)

fits_sent : (s : State) (c : Call) (x : Step) (b : Bool) → met s c ≡ Ok x → fits_limit s c x.sent ≡ b → fits_limit s c (sends s c) ≡ b
fits_sent s c x b h k = subst (λ (m : Meaning). fits_limit s c m ≡ b) (grind (arith, met_is)) k

-- a call whose tests hold is refused or accepted by the length of what it sends
pub limit_refused : (s : State) (c : Call) (x : Step) → is_over s.phase ≡ false → may_call s.phase c ≡ true → met s c ≡ Ok x
    → nat_le (length (octets_of c)) (most_of c) ≡ true → fits_limit s c x.sent ≡ false → allowed s c ≡ Err error.TooLong
unfolding allowed
limit_refused s c x o p h n k = let f = fits_sent s c x false h k in rw (o, p, n, f, h) refl

pub limit_passed : (s : State) (c : Call) (x : Step) → is_over s.phase ≡ false → may_call s.phase c ≡ true → met s c ≡ Ok x
    → nat_le (length (octets_of c)) (most_of c) ≡ true → fits_limit s c x.sent ≡ true → allowed s c ≡ Ok x
unfolding allowed
limit_passed s c x o p h n k = let f = fits_sent s c x true h k in rw (o, p, n, f, h) refl

pub sent_short : (s : State) (c : Call) (x : Step) → allowed s c ≡ Ok x → length (user_data_of x.sent) < 65000
sent_short s c x h = grind (arith, passed, user_data_of, sends_short)
