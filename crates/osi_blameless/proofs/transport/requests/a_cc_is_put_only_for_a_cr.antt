-- A carrier puts a CC only as it takes a CR.
-- For the references of CCs.
use Rattle.osi_blameless.proofs.transport.Vocabulary.{[], arith, AllByRecursion, confirm, Connect, disconnect, Given, put_by, put_for}
use Rattle.osi_blameless.proofs.transport.Vocabulary.{request, State, unit_of, UserCall, Value, ℕ, ◌≡◌}
use Rattle.osi_blameless.proofs.transport.requests.what_a_carrier_puts.{Confirms, accepts_none, confirms_any, put_by_so, put_for_so}

-- no CC
abbrev pub IsNoCc : Value → Type 0
IsNoCc v = (m : ℕ) (x : Connect) → v ≡ confirm m x → ⊥

pub given_no_cc : (peer : ℕ) (g : Given) → IsNoCc (unit_of peer g)
given_no_cc peer g = grind arith

pub closing_no_cc : (m n reason : ℕ) → IsNoCc (disconnect m n reason [])
closing_no_cc m n reason i x e = cc e

pub confirms_no_cc : (u : Value) → Confirms IsNoCc u
confirms_no_cc u = confirms_any IsNoCc (λ m n i x e. cc e) u

-- a CC is put only for a CR
pub none_but_cr : (u : Value) (s : State) → ((x : Connect) → u ≡ request x → ⊥) → AllByRecursion IsNoCc (put_for u s)
none_but_cr u s no_cr = put_for_so IsNoCc given_no_cc closing_no_cc s u (accepts_none IsNoCc s u no_cr) (confirms_no_cc u)

pub none_by_call : (call : UserCall) (s : State) → AllByRecursion IsNoCc (put_by call s)
none_by_call call s = put_by_so IsNoCc given_no_cc closing_no_cc (λ y i x e. cc e) call s
