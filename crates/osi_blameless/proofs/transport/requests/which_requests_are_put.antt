-- A carrier puts a CR only as its user calls for a connection, and gives it the next reference.
-- For the law on requests.
use Rattle.osi_blameless.proofs.transport.Vocabulary.{arith, [], List, ℕ, ◌∷◌, ◌≡◌, AllByRecursion, flat_map, Value, Given, unit_of}
use Rattle.osi_blameless.proofs.transport.Vocabulary.{user as by_user}
use Rattle.osi_blameless.proofs.transport.Vocabulary.{UserCall, asked_in, asks_with, put_by, put_for, State, refl}
use Rattle.osi_blameless.proofs.transport.requests.what_a_carrier_puts.{accepts_any, confirms_any, put_for_so, sent_so, together_so}

-- the references of the CRs among these units
abbrev pub asked_among : List Value → List ℕ
asked_among units = flat_map asked_in units

abbrev IsNoCr : Value → Type 0
IsNoCr v = asked_in v ≡ []

given_none : (peer : ℕ) (g : Given) → IsNoCr (unit_of peer g)
given_none peer g = grind arith

none_among : (units : List Value) → AllByRecursion IsNoCr units → asked_among units ≡ []
none_among [] all = refl
none_among (v ∷ units) (one, all) = grind (arith, none_among units all)

pub unit_asks : (unit : Value) (s : State) → asked_among (put_for unit s) ≡ []
unit_asks unit s =
    none_among (put_for unit s)
    (put_for_so IsNoCr given_none (λ m n reason. refl) s unit (accepts_any IsNoCr s (λ m x. refl) unit)
    (confirms_any IsNoCr (λ m n. refl) unit))

-- ---- a call

pub call_asks : (call : UserCall) (s : State) → asked_among (put_by call s) ≡ asks_with (by_user call) s
call_asks call s =
    grind (arith, none_among, sent_so IsNoCr given_none (λ m n reason. refl), together_so IsNoCr given_none (λ m n reason. refl))
