-- What a carrier puts as it takes a unit, and as its user makes a call, is what it writes, each unit in a packet of its own.
-- For those who judge the units of an end.
use Rattle.osi_carrier.proofs.Vocabulary.{◌≡◌, ℕ, ◌++◌, List, [], ◌∷◌, Option, Some, None, Result, is_some, true, refl, sym, ap, ◌∙◌, arith}
use Rattle.osi_carrier.proofs.Vocabulary.{append_assoc, append-nil, flat_map-append, packet_of, Value, Connect, Standing, Selection}
use Rattle.osi_carrier.proofs.Vocabulary.{LinkFault, Class, written, open_link, sent, sent_on, sent_all, answers, answers_request, opens}
use Rattle.osi_carrier.proofs.Vocabulary.{taking, leaves, to_connection, to_only, in_class, react_by, react, Rows, Connection, State}
use Rattle.osi_carrier.proofs.Vocabulary.{packets, EndReason, UserCall, user_does}
use Rattle.osi_carrier.specs.Calls.{put_sent, put_together}
use Rattle.osi_carrier.specs.React.{outcome, put_for}
use Rattle.osi_carrier.specs.Runs.{put_by}
use Rattle.osi_carrier.specs.State.{Outcome, puts_none}

-- ---- the outcome of a unit

pub state_is : (unit : Value) (s : State) → react unit s ≡ (outcome unit s).state
unfolding react
state_is unit s = refl

-- before the end it is that of the class
pub outcome_quiet : (unit : Value) (s : State) → s.ended ≡ None → outcome unit s ≡ in_class s.class unit s
outcome_quiet unit s quiet = ap (λ (o : Option EndReason). react_by (is_some o) unit s) quiet

pub outcome_over : (unit : Value) (s : State) → is_some s.ended ≡ true → outcome unit s ≡ puts_none s
outcome_over unit s over = ap (λ b. react_by b unit s) over

-- ---- a unit

abbrev Writes : State → Outcome → Type 0
Writes s x = x.state.outgoing ≡ s.outgoing ++ packets x.put

answers_written : (c : Connect) (selection : Selection) (held : Option Class) (s : State) → Writes s (answers c selection held s)
answers_written c selection held s = grind (arith, append-nil)

request_written : (c : Connect) (s : State) → Writes s (answers_request c s)
request_written c s = grind (arith, answers_written)

opens_written : (r : ℕ) (c : Connect) (class : Option Class) (s : State) → Writes s (opens r c class s)
opens_written r c class s = grind (arith, append-nil)

taking_written : (r peer : ℕ) (result : Result Standing LinkFault) (s : State) → Writes s (taking r peer result s)
taking_written r peer result s = grind (arith, append-nil)

leaves_written : (r peer reason : ℕ) (held : Option Class) (s : State) → Writes s (leaves r peer reason held s)
leaves_written r peer reason held s = grind (arith, append-nil)

connection_written : (r : ℕ) (o : Option Connection) (unit : Value) (s : State) → Writes s (to_connection r o unit s)
connection_written r o unit s = grind (arith, append-nil, opens_written, taking_written, leaves_written)

only_written : (live : Rows Connection) (unit : Value) (s : State) → Writes s (to_only live unit s)
only_written live unit s = grind (arith, append-nil, connection_written)

outcome_written : (unit : Value) (s : State) → Writes s (outcome unit s)
outcome_written unit s = grind (arith, append-nil, connection_written, request_written, only_written)

pub unit_written : (unit : Value) (s : State) → (react unit s).outgoing ≡ s.outgoing ++ packets (put_for unit s)
unfolding react
unit_written unit s = outcome_written unit s

-- ---- a call

pub sent_written : (r : ℕ) (tsdu : List ℕ) (link : Option (ℕ × Standing)) (s : State) →
    (sent_on r tsdu link s).outgoing ≡ s.outgoing ++ packets (put_sent tsdu link)
sent_written r tsdu link s = grind (arith, append-nil)

pub together_written : (r : ℕ) (tsdus : List (List ℕ)) (s : State) →
    (sent_all r tsdus s).outgoing ≡ s.outgoing ++ packets (put_together r tsdus s)
together_written r [] s = sym (append-nil s.outgoing)
together_written r (tsdu ∷ tsdus) s =
    let first = put_sent tsdu (open_link r s) in
    let next = sent r tsdu s in
    let others = put_together r tsdus next in
    together_written r tsdus next ∙ ap (λ (l : List ℕ). l ++ packets others) (sent_written r tsdu (open_link r s) s)
    ∙ append_assoc s.outgoing (packets first) (packets others)
    ∙ ap (λ (l : List ℕ). s.outgoing ++ l) (sym (flat_map-append (λ (unit : Value). packet_of (written unit)) first others))

pub call_written : (call : UserCall) (s : State) → (user_does call s).outgoing ≡ s.outgoing ++ packets (put_by call s)
call_written call s = grind (arith, sent_written, together_written, append-nil)
