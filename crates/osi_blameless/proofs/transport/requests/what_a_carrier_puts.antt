-- Of which units it is that a carrier puts as it takes a unit, and as its user makes a call.
-- For what is found of the units of an end.
use Rattle.osi_blameless.proofs.transport.Vocabulary.{arith, [], Bool, Err, List, map, None, Ok, Option, Result, Some, ℕ, ◌+◌, ◌∷◌}
use Rattle.osi_blameless.proofs.transport.Vocabulary.{AllByRecursion}
use Rattle.osi_blameless.proofs.transport.Vocabulary.{confirm, Connect, disconnect, disconnected, request, Value, Given, Standing, unit_of}
use Rattle.osi_blameless.proofs.transport.Vocabulary.{Selection}
use Rattle.osi_blameless.proofs.transport.Vocabulary.{LinkFault, Class, acceptance, open_link, sent, answers_by as answers, answers_request}
use Rattle.osi_blameless.proofs.transport.Vocabulary.{before_class}
use Rattle.osi_blameless.proofs.transport.Vocabulary.{in_two, in_zero, taking, to_connection, to_linked, to_only, Rows, UserCall}
use Rattle.osi_blameless.proofs.transport.Vocabulary.{Live as Connection}
use Rattle.osi_blameless.proofs.transport.Vocabulary.{put_by, put_for, put_sent, put_together, State, refl, ◌≡◌, false, if◌then◌else◌, true}
use Rattle.osi_blameless.proofs.transport.Vocabulary.{accept}
use Rattle.osi_blameless.proofs.transport.Vocabulary.{refuse, selected_by, Two, Zero, denies, has_peer, is_full}
use Rattle.osi_blameless.proofs.transport.small_facts_that_many_lemmas_use.{all_join}

-- ---- what a DR and a CR are answered with

-- it holds of the DC for a DR
abbrev pub Confirms : (Value → Type 0) → Value → Type 0
Confirms P (disconnect destination source reason user) = (m n : ℕ) → P (disconnected m n)
Confirms P unit = Unit {0}

-- and of the CC for a CR
abbrev pub Accepts : (Value → Type 0) → State → Value → Type 0
Accepts P s (request x) = (class : Class) (size : Option ℕ) → P (confirm x.source (acceptance class size x s.local (s.given + 1)))
Accepts P s unit = Unit {0}

pub confirms_any : (P : Value → Type 0) → ((m n : ℕ) → P (disconnected m n)) → (unit : Value) → Confirms P unit
confirms_any P dc (disconnect destination source reason user) = dc
confirms_any P dc unit = tt

pub accepts_any : (P : Value → Type 0) (s : State) → ((m : ℕ) (x : Connect) → P (confirm m x)) → (unit : Value) → Accepts P s unit
accepts_any P s confirmed (request x) = λ class size. confirmed x.source (acceptance class size x s.local (s.given + 1))
accepts_any P s confirmed unit = tt

pub accepts_none : (P : Value → Type 0) (s : State) (unit : Value) → ((x : Connect) → unit ≡ request x → ⊥) → Accepts P s unit
accepts_none P s (request x) other = absurd (other x refl)
accepts_none P s unit other = tt

-- ---- of which units this is

-- What holds of the units of a link, and of each DR, holds of all that is put for a unit, if it holds of what a DR and a CR are
-- answered with; and of all that is put by a call, if it holds of a CR.
module _ (P : Value → Type 0) (gives : (peer : ℕ) (g : Given) → P (unit_of peer g))
    (closes : (m n reason : ℕ) → P (disconnect m n reason [])) where
  pub given_so : (peer : ℕ) (units : List Given) → AllByRecursion P (map (unit_of peer) units)
  given_so peer [] = tt
  given_so peer (g ∷ units) = (gives peer g, given_so peer units)

  module _ (s : State) where
    selected : (c : Connect) (selection : Selection) (held : Option Class) → Accepts P s (request c) →
        AllByRecursion P (answers c selection held s).put
    selected c (refuse reason) held may = (closes c.source 0 reason, tt)
    selected c (accept Two size) held may = (may Two size, tt)
    selected c (accept Zero size) None may = (may Zero size, tt)
    selected c (accept Zero size) (Some class) may = (closes c.source 0 136, tt)

    by_room : (c : Connect) (in_use full : Bool) → Accepts P s (request c) →
        AllByRecursion P
        (if in_use then denies 131 c.source s else (if full then denies 1 c.source s else answers c (selected_by c s.local) s.class s)).put
    by_room c true full may = (closes c.source 0 131, tt)
    by_room c false true may = (closes c.source 0 1, tt)
    by_room c false false may = selected c (selected_by c s.local) s.class may

    requested : (c : Connect) → Accepts P s (request c) → AllByRecursion P (answers_request c s).put
    requested c may = by_room c (has_peer c.source s.live) (is_full s) may

    taken_so : (r peer : ℕ) (result : Result Standing LinkFault) → AllByRecursion P (taking r peer result s).put
    taken_so r peer (Ok link) = given_so peer _
    taken_so r peer (Err fault) = search (arith, closes)

    linked_so : (r peer : ℕ) (link : Standing) (unit : Value) → Confirms P unit → AllByRecursion P (to_linked r peer link unit s).put
    linked_so r peer link (disconnect destination source reason user) may = search (arith, may)
    linked_so r peer link unit may = search (arith, taken_so)

    pub connected : (r : ℕ) (o : Option Connection) (unit : Value) → Confirms P unit → AllByRecursion P (to_connection r o unit s).put
    connected r o unit may = search (arith, may, linked_so)

    pub alone : (live : Rows Connection) (unit : Value) → Confirms P unit → AllByRecursion P (to_only live unit s).put
    alone [] unit may = tt
    alone ((r, connection) ∷ rows) unit may = connected r (Some connection) unit may

    before : (is_caller : Bool) (unit : Value) → Accepts P s unit → Confirms P unit → AllByRecursion P (before_class is_caller unit s).put
    before is_caller unit accepted may = search (arith, connected, requested)

    zero_so : (is_caller : Bool) (unit : Value) → Confirms P unit → AllByRecursion P (in_zero is_caller unit s).put
    zero_so is_caller unit may = search (arith, alone)

    two_so : (is_caller : Bool) (unit : Value) → Accepts P s unit → Confirms P unit → AllByRecursion P (in_two is_caller unit s).put
    two_so is_caller unit accepted may = search (arith, connected, requested)

    pub put_for_so : (unit : Value) → Accepts P s unit → Confirms P unit → AllByRecursion P (put_for unit s)
    put_for_so unit accepted may = search (arith, before, zero_so, two_so)

  pub sent_so : (tsdu : List ℕ) (o : Option (ℕ × Standing)) → AllByRecursion P (put_sent tsdu o)
  sent_so tsdu None = tt
  sent_so tsdu (Some (peer, link)) = given_so peer _

  pub together_so : (r : ℕ) (tsdus : List (List ℕ)) (s : State) → AllByRecursion P (put_together r tsdus s)
  together_so r [] s = tt
  together_so r (tsdu ∷ tsdus) s = all_join P _ _ (sent_so tsdu (open_link r s)) (together_so r tsdus (sent r tsdu s))

  pub put_by_so : (asks : (x : Connect) → P (request x)) (call : UserCall) (s : State) → AllByRecursion P (put_by call s)
  put_by_so asks call s = search (arith, asks, sent_so, together_so, closes)
