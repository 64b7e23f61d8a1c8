-- Data anywhere in flight to a side is no fault there; a side whose transport connection closes is over.
-- For the laws `data_is_no_fault_behind`, `the_next_is_no_fault` and `who_is_left_is_over`.
use Rattle.osi_machine.proofs.Vocabulary.{cases_Bool, AllByRecursion, list_any, Input, called, taken, Standing, react, verdict, is_faulty}
use Rattle.osi_machine.proofs.Vocabulary.{respond_all, acting, said_of, State, Meaning, DT, Call, HasSerial, CallError, Granted, Answer}
use Rattle.osi_machine.proofs.Vocabulary.{Outcome, allowed, is_over, respond_unit, Core, stays_in_core, Message, unit, World, session_of}
use Rattle.osi_machine.proofs.Vocabulary.{Told, Tables, IsTableRun, AtEachSide, IsNoFaultNext, is_leaving, Side, Machine, IsOverWhenLeft}
use Rattle.osi_machine.proofs.Vocabulary.{◌≡◌, refl, sym, ◌∙◌, ap, subst, ℕ, Bool, true, false, List, [], ◌∷◌, ◌++◌, map, None, Ok, Err}
use Rattle.osi_machine.proofs.Vocabulary.{◌⊎◌, inl, inr, arith, after_calls, after_message, IsCalm, StaysCalm, IsNoFaultBehind}
use Rattle.osi_machine.proofs.Vocabulary.{list_any-append}
use Rattle.osi_session.specs.Moves.{answered as answered_move}
use Rattle.osi_machine.specs.Calm.{left_by}
use Rattle.osi_machine.proofs.invariant.what_holds_of_both_sides.{Stands}
use Rattle.osi_machine.proofs.invariant.each_step_keeps_one_side.{SessionLaws}
use Rattle.osi_machine.proofs.each_step_keeps_both_sides.{called_stands, taking_stands}
use Rattle.osi_machine.proofs.whole.how_a_core_simulates_a_connection.{IsTail, Carried, session_is, not_both}
use Rattle.osi_machine.proofs.whole.a_close_a_break_and_an_end.{is_unit}
use Rattle.osi_machine.proofs.whole.a_call.{stop_over}
use Rattle.osi_machine.proofs.whole.a_unit_is_taken.{over_next}
use Rattle.osi_machine.proofs.whole.every_step_is_simulated.{refused}
use Rattle.osi_machine.proofs.whole.every_stage_of_a_connection.{Stage}
use Rattle.osi_machine.proofs.tables.a_line_is_a_connection.{SaysItsUnit}
use Rattle.osi_machine.proofs.tables.what_two_tables_tell.{of_stages}
use Rattle.osi_session.specs.declared.faults.CallError.TheVariants as error

-- ---- a unit that fits, and any unit at a side that is over

unit_when_over : (s : State) (u : Meaning) → is_over s.phase ≡ true → is_faulty (verdict s u) ≡ false
unit_when_over s u o = rw o refl

-- ---- a side that is over stays so

abbrev standing : State → Standing
standing s = record { state = s; waiting = None }

accepted : (s : State) (c : Call) (g : Granted) → allowed s c ≡ Ok g → left_by s (called c) ≡ g.next
unfolding react
accepted s c g e = ap (λ (a : Answer). (answered_move (standing s) a).next.state) e

unmoved : (s : State) (c : Call) (x : CallError) → allowed s c ≡ Err x → left_by s (called c) ≡ s
unfolding react
unmoved s c x e = ap (λ (a : Answer). (answered_move (standing s) a).next.state) e

pub over_calls : (s : State) (calls : List Call) → is_over s.phase ≡ true → is_over (after_calls s calls).phase ≡ true
over_calls s [] o = o
over_calls s (c ∷ calls) o = over_calls (left_by s (called c)) calls
    (ap (λ (x : State). is_over x.phase) (unmoved s c error.Ended (refused s c o)) ∙ o)

over_all : (s : State) (us : List Meaning) → is_over s.phase ≡ true → is_over (respond_all s us).next.phase ≡ true
unfolding respond_all
over_all s [] o = o
over_all s (u ∷ us) o = grind (arith, over_next, over_all (respond_unit s u).next us (over_next s u o))

over_unit : (s : State) (u : Meaning) → is_over s.phase ≡ true → is_over (left_by s (taken (said_of u))).phase ≡ true
unfolding react
over_unit s u o = over_all s (acting (said_of u)) o

pub over_message : (s : State) (m : Message) → is_over s.phase ≡ true → is_over (after_message s m).phase ≡ true
unfolding react
over_message s m o = grind (arith, over_unit)

pub over_calm : (s : State) (ms : List Message) → is_over s.phase ≡ true → StaysCalm s ms
over_calm s [] o = λ calls small octets. unit_when_over (after_calls s calls) (DT octets) (over_calls s calls o)
over_calm s (m ∷ ms) o = λ calls small. over_calm (after_message (after_calls s calls) m) ms
    (over_message (after_calls s calls) m (over_calls s calls o))

-- ---- a CN that is still to be sent makes no difference

pub left_is : (x : Standing) (input : Input) → left_by x.state input ≡ (react x input).next.state
unfolding react
left_is x input = grind arith

-- ---- a call of its user

call_first : (s : State) (c : Call) (ms : List Message) → HasSerial c → StaysCalm s ms → StaysCalm (left_by s (called c)) ms
call_first s c [] small calm = λ calls numbered. calm (c ∷ calls) (small, numbered)
call_first s c (m ∷ ms) small calm = λ calls numbered. calm (c ∷ calls) (small, numbered)

pub called_calm : (x : Standing) (c : Call) (ms : List Message) → HasSerial c → StaysCalm x.state ms
    → StaysCalm (react x (called c)).next.state ms
called_calm x c ms small calm = subst (λ (s : State). StaysCalm s ms) (left_is x (called c)) (call_first x.state c ms small calm)

-- ---- a side of a connection on which nothing is lost

record HasCore (s : State) (sent : List Meaning) : Type 0 where
  core : Core
  stands : Stands core
  is : s ≡ core.own.session
  way : core.peer.sent ≡ sent

abbrev Lives : State → List Meaning → Type 0
Lives s sent = (is_over s.phase ≡ true) ⊎ HasCore s sent

module _ (laws : SessionLaws) (c : Core) (call : Call) (sent : List Meaning) (small : HasSerial call) (stands : Stands c)
    (way : c.peer.sent ≡ sent) where
  granted : (g : Granted) → allowed c.own.session call ≡ Ok g → (k : Bool) → stays_in_core call ≡ k → Lives g.next sent
  granted g e true q = grind (arith, called_stands laws c call small stands)
  granted g e false q =
      inl (ap (λ (x : Granted). is_over x.next.phase) (laws.passed c.own.session call g e).gives ∙ stop_over c.own.session call q)

  answers : (a : Answer) → allowed c.own.session call ≡ a → Lives (left_by c.own.session (called call)) sent
  answers (Ok g) e = grind (arith, accepted c.own.session call g e, granted g e (stays_in_core call) refl)
  answers (Err x) e = inr (record { core = c; stands = stands; is = unmoved c.own.session call x e; way = way })

one_call : SessionLaws → (s : State) (call : Call) (sent : List Meaning) → HasSerial call → Lives s sent
    → Lives (left_by s (called call)) sent
one_call laws s call sent small (inl o) = inl (ap (λ (x : State). is_over x.phase) (unmoved s call error.Ended (refused s call o)) ∙ o)
one_call laws s call sent small (inr h) = search (arith, answers)

all_calls : SessionLaws → (s : State) (calls : List Call) (sent : List Meaning) → AllByRecursion HasSerial calls → Lives s sent
    → Lives (after_calls s calls) sent
all_calls laws s [] sent small h = h
all_calls laws s (c ∷ calls) sent small h = all_calls laws (left_by s (called c)) calls sent small.1 (one_call laws s c sent small.0 h)

said : SaysItsUnit → (s : State) (u : Meaning) → left_by s (taken (said_of u)) ≡ (respond_unit s u).next
unfolding react
said says s u = ap (λ (o : Outcome). o.next) (says s u)

one_unit : SessionLaws → SaysItsUnit → (s : State) (u : Meaning) (sent : List Meaning) → Lives s (u ∷ sent)
    → Lives (left_by s (taken (said_of u))) sent
one_unit laws says s u sent (inl o) = inl (over_unit s u o)
one_unit laws says s u sent (inr h) = grind (arith, respond_unit, said says s u, taking_stands laws h.core (u ∷ sent) h.way h.stands)

no_fault_first : (s : State) (octets : List ℕ) (rest : List Meaning) → Lives s (DT octets ∷ rest) → IsCalm s
no_fault_first s octets rest h3 x = grind arith

-- ---- what is in flight

no_data_last : (b : Bool) (s : State) (lost tail : List Meaning) (ms : List Message) (octets : List ℕ) (rest : List Message)
    → IsTail b s lost tail → ms ++ unit (DT octets) ∷ rest ≡ map unit tail → ⊥
no_data_last b s lost (DT x ∷ []) [] octets rest t e = t.2
no_data_last b s lost (u ∷ []) (m ∷ (n ∷ ms)) octets rest t e = cc
no_data_last b s lost (u ∷ (v ∷ us)) ms octets rest t e = t
no_data_last b s lost _ [] octets rest t e = cc
no_data_last b s lost _ (m ∷ _) octets rest t e = cc

-- the units ahead of the data are in flight in the other connection too, and so is the data
calm_behind : SessionLaws → SaysItsUnit → (b : Bool) (p s : State) (there lost tail : List Meaning) (ms : List Message) (octets : List ℕ)
    (rest : List Message) → IsTail b p lost tail → Lives s (there ++ lost) → ms ++ unit (DT octets) ∷ rest ≡ map unit (there ++ tail)
    → StaysCalm s ms
calm_behind laws says b p s [] lost tail ms octets rest t h e = absurd (no_data_last b p lost tail ms octets rest t e)
calm_behind laws says b p s (u ∷ there) lost tail [] octets rest t h e = λ calls small.
    let same : u ≡ DT octets = cc in
    no_fault_first (after_calls s calls) octets (there ++ lost)
    (subst (λ (v : Meaning). Lives (after_calls s calls) (v ∷ (there ++ lost))) same (all_calls laws s calls (u ∷ (there ++ lost)) small h))
calm_behind laws says b p s (u ∷ there) lost tail (m ∷ ms) octets rest t h e = λ calls small.
    let one : unit u ≡ m = cc in
    let more : ms ++ unit (DT octets) ∷ rest ≡ map unit (there ++ tail) = cc in
    subst (λ (x : Message). StaysCalm (after_message (after_calls s calls) x) ms) one
    (calm_behind laws says b p (left_by (after_calls s calls) (taken (said_of u))) there lost tail ms octets rest t
    (one_unit laws says (after_calls s calls) u (there ++ lost) (all_calls laws s calls (u ∷ (there ++ lost)) small h)) more)

carried_calm : SessionLaws → SaysItsUnit → (b o : Bool) (c : Core) (ch ms : List Message) (octets : List ℕ) (rest : List Message) → Stands c
    → Carried b o ch c.peer.sent c.peer.session → ch ≡ ms ++ unit (DT octets) ∷ rest → StaysCalm c.own.session ms
carried_calm laws says b o c ch ms octets rest stands k e =
    calm_behind laws says o c.peer.session c.own.session k.there k.lost k.tail ms octets rest k.last
    (inr (record { core = c; stands = stands; is = refl; way = sym k.splits })) (sym e ∙ k.carries)

-- ---- at every step

has_unit : (ms : List Message) (u : Meaning) (rest : List Message) → list_any is_unit (ms ++ unit u ∷ rest) ≡ true
has_unit ms u rest = grind (arith, list_any-append)

no_fault_behind : SessionLaws → SaysItsUnit → (side : Side) (m : Machine) (w : World) (t u : Told) → Stage side m w t u
    → IsNoFaultBehind (session_of w) w.peer.channel
no_fault_behind laws says side m w t u h ms octets rest e =
    grind (arith, not_both, has_unit, cases_Bool, over_calm, session_is, carried_calm)

pub behind_is_no_fault : SessionLaws → SaysItsUnit → (t : Tables) → IsTableRun t → AtEachSide IsNoFaultBehind t
behind_is_no_fault laws says = of_stages laws says IsNoFaultBehind (no_fault_behind laws says)

-- data that comes next has nothing ahead of it
pub next_is_no_fault : SessionLaws → SaysItsUnit → (t : Tables) → IsTableRun t → AtEachSide IsNoFaultNext t
next_is_no_fault laws says t h side r l e octets ms q = behind_is_no_fault laws says t h side r l e [] octets ms q [] tt octets

-- ---- who is left

no_unit_leaves : (us : List Meaning) → list_any is_leaving (map unit us) ≡ false
no_unit_leaves [] = refl
no_unit_leaves (u ∷ us) = no_unit_leaves us

pub left_is_over : SessionLaws → SaysItsUnit → (t : Tables) → IsTableRun t → AtEachSide IsOverWhenLeft t
left_is_over laws says = of_stages laws says IsOverWhenLeft (grind (arith, not_both, cases_Bool, no_unit_leaves))
