-- The events tell which connections are open.
use Rattle.std.proofs.Common.{◌≡◌, ◌≢◌, ℕ, ◌==◌, Bool, true, false, ◌&&◌, ◌||◌, not, List, [], ◌∷◌, ◌++◌, Option, Some, None, Result, Ok}
use Rattle.std.proofs.Common.{Err, is_some, refl, sym, ap, subst, ◌∙◌, arith, append_assoc, if◌then◌else◌, eq-eqb}
use Rattle.osi_carrier.specs.Told.{is_open, open_after, TellsOpen}
use Rattle.osi_carrier.proofs.Vocabulary.{eqb-true, append-nil, units_of, Value, Connect, request, confirm, disconnect, data0, error}
use Rattle.osi_carrier.proofs.Vocabulary.{TpduFault, Standing, Selection, accept, refuse, LinkFault, Class, Zero, asks, link_of, sent}
use Rattle.osi_carrier.proofs.Vocabulary.{closed_with, Happening, opened, closed, faulted, confirmed, RiseFrom, AreUpTo, IsOrderly, acts_by}
use Rattle.osi_carrier.proofs.Vocabulary.{after_packet, denies, answers, to_unknown, opens, to_asked, taking, to_closing, to_connection}
use Rattle.osi_carrier.proofs.Vocabulary.{before_class, to_only, in_two, react, reacts, Rows, value_at, Connection, asked, linked, closing}
use Rattle.osi_carrier.proofs.Vocabulary.{State, ends, EndReason, sent_all}
use Rattle.osi_carrier.proofs.references.what_a_change_leaves_there.{put_here, without_here, push_here, beyond}
use Rattle.osi_carrier.proofs.references.rows_after_a_change.{put_other, without_other, push_other}
use Rattle.osi_carrier.proofs.effects.a_unit_touches_one_connection.{orderly_unit}
use Rattle.osi_carrier.proofs.effects.units_one_after_the_other.{none_of, reacts_over}

-- ---- rows

other_than : (q r : ℕ) → (q == r) ≡ false → r ≢ q
other_than q r e same = let t : (q == r) ≡ true = eq-eqb q r (sym same) in cc

-- ---- whether there is an open connection

abbrev open_in : ℕ → Rows Connection → Bool
open_in r rows = is_some (link_of (value_at r rows))

abbrev is_link : Connection → Bool
is_link c = is_some (link_of (Some c))

-- what a connection was, at its own reference
open_was : (r q : ℕ) (y : Connection) (rows : Rows Connection) → (q == r) ≡ true → value_at q rows ≡ Some y → open_in r rows ≡ is_link y
open_was r q y rows e h = ap (λ o. is_some (link_of o)) (subst (λ n. value_at n rows ≡ Some y) (eqb-true q r e) h)

-- ---- what is reported

record Told (r : ℕ) (old new : State) : Type 0 where
  told : List Happening
  events : new.events ≡ old.events ++ told
  is : open_in r new.live ≡ open_after r (open_in r old.live) told

same_told : (r : ℕ) (old new : State) → new.events ≡ old.events → open_in r new.live ≡ open_in r old.live → Told r old new
same_told r old new events is = record { told = []; events = events ∙ sym (append-nil old.events); is = is }

still_told : (r : ℕ) (s : State) → Told r s s
still_told r s = same_told r s s refl refl

over_told : {B : Type 0} (reason : EndReason) (s : State) → (ends reason s).ended ≡ None → B
over_told reason s h = absurd cc

-- a connection that was not open, or stays open: no event is reported of it
stays_told : (r q : ℕ) (b was : Bool) (old : Rows Connection) (now : Bool) → (q == r) ≡ b → ((q == r) ≡ true → open_in r old ≡ was) →
    now ≡ (if b then was else open_in r old) → now ≡ open_in r old
stays_told r q b was old now e here is = grind arith

-- ---- a CR

answers_told : (r : ℕ) (c : Connect) (selection : Selection) (held : Option Class) (s : State) → AreUpTo s.given s.live →
    Told r s (answers c selection held s).state
answers_told r c (refuse reason) held s up = same_told r s (denies reason c.source s).state refl refl
answers_told r c (accept Zero size) (Some class) s up = same_told r s (denies 136 c.source s).state refl refl
answers_told r c (accept class size) held s up = grind (arith, is_some, eqb-true, push_here, push_other, other_than, beyond)

-- ---- a unit for a connection

unknown_told : (r : ℕ) (unit : Value) (s : State) → (to_unknown unit s).state.ended ≡ None → Told r s (to_unknown unit s).state
unknown_told r unit s h = grind (arith, same_told, still_told, over_told)

confirm_told : (r q : ℕ) (c : Connect) (class : Option Class) (s : State) → value_at q s.live ≡ Some asked →
    (opens q c class s).state.ended ≡ None → Told r s (opens q c class s).state
confirm_told r q c class s here h = search (arith, over_told, eqb-true, put_here, put_other, other_than)

asked_told : (r q : ℕ) (unit : Value) (s : State) → RiseFrom 0 s.live → value_at q s.live ≡ Some asked →
    (to_asked q unit s).state.ended ≡ None → Told r s (to_asked q unit s).state
asked_told r q (confirm destination c) s rise here h = confirm_told r q c (confirmed c s.local s.class) s here h
asked_told r q (disconnect destination source reason user) s rise here h =
    grind (arith, stays_told, open_was, is_some, eqb-true, without_here, without_other, other_than)
asked_told r q (error destination cause) s rise here h =
    grind (arith, stays_told, open_was, is_some, eqb-true, without_here, without_other, other_than)
asked_told r q unit s rise here h = unknown_told r unit s h

taking_told : (r q peer : ℕ) (link : Standing) (result : Result Standing LinkFault) (s : State) →
    value_at q s.live ≡ Some (linked peer link) →
    (taking q peer result s).state.ended ≡ None → Told r s (taking q peer result s).state
taking_told r q peer link result s here h = search (arith, stays_told, open_was, eqb-true, put_here, put_other, other_than, over_told)

closing_told : (r q peer : ℕ) (unit : Value) (s : State) → RiseFrom 0 s.live → value_at q s.live ≡ Some (closing peer) →
    Told r s (to_closing q unit s).state
closing_told r q peer unit s rise here =
    search (arith, same_told, stays_told, open_was, is_some, eqb-true, without_here, without_other, other_than, still_told)

connection_told : (r q : ℕ) (o : Option Connection) (unit : Value) (s : State) → RiseFrom 0 s.live → value_at q s.live ≡ o →
    (to_connection q o unit s).state.ended ≡ None → Told r s (to_connection q o unit s).state
connection_told r q o unit s rise here h =
    search (arith, unknown_told, asked_told, is_some, eqb-true, without_here, without_other, other_than, taking_told, closing_told)

-- ---- by class

before_told : (r : ℕ) (is_caller : Bool) (unit : Value) (s : State) → IsOrderly s → (before_class is_caller unit s).state.ended ≡ None →
    Told r s (before_class is_caller unit s).state
before_told r true (confirm destination c) s o h = grind (arith, connection_told)
before_told r true (disconnect destination source reason user) s o h = grind (arith, connection_told)
before_told r true (error destination cause) s o h = grind (arith, connection_told)
before_told r false (request c) s o h = grind (arith, same_told, answers_told)
before_told r is_caller unit s o h = over_told _ s h

only_told : (r : ℕ) (live : Rows Connection) (unit : Value) (s : State) → s.live ≡ live → RiseFrom 0 s.live →
    (to_only live unit s).state.ended ≡ None → Told r s (to_only live unit s).state
only_told r [] unit s e rise h = still_told r s
only_told r ((q, c) ∷ rows) unit s e rise h =
    let test = eq-eqb q q refl in
    let here : value_at q ((q, c) ∷ rows) ≡ Some c = rw test refl in
    connection_told r q (Some c) unit s rise (ap (value_at q) e ∙ here) h

two_told : (r : ℕ) (is_caller : Bool) (unit : Value) (s : State) → IsOrderly s → (in_two is_caller unit s).state.ended ≡ None →
    Told r s (in_two is_caller unit s).state
two_told r true (request c) s o h = over_told _ s h
two_told r false (request c) s o h = grind (arith, same_told, answers_told)
two_told r is_caller (data0 end user) s o h = over_told _ s h
two_told r is_caller unit s o h = grind (arith, connection_told)

react_told : (r : ℕ) (unit : Value) (s : State) → IsOrderly s → (react unit s).ended ≡ None → Told r s (react unit s)
unfolding react
react_told r unit s o h = search (arith, still_told, before_told, over_told, only_told, two_told)

-- ---- packets

after_joined : (r : ℕ) (was : Bool) (xs ys : List Happening) → open_after r was (xs ++ ys) ≡ open_after r (open_after r was xs) ys
after_joined r was [] ys = refl
after_joined r was (opened q ∷ xs) ys = after_joined r (was || (q == r)) xs ys
after_joined r was (closed q reason ∷ xs) ys = after_joined r (was && not (q == r)) xs ys
after_joined r was (faulted q fault ∷ xs) ys = after_joined r (was && not (q == r)) xs ys
after_joined r was (event ∷ xs) ys = after_joined r was xs ys

told_joined : (r : ℕ) (old mid new : State) → Told r old mid → Told r mid new → Told r old new
told_joined r old mid new a b = grind (arith, append_assoc, after_joined)

-- what has not ended had not before
units_last : (units : List Value) (s : State) (over : Bool) → is_some s.ended ≡ over → (reacts units s).ended ≡ None → s.ended ≡ None
units_last units s over e h = grind (arith, reacts_over, none_of)

units_told : (r : ℕ) (units : List Value) (s : State) → IsOrderly s → (reacts units s).ended ≡ None → Told r s (reacts units s)
units_told r [] s o h = still_told r s
units_told r (unit ∷ units) s o h =
    told_joined r s (react unit s) (reacts units (react unit s))
    (react_told r unit s o (units_last units (react unit s) (is_some (react unit s).ended) refl h))
    (units_told r units (react unit s) (orderly_unit unit s o) h)

packet_told : (r : ℕ) (packet : List ℕ) (s : State) → IsOrderly s → (after_packet s packet).ended ≡ None → Told r s (after_packet s packet)
unfolding after_packet
packet_told r packet s o h = grind (arith, units_told, over_told)

-- ---- what is published

tells_open : (r : ℕ) (old new : State) → old.ended ≡ None → new.ended ≡ None → Told r old new → TellsOpen r old new
tells_open r old new was lasts t = grind arith

pub unit_opens : (unit : Value) (s : State) (r : ℕ) → IsOrderly s → (react unit s).ended ≡ None → TellsOpen r s (react unit s)
unit_opens unit s r o h = tells_open r s (react unit s) (units_last (unit ∷ []) s (is_some s.ended) refl h) h (react_told r unit s o h)

acts_last : (units : Result (List Value) TpduFault) (s : State) → (acts_by units s).ended ≡ None → s.ended ≡ None
acts_last (Ok units) s h = units_last units s (is_some s.ended) refl h
acts_last (Err fault) s h = over_told _ s h

packet_lasts : (packet : List ℕ) (s : State) → (after_packet s packet).ended ≡ None → s.ended ≡ None
unfolding after_packet
packet_lasts packet s h = acts_last (units_of packet) s h

pub packet_opens : (packet : List ℕ) (s : State) (r : ℕ) → IsOrderly s → (after_packet s packet).ended ≡ None →
    TellsOpen r s (after_packet s packet)
packet_opens packet s r o h = tells_open r s (after_packet s packet) (packet_lasts packet s h) h (packet_told r packet s o h)

-- ---- calls

pub asks_opens : (calling called : Option (List ℕ)) (s : State) (r : ℕ) → IsOrderly s → is_open r (asks calling called s) ≡ is_open r s
asks_opens calling called s r o = grind (arith, is_some, eqb-true, push_here, push_other, other_than, beyond)

pub sent_opens : (q r : ℕ) (octets : List ℕ) (s : State) → is_open r (sent q octets s) ≡ is_open r s
sent_opens q r octets s = grind (arith, is_some, stays_told, open_was, eqb-true, put_here, put_other, other_than)

pub sent_all_opens : (q r : ℕ) (tsdus : List (List ℕ)) (s : State) → is_open r (sent_all q tsdus s) ≡ is_open r s
sent_all_opens q r [] s = refl
sent_all_opens q r (tsdu ∷ tsdus) s = sent_all_opens q r tsdus (sent q tsdu s) ∙ sent_opens q r tsdu s

pub closed_opens : (q r reason : ℕ) (s : State) → (closed_with q reason s).ended ≡ None →
    is_open r (closed_with q reason s) ≡ (is_open r s && not (q == r))
closed_opens q r reason s h = search (arith, is_some, eqb-true, over_told, put_here, put_other, other_than, none_of)
