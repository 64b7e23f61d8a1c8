-- The effect of a unit apart from what it writes: it is for one connection, and touches no other.
use Rattle.std.proofs.Common.{◌≡◌, ℕ, ◌+◌, ◌<◌, ◌≤◌, Bool, true, false, List, [], ◌∷◌, ◌++◌, length, Option, Some, None, Result, Ok, Err}
use Rattle.std.proofs.Common.{IsSome, is_some, nat_le, refl, sym, ap, subst, ◌∙◌, ◌⊎◌, inl, inr, arith, length-append, if◌then◌else◌}
use Rattle.osi_carrier.proofs.Vocabulary.{append-nil, AllByRecursion, units_of, TpduFault, Value, Connect, request, confirm, disconnect}
use Rattle.osi_carrier.proofs.Vocabulary.{error, Standing, Selection, accept, refuse, selected_by, LinkFault, Class, Zero, Local, Happening}
use Rattle.osi_carrier.proofs.Vocabulary.{fresh_state, may_connect, asks, sent_on, open_link, sent, closes, closed_on, closed_with}
use Rattle.osi_carrier.proofs.Vocabulary.{ended_by, only_of, connection_by, connection_of, told_of, IsOrderly, ChangesOne, acts_by}
use Rattle.osi_carrier.proofs.Vocabulary.{after_packet, denies, answers, to_unknown, to_asked, taking, to_connection, before_class, to_only}
use Rattle.osi_carrier.proofs.Vocabulary.{in_class, react, reacts, Rows, value_at, put, without, Connection, asked, closing, State, drops}
use Rattle.osi_carrier.proofs.Vocabulary.{ends, EndReason, AreNamed, KeepsTsaps, sent_all}
use Rattle.osi_carrier.proofs.references.rows_after_a_change.{put_other, without_other, push_other, put_none, without_none, put_rise}
use Rattle.osi_carrier.proofs.references.rows_after_a_change.{without_rise, push_rise, put_up, without_up, push_up, put_length}
use Rattle.osi_carrier.proofs.references.rows_after_a_change.{without_length}
use Rattle.osi_carrier.proofs.references.which_connections_have_selectors.{Naming, named, keeps, put_named, asks_named, sent_names}
use Rattle.osi_carrier.proofs.references.which_connections_have_selectors.{closes_names}
use Rattle.osi_carrier.proofs.effects.units_one_after_the_other.{react_over}

-- ---- how the live connections change

-- the rows are unchanged, or one reference has another value, or it is dropped
abbrev pub Touched : ℕ → Rows Connection → Rows Connection → Type 0
Touched r old new = (new ≡ old) ⊎ (((c : Connection) × (new ≡ put r c old)) ⊎ (new ≡ without r old))

pub record Kept (r : ℕ) (old new : State) : Type 0 where
  pub given : new.given ≡ old.given
  pub ended : new.ended ≡ old.ended
  pub live : Touched r old.live new.live

-- the next reference is given
pub record Joined (r : ℕ) (old new : State) : Type 0 where
  pub next : r ≡ old.given + 1
  pub given : new.given ≡ old.given + 1
  pub ended : new.ended ≡ old.ended
  pub connection : Connection
  pub live : new.live ≡ old.live ++ (old.given + 1, connection) ∷ []
  pub room : length old.live < 64
  pub left : old.given < 65535

pub record Over (old new : State) : Type 0 where
  pub given : new.given ≡ old.given
  pub live : new.live ≡ []
  pub ended : IsSome new.ended

abbrev pub How : ℕ → State → State → Type 0
How r old new = Kept r old new ⊎ (Joined r old new ⊎ Over old new)

pub record Effect (r : ℕ) (old new : State) : Type 0 where
  pub told : List Happening
  pub events : new.events ≡ old.events ++ told
  pub about : AllByRecursion (λ event. told_of event ≡ r) told
  pub one : length told ≤ 1
  pub how : How r old new
  pub names : Naming old new

-- nothing is reported
silent : (r : ℕ) (old new : State) → new.events ≡ old.events → How r old new → Naming old new → Effect r old new
silent r old new same how names =
    record { told = []; events = same ∙ sym (append-nil old.events); about = tt; one = omega arith; how = how; names = names }

effect_none : (r : ℕ) (s : State) → Effect r s s
effect_none r s = silent r s s refl (grind arith) (inl (refl, refl))

effect_end : (r : ℕ) (reason : EndReason) (s : State) → Effect r s (ends reason s)
effect_end r reason s =
    silent r s (ends reason s) refl (inr (inr (record { given = refl; live = refl; ended = refl }))) (inr (inr (inr (refl, refl))))

-- ---- a CR

effect_answers : (c : Connect) (selection : Selection) (held : Option Class) (s : State) → length s.live < 64 → s.given < 65535 →
    Effect (s.given + 1) s (answers c selection held s).state
effect_answers c (refuse reason) held s room left = grind (arith, silent)
effect_answers c (accept Zero size) (Some class) s room left = grind (arith, silent)
effect_answers c (accept class size) held s room left = grind arith

answers_by : (c : Connect) (s : State) (in_use full : Bool) → (full ≡ false → (length s.live < 64) × (s.given < 65535)) →
    Effect (s.given + 1) s
    (if in_use then denies 131 c.source s else (if full then denies 1 c.source s else answers c (selected_by c s.local) s.class s)).state
answers_by c s true full room = grind (arith, silent)
answers_by c s false true room = grind (arith, silent)
answers_by c s false false room = effect_answers c (selected_by c s.local) s.class s (room refl).0 (room refl).1

-- ---- a unit for a connection

effect_unknown : (r : ℕ) (unit : Value) (s : State) → Effect r s (to_unknown unit s).state
effect_unknown r unit s = search (arith, silent, effect_none, effect_end)

effect_asked : (r : ℕ) (unit : Value) (s : State) → Effect r s (to_asked r unit s).state
effect_asked r (confirm destination c) s = grind (arith, effect_end, put_named)
effect_asked r (disconnect destination source reason user) s = grind arith
effect_asked r (error destination cause) s = grind arith
effect_asked r unit s = effect_unknown r unit s

effect_taking : (r peer : ℕ) (result : Result Standing LinkFault) (s : State) → Effect r s (taking r peer result s).state
effect_taking r peer result s = grind (arith, silent, append-nil, effect_end, put_named)

effect_dropped : (r : ℕ) (s : State) → Effect r s (drops r s)
effect_dropped r s =
    silent r s (drops r s) refl (inl (record { given = refl; ended = refl; live = inr (inr refl) })) (inr (inl (r, refl, refl)))

effect_connection : (r : ℕ) (o : Option Connection) (unit : Value) (s : State) → Effect r s (to_connection r o unit s).state
effect_connection r o unit s = search (arith, effect_unknown, effect_asked, effect_taking, effect_dropped, effect_none)

-- ---- by class

effect_before : (is_caller : Bool) (unit : Value) (s : State) → Effect (connection_by None unit s) s (before_class is_caller unit s).state
effect_before true (confirm destination c) s = grind (arith, effect_connection)
effect_before true (disconnect destination source reason user) s = grind (arith, effect_connection)
effect_before true (error destination cause) s = grind (arith, effect_connection)
effect_before false (request c) s = search (arith, answers_by)
effect_before is_caller unit s = effect_end _ _ s

only_by : (live : Rows Connection) (unit : Value) (s : State) → Effect (only_of live) s (to_only live unit s).state
only_by [] unit s = effect_none 0 s
only_by ((r, connection) ∷ rows) unit s = effect_connection r (Some connection) unit s

effect_class : (held : Option Class) (unit : Value) (s : State) → Effect (connection_by held unit s) s (in_class held unit s).state
effect_class held unit s = search (arith, effect_before, effect_end, only_by, answers_by, effect_connection)

pub effect : (unit : Value) (s : State) → Effect (connection_of unit s) s (react unit s)
unfolding react
effect unit s = grind (arith, effect_none, effect_class)

-- ---- what it gives

pub unit_named : (unit : Value) (s : State) → AreNamed s → AreNamed (react unit s)
unit_named unit s h = named s (react unit s) (effect unit s).names h

pub unit_keeps : (unit : Value) (s : State) → IsOrderly s → KeepsTsaps s (react unit s)
unit_keeps unit s orderly = keeps s (react unit s) (effect unit s).names orderly

pub changes_one : (unit : Value) (s : State) → (react unit s).ended ≡ None → ChangesOne (connection_of unit s) s (react unit s)
changes_one unit s lasts = grind (arith, put_other, without_other, push_other, react, effect unit s)

how_gone : (q r : ℕ) (old new : State) → q ≤ old.given → value_at q old.live ≡ None → How r old new → value_at q new.live ≡ None
how_gone q r old new up none (inl kept) = grind (arith, put_none, without_none)
how_gone q r old new up none (inr (inl joined)) = grind (arith, push_other)
how_gone q r old new up none (inr (inr over)) = ap (value_at q) over.live

-- a connection that is gone stays gone
pub stays_gone : (unit : Value) (s : State) (q : ℕ) → q ≤ s.given → value_at q s.live ≡ None → value_at q (react unit s).live ≡ None
stays_gone unit s q up none = how_gone q (connection_of unit s) s (react unit s) up none (effect unit s).how

-- ---- order

-- of a carrier that has not ended
how_orderly : (r : ℕ) (old new : State) → IsOrderly old → is_some old.ended ≡ false → How r old new → AreNamed new → IsOrderly new
how_orderly r old new h lasts (inl kept) names = grind (arith, put_length, put_rise, put_up, without_length, without_rise, without_up)
how_orderly r old new h lasts (inr (inl joined)) names = grind (arith, length-append, push_rise, push_up)
how_orderly r old new h lasts (inr (inr over)) names = grind arith

orderly_by : (unit : Value) (s : State) (b : Bool) → is_some s.ended ≡ b → IsOrderly s → IsOrderly (react unit s)
orderly_by unit s true over h = subst IsOrderly (sym (react_over unit s over)) h
orderly_by unit s false lasts h =
    how_orderly (connection_of unit s) s (react unit s) h lasts (effect unit s).how (unit_named unit s h.named)

pub orderly_unit : (unit : Value) (s : State) → IsOrderly s → IsOrderly (react unit s)
orderly_unit unit s h = orderly_by unit s (is_some s.ended) refl h

pub orderly_units : (units : List Value) (s : State) → IsOrderly s → IsOrderly (reacts units s)
orderly_units [] s h = h
orderly_units (unit ∷ units) s h = orderly_units units (react unit s) (orderly_unit unit s h)

pub orderly_end : (reason : EndReason) (s : State) → IsOrderly s → IsOrderly (ends reason s)
orderly_end reason s h = record { rise = tt; up_to = tt; given = h.given; live = omega arith; over = λ some. refl; named = refl }

orderly_acts : (units : Result (List Value) TpduFault) (s : State) → IsOrderly s → IsOrderly (acts_by units s)
orderly_acts (Ok units) s h = orderly_units units s h
orderly_acts (Err fault) s h = orderly_end _ s h

pub orderly_packet : (packet : List ℕ) (s : State) → IsOrderly s → IsOrderly (after_packet s packet)
unfolding after_packet
orderly_packet packet s h = orderly_acts (units_of packet) s h

-- ---- calls

pub orderly_fresh : (is_caller : Bool) (local : Local) → IsOrderly (fresh_state is_caller local)
orderly_fresh is_caller local = record { rise = tt; up_to = tt; given = omega arith; live = omega arith; over = λ some. refl; named = refl }

-- if a connection may be requested, there is room for it
pub record MayJoin (s : State) : Type 0 where
  pub lasts : is_some s.ended ≡ false
  pub room : length s.live < 64
  pub left : s.given < 65535

pub free_of : (s : State) → may_connect s ≡ None → MayJoin s
free_of s h = grind (arith, length, nat_le)

pub orderly_asks : (calling called : Option (List ℕ)) (s : State) → may_connect s ≡ None → IsOrderly s → IsOrderly (asks calling called s)
orderly_asks calling called s may h =
    let free = free_of s may in
    how_orderly (s.given + 1) s (asks calling called s) h free.lasts
    (inr (inl (record { next = refl; given = refl; ended = refl; connection = asked; live = refl; room = free.room; left = free.left })))
    (asks_named calling called s h.named)

put_over : (r : ℕ) (c : Connection) (s t : State) → t.given ≡ s.given → t.ended ≡ s.ended → t.live ≡ put r c s.live → Naming s t →
    IsOrderly s → IsOrderly t
put_over r c s t given ended live names h =
    grind (arith, put_length, put_rise, put_up, without_length, without_rise, without_up, named s t names h.named)

sent_by : (r : ℕ) (octets : List ℕ) (link : Option (ℕ × Standing)) (s : State) → IsOrderly s → IsOrderly (sent_on r octets link s)
sent_by r octets None s h = h
sent_by r octets (Some (peer, link)) s h =
    put_over r _ s (sent_on r octets (Some (peer, link)) s) refl refl refl (sent_names r octets (Some (peer, link)) s) h

pub orderly_sent : (r : ℕ) (octets : List ℕ) (s : State) → IsOrderly s → IsOrderly (sent r octets s)
orderly_sent r octets s h = sent_by r octets (open_link r s) s h

pub orderly_sent_all : (r : ℕ) (tsdus : List (List ℕ)) (s : State) → IsOrderly s → IsOrderly (sent_all r tsdus s)
orderly_sent_all r [] s h = h
orderly_sent_all r (tsdu ∷ tsdus) s h = orderly_sent_all r tsdus (sent r tsdu s) (orderly_sent r tsdu s h)

closes_by : (r peer reason : ℕ) (held : Option Class) (s : State) → IsOrderly s → IsOrderly (closes r peer reason held s)
closes_by r peer reason (Some Zero) s h = orderly_end _ s h
closes_by r peer reason held s h =
    put_over r (closing peer) s (closes r peer reason held s) refl refl refl (closes_names r peer reason held s) h

closed_by : (r reason : ℕ) (link : Option (ℕ × Standing)) (s : State) → IsOrderly s → IsOrderly (closed_on r reason link s)
closed_by r reason None s h = h
closed_by r reason (Some (peer, link)) s h = closes_by r peer reason s.class s h

pub orderly_closed : (r reason : ℕ) (s : State) → IsOrderly s → IsOrderly (closed_with r reason s)
orderly_closed r reason s h = closed_by r reason (open_link r s) s h

pub orderly_ended : (reason : EndReason) (s : State) → IsOrderly s → IsOrderly (ended_by reason s)
orderly_ended reason s h = grind (arith, orderly_end)

-- what is taken out of the queues changes nothing of it
pub orderly_same : (s : State) (outgoing : List ℕ) (events : List Happening) → IsOrderly s →
    IsOrderly (record s { outgoing = outgoing; events = events })
orderly_same s outgoing events h = record { rise = h.rise; up_to = h.up_to; given = h.given; live = h.live; over = h.over; named = h.named }

-- ---- what is gone, after calls

pub asks_gone : (calling called : Option (List ℕ)) (s : State) (r : ℕ) → r ≤ s.given → value_at r s.live ≡ None →
    value_at r (asks calling called s).live ≡ None
asks_gone calling called s r up none = push_other r (s.given + 1) asked s.live (λ e. omega arith) ∙ none

pub sent_gone : (q r : ℕ) (octets : List ℕ) (s : State) → value_at r s.live ≡ None → value_at r (sent q octets s).live ≡ None
sent_gone q r octets s none = grind (arith, put_none)

pub sent_all_gone : (q r : ℕ) (tsdus : List (List ℕ)) (s : State) → value_at r s.live ≡ None → value_at r (sent_all q tsdus s).live ≡ None
sent_all_gone q r [] s none = none
sent_all_gone q r (tsdu ∷ tsdus) s none = sent_all_gone q r tsdus (sent q tsdu s) (sent_gone q r tsdu s none)

pub closed_gone : (q r reason : ℕ) (s : State) → value_at r s.live ≡ None → value_at r (closed_with q reason s).live ≡ None
closed_gone q r reason s none = grind (arith, put_none)
