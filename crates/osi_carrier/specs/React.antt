-- What a carrier does with each unit that arrives (X.224 sections 6.5 to 6.8 and 6.22): its state then, and the units that it
-- puts on the byte connection.
use Rattle.std.specs.Prelude.{ℕ, ◌+◌, Bool, true, false, ◌||◌, ◌==◌, List, [], ◌∷◌, ◌++◌, length, map, take, drop, nat_le, Option, Some, None, Result, Ok, Err, is_some, if◌then◌else◌}
use Rattle.std.specs.List.{list_any}
use Rattle.osi_tpdu.specs.Value.{Value, Connect, request, confirm, disconnect, disconnected, data0, data2, acknowledge, error}
use Rattle.osi_class.specs.Link.{Standing, taken}
use Rattle.osi_class.specs.Negotiation.{Selection, accept, refuse, selected_by}
use Rattle.osi_class.specs.declared.faults.LinkFault.{LinkFault}
use Rattle.osi_class.specs.declared.terms.Class.{Class}
use Rattle.osi_class.specs.declared.terms.Class.TheVariants.{Zero, Two}
use Rattle.osi_carrier.specs.Happenings.{opened, refused, tsdu, closed, faulted}
use Rattle.osi_carrier.specs.Negotiation.{acceptance, confirmed, agreed_size, opened_link}
use Rattle.osi_carrier.specs.Pump.{written_by, pumped}
use Rattle.osi_carrier.specs.Rows.{Rows, value_at}
use Rattle.osi_carrier.specs.State.{Connection, asked, linked, closing, TsapIds, State, Outcome, puts, puts_none, writes, tells, joins, moves, drops, ends, fails}
use Rattle.osi_carrier.specs.declared.ends.CarrierFault.TheVariants.{Link, UnknownReference, BadAnswer, UnexpectedUnit}
use Rattle.osi_carrier.specs.declared.ends.EndReason.TheVariants.{PeerClosed}

-- ---- a CR at the called end

-- a refusing DR has no reference of this end
abbrev pub denies : ℕ → ℕ → State → Outcome
denies reason peer s = puts (disconnect peer 0 reason [] ∷ []) s

abbrev pub tsaps_of : Connect → TsapIds
tsaps_of c = record { calling = c.parameters.calling; called = c.parameters.called }

-- the next reference is given; the first CC also settles the class for the byte connection
abbrev pub accepts : Class → Option ℕ → Connect → State → Outcome
accepts class size c s =
    puts (confirm c.source (acceptance class size c s.local (s.given + 1)) ∷ []) (tells (opened (s.given + 1))
    (joins (s.given + 1) (linked c.source (opened_link class size s.local c.credit)) (tsaps_of c)
    (record s { class = Some class; given = s.given + 1 })))

-- the result of negotiation; class 0 is refused if class 2 is agreed
abbrev pub answers : Connect → Selection → Option Class → State → Outcome
answers c (refuse reason) held s = denies reason c.source s
answers c (accept Two size) held s = accepts Two size c s
answers c (accept Zero size) None s = accepts Zero size c s
answers c (accept Zero size) (Some class) s = denies 136 c.source s

abbrev pub is_of_peer : ℕ → Connection → Bool
is_of_peer peer asked = false
is_of_peer peer (linked q link) = q == peer
is_of_peer peer (closing q) = q == peer

-- a live connection has this peer's reference
abbrev pub has_peer : ℕ → Rows Connection → Bool
has_peer peer live = list_any (λ row. is_of_peer peer row.1) live

-- 64 are live, or all references were given
abbrev pub is_full : State → Bool
is_full s = nat_le 64 (length s.live) || nat_le 65535 s.given

-- in this order: a reference in use, no room, and the result of negotiation
abbrev pub answers_request : Connect → State → Outcome
answers_request c s =
    if has_peer c.source s.live then denies 131 c.source s
    else (if is_full s then denies 1 c.source s
    else answers c (selected_by c s.local) s.class s)

-- ---- a unit for a reference that is not live

-- a DR is answered with a DC, a DC is ignored, and any other unit ends the carrier
abbrev pub to_unknown : Value → State → Outcome
to_unknown (disconnect destination source reason user) s = puts (disconnected source destination ∷ []) s
to_unknown (disconnected destination source) s = puts_none s
to_unknown unit s = puts_none (fails UnknownReference s)

-- ---- a unit for a connection that awaits its CC

-- a CC opens the connection in the class that it selects, or selects what was not proposed
abbrev pub opens : ℕ → Connect → Option Class → State → Outcome
opens r c None s = puts_none (fails BadAnswer s)
opens r c (Some class) s =
    puts_none (tells (opened r) (moves r (linked c.source (opened_link class (agreed_size c.parameters.size s.local) s.local c.credit))
    (record s { class = Some class })))

-- a DR or an ER refuses it; for any other unit except a CC its reference is not known yet
abbrev pub to_asked : ℕ → Value → State → Outcome
to_asked r (confirm destination c) s = opens r c (confirmed c s.local s.class) s
to_asked r (disconnect destination source reason user) s = puts_none (tells (refused r reason) (drops r s))
to_asked r (error destination cause) s = puts_none (tells (refused r 0) (drops r s))
to_asked r unit s = to_unknown unit s

-- ---- a unit for an open connection

-- the link without its first complete TSDU
abbrev pub handed_out : Standing → Standing
handed_out link = record link { ends = record link.ends { joining = record link.ends.joining { whole = drop 1 link.ends.joining.whole } } }

-- the units that a link gives now are written
abbrev pub pumps : ℕ → ℕ → Standing → State → State
pumps r peer link s = moves r (linked peer (pumped link)) (writes (written_by peer link) s)

-- TSDUs are handed out
abbrev pub tells_of : ℕ → List (List ℕ) → State → State
tells_of r whole s = record s { events = s.events ++ map (tsdu r) whole }

-- a TSDU that became complete is handed out, and what the link gives then is put
abbrev pub settles : ℕ → ℕ → Standing → State → Outcome
settles r peer link s =
    puts (written_by peer (handed_out link)) (tells_of r (take 1 link.ends.joining.whole)
    (moves r (linked peer (pumped (handed_out link))) s))

-- a fault ends this connection in class 2, and the carrier in class 0
abbrev pub breaks : ℕ → ℕ → LinkFault → Option Class → State → Outcome
breaks r peer fault (Some Two) s = puts (disconnect peer r 133 [] ∷ []) (tells (faulted r fault) (moves r (closing peer) s))
breaks r peer fault held s = puts_none (fails (Link fault) s)

abbrev pub taking : ℕ → ℕ → Result Standing LinkFault → State → Outcome
taking r peer (Ok link) s = settles r peer link s
taking r peer (Err fault) s = breaks r peer fault s.class s

-- a DR closes it: in class 2 a DC answers, in class 0 the carrier ends
abbrev pub leaves : ℕ → ℕ → ℕ → Option Class → State → Outcome
leaves r peer reason (Some Two) s = puts (disconnected peer r ∷ []) (tells (closed r reason) (drops r s))
leaves r peer reason held s = puts_none (ends (PeerClosed reason) (tells (closed r reason) s))

-- a CR, CC, DC and ER are refused by the link as being of the wrong form
abbrev pub to_linked : ℕ → ℕ → Standing → Value → State → Outcome
to_linked r peer link (disconnect destination source reason user) s = leaves r peer reason s.class s
to_linked r peer link unit s = taking r peer (taken link unit) s

-- ---- a unit for a connection that is closing

-- a DC or a DR ends it, and any other unit is ignored
abbrev pub to_closing : ℕ → Value → State → Outcome
to_closing r (disconnected destination source) s = puts_none (drops r s)
to_closing r (disconnect destination source reason user) s = puts_none (drops r s)
to_closing r unit s = puts_none s

-- ---- by connection

abbrev pub to_connection : ℕ → Option Connection → Value → State → Outcome
to_connection r None unit s = to_unknown unit s
to_connection r (Some asked) unit s = to_asked r unit s
to_connection r (Some (linked peer link)) unit s = to_linked r peer link unit s
to_connection r (Some (closing peer)) unit s = to_closing r unit s

abbrev pub to_reference : ℕ → Value → State → Outcome
to_reference r unit s = to_connection r (value_at r s.live) unit s

-- ---- by class

-- The class is not known: the caller expects an answer to its CR, and the called end a CR.
abbrev pub before_class : Bool → Value → State → Outcome
before_class true (confirm destination c) s = to_reference destination (confirm destination c) s
before_class true (disconnect destination source reason user) s = to_reference destination (disconnect destination source reason user) s
before_class true (error destination cause) s = to_reference destination (error destination cause) s
before_class false (request c) s = answers_request c s
before_class is_caller unit s = puts_none (fails UnexpectedUnit s)

-- Class 0: all units are for the one connection, whatever their reference, and the caller takes no CR.
abbrev pub to_only : Rows Connection → Value → State → Outcome
to_only [] unit s = puts_none s
to_only ((r, connection) ∷ rows) unit s = to_connection r (Some connection) unit s

abbrev pub in_zero : Bool → Value → State → Outcome
in_zero true (request c) s = puts_none (fails UnexpectedUnit s)
in_zero is_caller unit s = to_only s.live unit s

-- Class 2: by reference.
abbrev pub in_two : Bool → Value → State → Outcome
in_two true (request c) s = puts_none (fails UnexpectedUnit s)
in_two false (request c) s = answers_request c s
in_two is_caller (confirm destination c) s = to_reference destination (confirm destination c) s
in_two is_caller (disconnect destination source reason user) s = to_reference destination (disconnect destination source reason user) s
in_two is_caller (disconnected destination source) s = to_reference destination (disconnected destination source) s
in_two is_caller (data0 end user) s = puts_none (fails UnexpectedUnit s)
in_two is_caller (data2 destination number end user) s = to_reference destination (data2 destination number end user) s
in_two is_caller (acknowledge credit destination number) s = to_reference destination (acknowledge credit destination number) s
in_two is_caller (error destination cause) s = to_reference destination (error destination cause) s

abbrev pub in_class : Option Class → Value → State → Outcome
in_class None unit s = before_class s.is_caller unit s
in_class (Some Zero) unit s = in_zero s.is_caller unit s
in_class (Some Two) unit s = in_two s.is_caller unit s

-- nothing has an effect after the end
abbrev pub react_by : Bool → Value → State → Outcome
react_by true unit s = puts_none s
react_by false unit s = in_class s.class unit s

abbrev pub outcome : Value → State → Outcome
outcome unit s = react_by (is_some s.ended) unit s

-- the effect of a unit
unfoldable pub react : Value → State → State
react unit s = (outcome unit s).state

-- the units that are put as it is taken
abbrev pub put_for : Value → State → List Value
put_for unit s = (outcome unit s).put

-- units one after the other
abbrev pub reacts : List Value → State → State
reacts [] s = s
reacts (unit ∷ units) s = reacts units (react unit s)
