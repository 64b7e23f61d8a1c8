-- The effect of calls of links of class 2 on the flow control between them.
use Rattle.std.proofs.Common.{arith, ◌≡◌, ℕ, ◌<◌, ◌≤◌, Bool, true, List, [], ◌∷◌, Option, Some, Result, Ok, inl, inr, refl, sym, ◌∙◌, ap}
use Rattle.std.proofs.Common.{subst, is_some, IfSome, IfOk}
use Rattle.osi_class.proofs.Vocabulary.{flat_map, ltb-true, flat_map-append, Value, data2, acknowledge, LinkFault, LinkPair, Turn, at_left}
use Rattle.osi_class.proofs.Vocabulary.{at_right, Turns, TurnsAlong, opened_pair, Direction, owed, direction, HaveFlows, TurnSteps, Agree}
use Rattle.osi_class.proofs.Vocabulary.{Ends, Flow, Sender, Receiver, acknowledged, is_awaited, ack_number, after_acked, fresh_sender}
use Rattle.osi_class.proofs.Vocabulary.{fresh_receiver, Joining, Standing, Given, part0, part2, ack, next_by, with_joined, with_sender}
use Rattle.osi_class.proofs.Vocabulary.{taken_by, taken_flow, sent_flow, Move, hand_in, give_out, take_in, hand_out, Moves}
use Rattle.osi_class.proofs.between.units_are_of_one_class.{class_turn}
use Rattle.osi_class.proofs.between.parts_stay_in_order.{append_nil, choose_some, choose_ok, at_some, at_ok}
use Rattle.osi_class.proofs.between.owed_acks_keep_the_counts.{step_keeps, step_window, begins}

-- what a call does to a link's flow
abbrev FlowMoves : Move → Flow → Flow → Type 0
FlowMoves (hand_in tsdu) f g = g ≡ f
FlowMoves (hand_out tsdu) f g = g ≡ f
FlowMoves (give_out (part0 end octets)) f g = ⊥
FlowMoves (give_out (part2 number end octets)) f g = (0 < f.sender.credit) × (number ≡ f.sender.next) × (g ≡ sent_flow f)
FlowMoves (give_out (ack number credit)) f g =
    (0 < f.receiver.waiting) × (number ≡ ack_number f.receiver) × (credit ≡ f.receiver.window) ×
    (g ≡ record f { receiver = after_acked f.receiver })
FlowMoves (take_in (data2 destination number end octets)) f g = (is_awaited f.receiver number ≡ true) × (g ≡ taken_flow f)
FlowMoves (take_in (acknowledge credit destination number)) f g =
    (acknowledged f.sender number credit ≡ Ok g.sender) × (g ≡ record f { sender = g.sender })
FlowMoves (take_in unit) f g = ⊥

abbrev Reaches : Move → Flow → Standing → Type 0
Reaches move f new = (g : Flow) × (new.flow ≡ Some g) × FlowMoves move f g

abbrev NextReaches : Flow → Given × Standing → Type 0
NextReaches f (given, new) = Reaches (give_out given) f new

next_reaches : (e : Ends) (f : Flow) → IfSome (next_by e (Some f)) (NextReaches f)
next_reaches e f = grind (arith, choose_some, ltb-true)

joined_reaches : (e : Ends) (f : Flow) (destination number : ℕ) (end : Bool) (octets : List ℕ) → is_awaited f.receiver number ≡ true →
    (r : Result Joining LinkFault) →
    IfOk (with_joined e (Some (taken_flow f)) r) (Reaches (take_in (data2 destination number end octets)) f)
joined_reaches e f destination number end octets awaited r = grind arith

sender_reaches : (e : Ends) (f : Flow) (credit destination number : ℕ) (r : Result Sender LinkFault) →
    acknowledged f.sender number credit ≡ r →
    IfOk (with_sender e f r) (Reaches (take_in (acknowledge credit destination number)) f)
sender_reaches e f credit destination number r is = grind arith

taken_reaches : (e : Ends) (f : Flow) (unit : Value) → IfOk (taken_by e (Some f) unit) (Reaches (take_in unit) f)
taken_reaches e f unit = grind (arith, choose_ok, joined_reaches, sender_reaches)

move_reaches : (move : Move) (old new : Standing) (f : Flow) → old.flow ≡ Some f → Moves move old new → Reaches move f new
move_reaches (hand_in tsdu) old new f is e = (f, ap (λ (s : Standing). s.flow) e ∙ is, refl)
move_reaches (hand_out tsdu) old new f is e = (f, sym (ap (λ (s : Standing). s.flow) e) ∙ is, refl)
move_reaches (give_out given) old new f is e = grind (arith, at_some, next_reaches old.ends f)
move_reaches (take_in unit) old new f is e = grind (arith, at_ok, taken_reaches old.ends f unit)

abbrev make : Sender → List ℕ → Receiver → List (ℕ × ℕ) → Direction
make sender units receiver acks = record { sender = sender; units = units; receiver = receiver; acks = acks }

pub turn_steps : (turn : Turn) (old new : LinkPair) (l r : Flow) → HaveFlows old l r → Turns turn old new → TurnSteps old l r new
turn_steps (at_left move) old new l r have m =
    let reached = move_reaches move old.left new.left l have.left m.moves in
    record {
      left_flow = reached.0;
      right_flow = r;
      have = record { left = reached.1; right = ap (λ (s : Standing). s.flow) m.right ∙ have.right };
      steps = grind (arith, flat_map-append, append_nil);
    }
turn_steps (at_right move) old new l r have m =
    let reached = move_reaches move old.right new.right r have.right m.moves in
    record {
      left_flow = l;
      right_flow = reached.0;
      have = record { left = ap (λ (s : Standing). s.flow) m.right ∙ have.left; right = reached.1 };
      steps = grind (arith, flat_map-append, append_nil);
    }

agree_turn : (turn : Turn) (old new : LinkPair) (units : ℕ) → Agree old units → Turns turn old new → Agree new units
agree_turn turn old new units a m =
    let t = turn_steps turn old new a.left_flow a.right_flow a.have m in
    let before : Direction = direction a.left_flow old a.right_flow in
    let after : Direction = direction t.left_flow new t.right_flow in
    let class_after = class_turn turn old new true (ap (λ (f : Option Flow). is_some f) a.have.left) a.class m in
    elim t.steps [
      | inl same ↦ grind arith
      | inr made ↦ grind (arith, step_keeps made.0 before after a.known a.in_step made.1, step_window made.0 before after made.1)
    ]

pub agree_turns : (turns : List Turn) (old new : LinkPair) (units : ℕ) → Agree old units → TurnsAlong old turns new → Agree new units
agree_turns [] old new units a e = let P : LinkPair → Type 0 = λ p. Agree p units in subst P (sym e) a
agree_turns (turn ∷ turns) old new units a (mid, first, rest) =
    agree_turns turns mid new units (agree_turn turn old mid units a first) rest

pub agree_begins : (left right : Standing) (l r : Flow) (units : ℕ) → left.flow ≡ Some l → right.flow ≡ Some r →
    l.sender ≡ fresh_sender units → r.receiver ≡ fresh_receiver units → units ≤ 15 → Agree (opened_pair left right) units
agree_begins left right l r units is_l is_r sender receiver small = grind (arith, begins)

pub agree_owed : (p : LinkPair) (units : ℕ) (a : Agree p units) → owed (direction a.left_flow p a.right_flow) ≡ units
agree_owed p units a = a.in_step.owed ∙ a.window
