-- Every link keeps its bounds, its limit and its class.
use Rattle.osi_class.proofs.Vocabulary.{pow-le-pow_right, ltb-false, Value, longest_tsdu, Ends, unit_size, fresh_ends, Flow, Standing}
use Rattle.osi_class.proofs.Vocabulary.{next_by, taken_by, zero_standing, two_standing, fresh_two, Move, hand_in, give_out, take_in}
use Rattle.osi_class.proofs.Vocabulary.{hand_out, Moves, IsSound, IsSoundFlow, TakesInRange, ◌≡◌, ℕ, ◌-◌, ◌^◌, ◌≤◌, length, Option, arith}
use Rattle.osi_class.proofs.Vocabulary.{is_some, IfSome, IfOk, length-append, SizeCode}
use Rattle.osi_tpdu.specs.Value as values
use Rattle.osi_class.proofs.giving.a_link_gives_finitely_many_units.{giving_leaves}
use Rattle.osi_class.proofs.between.parts_stay_in_order.{choose_ok, at_some, at_ok}

-- what a call does to bounds
abbrev Safe : Ends → Option Flow → Standing → Type 0
Safe e flow new = (new.ends.limit ≡ e.limit) × (length new.ends.joining.begun ≤ longest_tsdu) × IfSome new.flow IsSoundFlow ×
    (is_some new.flow ≡ is_some flow)

next_safe : (e : Ends) (flow : Option Flow) → length e.joining.begun ≤ longest_tsdu → IfSome flow IsSoundFlow →
    IfSome (next_by e flow) (λ p. Safe e flow p.1)
next_safe e flow begun sound = grind arith

taken_safe : (e : Ends) (flow : Option Flow) (unit : Value) → length e.joining.begun ≤ longest_tsdu → IfSome flow IsSoundFlow →
    values.HasFieldsInRange unit →
    IfOk (taken_by e flow unit) (Safe e flow)
taken_safe e flow unit begun sound range = search (arith, choose_ok, length-append, ltb-false)

move_safe : (move : Move) (old new : Standing) → length old.ends.joining.begun ≤ longest_tsdu → IfSome old.flow IsSoundFlow →
    TakesInRange move →
    Moves move old new → Safe old.ends old.flow new
move_safe (hand_in tsdu) old new begun sound range e = grind arith
move_safe (give_out unit) old new begun sound range e = grind (arith, at_some, next_safe old.ends old.flow begun sound)
move_safe (take_in unit) old new begun sound range e = grind (arith, at_ok, taken_safe old.ends old.flow unit begun sound range)
move_safe (hand_out tsdu) old new begun sound range e = grind arith

pub move_sound : (move : Move) (old new : Standing) → IsSound old → TakesInRange move → Moves move old new → IsSound new
move_sound move old new h range moves = grind (arith, move_safe)

-- what every call keeps, whatever the bounds
abbrev Same : Ends → Option Flow → Standing → Type 0
Same e flow new = (new.ends.limit ≡ e.limit) × (is_some new.flow ≡ is_some flow)

pub move_same : (move : Move) (old new : Standing) → Moves move old new → Same old.ends old.flow new
move_same move old new e = search (arith, giving_leaves, at_ok)

-- a link begins with these bounds
size_bounds : (n : ℕ) → 7 ≤ n → n ≤ 13 → (128 ≤ 2 ^ n) × (2 ^ n ≤ 8192)
size_bounds n least most = (pow-le-pow_right {n = 2} (omega arith) least, pow-le-pow_right {n = 2} (omega arith) most)

pub zero_begins : (size : Option SizeCode) → IsSound (zero_standing (fresh_ends (unit_size size - 3)))
zero_begins size = grind (arith, size_bounds)

pub two_begins : (size : Option SizeCode) (window credit : ℕ) → 1 ≤ window → window ≤ 15 → credit ≤ 15 →
    IsSound (two_standing (fresh_two (unit_size size) window credit).ends (fresh_two (unit_size size) window credit).flow)
two_begins size window credit some few small = grind (arith, size_bounds)
