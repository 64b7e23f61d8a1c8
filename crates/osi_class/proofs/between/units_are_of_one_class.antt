-- Between links of one class there are only units of that class.
use Rattle.std.proofs.Common.{arith, ◌≡◌, Bool, List, [], ◌∷◌, ◌++◌, None, sym, subst, is_some}
use Rattle.osi_class.proofs.Vocabulary.{LinkPair, Turn, Turns, TurnsAlong, AreOfClass, opened_pair, AgreeZero, Standing, Given}
use Rattle.osi_class.proofs.bounds.every_link_keeps_its_bounds.{move_same}

behind_them : (b : Bool) (us vs : List Given) → AreOfClass b us → AreOfClass b vs → AreOfClass b (us ++ vs)
behind_them b [] vs first second = second
behind_them b (u ∷ us) vs first second = (first.0, behind_them b us vs first.1 second)

pub class_turn : (turn : Turn) (old new : LinkPair) (b : Bool) → is_some old.left.flow ≡ b → AreOfClass b old.rightward →
    Turns turn old new →
    AreOfClass b new.rightward
class_turn turn old new b is all m = grind (arith, behind_them)

zero_turn : (turn : Turn) (old new : LinkPair) → AgreeZero old → Turns turn old new → AgreeZero new
zero_turn turn old new a m = grind (arith, move_same, class_turn)

pub zero_turns : (turns : List Turn) (old new : LinkPair) → AgreeZero old → TurnsAlong old turns new → AgreeZero new
zero_turns [] old new a e = subst (λ (p : LinkPair). AgreeZero p) (sym e) a
zero_turns (turn ∷ turns) old new a (mid, first, rest) = zero_turns turns mid new (zero_turn turn old mid a first) rest

pub zero_begins : (left right : Standing) → left.flow ≡ None → right.flow ≡ None → AgreeZero (opened_pair left right)
zero_begins left right a b = record { left = a; right = b; class = tt }
