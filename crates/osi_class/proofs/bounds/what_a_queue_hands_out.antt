-- What was complete before a TSDU was handed out: that TSDU, if there was one, and what is complete afterwards. For the call
-- of a link that takes a unit and then hands a TSDU out.
use Rattle.osi_class.proofs.Vocabulary.{Standing, arith, ◌≡◌, ℕ, List, [], ◌++◌, map, Option, IfNone, option_map, option_to_list, Hands}
use Rattle.osi_class.proofs.Vocabulary.{with_handed, PopsFirst}

-- ---- of a queue

pub popped : {T : Type 0} (f : T → List ℕ) (first : Option T) (old new : List T) → PopsFirst first old new →
    map f old ≡ option_to_list (option_map f first) ++ map f new
popped f h old new h2 = grind arith

pub none_popped : {T : Type 0} (first : Option T) (old new : List T) → PopsFirst first old new → IfNone first (new ≡ [])
none_popped h old new h2 = grind arith

-- ---- of a link

pub handed : (tsdu : Option (List ℕ)) (old new : Standing) → Hands tsdu old new → old ≡ with_handed tsdu new
handed h old new h2 = grind arith

pub none_handed : {T : Type 0} (f : T → List ℕ) (tsdu : Option T) (old new : Standing) → Hands (option_map f tsdu) old new →
    IfNone tsdu (new.ends.joining.whole ≡ [])
none_handed f h old new h2 = grind arith

pub handing : (tsdu : Option (List ℕ)) (new : Standing) → IfNone tsdu (new.ends.joining.whole ≡ []) → Hands tsdu (with_handed tsdu new) new
handing h new h2 = grind arith
