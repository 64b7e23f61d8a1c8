use Rattle.osi_machine.proofs.Vocabulary.{Side, Class, Message, World, Taking, Machine, connection_at, end_of, after_taking, taken_in}
use Rattle.osi_machine.proofs.Vocabulary.{AreApart, ◌≡◌, refl, ℕ, false, List, [], ◌∷◌, Option, is_some, arith}
use Rattle.osi_machine.proofs.basics.what_stands_at_a_reference.{with_other, there_still}
use Rattle.osi_machine.proofs.laws.connections_are_apart.Goals as goal

same_end : (side : Side) (m : Machine) (known : Option Class) → end_of side (record m { known = known }) ≡ end_of side m
same_end side m known = grind arith

taking_other : (m : Machine) (side : Side) (r : ℕ) (keep : ℕ → ℕ) (t : Taking) (k : ℕ) → (k ≡ r → ⊥) → is_some (end_of side m) ≡ false
    → end_of side (after_taking m side r keep t) ≡ end_of side m
    → connection_at k (after_taking m side r keep t).worlds ≡ connection_at k m.worlds
taking_other m side r keep t k n i e = grind (arith, with_other)

taken_other : (m : Machine) (side : Side) (r : ℕ) (keep : ℕ → ℕ) (w : World) (k : ℕ) → (k ≡ r → ⊥) → is_some (end_of side m) ≡ false
    → (ms : List Message)
    → end_of side (taken_in m side r keep w ms) ≡ end_of side m
    → connection_at k (taken_in m side r keep w ms).worlds ≡ connection_at k m.worlds
taken_other m side r keep w k n i [] e = refl
taken_other m side r keep w k n i (x ∷ xs) e = search (arith, taking_other, same_end)

are_apart : (m : Machine) → AreApart m
are_apart m = search (arith, there_still, with_other, taken_other)

pub returns : goal.returns
returns c = are_apart
