-- A part of a TSDU that is given at once, of which the link keeps nothing.
use Rattle.osi_class.proofs.Vocabulary.{min, le-ltb, leb-true, length-take-le, take_all, Ends, Flow, GoesAtOnce, GivesPart, with_rest}
use Rattle.osi_class.proofs.Vocabulary.{Standing, part0, part2, next, sent_flow, with_tsdu, zero_standing, two_standing, ◌≡◌, ℕ, ◌<◌, true}
use Rattle.osi_class.proofs.Vocabulary.{false, List, [], length, take, drop, None, arith, nat_lt, leb, length-drop}
use Rattle.osi_class.proofs.giving.when_nothing_is_given.{class_0, class_2}

pub some_rest : (s : Standing) (rest : List ℕ) → 0 < length rest → with_rest s rest ≡ with_tsdu s rest
some_rest s rest h = grind arith

pub part_of_class_0 : (e : Ends) (t : List ℕ) (n : ℕ) → n ≡ min e.limit (length t) → e.unsent ≡ [] →
    GivesPart (part0 (leb (length t) e.limit) (take n t)) t (zero_standing e) (zero_standing e)
part_of_class_0 e t n is alone = grind (arith, leb, leb-true, le-ltb, take_all, length-drop, length-take-le, some_rest, class_0)

pub part_of_class_2 : (e : Ends) (f : Flow) (t : List ℕ) (n : ℕ) → n ≡ min e.limit (length t) → e.unsent ≡ [] →
    nat_lt 0 f.receiver.waiting ≡ false → nat_lt 0 f.sender.credit ≡ true →
    GivesPart (part2 f.sender.next (leb (length t) e.limit) (take n t)) t (two_standing e f) (two_standing e (sent_flow f))
part_of_class_2 e f t n is alone quiet credit = grind (arith, leb-true, le-ltb, take_all, length-drop, length-take-le, some_rest)

pub goes_at_once : (s : Standing) (t : List ℕ) → next s ≡ None → (next (with_tsdu s t) ≡ None → ⊥) → GoesAtOnce s
goes_at_once s t none some = grind (arith, class_0, class_2)
