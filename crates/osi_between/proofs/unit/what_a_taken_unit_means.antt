-- What the units mean that an end takes.
-- For connections of class 2, class 0 and the invariant.
use Rattle.osi_between.proofs.Vocabulary.{◌≡◌, ℕ, Bool, true, List, [], ◌∷◌, map, take, Option, Some, Ok, arith, AllByRecursion}
use Rattle.osi_between.proofs.Vocabulary.{Standing, Given, taken, unit_of, drained_leaves, pumped, handed_out, Connection, linked, closing}
use Rattle.osi_between.proofs.Vocabulary.{Message, message, messages_after, begun_at, AreLike, Progress, in_use, shutting, may_arrive}
use Rattle.osi_between.proofs.Vocabulary.{behind_arrivals, behind_puts, Brings, sym, ◌∙◌}
use Rattle.osi_between.proofs.unit.units_are_read_as_messages.{lacks_one, led_none}

pub same_like : (o : Option Connection) (some others : List Message) → some ≡ others → AreLike o some others
same_like (Some (closing peer)) some others e = record { lacking = []; is = e ∙ sym (led_none others) }
same_like o some others e = e

-- ---- nothing is taken

pub brings_none : (accepts : Bool) (from to : Progress) (old new : Option Connection) (put : List Message) → begun_at new ≡ begun_at old →
    to ≡ behind_puts from put → Brings accepts from to old new [] [] put
brings_none accepts from to old new put same is = grind (arith, same_like)

-- ---- a unit of a link is taken

pub brings_given : (n : ℕ) (g : Given) (link next : Standing) → link.ends.joining.whole ≡ [] → taken link (unit_of n g) ≡ Ok next →
    Brings true in_use in_use (Some (linked n link)) (Some (linked n (pumped (handed_out next)))) (unit_of n g ∷ [])
    (map message (take 1 next.ends.joining.whole)) []
brings_given n g link next none e = search (arith, drained_leaves)

-- ---- a closing connection ignores it

ignored_may : (n : ℕ) (g : Given) → AllByRecursion (λ m. may_arrive shutting m ≡ true) (messages_after [] (unit_of n g ∷ []))
ignored_may n g = grind arith

ignored_stay : (n : ℕ) (g : Given) → shutting ≡ behind_arrivals true shutting (messages_after [] (unit_of n g ∷ []))
ignored_stay n g = grind arith

pub brings_ignored : (n : ℕ) (g : Given) →
    Brings true shutting shutting (Some (closing n)) (Some (closing n)) (unit_of n g ∷ []) (messages_after [] (unit_of n g ∷ [])) []
brings_ignored n g = search (arith, lacks_one, ignored_may, ignored_stay)
