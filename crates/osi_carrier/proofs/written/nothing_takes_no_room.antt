-- The units of a link that gives none take no room.
-- For `send_all_on` of links: TSDUs that only wait need no memory.
use Rattle.osi_carrier.proofs.Vocabulary.{Standing, next, ◌≡◌, ℕ, None, arith, class_0, class_2, most_given}

pub nothing_takes_no_room : (headers : ℕ) (s : Standing) → next s ≡ None → most_given headers s ≡ 0
nothing_takes_no_room headers s none = grind (arith, class_0, class_2)
