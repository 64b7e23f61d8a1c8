-- How many units of TSDUs may go now if not all may, by the units that a link gives for one TSDU that fills as many.
-- For `some_at_once`, `send_parts`, `send_some` and `write_pieces` of links.
use Rattle.osi_carrier.proofs.Vocabulary.{AllGoAtOnce, all_given, drained_leaves, octets_in, one_by_one, min, Standing, next, with_tsdu}
use Rattle.osi_carrier.proofs.Vocabulary.{with_tsdus, packets, pumped, written_for, ◌≡◌, ℕ, ◌+◌, ◌*◌, ◌^◌, ◌<◌, ◌≤◌, List, [], ◌∷◌, length}
use Rattle.osi_carrier.proofs.Vocabulary.{arith, Option, Some, None, drained_ends, goes_whole, more_units, room_of_class_0, room_of_class_2}
use Rattle.osi_carrier.proofs.Vocabulary.{many_at_once, all_take, class_2, Ends, Flow, most_given, units_needed, octets_of_tsdus, SomeGo}
use Rattle.osi_carrier.proofs.written.all_that_a_link_gives.{packets_most}
use Rattle.osi_carrier.proofs.written.what_is_left_after_some_units.{drained_left}
use Rattle.osi_carrier.proofs.written.whether_all_tsdus_may_go_now.{fills, in_parts, none_waits}

-- ---- one TSDU

-- nothing is left if all octets are given in some units
pub whole_goes : (s : Standing) (t : List ℕ) → 0 < s.ends.limit → next s ≡ None → s.ends.unsent ≡ [] →
    0 < length (all_given (with_tsdu s t)) → octets_in (all_given (with_tsdu s t)) ≡ length t → (pumped (with_tsdu s t)).ends.unsent ≡ []
whole_goes s t room quiet alone some all =
    (goes_whole s t [] room (record { alone = alone; may = (grind (arith, class_2, room_of_class_2, more_units)) })).others.alone

-- nothing is left of TSDUs that all go
pub none_left : (s : Standing) (ts : List (List ℕ)) → 0 < s.ends.limit → AllGoAtOnce s ts → (one_by_one s ts).ends.unsent ≡ []
none_left s [] room go = go.alone
none_left s (t ∷ ts) room go =
    none_left (pumped (with_tsdu s t)) ts (grind (arith, drained_leaves, room)) (goes_whole s t ts room go).others

-- the link gives no more after all of them
pub gives_no_more : (s : Standing) (ts : List (List ℕ)) → 0 < s.ends.limit → next s ≡ None → next (one_by_one s ts) ≡ None
gives_no_more s ts room quiet = grind (arith, many_at_once s ts room quiet, drained_ends (with_tsdus s ts) room)

-- ---- some and not all

-- so many units of TSDUs are sent, which are not all, in so much room
pub record GoInPart (s : Standing) (units : ℕ) (ts : List (List ℕ)) : Type 0 where
  pub go : SomeGo s units ts
  pub room : most_given 9 (with_tsdus s ts) ≤ min (octets_of_tsdus ts + units_needed s.ends.limit ts * 9) (units * (s.ends.limit + 9))

part_by : (e : Ends) (flow : Option Flow) (t : List ℕ) (ts : List (List ℕ)) (n : ℕ) → 0 < e.limit →
    next (record { ends = e; flow = flow }) ≡ None → 0 < units_needed e.limit ts → length t ≡ units_needed e.limit ts * e.limit →
    n ≡ length (all_given (with_tsdu (record { ends = e; flow = flow }) t)) → 0 < n → (n ≡ units_needed e.limit ts → ⊥) →
    octets_of_tsdus ts < 2 ^ 64 → GoInPart (record { ends = e; flow = flow }) n ts
part_by e None t ts n room quiet needs size given some not_all counted = grind (arith, room_of_class_0, fills)
part_by e (Some f) t ts n room quiet needs size given some not_all counted =
    let s : Standing = record { ends = e; flow = Some f } in
    grind (
      arith,
      drained_left,
      none_waits,
      class_2 e f,
      room_of_class_2 e f t room quiet,
      fills e.limit (units_needed e.limit ts) room needs,
      many_at_once s ts room quiet,
      in_parts 9 e.limit ts,
    )

pub go_in_part : (s : Standing) (t : List ℕ) (ts : List (List ℕ)) (n : ℕ) → 0 < s.ends.limit → next s ≡ None →
    0 < units_needed s.ends.limit ts → length t ≡ units_needed s.ends.limit ts * s.ends.limit →
    n ≡ length (all_given (with_tsdu s t)) → 0 < n → (n ≡ units_needed s.ends.limit ts → ⊥) →
    octets_of_tsdus ts < 2 ^ 64 → GoInPart s n ts
go_in_part s t ts n room quiet needs size given some not_all counted =
    part_by s.ends s.flow t ts n room quiet needs size given some not_all counted

-- there is room for them
pub enough_for_some : (peer : ℕ) (s : Standing) (ts : List (List ℕ)) (n sum most all_room : ℕ) → 0 < s.ends.limit →
    next s ≡ None → GoInPart s n ts → sum ≡ octets_of_tsdus ts + units_needed s.ends.limit ts * 9 → most ≡ n * (s.ends.limit + 9) →
    all_room ≡ min sum most → length (packets (written_for peer s ts)) ≤ all_room
enough_for_some peer s ts n sum most all_room room quiet part sum_is most_is is =
    let then = with_tsdus s ts in
    grind (arith, many_at_once s ts room quiet, packets_most peer (all_given then), all_take 9)
