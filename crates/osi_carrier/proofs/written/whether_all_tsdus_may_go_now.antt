-- Whether all units of TSDUs may go now, by the units that a link gives for one TSDU that fills as many.
-- For `may_send`, `room_at_once` and `some_at_once` of links.
use Rattle.osi_carrier.proofs.Vocabulary.{AllGoAtOnce, all_given, octets_in, cases_lt, min, Standing, next, with_tsdu, with_tsdus}
use Rattle.osi_carrier.proofs.Vocabulary.{sum_by-cons, written_for, packets, ◌≡◌, ◌∙◌, ap, ℕ, zero, suc, ◌+◌, ◌*◌, ◌^◌, ◌<◌, ◌≤◌, List, []}
use Rattle.osi_carrier.proofs.Vocabulary.{◌∷◌, length, Option, Some, None, arith, subst, IfSome, IsSome, SomeIff, suc-mul, mul-le}
use Rattle.osi_carrier.proofs.Vocabulary.{goes_whole, more_units, one_part, parts_cut, room_of_class_2, many_at_once, all_take, class_0}
use Rattle.osi_carrier.proofs.Vocabulary.{class_2, Ends, Flow, MayGoAll, octets_in_parts, parts_needed, units_needed, octets_of_tsdus}
use Rattle.osi_carrier.proofs.written.all_that_a_link_gives.{packets_most}

-- ---- one TSDU that fills the units

fewer : (units credit limit : ℕ) → 0 < limit → min (units * limit) (credit * limit) ≡ units * limit → units ≤ credit
fewer units credit limit room e = grind (arith, cases_lt, mul-le)

filled_by : (e : Ends) (flow : Option Flow) (t : List ℕ) (units : ℕ) → 0 < e.limit → next (record { ends = e; flow = flow }) ≡ None →
    0 < units → length t ≡ units * e.limit →
    octets_in (all_given (with_tsdu (record { ends = e; flow = flow }) t)) ≡ units * e.limit → (e.unsent ≡ []) × MayGoAll units flow
filled_by e None t units room quiet some size all = ((class_0 e).0 quiet, tt)
filled_by e (Some f) t units room quiet some size all = grind (arith, fewer, class_2 e f, room_of_class_2 e f t room quiet)

-- they may go if the link gives such a TSDU whole
pub all_may_go : (s : Standing) (t : List ℕ) (units : ℕ) (tsdus : List (List ℕ)) → 0 < s.ends.limit → next s ≡ None → 0 < units →
    length t ≡ units * s.ends.limit → octets_in (all_given (with_tsdu s t)) ≡ units * s.ends.limit →
    units ≡ units_needed s.ends.limit tsdus → AllGoAtOnce s tsdus
all_may_go s t units tsdus room quiet some size all is = grind (arith, filled_by s.ends s.flow t units room quiet some size all)

-- ---- such a TSDU is given whole if they may go

-- a TSDU that fills so many units goes in so many
pub fills : (limit units : ℕ) → 0 < limit → 0 < units → parts_needed limit (units * limit) ≡ units
fills limit zero room some = absurd (omega arith)
fills limit (suc zero) room some = one_part limit (1 * limit) room (omega arith)
fills limit (suc (suc n)) room some = grind (arith, suc-mul, parts_cut, fills limit (suc n) room (omega arith))

pub given_whole : (s : Standing) (t : List ℕ) (units : ℕ) (tsdus : List (List ℕ)) → 0 < s.ends.limit → 0 < units →
    length t ≡ units * s.ends.limit → units ≡ units_needed s.ends.limit tsdus → AllGoAtOnce s tsdus →
    octets_in (all_given (with_tsdu s t)) ≡ length t
given_whole s t units tsdus room some size is go =
    let one = more_units s.ends.limit t [] in
    let same : units_needed s.ends.limit tsdus ≡ units_needed s.ends.limit (t ∷ []) = grind (arith, is, fills, one) in
    (goes_whole s t [] room (record { alone = go.alone; may = subst (λ (n : ℕ). MayGoAll n s.flow) same go.may })).octets

-- ---- their room

pub in_parts : (headers limit : ℕ) (tsdus : List (List ℕ)) →
    octets_in_parts headers limit tsdus ≡ octets_of_tsdus tsdus + units_needed limit tsdus * headers
in_parts headers limit [] = let none : 0 ≡ 0 + 0 * headers = omega arith in none
in_parts headers limit (t ∷ ts) =
    let parts = sum_by-cons (λ (t : List ℕ). length t + parts_needed limit (length t) * headers) t ts in
    let units = ap (λ (n : ℕ). n * headers) (more_units limit t ts) in
    grind (arith, in_parts headers limit ts, parts, sum_by-cons length t ts, units)

pub none_waits : (waiting headers : ℕ) → waiting ≡ 0 → waiting * headers ≡ 0
none_waits waiting headers e = ap (λ (n : ℕ). n * headers) e ∙ (let z : 0 * headers ≡ 0 = omega arith in z)

-- so much room is enough for all of them
pub enough_room : (peer : ℕ) (s : Standing) (tsdus : List (List ℕ)) (units octets headers room : ℕ) → 0 < s.ends.limit → next s ≡ None →
    AllGoAtOnce s tsdus → units ≡ units_needed s.ends.limit tsdus → octets ≡ octets_of_tsdus tsdus → headers ≡ units * 9 →
    room ≡ octets + headers → length (packets (written_for peer s tsdus)) ≤ room
enough_room peer s tsdus units octets headers room some quiet go count size product sum =
    let then = with_tsdus s tsdus in
    grind (arith, many_at_once s tsdus some quiet, packets_most peer (all_given then), all_take 9, in_parts, none_waits)

if_some : {A : Type 0} (o : Option A) (P : A → Type 0) → ((a : A) → o ≡ Some a → P a) → IfSome o P
if_some o P h = grind arith

sum_is : (o : Option ℕ) (P : Type 0) (v a : ℕ) → SomeIff o P v → o ≡ Some a → a ≡ v
sum_is o P v a h e = grind arith

-- of a sum that fits a usize
pub room_of_all : (s : Standing) (tsdus : List (List ℕ)) (units octets headers : ℕ) (o : Option ℕ) (P : Type 0) → 0 < s.ends.limit →
    next s ≡ None → AllGoAtOnce s tsdus → units ≡ units_needed s.ends.limit tsdus → octets ≡ octets_of_tsdus tsdus →
    headers ≡ units * 9 → SomeIff o P (octets + headers) →
    IfSome o (λ room. (peer : ℕ) → length (packets (written_for peer s tsdus)) ≤ room)
room_of_all s tsdus units octets headers o P some quiet go count size product sum = search (arith, if_some, enough_room, sum_is)

-- their sum
pub exact_room : (s : Standing) (tsdus : List (List ℕ)) (units octets headers : ℕ) (o : Option ℕ) (P : Type 0) →
    units ≡ units_needed s.ends.limit tsdus → octets ≡ octets_of_tsdus tsdus → headers ≡ units * 9 → SomeIff o P (octets + headers) →
    IfSome o (λ room. room ≡ octets_in_parts 9 s.ends.limit tsdus)
exact_room s tsdus units octets headers o P count size product sum = grind (arith, in_parts, if_some, sum_is)

-- which is there if it fits a usize
pub some_room : (s : Standing) (tsdus : List (List ℕ)) (units octets headers : ℕ) (o : Option ℕ) →
    units ≡ units_needed s.ends.limit tsdus → octets ≡ octets_of_tsdus tsdus → headers ≡ units * 9 →
    SomeIff o (octets + headers < 2 ^ 64) (octets + headers) → octets_in_parts 9 s.ends.limit tsdus < 2 ^ 64 → IsSome o
some_room s tsdus units octets headers o count size product sum fits = grind (arith, in_parts)

-- and so do their numbers
pub counts_fit : (limit : ℕ) (tsdus : List (List ℕ)) → octets_in_parts 9 limit tsdus < 2 ^ 64 →
    (units_needed limit tsdus * 9 < 2 ^ 64) × (octets_of_tsdus tsdus < 2 ^ 64)
counts_fit limit tsdus fits = grind (arith, in_parts)

pub go_of_all : (s : Standing) (tsdus : List (List ℕ)) (o : Option ℕ) → AllGoAtOnce s tsdus → IfSome o (λ _. AllGoAtOnce s tsdus)
go_of_all s tsdus o go = if_some o (λ _. AllGoAtOnce s tsdus) (λ _ _. go)
