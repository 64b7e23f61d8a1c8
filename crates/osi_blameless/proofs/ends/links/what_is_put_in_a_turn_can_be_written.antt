-- All units that an end puts in a turn can be written: those of a link since its numbers stay in range from the time when its connection
-- opened, and the others, CRs, CCs, DRs and DCs, as they are.
-- For the law of what a session hands to its link.
use Rattle.osi_blameless.proofs.ends.Vocabulary.{[], arith, Bool, false, List, nat_lt, refl, suc, zero, ℕ, ◌++◌, ◌<◌, ◌∷◌, ◌≡◌}
use Rattle.osi_blameless.proofs.ends.Vocabulary.{eq-eqb, AllByRecursion, Value, Standing, End, AreCalls, Course, Deeds, IsFreshLink}
use Rattle.osi_blameless.proofs.ends.Vocabulary.{then_did}
use Rattle.osi_blameless.proofs.ends.Vocabulary.{is_gone, is_open, closed, all_units, if_of, is_of_link, Marked, units_at, CanBeWritten}
use Rattle.osi_blameless.proofs.ends.Vocabulary.{awaited}
use Rattle.osi_blameless.proofs.ends.Vocabulary.{unknown, never, over}
use Rattle.osi_blameless.proofs.ends.links.units_of_each_connection.{AreAccounted}
use Rattle.osi_blameless.proofs.ends.reading.what_a_link_gives_can_be_written.{IsNumbered, link_opens, moves_written}

-- ---- what was put for one connection

fresh_numbered : (link : Standing) → IsFreshLink link → IsNumbered link.flow
fresh_numbered link fresh = grind (arith, link_opens)

calls_written : (peer : ℕ) (deeds : Deeds) → AreCalls peer deeds → AllByRecursion CanBeWritten deeds.put
calls_written peer deeds c = grind (arith, moves_written peer deeds.calls c.first c.link (fresh_numbered c.first c.fresh) c.along)

course_written : (is_caller : Bool) (r : ℕ) (deeds : Deeds) (e : End) → Course is_caller r deeds e → AllByRecursion CanBeWritten deeds.put
course_written is_caller r deeds e (unknown none side given live lines) = grind arith
course_written is_caller r deeds e (awaited none c terms side lasts given here kept) = grind arith
course_written is_caller r deeds e (is_open given o) = calls_written o.peer deeds o.calls
course_written is_caller r deeds e (is_gone (closed peer calls is session speaks given shut)) = calls_written peer deeds calls
course_written is_caller r deeds e (is_gone (over peer calls heard unheard is session speaks parts none ended)) =
    calls_written peer deeds calls
course_written is_caller r deeds e (is_gone (never none ended)) = grind arith

later_part : (some others : List Value) → AllByRecursion CanBeWritten (some ++ others) → AllByRecursion CanBeWritten others
later_part [] others all = all
later_part (unit ∷ some) others all = later_part some others all.1

-- ---- what was put for all of them

-- of each connection
abbrev CanEach : List Marked → Type 0
CanEach units = (r : ℕ) → 0 < r → AllByRecursion CanBeWritten (units_at r units)

each_more : (m : Marked) (units : List Marked) → CanEach (m ∷ units) → CanEach units
each_more m units each = λ r some. later_part (if_of r m) (units_at r units) (each r some)

one_written : (r : ℕ) (unit : Value) (units : List Marked) → is_of_link unit ≡ nat_lt 0 r → (is_of_link unit ≡ false → CanBeWritten unit) →
    CanEach ((r, unit) ∷ units) → CanBeWritten unit
one_written zero unit units mark plain each = plain mark
one_written (suc n) unit units mark plain each = grind (arith, eq-eqb (suc n) (suc n) refl)

all_written : (units : List Marked) → AreAccounted units → CanEach units → AllByRecursion CanBeWritten (all_units units)
all_written [] all each = tt
all_written (m ∷ units) all each = search (arith, one_written, each_more, all_written units all.1 (each_more m units each))

pub turn_written : (is_caller : Bool) (deeds more : ℕ → Deeds) (e : End) (put : List Marked) →
    ((r : ℕ) → Course is_caller r (then_did (deeds r) (more r)) e) → ((r : ℕ) → 0 < r → (more r).put ≡ units_at r put) →
    AreAccounted put → AllByRecursion CanBeWritten (all_units put)
turn_written is_caller deeds more e put course own accounted =
    all_written put accounted (λ r some.
    grind (arith, later_part, course_written is_caller r (then_did (deeds r) (more r)) e (course r)))
