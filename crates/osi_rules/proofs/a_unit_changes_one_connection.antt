-- A unit changes the connection at the place that is told of it, and no other: for the law of that name. By the way that
-- the unit takes: to no connection, to one at a place, or to a new one.
use Rattle.osi_rules.proofs.Vocabulary.{◌≡◌, ◌≢◌, ℕ, ◌<◌, zero, suc, Bool, List, [], ◌∷◌, ◌++◌, length, set, arith, Option, Some, refl}
use Rattle.osi_rules.proofs.Vocabulary.{if◌then◌else◌, slice_get, Value, Connect, Connection, Direction, Finding, NotJudged, Route, State}
use Rattle.osi_rules.proofs.Vocabulary.{Outcome, none_told, at_found, at_place, asks_kept, asks_by, asks_of, routed, route, is_stopped}
use Rattle.osi_rules.proofs.Vocabulary.{takes}

get_other : {X : Type 0} (xs : List X) (i p : ℕ) (x : X) → Some p ≢ Some i → slice_get (set xs p x) i ≡ slice_get xs i
get_other [] i p x h = refl
get_other (y ∷ ys) zero zero x h = absurd (h refl)
get_other (y ∷ ys) zero (suc p) x h = refl
get_other (y ∷ ys) (suc i) zero x h = refl
get_other (y ∷ ys) (suc i) (suc p) x h =
    let other : Some p ≢ Some i = λ e. h (cc) in
    get_other ys i p x other

get_before : {X : Type 0} (xs : List X) (x : X) (i : ℕ) → i < length xs → slice_get (xs ++ x ∷ []) i ≡ slice_get xs i
get_before [] x i h = absurd (omega arith)
get_before (y ∷ ys) x zero h = refl
get_before (y ∷ ys) x (suc i) h = get_before ys x i (omega arith)

abbrev LeavesOthers : State → Outcome → Type 0
LeavesOthers s o = (i : ℕ) → i < length s.connections → o.told.place ≢ Some i → slice_get o.state.connections i ≡ slice_get s.connections i

at_one : (d : Direction) (v : Value) (s : State) (p : ℕ) (c : Option Connection) → LeavesOthers s (at_found d v s p c)
at_one d v s p c i within other = grind (arith, get_other)

at_any : (d : Direction) (v : Value) (s : State) (p : Option ℕ) → LeavesOthers s (at_place d v s p)
at_any d v s p i within other = grind (arith, at_one)

asked : (c : Connect) (s : State) (p : Option ℕ) → LeavesOthers s (asks_kept c s p)
asked c s p i within other = grind (arith, get_before, get_other)

asking : (d : Direction) (f : Finding) (c : Connect) (s : State) → LeavesOthers s (asks_by d f c s)
asking d f c s i within other = grind (arith, asked)

asks : (d : Direction) (v : Value) (s : State) → LeavesOthers s (asks_of d v s)
asks d v s i within other = grind (arith, asking)

by_route : (d : Direction) (v : Value) (s : State) (r : Route) → LeavesOthers s (routed d v s r)
by_route d v s r i within other = grind (arith, asks, at_any)

if_judged : (b : Bool) (d : Direction) (v : Value) (s : State) (r : Route) →
    LeavesOthers s (if b then none_told d NotJudged s else routed d v s r)
if_judged b d v s r i within other = grind (arith, by_route)

pub others_stay : (d : Direction) (v : Value) (s : State) (i : ℕ) → i < length s.connections → (takes d v s).told.place ≢ Some i →
    slice_get (takes d v s).state.connections i ≡ slice_get s.connections i
others_stay d v s i within other = if_judged (is_stopped d s.course) d v s (route d s.course v) i within other
