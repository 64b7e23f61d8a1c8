-- The caller requests a connection; two new carriers are joined; and if no unit is in flight, no message is.
-- For joined carriers, class 0, the invariant and the laws.
use Rattle.osi_between.proofs.Vocabulary.{◌≡◌, ℕ, ◌+◌, ◌<◌, Bool, true, false, List, [], ◌∷◌, length, Option, Some, None, refl, sym, ap}
use Rattle.osi_between.proofs.Vocabulary.{◌∙◌, inr, arith, if◌then◌else◌, lt-ltb, Value, LinkPair, swapped, Standing, Given, Local}
use Rattle.osi_between.proofs.Vocabulary.{quiet_unsent, nothing_begun, references, fresh_state, may_connect, asks, Place, never, was_given}
use Rattle.osi_between.proofs.Vocabulary.{place_at, value_at, linked, State, free_of, orderly_asks, orderly_fresh, live_after, Course}
use Rattle.osi_between.proofs.Vocabulary.{unasked, met, at_end, from_end, IsTsap, Holds, AreJoined, Did, under_way_for, IsEmpty, talking}
use Rattle.osi_between.proofs.Vocabulary.{addressed, ask, AreOpen, CourseMoves, IsOrderly}
use Rattle.osi_between.proofs.meeting.how_a_connection_is_opened.{asks_moves}
use Rattle.osi_between.proofs.joined.a_request_finds_a_place.{no_more_live}
use Rattle.osi_between.proofs.joined.joined_carriers_stay_joined.{within_given, given_live, did}
use Rattle.osi_between.proofs.meeting.a_connection_after_each_unit_and_call.{open_mirror}

-- ---- a connection is requested

pub next_never : (s : State) (n : ℕ) → s.given < n → place_at n s ≡ never
next_never s n above = ap (λ (b : Bool). if◌then◌else◌ {A = Place} b never (was_given (value_at n s.live))) (lt-ltb s.given n above)

asks_by : (s r : State) (g : Course) (calling called : Option (List ℕ)) → IsOrderly s → s.given < 65535 →
    s.local.class2 ≡ true → IsTsap calling → IsTsap called → never ≡ at_end true (s.given + 1) g →
    CourseMoves true (s.given + 1) g s r (asks calling called s) [] 1 (ask ∷ [])
asks_by s r unasked calling called orderly left supports fits fits_called at =
    asks_moves s r calling called orderly left supports fits fits_called
asks_by s r g calling called orderly left supports fits fits_called at = cc

pub caller_asks : (s r : State) (going coming : List Value) (calling called : Option (List ℕ)) → AreJoined s r going coming →
    may_connect s ≡ None → IsTsap calling → IsTsap called →
    Did true (s.given + 1) s r (asks calling called s) going coming coming (ask ∷ [])
caller_asks s r going coming calling called j may fits fits_called =
    let some : 0 < s.given + 1 = omega arith in
    let st = j.stands (s.given + 1) some in
    let free = free_of s may in
    let mv = asks_by s r st.course calling called j.orderly free.left j.supports fits fits_called
    (sym (next_never s (s.given + 1) (omega arith)) ∙ st.place) in
    let less = no_more_live s r going coming j in
    let room : length (live_after (references r.live) going) < 64 = omega arith in
    did true s r (asks calling called s) going coming coming [] (ask ∷ []) (s.given + 1) 1 some j st refl tt
    (orderly_asks calling called s may j.orderly) mv (grind arith)

-- ---- the beginning

pub fresh_joined : (caller called : Local) → caller.class2 ≡ true → called.class2 ≡ true →
    AreJoined (fresh_state true caller) (fresh_state false called) [] []
fresh_joined caller called a b = grind (arith, orderly_fresh)

-- ---- nothing is in flight

pub none_addressed : (n : ℕ) (gs : List Given) → addressed n gs ≡ [] → gs ≡ []
none_addressed n [] e = refl
none_addressed n (g ∷ gs) e = cc

still_unsent : (p : LinkPair) → AreOpen true p → p.rightward ≡ [] → p.leftward ≡ [] → p.left.ends.unsent ≡ []
still_unsent p a rightward leftward = quiet_unsent p (inr (a.agree.window, a.agree.some, a.agree.agree)) (grind arith)

still_links : (p : LinkPair) → AreOpen true p → p.rightward ≡ [] → p.leftward ≡ [] → IsEmpty p.left p.right
still_links p a rightward leftward =
    grind (arith, nothing_begun, still_unsent p a rightward leftward, still_unsent (swapped p) (open_mirror true p a) leftward rightward)

still_by : (n : ℕ) (s r : State) (called : Local) (g : Course) (x y : Standing) → at_end true n g ≡ was_given (Some (linked n x)) →
    at_end false n g ≡ was_given (Some (linked n y)) → from_end true n called g ≡ [] → from_end false n called g ≡ [] → Holds n s r g →
    IsEmpty x y
still_by n s r called (met (talking p)) x y a b out back h =
    grind (arith, still_links p h.stands (none_addressed n p.rightward out) (none_addressed n p.leftward back))
still_by n s r called g x y a b out back h = cc

pub still : (s r : State) (n : ℕ) (x y : Standing) → AreJoined s r [] [] → value_at n s.live ≡ Some (linked n x) →
    value_at n r.live ≡ Some (linked n y) → IsEmpty x y
still s r n x y j at at_there =
    let within = within_given n s (linked n x) j.orderly at in
    let st = j.stands n within.0 in
    still_by n s r r.local st.course x y (sym st.place ∙ given_live n s (linked n x) j.orderly at)
    (sym st.place_there ∙ given_live n r (linked n y) j.orderly_called at_there)
    (sym st.out) (sym st.back) st.holds

-- then nothing is in flight either
pub still_messages : (s r : State) (n : ℕ) (x y : Standing) → AreJoined s r [] [] → value_at n s.live ≡ Some (linked n x) →
    value_at n r.live ≡ Some (linked n y) → (under_way_for n s r [] ≡ []) × (under_way_for n r s [] ≡ [])
still_messages s r n x y j at at_there = grind (arith, still, given_live)
