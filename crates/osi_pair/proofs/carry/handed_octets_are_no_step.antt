-- Handing over octets of a side to the other is no step of the machine.
-- For carries.
use Rattle.osi_pair.proofs.Vocabulary.{◌≡◌, ℕ, ◌≤◌, Bool, true, List, ◌++◌, length, take, Option, is_some, option_map, ap, subst, ◌∙◌}
use Rattle.osi_pair.proofs.Vocabulary.{arith, ◌<◌, length-take, Held, Between, Both, AreBetween, Same, arriving, handed_over, progress_of}
use Rattle.osi_pair.proofs.Vocabulary.{Terms, Step, Seat, Tables, carried, TwoEnds, end_at, with_end, reachable, reach_after, other}
use Rattle.osi_pair.proofs.Vocabulary.{is_caller, carriers_of, IsSeated, IsUnderWay, Stands, StandsAt, HasJoined, HasLine, Reach, Side}
use Rattle.osi_pair.proofs.Vocabulary.{Left, Right}
use Rattle.osi_pair.proofs.turn.what_remains_when_a_unit_was_taken.{terms_at}
use Rattle.osi_pair.proofs.flight.what_is_in_flight_when_an_end_acts.{way_same}
use Rattle.osi_pair.proofs.flight.whether_something_is_cut_off.{Lasts}
use Rattle.osi_pair.proofs.turn.what_an_acting_end_leaves_in_flight.{StandsOn}
use Rattle.osi_pair.proofs.promise.matching_ends_keep_the_promises.{tables_at}

-- ---- what an end holds

abbrev pub with_held : Side → Held → TwoEnds → TwoEnds
with_held s h p = with_end s (record (end_at s p) { held = h }) p

-- ---- octets are handed over

-- this many of a side, and the other end holds this then
abbrev pub handed : Side → ℕ → Held → TwoEnds → TwoEnds
handed f k h p = record (with_end f (record (end_at f p) { end = carried k (end_at f p).end }) (with_held (other f) h p)) {
  reach = reach_after f k p.reach;
}

-- what it holds if it lasts
abbrev pub HoldsMore : Side → ℕ → Held → TwoEnds → Type 0
HoldsMore f k h p = Lasts (other f) p → h.octets ≡ (end_at (other f) p).held.octets ++ take k (end_at f p).end.carrier.outgoing

abbrev pub CarriedLaw : Type 0
CarriedLaw = (terms : Terms) (end : Bool) (both : Both) (b : Between) (k : ℕ) → AreBetween terms both b → k ≤ length (arriving end both) →
    Same terms both (handed_over end k both) b

abbrev reach_in : Option Reach → Option (ℕ × ℕ)
reach_in o = option_map (λ (r : Reach). (r.left, r.right)) o

seat_handed : (f s : Side) (n k : ℕ) (h : Held) (p : TwoEnds) (seat : Seat) → IsSeated n (end_at s p) seat →
    IsSeated n (end_at s (handed f k h p)) seat
seat_handed f s n k h p seat i = grind arith

-- ---- how far octets reach

-- what arrives is what can be carried
pub arriving_count : (f : Side) (p : TwoEnds) → length (arriving (is_caller f) (carriers_of p)) ≡ reachable f p
arriving_count Left p = grind (arith, length-take)
arriving_count Right p = grind (arith, length-take)

-- ---- two ends

-- what is in flight from a side
way_handed : (f s : Side) (n k : ℕ) (h : Held) (p : TwoEnds) (b : Between) (from to : Seat) →
    (same : Same (terms_at p) (carriers_of p) (handed_over (is_caller f) k (carriers_of p)) b) → IsUnderWay s (other s) n p b from to →
    IsUnderWay s (other s) n (handed f k h p) same.now from to
way_handed f s n k h p b from to same w =
    way_same _ _ _ _ _ _ (HasJoined n (end_at (other s) p)) (HasJoined n (end_at (other s) (handed f k h p))) _ _ _ _
    (grind arith) (ap progress_of (same.stays (is_caller (other s)) n)) (grind arith) (grind arith)
    (same.under (is_caller s) n ∙ (grind arith)) w

-- it does not matter what an end holds that has ended
between_handed : (f : Side) (p : TwoEnds) (k : ℕ) (h : Held) (now : Between) →
    AreBetween (terms_at p) (record (handed_over (is_caller f) k (carriers_of p)) { reach = reach_in (reach_after f k p.reach) }) now →
    HoldsMore f k h p → AreBetween (terms_at (handed f k h p)) (carriers_of (handed f k h p)) now
between_handed Left p k h now there more = grind arith
between_handed Right p k h now there more = grind arith

stands_handed : CarriedLaw → (f : Side) (p : TwoEnds) (b : Between) (t : Tables) (k : ℕ) (h : Held) → Stands p b t →
    k ≤ length (arriving (is_caller f) (carriers_of p)) → HoldsMore f k h p → StandsOn (handed f k h p) t
stands_handed law f p b t k h old le more =
    let same = law (terms_at p) (is_caller f) (carriers_of p) b k old.between le in
    let new = handed f k h p in
    let between = between_handed f p k h same.now
    (subst (λ (r : Option (ℕ × ℕ)). AreBetween (terms_at p) (record (handed_over (is_caller f) k (carriers_of p)) { reach = r }) same.now)
    (grind arith) same.between) more in
    let broken : t.broken ≡ is_some new.reach = grind (arith, old.broken) in
    let given_then = same.given true ∙ old.given_then in
    let class_then = same.class true ∙ old.class_then in
    let lines : (n : ℕ) → 0 < n → n ≤ length t.lines → HasLine n new same.now t = λ n a c.
    let was = old.lines n a c in
    record {
      line = was.line;
      found = was.found;
      is = record {
        left = seat_handed f Left n k h p was.line.own was.is.left;
        right = seat_handed f Right n k h p was.line.peer was.is.right;
        rightward = way_handed f Left n k h p b was.line.own was.line.peer same was.is.rightward;
        leftward = way_handed f Right n k h p b was.line.peer was.line.own same was.is.leftward;
      };
    } in
    let stands : Stands new same.now t = grind arith in
    record { now = same.now; stands = stands }

-- ---- at a list of steps

pub handed_at : CarriedLaw → (f : Side) (p : TwoEnds) (steps : List Step) (k : ℕ) (h : Held) → StandsAt p steps → k ≤ reachable f p →
    HoldsMore f k h p → StandsAt (handed f k h p) steps
handed_at law f p steps k h at le more =
    let few = arriving_count f p in
    let x = stands_handed law f p at.now (tables_at p steps) k h at.stands (omega arith) more in
    record { numbered = at.numbered; now = x.now; stands = (grind (arith, x.stands)) }
