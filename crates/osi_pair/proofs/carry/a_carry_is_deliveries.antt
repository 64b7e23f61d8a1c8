-- Two ends still match the machine after octets are carried: what arrives are deliveries, and perhaps an end because
-- memory runs out.
-- For carries, pairs in the same state and the laws of `standing`.
use Rattle.osi_pair.proofs.Vocabulary.{◌≡◌, ℕ, ◌+◌, ◌-◌, ◌≤◌, List, [], ◌∷◌, ◌++◌, sum, min, Option, Some, None, refl, sym, ap, subst, ◌∙◌}
use Rattle.osi_pair.proofs.Vocabulary.{arith, length-drop, sum_by-cons, EndReason, Step, Crossing, CarriesPiece, CarriesPieces, CarriesFrom}
use Rattle.osi_pair.proofs.Vocabulary.{crossing, TwoEnds, end_at, reachable, reach_after, other, StandsAt, StandsAtArrivals, Reach, Side}
use Rattle.osi_pair.proofs.carry.packets_are_taken_in_turn.{alive_deliveries, join_arrivals, no_more}
pub use Rattle.osi_pair.proofs.carry.pieces_are_fed_in_turn.{CarryLaws}
use Rattle.osi_pair.proofs.carry.pieces_are_fed_in_turn.{crossed, within_less, reach_twice, piece_alive, piece_over}

-- two ends after pieces of this many octets
pub record SoFar (f : Side) (p : TwoEnds) (steps : List Step) (most octets : ℕ) (new : Crossing) : Type 0 where
  pub stands : StandsAtArrivals (other f) (crossed f new (reach_after f octets p.reach)) steps
  pub left : most - octets ≤ reachable f (crossed f new (reach_after f octets p.reach))

-- one piece more, at an end that lasts or not
piece_then : CarryLaws → (f : Side) (q : TwoEnds) (steps : List Step) (most used : ℕ) (new : Crossing) (o : Option EndReason) →
    (end_at (other f) q).end.carrier.ended ≡ o → StandsAtArrivals (other f) q steps → most ≤ reachable f q →
    CarriesPiece (other f) most (crossing f q) used new → StandsAtArrivals (other f) (crossed f new (reach_after f used q.reach)) steps
piece_then laws f q steps most used new None e x le c =
    join_arrivals (other f) (crossed f new (reach_after f used q.reach)) steps x.more
    (alive_deliveries (other f) q steps x.more x.stands e x.are)
    (piece_alive laws f q (steps ++ x.more) most used new x.stands e le c)
piece_then laws f q steps most used new (Some why) e x le c =
    grind (arith, piece_over laws f q (steps ++ x.more) most used new why x.stands e le c)

pub pieces_stand : CarryLaws → (f : Side) (p : TwoEnds) (steps : List Step) (most : ℕ) (pieces : List ℕ) (new : Crossing) →
    StandsAt p steps → most ≤ reachable f p → CarriesPieces (other f) most pieces (crossing f p) new → SoFar f p steps most (sum pieces) new
pieces_stand laws f p steps most [] new at le c =
    let same : crossed f new (reach_after f 0 p.reach) ≡ p =
    ap (λ (d : Crossing). crossed f d (reach_after f 0 p.reach)) c ∙ (grind arith) in
    record {
      stands = no_more (other f) (crossed f new (reach_after f 0 p.reach)) steps (subst (λ (q : TwoEnds). StandsAt q steps) (sym same) at);
      left = let there : reachable f (crossed f new (reach_after f 0 p.reach)) ≡ reachable f p = ap (reachable f) same in omega arith;
    }
pieces_stand laws f p steps most (used ∷ before) new at le c =
    let b = c.0 in
    let x = pieces_stand laws f p steps most before b at le c.1 in
    let o = reach_after f (sum before) p.reach in
    let q = crossed f b o in
    let left = x.left in
    let twice : crossing f q ≡ b = grind arith in
    let piece : CarriesPiece (other f) (most - sum before) (crossing f q) used new =
    subst (λ (d : Crossing). CarriesPiece (other f) (most - sum before) d used new) (sym twice) c.2 in
    let y = piece_then laws f q steps (most - sum before) used new (end_at (other f) q).end.carrier.ended refl x.stands left piece in
    let all : sum (used ∷ before) ≡ used + sum before = sum_by-cons (λ n. n) used before in
    let reach : reach_after f used q.reach ≡ reach_after f (sum (used ∷ before)) p.reach =
    ap (reach_after f used) (grind arith) ∙ reach_twice f (sum before) used (sum (used ∷ before)) p.reach (omega arith) in
    record {
      stands = subst (λ (r : Option Reach). StandsAtArrivals (other f) (crossed f new r) steps) reach y;
      left = let there : reachable f (crossed f new (reach_after f (sum (used ∷ before)) p.reach)) ≡ reachable f q - used =
          ap (λ (r : Option Reach). reachable f (crossed f new r)) (sym reach) ∙ (grind (arith, length-drop, within_less)) in
          omega arith;
    }

-- The carry: two ends then match the machine with what arrived at the other side.
pub carries_stand : CarryLaws → (f : Side) (most : ℕ) (p : TwoEnds) (octets : ℕ) (new : TwoEnds) (steps : List Step) → StandsAt p steps →
    CarriesFrom f most p octets new → StandsAtArrivals (other f) new steps
carries_stand laws f most p octets new steps at c =
    let x = pieces_stand laws f p steps (min most (reachable f p)) c.way.pieces (crossing f new) at (omega arith) c.way.each in
    let same : crossed f (crossing f new) (reach_after f (sum c.way.pieces) p.reach) ≡ new =
    ap (λ (n : ℕ). crossed f (crossing f new) (reach_after f n p.reach)) (sym c.way.length) ∙ ap (crossed f (crossing f new)) (sym c.reach)
    ∙ (grind arith) in
    subst (λ (q : TwoEnds). StandsAtArrivals (other f) q steps) same x.stands
