-- No TSDU between two links becomes too long to be taken.
use Rattle.std.proofs.Common.{◌≡◌, ℕ, ◌+◌, Bool, true, false, List, [], ◌∷◌, ◌++◌, length, Ok, arith, length-append, append_assoc}
use Rattle.osi_class.proofs.Vocabulary.{flat_map, AllByRecursion, append_cancel_left, map-append, LinkPair, Turn, TurnsAlong, left_in}
use Rattle.osi_class.proofs.Vocabulary.{parts_under_way, under_way, HasWholeTsdus, IsShortTsdu, with_part, joined, Part, tsdus_after, uncut}
use Rattle.osi_class.proofs.between.parts_stay_in_order.{append_nil}
use Rattle.osi_class.proofs.between.tsdus_come_in_order.{whole_kept}

all_behind : (xs ys : List (List ℕ)) → AllByRecursion IsShortTsdu (xs ++ ys) → AllByRecursion IsShortTsdu ys
all_behind [] ys all = all
all_behind (x ∷ xs) ys all = all_behind xs ys all.1

all_both : (xs ys : List (List ℕ)) → AllByRecursion IsShortTsdu xs → AllByRecursion IsShortTsdu ys → AllByRecursion IsShortTsdu (xs ++ ys)
all_both [] ys a b = b
all_both (x ∷ xs) ys a b = (a.0, all_both xs ys a.1 b)

-- the last of these parts ends its TSDU
abbrev pub End : List ℕ → List Part → Type 0
End begun parts = (t : List ℕ) → tsdus_after begun (parts ++ (true, t) ∷ []) ≡ tsdus_after begun parts ++ t ∷ []

begun_short : (parts : List Part) (begun : List ℕ) → End begun parts → AllByRecursion IsShortTsdu (tsdus_after begun parts) →
    IsShortTsdu begun
begun_short [] begun ends all = grind (arith, append_nil begun)
begun_short ((false, octets) ∷ parts) begun ends all = omega (arith, length-append {A = ℕ}, begun_short parts (begun ++ octets) ends all)
begun_short ((true, octets) ∷ parts) begun ends all = omega (arith, length-append {A = ℕ})

-- all that is in flight, as parts
abbrev pub pending : LinkPair → List Part
pending p = parts_under_way p.rightward ++ uncut p.left.ends.unsent

pub pending_end : (p : LinkPair) → HasWholeTsdus p → End p.right.ends.joining.begun (pending p)
pending_end p whole t =
    let j = p.right.ends.joining in
    let ps = parts_under_way p.rightward in
    let unsent = p.left.ends.unsent in
    let cut : uncut (unsent ++ t ∷ []) ≡ uncut unsent ++ (true, t) ∷ [] = map-append (λ (x : List ℕ). (true, x)) unsent (t ∷ []) in
    grind (arith, append_assoc, append_nil, append_cancel_left)

pub not_too_long : (p : LinkPair) (end : Bool) (octets : List ℕ) (rest : List Part) → HasWholeTsdus p →
    AllByRecursion IsShortTsdu (under_way p) →
    parts_under_way p.rightward ≡ (end, octets) ∷ rest →
    joined p.right.ends.joining end octets ≡ Ok (with_part p.right.ends.joining end octets)
not_too_long p end octets rest whole all first =
    grind (arith, all_behind, begun_short, length-append, pending_end p whole, append_nil p.left.ends.unsent)

pub stays_short : (old new : LinkPair) (turns : List Turn) → HasWholeTsdus old → AllByRecursion IsShortTsdu (under_way old) →
    AllByRecursion IsShortTsdu (flat_map left_in turns) → TurnsAlong old turns new → AllByRecursion IsShortTsdu (under_way new)
stays_short old new turns whole all handed run = grind (arith, all_behind, whole_kept, all_both)
