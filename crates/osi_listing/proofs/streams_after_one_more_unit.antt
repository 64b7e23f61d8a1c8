-- The joins of streams after one more data unit.
use Rattle.osi_listing.proofs.Vocabulary.{arith, ◌≡◌, ℕ, Bool, cond, List, [], ◌∷◌, ◌++◌, Option, Some, None, refl, ◌==◌, filter, Result}
use Rattle.osi_listing.proofs.Vocabulary.{IfOk, OnOk, IfSome, eqb_tells, Part, Join, joined, after_parts, is_same_stream, AreJoins}
use Rattle.osi_listing.specs.Streams.{join_of}

after_parts-push : (join : Join) (parts : List Part) (p : Part) →
    after_parts join (parts ++ p ∷ []) ≡ joined (after_parts join parts) p.end p.octets
after_parts-push join [] p = refl
after_parts-push join (q ∷ parts) p = after_parts-push (joined join q.end q.octets) parts p

filter-push : (f : Part → Bool) (parts : List Part) (p : Part) →
    filter f (parts ++ p ∷ []) ≡ cond (f p) (filter f parts ++ p ∷ []) (filter f parts)
filter-push f [] p = refl
filter-push f (q ∷ parts) p = grind (arith, cond, filter-push f parts p)

-- one more part adds to its own stream, and to no other
pub join_of-push : (stream : Option ℕ) (parts : List Part) (p : Part) →
    join_of stream (parts ++ p ∷ []) ≡ cond (is_same_stream stream p.stream) (joined (join_of stream parts) p.end p.octets)
    (join_of stream parts)
unfolding join_of
join_of-push stream parts p = grind (arith, filter-push, cond, after_parts-push)

pub took_zero : (first last : Join) (others : ℕ → Join) (earlier : List Part) (end : Bool) (octets : List ℕ) →
    last ≡ joined first end octets →
    AreJoins first others earlier → AreJoins last others (earlier ++ record { stream = None; end = end; octets = octets } ∷ [])
took_zero first last others earlier end octets e h = grind (arith, join_of-push)

pub took_two : (first : Join) (others changed : ℕ → Join) (destination : ℕ) (earlier : List Part) (end : Bool) (octets : List ℕ) →
    ((d : ℕ) → changed d ≡ cond (d == destination) (joined (others destination) end octets) (others d)) →
    AreJoins first others earlier →
    AreJoins first changed (earlier ++ record { stream = Some destination; end = end; octets = octets } ∷ [])
took_two first others changed destination earlier end octets e h = grind (arith, join_of-push, eqb_tells)

-- a stream that a part leaves as it was
pub left_as_it_was : (others : ℕ → Join) (destination : ℕ) (end : Bool) (octets : List ℕ) →
    others destination ≡ joined (others destination) end octets →
    (d : ℕ) → others d ≡ cond (d == destination) (joined (others destination) end octets) (others d)
left_as_it_was others destination end octets e d = grind (arith, eqb_tells, cond)

-- what follows if a call has succeeded
pub then_ok : {A E : Type 0} (r : Result A E) (P Q : Type 0) → (P → Q) → IfOk r (λ x. P) → OnOk r Q
then_ok h h2 h3 f h4 = grind arith

-- what follows if there is a value
pub then_some : {A : Type 0} (r : Option A) (P Q : Type 0) → (P → Q) → IfSome r (λ x. P) → IfSome r (λ x. Q)
then_some h h2 h3 f h4 = grind arith
