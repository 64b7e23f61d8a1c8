-- An upper bound on the octets of the units that a link gives.
use Rattle.osi_class.proofs.Vocabulary.{ltb-true, length-take-le, Ends, Flow, drained_by, drained_within, drained, all_given, left_to_give}
use Rattle.osi_class.proofs.Vocabulary.{octets_of, octets_in, parts_needed, octets_in_parts, most_by, most_given, Standing, Given}
use Rattle.osi_class.proofs.Vocabulary.{given_part, next_by, next, sent_flow, Part, give, ◌≡◌, ℕ, zero, suc, ◌+◌, ◌-◌, ◌*◌, ◌<◌, ◌≤◌, true}
use Rattle.osi_class.proofs.Vocabulary.{false, List, [], ◌∷◌, length, take, drop, map, get_or, Option, Some, None, refl, arith, IfSome}
use Rattle.osi_class.proofs.Vocabulary.{length-drop, sum_by-cons}
use Rattle.osi_class.proofs.giving.a_link_gives_finitely_many_units.{giving_leaves}
use Rattle.osi_class.proofs.between.parts_stay_in_order.{choose_some, at_some}
use Rattle.osi_class.proofs.giving.the_units_of_one_tsdu.{more_credit, one_part, parts_cut}

-- one part less
less_parts : (headers limit : ℕ) (tsdu : List ℕ) (more : List (List ℕ)) →
    octets_in_parts headers limit (tsdu ∷ more) ≡ length tsdu + parts_needed limit (length tsdu) * headers + octets_in_parts headers limit
    more
less_parts headers limit tsdu more = sum_by-cons (λ (t : List ℕ). length t + parts_needed limit (length t) * headers) tsdu more

-- the next part, with its headers, and what is left after it make up what was left
abbrev Parts : ℕ → ℕ → List (List ℕ) → Part × List (List ℕ) → Type 0
Parts headers limit unsent (p, rest) =
    (length p.1 + headers + octets_in_parts headers limit rest ≡ octets_in_parts headers limit unsent) × (length p.1 ≤ limit)

cut_parts : (headers limit : ℕ) (t : List ℕ) (more : List (List ℕ)) → 0 < limit → limit < length t →
    Parts headers limit (t ∷ more) ((false, take limit t), drop limit t ∷ more)
cut_parts headers limit t more room longer = grind (arith, length-take-le, length-drop, less_parts, parts_cut)

give_parts : (headers limit : ℕ) → 0 < limit → (unsent : List (List ℕ)) → IfSome (give limit unsent) (Parts headers limit unsent)
give_parts headers limit room unsent = grind (arith, cut_parts, less_parts, one_part)

-- the next unit, with its headers, and what may be given after it are at most what might be given
abbrev Within : ℕ → ℕ → Given × Standing → Type 0
Within headers most (unit, new) = octets_of unit + headers + most_given headers new ≤ most

zero_within : (headers : ℕ) (e : Ends) (o : Option (Part × List (List ℕ))) → IfSome o (Parts headers e.limit e.unsent) →
    IfSome (given_part e None None o) (Within headers (most_by headers e None))
zero_within headers e o parts = grind arith

two_within : (headers : ℕ) (e : Ends) (f : Flow) (o : Option (Part × List (List ℕ))) → IfSome o (Parts headers e.limit e.unsent) →
    0 < f.sender.credit →
    IfSome (given_part e (Some (sent_flow f)) (Some f.sender.next) o) (Within headers (most_by headers e (Some f)))
two_within headers e f o parts some = grind arith

ack_within : (waiting headers more : ℕ) → 0 < waiting → 0 + headers + ((waiting - 1) * headers + more) ≤ waiting * headers + more
ack_within waiting headers more some = let fewer = more_credit waiting headers some in omega (arith, fewer)

next_within : (headers : ℕ) (e : Ends) (flow : Option Flow) → 0 < e.limit →
    IfSome (next_by e flow) (Within headers (most_by headers e flow))
next_within headers e None room = zero_within headers e (give e.limit e.unsent) (give_parts headers e.limit room e.unsent)
next_within headers e (Some f) room = search (arith, choose_some, ack_within, ltb-true, two_within, give_parts)

giving_within : (headers : ℕ) (old new : Standing) (unit : Given) → 0 < old.ends.limit → next old ≡ Some (unit, new) →
    octets_of unit + headers + most_given headers new ≤ most_given headers old
giving_within headers old new unit room e = grind (arith, at_some, next_within headers old.ends old.flow room)

-- what units take with this many octets of headers for each
abbrev With : ℕ → List Given → ℕ → Type 0
With headers units most = octets_in units + length units * headers ≤ most

within_take : (headers n : ℕ) (s : Standing) → 0 < s.ends.limit → With headers (drained_within n s).units (most_given headers s)
within_take headers zero s room = omega arith
within_take headers (suc n) s room =
    elim (next s) as (λ o. next s ≡ o → With headers (drained_by o s (drained_within n)).units (most_given headers s)) [
      | None ↦ λ e. omega arith
      | Some p ↦ λ e. let step = giving_within headers s p.1 p.0 room e in
          let same = (giving_leaves s p.1 p.0 e).limit in
          grind (arith, within_take headers n p.1 (omega arith))
    ] refl

pub all_take : (headers : ℕ) (s : Standing) → 0 < s.ends.limit →
    octets_in (all_given s) + length (all_given s) * headers ≤ most_given headers s
unfolding drained
all_take headers s room = within_take headers (left_to_give s) s room

-- one TSDU and those before it take no more than all
some_at : {V : Type 0} (items : V → List ℕ) (headers limit i : ℕ) (vs : List V) (d : V) → i < length vs →
    octets_in_parts headers limit
    (map items (take i vs)) + (length (items (get_or vs i d)) + parts_needed limit (length (items (get_or vs i d))) * headers)
    ≤ octets_in_parts headers limit (map items vs)
some_at items headers limit i [] d within = absurd (omega arith)
some_at items headers limit zero (v ∷ vs) d within = let all = less_parts headers limit (items v) (map items vs) in omega (arith, all)
some_at items headers limit (suc i) (v ∷ vs) d within = omega (arith, less_parts, some_at items headers limit i vs d (omega arith))

pub some_of_all : {V : Type 0} (items : V → List ℕ) (headers limit i octets : ℕ) (vs : List V) (v : V) → i < length vs → v ≡ get_or vs i v →
    octets ≡ length (items v) →
    octets_in_parts headers limit (map items (take i vs)) + (octets + parts_needed limit octets * headers) ≤ octets_in_parts headers limit
    (map items vs)
some_of_all items headers limit i octets vs v within is size = grind (arith, some_at)
