-- The contents of a group of a unit, which are counted once.
use Rattle.osi_spdu.proofs.Vocabulary.{is_some, flat_map, or_cases, or_left, or_right, length-append, Code, ConnectionIdentifier}
use Rattle.osi_spdu.proofs.Vocabulary.{ConnectAcceptItem, Kind, Two, is_same, is_group, number_of, codes_of, category_of, Known, Contents}
use Rattle.osi_spdu.proofs.Vocabulary.{Units, AreBehind, held, AreHeld, among, group_octets, parameter_octets, body_octets, ◌≡◌, ℕ, zero}
use Rattle.osi_spdu.proofs.Vocabulary.{suc, ◌<◌, ◌≤◌, true, List, [], ◌∷◌, length, get_or, Option, subst, arith, GroupLengths}
use Rattle.osi_spdu.proofs.basics.the_steps_of_reading.{same_true, same_refl}

-- a piece is no longer than all pieces
piece_within : (f : Code → List ℕ) (codes : List Code) (c : Code) → among codes c ≡ true → length (f c) ≤ length (flat_map f codes)
piece_within f [] c there = absurd cc
piece_within f (d ∷ codes) c there = grind (arith, length-append, or_cases, same_true, piece_within f codes c)

held_within : (kind : Kind) (known : Known) (c : Code) (o : Option (List ℕ)) → is_group c ≡ true → is_some o ≡ true →
    length (group_octets kind known c) ≤ length (parameter_octets kind known c o)
held_within kind known c o h0 h1 = grind arith

-- what a group holds is no longer than all parameters and groups of its unit
pub group_within : (kind : Kind) (known : Known) (c : Code) → among (codes_of kind) c ≡ true → is_group c ≡ true →
    is_some (known c) ≡ true → length (group_octets kind known c) ≤ length (body_octets kind known)
unfolding body_octets
group_within kind known c knows group there =
    let h = held_within kind known c (known c) group there in
    let p = piece_within (λ (d : Code). parameter_octets kind known d (known d)) (codes_of kind) c knows in
    omega arith

-- the code at a place is one of the codes
pub among_at : (codes : List Code) (i : ℕ) (c : Code) → i < length codes → among codes (get_or codes i c) ≡ true
among_at [] i c lt = absurd (omega arith)
among_at (d ∷ codes) zero c lt = or_left (is_same d d) (among codes d) (same_refl d)
among_at (d ∷ codes) (suc i) c lt = grind (arith, or_right, among_at codes i c (omega arith))

-- both groups are counted
pub both_held : (lens : GroupLengths) (known : Known)
    → (among (codes_of lens.kind) ConnectionIdentifier ≡ true → is_some (known ConnectionIdentifier) ≡ true →
    lens.connection_identifier ≡ length (group_octets lens.kind known ConnectionIdentifier))
    → (among (codes_of lens.kind) ConnectAcceptItem ≡ true → is_some (known ConnectAcceptItem) ≡ true →
    lens.connect_accept_item ≡ length (group_octets lens.kind known ConnectAcceptItem))
    → AreHeld lens known
unfolding held is_group
both_held lens known first second h knows group there = grind arith

no_group : (kind : Kind) (c : Code) → category_of kind ≡ Two → is_group c ≡ true → among (codes_of kind) c ≡ true → ⊥
unfolding is_group category_of codes_of number_of
no_group kind c h0 h1 h2 = grind arith

pub none_held : (lens : GroupLengths) → category_of lens.kind ≡ Two → (known : Known) → AreHeld lens known
none_held lens two known c knows group there = absurd (no_group lens.kind c two group knows)

-- a unit after another is of category 2
pub next_two : (units others : Units) (unit : Contents) → units ≡ unit ∷ others → AreBehind units → category_of unit.kind ≡ Two
next_two units others unit e behind = (let h : AreBehind (unit ∷ others) = subst AreBehind e behind in h.0)
