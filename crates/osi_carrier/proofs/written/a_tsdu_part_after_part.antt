-- Writing a TSDU straight from its octets, part after part, and keeping what may not be sent yet.
use Rattle.osi_carrier.proofs.Vocabulary.{Drained, drained, all_given, octets_of, octets_in, GoesAtOnce, GivesPart, with_rest, Standing}
use Rattle.osi_carrier.proofs.Vocabulary.{Given, next, unit_of, with_tsdu, drained_none, drained_some, pumped, written_by, packets}
use Rattle.osi_carrier.proofs.Vocabulary.{append-nil, ◌≡◌, ℕ, ◌+◌, ◌<◌, ◌≤◌, Bool, List, [], ◌∷◌, ◌++◌, length, drop, None, refl, sym, ap}
use Rattle.osi_carrier.proofs.Vocabulary.{◌∙◌, subst, append_assoc, length-append, arith, drop-append-add, drop-drop, goes_at_once}
use Rattle.osi_carrier.proofs.Vocabulary.{some_rest, left_of, LeavesRest}
use Rattle.osi_carrier.proofs.written.all_that_a_link_gives.{IsPumping, pumping_next, pumping_room}

-- what is left of a TSDU is sent now, except for what is kept
pub record Goes (link : Standing) (rest kept : List ℕ) : Type 0 where
  pub quiet : next link ≡ None
  pub alone : link.ends.unsent ≡ []
  pub left : kept ≡ drop (octets_in (all_given (with_tsdu link rest))) rest

-- some parts of a TSDU were written, and there is room for the others that may be sent
pub record IsParting (peer : ℕ) (first : Standing) (before : List ℕ) (link : Standing) (rest kept octets : List ℕ) (spare : ℕ) : Type
    0 where
  pub goes : Goes link rest kept
  pub pumping : IsPumping peer first before (with_tsdu link rest) octets
  pub room : length (packets (written_by peer (with_tsdu link rest))) ≤ spare

pub parting_first : (peer : ℕ) (link : Standing) (tsdu kept before : List ℕ) (spare : ℕ) → Goes link tsdu kept →
    length (packets (written_by peer (with_tsdu link tsdu))) ≤ spare →
    IsParting peer (with_tsdu link tsdu) before link tsdu kept before spare
parting_first peer link tsdu kept before spare goes room = grind (arith, append-nil)

-- a part of it may be given if any may
pub part_goes : (link : Standing) (rest : List ℕ) → next link ≡ None → 0 < length (all_given (with_tsdu link rest)) → GoesAtOnce link
part_goes link rest quiet some = grind (arith, goes_at_once, drained_none)

pub nothing_goes : (link : Standing) (rest : List ℕ) → next link ≡ None → (GoesAtOnce link → ⊥) → next (with_tsdu link rest) ≡ None
nothing_goes link rest quiet never = grind (arith, goes_at_once)

-- what is left of two pieces after this many octets is left of the second
pub left_behind : (head body rest : List ℕ) (octets n : ℕ) → length head + n ≡ octets → rest ≡ drop n body →
    rest ≡ drop octets (head ++ body)
left_behind head body rest octets n is e = e ∙ sym (drop-append-add head body n) ∙ ap (λ (m : ℕ). drop m (head ++ body)) is

-- what the link gives then, from the part on
pub parts_from : (link new : Standing) (rest : List ℕ) (unit : Given) → 0 < link.ends.limit → GivesPart unit rest link new →
    drained (with_tsdu link rest)
    ≡ record {
      units = unit ∷ (drained (with_rest new (drop (octets_of unit) rest))).units;
      link = (drained (with_rest new (drop (octets_of unit) rest))).link;
    }
parts_from link new rest unit room part = search (arith, drained_some)

-- there is room for its next part if there is room for all
pub part_room : (peer : ℕ) (link new : Standing) (rest : List ℕ) (unit : Given) → 0 < link.ends.limit → GivesPart unit rest link new →
    length (packets (unit_of peer unit ∷ [])) ≤ length (packets (written_by peer (with_tsdu link rest)))
part_room peer link new rest unit room part = grind (arith, pumping_room, parts_from link new rest unit room part)

pub empty_list : (l : List ℕ) → length l ≡ 0 → l ≡ []
empty_list [] h = refl
empty_list (x ∷ l) h = absurd (omega arith)

-- what was written makes the octets longer
pub put_length : (octets after unit : List ℕ) → after ≡ octets ++ unit → length after ≡ length octets + length unit
put_length octets after unit e = ap length e ∙ length-append octets unit

-- the part was written
pub parting_next : (peer : ℕ) (first link new : Standing) (before rest kept octets after : List ℕ) (unit : Given) (spare left : ℕ) →
    IsParting peer first before link rest kept octets spare → 0 < link.ends.limit → GivesPart unit rest link new → new.ends.unsent ≡ [] →
    after ≡ octets ++ packets (unit_of peer unit ∷ []) → spare ≤ left + length (packets (unit_of peer unit ∷ [])) →
    0 < length (drop (octets_of unit) rest) → IsParting peer first before new (drop (octets_of unit) rest) kept after left
parting_next peer first link new before rest kept octets after unit spare left h room part alone put took some =
    grind (arith, pumping_next, pumping_room, parts_from link new rest unit room part, parts_from, some_rest, drop-drop)

-- the last part was written
pub record IsWhole (peer : ℕ) (first : Standing) (before : List ℕ) (now : Standing) (octets : List ℕ) : Type 0 where
  pub link : now ≡ pumped first
  pub written : octets ≡ before ++ packets (written_by peer first)

pub parting_last : (peer : ℕ) (first link new : Standing) (before rest kept octets after : List ℕ) (unit : Given) (spare : ℕ) →
    IsParting peer first before link rest kept octets spare → 0 < link.ends.limit → GivesPart unit rest link new →
    after ≡ octets ++ packets (unit_of peer unit ∷ []) → drop (octets_of unit) rest ≡ [] → IsWhole peer first before new after
parting_last peer first link new before rest kept octets after unit spare h room part put none =
    let behind = drop (octets_of unit) rest in
    let step = parts_from link new rest unit room part in
    let more = pumping_next peer first (with_tsdu link rest) (with_rest new behind) before octets after unit h.pumping step put in
    let all = subst (λ (r : List ℕ). IsPumping peer first before (with_rest new r) after) none more in
    search (arith, drained_none, append-nil)

-- no more parts may be sent, and what is left is kept
pub record IsKept (peer : ℕ) (first : Standing) (before : List ℕ) (now : Standing) (octets : List ℕ) : Type 0 where
  pub whole : IsWhole peer first before now octets
  pub quiet : next now ≡ None

pub parting_kept : (peer : ℕ) (first link now : Standing) (before rest kept octets : List ℕ) (spare : ℕ) →
    IsParting peer first before link rest kept octets spare → (GoesAtOnce link → ⊥) → now ≡ with_tsdu link kept →
    IsKept peer first before now octets
parting_kept peer first link now before rest kept octets spare h never is =
    let then = with_tsdu link rest in
    let none = nothing_goes link rest h.goes.quiet never in
    let end = drained_none then none in
    let all : kept ≡ rest = h.goes.left ∙ ap (λ (d : Drained). drop (octets_in d.units) rest) end in
    search (arith, append-nil)

-- the first part was written, which ends before these octets
pub parting_then : (peer : ℕ) (link new : Standing) (tsdu rest kept before after : List ℕ) (unit : Given) (spare left : ℕ) →
    Goes link tsdu kept →
    length (packets (written_by peer (with_tsdu link tsdu))) ≤ spare → 0 < link.ends.limit → GivesPart unit tsdu link new →
    new.ends.unsent ≡ [] →
    drop (octets_of unit) tsdu ≡ rest → after ≡ before ++ packets (unit_of peer unit ∷ []) →
    spare ≤ left + length (packets (unit_of peer unit ∷ [])) →
    0 < length rest → IsParting peer (with_tsdu link tsdu) before new rest kept after left
parting_then peer link new tsdu rest kept before after unit spare left goes room limit part alone behind put took some =
    subst (λ (r : List ℕ). IsParting peer (with_tsdu link tsdu) before new r kept after left) behind
    (parting_next peer (with_tsdu link tsdu) link new before tsdu kept before after unit spare left
    (parting_first peer link tsdu kept before spare goes room) limit
    part alone put took (subst (λ (r : List ℕ). 0 < length r) (sym behind) some))

-- and then all others
pub parting_all : (peer : ℕ) (first link last : Standing) (before rest kept octets after : List ℕ) (spare : ℕ) →
    IsParting peer first before link rest kept octets spare →
    last ≡ pumped (with_tsdu link rest) → after ≡ octets ++ packets (written_by peer (with_tsdu link rest)) →
    IsWhole peer first before last after
parting_all peer first link last before rest kept octets after spare h e put = grind (arith, append_assoc)

-- what is left after the others is left after all
pub leaves_behind : (b : Bool) (old then new : Standing) (tsdu rest : List ℕ) →
    pumped (with_tsdu then rest) ≡ pumped (with_tsdu old tsdu) →
    left_of old tsdu ≡ left_of then rest → LeavesRest b then rest new → LeavesRest b old tsdu new
leaves_behind b old then new tsdu rest link left h = grind arith

not_empty : (xs : List (List ℕ)) (x : List ℕ) → xs ++ x ∷ [] ≡ [] → ⊥
not_empty [] x e = cc
not_empty (y ∷ ys) x e = cc

-- nothing is left to be handed in if the link keeps nothing
pub leaves_nothing : (b : Bool) (old new : Standing) (tsdu : List ℕ) → LeavesRest b old tsdu new →
    (pumped (with_tsdu old tsdu)).ends.unsent ≡ [] → new ≡ pumped (with_tsdu old tsdu)
leaves_nothing b old new tsdu h none = grind (arith, not_empty)
