-- The effect of octets that are carried if memory suffices: the calls by which the end is fed and indications are
-- fetched, whatever the pieces, and the entries of the journal.
-- For pairs in the same state.
use Rattle.osi_stack.specs.Calls.{without_first}
use Rattle.osi_stack.specs.Runs.{Call}
use Rattle.osi_pair.proofs.Vocabulary.{◌≡◌, ◌≢◌, ℕ, ◌+◌, ◌-◌, ◌≤◌, List, [], ◌∷◌, ◌++◌, map, take, sum, Option, Some, refl, sym, ap, subst}
use Rattle.osi_pair.proofs.Vocabulary.{◌∙◌, ◌⊎◌, arith, take-take, take-add, drop-drop, flat_map-append, stops_not, feeding, telling}
use Rattle.osi_pair.proofs.Vocabulary.{CallsInRoom, used_in, told_in, carried_in, append-nil, append_assoc, length-take, map-append}
use Rattle.osi_pair.proofs.Vocabulary.{sum_by-cons, flat_map, first_shown, Rows, EndReason, NoMemory, Step, Shown, carried, Holding}
use Rattle.osi_pair.proofs.Vocabulary.{EndLine as Line, Crossing, CarriesPiece, CarriesPieces, crossing, TwoEnds, end_at, reachable}
use Rattle.osi_pair.proofs.Vocabulary.{reach_after, other, StandsAt, ShowsFirst, told_entries, waiting_in, quieted, Side}
use Rattle.osi_pair.proofs.carry.a_carry_is_deliveries.{CarryLaws, SoFar, pieces_stand}
use Rattle.osi_pair.proofs.packet.a_packet_is_one_delivery_or_none.{quiet_of}
use Rattle.osi_pair.proofs.carry.pieces_are_fed_in_turn.{crossed, memory_stands}
use Rattle.osi_pair.proofs.promise.matching_ends_keep_the_promises.{tables_at}
use Rattle.osi_pair.proofs.session.an_end_with_nothing_pending.{quiet_same}
use Rattle.osi_pair.proofs.carry.users_receive_one_after_the_other.{none_waits, next_is}

-- ---- indications are given one after the other

tellings : List (ℕ × Shown) → List Call
tellings shown = map (λ p. telling (Some p)) shown

record IsFirst (lines : Rows Line) (p : ℕ × Shown) (rest : List (ℕ × Shown)) : Type 0 where
  shown : first_shown lines ≡ Some p
  others : waiting_in (without_first lines) ≡ rest
  quiet : quieted (without_first lines) ≡ quieted lines

first_by : (lines : Rows Line) (p : ℕ × Shown) (rest : List (ℕ × Shown)) (o : Option (ℕ × Shown)) → first_shown lines ≡ o →
    waiting_in lines ≡ p ∷ rest → IsFirst lines p rest
first_by lines p rest o e is = grind (arith, none_waits, next_is)

tell_all : (h : Holding) (shown : List (ℕ × Shown)) → waiting_in h.end.lines ≡ shown →
    CallsInRoom h (tellings shown) (record h { end = record h.end { lines = quieted h.end.lines } })
unfolding tellings
tell_all h [] is = ap (λ (l : Rows Line). record h { end = record h.end { lines = l } }) (quiet_same h.end.lines is)
tell_all h (p ∷ rest) is =
    let f = first_by h.end.lines p rest (first_shown h.end.lines) refl is in
    let mid : Holding = record h { end = record h.end { lines = without_first h.end.lines } } in (
      mid,
      (sym f.shown, refl),
      tt,
      subst (λ (l : Rows Line). CallsInRoom mid (tellings rest) (record h { end = record h.end { lines = l } })) f.quiet
          (tell_all mid rest f.others),
    )

-- by which nothing is fed or carried
record TellOnly (shown : List (ℕ × Shown)) : Type 0 where
  used : flat_map used_in (tellings shown) ≡ []
  untaken : flat_map carried_in (tellings shown) ≡ []
  told : flat_map told_in (tellings shown) ≡ shown

tell_only : (shown : List (ℕ × Shown)) → TellOnly shown
unfolding tellings
tell_only [] = record { used = refl; untaken = refl; told = refl }
tell_only (p ∷ rest) = grind (arith, tell_only rest)

-- ---- calls one after the other

room_then : (xs ys : List Call) (old mid new : Holding) → CallsInRoom old xs mid → CallsInRoom mid ys new → CallsInRoom old (xs ++ ys) new
room_then [] ys old mid new h k = subst (λ (x : Holding). CallsInRoom x ys new) h k
room_then (x ∷ xs) ys old mid new h k = (h.0, h.1, h.2, room_then xs ys h.0 mid new h.3 k)

-- This many octets are carried, and there is memory for what they do: what becomes of the end that is fed, of the
-- other, and of the journal.
pub record IsCarried (s : Side) (old : Crossing) (octets : ℕ) (new : Crossing) : Type 0 where
  pub calls : List Call
  pub room : CallsInRoom old.to calls new.to
  pub used : flat_map used_in calls ≡ take octets old.from.end.carrier.outgoing
  pub untaken : flat_map carried_in calls ≡ []
  pub from : new.from ≡ record old.from { end = carried octets old.from.end }
  pub says : new.journal ≡ old.journal ++ told_entries s old.to.end.carrier.ended new.to.end.carrier.ended (flat_map told_in calls)
  pub over : (reason : EndReason) → old.to.end.carrier.ended ≡ Some reason → (new.to ≡ old.to) × (flat_map told_in calls ≡ [])

carried_then : (s : Side) (old mid new : Crossing) (n m : ℕ) → IsCarried s old n mid → IsCarried s mid m new → IsCarried s old (n + m) new
carried_then s old mid new n m h k =
    let out = old.from.end.carrier.outgoing in
    grind (
      arith,
      append-nil,
      append_assoc,
      map-append,
      room_then h.calls k.calls old.to mid.to new.to h.room k.room,
      flat_map-append used_in h.calls k.calls,
      take-add n m out,
      flat_map-append carried_in h.calls k.calls,
      drop-drop m n out,
      flat_map-append told_in h.calls k.calls,
    )

-- ---- a piece

has_room : {D S R M : Type 0} → ((M → ⊥)) → (D ⊎ S) ⊎ (R ⊎ M) → (D ⊎ S) ⊎ R
has_room none h = grind arith

over_told : (old between new : Holding) (first : List (ℕ × Shown)) → between ≡ old → waiting_in old.end.lines ≡ [] →
    ShowsFirst between first new → waiting_in new.end.lines ≡ [] → (new ≡ old) × (first ≡ [])
over_told old between new first same none h quiet = grind (arith, quiet_same, append-nil)

piece_carried : CarryLaws → (f : Side) (q : TwoEnds) (steps : List Step) (most used : ℕ) (new : Crossing) → StandsAt q steps →
    most ≤ reachable f q → CarriesPiece (other f) most (crossing f q) used new → new.to.end.carrier.ended ≢ Some NoMemory →
    waiting_in new.to.end.lines ≡ [] → IsCarried (other f) (crossing f q) used new
piece_carried laws f q steps most used new at le piece memory quiet =
    let s = other f in
    let out = (end_at f q).end.carrier.outgoing in
    let fed = piece.feeds.fed in
    let feeds = piece.feeds.feeds in
    let still = quiet_of s q at.now (tables_at q steps) at.stands in
    let ended : new.to.end.carrier.ended ≡ piece.between.end.carrier.ended = ap (λ (x : Holding). x.end.carrier.ended) piece.shows.rest in
    let bound = feeds.bound in
    let few : used ≤ most = (let uses = piece.feeds.uses in let long = length-take most out in omega arith) in
    record {
      calls = feeding (take most out) fed ∷ tellings piece.first;
      room = (
        piece.between,
        feeds,
        λ goes. has_room (λ none. memory (ended
            ∙ (memory_stands laws f q steps most fed.used piece.between at (stops_not (end_at s q).end goes) le none).named))
            (feeds.goes goes),
        grind (arith, tellings, quiet_same, tell_all, append-nil),
      );
      used = grind (arith, append-nil, take-take, (tell_only piece.first).used);
      untaken = (tell_only piece.first).untaken;
      from = piece.taken;
      says = grind (arith, (tell_only piece.first).told);
      over = grind (arith, over_told, (tell_only piece.first).told);
    }

-- ---- pieces one after the other

-- nothing is pending after them
quiet_behind : (f : Side) (p : TwoEnds) (steps : List Step) (most octets : ℕ) (new : Crossing) → SoFar f p steps most octets new →
    waiting_in new.to.end.lines ≡ []
quiet_behind f p steps most octets new x = grind (arith, crossed, quiet_of, tables_at)

pub pieces_carried : CarryLaws → (f : Side) (p : TwoEnds) (steps : List Step) (most : ℕ) (pieces : List ℕ) (new : Crossing) →
    StandsAt p steps → most ≤ reachable f p → CarriesPieces (other f) most pieces (crossing f p) new →
    new.to.end.carrier.ended ≢ Some NoMemory → IsCarried (other f) (crossing f p) (sum pieces) new
pieces_carried laws f p steps most [] new at le c memory = grind (arith, append-nil)
pieces_carried laws f p steps most (used ∷ before) new at le c memory =
    let s = other f in
    let b = c.0 in
    let x = pieces_stand laws f p steps most before b at le c.1 in
    let y = pieces_stand laws f p steps most (used ∷ before) new at le c in
    let o = reach_after f (sum before) p.reach in
    let q = crossed f b o in
    let twice : crossing f q ≡ b = grind arith in
    let piece : CarriesPiece s (most - sum before) (crossing f q) used new = subst
    (λ (d : Crossing). CarriesPiece s (most - sum before) d used new) (sym twice) c.2 in
    let last : IsCarried s b used new =
    subst (λ (d : Crossing). IsCarried s d used new) twice
    (piece_carried laws f q (steps ++ x.stands.more) (most - sum before) used new x.stands.stands x.left piece memory
    (quiet_behind f p steps most (sum (used ∷ before)) new y)) in
    let first = pieces_carried laws f p steps most before b at le c.1
    (λ over. memory (ap (λ (h : Holding). h.end.carrier.ended) (last.over NoMemory over).0 ∙ over)) in
    let all : sum (used ∷ before) ≡ used + sum before = sum_by-cons (λ n. n) used before in
    let same : sum before + used ≡ sum (used ∷ before) = omega arith in
    subst (λ (n : ℕ). IsCarried s (crossing f p) n new) same (carried_then s (crossing f p) b new (sum before) used first last)
