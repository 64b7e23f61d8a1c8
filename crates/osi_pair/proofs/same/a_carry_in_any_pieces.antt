-- Two carries of equally many octets, between pairs of ends in the same state, lead to the same state if memory
-- suffices, however the octets are cut into pieces.
-- For pairs in the same state and the laws of `standing`.
use Rattle.osi_stack.specs.Runs.{Call, AreAlike}
use Rattle.osi_pair.proofs.Vocabulary.{◌≡◌, ℕ, ◌<◌, ◌^◌, List, [], ◌∷◌, min, Option, Some, None, refl, sym, ap, subst, ◌⊎◌, inl, inr, arith}
use Rattle.osi_pair.proofs.Vocabulary.{PacketLaws, in_room, pieces_end, calls_read, pieces_alike, feeding, telling, carrying, Calls}
use Rattle.osi_pair.proofs.Vocabulary.{CallsInRoom, HasRoom, used_in, told_in, carried_in, empty_partial, completed_partial}
use Rattle.osi_pair.proofs.Vocabulary.{partial_not_whole, one_packet, one_list, IsSameEnd, AreSameEnds, FoundMemory, append-nil, flat_map}
use Rattle.osi_pair.proofs.Vocabulary.{EndReason, IsPartial, RunsDry, StopsBehind, Refuses, End, Holding, Crossing, CarriesFrom, crossing}
use Rattle.osi_pair.proofs.Vocabulary.{TwoEnds, end_at, reachable, other, IsReached, waiting_in, Side}
use Rattle.osi_pair.proofs.carry.a_carry_with_enough_memory.{IsCarried, pieces_carried}
use Rattle.osi_pair.proofs.carry.a_carry_is_deliveries.{CarryLaws, carries_stand}
use Rattle.osi_pair.proofs.packet.a_packet_is_one_delivery_or_none.{quiet_of}
use Rattle.osi_pair.proofs.promise.matching_ends_keep_the_promises.{tables_at}
use Rattle.osi_pair.proofs.session.an_end_with_nothing_pending.{quiet_same}

-- ---- both sides

pub same_at : (s : Side) (p q : TwoEnds) → AreSameEnds p q → IsSameEnd (end_at s p) (end_at s q)
same_at s p q h = grind arith

pub same_moved : (a b c d : Holding) → IsSameEnd a b → c ≡ a → d ≡ b → IsSameEnd c d
same_moved a b c d h e f = subst (λ (x : Holding). IsSameEnd x d) (sym e) (subst (λ (x : Holding). IsSameEnd a x) (sym f) h)

-- ---- room affects nothing else

-- an end without its room and its fault
abbrev plain : Holding → Holding
plain h = record h { held = record h.held { fault = None; room = 0 } }

made : End → ℕ → List ℕ → Holding
made e offset octets = record { end = e; held = record { offset = offset; octets = octets; fault = None; room = 0 } }

plain_goes : (old new : Holding) (piece : List ℕ) (used : ℕ) →
    (RunsDry old piece used new ⊎ StopsBehind old piece used new) ⊎ Refuses old piece used new →
    (RunsDry (plain old) piece used (plain new) ⊎ StopsBehind (plain old) piece used (plain new))
    ⊎ Refuses (plain old) piece used (plain new)
plain_goes old new piece used (inl (inl d)) = grind arith
plain_goes old new piece used (inl (inr d)) = grind arith
plain_goes old new piece used (inr d) = inr (search arith)

plain_call : (call : Call) (old new : Holding) → Calls old call new → HasRoom old call new → Calls (plain old) call (plain new)
plain_call (feeding piece fed) old new h room = record {
  over = λ over. let done = h.over over in (done.0, ap plain done.1);
  waiting = λ lasts waits. let done = h.waiting lasts waits in (done.0, ap plain done.1);
  goes = λ goes. (let done = plain_goes old new piece fed.used (room goes) in grind arith);
  whole = h.whole;
  bound = h.bound;
  progress = h.progress;
}
plain_call (telling shown) old new h room = (h.0, ap plain h.1)
plain_call (carrying octets) old new h room = ap plain h

plain_room : (call : Call) (old new : Holding) → HasRoom old call new → HasRoom (plain old) call (plain new)
plain_room (feeding piece fed) old new room = λ goes. plain_goes old new piece fed.used (room goes)
plain_room call old new room = tt

plain_calls : (calls : List Call) (old new : Holding) → CallsInRoom old calls new → CallsInRoom (plain old) calls (plain new)
plain_calls [] old new h = ap plain h
plain_calls (call ∷ calls) old new h = search (arith, plain_call, plain_room, plain_calls calls h.0 new h.3)

-- ---- the end that is fed

packet_laws : PacketLaws
packet_laws = record { one = one_packet; front = completed_partial; proper = partial_not_whole }

-- alike, and if both last at the same place of the stream
record AreOne (a : Holding) (xs : List Call) (b : Holding) (ys : List Call) : Type 0 where
  alike : AreAlike a xs b ys
  offset : a.end.carrier.ended ≡ None → a.held.offset ≡ b.held.offset

one_by : (h a b : Holding) (xs ys : List Call) (o m : Option EndReason) → a.end.carrier.ended ≡ o → b.end.carrier.ended ≡ m →
    IsPartial h.held.octets → h.held.offset < 2 ^ 64 → h.end.carrier.ended ≡ None → CallsInRoom h xs a → CallsInRoom h ys b →
    flat_map used_in xs ≡ flat_map used_in ys → AreOne a xs b ys
one_by h a b xs ys None None e f partial bound alive x y used =
    let both = pieces_alike empty_partial one_list h a b xs ys partial bound (in_room h xs a x) (in_room h ys b y) used e f in
    record { alike = both.0; offset = λ lasts. both.1 }
one_by h a b xs ys (Some reason) m e f partial bound alive x y used = record {
  alike = (pieces_end packet_laws empty_partial h a b xs ys partial bound alive x y used (λ lasts. absurd (cc))).0;
  offset = λ lasts. absurd (cc);
}
one_by h a b xs ys None (Some reason) e f partial bound alive x y used =
    let back = (pieces_end packet_laws empty_partial h b a ys xs partial bound alive y x (sym used) (λ lasts. absurd (cc))).0 in
    grind arith

-- if nothing is pending and nothing was carried, what is alike is the same
hushed_same : (a b : Holding) (xs ys : List Call) → AreAlike a xs b ys → flat_map carried_in xs ≡ [] → flat_map carried_in ys ≡ [] →
    waiting_in a.end.lines ≡ [] → waiting_in b.end.lines ≡ [] → a.end ≡ b.end
hushed_same a b xs ys h none none_too quiet still = grind (arith, quiet_same)

told_same : (a b : Holding) (xs ys : List Call) → AreAlike a xs b ys → waiting_in a.end.lines ≡ [] → waiting_in b.end.lines ≡ [] →
    flat_map told_in xs ≡ flat_map told_in ys
told_same a b xs ys h quiet still = grind (arith, append-nil)

counted_by : (h a : Holding) (xs : List Call) → h.held.offset < 2 ^ 64 → CallsInRoom h xs a → a.end.carrier.ended ≡ None →
    a.held.offset < 2 ^ 64
counted_by h a xs bound x lasts = grind (arith, calls_read, empty_partial, in_room)

-- what two carries did to the end that is fed
record IsFedOnce (a b : Holding) (xs ys : List Call) : Type 0 where
  same : IsSameEnd a b
  told : flat_map told_in xs ≡ flat_map told_in ys

fed_by : (s : Side) (p q a b : Crossing) (n : ℕ) (o : Option EndReason) → p.to.end.carrier.ended ≡ o → IsSameEnd p.to q.to →
    p.from.end ≡ q.from.end → IsPartial p.to.held.octets → (x : IsCarried s p n a) → (y : IsCarried s q n b) →
    waiting_in a.to.end.lines ≡ [] → waiting_in b.to.end.lines ≡ [] → IsFedOnce a.to b.to x.calls y.calls
fed_by s p q a b n (Some reason) e same from partial x y quiet still = grind (arith, same_moved)
fed_by s p q a b n None e same from partial x y quiet still =
    let h = plain p.to in
    let used : flat_map used_in x.calls ≡ flat_map used_in y.calls = grind arith in
    let here = plain_calls x.calls p.to a.to x.room in
    let there = subst (λ (z : Holding). CallsInRoom z y.calls (plain b.to)) (sym (grind (arith, made)))
    (plain_calls y.calls q.to b.to y.room) in
    let bound : p.to.held.offset < 2 ^ 64 = same.counted e in
    let one = one_by h (plain a.to) (plain b.to) x.calls y.calls a.to.end.carrier.ended b.to.end.carrier.ended refl refl partial bound e
    here there used in
    grind (
      arith,
      hushed_same (plain a.to) (plain b.to) x.calls y.calls one.alike x.untaken y.untaken quiet still,
      counted_by h (plain a.to) x.calls bound here,
      told_same (plain a.to) (plain b.to) x.calls y.calls one.alike quiet still,
    )

-- ---- a carry

-- octets were carried, and two ends match the machine if nothing is pending
carried_at : CarryLaws → (f : Side) (most : ℕ) (p new : TwoEnds) (octets : ℕ) → IsReached p → CarriesFrom f most p octets new →
    FoundMemory new → IsCarried (other f) (crossing f p) octets (crossing f new)
carried_at laws f most p new octets at c memory =
    subst (λ (n : ℕ). IsCarried (other f) (crossing f p) n (crossing f new)) (sym c.way.length)
    (pieces_carried laws f p at.steps (min most (reachable f p)) c.way.pieces (crossing f new) at.stands (omega arith) c.way.each
    (memory (other f)))

quiet_then : CarryLaws → (f : Side) (most : ℕ) (p new : TwoEnds) (octets : ℕ) → IsReached p → CarriesFrom f most p octets new →
    waiting_in (end_at (other f) new).end.lines ≡ []
quiet_then laws f most p new octets at c = grind (arith, quiet_of, tables_at, carries_stand laws f most p octets new at.steps at.stands c)

pub same_carry : CarryLaws → (f : Side) (most : ℕ) (p q a b : TwoEnds) (octets : ℕ) → IsReached p → IsReached q → AreSameEnds p q →
    CarriesFrom f most p octets a → CarriesFrom f most q octets b → FoundMemory a → FoundMemory b → AreSameEnds a b
same_carry laws f most p q a b octets at there same c d found found_too =
    let s = other f in
    let x = carried_at laws f most p a octets at c found in
    let y = carried_at laws f most q b octets there d found_too in
    let own = same_at f p q same in
    let fed = fed_by s (crossing f p) (crossing f q) (crossing f a) (crossing f b) octets (end_at s p).end.carrier.ended refl
    (same_at s p q same) own.end (at.held s) x y
    (quiet_then laws f most p a octets at c) (quiet_then laws f most q b octets there d) in
    grind arith
