-- What a carrier does with a packet, with or without enough memory, or with several, and what its user does, is events of its whole end.
-- For the law of that name.
use Rattle.osi_blameless.proofs.transport.Vocabulary.{arith, [], ap, append_assoc, Err, inl, inr, List, None, Ok, refl, Result, subst, sym}
use Rattle.osi_blameless.proofs.transport.Vocabulary.{ℕ, ◌++◌, ◌∙◌}
use Rattle.osi_blameless.proofs.transport.Vocabulary.{◌∷◌, ◌≡◌, ◌⊎◌, flat_map-append, append-nil, packet_of, units_of, Value, written}
use Rattle.osi_blameless.proofs.transport.Vocabulary.{TpduFault, acts_by}
use Rattle.osi_blameless.proofs.transport.Vocabulary.{RunsOut, react, reacts, breaks, user_does, UserCall, ends, packets, Tpdu, EndReason}
use Rattle.osi_blameless.proofs.transport.Vocabulary.{Fault, NoMemory}
use Rattle.osi_blameless.proofs.transport.Vocabulary.{Direction, units_by, put_by, put_for, arrives, Becomes, calls, HappenAlong}
use Rattle.osi_blameless.proofs.transport.Vocabulary.{MayCall, Whole}
use Rattle.osi_blameless.proofs.transport.Vocabulary.{State, call_written, unit_written}
use Rattle.osi_carrier.specs.Packets.{Acts}
use Rattle.osi_blameless.proofs.transport.what_each_thing_keeps_all_of_them_keep.{along_join}
use Rattle.osi_blameless.proofs.transport.Vocabulary.{Happens}

packets_join : (xs ys : List Value) → packets (xs ++ ys) ≡ packets xs ++ packets ys
packets_join xs ys = flat_map-append (λ (unit : Value). packet_of (written unit)) xs ys

module _ (d : Direction) where
  -- ---- what happens twice, one after the other

  pub becomes_then : (w : Whole) (mid new : State) (a : Becomes d w mid) →
      Becomes d (record w { end = mid; put = w.put ++ a.put; coming = a.coming }) new → Becomes d w new
  becomes_then w mid new a b = record {
    events = a.events ++ b.events;
    put = a.put ++ b.put;
    coming = b.coming;
    along = subst (λ (l : List Value). HappenAlong d w (a.events ++ b.events) (record w { end = new; put = l; coming = b.coming }))
        (append_assoc w.put a.put b.put)
        (along_join (Happens d) a.events b.events w (record w { end = mid; put = w.put ++ a.put; coming = a.coming })
        (record w { end = new; put = (w.put ++ a.put) ++ b.put; coming = b.coming }) a.along b.along);
    outgoing = grind (arith, append_assoc, packets_join);
  }

  becomes_same : (w : Whole) → Becomes d w w.end
  becomes_same w = record {
    events = [];
    put = [];
    coming = w.coming;
    along = ap (λ (l : List Value). record w { put = l }) (append-nil w.put);
    outgoing = sym (append-nil w.end.outgoing);
  }

  -- with what is left to come
  pub same_so : (w : Whole) (later : List Value) → w.coming ≡ later → (b : Becomes d w w.end) × (b.coming ≡ later)
  unfolding becomes_same
  same_so w later e = (becomes_same w, e)

  pub then_so : (A : Type 0) (later : List Value) (w : Whole) (mid new : State) (a : Becomes d w mid)
      (b : Becomes d (record w { end = mid; put = w.put ++ a.put; coming = a.coming }) new) → (A → b.coming ≡ later) →
      (c : Becomes d w new) × (A → c.coming ≡ later)
  unfolding becomes_then
  then_so A later w mid new a b e = (becomes_then w mid new a b, e)

  -- ---- units, and a call

  one_unit : (u : Value) (later : List Value) (w : Whole) → w.coming ≡ u ∷ later →
      (b : Becomes d w (react u w.end)) × (b.coming ≡ later)
  one_unit u later w e = (
    record {
      events = arrives ∷ [];
      put = put_for u w.end;
      coming = later;
      along = (record w { end = react u w.end; put = w.put ++ put_for u w.end; coming = later }, (u, e, refl), refl);
      outgoing = unit_written u w.end;
    },
    refl,
  )

  pub all_units : (units later : List Value) (w : Whole) → w.coming ≡ units ++ later →
      (b : Becomes d w (reacts units w.end)) × (b.coming ≡ later)
  unfolding becomes_same becomes_then
  all_units [] later w e = (becomes_same w, e)
  all_units (u ∷ units) later w e =
      let (first, come) = one_unit u (units ++ later) w e in
      let next : Whole = record w { end = react u w.end; put = w.put ++ first.put; coming = first.coming } in
      let (others, rest) = all_units units later next come in
      (becomes_then w (react u w.end) (reacts (u ∷ units) w.end) first others, rest)

  pub becomes_by_call : (call : UserCall) (w : Whole) → MayCall call w.end → Becomes d w (user_does call w.end)
  becomes_by_call call w may = record {
    events = calls call ∷ [];
    put = put_by call w.end;
    coming = w.coming;
    along = (record w { end = user_does call w.end; put = w.put ++ put_by call w.end }, (may, refl), refl);
    outgoing = call_written call w.end;
  }

  pub call_so : (call : UserCall) (w : Whole) → MayCall call w.end → (b : Becomes d w (user_does call w.end)) × (b.coming ≡ w.coming)
  unfolding becomes_by_call
  call_so call w may = (becomes_by_call call w may, refl)

  pub becomes_over : (reason : EndReason) (w : Whole) → w.end.ended ≡ None → Becomes d w (ends reason w.end)
  becomes_over reason w lasts = grind (arith, becomes_by_call (breaks reason) w tt)

  -- ---- a packet

  runs_out : (units later : List Value) (w : Whole) (new : State) → w.coming ≡ units ++ later → RunsOut w.end units new →
      Becomes d w new
  runs_out units later w new e r =
      let (first, rest) = all_units r.done ((r.next ∷ r.more) ++ later) w
      (e ∙ ap (λ (l : List Value). l ++ later) r.all ∙ append_assoc r.done (r.next ∷ r.more) later) in
      let mid : Whole = record w { end = reacts r.done w.end; put = w.put ++ first.put; coming = first.coming } in
      grind (arith, becomes_then, becomes_over NoMemory mid r.lasts)

  by_memory : (units later : List Value) (w : Whole) (new : State) → w.coming ≡ units ++ later →
      (new ≡ reacts units w.end) ⊎ RunsOut w.end units new → Becomes d w new
  by_memory units later w new e (inl is) = subst (λ (s : State). Becomes d w s) (sym is) (all_units units later w e).0
  by_memory units later w new e (inr r) = runs_out units later w new e r

  pub becomes_by_packet : (octets : List ℕ) (units later : List Value) (w : Whole) (new : State) → Acts w.end octets new →
      units_of octets ≡ Ok units → w.coming ≡ units ++ later → Becomes d w new
  becomes_by_packet octets units later w new h read e = grind (arith, by_memory)

  pub becomes_by_fault : (octets : List ℕ) (fault : TpduFault) (w : Whole) (new : State) → Acts w.end octets new →
      units_of octets ≡ Err fault → w.end.ended ≡ None → Becomes d w new
  becomes_by_fault octets fault w new h read lasts = grind (arith, becomes_over)

  -- ---- packets one after the other

  over_so : (reason : EndReason) (w : Whole) → w.end.ended ≡ None → (b : Becomes d w (ends reason w.end)) × (b.coming ≡ w.coming)
  over_so reason w lasts = (
    record {
      events = calls (breaks reason) ∷ [];
      put = [];
      coming = w.coming;
      along = (
        record w { end = user_does (breaks reason) w.end; put = w.put ++ put_by (breaks reason) w.end },
        (tt, refl),
        ap (λ (s : State). record w { end = s; put = w.put ++ [] }) (sym (grind arith)),
      );
      outgoing = sym (append-nil w.end.outgoing);
    },
    refl,
  )

  pub packet_so : (r : Result (List Value) TpduFault) (later : List Value) (w : Whole) → w.end.ended ≡ None →
      w.coming ≡ units_by r ++ later → (b : Becomes d w (acts_by r w.end)) × (b.coming ≡ later)
  packet_so (Ok units) later w lasts e = all_units units later w e
  packet_so (Err fault) later w lasts e = let (b, same) = over_so (Fault (Tpdu fault)) w lasts in (b, same ∙ e)
