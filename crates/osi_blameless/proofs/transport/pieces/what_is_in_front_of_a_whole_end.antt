-- The events of a whole end are the same with reported events and sent octets in front: as it takes units and packets, as its user
-- makes a call, and as it ends. For the law on packets.
use Rattle.osi_blameless.proofs.transport.Vocabulary.{arith, [], ap, append_assoc, List, None, Ok, refl, subst, suc, sym, ℕ, ◌++◌, ◌∙◌, ◌∷◌}
use Rattle.osi_blameless.proofs.transport.Vocabulary.{◌≡◌}
use Rattle.osi_blameless.proofs.transport.Vocabulary.{AllByRecursion, IsOctets, IsPacket, units_fit, units_found, units_only}
use Rattle.osi_blameless.proofs.transport.Vocabulary.{written_spells, units_of}
use Rattle.osi_blameless.proofs.transport.Vocabulary.{Value, Fits, written, apart_all, Happening, acts_by, RunsOut, TakesPackets, react}
use Rattle.osi_blameless.proofs.transport.Vocabulary.{reacts, arrived}
use Rattle.osi_blameless.proofs.transport.Vocabulary.{put_back, user, user_does, UserCall, ends, EndReason, NoMemory, Direction, units_by}
use Rattle.osi_blameless.proofs.transport.Vocabulary.{units_in}
use Rattle.osi_blameless.proofs.transport.Vocabulary.{Becomes, MayCall, Whole, State}
unfoldable use Rattle.osi_carrier.specs.Packets.{after_packet}
use Rattle.osi_blameless.proofs.transport.pieces.a_packet_is_events.{all_units, becomes_over, becomes_then, call_so, packet_so, same_so}
use Rattle.osi_blameless.proofs.transport.pieces.a_packet_is_events.{then_so}
use Rattle.osi_blameless.proofs.transport.small_facts_that_many_lemmas_use.{none_of, or_left}

-- with these in front the end comes to this state; unless it ends, this is left to come
abbrev pub Comes : Direction → List Happening → List ℕ → Whole → State → List Value → Type 0
Comes d e o w s later = (b : Becomes d w (put_back e o s)) × (s.ended ≡ None → b.coming ≡ later)

all_first : (xs ys : List Value) → AllByRecursion Fits (xs ++ ys) → AllByRecursion Fits xs
all_first [] ys h = tt
all_first (x ∷ xs) ys (one, more) = (one, all_first xs ys more)

-- the octets of a packet's unit
unit_octets : (u b : List ℕ) → IsPacket u b → IsOctets u
unit_octets u b p i = subst IsOctets p.spelled p.octets (suc (suc (suc (suc i))))

pub units_in_range : (u b : List ℕ) (units : List Value) → IsPacket u b → units_of u ≡ Ok units → AllByRecursion Fits units
units_in_range u b units p read = units_fit units u (units_found u units (unit_octets u b p) read)

module _ (d : Direction) (e : List Happening) (o : List ℕ) where
  pub all_come : (w : Whole) (s : State) (later : List Value) → (b : Becomes d w (put_back e o s)) × (b.coming ≡ later) →
      Comes d e o w s later
  all_come w s later (b, come) = (b, λ lasts. come)

  pub none_come : (w : Whole) (reason : EndReason) (s : State) (later : List Value) → Becomes d w (put_back e o (ends reason s)) →
      Comes d e o w (ends reason s) later
  none_come w reason s later b = (b, λ lasts. absurd (cc lasts))

  -- ---- the effects are the same

  front_packet : (p : List ℕ) (s : State) → after_packet (put_back e o s) p ≡ put_back e o (after_packet s p)
  front_packet p s = apart_all e o (arrived p ∷ []) s

  -- a unit that can be written is a packet
  front_unit : (u : Value) (s : State) → Fits u → react u (put_back e o s) ≡ put_back e o (react u s)
  unfolding after_packet
  front_unit u s fits =
      grind (arith, units_only (written u) (u ∷ []) (written_spells u fits), written_spells u fits, front_packet (written u) s)

  front_units : (us : List Value) (s : State) → AllByRecursion Fits us → reacts us (put_back e o s) ≡ put_back e o (reacts us s)
  front_units [] s h = refl
  front_units (u ∷ us) s (fits, more) = ap (λ (t : State). reacts us t) (front_unit u s fits) ∙ front_units us (react u s) more

  -- ---- so are the events

  pub same_front : (w : Whole) (s : State) (later : List Value) → w.end ≡ put_back e o s → w.coming ≡ later → Comes d e o w s later
  same_front w s later is come =
      all_come w s later (subst (λ (t : State). (b : Becomes d w t) × (b.coming ≡ later)) is (same_so d w later come))

  pub calls_front : (call : UserCall) (w : Whole) (s : State) (later : List Value) → w.end ≡ put_back e o s → MayCall call s →
      w.coming ≡ later → Comes d e o w (user_does call s) later
  calls_front call w s later is may come =
      let (b, same) = call_so d call w (subst (MayCall call) (sym is) (grind arith)) in
      all_come w (user_does call s) later
      (subst (λ (t : State). (b : Becomes d w t) × (b.coming ≡ later))
      (ap (λ (t : State). user_does call t) is ∙ (grind (arith, apart_all e o (user call ∷ []) s))) (b, same ∙ come))

  pub takes_front : (units : List (List ℕ)) (later : List Value) (s new : State) (w : Whole) → w.end ≡ put_back e o s →
      TakesPackets s units new → w.coming ≡ units_in units ++ later → (b : Becomes d w (put_back e o new)) × (b.coming ≡ later)
  unfolding after_packet
  takes_front [] later s new w is h come =
      subst (λ (t : State). (b : Becomes d w t) × (b.coming ≡ later)) (is ∙ ap (λ (t : State). put_back e o t) (sym h))
      (same_so d w later come)
  takes_front (p ∷ ps) later s new w is (quiet, more) come =
      let lasts : w.end.ended ≡ None = ap (λ (t : State). t.ended) is ∙ (grind (arith, none_of, or_left)) in
      let (first, rest) = packet_so d (units_of p) (units_in ps ++ later) w lasts
      (come ∙ append_assoc (units_by (units_of p)) (units_in ps) later) in
      let mid : Whole = record w { end = acts_by (units_of p) w.end; put = w.put ++ first.put; coming = first.coming } in
      let next : mid.end ≡ put_back e o (after_packet s p) =
      ap (λ (t : State). acts_by (units_of p) t) is ∙ front_packet p s in
      let (others, done) = takes_front ps later (after_packet s p) new mid next more rest in
      let (b, left) = then_so d (Unit {0}) later w mid.end (put_back e o new) first others (λ t. done) in
      (b, left tt)

  over_front : (reason : EndReason) (s : State) (w : Whole) → w.end ≡ put_back e o s → s.ended ≡ None →
      Becomes d w (put_back e o (ends reason s))
  over_front reason s w is lasts =
      subst (λ (t : State). Becomes d w t) (ap (λ (t : State). ends reason t) is)
      (becomes_over d reason w (ap (λ (t : State). t.ended) is ∙ lasts))

  -- after the packets the carrier ends
  pub after_all : (units : List (List ℕ)) (s before : State) (reason : EndReason) (w : Whole) (later : List Value) →
      w.end ≡ put_back e o s → TakesPackets s units before → w.coming ≡ units_in units ++ later → before.ended ≡ None →
      Becomes d w (put_back e o (ends reason before))
  after_all units s before reason w later is taken come lasts =
      let (first, rest) = takes_front units later s before w is taken come in
      let mid : Whole = record w { end = put_back e o before; put = w.put ++ first.put; coming = first.coming } in
      becomes_then d w (put_back e o before) (put_back e o (ends reason before)) first (over_front reason before mid refl lasts)

  -- memory runs out for one of these units
  pub runs_out_front : (units later : List Value) (s new : State) (w : Whole) → AllByRecursion Fits units → w.end ≡ put_back e o s →
      w.coming ≡ units ++ later → RunsOut s units new → Becomes d w (put_back e o new)
  runs_out_front units later s new w fits is come r =
      let fits_done = all_first r.done (r.next ∷ r.more) (subst (AllByRecursion Fits) r.all fits) in
      let (first, rest) = all_units d r.done ((r.next ∷ r.more) ++ later) w
      (come ∙ ap (λ (l : List Value). l ++ later) r.all ∙ append_assoc r.done (r.next ∷ r.more) later) in
      let mid : Whole = record w { end = reacts r.done w.end; put = w.put ++ first.put; coming = first.coming } in
      let done : mid.end ≡ put_back e o (reacts r.done s) = ap (λ (t : State). reacts r.done t) is ∙ front_units r.done s fits_done in
      subst (λ (t : State). Becomes d w (put_back e o t)) (sym r.ended)
      (becomes_then d w (reacts r.done w.end) (put_back e o (ends NoMemory (reacts r.done s))) first
      (over_front NoMemory (reacts r.done s) mid done r.lasts))
