-- What a carrier does with a piece of its stream is events of its whole end, as it takes the packets that the piece completes.
-- For the law on packets.
use Rattle.osi_blameless.proofs.transport.Vocabulary.{[], ap, append_assoc, arith, Bool, false, inl, inr, is_some, length, List, None}
use Rattle.osi_blameless.proofs.transport.Vocabulary.{Option, refl, subst, sym, take, true, ℕ, ◌++◌, ◌∙◌, ◌∷◌, ◌≡◌, ◌⊎◌, append-nil}
use Rattle.osi_blameless.proofs.transport.Vocabulary.{take_all, ◌||◌}
use Rattle.osi_blameless.proofs.transport.Vocabulary.{ArePackets, Fed, Value, Happening, Carrying, Feeds, FindsNoMemory, FindsNoRoom, Goes}
use Rattle.osi_blameless.proofs.transport.Vocabulary.{RunsDry}
use Rattle.osi_blameless.proofs.transport.Vocabulary.{Starves, StopsBehind, waits, put_back, EndReason, Direction, IsFed, units_in, Whole}
use Rattle.osi_blameless.proofs.transport.pieces.a_packet_is_events.{becomes_then}
use Rattle.osi_blameless.proofs.transport.pieces.what_is_in_front_of_a_whole_end.{Comes, after_all, all_come, none_come, runs_out_front}
use Rattle.osi_blameless.proofs.transport.pieces.what_is_in_front_of_a_whole_end.{same_front, takes_front}
use Rattle.osi_blameless.proofs.transport.pieces.what_is_in_front_of_a_whole_end.{units_in_range}
use Rattle.osi_blameless.proofs.transport.small_facts_that_many_lemmas_use.{none_of, or_left}
use Rattle.osi_blameless.proofs.transport.small_facts_that_many_lemmas_use.{units_join}

packets_join : (us vs : List (List ℕ)) (s mid rest : List ℕ) → ArePackets us s mid → ArePackets vs mid rest → ArePackets (us ++ vs) s rest
packets_join [] vs s mid rest e h = subst (λ (l : List ℕ). ArePackets vs l rest) (sym e) h
packets_join (u ∷ us) vs s mid rest (b, t, packet, e, more) h = (b, t, packet, e, packets_join us vs t mid rest more h)

-- As `IsFed`, with reported events and sent octets in front. Unless the carrier ends, none of the units of its packets is left.
pub record FeedsOn (d : Direction) (old : Carrying) (piece : List ℕ) (used : ℕ) (new : Carrying) : Type 0 where
  pub packets : List (List ℕ)
  pub within : ℕ
  pub rest : List ℕ
  pub cut : ArePackets packets (old.held.octets ++ take within piece) rest
  pub becomes : (e : List Happening) (o : List ℕ) (w : Whole) (later : List Value) → w.end ≡ put_back e o old.state →
      w.coming ≡ units_in packets ++ later → Comes d e o w new.state later
  pub keeps : new.state.ended ≡ None → (used ≡ within) × (new.held.octets ≡ rest)

module _ (d : Direction) (old : Carrying) (piece : List ℕ) (new : Carrying) where
  same_fed : (used : ℕ) → new ≡ old → (new.state.ended ≡ None → used ≡ 0) → FeedsOn d old piece used new
  same_fed used same none = record {
    packets = [];
    within = 0;
    rest = old.held.octets ++ take 0 piece;
    cut = refl;
    becomes = grind (arith, same_front);
    keeps = λ lasts. (none lasts, ap (λ (c : Carrying). c.held.octets) same ∙ sym (append-nil old.held.octets));
  }

  dry_fed : (used : ℕ) → RunsDry old piece used new → FeedsOn d old piece used new
  dry_fed used h = record {
    packets = h.units;
    within = length piece;
    rest = new.held.octets;
    cut = subst (λ (l : List ℕ). ArePackets h.units (old.held.octets ++ l) new.held.octets) (sym (grind (arith, take_all))) h.packets;
    becomes = λ e o w later is come.
        all_come d e o w new.state later (takes_front d e o h.units later old.state new.state w is h.taken come);
    keeps = λ lasts. (h.all, refl);
  }

  stopped_fed : (used : ℕ) → StopsBehind old piece used new → FeedsOn d old piece used new
  stopped_fed used h = record {
    packets = h.units;
    within = h.within;
    rest = [];
    cut = h.packets;
    becomes = λ e o w later is come.
        all_come d e o w new.state later (takes_front d e o h.units later old.state new.state w is h.taken come);
    keeps = grind arith;
  }

  -- or for a unit of the next packet
  starved_fed : (used : ℕ) (h : FindsNoMemory old piece used new) (packet : List ℕ) → ArePackets (packet ∷ []) h.rest [] →
      Starves h.before packet new.state → FeedsOn d old piece used new
  starved_fed used h packet one (units, read, out) = record {
    packets = h.units ++ packet ∷ [];
    within = h.within;
    rest = [];
    cut = packets_join h.units (packet ∷ []) (old.held.octets ++ take h.within piece) h.rest [] h.packets one;
    becomes = λ e o w later is come.
        let first_come : w.coming ≡ units_in h.units ++ (units ++ later) = grind (arith, units_join, append_assoc, append-nil) in
        let (first, rest) = takes_front d e o h.units (units ++ later) old.state h.before w is h.taken first_come in
        let mid : Whole = record w { end = put_back e o h.before; put = w.put ++ first.put; coming = first.coming } in
        let b = becomes_then d w (put_back e o h.before) (put_back e o new.state) first
        (runs_out_front d e o units later h.before new.state mid (units_in_range packet one.0 units one.2 read) refl rest out) in
        grind (arith, none_come);
    keeps = λ lasts. absurd (grind arith);
  }

  memory_by : (used : ℕ) (h : FindsNoMemory old piece used new) → FindsNoRoom old piece h.within h.rest h.before new.state
      ⊎ ((packet : List ℕ) × ArePackets (packet ∷ []) h.rest [] × Starves h.before packet new.state) → FeedsOn d old piece used new
  memory_by used h (inl room) = grind (arith, none_come, after_all, none_of, or_left)
  memory_by used h (inr (packet, one, starved)) = starved_fed used h packet one starved

  goes_fed : (used : ℕ) → Goes old piece used new → FeedsOn d old piece used new
  goes_fed used (inl (inl h)) = dry_fed used h
  goes_fed used (inl (inr h)) = stopped_fed used h
  goes_fed used (inr (inl h)) = grind (arith, take_all (length piece) piece (omega arith), none_come, after_all, none_of, or_left)
  goes_fed used (inr (inr h)) = memory_by used h h.how

  by_waits : (fed : Fed) → Feeds old piece fed new → old.state.ended ≡ None → (b : Bool) → waits old.state ≡ b →
      FeedsOn d old piece fed.used new
  by_waits fed h lasts true e = grind (arith, same_fed)
  by_waits fed h lasts false e =
      goes_fed fed.used (h.goes (ap (λ (o : Option EndReason). is_some o || waits old.state) lasts ∙ e))

  pub feeds_on : (fed : Fed) → Feeds old piece fed new → FeedsOn d old piece fed.used new
  feeds_on fed h = grind (arith, by_waits, same_fed)

  pub fed_so : (fed : Fed) → Feeds old piece fed new → IsFed d old piece fed.used new
  fed_so fed h =
      let f = feeds_on fed h in
      record {
        packets = f.packets;
        within = f.within;
        rest = f.rest;
        cut = f.cut;
        becomes = λ w later is come. (f.becomes [] [] w later is come).0;
        keeps = f.keeps;
      }
