-- A packet that is no fitting DT ends an end whose connection is open in class 0, and nothing is put for it, whether memory is short or
-- not. For what such an end does with the packets before a break of the other side.
use Rattle.osi_blameless.proofs.ends.Vocabulary.{[], Err, inl, inr, length, List, nat_lt, None, Ok, refl, Result, Some, subst, sym, true, ℕ}
use Rattle.osi_blameless.proofs.ends.Vocabulary.{◌++◌}
use Rattle.osi_blameless.proofs.ends.Vocabulary.{◌+◌, ◌∷◌, ◌≡◌, units_of, data0, Value, TpduFault, longest_tsdu, Standing, Zero}
use Rattle.osi_blameless.proofs.ends.Vocabulary.{react_quiet}
use Rattle.osi_blameless.proofs.ends.Vocabulary.{reacts_over, acts_cases, reacts, linked, State as Carrier, packet_is, starved_over}
use Rattle.osi_blameless.proofs.ends.Vocabulary.{after_packet}
use Rattle.osi_blameless.proofs.ends.Vocabulary.{with_carrier, End, Starves, arith, react}
use Rattle.osi_carrier.specs.Packets as carriers
use Rattle.osi_blameless.proofs.ends.at_any_time.an_end_that_is_over_does_nothing.{Over, attends_over, out_over}

-- ---- what is not taken

-- a link with these octets of a TSDU takes no such unit: no DT of class 0, or one with which the TSDU is too long
abbrev pub IsHard : List ℕ → Value → Type 0
IsHard begun (data0 end user) = nat_lt longest_tsdu (length begun + length user) ≡ true
IsHard begun v = Unit {0}

-- a packet that can't be read, or that begins with such a unit
abbrev pub AreHard : List ℕ → Result (List Value) TpduFault → Type 0
AreHard begun (Err fault) = Unit {0}
AreHard begun (Ok []) = ⊥
AreHard begun (Ok (v ∷ vs)) = IsHard begun v

abbrev pub IsHardPacket : List ℕ → List ℕ → Type 0
IsHardPacket begun packet = AreHard begun (units_of packet)

-- one connection, open in class 0 with this link
pub record IsZeroAt (r peer : ℕ) (link : Standing) (c : Carrier) : Type 0 where
  pub lasts : c.ended ≡ None
  pub class : c.class ≡ Some Zero
  pub live : c.live ≡ (r, linked peer link) ∷ []
  pub flow : link.flow ≡ None

-- ---- one unit

module _ (r peer : ℕ) (link : Standing) (c : Carrier) (z : IsZeroAt r peer link c) where
  unit_over : (v : Value) → IsHard link.ends.joining.begun v → Over c.outgoing (react v c)
  unit_over v long = grind (arith, react_quiet)

  -- ---- a packet

  acts_over : (u : List ℕ) → IsHardPacket link.ends.joining.begun u → Over c.outgoing (carriers.after_packet c u)
  unfolding carriers.after_packet
  acts_over u hard = grind (arith, unit_over, reacts_over)

  -- before memory ran out nothing had an effect
  none_before : (done : List Value) (next : Value) (more : List Value) → AreHard link.ends.joining.begun (Ok (done ++ (next ∷ more))) →
      (reacts done c).ended ≡ None → reacts done c ≡ c
  none_before [] next more hard lasts = refl
  none_before (v ∷ done) next more hard lasts = grind (arith, unit_over, reacts_over)

  starved_so : (u : List ℕ) (d : Carrier) → IsHardPacket link.ends.joining.begun u → carriers.Starves c u d → Over c.outgoing d
  starved_so u d hard (units, is, out) = grind (arith, none_before)

-- ---- an end

-- an end is over with this packet, and nothing is put for it
pub record IsLast (packet : List ℕ) (e : End) : Type 0 where
  pub acts : Over e.carrier.outgoing (after_packet e packet).carrier
  pub starves : (new : End) → Starves e packet new → Over e.carrier.outgoing new.carrier

pub hard_ends : (r peer : ℕ) (link : Standing) (packet : List ℕ) (e : End) → IsZeroAt r peer link e.carrier →
    IsHardPacket link.ends.joining.begun packet → IsLast packet e
hard_ends r peer link packet e z hard = record {
  acts = subst (λ (x : End). Over e.carrier.outgoing x.carrier) (sym (packet_is e packet))
      (search (arith, attends_over, acts_over));
  starves = λ new starved. by new starved;
}
  where
    by : (new : End) → Starves e packet new → Over e.carrier.outgoing new.carrier
    by new (inl (c, starved, is)) =
        subst (λ (x : End). Over e.carrier.outgoing x.carrier) (sym is)
        (attends_over e.carrier.outgoing (with_carrier c e) (starved_so r peer link e.carrier z packet c hard starved))
    by new (inr (c, acts, out)) =
        let p : Over e.carrier.outgoing c = elim (acts_cases e.carrier c packet acts) [
          | inl is ↦ subst (Over e.carrier.outgoing) (sym is) (acts_over r peer link e.carrier z packet hard)
          | inr starved ↦ starved_so r peer link e.carrier z packet c hard starved
        ] in (
          grind (arith, starved_over),
          out_over e.carrier.outgoing (with_carrier c e) new p out,
        )
