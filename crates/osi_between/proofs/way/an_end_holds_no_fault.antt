-- What an end of two carriers holds: packets of units, with no fault, whatever the memory is.
-- For the laws.
use Rattle.osi_carrier.specs.Packets.{Acts}
use Rattle.osi_between.proofs.Vocabulary.{◌≡◌, ℕ, Bool, not, List, [], ◌∷◌, ◌++◌, None, Ok, sym, ◌∙◌, ◌⊎◌, inl, inr, append_assoc, arith}
use Rattle.osi_between.proofs.Vocabulary.{TpktFault, IsPacket, IsFaultOf, Value, AreComing, after_packet, ActsBy, Starves, react, State}
use Rattle.osi_between.proofs.Vocabulary.{ends, NoMemory, all_behind, packet_reacts, unit_read, alone_starved, starved_unit, fault_free}
use Rattle.osi_between.proofs.Vocabulary.{packets_join, Both, side, arriving, Between, units_from, lost_from, IsOnTheWay, AreBetween, Terms}
use Rattle.osi_between.proofs.way.octets_are_written_and_handed_over.{TakesFirst, way_takes}

-- what is held and will arrive, and what a break took away, as packets of all units
way_whole : (held arriving : List ℕ) (units lost : List Value) → IsOnTheWay held arriving units lost →
    (never : List ℕ) × AreComing held (arriving ++ never) (units ++ lost)
way_whole held arriving units lost w = (w.never, (grind (arith, append_assoc, packets_join, all_behind)))

pub all_coming : (terms : Terms) (end : Bool) (both : Both) (b : Between) → AreBetween terms both b →
    (side (not end) both).state.ended ≡ None →
    (never : List ℕ) × AreComing (side (not end) both).held (arriving end both ++ never) (units_from end b ++ lost_from end b)
all_coming terms end both b a alive =
    way_whole (side (not end) both).held (arriving end both) (units_from end b) (lost_from end b) (a.comes end alive)

one_acts : (old new : State) (packet : List ℕ) (unit : Value) → after_packet old packet ≡ react unit old → ActsBy (Ok (unit ∷ [])) old new →
    (new ≡ after_packet old packet) ⊎ (new ≡ ends NoMemory old)
one_acts old new packet unit does (inl e) = inl (e ∙ sym does)
one_acts old new packet unit does (inr r) = inr (alone_starved old new unit r.done r.more r.next r.all r.ended)

module _ (terms : Terms) (end : Bool) (both : Both) (b : Between) (a : AreBetween terms both b)
    (alive : (side end both).state.ended ≡ None) where
  -- what an end holds and what will arrive there
  pub comes_to : IsOnTheWay (side end both).held (arriving (not end) both) (units_from (not end) b) (lost_from (not end) b)
  comes_to = grind arith

  pub no_fault : (at : ℕ) (f : TpktFault) → IsFaultOf at (side end both).held f → ⊥
  no_fault at f bad =
      let w = way_whole (side end both).held (arriving (not end) both) (units_from (not end) b) (lost_from (not end) b) comes_to in
      fault_free at (side end both).held (arriving (not end) both ++ w.0) f (units_from (not end) b ++ lost_from (not end) b) w.1 bad

  -- the packet that it holds first is a unit
  pub first_held : (packet octets behind : List ℕ) → IsPacket packet octets → (side end both).held ≡ octets ++ behind →
      TakesFirst packet behind (arriving (not end) both) (units_from (not end) b) (lost_from (not end) b)
  first_held packet octets behind is cut =
      way_takes packet octets behind (side end both).held (arriving (not end) both) (units_from (not end) b) (lost_from (not end) b) is cut
      comes_to

  pub starved : (packet octets behind : List ℕ) (new : State) → IsPacket packet octets → (side end both).held ≡ octets ++ behind →
      Starves (side end both).state packet new → new ≡ ends NoMemory (side end both).state
  starved packet octets behind new is cut h =
      let t = first_held packet octets behind is cut in starved_unit (side end both).state new packet t.unit t.sendable t.is h

  pub acts_or_starves : (packet octets behind : List ℕ) (new : State) → IsPacket packet octets → (side end both).held ≡ octets ++ behind →
      Acts (side end both).state packet new →
      (new ≡ after_packet (side end both).state packet) ⊎ (new ≡ ends NoMemory (side end both).state)
  acts_or_starves packet octets behind new is cut h =
      let t = first_held packet octets behind is cut in grind (arith, one_acts, packet_reacts, unit_read)
