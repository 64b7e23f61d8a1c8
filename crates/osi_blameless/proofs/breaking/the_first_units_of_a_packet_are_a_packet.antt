-- The units of a packet before one of them are units of another packet. For what passes before a break amid a packet.
use Rattle.osi_blameless.proofs.Vocabulary.{[], List, Ok, subst, ℕ, ◌++◌, ◌∷◌, ◌≡◌, AllByRecursion, octets_append, octets_left}
use Rattle.osi_blameless.proofs.Vocabulary.{octets_right, IsOctets, units_found, units_of, Value, arith, units_only, AreUnits}
use Rattle.osi_blameless.proofs.breaking.an_end_of_class_0_has_its_connection_open.{MayBeFollowed}

pub record LeadsOff (units : List Value) : Type 0 where
  pub packet : List ℕ
  pub octets : IsOctets packet
  pub are : AreUnits units packet
  pub followed : AllByRecursion MayBeFollowed units

leads_by : (v : Value) (front : List Value) (x : Value) (back : List Value) (packet : List ℕ) → AreUnits ((v ∷ front) ++ x ∷ back) packet →
    IsOctets packet → LeadsOff (v ∷ front)
leads_by v [] x back packet (may, a, b, is, spells, more) octets = search (arith, octets_left)
leads_by v (w ∷ front) x back packet (may, a, b, is, spells, more) octets =
    let rest = leads_by w front x back b more (octets_right a b (subst IsOctets is octets)) in
    search (
      arith,
      octets_append a rest.packet (octets_left a b (subst IsOctets is octets)) rest.octets,
      octets_left a b (subst IsOctets is octets),
    )

pub leads_off : (v : Value) (front : List Value) (x : Value) (back : List Value) (packet : List ℕ) → IsOctets packet →
    units_of packet ≡ Ok ((v ∷ front) ++ x ∷ back) → LeadsOff (v ∷ front)
leads_off v front x back packet octets is =
    leads_by v front x back packet (units_found packet ((v ∷ front) ++ x ∷ back) octets is) octets

pub leads_read : (units : List Value) (l : LeadsOff units) → units_of l.packet ≡ Ok units
leads_read units l = units_only l.packet units l.are
