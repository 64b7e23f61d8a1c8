-- Writing all that a link gives, one unit after the other.
use Rattle.osi_carrier.proofs.Vocabulary.{cases_lt, take_at, Value, Drained, drained, octets_in, Standing, Given, unit_of, next, pumped}
use Rattle.osi_carrier.proofs.Vocabulary.{written_by, packets, ◌≡◌, ℕ, ◌+◌, ◌*◌, ◌<◌, ◌≤◌, List, [], ◌∷◌, ◌++◌, length, take, map, refl}
use Rattle.osi_carrier.proofs.Vocabulary.{sym, ap, ◌∙◌, append_assoc, length-append, arith}

pub packets_join : (us vs : List Value) → packets (us ++ vs) ≡ packets us ++ packets vs
packets_join [] vs = refl
packets_join (u ∷ us) vs = grind (arith, append_assoc, packets_join us vs)

-- some units of a link were written, and this is the link after them
pub record IsPumping (peer : ℕ) (first : Standing) (before : List ℕ) (now : Standing) (octets : List ℕ) : Type 0 where
  pub more : List ℕ
  pub is : octets ≡ before ++ more
  pub all : more ++ packets (written_by peer now) ≡ packets (written_by peer first)
  pub link : pumped now ≡ pumped first

pub pumping_next : (peer : ℕ) (first now next : Standing) (before octets after : List ℕ) (unit : Given) →
    IsPumping peer first before now octets →
    drained now ≡ record { units = unit ∷ (drained next).units; link = (drained next).link } →
    after ≡ octets ++ packets (unit_of peer unit ∷ []) →
    IsPumping peer first before next after
pumping_next peer first now next before octets after unit h e put = grind (arith, append_assoc, packets_join)

pub pumping_full : (peer : ℕ) (first now : Standing) (before octets after : List ℕ) → IsPumping peer first before now octets →
    after ≡ octets → take (length before) after ≡ before
pumping_full peer first now before octets after h same = grind (arith, take_at)

-- the room that is left is enough for the units after it
pub pumping_room : (peer : ℕ) (now next : Standing) (unit : Given) →
    drained now ≡ record { units = unit ∷ (drained next).units; link = (drained next).link } →
    length (packets (written_by peer now)) ≡ length (packets (unit_of peer unit ∷ [])) + length (packets (written_by peer next))
pumping_room peer now next unit e = grind (arith, packets_join, length-append)

-- if there is no room for the next unit, there was not room for all
pub pumping_short : (peer : ℕ) (first now then : Standing) (unit : Given) (room left : ℕ) →
    drained now ≡ record { units = unit ∷ (drained then).units; link = (drained then).link } →
    (length (packets (written_by peer first)) ≤ room → length (packets (written_by peer now)) ≤ left) →
    left < length (packets (unit_of peer unit ∷ [])) → room < length (packets (written_by peer first))
pumping_short peer first now then unit room left e more full = grind (arith, pumping_room, cases_lt)

-- a unit takes at most 9 octets more than its part
pub packets_most : (peer : ℕ) (units : List Given) → length (packets (map (unit_of peer) units)) ≤ octets_in units + 9 * length units
packets_most peer [] = omega arith
packets_most peer (u ∷ units) = grind (arith, length-append, packets_most peer units)

-- if a link gives one unit and then none, the link after it
pub whole_link : (s new : Standing) (unit : Given) → drained s ≡ record { units = unit ∷ (drained new).units; link = (drained new).link } →
    drained new ≡ record { units = []; link = new } → new ≡ pumped s
whole_link s new unit first last = sym (ap (λ (d : Drained). d.link) first ∙ ap (λ (d : Drained). d.link) last)

-- and what is written
pub whole_written : (peer : ℕ) (s new : Standing) (unit : Given) →
    drained s ≡ record { units = unit ∷ (drained new).units; link = (drained new).link } →
    drained new ≡ record { units = []; link = new } → unit_of peer unit ∷ [] ≡ written_by peer s
whole_written peer s new unit first last = grind arith
