-- What a called end puts in class 0: DTs that are not too long, of TSDUs that are not too long.
-- For the law on a whole called end.
use Rattle.osi_blameless.proofs.transport.Vocabulary.{[], ap, arith, Bool, drop, false, if◌then◌else◌, length, List, map, nat_lt, None}
use Rattle.osi_blameless.proofs.transport.Vocabulary.{Option, refl, Some}
use Rattle.osi_blameless.proofs.transport.Vocabulary.{subst, suc, sym, take, true, zero, ℕ, ◌++◌, ◌+◌, ◌∷◌, ◌≡◌, ◌≤◌, ltb-false, ltb-true}
use Rattle.osi_blameless.proofs.transport.Vocabulary.{append-nil}
use Rattle.osi_blameless.proofs.transport.Vocabulary.{data0, Value, Ends, Flow, Drained, drained_by, drained_within, left_to_give}
use Rattle.osi_blameless.proofs.transport.Vocabulary.{longest_tsdu, Given}
use Rattle.osi_blameless.proofs.transport.Vocabulary.{given_part, next_by, part0, Standing, unit_of, give, Part}
use Rattle.osi_class.specs.Giving.{drained}
use Rattle.osi_blameless.proofs.transport.lines.what_a_link_does.{AreShort, HaveRoom, begun_by, front_fits, rest_is}

-- ---- DTs that were put

-- they follow so many octets of a TSDU; at the end of them this holds of the octets
abbrev pub PutsData : (limit : ℕ) → (ℕ → Type 0) → (begun : ℕ) → List Value → Type 0
PutsData limit e begun [] = e begun
PutsData limit e begun (data0 end user ∷ units) = (length user ≤ limit) × (begun + length user ≤ longest_tsdu)
    × PutsData limit e (begun_by begun end (length user)) units
PutsData limit e begun _ = ⊥

pub puts_more : (limit : ℕ) (e k : ℕ → Type 0) (more : List Value) → ((b : ℕ) → e b → PutsData limit k b more) → (begun : ℕ)
    (units : List Value) → PutsData limit e begun units → PutsData limit k begun (units ++ more)
puts_more limit e k more h begun [] a = h begun a
puts_more limit e k more h begun (data0 end user ∷ units) (a, b, c) =
    (a, b, puts_more limit e k more h (begun_by begun end (length user)) units c)
puts_more limit e k more h begun _ a = absurd a

pub puts_still : (limit : ℕ) (e k : ℕ → Type 0) → ((b : ℕ) → e b → k b) → (begun : ℕ) (units : List Value) → PutsData limit e begun units →
    PutsData limit k begun units
puts_still limit e k h begun units a = grind (arith, append-nil units, puts_more limit e k [] h begun units a)

-- ---- what a link gives

-- a link of class 0 with this size
pub record IsPlain (limit : ℕ) (s : Standing) : Type 0 where
  pub flow : s.flow ≡ None
  pub size : s.ends.limit ≡ limit

-- the DTs that it gives, and what it has still to give
record Given0 (peer limit begun : ℕ) (d : Drained) : Type 0 where
  plain : IsPlain limit d.link
  puts : PutsData limit (λ b. HaveRoom b d.link.ends.unsent) begun (map (unit_of peer) d.units)

abbrev Gives0 : (Standing → Drained) → Type 0
Gives0 more = (peer limit begun : ℕ) (s : Standing) → IsPlain limit s → HaveRoom begun s.ends.unsent → Given0 peer limit begun (more s)

abbrev with_unsent : Ends → List (List ℕ) → Standing
with_unsent e unsent = record { ends = record e { unsent = unsent }; flow = None }

part_given : (peer limit begun : ℕ) (e : Ends) (more : Standing → Drained) (s : Standing) → Gives0 more → e.limit ≡ limit → (end : Bool)
    (octets : List ℕ) (rest : List (List ℕ)) → length octets ≤ limit → begun + length octets ≤ longest_tsdu →
    HaveRoom (begun_by begun end (length octets)) rest →
    Given0 peer limit begun (drained_by (Some (part0 end octets, with_unsent e rest)) s more)
part_given peer limit begun e more s h size end octets rest fits short room =
    let g = h peer limit (begun_by begun end (length octets)) (with_unsent e rest) (record { flow = refl; size = size }) room in
    record { plain = g.plain; puts = (fits, short, g.puts) }

give_by : (peer limit begun : ℕ) (e : Ends) (more : Standing → Drained) (s : Standing) → Gives0 more → e.limit ≡ limit →
    (tsdu : List ℕ) (tsdus : List (List ℕ)) → (begun + length tsdu ≤ longest_tsdu) × AreShort tsdus → (b : Bool) →
    nat_lt e.limit (length tsdu) ≡ b → Given0 peer limit begun (drained_by (given_part e None None
    (if b then Some ((false, take e.limit tsdu), drop e.limit tsdu ∷ tsdus) else Some ((true, tsdu), tsdus))) s more)
give_by peer limit begun e more s h size tsdu tsdus (room, short) true less =
    let above = ltb-true e.limit (length tsdu) less in
    let n = front_fits e.limit tsdu above in
    let m = rest_is e.limit tsdu above in
    part_given peer limit begun e more s h size false (take e.limit tsdu) (drop e.limit tsdu ∷ tsdus) (omega arith) (omega arith)
    (omega arith, short)
give_by peer limit begun e more s h size tsdu tsdus (room, short) false less =
    let within = ltb-false e.limit (length tsdu) less in
    part_given peer limit begun e more s h size true tsdu tsdus (omega arith) room (grind arith)

next_by_unsent : (peer limit begun : ℕ) (e : Ends) (more : Standing → Drained) (s : Standing) → Gives0 more → e.limit ≡ limit →
    IsPlain limit s →
    s.ends ≡ e → (unsent : List (List ℕ)) → e.unsent ≡ unsent → HaveRoom begun unsent →
    Given0 peer limit begun (drained_by (given_part e None None (give e.limit unsent)) s more)
next_by_unsent peer limit begun e more s h size plain same [] is room = grind arith
next_by_unsent peer limit begun e more s h size plain same (tsdu ∷ tsdus) is room = search (arith, give_by)

within_gives : (n : ℕ) → Gives0 (drained_within n)
within_gives zero peer limit begun s plain room = record { plain = plain; puts = room }
within_gives (suc n) peer limit begun s plain room =
    subst (λ (o : Option (Given × Standing)). Given0 peer limit begun (drained_by o s (drained_within n)))
    (sym (ap (λ (f : Option Flow). next_by s.ends f) plain.flow))
    (next_by_unsent peer limit begun s.ends (drained_within n) s (within_gives n) plain.size plain refl s.ends.unsent refl room)

plain_part : (limit : ℕ) (e : Ends) (more : Standing → Drained) (s : Standing) → ((t : Standing) → IsPlain limit t → IsPlain limit
    (more t).link) →
    e.limit ≡ limit → IsPlain limit s → (o : Option (Part × List (List ℕ))) → IsPlain limit (drained_by (given_part e None None o) s
    more).link
plain_part limit e more s h size plain o = grind arith

within_plain : (n limit : ℕ) (s : Standing) → IsPlain limit s → IsPlain limit (drained_within n s).link
within_plain zero limit s plain = plain
within_plain (suc n) limit s plain =
    subst (λ (o : Option (Given × Standing)). IsPlain limit (drained_by o s (drained_within n)).link)
    (sym (ap (λ (f : Option Flow). next_by s.ends f) plain.flow))
    (plain_part limit s.ends (drained_within n) s (λ t h. within_plain n limit t h) plain.size plain (give s.ends.limit s.ends.unsent))

pub drained_plain : (limit : ℕ) (s : Standing) → IsPlain limit s → IsPlain limit (drained s).link
unfolding drained
drained_plain limit s plain = within_plain (left_to_give s) limit s plain

pub drained_gives : (peer limit begun : ℕ) (s : Standing) → IsPlain limit s → HaveRoom begun s.ends.unsent →
    IsPlain limit (drained s).link
    × PutsData limit (λ b. HaveRoom b (drained s).link.ends.unsent) begun (map (unit_of peer) (drained s).units)
unfolding drained
drained_gives peer limit begun s plain room = grind (arith, within_gives (left_to_give s) peer limit begun s plain room)
