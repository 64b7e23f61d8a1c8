-- A DT that is right has a place, at which it adds to what is joined; and each side uses a reference at one open place at most.
-- For the law on places.
use Rattle.osi_blameless.proofs.Vocabulary.{arith, ◌≡◌, ap, subst, ℕ, Bool, true, false, if◌then◌else◌, List, [], ◌∷◌, Option, Some}
use Rattle.osi_blameless.proofs.Vocabulary.{slice_get, eq-eqb, Value, acknowledge, confirm, data0, data2, destination_of, disconnect}
use Rattle.osi_blameless.proofs.Vocabulary.{disconnected, error, request, unit_parts, Capture, other, Direction, Left, Right, Connection}
use Rattle.osi_blameless.proofs.Vocabulary.{Kept, NotJudged, Adds, Route, is_applied, is_open, own, uses, Outcome, State, at_place, found}
use Rattle.osi_blameless.proofs.Vocabulary.{meant, none_told, in_doubt, routed, takes, unnamed_by, uses_source, packet, unit, fresh_apart}
use Rattle.osi_blameless.proofs.Vocabulary.{passes_apart, AreNamedApart, OnlyOne, each_sound, HoldsOfEach, Sound, Cause, Joined}
use Rattle.osi_blameless.proofs.Vocabulary.{reference_of, user_of, Course, marked, moved, packet_begins, unit_passes, unread_mark}
use Rattle.osi_blameless.proofs.Vocabulary.{unread_moment, way_of, comes_to, HaveSamePlaces, IsJoinedAt, IsOneOf}
use Rattle.osi_rules.specs.declared.directions.Direction.{Direction as Way}
use Rattle.osi_rules.specs.Traffic as traffic
use Rattle.osi_blameless.proofs.transport.names.all_are_judged_unless_one_broke.{IsJudged}
use Rattle.osi_blameless.proofs.transport.names.what_keeps_names_apart.{AreApart}
use Rattle.osi_judge.specs.States.{begin}
use Rattle.osi_blameless.proofs.steps.what_passes_keeps_a_claim.{after_kept}
use Rattle.osi_blameless.proofs.shown.a_unit_is_joined_where_it_is_named.{joined_named}
use Rattle.osi_blameless.proofs.shown.connections_have_the_same_places.{at_same, joined_there, marked_traffic, unit_knows}

-- ---- a DT that is right

-- the place that is told, and the connection there
pub record IsPlaced (d : Way) (v : Value) (end : Bool) (s : State) (o : Outcome) : Type 0 where
  pub place : ℕ
  pub connection : Connection
  pub told : o.told.place ≡ Some place
  pub means : o.told.meaning ≡ Adds end
  pub there : slice_get s.connections place ≡ Some connection
  pub judged : connection.is_judged ≡ true
  pub applied : is_applied (found d s.course (uses_source d s.connections v) connection v) ≡ true

-- a unit that adds to a TSDU
abbrev AddsTo : Value → Bool → Type 0
AddsTo v end = meant v ≡ Adds end

pub never_unnamed : {A : Type 0} (reports loose strays : Bool) (v : Value) →
    is_applied (if reports then NotJudged else (if loose then in_doubt (unnamed_by strays v) else unnamed_by strays v)) ≡ true → A
never_unnamed h loose strays v h2 = grind arith

module _ (d : Way) (v : Value) (end : Bool) (s : State) (adds : AddsTo v end) where
  placed_any : (o : Option ℕ) → is_applied (at_place d v s o).told.finding ≡ true → IsPlaced d v end s (at_place d v s o)
  placed_any o h = search (arith, never_unnamed)

  stopped_or : (b : Bool) (r : Route) → (is_applied (routed d v s r).told.finding ≡ true → IsPlaced d v end s (routed d v s r)) →
      is_applied (if b then none_told d NotJudged s else routed d v s r).told.finding ≡ true →
      IsPlaced d v end s (if b then none_told d NotJudged s else routed d v s r)
  stopped_or b r f h = grind arith

pub two_placed : (d : Way) (n number : ℕ) (end : Bool) (user : List ℕ) (s : State) →
    is_applied (takes d (data2 n number end user) s).told.finding ≡ true →
    IsPlaced d (data2 n number end user) end s (takes d (data2 n number end user) s)
two_placed d n number end user s h = search (arith, stopped_or, placed_any)

pub zero_placed : (d : Way) (end : Bool) (user : List ℕ) (s : State) → (takes d (data0 end user) s).told.finding ≡ Kept →
    IsPlaced d (data0 end user) end s (takes d (data0 end user) s)
zero_placed d end user s h = search (arith, stopped_or)

-- ---- it is joined there

joined_at : (d : Direction) (at : ℕ) (v : Value) (end : Bool) (c : Course) → HaveSamePlaces c.traffic.connections c.sessions.live →
    (p : IsPlaced (way_of d) v end c.traffic (takes (way_of d) v c.traffic)) →
    ((n : ℕ) → destination_of v ≡ Some n → is_open (own (way_of d) p.connection).phase ≡ true) → IsJoinedAt d at v end c
joined_at d at v end c h p live =
    search (arith, joined_named, joined_there, at_same c.traffic.connections c.sessions.live p.place p.connection h p.there)

pub dt_joined : (d : Direction) (at : ℕ) (v : Value) (end : Bool) (c : Course) → HaveSamePlaces c.traffic.connections c.sessions.live →
    unit_parts v ≡ (end, user_of v) ∷ [] → (takes (way_of d) v c.traffic).told.finding ≡ Kept → IsJoinedAt d at v end c
dt_joined d at (data0 e user) end c h parts kept =
    subst (λ (b : Bool). IsJoinedAt d at (data0 e user) b c) (grind arith)
    (joined_at d at (data0 e user) e c h (zero_placed (way_of d) e user c.traffic kept) (λ n k. absurd (cc k)))
dt_joined d at (data2 m number e user) end c h parts kept =
    let v = data2 m number e user in
    let p = two_placed (way_of d) m number e user c.traffic (ap is_applied kept) in
    subst (λ (b : Bool). IsJoinedAt d at v b c) (grind arith)
    (joined_at d at v e c h p (grind arith))
dt_joined d at (request x) end c h parts kept = absurd (cc)
dt_joined d at (confirm m x) end c h parts kept = absurd (cc)
dt_joined d at (disconnect m source reason user) end c h parts kept = absurd (cc)
dt_joined d at (disconnected m source) end c h parts kept = absurd (cc)
dt_joined d at (acknowledge credit m number) end c h parts kept = absurd (cc)
dt_joined d at (error m cause) end c h parts kept = absurd (cc)

-- ---- one open place for a reference of the other side

abbrev pub Apart : Course → Type 0
Apart c = AreApart c.traffic.connections

apart_packet : (d : Direction) (c : Course) → Apart c → Apart (packet_begins d c)
apart_packet d c h = passes_apart (packet (way_of d)) c.traffic h

apart_unit : (d : Direction) (at : ℕ) (v : Value) (c : Course) → Apart c → Apart (unit_passes d at v c)
apart_unit d at v c h = grind (arith, unit_knows d at v c, passes_apart (unit (way_of d) v) c.traffic h)

bad_by : (b : Bool) (d : Direction) (at : ℕ) (cause : Cause) (c : Course) → Apart c →
    Apart (if b then c else marked (unread_mark d at cause) (traffic.refused_reach (way_of d) c.traffic)
    (moved (unread_moment d at cause c.sessions) (record c { traffic = traffic.refused (way_of d) c.traffic })))
bad_by b d at cause c h = grind (arith, marked_traffic, passes_apart)

pub capture_apart : (capture : Capture) → Apart (comes_to capture).course
capture_apart capture = after_kept Apart (search (arith, apart_packet, apart_unit, bad_by)) capture begin fresh_apart

-- ---- a side that has not closed a connection leaves the reference of the other side in use

-- a side that has a connection open leaves the reference in use that the other side gave it
pub still_used : (d : Direction) (n : ℕ) (c : Connection) (j : Joined) → IsOneOf c j → Sound c → is_open (own (way_of d) c).phase ≡ true →
    reference_of (other d) j ≡ Some n → uses (way_of (other d)) n c ≡ true
still_used d n c j h sound live is = grind (arith, eq-eqb)

-- so two places that a side has open, and to which the other side gave this reference, are one
pub one_place : (d : Direction) (n p q : ℕ) (c e : Connection) (j k : Joined) (cs : List Connection) → AreApart cs →
    slice_get cs p ≡ Some c → slice_get cs q ≡ Some e → c.is_judged ≡ true → e.is_judged ≡ true → IsOneOf c j → IsOneOf e k →
    is_open (own (way_of d) c).phase ≡ true → is_open (own (way_of d) e).phase ≡ true → reference_of (other d) j ≡ Some n →
    reference_of (other d) k ≡ Some n → p ≡ q
one_place Left n p q c e j k cs apart there here judged so one another live lives is same =
    apart.used_right n p q c e there here judged so (still_used Left n c j one (apart.sound p c there judged) live is)
    (still_used Left n e k another (apart.sound q e here so) lives same)
one_place Right n p q c e j k cs apart there here judged so one another live lives is same =
    apart.used_left n p q c e there here judged so (still_used Right n c j one (apart.sound p c there judged) live is)
    (still_used Right n e k another (apart.sound q e here so) lives same)

-- ---- also of connections that have lost their judgement

-- one connection at most has a reference of the other side that is in use
pub record AreUsedApart (d : Direction) (cs : List Connection) : Type 0 where
  pub sound : HoldsOfEach Sound cs
  pub used : (n : ℕ) → OnlyOne (uses (way_of (other d)) n) cs

pub judged_apart : (d : Direction) (cs : List Connection) → AreApart cs → HoldsOfEach IsJudged cs → AreUsedApart d cs
judged_apart Left cs apart judged = record {
  sound = λ i c at. apart.sound i c at (judged i c at);
  used = λ n i j c e at there fc fe. apart.used_right n i j c e at there (judged i c at) (judged j e there) fc fe;
}
judged_apart Right cs apart judged = record {
  sound = λ i c at. apart.sound i c at (judged i c at);
  used = λ n i j c e at there fc fe. apart.used_left n i j c e at there (judged i c at) (judged j e there) fc fe;
}

pub named_apart : (d : Direction) (cs : List Connection) → AreApart cs → AreNamedApart (way_of (other d)) cs → AreUsedApart d cs
named_apart d cs apart named = record { sound = each_sound (way_of (other d)) cs apart named; used = λ n. named.used n }

-- a lost connection leaves the references in use that it has
lost_used : (d : Direction) (n : ℕ) (c : Connection) (j : Joined) → IsOneOf c j → c.is_judged ≡ false →
    reference_of (other d) j ≡ Some n → uses (way_of (other d)) n c ≡ true
lost_used d n c j h lost is = grind (arith, eq-eqb)

module _ (d : Direction) (n p q : ℕ) (c e : Connection) (j k : Joined) (cs : List Connection) (apart : AreUsedApart d cs)
    (there : slice_get cs p ≡ Some c) (here : slice_get cs q ≡ Some e) (one : IsOneOf c j) (another : IsOneOf e k)
    (is : reference_of (other d) j ≡ Some n) (same : reference_of (other d) k ≡ Some n)
    (lives : is_open (own (way_of d) e).phase ≡ true) where
  -- two places that a side has open
  pub one_use : is_open (own (way_of d) c).phase ≡ true → p ≡ q
  one_use live =
      grind (arith, still_used d n c j one (apart.sound p c there) live is, still_used d n e k another (apart.sound q e here) lives same)

  -- or one of which the connection is lost
  pub lost_use : c.is_judged ≡ false → p ≡ q
  lost_use lost = grind (arith, lost_used d n c j one lost is, still_used d n e k another (apart.sound q e here) lives same)
