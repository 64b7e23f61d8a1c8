-- Pieces of the stream are fed to an end one after the other, and its users receive the indications.
-- For carries.
use Rattle.osi_stack.specs.Feeding.{Goes}
use Rattle.osi_pair.proofs.Vocabulary.{◌≡◌, ℕ, ◌+◌, ◌-◌, ◌≤◌, ◌⊎◌, inl, inr, Bool, true, List, [], ◌∷◌, ◌++◌, length, take, Option, Some}
use Rattle.osi_pair.proofs.Vocabulary.{None, is_some, refl, sym, ap, subst, ◌∙◌, arith, found_how, drop-drop, take-take, nil_from_length}
use Rattle.osi_pair.proofs.Vocabulary.{append-nil, length-append, length-take, length-drop, Held, IsFaultOf, ArePackets, TpktFault}
use Rattle.osi_pair.proofs.Vocabulary.{EndReason, NoMemory, Both, Between, AreBetween, side, Terms, Step, run, start, Shown, carried}
use Rattle.osi_pair.proofs.Vocabulary.{TakesPackets, RunsDry, StopsBehind, Refuses, FindsNoMemory, Starves, End, Holding, Crossing}
use Rattle.osi_pair.proofs.Vocabulary.{CarriesPiece, crossing, TwoEnds, end_at, reachable, Entry, within, reach_after, other, terms_in}
use Rattle.osi_pair.proofs.Vocabulary.{StandsAt, StandsAtArrivals, waiting_in, quieted, told_entries, ShowsFirst, Reach, Side, Left, Right}
use Rattle.osi_pair.proofs.Vocabulary.{ends_end as ends}
use Rattle.osi_pair.proofs.turn.what_remains_when_a_unit_was_taken.{terms_at}
use Rattle.osi_pair.proofs.carry.few_indications_are_pending.{FewLaws, few_wait}
use Rattle.osi_pair.proofs.carry.handed_octets_are_no_step.{CarriedLaw, handed, handed_at}
use Rattle.osi_pair.proofs.packet.a_packet_is_one_delivery_or_none.{quiet_of}
use Rattle.osi_pair.proofs.carry.packets_are_taken_in_turn.{PacketStands, TakenLaws, taken_laws, StandsFew, StandsOut, goes_on}
use Rattle.osi_pair.proofs.carry.packets_are_taken_in_turn.{still_goes, behind, packets_stand}
use Rattle.osi_pair.proofs.session.an_end_with_nothing_pending.{quiet_same}
use Rattle.osi_pair.proofs.turn.all_is_shown.{shown_pair}
use Rattle.osi_pair.proofs.turn.a_turn_keeps_the_match.{with_holding}
use Rattle.osi_pair.proofs.flight.whether_something_is_cut_off.{Lasts}

-- what is proved of a packet, and of two carriers
pub record CarryLaws : Type 0 where
  pub packet : PacketStands
  pub few : FewLaws
  pub carried : CarriedLaw
  pub sound : (terms : Terms) (end : Bool) (both : Both) (b : Between) (at : ℕ) (fault : TpktFault) → AreBetween terms both b →
      (side end both).state.ended ≡ None → IsFaultOf at (side end both).held fault → ⊥

of_packets : CarryLaws → TakenLaws
of_packets laws = taken_laws laws.packet (few_wait laws.few)

-- ---- how far octets reach

pub reach_most : (f : Side) (p : TwoEnds) → reachable f p ≤ length (end_at f p).end.carrier.outgoing
reach_most f p = grind arith

pub within_less : (f : Side) (o : Option Reach) (k n : ℕ) → within (reach_after f k o) f (n - k) ≡ within o f n - k
within_less f o k n = grind arith

pub reach_twice : (f : Side) (k j n : ℕ) (o : Option Reach) → k + j ≡ n → reach_after f j (reach_after f k o) ≡ reach_after f n o
reach_twice f k j n o e = grind arith

-- after octets that were handed over
less_shown : (f : Side) (p : TwoEnds) (k : ℕ) (e : End) (h g : Held) →
    reachable f (shown_pair (other f) e h (handed f k g p)) ≡ reachable f p - k
less_shown f p k e h g = grind (arith, length-drop, within_less)

-- ---- what is handed over first

abbrev pub more_held : Side → ℕ → TwoEnds → Held
more_held f k p = record (end_at (other f) p).held { octets = (end_at (other f) p).held.octets ++ take k (end_at f p).end.carrier.outgoing }

pub handed_there : (f : Side) (k : ℕ) (h : Held) (p : TwoEnds) →
    end_at (other f) (handed f k h p) ≡ record { end = (end_at (other f) p).end; held = h }
handed_there f k h p = grind arith

-- ---- what is handed over after it: of that an end that lasts holds nothing

handed_twice : (f : Side) (p : TwoEnds) (k j n : ℕ) (e : End) (rest h g : Held) → k + j ≡ n →
    handed f j h (shown_pair (other f) e rest (handed f k g p)) ≡ shown_pair (other f) e h (handed f n h p)
handed_twice f p k j n e rest h g is = grind (arith, shown_pair, handed, drop-drop, reach_twice)

over_not : {A : Type 0} (o : Option EndReason) → is_some o ≡ true → o ≡ None → A
over_not o e h = grind arith

-- ---- a piece is fed

-- the piece: the first `most` octets that the end has to send
abbrev pub piece_of : Side → ℕ → TwoEnds → List ℕ
piece_of f most p = take most (end_at f p).end.carrier.outgoing

pub piece_long : (f : Side) (most : ℕ) (p : TwoEnds) → most ≤ reachable f p → length (piece_of f most p) ≡ most
piece_long f most p le = let l = length-take most (end_at f p).end.carrier.outgoing in let m = reach_most f p in omega arith

-- memory runs out for a packet, or before it
ran_out : CarryLaws → (s : Side) (p : TwoEnds) (steps : List Step) (before new : End) (rest : Held) → StandsAt p steps → Lasts s p →
    end_at s p ≡ record { end = before; held = rest } →
    (new ≡ ends NoMemory before) ⊎ ((packet : List ℕ) × ArePackets (packet ∷ []) rest.octets [] × Starves before packet new) →
    (h : Held) × StandsOut s p steps new h
ran_out laws s p steps before new rest at alive here (inl is) = (
  rest,
  subst (λ (e : End). StandsOut s p steps e rest) (ap (λ (b : Holding). ends NoMemory b.end) here ∙ sym is)
      ((of_packets laws).ended p steps s rest at alive),
)
ran_out laws s p steps before new rest at alive here (inr st) =
    let none : Held = record rest { octets = [] } in
    let packs = st.1 in (
      none,
      (of_packets laws).starved p steps s st.0 packs.0 new none at alive packs.2
          (ap (λ (b : Holding). b.held.octets) here ∙ packs.3 ∙ ap (λ (l : List ℕ). packs.0 ++ l) packs.4)
          (subst (λ (b : Holding). Starves b.end st.0 new) (sym here) st.2),
    )

module _ (laws : CarryLaws) (f : Side) (p : TwoEnds) (steps : List Step) (most used : ℕ) (new : Holding) (at : StandsAt p steps)
    (alive : Lasts (other f) p) (le : most ≤ reachable f p) where
  -- the first of it make packets
  packed : (k : ℕ) (octets : List ℕ) (units : List (List ℕ)) (mid : End) (rest : Held) → k ≤ reachable f p →
      octets ≡ take k (end_at f p).end.carrier.outgoing → TakesPackets (end_at (other f) p).end units mid →
      ArePackets units ((end_at (other f) p).held.octets ++ octets) rest.octets →
      StandsFew (other f) (handed f k (more_held f k p) p) steps mid rest
  packed k octets units mid rest few is taken packets =
      let g = more_held f k p in
      let there = handed_there f k g p in
      packets_stand (of_packets laws) laws.carried units (other f) (handed f k g p) steps mid rest
      (handed_at laws.carried f p steps k g at few (λ lasts. refl))
      (ap (λ (b : Holding). b.end.carrier.ended) there ∙ alive)
      (subst (λ (b : Holding). TakesPackets b.end units mid) (sym there) taken)
      (grind arith)

  abbrev FedStands : Type 0
  FedStands = StandsFew (other f) (handed f used new.held p) steps new.end new.held

  -- the others are handed over after them: of those an end that lasts holds nothing
  finished : (k : ℕ) (rest : Held) → k ≤ used → used ≤ reachable f p →
      (new.end.carrier.ended ≡ None → (used ≤ k) × (new.held.octets ≡ rest.octets)) →
      StandsFew (other f) (handed f k (more_held f k p) p) steps new.end rest → FedStands
  finished k rest least few all x =
      let g = more_held f k p in
      let q = shown_pair (other f) new.end rest (handed f k g p) in
      let left = less_shown f p k new.end rest g in
      let now = handed_at laws.carried f q (steps ++ x.stands.more) (used - k) new.held x.stands.stands (omega arith)
      (grind (arith, append-nil)) in
      record {
        stands = record {
          more = x.stands.more;
          are = x.stands.are;
          stands = subst (λ (b : TwoEnds). StandsAt b (steps ++ x.stands.more))
              (handed_twice f p k (used - k) used new.end rest new.held g (omega arith)) now;
        };
        few = x.few;
      }

  dry_stands : RunsDry (end_at (other f) p) (piece_of f most p) used new → FedStands
  dry_stands d =
      let long = piece_long f most p le in
      finished most new.held (omega arith) (omega arith) (λ lasts. (omega arith, refl))
      (packed most (piece_of f most p) d.units new.end new.held le refl d.taken d.packets)

  behind_stands : StopsBehind (end_at (other f) p) (piece_of f most p) used new → FedStands
  behind_stands d =
      let long = piece_long f most p le in
      let k = d.within in
      let at_least : k ≤ used = grind arith in
      let at_most : used ≤ length (piece_of f most p) = grind (arith, d.uses) in
      finished k new.held (omega arith) (omega arith) (grind arith)
      (packed k (take k (piece_of f most p)) d.units new.end new.held (omega arith)
      (take-take k most (end_at f p).end.carrier.outgoing (omega arith)) d.taken (subst (λ (l : List ℕ).
      ArePackets d.units ((end_at (other f) p).held.octets ++ take k (piece_of f most p)) l) (sym d.held) d.packets))

  -- there is no fault of the stream
  refused_not : Refuses (end_at (other f) p) (piece_of f most p) used new → ⊥
  refused_not d =
      let g = more_held f most p in
      let rest : Held = record g { octets = d.cut.0 } in
      let y = packed most (piece_of f most p) d.units d.before rest le refl d.taken d.cut.1 in
      grind (arith, laws.sound)

  pub memory_stands : FindsNoMemory (end_at (other f) p) (piece_of f most p) used new →
      StandsOut (other f) (handed f used new.held p) steps new.end new.held
  memory_stands d =
      let long = piece_long f most p le in
      let all = d.all in
      let k = d.within in
      let q = handed f k (more_held f k p) p in
      let rest : Held = record (more_held f k p) { octets = d.rest } in
      let y = packed k (take k (piece_of f most p)) d.units d.before rest (omega arith)
      (take-take k most (end_at f p).end.carrier.outgoing (omega arith)) d.taken d.packets in
      let z = still_goes (other f) q steps d.before rest d.quiet y.stands in
      let x = ran_out laws (other f) (with_holding (other f) d.before rest q) (steps ++ z.more) d.before new.end rest z.stands z.lasts
      z.here (found_how (end_at (other f) p) (piece_of f most p) used new d) in
      record {
        all = finished k x.0 (omega arith) (omega arith) (λ lasts. over_not new.end.carrier.ended (ap is_some x.1.named) lasts)
            (behind (other f) q steps d.before rest new.end x.0 z x.1.all);
        named = x.1.named;
      }

  goes_stands : Goes (end_at (other f) p) (piece_of f most p) used new → FedStands
  goes_stands (inl (inl d)) = dry_stands d
  goes_stands (inl (inr d)) = behind_stands d
  goes_stands (inr (inl d)) = absurd (refused_not d)
  goes_stands (inr (inr d)) = (memory_stands d).all

-- ---- all pending indications are given

-- all at once, if no more is pending than that
record AllShown (old : Holding) (first : List (ℕ × Shown)) (new : Holding) : Type 0 where
  all : first ≡ waiting_in old.end.lines
  is : new ≡ record old { end = record old.end { lines = quieted old.end.lines } }

all_shown : (old : Holding) (first : List (ℕ × Shown)) (new : Holding) → ShowsFirst old first new → length (waiting_in old.end.lines) ≤ 81 →
    AllShown old first new
all_shown old first new s few = grind (arith, length-append, nil_from_length, append-nil, quiet_same)

-- ---- a piece is carried

-- two ends while octets of this side are carried
abbrev pub crossed : Side → Crossing → Option Reach → TwoEnds
crossed Left c o = record { left = c.from; right = c.to; reach = o; journal = c.journal }
crossed Right c o = record { left = c.to; right = c.from; reach = o; journal = c.journal }

same_crossing : (c : Crossing) (from to : Holding) (journal : List Entry) → c.from ≡ from → c.to ≡ to → c.journal ≡ journal →
    c ≡ record { from = from; to = to; journal = journal }
same_crossing c from to journal a b d = grind arith

-- to an end that lasts
pub piece_alive : CarryLaws → (f : Side) (p : TwoEnds) (steps : List Step) (most used : ℕ) (new : Crossing) → StandsAt p steps →
    Lasts (other f) p → most ≤ reachable f p → CarriesPiece (other f) most (crossing f p) used new →
    StandsAtArrivals (other f) (crossed f new (reach_after f used p.reach)) steps
piece_alive laws f p steps most used new at alive le c =
    let s = other f in
    let quiet = quiet_of s p at.now (run (start (terms_in (terms_at p))) steps) at.stands in
    let fed = c.feeds in
    let goes : Goes (end_at s p) (piece_of f most p) used c.between =
    subst (λ (n : ℕ). Goes (end_at s p) (piece_of f most p) n c.between) fed.uses (fed.feeds.goes (goes_on (end_at s p).end alive quiet)) in
    let x = goes_stands laws f p steps most used c.between at alive le goes in
    let all = all_shown c.between c.first new.to c.shows x.few in
    let says : new.journal ≡ p.journal ++ told_entries s None c.between.end.carrier.ended (waiting_in c.between.end.lines) = grind arith in
    subst (λ (q : TwoEnds). StandsAtArrivals s q steps)
    (grind arith) x.stands

-- to an end that has ended
pub piece_over : CarryLaws → (f : Side) (p : TwoEnds) (steps : List Step) (most used : ℕ) (new : Crossing) (why : EndReason) →
    StandsAt p steps → (end_at (other f) p).end.carrier.ended ≡ Some why → most ≤ reachable f p →
    CarriesPiece (other f) most (crossing f p) used new → StandsAt (crossed f new (reach_after f used p.reach)) steps
piece_over laws f p steps most used new why at over le c =
    let s = other f in
    let quiet = quiet_of s p at.now (run (start (terms_in (terms_at p))) steps) at.stands in
    let fed = c.feeds in
    let none = fed.feeds.over (ap is_some over) in
    let all_used : used ≡ most = sym fed.uses ∙ none.0 ∙ (piece_long f most p le) in
    let all = all_shown c.between c.first new.to c.shows (grind arith) in
    let to : new.to ≡ end_at s p = grind (arith, quiet_same) in
    let says : new.journal ≡ p.journal = grind (arith, append-nil) in
    subst (λ (q : TwoEnds). StandsAt q steps)
    (grind (arith, same_crossing))
    (handed_at laws.carried f p steps used (end_at s p).held at (omega arith)
    (λ lasts. over_not (end_at s p).end.carrier.ended (ap is_some over) lasts))
