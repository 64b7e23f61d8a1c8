-- A piece of the stream, read by looks that each take packets up to one that causes an event.
use Rattle.osi_stack.proofs.Vocabulary.{append-nil, empty_list, take-append-drop, take_at, or_right, or_left, IsPartial, IsFaultOf}
use Rattle.osi_stack.proofs.Vocabulary.{ArePackets, offset_of, TpktFault, Value, TpduFault, packets_more, packets_leave, Carrying}
use Rattle.osi_stack.proofs.Vocabulary.{HasToHold, is_spoilt, ActsBy, Rows, State as Carrier, Tpkt, EndReason, Fault, NoMemory, stops}
use Rattle.osi_stack.proofs.Vocabulary.{TakesPackets, RunsDry, StopsBehind, FindsNoRoom, FindsNoMemory, Goes, FeedsToEvent, attends}
use Rattle.osi_stack.proofs.Vocabulary.{with_carrier, ends, RunsOut, Starves, Line, End, Holding, IsAttended, waits, ◌≡◌, ℕ, ◌+◌, ◌-◌, ◌<◌}
use Rattle.osi_stack.proofs.Vocabulary.{◌≤◌, ◌==◌, true, false, List, [], ◌∷◌, ◌++◌, length, take, drop, Option, Result, is_some, refl, sym}
use Rattle.osi_stack.proofs.Vocabulary.{ap, subst, ◌∙◌, inl, inr, ◌⊎◌, arith, length-append, length-drop, append_assoc, if◌then◌else◌}
use Rattle.osi_stack.proofs.Vocabulary.{drop-append_seam}
use Rattle.osi_carrier.specs.Packets as carriers
use Rattle.osi_carrier.specs.State as states
use Rattle.osi_stack.specs.Feeding.{Refuses}
use Rattle.osi_stack.proofs.carried.events_one_after_the_other.{carrying_of, never_starved, concluded_carrier, all_keep_by}
use Rattle.osi_stack.proofs.stream.the_room_for_a_packet.{room_stays, less_room, packet_faultless, first_part}
use Rattle.osi_stack.proofs.carried.packets_without_events.{or_second, IsQuiet, quiet_is, quiet_attends, quiet_stops, lift_dry, last_is}
use Rattle.osi_stack.proofs.carried.packets_without_events.{takes_append, packets_append, packets_part, lift_last}

-- ---- the progress of reading a piece

-- the packets before `rest` have acted, and none of them stopped
pub record IsRead (old : Holding) (piece : List ℕ) (now : Holding) (rest : List ℕ) : Type 0 where
  pub front : List ℕ
  pub units : List (List ℕ)
  pub cut : piece ≡ front ++ rest
  pub packets : ArePackets units (old.held.octets ++ front) now.held.octets
  pub taken : TakesPackets old.end units now.end
  pub quiet : stops now.end ≡ false
  pub attended : IsAttended now.end
  pub offset : (n : ℕ) →
      offset_of (now.held.offset + n) ≡ offset_of (old.held.offset + ((length (old.held.octets ++ front) - length now.held.octets) + n))
  pub room : old.held.room ≤ now.held.room
  pub first : (front ≡ []) ⊎ (now.held.octets ≡ [])

pub read_first : (old : Holding) (piece : List ℕ) → stops old.end ≡ false → IsAttended old.end → IsRead old piece old piece
read_first old piece quiet attended =
    let none = length-append old.held.octets [] in
    record {
      front = [];
      units = [];
      cut = refl;
      packets = append-nil old.held.octets;
      taken = refl;
      quiet = quiet;
      attended = attended;
      offset = grind arith;
      room = omega arith;
      first = inl refl;
    }

-- ---- a carrier on which nothing is pending

pub quiet_end : (e : End) → stops e ≡ false → IsAttended e → carriers.stops e.carrier ≡ false
quiet_end e quiet attended = grind arith

-- ---- events that were handled

-- the carrier ended without an event
ended_attends : (c d : Carrier) (lines : Rows Line) (reason : EndReason) → d ≡ states.ends reason c → IsQuiet c →
    attends (record { carrier = d; lines = lines }) ≡ ends reason (record { carrier = c; lines = lines })
ended_attends c d lines reason h q = grind arith

attends_spoilt : (e new : End) → new ≡ attends e → is_spoilt new.carrier.ended ≡ is_spoilt e.carrier.ended
attends_spoilt e new h = grind (arith, concluded_carrier, all_keep_by)

acts_is : (old new : Carrier) (packet : List ℕ) → new ≡ carriers.after_packet old packet → carriers.Acts old packet new
unfolding carriers.after_packet
acts_is old new packet h = grind arith

acts_starved : (old new : Carrier) (packet : List ℕ) → carriers.Starves old packet new → carriers.Acts old packet new
acts_starved old new packet h = subst (λ (u : Result (List Value) TpduFault). ActsBy u old new) (sym h.1) (inr h.2)

-- ---- lists

record Looked (piece front rest : List ℕ) (within : ℕ) : Type 0 where
  cut : piece ≡ (front ++ take within rest) ++ drop within rest
  seen : take (length (front ++ take within rest)) piece ≡ front ++ take within rest
  bound : length (front ++ take within rest) ≤ length piece
  behind : drop (length (front ++ take within rest)) piece ≡ drop within rest

looked : (piece front rest : List ℕ) (within : ℕ) → piece ≡ front ++ rest → Looked piece front rest within
looked piece front rest within cut =
    let parts : piece ≡ (front ++ take within rest) ++ drop within rest =
    cut ∙ ap (λ l. front ++ l) (sym (take-append-drop within rest)) ∙ sym (append_assoc front (take within rest) (drop within rest)) in
    grind (arith, length-append, take_at, drop-append_seam)

-- ---- one look

-- the last packet caused an event
record IsBehind (old : Holding) (piece rest : List ℕ) (used : ℕ) (new : Holding) : Type 0 where
  within : ℕ
  front : List ℕ
  units : List (List ℕ)
  bound : within ≤ length rest
  uses : used ≡ (if is_spoilt new.end.carrier.ended then length rest else within)
  cut : piece ≡ front ++ drop within rest
  seen : take (length front) piece ≡ front
  at_most : length front ≤ length piece
  packets : ArePackets units (old.held.octets ++ front) []
  taken : TakesPackets old.end units new.end
  held : new.held.octets ≡ []
  offset : (n : ℕ) → offset_of (new.held.offset + n) ≡ offset_of (old.held.offset + (length (old.held.octets ++ front) + n))
  place : new.held.offset ≡ offset_of (old.held.offset + length (old.held.octets ++ front))
  room : old.held.room ≤ new.held.room

-- all was looked at: nothing stopped, or it ended by a fault or because memory ran out
record IsFinal (old : Holding) (piece rest : List ℕ) (used : ℕ) (new : Holding) : Type 0 where
  all : used ≡ length rest
  goes : Goes old piece (length piece) new

abbrev Look : Holding → List ℕ → List ℕ → ℕ → Holding → Type 0
Look old piece rest used new = IsBehind old piece rest used new ⊎ IsFinal old piece rest used new

module _ (old : Holding) (piece : List ℕ) (now : Holding) (rest : List ℕ) (read : IsRead old piece now rest) where
  -- no indication is pending
  none_waits : waits now.end.lines ≡ false
  none_waits = or_second (is_some now.end.carrier.ended) (waits now.end.lines) read.quiet

  -- the packets so far, with more octets after them
  more_packets : (more : List ℕ) → ArePackets read.units (old.held.octets ++ (read.front ++ more)) (now.held.octets ++ more)
  more_packets more = grind (arith, append_assoc, packets_more)

  -- the offset, if this many octets are left
  place_of_rest : (left : ℕ) → left ≤ length (now.held.octets ++ rest) →
      offset_of (now.held.offset + (length (now.held.octets ++ rest) - left))
      ≡ offset_of (old.held.offset + (length (old.held.octets ++ (read.front ++ rest)) - left))
  place_of_rest left within = grind (arith, packets_leave, length-append, length, offset_of)

  -- what the carrier did in the look
  module _ (fed : ℕ) (told : Carrying) (new : Holding) (held : new.held ≡ told.held) where
    dry_is : carriers.RunsDry (carrying_of now) rest fed told → new.end ≡ with_carrier told.state now.end →
        RunsDry old piece (length piece) new
    dry_is g is =
        let whole = more_packets rest in
        let left = packets_leave g.units (now.held.octets ++ rest) told.held.octets g.packets in
        grind (
          arith,
          packets_append,
          takes_append,
          quiet_stops,
          lift_dry now.end.lines now.end.carrier told.state g.units none_waits g.taken g.quiet,
          quiet_is told.state g.quiet,
          place_of_rest (length told.held.octets) left,
          room_stays old.held.room now.held.room told.held new.held read.room g.room held,
        )

    behind_is : (used : ℕ) → carriers.StopsBehind (carrying_of now) rest fed told → new.end ≡ attends (with_carrier told.state now.end) →
        used ≡ fed → IsBehind old piece rest used new
    behind_is used g is same =
        let look = looked piece read.front rest g.within read.cut in
        let before = packets_leave read.units (old.held.octets ++ read.front) now.held.octets read.packets in
        let a = length-append now.held.octets (take g.within rest) in
        let b = length-append old.held.octets read.front in
        let c = length-append old.held.octets (read.front ++ take g.within rest) in
        let d = length-append read.front (take g.within rest) in
        let spoilt = attends_spoilt (with_carrier told.state now.end) new.end is in
        let more = more_packets (take g.within rest) in
        record {
          within = g.within;
          front = read.front ++ take g.within rest;
          units = read.units ++ g.units;
          bound = g.bound;
          uses = grind arith;
          cut = look.cut;
          seen = look.seen;
          at_most = look.bound;
          packets = grind (arith, packets_append);
          taken = grind (arith, takes_append, lift_last, quiet_end);
          held = grind arith;
          offset = grind arith;
          place = grind arith;
          room = grind arith;
        }

    -- memory ran out for the effect of the last packet
    stopped_is : carriers.StopsBehind (carrying_of now) rest fed told → RunsOut (with_carrier told.state now.end) new.end →
        FindsNoMemory old piece (length piece) new
    stopped_is g out =
        let look = looked piece read.front rest g.within read.cut in
        let l = last_is now.end.carrier told.state g.units g.taken (quiet_end now.end read.quiet read.attended) g.stopped in
        let parts = packets_part l.first (l.last ∷ []) (now.held.octets ++ take g.within rest) []
        (subst (λ us. ArePackets us (now.held.octets ++ take g.within rest) []) l.all g.packets) in
        let before = with_carrier l.before now.end in
        record {
          within = length (read.front ++ take g.within rest);
          units = read.units ++ l.first;
          rest = parts.between;
          before = before;
          all = refl;
          bound = look.bound;
          packets = grind (arith, packets_append, more_packets (take g.within rest));
          taken = grind (arith, none_waits, takes_append, lift_dry);
          quiet = quiet_stops before (quiet_is l.before l.quiet).lasts none_waits;
          how = inr (l.last, parts.back, inr (told.state, acts_is l.before told.state l.last l.acts, out));
          held = grind arith;
          faultless = packet_faultless l.last parts.between (drop (length (read.front ++ take g.within rest)) piece) parts.back;
        }

    refuses_is : carriers.Refuses (carrying_of now) rest fed told → new.end ≡ attends (with_carrier told.state now.end) →
        Refuses old piece (length piece) new
    refuses_is g is =
        let before = with_carrier g.before now.end in
        let q = quiet_is g.before g.quiet in
        let left = packets_leave g.units (now.held.octets ++ rest) g.cut.0 g.cut.1 in
        let place = place_of_rest (length g.cut.0) left in
        record {
          units = read.units ++ g.units;
          fault = g.fault;
          before = before;
          all = refl;
          cut = grind (arith, packets_append, more_packets rest);
          taken = grind (arith, none_waits, takes_append, lift_dry);
          quiet = quiet_stops before q.lasts none_waits;
          ended = is ∙ ended_attends g.before told.state now.end.lines (Fault (Tpkt g.fault)) g.ended q;
          held = grind arith;
        }

    module _ (g : carriers.FindsNoMemory (carrying_of now) rest fed told) where
      -- there was no room, or memory ran out for the effect of the next packet
      abbrev HowStarved : Type 0
      HowStarved =
          FindsNoRoom old piece (length (read.front ++ take g.within rest)) g.rest (with_carrier g.before now.end) new.end
          ⊎ ((packet : List ℕ) × ArePackets (packet ∷ []) g.rest [] × Starves (with_carrier g.before now.end) packet new.end)

      no_room : carriers.FindsNoRoom (carrying_of now) rest g.within g.rest g.before told.state →
          new.end ≡ ends NoMemory (with_carrier g.before now.end) → HowStarved
      no_room none ended =
          inl (search (
            first_part g.units read.front now.held.octets g.within rest g.rest read.first none.first g.packets,
            subst (HasToHold old.held.room g.rest) (sym (looked piece read.front rest g.within read.cut).behind)
                (less_room now.held.room old.held.room g.rest (drop g.within rest) read.room none.holds),
          ))

      starved_how : (new.end ≡ attends (with_carrier told.state now.end)) ⊎ RunsOut (with_carrier told.state now.end) new.end → HowStarved
      starved_how heard =
          let q = quiet_is g.before g.quiet in
          elim (g.how) [
            | inl over ↦ elim heard [
              | inl is ↦ no_room over (is ∙ ended_attends g.before told.state now.end.lines NoMemory over.ended q)
              | inr out ↦ never_starved (with_carrier told.state now.end) new.end (ap (λ (c : Carrier). c.events) over.ended ∙ q.events) out
            ]
            | inr starved ↦ elim heard [
              | inl is ↦ inr (starved.0, starved.1, inl (told.state, starved.2, is))
              | inr out ↦ inr (starved.0, starved.1, inr (told.state, acts_starved g.before told.state starved.0 starved.2, out))
            ]
          ]

      starved_is : (new.end ≡ attends (with_carrier told.state now.end)) ⊎ RunsOut (with_carrier told.state now.end) new.end →
          FindsNoMemory old piece (length piece) new
      starved_is heard =
          let look = looked piece read.front rest g.within read.cut in
          let before = with_carrier g.before now.end in
          record {
            within = length (read.front ++ take g.within rest);
            units = read.units ++ g.units;
            rest = g.rest;
            before = before;
            all = refl;
            bound = look.bound;
            packets = grind (arith, packets_append, more_packets (take g.within rest));
            taken = grind (arith, none_waits, takes_append, lift_dry);
            quiet = quiet_stops before (quiet_is g.before g.quiet).lasts none_waits;
            how = starved_how heard;
            held = grind arith;
            faultless = subst (λ l. (at : ℕ) (fault : TpktFault) → IsFaultOf at (g.rest ++ l) fault → ⊥) (sym look.behind) g.faultless;
          }

  looks : (used : ℕ) (new : Holding) → FeedsToEvent now rest used new → Look old piece rest used new
  looks used new fetch =
      let there = with_carrier fetch.told.state now.end in
      let fed = fetch.fed.used in
      elim (fetch.feeds.goes (quiet_end now.end read.quiet read.attended)) [
        | inl (inl g) ↦ (
            let q = quiet_is fetch.told.state g.quiet in
            elim (fetch.heard) [
              | inl h ↦ inr
                  (record { all = h.1 ∙ g.all; goes = inl (inl (dry_is fed fetch.told new fetch.held g (h.0 ∙ quiet_attends there q))) })
              | inr h ↦ never_starved there new.end q.events h.0
            ]
            )
        | inl (inr g) ↦ elim (fetch.heard) [
          | inl h ↦ inl (behind_is fed fetch.told new fetch.held used g h.0 h.1)
          | inr h ↦ inr (record { all = h.1; goes = inr (inr (stopped_is fed fetch.told new fetch.held g h.0)) })
        ]
        | inr (inl g) ↦ elim (fetch.heard) [
          | inl h ↦ inr (record { all = h.1 ∙ g.all; goes = inr (inl (refuses_is fed fetch.told new fetch.held g h.0)) })
          | inr h ↦ never_starved there new.end (ap (λ (c : Carrier). c.events) g.ended ∙ (quiet_is g.before g.quiet).events) h.0
        ]
        | inr (inr g) ↦ elim (fetch.heard) [
          | inl h ↦ inr (record { all = h.1 ∙ g.all; goes = inr (inr (starved_is fed fetch.told new fetch.held g (inl h.0))) })
          | inr h ↦ inr (record { all = h.1; goes = inr (inr (starved_is fed fetch.told new fetch.held g (inr h.0))) })
        ]
      ]

-- ---- how reading continues, and how it ends

-- nothing is left of the piece
all_used : (rest : List ℕ) (used : ℕ) → used ≡ length rest → length (drop used rest) ≡ 0
all_used rest used e = let dropped = length-drop used rest in omega arith

-- it went on after the packet that caused an event
uses_on : (o : Option EndReason) (used all within : ℕ) → is_some o ≡ false → used ≡ (if is_spoilt o then all else within) → used ≡ within
uses_on o used all within e h = grind arith

module _ (old : Holding) (piece : List ℕ) (now : Holding) (rest : List ℕ) (used : ℕ) (new : Holding) (read : IsRead old piece now rest)
    (fetch : FeedsToEvent now rest used new) where
  pub read_waits : waits new.end.lines ≡ true → Goes old piece (length piece - length (drop used rest)) new
  read_waits waiting = elim (looks old piece now rest read used new fetch) [
    | inl b ↦ inl (inr (grind (arith, or_right, all_used, length-append)))
    | inr f ↦
        let none = all_used rest used f.all in
        let same : length piece ≡ length piece - length (drop used rest) = omega arith in
        subst (λ n. Goes old piece n new) same f.goes
  ]

  pub read_ended : waits new.end.lines ≡ false → is_some new.end.carrier.ended ≡ true → Goes old piece (length piece) new
  read_ended none over = elim (looks old piece now rest read used new fetch) [
    | inl b ↦ inl (inr (grind (arith, or_left)))
    | inr f ↦ f.goes
  ]

  pub read_on : waits new.end.lines ≡ false → is_some new.end.carrier.ended ≡ false → 0 < length (drop used rest) →
      IsRead old piece new (drop used rest)
  read_on none lasts some = elim (looks old piece now rest read used new fetch) [
    | inl b ↦
        let on = uses_on new.end.carrier.ended used (length rest) b.within lasts b.uses in
        let quiet = quiet_stops new.end lasts none in
        let attended = fetch.attended in
        grind arith
    | inr f ↦ let nothing = all_used rest used f.all in absurd (omega arith)
  ]

pub read_dry : (old : Holding) (piece : List ℕ) (now : Holding) (rest : List ℕ) (used : ℕ) (new : Holding) → IsPartial [] →
    IsRead old piece now rest → FeedsToEvent now rest used new →
    waits new.end.lines ≡ false → is_some new.end.carrier.ended ≡ false → length (drop used rest) ≡ 0 → Goes old piece (length piece) new
read_dry old piece now rest used new nothing read fetch none lasts e = elim (looks old piece now rest read used new fetch) [
  | inl b ↦
      let on = uses_on new.end.carrier.ended used (length rest) b.within lasts b.uses in
      let quiet = quiet_stops new.end lasts none in
      let all = empty_list (drop used rest) e in
      inl (inl (grind (arith, append-nil)))
  | inr f ↦ f.goes
]

pub nonzero : (n : ℕ) → (n == 0) ≡ false → 0 < n
nonzero n e = grind arith
