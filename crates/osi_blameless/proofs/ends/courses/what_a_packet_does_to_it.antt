-- A packet takes effect, or memory runs out for it: what becomes of the course of one connection. And pieces of the stream.
-- For the course of a connection.
use Rattle.osi_blameless.proofs.ends.Vocabulary.{[], ap, append_assoc, arith, Bool, drop, Err, false, inl, inr, is_some, IsSome, length}
use Rattle.osi_blameless.proofs.ends.Vocabulary.{List, None}
use Rattle.osi_blameless.proofs.ends.Vocabulary.{Ok, Option, refl, Result, Some, subst, sym, take, true, ℕ, ◌++◌, ◌∙◌, ◌∷◌, ◌≡◌, ◌⊎◌}
use Rattle.osi_blameless.proofs.ends.Vocabulary.{append-nil}
use Rattle.osi_blameless.proofs.ends.Vocabulary.{take-append-drop, take_all, AllByRecursion, IsOctets, ArePackets, Fed, units_found}
use Rattle.osi_blameless.proofs.ends.Vocabulary.{AreUnits}
use Rattle.osi_blameless.proofs.ends.Vocabulary.{units_of, Value, TpduFault, orderly_closed, orderly_end, orderly_same, orderly_sent}
use Rattle.osi_blameless.proofs.ends.Vocabulary.{orderly_unit}
use Rattle.osi_blameless.proofs.ends.Vocabulary.{acts_cases, IsOrderly, reacts, State as Carrier, EndReason, NoMemory, starved_over}
use Rattle.osi_blameless.proofs.ends.Vocabulary.{lasting_of}
use Rattle.osi_blameless.proofs.ends.Vocabulary.{packet_is, quiet_stops, none_ended, found_how, packets_kept, attended_kept, Feeds}
use Rattle.osi_blameless.proofs.ends.Vocabulary.{FindsNoMemory}
use Rattle.osi_blameless.proofs.ends.Vocabulary.{Goes as GoesThrough, StopsBehind, TakesPackets, uses_all, after_packet, attends, ends}
use Rattle.osi_blameless.proofs.ends.Vocabulary.{hears_times}
use Rattle.osi_blameless.proofs.ends.Vocabulary.{RunsOut, Starves, starves, with_carrier, with_events, End, Holding, IsAttended, waits}
use Rattle.osi_blameless.proofs.ends.Vocabulary.{Deeds}
use Rattle.osi_blameless.proofs.ends.Vocabulary.{units_in, units_by, is_gone, flat_map-append, if◌then◌else◌, Happening, Makes, all_units}
use Rattle.osi_blameless.proofs.ends.Vocabulary.{orderly_asks}
use Rattle.osi_carrier.specs.Packets as carriers
use Rattle.osi_carrier.specs.State as states
use Rattle.osi_blameless.specs.ends.Doing as doing
use Rattle.osi_blameless.proofs.ends.at_any_time.an_end_that_is_over_does_nothing.{never_lasts}
use Rattle.osi_blameless.proofs.ends.reading.how_much_of_a_piece_is_used.{all_octets, more_used, stopped_within}
use Rattle.osi_blameless.proofs.ends.courses.steps_of_a_course.{HoldEach, StepsBy, same_rest, step_after, step_as, step_more, step_none}
use Rattle.osi_blameless.proofs.ends.courses.steps_of_a_course.{step_then}
use Rattle.osi_blameless.proofs.ends.links.the_connections_of_each_class.{IsSound, class_kept, sound_unit}
use Rattle.osi_blameless.proofs.ends.links.what_another_connection_leaves.{course_over}
use Rattle.osi_blameless.proofs.ends.courses.what_sessions_hear_of_it.{CourseAll, Known, attended, times_heard}
use Rattle.osi_blameless.proofs.ends.courses.what_units_do_to_a_course.{CalmAll, NowAll, calm_over, leads_step, units_step}
use Rattle.osi_blameless.proofs.ends.courses.what_units_do_to_a_course.Calm.{is_still}
use Rattle.osi_blameless.proofs.ends.links.what_a_unit_does_to_a_connection.{NoneOf}
use Rattle.osi_blameless.proofs.ends.courses.what_waits_to_be_heard.{waits_over}
use Rattle.osi_blameless.proofs.ends.courses.what_waits_to_be_heard.Waits.{away}
use Rattle.osi_blameless.proofs.ends.reading.two_readings_of_a_stream_agree.{packets_on, packets_then}
use Rattle.osi_blameless.proofs.ends.links.what_a_unit_keeps_a_turn_keeps.{IsKept, makes_kept}
use Rattle.osi_blameless.proofs.ends.links.how_long_a_connection_is_open.Stage.{early, past}
use Rattle.osi_blameless.proofs.ends.links.how_long_a_connection_is_open.{rests_over, stage_at, stage_over}

-- ---- what holds of each carrier

pub orderly_kept : IsKept IsOrderly
orderly_kept = search (arith, orderly_unit, orderly_sent, orderly_closed, orderly_asks, orderly_same, orderly_end)

pub sound_kept : IsKept IsSound
sound_kept = record {
  reacts_to = sound_unit;
  carries = record {
    sends = λ r tsdu c h. record {
      orderly = orderly_kept.carries.sends r tsdu c h.orderly;
      by_class = class_kept.carries.sends r tsdu c h.by_class;
    };
    closes = λ r c h. record { orderly = orderly_kept.carries.closes r c h.orderly; by_class = class_kept.carries.closes r c h.by_class };
  };
  asks_for = λ calling called c may h. record {
    orderly = orderly_kept.asks_for calling called c may h.orderly;
    by_class = class_kept.asks_for calling called c may h.by_class;
  };
  untold = λ events c h. record { orderly = orderly_kept.untold events c h.orderly; by_class = class_kept.untold events c h.by_class };
  ends_so = λ reason c h. record { orderly = orderly_kept.ends_so reason c h.orderly; by_class = class_kept.ends_so reason c h.by_class };
}

-- memory runs out for an event
starves_made : (events : List Happening) (e : End) → Makes e.carrier [] [] (starves (with_events events e)).carrier
starves_made events e = by (is_some e.carrier.ended) e.carrier
  where
    by : (b : Bool) (c : Carrier) →
        Makes c [] [] (if b then record c { events = events } else states.ends NoMemory (record c { events = events }))
    by true c = doing.hears events c
    by false c =
        let untold : Carrier = record c { events = events } in
        doing.and_then c untold (states.ends NoMemory untold) [] [] [] [] (doing.hears events c) (doing.ends_so NoMemory untold)

-- an end between two packets
pub record Between (e : End) : Type 0 where
  pub sound : IsSound e.carrier
  pub attended : IsAttended e

-- it is sound after what was done at its carrier
then_between : (packets : List (List ℕ)) (took put : List Value) (old new : End) → Makes old.carrier took put new.carrier →
    TakesPackets old packets new → Between old → Between new
then_between packets took put old new makes takes b = record {
  sound = makes_kept IsSound sound_kept old.carrier new.carrier took put makes b.sound;
  attended = packets_kept IsAttended attended_kept packets old new takes b.attended;
}

module _ (known : Known) (is_caller : Bool) where
  abbrev CourseSteps : List Value → (ℕ → Deeds) → End → End → Type 0
  CourseSteps used moves old new = StepsBy is_caller used (CourseAll is_caller) moves old.carrier new

  abbrev Courses : (ℕ → Deeds) → End → Type 0
  Courses moves e = HoldEach (CourseAll is_caller) moves e

  calm_of : (moves : ℕ → Deeds) (e : End) → e.carrier.events ≡ [] → Courses moves e → HoldEach (CalmAll is_caller) moves e
  calm_of moves e none course = λ r. is_still (subst (NoneOf r) (sym none) tt) (course r)

  -- ---- one packet

  acted : (u : List ℕ) (found : Result (List Value) TpduFault) (moves : ℕ → Deeds) (e : End) → IsOctets u → units_of u ≡ found →
      IsSound e.carrier → HoldEach (CalmAll is_caller) moves e →
      StepsBy is_caller (units_by found) (NowAll is_caller) moves e.carrier (with_carrier (carriers.acts_by found e.carrier) e)
  acted u (Ok units) moves e octets is h calm = units_step is_caller units u (units_found u units octets is) moves e h calm
  acted u (Err fault) moves e octets is h calm =
      step_none is_caller (NowAll is_caller) moves e.carrier (with_carrier (carriers.acts_by (Err fault) e.carrier) e)
      (doing.ends_so _ e.carrier) (grind (arith, rests_over, stage_at, past, early, stage_over))
      (λ r. away (calm_over is_caller r (moves r) e (with_carrier (carriers.acts_by (Err fault) e.carrier) e) (calm r) refl))

  carried_out : (u : List ℕ) (moves : ℕ → Deeds) (e : End) → IsOctets u → IsSound e.carrier → HoldEach (CalmAll is_caller) moves e →
      StepsBy is_caller (units_by (units_of u)) (NowAll is_caller) moves e.carrier
      (with_carrier (carriers.after_packet e.carrier u) e)
  unfolding carriers.after_packet
  carried_out u moves e octets h calm = acted u (units_of u) moves e octets refl h calm

  packet_steps : (u : List ℕ) (moves : ℕ → Deeds) (e : End) → IsOctets u → Between e → e.carrier.ended ≡ None → Courses moves e →
      CourseSteps (units_by (units_of u)) moves e (after_packet e u)
  packet_steps u moves e octets b lasts course =
      let mid = with_carrier (carriers.after_packet e.carrier u) e in
      step_after is_caller (units_by (units_of u)) (NowAll is_caller) (CourseAll is_caller) moves e.carrier mid (after_packet e u)
      (carried_out u moves e octets b.sound (calm_of moves e (b.attended lasts) course))
      (grind (arith, attended, packet_is e u))

  pub takes_steps : (packets : List (List ℕ)) (moves : ℕ → Deeds) (old new : End) → AllByRecursion IsOctets packets → Between old →
      Courses moves old → TakesPackets old packets new → CourseSteps (units_in packets) moves old new
  takes_steps [] moves old new octets b course takes =
      grind (
        arith,
        step_none is_caller (CourseAll is_caller) moves old.carrier old (doing.rests old.carrier)
            (same_rest old.carrier) course,
      )
  takes_steps (u ∷ packets) moves old new octets b course takes =
      let mid = after_packet old u in
      let lasts = lasting_of old.carrier.ended (waits old.lines) takes.0 in
      let first = packet_steps u moves old octets.0 b lasts course in
      let now = then_between (u ∷ []) (units_by (units_of u)) (all_units first.put) old mid first.makes (takes.0, refl) b in
      step_then is_caller (units_by (units_of u)) (units_in packets) (CourseAll is_caller) (CourseAll is_caller) moves old.carrier mid new
      first (λ after then_course. takes_steps packets after mid new octets.1 now then_course takes.1)

  -- ---- memory runs out

  -- for a unit
  unit_starved : (u : List ℕ) (units : List Value) (moves : ℕ → Deeds) (e : End) (c : Carrier) → AreUnits units u → IsSound e.carrier →
      HoldEach (CalmAll is_caller) moves e → carriers.RunsOut e.carrier units c →
      StepsBy is_caller units (NowAll is_caller) moves e.carrier (with_carrier c e)
  unit_starved u units moves e c us h calm out =
      let before = with_carrier (reacts out.done e.carrier) e in
      let over_now = with_carrier (states.ends NoMemory (reacts out.done e.carrier)) e in
      subst (λ (x : Carrier). StepsBy is_caller units (NowAll is_caller) moves e.carrier (with_carrier x e)) (sym out.ended)
      (subst (λ (l : List Value). StepsBy is_caller l (NowAll is_caller) moves e.carrier over_now) (sym out.all)
      (step_more is_caller out.done (out.next ∷ out.more) (NowAll is_caller) moves e.carrier over_now refl
      (step_as is_caller out.done (CalmAll is_caller) (NowAll is_caller) moves e.carrier before over_now
      (leads_step is_caller out.done out.next out.more u (subst (λ (l : List Value). AreUnits l u) out.all us) moves e h calm)
      (doing.ends_so NoMemory before.carrier) (grind (arith, rests_over, stage_at, past, early, stage_over))
      (λ r after then_calm. away (calm_over is_caller r after before over_now then_calm refl)))))

  -- for an event
  event_starved : (moves : ℕ → Deeds) (e new : End) → HoldEach (NowAll is_caller) moves e → RunsOut e new → CourseSteps [] moves e new
  event_starved moves e new w out =
      let mid = hears_times out.heard e in
      let over_now = starves (with_events out.more mid) in
      subst (CourseSteps [] moves e) (sym out.starved)
      (step_as is_caller [] (NowAll is_caller) (CourseAll is_caller) moves e.carrier mid over_now
      (times_heard known is_caller out.heard e.carrier.events moves e refl w) (starves_made out.more mid)
      (grind (arith, rests_over, stage_at, past, early, stage_over))
      (λ r after then_now. is_gone (search (arith, waits_over, starved_over))))

  starved_steps : (u : List ℕ) (moves : ℕ → Deeds) (e new : End) → IsOctets u → Between e → e.carrier.ended ≡ None →
      Courses moves e → Starves e u new → CourseSteps (units_by (units_of u)) moves e new
  starved_steps u moves e new octets b lasts course (inl (c, (units, is, out), there)) =
      let mid = with_carrier c e in
      subst (λ (l : List Value). CourseSteps l moves e new) (sym (ap units_by is))
      (subst (CourseSteps units moves e) (sym there)
      (step_after is_caller units (NowAll is_caller) (CourseAll is_caller) moves e.carrier mid (attends mid)
      (unit_starved u units moves e c (units_found u units octets is) b.sound (calm_of moves e (b.attended lasts) course) out)
      (λ after w. attended known is_caller after mid w)))
  starved_steps u moves e new octets b lasts course (inr (c, acts, out)) =
      let mid = with_carrier c e in
      let calm = calm_of moves e (b.attended lasts) course in
      let now : StepsBy is_caller (units_by (units_of u)) (NowAll is_caller) moves e.carrier mid = elim (acts_cases e.carrier c u acts) [
        | inl is ↦ grind (arith, carried_out)
        | inr short ↦ subst (λ (l : List Value). StepsBy is_caller l (NowAll is_caller) moves e.carrier mid) (sym (ap units_by short.1))
            (unit_starved u short.0 moves e c (units_found u short.0 octets short.1) b.sound calm short.2)
      ] in
      step_after is_caller (units_by (units_of u)) (NowAll is_caller) (CourseAll is_caller) moves e.carrier mid new now
      (λ after w. event_starved after mid new w out)

  -- ---- a piece

  -- packets stand in what was held and used, and their units were taken
  pub record FeedSteps (moves : ℕ → Deeds) (octets : List ℕ) (old new : Holding) : Type 0 where
    pub used : List (List ℕ)
    pub rest : List ℕ
    pub cut : ArePackets used (old.held.octets ++ octets) rest
    pub held : new.end.carrier.ended ≡ None → rest ≡ new.held.octets
    pub steps : CourseSteps (units_in used) moves old.end new.end

  -- the whole piece was used, and the end is over
  all_used : (moves : ℕ → Deeds) (used : List (List ℕ)) (piece rest : List ℕ) (n : ℕ) (old new : Holding) → n ≡ length piece →
      ArePackets used (old.held.octets ++ piece) rest → IsSome new.end.carrier.ended → CourseSteps (units_in used) moves old.end new.end →
      FeedSteps moves (take n piece) old new
  all_used moves used piece rest n old new all cut ended steps = grind (arith, take_all, never_lasts)

  -- packets, and then the end
  then_over : (packets : List (List ℕ)) (moves : ℕ → Deeds) (old before new : End) → AllByRecursion IsOctets packets → Between old →
      Courses moves old → TakesPackets old packets before → (reason : EndReason) → new ≡ ends reason before →
      CourseSteps (units_in packets) moves old new
  then_over packets moves old before new octets b course takes reason is =
      let ended : IsSome new.carrier.ended = ap (λ (x : End). is_some x.carrier.ended) is in
      step_as is_caller (units_in packets) (CourseAll is_caller) (CourseAll is_caller) moves old.carrier before new
      (takes_steps packets moves old before octets b course takes)
      (subst (λ (x : End). Makes before.carrier [] [] x.carrier) (sym is) (doing.ends_so reason before.carrier))
      (grind (arith, rests_over, stage_at, past, early, stage_over))
      (λ r after then_course. is_gone (course_over is_caller r after before new then_course ended))

  module _ (moves : ℕ → Deeds) (piece : List ℕ) (n : ℕ) (old new : Holding) (b : Between old.end)
      (course : Courses moves old.end) where
    stop_steps : StopsBehind old piece n new → FeedSteps moves (take n piece) old new
    stop_steps stop =
        let s = stopped_within piece n old new stop new.end.carrier.ended
        (uses_all new.end) refl refl in
        grind (arith, takes_steps, all_octets)

    one_more : (f : FindsNoMemory old piece n new) (packet : List ℕ) → ArePackets (packet ∷ []) f.rest [] →
        ArePackets (f.units ++ packet ∷ []) (old.held.octets ++ piece) ([] ++ drop f.within piece)
    one_more f packet one =
        subst (λ (l : List ℕ). ArePackets (f.units ++ packet ∷ []) l ([] ++ drop f.within piece))
        (append_assoc old.held.octets (take f.within piece) (drop f.within piece)
        ∙ ap (λ (l : List ℕ). old.held.octets ++ l) (take-append-drop f.within piece))
        (packets_then f.units (packet ∷ []) (old.held.octets ++ take f.within piece) f.rest (drop f.within piece)
        ([] ++ drop f.within piece) f.packets (packets_on (packet ∷ []) f.rest [] (drop f.within piece) one))

    short_steps : (f : FindsNoMemory old piece n new) →
        (new.end ≡ ends NoMemory f.before) ⊎ ((packet : List ℕ) × ArePackets (packet ∷ []) f.rest [] × Starves f.before packet new.end) →
        FeedSteps moves (take n piece) old new
    short_steps f (inl is) =
        all_used moves f.units piece (f.rest ++ drop f.within piece) n old new f.all
        (more_used f.units old.held.octets piece f.rest f.within f.packets)
        (none_ended old piece n new f)
        (then_over f.units moves old.end f.before new.end (all_octets f.units _ _ f.packets) b course f.taken NoMemory is)
    short_steps f (inr (packet, one, starved)) =
        let first = takes_steps f.units moves old.end f.before (all_octets f.units _ _ f.packets) b course f.taken in
        let now = then_between f.units (units_in f.units) (all_units first.put) old.end f.before first.makes f.taken b in
        all_used moves (f.units ++ packet ∷ []) piece ([] ++ drop f.within piece) n old new f.all (one_more f packet one)
        (none_ended old piece n new f)
        (subst (λ (l : List Value). CourseSteps l moves old.end new.end) (grind (arith, append-nil, flat_map-append))
        (step_then is_caller (units_in f.units) (units_by (units_of packet)) (CourseAll is_caller) (CourseAll is_caller) moves
        old.end.carrier f.before new.end first
        (λ after then_course. starved_steps packet after f.before new.end (all_octets (packet ∷ []) f.rest [] one).0 now
        (lasting_of f.before.carrier.ended (waits f.before.lines) f.quiet)
        then_course starved)))

    goes_steps : GoesThrough old piece n new → FeedSteps moves (take n piece) old new
    goes_steps (inl (inl dry)) = grind (arith, take_all, takes_steps, all_octets)
    goes_steps (inl (inr stop)) = stop_steps stop
    goes_steps (inr (inl f)) =
        let (rest, cut, ends_at) = f.cut in
        all_used moves f.units piece rest n old new f.all cut (ap (λ (x : End). is_some x.carrier.ended) f.ended)
        (then_over f.units moves old.end f.before new.end (all_octets f.units _ _ cut) b course f.taken _ f.ended)
    goes_steps (inr (inr f)) = short_steps f (found_how old piece n new f)

  -- nothing happens at the end
  same_steps : (moves : ℕ → Deeds) (octets : List ℕ) (old new : Holding) → Courses moves old.end → new ≡ old →
      (new.end.carrier.ended ≡ None → octets ≡ []) → FeedSteps moves octets old new
  same_steps moves octets old new course is none = record {
    used = [];
    rest = old.held.octets ++ octets;
    cut = refl;
    held = grind (arith, append-nil);
    steps = subst (λ (x : Holding). CourseSteps [] moves old.end x.end) (sym is)
        (step_none is_caller (CourseAll is_caller) moves old.end.carrier old.end (doing.rests old.end.carrier)
        (same_rest old.end.carrier) course);
  }

  pub feeds_steps : (moves : ℕ → Deeds) (piece : List ℕ) (fed : Fed) (old new : Holding) → Between old.end →
      Courses moves old.end → Feeds old piece fed new → FeedSteps moves (take fed.used piece) old new
  feeds_steps moves piece fed old new b course f = by old.end.carrier.ended refl (waits old.end.lines) refl
    where
      by : (o : Option EndReason) → old.end.carrier.ended ≡ o → (w : Bool) → waits old.end.lines ≡ w →
          FeedSteps moves (take fed.used piece) old new
      by (Some reason) ended w e =
          let same = (f.over (ap is_some ended)).1 in
          same_steps moves (take fed.used piece) old new course same
          (grind (arith, never_lasts))
      by None lasts true e =
          let w = f.waiting lasts e in
          same_steps moves (take fed.used piece) old new course w.1 (λ still. ap (λ (k : ℕ). take k piece) w.0)
      by None lasts false e = goes_steps moves piece fed.used old new b course (f.goes (quiet_stops old.end (ap is_some lasts) e))
