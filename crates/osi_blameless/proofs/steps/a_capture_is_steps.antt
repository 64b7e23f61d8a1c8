-- A capture of an end is steps of the end and of the judge: octet by octet, with each turn of the end as late as can be.
-- For the law that a capture of an end is steps.
use Rattle.osi_blameless.proofs.Vocabulary.{[], ap, append_assoc, Bool, Err, false, inl, inr, List, Ok, refl, Result, subst, sym, true, ℕ}
use Rattle.osi_blameless.proofs.Vocabulary.{◌++◌, ◌<◌, ◌∙◌, ◌∷◌, ◌≡◌, ◌≢◌, ◌⊎◌, append-nil, AllByRecursion, octets_nil, octets_right}
use Rattle.osi_blameless.proofs.Vocabulary.{IsOctets, packet_of, ArePackets, units_of, Value, written, TpduFault, Local, packets, Holding}
use Rattle.osi_blameless.proofs.Vocabulary.{Capture, of, other, Passed, Direction, packets_joined, fresh_turns, TurnOf, TurnsOf, Known}
use Rattle.osi_blameless.proofs.Vocabulary.{packets_on, packets_then, all_did, Deeds, no_deeds, all_units}
use Rattle.osi_blameless.proofs.Vocabulary.{IsFresh, IsSeen, Run, Takes, Turn, is_break, packet_passes, units_pass, unread, advanced}
use Rattle.osi_blameless.proofs.Vocabulary.{faulty, Front, front_of, gathered, partial, Streamed, whole, after, octet_passes, stream_of}
use Rattle.osi_blameless.proofs.Vocabulary.{with_stream, Cause, BadPacket, BadUnit, Joint, Step, Steps, StepsAlong, TakesTurn, AreOctets}
use Rattle.osi_blameless.proofs.Vocabulary.{IsOctet, TurnsBad, arith, Course, units_by, TpktFault, IsNoPacket, IsUnread, spoilt, units_in}
use Rattle.osi_judge.specs.Streams.{ended}
use Rattle.osi_judge.specs.States.{State}
use Rattle.osi_judge.specs.States as states
use Rattle.osi_blameless.specs.Joint as joints
use Rattle.osi_blameless.specs.Joint.Step.{turns, begins_own, passes_own, begins_other, passes_other}
use Rattle.osi_blameless.specs.Spoilt.{GoesOn}
use Rattle.osi_blameless.proofs.small_facts_that_many_lemmas_use.{can_more}
use Rattle.osi_blameless.proofs.steps.how_an_end_stands_to_what_has_passed.{OtherStands, OwnStands, begun_now, first_put, has_begun}
use Rattle.osi_blameless.proofs.steps.how_an_end_stands_to_what_has_passed.{one_octet}
use Rattle.osi_blameless.proofs.steps.how_an_end_stands_to_what_has_passed.{rest_of, some_octets, uses}
use Rattle.osi_blameless.proofs.steps.what_follows_what_cannot_be_read.{LaterComes, OtherEnds, OtherReads, StandsLater, later_octet}
use Rattle.osi_blameless.proofs.steps.what_follows_what_cannot_be_read.{later_steps}
use Rattle.osi_blameless.proofs.steps.what_follows_what_cannot_be_read.{other_moved as other_moved_later}
use Rattle.osi_blameless.proofs.steps.what_is_halted_stays_halted.{unread_halts}
use Rattle.osi_blameless.proofs.steps.turns_are_taken_late.{Follows, all_passed, other_passes, own_passes, seen_follows, turn_taken}
use Rattle.osi_blameless.proofs.steps.what_an_octet_does.{begins, passes_so}
use Rattle.osi_blameless.proofs.steps.what_the_turns_among_steps_do.{ComesByDoing, IsOfJudge, StepsDo, TurnDoes, judge_first, takes_turn}
use Rattle.osi_blameless.proofs.steps.what_the_first_octets_are.{begins_none, own_front, whole_packet}
use Rattle.osi_blameless.proofs.steps.how_an_end_stands_to_what_has_passed.{packet_ends}

-- ---- what the rest of a capture comes to, from a state of the judge and of the end on

record Stops (d : Direction) (capture : Capture) (s : State) (c : Course) : Type 0 where
  front : Capture
  back : Capture
  parts : capture ≡ front ++ back
  at : ℕ
  cause : Cause
  bad : is_break cause ≡ true
  unreadable : (after front s).course ≡ unread (other d) at cause c

-- and the steps that follow
record Spoils (d : Direction) (capture : Capture) (s : State) (last : Joint) : Type 0 where
  at : ℕ
  cause : Cause
  packets : List (List ℕ)
  none : units_in packets ≡ []
  later : LaterComes d capture s (spoilt d at cause packets last)
  how : ((packet : List ℕ) × (packets ≡ packet ∷ []) × IsUnread (units_of packet))
      ⊎ ((packets ≡ []) × AllByRecursion IsNoPacket later.steps)

-- this was done before at each connection of the end
record Comes (d : Direction) (is_caller : Bool) (deeds : ℕ → Deeds) (capture : Capture) (s : State) (j : Joint) : Type 0 where
  steps : List Step
  last : Joint
  along : StepsAlong d j steps last
  does : StepsDo d is_caller deeds j steps last along
  all : ((after capture s).course ≡ last.judge) ⊎ Stops d capture s last.judge
  on : ((after capture s).course ≡ last.judge) ⊎ Spoils d capture s last

step_first : (d : Direction) (is_caller : Bool) (deeds : ℕ → Deeds) (capture : Capture) (s : State) (step : Step) → IsOfJudge step →
    (j mid : Joint) → Steps d step j mid → Comes d is_caller deeds capture s mid → Comes d is_caller deeds capture s j
step_first d is_caller deeds capture s step judge j mid one c = record {
  steps = step ∷ c.steps;
  last = c.last;
  along = (mid, one, c.along);
  does = judge_first d is_caller deeds step judge c.steps j mid c.last one c.along c.does;
  all = c.all;
  on = c.on;
}

turn_first : (d : Direction) (is_caller : Bool) (deeds : ℕ → Deeds) (capture : Capture) (s : State) (turn : Turn) (j mid : Joint)
    (t : TakesTurn turn j mid) (does : TurnDoes is_caller deeds turn j mid t) →
    Comes d is_caller (all_did deeds does.on.more) capture s mid → Comes d is_caller deeds capture s j
turn_first d is_caller deeds capture s turn j mid t does c = record {
  steps = turns turn ∷ c.steps;
  last = c.last;
  along = (mid, t, c.along);
  does = (does, c.does);
  all = c.all;
  on = c.on;
}

octet_first : (d : Direction) (is_caller : Bool) (deeds : ℕ → Deeds) (o : Passed) (capture : Capture) (s : State) (j : Joint) →
    Comes d is_caller deeds capture (octet_passes o s) j → Comes d is_caller deeds (o ∷ capture) s j
octet_first d is_caller deeds o capture s j c = record {
  steps = c.steps;
  last = c.last;
  along = c.along;
  does = c.does;
  all = by c.all;
  on = goes c.on;
}
  where
    goes : ((after capture (octet_passes o s)).course ≡ c.last.judge) ⊎ Spoils d capture (octet_passes o s) c.last →
        ((after (o ∷ capture) s).course ≡ c.last.judge) ⊎ Spoils d (o ∷ capture) s c.last
    goes (inl e) = inl e
    goes (inr k) = inr (record {
      at = k.at;
      cause = k.cause;
      packets = k.packets;
      none = k.none;
      later = later_octet d o capture s (spoilt d k.at k.cause k.packets c.last) k.later;
      how = k.how;
    })

    by : ((after capture (octet_passes o s)).course ≡ c.last.judge) ⊎ Stops d capture (octet_passes o s) c.last.judge →
        ((after (o ∷ capture) s).course ≡ c.last.judge) ⊎ Stops d (o ∷ capture) s c.last.judge
    by (inl e) = inl e
    by (inr k) = inr (record {
      front = o ∷ k.front;
      back = k.back;
      parts = ap (λ (l : Capture). o ∷ l) k.parts;
      at = k.at;
      cause = k.cause;
      bad = k.bad;
      unreadable = k.unreadable;
    })

-- ---- how the end stands to what has passed

record Stands (d : Direction) (s : State) (j : Joint) (still ahead : List ℕ) : Type 0 where
  course : s.course ≡ j.judge
  own_reads : (stream_of d s).spent ≡ false
  other_reads : (stream_of (other d) s).spent ≡ false
  own : OwnStands (stream_of d s).held still j.put j.begun
  others : OtherStands (stream_of (other d) s).held ahead j.end j.coming

own_moved : (d : Direction) (g : Streamed) (s : State) (c : Course) (j : Joint) (still ahead : List ℕ) → c ≡ j.judge → g.spent ≡ false →
    (stream_of (other d) s).spent ≡ false → OwnStands g.held still j.put j.begun →
    OtherStands (stream_of (other d) s).held ahead j.end j.coming → Stands d (with_stream d g (record s { course = c })) j still ahead
own_moved d g s c j still ahead course own_reads other_reads own others = grind arith

other_moved : (d : Direction) (g : Streamed) (s : State) (c : Course) (j : Joint) (still ahead : List ℕ) → c ≡ j.judge →
    (stream_of d s).spent ≡ false → g.spent ≡ false → OwnStands (stream_of d s).held still j.put j.begun →
    OtherStands g.held ahead j.end j.coming → Stands d (with_stream (other d) g (record s { course = c })) j still ahead
other_moved d g s c j still ahead course own_reads other_reads own others = grind arith

-- ---- an octet of the end

-- the packet begins, unless some of its octets have passed
own_begins : (d : Direction) (is_caller : Bool) (deeds : ℕ → Deeds) (capture : Capture) (s : State) (held : List ℕ) (j : Joint) →
    j.begun ≡ has_begun held → j.put ≢ [] →
    Comes d is_caller deeds capture s (record j { begun = true; judge = begins d held j.judge }) → Comes d is_caller deeds capture s j
own_begins d is_caller deeds capture s [] j is some c =
    step_first d is_caller deeds capture s begins_own tt j (record j { begun = true; judge = begins d [] j.judge }) (some, is, refl) c
own_begins d is_caller deeds capture s (o ∷ held) j is some c = grind arith

module _ (d : Direction) (is_caller : Bool) (deeds : ℕ → Deeds) (x : ℕ) (capture : Capture) (s : State) (j : Joint)
    (still ahead : List ℕ) (small : x < 256) (st : Stands d s j (x ∷ still) ahead)
    (on : (s2 : State) (j2 : Joint) → j2.end ≡ j.end → Stands d s2 j2 still ahead → Comes d is_caller deeds capture s2 j2) where
  abbrev own_held : List ℕ
  own_held = (stream_of d s).held

  abbrev own_now : Streamed
  own_now = gathered (x ∷ []) (stream_of d s)

  abbrev own_joint : Joint
  own_joint = record j { begun = true; judge = begins d own_held j.judge }

  abbrev own_course : Course
  own_course = begins d own_held s.course

  own_goes_on : front_of (own_held ++ x ∷ []) ≡ partial → Comes d is_caller deeds (of d x ∷ capture) s own_joint
  own_goes_on part =
      let next : State = with_stream d own_now (record s { course = own_course }) in
      let own : OwnStands (own_held ++ x ∷ []) still j.put true = search (arith, one_octet, append_assoc, begun_now) in
      octet_first d is_caller deeds (of d x) capture s own_joint
      (subst (λ (t : State). Comes d is_caller deeds capture t own_joint) (sym (passes_so d x s partial st.own_reads part))
      (on next own_joint refl (own_moved d own_now s own_course own_joint still ahead (ap (begins d own_held) st.course) st.own_reads
      st.other_reads own st.others)))

  own_ends : (v : Value) (vs : List Value) → j.put ≡ v ∷ vs → own_held ++ x ∷ [] ≡ packet_of (written v) → still ≡ packets vs →
      Comes d is_caller deeds (of d x ∷ capture) s own_joint
  own_ends v vs is same rest =
      let e = packet_ends d s.course j.judge own_held still x v vs own_now.at st.course small st.own is same rest in
      let after_it : Course = packet_passes d own_now.at (written v) own_course in
      let last : Joint = record own_joint { put = vs; begun = false; judge = units_pass d own_now.at (v ∷ []) own_joint.judge } in
      let next : State = with_stream d (advanced own_now) (record s { course = after_it }) in
      step_first d is_caller deeds (of d x ∷ capture) s (passes_own own_now.at v) tt own_joint last (e.read, e.octets, (is, refl, refl))
      (octet_first d is_caller deeds (of d x) capture s last
      (subst (λ (t : State). Comes d is_caller deeds capture t last) (sym (passes_so d x s (whole (written v)) st.own_reads e.front))
      (on next last refl (own_moved d
      (advanced own_now) s after_it last still ahead e.course st.own_reads st.other_reads e.own st.others))))

  own_octet : Comes d is_caller deeds (of d x ∷ capture) s j
  own_octet =
      let p = first_put own_held still x j.put st.own.all in
      own_begins d is_caller deeds (of d x ∷ capture) s own_held j st.own.begun_so
      (λ none. let both : p.0 ∷ p.1 ≡ [] = sym p.2 ∙ none in cc)
      (elim (own_front own_held (written p.0) (packets p.1) still x st.own.part (st.own.all ∙ ap packets p.2) (some_octets p.0)) [
        | inl part ↦ own_goes_on part
        | inr k ↦ own_ends p.0 p.1 p.2 k.0 k.1
      ])

-- ---- an octet of the other side

other_begins : (d : Direction) (is_caller : Bool) (deeds : ℕ → Deeds) (capture : Capture) (s : State) (held : List ℕ) (j : Joint) →
    Comes d is_caller deeds capture s (record j { judge = begins (other d) held j.judge }) → Comes d is_caller deeds capture s j
other_begins d is_caller deeds capture s [] j c =
    step_first d is_caller deeds capture s begins_other tt j (record j { judge = begins (other d) [] j.judge }) refl c
other_begins d is_caller deeds capture s (o ∷ held) j c = c

module _ (d : Direction) (is_caller : Bool) (deeds : ℕ → Deeds) (x : ℕ) (capture : Capture) (s : State) (j : Joint)
    (still ahead : List ℕ) (small : x < 256) (st : Stands d s j still ahead)
    (on : (s2 : State) (j2 : Joint) → j2.end ≡ j.end → Stands d s2 j2 still (ahead ++ x ∷ []) →
    Comes d is_caller deeds capture s2 j2)
    (then : (s2 : State) (j2 : Joint) → j2.end ≡ j.end → StandsLater d s2 j2 still (ahead ++ x ∷ []) →
    LaterComes d capture s2 j2) where
  abbrev other_held : List ℕ
  other_held = (stream_of (other d) s).held

  abbrev other_now : Streamed
  other_now = gathered (x ∷ []) (stream_of (other d) s)

  abbrev other_joint : Joint
  other_joint = record j { judge = begins (other d) other_held j.judge }

  abbrev other_course : Course
  other_course = begins (other d) other_held s.course

  more_passed : (us : List (List ℕ)) (r : List ℕ) → ArePackets us ((j.end.held.octets ++ ahead) ++ x ∷ []) r →
      ArePackets us (j.end.held.octets ++ (ahead ++ x ∷ [])) r
  more_passed us r p = subst (λ (l : List ℕ). ArePackets us l r) (append_assoc j.end.held.octets ahead (x ∷ [])) p

  other_goes_on : front_of (other_held ++ x ∷ []) ≡ partial → Comes d is_caller deeds (of (other d) x ∷ capture) s other_joint
  other_goes_on part =
      let next : State = with_stream (other d) other_now (record s { course = other_course }) in
      let others : OtherStands (other_held ++ x ∷ []) (ahead ++ x ∷ []) j.end j.coming = record {
        octets = one_octet other_held x st.others.octets small;
        part = part;
        cut = grind (arith, more_passed, packets_on);
      } in
      octet_first d is_caller deeds (of (other d) x) capture s other_joint
      (subst (λ (t : State). Comes d is_caller deeds capture t other_joint) (sym (passes_so (other d) x s partial st.other_reads part))
      (on next other_joint refl (grind (arith, other_moved, begins))))

  stream_there : (e : Direction) (t : Streamed) (z : State) → stream_of e (with_stream e t z) ≡ t
  stream_there e t z = grind arith

  -- the steps up to here, and what follows
  other_stops : (t : Streamed) (cause : Cause) (packets : List (List ℕ)) → is_break cause ≡ true → units_in packets ≡ [] →
      octet_passes (of (other d) x) s ≡ with_stream (other d) t (record s { course = unread (other d) other_now.at cause other_course }) →
      OtherReads t (ahead ++ x ∷ []) j.end (j.coming ++ packets) →
      ((packet : List ℕ) × (packets ≡ packet ∷ []) × IsUnread (units_of packet)) ⊎ ((packets ≡ []) × (t.spent ≡ true)) →
      Comes d is_caller deeds (of (other d) x ∷ capture) s other_joint
  other_stops t cause packets bad none is reads how =
      let course : unread (other d) other_now.at cause other_course ≡ unread (other d) other_now.at cause other_joint.judge =
      ap (λ (c : Course). unread (other d) other_now.at cause (begins (other d) other_held c)) st.course in
      let next : State = with_stream (other d) t (record s { course = unread (other d) other_now.at cause other_course }) in
      let now : Joint = spoilt d other_now.at cause packets other_joint in
      let rest : LaterComes d capture (octet_passes (of (other d) x) s) now = subst (λ (z : State). LaterComes d capture z now) (sym is)
      (search (arith, other_moved_later, unread_halts)) in
      record {
        steps = [];
        last = other_joint;
        along = refl;
        does = tt;
        all = inr (record {
          front = of (other d) x ∷ [];
          back = capture;
          parts = refl;
          at = other_now.at;
          cause = cause;
          bad = bad;
          unreadable = grind arith;
        });
        on = inr (record {
          at = other_now.at;
          cause = cause;
          packets = packets;
          none = none;
          later = later_octet d (of (other d) x) capture s now rest;
          how = elim how [
            | inl one ↦ inl one
            | inr (nothing, spent) ↦ inr (
              nothing,
              rest.no_more (grind (arith, stream_there)),
            )
          ];
        });
      }

  packet_used : (u : List ℕ) → front_of (other_held ++ x ∷ []) ≡ whole u →
      OtherStands [] (ahead ++ x ∷ []) j.end (j.coming ++ u ∷ [])
  packet_used u front =
      let packet = whole_packet other_held u x (one_octet other_held x st.others.octets small) st.others.part front in
      grind (arith, octets_nil, more_passed, packets_then, append-nil)

  no_packet : (f : TpktFault) → front_of (other_held ++ x ∷ []) ≡ faulty f →
      OtherEnds (other_held ++ x ∷ []) (ahead ++ x ∷ []) j.end (j.coming ++ [])
  no_packet f is = grind (arith, one_octet, begins_none, append-nil, more_passed, packets_on)

  other_ends : (u : List ℕ) → front_of (other_held ++ x ∷ []) ≡ whole u → (r : Result (List Value) TpduFault) → units_of u ≡ r →
      Comes d is_caller deeds (of (other d) x ∷ capture) s other_joint
  other_ends u front (Err fault) is =
      other_stops (advanced other_now) (BadUnit fault) (u ∷ []) refl (append-nil (units_by (units_of u)) ∙ ap units_by is)
      (grind (arith, passes_so))
      (inl (st.other_reads, packet_used u front)) (inl (u, refl, subst IsUnread (sym is) tt))
  other_ends u front (Ok units) is =
      let packet = whole_packet other_held u x (one_octet other_held x st.others.octets small) st.others.part front in
      let after_it : Course = packet_passes (other d) other_now.at u other_course in
      let last : Joint = record other_joint {
        judge = units_pass (other d) other_now.at units other_joint.judge;
        coming = j.coming ++ u ∷ [];
      } in
      let course : after_it ≡ last.judge = grind (arith, begins) in
      let octets : IsOctets u = octets_right (_ ∷ _ ∷ _ ∷ _ ∷ []) u (subst IsOctets packet.spelled packet.octets) in
      let others = packet_used u front in
      let next : State = with_stream (other d) (advanced other_now) (record s { course = after_it }) in
      step_first d is_caller deeds (of (other d) x ∷ capture) s (passes_other other_now.at u units) tt other_joint last (octets, is, refl)
      (octet_first d is_caller deeds (of (other d) x) capture s last
      (subst (λ (t : State). Comes d is_caller deeds capture t last) (sym (passes_so (other d) x s (whole u) st.other_reads front))
      (search (arith, other_moved))))

  other_octet : Comes d is_caller deeds (of (other d) x ∷ capture) s j
  other_octet = other_begins d is_caller deeds (of (other d) x ∷ capture) s other_held j (by (front_of (other_held ++ x ∷ [])) refl)
    where
      by : (f : Front) → front_of (other_held ++ x ∷ []) ≡ f → Comes d is_caller deeds (of (other d) x ∷ capture) s other_joint
      by partial is = other_goes_on is
      by (faulty fault) is =
          other_stops (ended other_now) (BadPacket fault) [] refl refl (passes_so (other d) x s (faulty fault) st.other_reads is)
          (inr (refl, other_held ++ x ∷ [], no_packet fault is)) (inr (refl, refl))
      by (whole u) is = other_ends u is (units_of u) refl

-- ---- a turn

-- the end and the judge after a turn
record Turned (d : Direction) (is_caller : Bool) (deeds : ℕ → Deeds) (s : State) (j : Joint) (turn : Turn) (new : Holding)
    (at : TurnOf is_caller deeds turn j.end new) (still ahead : List ℕ) : Type 0 where
  later : Joint
  takes : TakesTurn turn j later
  does : TurnDoes is_caller deeds turn j later takes
  goes_on : (others : List Turn) (end : Holding) → TurnsOf is_caller (all_did deeds at.on.more) new others end →
      TurnsOf is_caller (all_did deeds does.on.more) later.end others end
  stands : Stands d s later (still ++ turn.put) ahead

turned : (d : Direction) (is_caller : Bool) (deeds : ℕ → Deeds) (s : State) (j : Joint) (turn : Turn) (new : Holding)
    (still ahead : List ℕ) → Takes j.end turn new → (at : TurnOf is_caller deeds turn j.end new) →
    Stands d s j still (turn.used ++ ahead) → Turned d is_caller deeds s j turn new at still ahead
turned d is_caller deeds s j turn new still ahead takes at st =
    let on = at.on in
    let units = all_units on.put in
    let theirs = (stream_of (other d) s).held in
    let mine = (stream_of d s).held in
    let u = uses theirs ahead j.coming is_caller deeds j.end turn new takes on
    (rest_of theirs (turn.used ++ ahead) j.end j.coming st.others) j.end.end.carrier.ended
    new.end.carrier.ended refl refl in
    let both : (mine ++ still) ++ turn.put ≡ packets j.put ++ packets units = (λ i. st.own.all i ++ on.written i) in
    record {
      later = record j { end = new; put = j.put ++ units; coming = u.later };
      takes = takes_turn is_caller deeds turn j new takes on u.used u.later u.rest u.parts u.cut u.kept u.all;
      does = record { on = at.on; life = at.life; first = at.first; units = refl };
      goes_on = λ others end more. more;
      stands = grind (arith, append_assoc, packets_joined, can_more);
    }

-- ---- all of the capture

along_steps : (d : Direction) (is_caller : Bool) (still ahead : List ℕ) (capture : Capture) (turns_left : List Turn) →
    Follows d still ahead capture turns_left → (deeds : ℕ → Deeds) (s : State) (j : Joint) (end : Holding) → AreOctets capture →
    TurnsOf is_caller deeds j.end turns_left end → Stands d s j still ahead → Comes d is_caller deeds capture s j
along_steps d is_caller _ _ _ _ (all_passed still ahead left) deeds s j end octets does st =
    record { steps = []; last = j; along = refl; does = tt; all = inl st.course; on = inl st.course }
along_steps d is_caller _ _ _ _ (own_passes x o all still ahead capture left is front more) deeds s j end octets does st =
    let small : x < 256 = subst IsOctet is octets.0 in
    subst (λ (p : Passed). Comes d is_caller deeds (p ∷ capture) s j) (sym is)
    (own_octet d is_caller deeds x capture s j still ahead small (subst (λ (l : List ℕ). Stands d s j l ahead) front st)
    (λ s2 j2 same st2. along_steps d is_caller still ahead capture left more deeds s2 j2 end octets.1
    (subst (λ (h : Holding). TurnsOf is_caller deeds h left end) (sym same) does) st2))
along_steps d is_caller _ _ _ _ (other_passes x o still ahead capture left is more) deeds s j end octets does st =
    let small : x < 256 = subst IsOctet is octets.0 in
    subst (λ (p : Passed). Comes d is_caller deeds (p ∷ capture) s j) (sym is)
    (other_octet d is_caller deeds x capture s j still ahead small st
    (λ s2 j2 same st2. along_steps d is_caller still (ahead ++ x ∷ []) capture left more deeds s2 j2 end octets.1
    (subst (λ (h : Holding). TurnsOf is_caller deeds h left end) (sym same) does) st2)
    (grind (arith, later_steps)))
along_steps d is_caller _ _ _ _ (turn_taken turn still all ahead capture left is more) deeds s j end octets does st =
    let k = turned d is_caller deeds s j turn does.0 still ahead does.1 does.2 (subst (λ (l : List ℕ). Stands d s j still l) is st) in
    turn_first d is_caller deeds capture s turn j k.later k.takes k.does
    (along_steps d is_caller (still ++ turn.put) ahead capture left more (all_did deeds k.does.on.more) s k.later end octets
    (k.goes_on left end does.3) k.stands)

pub capture_steps : Known → (d : Direction) (is_caller : Bool) (local : Local) (first end : Holding) (turns_all : List Turn)
    (capture : Capture) → IsFresh is_caller local first → Run first turns_all end → AreOctets capture → IsSeen d turns_all capture →
    ComesByDoing d is_caller capture first
capture_steps known d is_caller local first end turns_all capture fresh run octets seen =
    let does = fresh_turns known is_caller local first end turns_all fresh run in
    let c = along_steps d is_caller [] [] capture turns_all (seen_follows d turns_all capture seen) (λ r. no_deeds) states.begin
    (joints.begin first) end octets does (grind (arith, octets_nil, append-nil)) in
    record { steps = c.steps; last = c.last; along = c.along; does = c.does; all = by c.last.judge c.all; on = goes c.last c.on }
  where
    goes : (last : Joint) → ((after capture states.begin).course ≡ last.judge) ⊎ Spoils d capture states.begin last →
        ((after capture states.begin).course ≡ last.judge) ⊎ GoesOn d capture last
    goes last (inl e) = inl e
    goes last (inr k) = inr (record {
      at = k.at;
      cause = k.cause;
      packets = k.packets;
      none = k.none;
      steps = k.later.steps;
      end = k.later.last;
      along = k.later.along;
      all = k.later.all;
      how = k.how;
    })

    by : (c : Course) → ((after capture states.begin).course ≡ c) ⊎ Stops d capture states.begin c →
        ((after capture states.begin).course ≡ c) ⊎ TurnsBad d capture c
    by c (inl e) = inl e
    by c (inr k) = inr (grind arith)
