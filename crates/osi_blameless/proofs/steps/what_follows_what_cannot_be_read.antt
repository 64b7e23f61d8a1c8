-- What follows what the other side sends and nobody can read is steps too: of the end and of the judge, which reads of that side what it
-- can. For the law that a capture of an end is steps.
use Rattle.osi_blameless.proofs.Vocabulary.{[], ap, append_assoc, Bool, false, if◌then◌else◌, inl, inr, List, None, refl, subst, sym, true}
use Rattle.osi_blameless.proofs.Vocabulary.{ℕ, ◌++◌, ◌<◌, ◌∙◌, ◌∷◌, ◌≡◌, ◌≢◌, ◌⊎◌, append-nil, AllByRecursion, octets_nil, octets_right}
use Rattle.osi_blameless.proofs.Vocabulary.{IsOctets, packet_of, ArePackets, units_of, Value, written, packets, Holding, Capture, of, other}
use Rattle.osi_blameless.proofs.Vocabulary.{Passed, Direction, packets_joined, TurnOf, TurnsOf, packets_on, packets_then}
use Rattle.osi_blameless.proofs.Vocabulary.{all_did, Deeds, all_units, Takes, Turn, packet_passes, units_pass, unread, advanced}
use Rattle.osi_blameless.proofs.Vocabulary.{counted, faulty, Front, front_of, gathered, looks, partial, Streamed, whole, after, begun, Left}
use Rattle.osi_blameless.proofs.Vocabulary.{Right, looked_at, octet_passes, stream_of, with_stream, BadPacket, Joint, Step, TakesTurn}
use Rattle.osi_blameless.proofs.Vocabulary.{AreOctets, IsOctet, arith, IsNoFront, TpktFault, units_by, Course, IsNoPacket, LaterAlong}
use Rattle.osi_blameless.proofs.Vocabulary.{LaterSteps}
use Rattle.osi_judge.specs.Streams.{ended}
use Rattle.osi_judge.specs.States.{State}
use Rattle.osi_blameless.specs.Joint.Step.{turns, begins_own, passes_own, begins_other, passes_other}
use Rattle.osi_blameless.proofs.small_facts_that_many_lemmas_use.{can_more}
use Rattle.osi_blameless.proofs.steps.how_an_end_stands_to_what_has_passed.{OtherRest, OtherStands, OwnStands, begun_now, first_put}
use Rattle.osi_blameless.proofs.steps.how_an_end_stands_to_what_has_passed.{has_begun}
use Rattle.osi_blameless.proofs.steps.how_an_end_stands_to_what_has_passed.{one_octet, rest_of, some_octets, uses}
use Rattle.osi_blameless.proofs.steps.what_the_turns_among_steps_do.{takes_turn}
use Rattle.osi_blameless.proofs.steps.turns_are_taken_late.{Follows, all_passed, other_passes, own_passes, turn_taken}
use Rattle.osi_blameless.proofs.steps.what_an_octet_does.{begins, passes_so}
use Rattle.osi_blameless.proofs.steps.what_is_halted_stays_halted.{IsHalted, halted_claim, unread_same}
use Rattle.osi_blameless.proofs.steps.what_passes_keeps_a_claim.{units_kept}
use Rattle.osi_blameless.proofs.steps.what_the_first_octets_are.{begins_none, own_front, whole_packet}
use Rattle.osi_blameless.proofs.steps.how_an_end_stands_to_what_has_passed.{packet_ends}

-- ---- what the rest of a capture comes to

pub record LaterComes (d : Direction) (capture : Capture) (s : State) (j : Joint) : Type 0 where
  pub steps : List Step
  pub last : Joint
  pub along : LaterAlong d j steps last
  pub all : (after capture s).course ≡ last.judge
  pub no_more : (stream_of (other d) s).spent ≡ true → AllByRecursion IsNoPacket steps

later_first : (d : Direction) (capture : Capture) (s : State) (step : Step) (j mid : Joint) → LaterSteps d step j mid →
    ((stream_of (other d) s).spent ≡ true → IsNoPacket step) → LaterComes d capture s mid → LaterComes d capture s j
later_first d capture s step j mid one none c = record {
  steps = step ∷ c.steps;
  last = c.last;
  along = (mid, one, c.along);
  all = c.all;
  no_more = λ spent. (none spent, c.no_more spent);
}

spent_passes : (d : Direction) (x : ℕ) (s : State) → (stream_of d s).spent ≡ true →
    octet_passes (of d x) s ≡ with_stream d (counted 1 (stream_of d s)) s
spent_passes d x s spent = grind (arith, looks)

-- octets of the other direction
left_looked : (t : Streamed) (f : Front) (held : List ℕ) (s : State) → s.left.spent ≡ true →
    (looked_at Right t f (begun Right held s)).left.spent ≡ true
left_looked t partial [] s h = h
left_looked t (faulty fault) [] s h = h
left_looked t (whole unit) [] s h = h
left_looked t partial (o ∷ held) s h = h
left_looked t (faulty fault) (o ∷ held) s h = h
left_looked t (whole unit) (o ∷ held) s h = h

right_looked : (t : Streamed) (f : Front) (held : List ℕ) (s : State) → s.right.spent ≡ true →
    (looked_at Left t f (begun Left held s)).right.spent ≡ true
right_looked t partial [] s h = h
right_looked t (faulty fault) [] s h = h
right_looked t (whole unit) [] s h = h
right_looked t partial (o ∷ held) s h = h
right_looked t (faulty fault) (o ∷ held) s h = h
right_looked t (whole unit) (o ∷ held) s h = h

left_by : (x : ℕ) (s : State) → s.left.spent ≡ true → (b : Bool) →
    (let t = gathered (x ∷ []) s.right in
    (if b then with_stream Right (counted 1 s.right) s else looked_at Right t (front_of t.held) (begun Right s.right.held s)).left.spent ≡
    true)
left_by x s h true = h
left_by x s h false = let t = gathered (x ∷ []) s.right in left_looked t (front_of t.held) s.right.held s h

right_by : (x : ℕ) (s : State) → s.right.spent ≡ true → (b : Bool) →
    (let t = gathered (x ∷ []) s.left in
    (if b then with_stream Left (counted 1 s.left) s else looked_at Left t (front_of t.held) (begun Left s.left.held s)).right.spent ≡ true)
right_by x s h true = h
right_by x s h false = let t = gathered (x ∷ []) s.left in right_looked t (front_of t.held) s.left.held s h

pub spent_stays : (e : Direction) (o : Passed) (s : State) → (stream_of e s).spent ≡ true → (stream_of e (octet_passes o s)).spent ≡ true
spent_stays Left (of Left x) s h = ap (λ (t : State). t.left.spent) (spent_passes Left x s h) ∙ h
spent_stays Right (of Right x) s h = ap (λ (t : State). t.right.spent) (spent_passes Right x s h) ∙ h
spent_stays Left (of Right x) s h = left_by x s h s.right.spent
spent_stays Right (of Left x) s h = right_by x s h s.left.spent

abbrev pub later_octet : (d : Direction) (o : Passed) (capture : Capture) (s : State) (j : Joint) →
    LaterComes d capture (octet_passes o s) j →
    LaterComes d (o ∷ capture) s j
later_octet d o capture s j c = record {
  steps = c.steps;
  last = c.last;
  along = c.along;
  all = c.all;
  no_more = λ spent. c.no_more (spent_stays (other d) o s spent);
}

-- ---- how the end stands to what has passed

-- no packet begins any more in the direction of the other side
pub record OtherEnds (rest ahead : List ℕ) (h : Holding) (coming : List (List ℕ)) : Type 0 where
  pub octets : IsOctets rest
  pub never : (more : List ℕ) → IsNoFront (rest ++ more)
  pub cut : h.end.carrier.ended ≡ None → ArePackets coming (h.held.octets ++ ahead) rest

abbrev pub OtherReads : Streamed → List ℕ → Holding → List (List ℕ) → Type 0
OtherReads t ahead h coming = ((t.spent ≡ false) × OtherStands t.held ahead h coming)
    ⊎ ((t.spent ≡ true) × (rest : List ℕ) × OtherEnds rest ahead h coming)

ends_rest : (rest ahead : List ℕ) (h : Holding) (coming : List (List ℕ)) → OtherEnds rest ahead h coming → OtherRest rest ahead h coming
ends_rest rest ahead h coming e =
    record { octets = e.octets; none = subst IsNoFront (append-nil rest) (e.never []); cut = e.cut }

-- nothing more of the other side is judged
pub record StandsLater (d : Direction) (s : State) (j : Joint) (still ahead : List ℕ) : Type 0 where
  pub course : s.course ≡ j.judge
  pub own_reads : (stream_of d s).spent ≡ false
  pub own : OwnStands (stream_of d s).held still j.put j.begun
  pub halted : IsHalted (other d) j.judge
  pub others : OtherReads (stream_of (other d) s) ahead j.end j.coming

own_moved : (d : Direction) (g : Streamed) (s : State) (c : Course) (j : Joint) (still ahead : List ℕ) → c ≡ j.judge → g.spent ≡ false →
    OwnStands g.held still j.put j.begun → IsHalted (other d) j.judge → OtherReads (stream_of (other d) s) ahead j.end j.coming →
    StandsLater d (with_stream d g (record s { course = c })) j still ahead
own_moved d g s c j still ahead course own_reads own halted others = grind arith

pub other_moved : (d : Direction) (g : Streamed) (s : State) (c : Course) (j : Joint) (still ahead : List ℕ) → c ≡ j.judge →
    (stream_of d s).spent ≡ false → OwnStands (stream_of d s).held still j.put j.begun → IsHalted (other d) j.judge →
    OtherReads g ahead j.end j.coming → StandsLater d (with_stream (other d) g (record s { course = c })) j still ahead
other_moved d g s c j still ahead course own_reads own halted others = grind arith

-- ---- an octet of the end

own_begins : (d : Direction) (capture : Capture) (s : State) (held : List ℕ) (j : Joint) → j.begun ≡ has_begun held → j.put ≢ [] →
    LaterComes d capture s (record j { begun = true; judge = begins d held j.judge }) → LaterComes d capture s j
own_begins d capture s [] j is some c =
    later_first d capture s begins_own j (record j { begun = true; judge = begins d [] j.judge }) (some, is, refl) (λ spent. tt) c
own_begins d capture s (o ∷ held) j is some c = subst (λ (b : Bool). LaterComes d capture s (record j { begun = b })) (sym is) c

module _ (d : Direction) (x : ℕ) (capture : Capture) (s : State) (j : Joint) (still ahead : List ℕ) (small : x < 256)
    (st : StandsLater d s j (x ∷ still) ahead)
    (on : (s2 : State) (j2 : Joint) → j2.end ≡ j.end → StandsLater d s2 j2 still ahead → LaterComes d capture s2 j2) where
  abbrev own_held : List ℕ
  own_held = (stream_of d s).held

  abbrev own_now : Streamed
  own_now = gathered (x ∷ []) (stream_of d s)

  abbrev own_joint : Joint
  own_joint = record j { begun = true; judge = begins d own_held j.judge }

  abbrev own_course : Course
  own_course = begins d own_held s.course

  own_halted : IsHalted (other d) own_joint.judge
  own_halted = grind arith

  own_goes_on : front_of (own_held ++ x ∷ []) ≡ partial → LaterComes d (of d x ∷ capture) s own_joint
  own_goes_on part =
      let next : State = with_stream d own_now (record s { course = own_course }) in
      let own : OwnStands (own_held ++ x ∷ []) still j.put true = search (arith, one_octet, append_assoc, begun_now) in
      later_octet d (of d x) capture s own_joint
      (subst (λ (t : State). LaterComes d capture t own_joint) (sym (passes_so d x s partial st.own_reads part))
      (on next own_joint refl (own_moved d own_now s own_course own_joint still ahead (ap (begins d own_held) st.course) st.own_reads
      own own_halted st.others)))

  own_ends : (v : Value) (vs : List Value) → j.put ≡ v ∷ vs → own_held ++ x ∷ [] ≡ packet_of (written v) → still ≡ packets vs →
      LaterComes d (of d x ∷ capture) s own_joint
  own_ends v vs is same rest =
      let e = packet_ends d s.course j.judge own_held still x v vs own_now.at st.course small st.own is same rest in
      let after_it : Course = packet_passes d own_now.at (written v) own_course in
      let last : Joint = record own_joint { put = vs; begun = false; judge = units_pass d own_now.at (v ∷ []) own_joint.judge } in
      let next : State = with_stream d (advanced own_now) (record s { course = after_it }) in
      later_first d (of d x ∷ capture) s (passes_own own_now.at v) own_joint last (e.read, e.octets, (is, refl, refl)) (λ spent. tt)
      (later_octet d (of d x) capture s last
      (subst (λ (t : State). LaterComes d capture t last) (sym (passes_so d x s (whole (written v)) st.own_reads e.front))
      (on next last refl (own_moved d (advanced own_now) s after_it last still ahead e.course st.own_reads e.own
      (units_kept (IsHalted (other d)) (halted_claim (other d)) d own_now.at (v ∷ []) own_joint.judge own_halted) st.others))))

  own_octet : LaterComes d (of d x ∷ capture) s j
  own_octet =
      let p = first_put own_held still x j.put st.own.all in
      own_begins d (of d x ∷ capture) s own_held j st.own.begun_so
      (λ none. let both : p.0 ∷ p.1 ≡ [] = sym p.2 ∙ none in cc)
      (elim (own_front own_held (written p.0) (packets p.1) still x st.own.part (st.own.all ∙ ap packets p.2) (some_octets p.0)) [
        | inl part ↦ own_goes_on part
        | inr k ↦ own_ends p.0 p.1 p.2 k.0 k.1
      ])

-- ---- an octet of the other side

other_begins : (d : Direction) (capture : Capture) (s : State) (held : List ℕ) (j : Joint) →
    LaterComes d capture s (record j { judge = begins (other d) held j.judge }) → LaterComes d capture s j
other_begins d capture s [] j c =
    later_first d capture s begins_other j (record j { judge = begins (other d) [] j.judge }) refl (λ spent. tt) c
other_begins d capture s (o ∷ held) j c = c

module _ (d : Direction) (x : ℕ) (capture : Capture) (s : State) (j : Joint) (still ahead : List ℕ) (small : x < 256)
    (st : StandsLater d s j still ahead)
    (on : (s2 : State) (j2 : Joint) → j2.end ≡ j.end → StandsLater d s2 j2 still (ahead ++ x ∷ []) →
    LaterComes d capture s2 j2) where
  more_passed : (us : List (List ℕ)) (r : List ℕ) → ArePackets us ((j.end.held.octets ++ ahead) ++ x ∷ []) r →
      ArePackets us (j.end.held.octets ++ (ahead ++ x ∷ [])) r
  more_passed us r p = subst (λ (l : List ℕ). ArePackets us l r) (append_assoc j.end.held.octets ahead (x ∷ [])) p

  module _ (spent : (stream_of (other d) s).spent ≡ true) (rest : List ℕ) (e : OtherEnds rest ahead j.end j.coming) where
    ends_now : OtherEnds (rest ++ x ∷ []) (ahead ++ x ∷ []) j.end j.coming
    ends_now = record {
      octets = one_octet rest x e.octets small;
      never = λ more. subst IsNoFront (sym (append_assoc rest (x ∷ []) more)) (e.never (x ∷ more));
      cut = grind (arith, more_passed, packets_on);
    }

    spent_octet : LaterComes d (of (other d) x ∷ capture) s j
    spent_octet =
        let t = counted 1 (stream_of (other d) s) in
        later_octet d (of (other d) x) capture s j
        (subst (λ (z : State). LaterComes d capture z j) (sym (spent_passes (other d) x s spent))
        (on (with_stream (other d) t s) j refl (grind (arith, other_moved, ends_now))))

  module _ (reads : (stream_of (other d) s).spent ≡ false) (os : OtherStands (stream_of (other d) s).held ahead j.end j.coming) where
    abbrev other_held : List ℕ
    other_held = (stream_of (other d) s).held

    abbrev other_now : Streamed
    other_now = gathered (x ∷ []) (stream_of (other d) s)

    abbrev other_joint : Joint
    other_joint = record j { judge = begins (other d) other_held j.judge }

    abbrev other_course : Course
    other_course = begins (other d) other_held s.course

    other_halted : IsHalted (other d) other_joint.judge
    other_halted = grind arith

    same_course : other_course ≡ other_joint.judge
    same_course = ap (begins (other d) other_held) st.course

    cut_now : j.end.end.carrier.ended ≡ None →
        ArePackets j.coming (j.end.held.octets ++ (ahead ++ x ∷ [])) (other_held ++ x ∷ [])
    cut_now lasts = grind (arith, more_passed, packets_on)

    other_goes_on : front_of (other_held ++ x ∷ []) ≡ partial → LaterComes d (of (other d) x ∷ capture) s other_joint
    other_goes_on part =
        let next : State = with_stream (other d) other_now (record s { course = other_course }) in
        later_octet d (of (other d) x) capture s other_joint
        (subst (λ (t : State). LaterComes d capture t other_joint) (sym (passes_so (other d) x s partial reads part))
        (on next other_joint refl (grind (arith, other_moved, same_course, other_halted, one_octet, cut_now))))

    -- no packet begins here
    other_faults : (f : TpktFault) → front_of (other_held ++ x ∷ []) ≡ faulty f → LaterComes d (of (other d) x ∷ capture) s other_joint
    other_faults f is =
        let after_it : Course = unread (other d) other_now.at (BadPacket f) other_course in
        let next : State = with_stream (other d) (ended other_now) (record s { course = after_it }) in
        let course : after_it ≡ other_joint.judge = grind (arith, same_course, unread_same, other_halted) in
        later_octet d (of (other d) x) capture s other_joint
        (subst (λ (t : State). LaterComes d capture t other_joint) (sym (passes_so (other d) x s (faulty f) reads is))
        (on next other_joint refl (other_moved d (ended other_now) s after_it other_joint still (ahead ++ x ∷ []) course st.own_reads st.own
        other_halted
        (grind (arith, begins_none, cut_now, one_octet other_held x os.octets small)))))

    other_ends : (u : List ℕ) → front_of (other_held ++ x ∷ []) ≡ whole u → LaterComes d (of (other d) x ∷ capture) s other_joint
    other_ends u front =
        let packet = whole_packet other_held u x (one_octet other_held x os.octets small) os.part front in
        let after_it : Course = packet_passes (other d) other_now.at u other_course in
        let units = units_by (units_of u) in
        let last : Joint = record other_joint {
          judge = units_pass (other d) other_now.at units other_joint.judge;
          coming = j.coming ++ u ∷ [];
        } in
        let course : after_it ≡ last.judge = grind (arith, same_course, unread_same) in
        let octets : IsOctets u = octets_right (_ ∷ _ ∷ _ ∷ _ ∷ []) u (subst IsOctets packet.spelled packet.octets) in
        let others : OtherStands [] (ahead ++ x ∷ []) j.end (j.coming ++ u ∷ []) = record {
          octets = octets_nil;
          part = refl;
          cut = grind (arith, more_passed, packets_then, append-nil);
        } in
        let next : State = with_stream (other d) (advanced other_now) (record s { course = after_it }) in
        later_first d (of (other d) x ∷ capture) s (passes_other other_now.at u units) other_joint last (octets, refl, refl)
        (λ spent. absurd (let no : true ≡ false = sym spent ∙ reads in cc))
        (later_octet d (of (other d) x) capture s last
        (subst (λ (t : State). LaterComes d capture t last) (sym (passes_so (other d) x s (whole u) reads front))
        (on next last refl (other_moved d (advanced other_now) s after_it last still (ahead ++ x ∷ []) course st.own_reads st.own
        (units_kept (IsHalted (other d)) (halted_claim (other d)) (other d) other_now.at units other_joint.judge other_halted)
        (inl (reads, others))))))

    reads_octet : LaterComes d (of (other d) x ∷ capture) s j
    reads_octet = other_begins d (of (other d) x ∷ capture) s other_held j (by (front_of (other_held ++ x ∷ [])) refl)
      where
        by : (f : Front) → front_of (other_held ++ x ∷ []) ≡ f → LaterComes d (of (other d) x ∷ capture) s other_joint
        by partial is = other_goes_on is
        by (faulty fault) is = other_faults fault is
        by (whole u) is = other_ends u is

  other_octet : OtherReads (stream_of (other d) s) ahead j.end j.coming → LaterComes d (of (other d) x ∷ capture) s j
  other_octet h = grind (arith, reads_octet, spent_octet)

-- ---- a turn

-- the end and the judge after a turn
record Turned (d : Direction) (s : State) (j : Joint) (turn : Turn) (new : Holding) (still ahead : List ℕ) : Type 0 where
  later : Joint
  takes : TakesTurn turn j later
  end : later.end ≡ new
  stands : StandsLater d s later (still ++ turn.put) ahead

module _ (d : Direction) (is_caller : Bool) (deeds : ℕ → Deeds) (s : State) (j : Joint) (turn : Turn) (new : Holding)
    (still ahead : List ℕ) (takes : Takes j.end turn new) (at : TurnOf is_caller deeds turn j.end new)
    (st : StandsLater d s j still (turn.used ++ ahead)) where
  turned_by : (rest : List ℕ) → OtherRest rest (turn.used ++ ahead) j.end j.coming →
      ((later : List (List ℕ)) → (new.end.carrier.ended ≡ None → ArePackets later (new.held.octets ++ ahead) rest) →
      OtherReads (stream_of (other d) s) ahead new later) → Turned d s j turn new still ahead
  turned_by rest e reads =
      let on = at.on in
      let units = all_units on.put in
      let mine = (stream_of d s).held in
      let u = uses rest ahead j.coming is_caller deeds j.end turn new takes on e j.end.end.carrier.ended
      new.end.carrier.ended refl refl in
      let both : (mine ++ still) ++ turn.put ≡ packets j.put ++ packets units = (λ i. st.own.all i ++ on.written i) in
      record {
        later = record j { end = new; put = j.put ++ units; coming = u.later };
        takes = takes_turn is_caller deeds turn j new takes on u.used u.later u.rest u.parts u.cut u.kept u.all;
        end = refl;
        stands = record {
          course = st.course;
          own_reads = st.own_reads;
          own = grind (arith, append_assoc, packets_joined, can_more);
          halted = st.halted;
          others = reads u.later u.left;
        };
      }

  turned : OtherReads (stream_of (other d) s) (turn.used ++ ahead) j.end j.coming → Turned d s j turn new still ahead
  turned (inl (reads, os)) =
      turned_by (stream_of (other d) s).held (rest_of (stream_of (other d) s).held (turn.used ++ ahead) j.end j.coming os)
      (λ later left. inl (reads, record { octets = os.octets; part = os.part; cut = left }))
  turned (inr (spent, rest, e)) =
      turned_by rest (ends_rest rest (turn.used ++ ahead) j.end j.coming e)
      (λ later left. inr (spent, rest, record { octets = e.octets; never = e.never; cut = left }))

-- ---- all of the rest

pub later_steps : (d : Direction) (is_caller : Bool) (still ahead : List ℕ) (capture : Capture) (turns_left : List Turn) →
    Follows d still ahead capture turns_left → (deeds : ℕ → Deeds) (s : State) (j : Joint) (end : Holding) → AreOctets capture →
    TurnsOf is_caller deeds j.end turns_left end → StandsLater d s j still ahead → LaterComes d capture s j
later_steps d is_caller _ _ _ _ (all_passed still ahead left) deeds s j end octets does st =
    record { steps = []; last = j; along = refl; all = st.course; no_more = λ spent. tt }
later_steps d is_caller _ _ _ _ (own_passes x o all still ahead capture left is front more) deeds s j end octets does st =
    let small : x < 256 = subst IsOctet is octets.0 in
    subst (λ (p : Passed). LaterComes d (p ∷ capture) s j) (sym is)
    (own_octet d x capture s j still ahead small (subst (λ (l : List ℕ). StandsLater d s j l ahead) front st)
    (λ s2 j2 same st2. later_steps d is_caller still ahead capture left more deeds s2 j2 end octets.1
    (subst (λ (h : Holding). TurnsOf is_caller deeds h left end) (sym same) does) st2))
later_steps d is_caller _ _ _ _ (other_passes x o still ahead capture left is more) deeds s j end octets does st =
    let small : x < 256 = subst IsOctet is octets.0 in
    subst (λ (p : Passed). LaterComes d (p ∷ capture) s j) (sym is)
    (other_octet d x capture s j still ahead small st
    (λ s2 j2 same st2. later_steps d is_caller still (ahead ++ x ∷ []) capture left more deeds s2 j2 end octets.1
    (subst (λ (h : Holding). TurnsOf is_caller deeds h left end) (sym same) does) st2) st.others)
later_steps d is_caller _ _ _ _ (turn_taken turn still all ahead capture left is more) deeds s j end octets does st =
    let here = subst (λ (l : List ℕ). StandsLater d s j still l) is st in
    let k = turned d is_caller deeds s j turn does.0 still ahead does.1 does.2 here here.others in
    later_first d capture s (turns turn) j k.later k.takes (λ spent. tt)
    (later_steps d is_caller (still ++ turn.put) ahead capture left more (all_did deeds does.2.on.more) s k.later end octets
    (subst (λ (h : Holding). TurnsOf is_caller (all_did deeds does.2.on.more) h left end) (sym k.end) does.3) k.stands)
