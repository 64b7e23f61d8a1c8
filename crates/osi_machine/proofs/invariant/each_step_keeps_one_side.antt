-- Each call and each unit keeps what holds of one side by itself.
-- For the law `what_is_true_of_each_side`, and for the invariant of both.
use Rattle.osi_machine.proofs.Vocabulary.{◌≡◌, refl, ℕ, ◌+◌, ◌≤◌, true, ◌||◌, nat_le, if◌then◌else◌, List, [], ◌∷◌, ◌++◌, arith, None, Ok}
use Rattle.osi_machine.proofs.Vocabulary.{Err, append-nil, leb-true, ltb-true, eqb-true, and_parts, State, Call, Meaning, RS, is_major_due}
use Rattle.osi_machine.proofs.Vocabulary.{is_releasing, is_restarting, may_call, needs, after, becomes, stands, from_base, point_sent}
use Rattle.osi_machine.proofs.Vocabulary.{point_taken, minor_confirmed, major_confirmed, restarted_at, IsSound, Good, Item, points, seen}
use Rattle.osi_machine.proofs.Vocabulary.{got_in, Party, speaks, view_called, party_taking, is_opening, IsConsistent, AllHold}
use Rattle.osi_machine.proofs.Vocabulary.{AllByRecursion, Passed, Granted, Answer, HasSerial, IsNumbered, allowed, respond_unit, alone}
use Rattle.osi_machine.proofs.Vocabulary.{respond, call_input, taken_input, after_inputs, HasNumbers, IsSendable, sends, Core, CoreStep}
use Rattle.osi_machine.proofs.Vocabulary.{call_at, take_at, Side, Left, Right, Offer, CanBeOffered, party_called, answered, taking, takes}
use Rattle.osi_machine.proofs.Vocabulary.{at_side, core_step, core_run, core_start, AreConsistent, IsNumberedStep, is_sized}
use Rattle.osi_machine.specs.Core.{turned, called}
use Rattle.osi_machine.specs.Floor.{Input, Standing, react}
use Rattle.osi_machine.proofs.basics.what_holds_in_each_phase.{by_test}
use Rattle.osi_machine.proofs.basics.what_a_restart_leaves_of_a_history.{points_append, points_upto}
use Rattle.osi_machine.proofs.channels.a_unit_is_dropped_bad_or_acted_on.{unit_cases}
use Rattle.osi_machine.proofs.invariant.what_holds_of_both_sides.{Stands}

-- the lines, but for the order of the numbers
pub record Lines (s : State) (v : List Item) (said got : List (List ℕ)) : Type 0 where
  pub count : s.numbers.next ≡ s.base + points v
  pub major : is_major_due s.phase ≡ true → s.numbers.answers ≡ true
  pub asked : is_restarting s.phase ≡ true → s.units.resynchronize ≡ true
  pub asker : is_releasing s.phase ≡ true → s.units.duplex ≡ true → s.is_caller ≡ true
  pub fresh : is_opening s.phase ≡ true → (s.base ≡ 0) × (s.numbers ≡ from_base 0) × (v ≡ []) × (said ≡ []) × (got ≡ [])

pub lines_of : (x : Party) → IsConsistent x → Lines x.session x.view x.said x.got
lines_of x h = grind arith

pub consistent : (x : Party) → IsSound x.session → Lines x.session x.view x.said x.got → IsConsistent x
consistent x sound h = grind arith

-- ---- the calls

pub call_lines : (s : State) (c : Call) (v : List Item) (said got : List (List ℕ)) → may_call s.phase c ≡ true → AllHold (needs s c)
    → IsSound s
    → Lines s v said got → Lines (after s c) (view_called s c v) (said ++ speaks s c) got
unfolding point_sent minor_confirmed major_confirmed restarted_at
call_lines s c v said got p t sound h = grind (arith, points_append, points_upto, and_parts, leb-true, ltb-true)

-- ---- the units

pub stood_below : (s : State) (n : ℕ) → (is_restarting s.phase || nat_le n s.numbers.next) ≡ true → stands s n ≡ true → n ≤ s.numbers.next
unfolding stands
stood_below s n e st = grind (arith, ltb-true, leb-true, eqb-true, and_parts)

pub unit_lines : (s : State) (u : Meaning) (v : List Item) (said got : List (List ℕ)) → Good s u → Lines s v said got
    → Lines (becomes s u) (seen s u v) said (got ++ got_in s u)
unfolding point_taken minor_confirmed major_confirmed restarted_at
unit_lines s (RS kind n wishes octets) v said got g h = grind (arith, and_parts, stood_below, points_upto, append-nil)
unit_lines s u v said got g h = grind (arith, points_append, append-nil)

-- a unit, whether it is acted on or not
pub taken_lines : (x : Party) (u : Meaning) → Lines x.session x.view x.said x.got
    → Lines (party_taking x u).session (party_taking x u).view (party_taking x u).said (party_taking x u).got
taken_lines x u h =
    unit_cases (λ b r. Lines r (if b then seen x.session u x.view else x.view) x.said (if b then x.got ++ got_in x.session u else x.got))
    x.session u (record {
      same = h;
      ended = grind arith;
      bad = grind arith;
      good = λ a. unit_lines x.session u x.view x.said x.got a.good h;
    })

-- what is proved of one session
pub record SessionLaws : Type 0 where
  pub sound : (s : Standing) (inputs : List Input) → AllByRecursion HasNumbers inputs → IsSound s.state
      → IsSound (after_inputs s inputs).state
  pub sendable : (s : State) (c : Call) (g : Granted) → IsSound s → HasSerial c → allowed s c ≡ Ok g → IsSendable g.sent
  pub one_unit : (s : State) (u : Meaning) → respond s (alone u) ≡ respond_unit s u
  pub passed : (s : State) (c : Call) (g : Granted) → allowed s c ≡ Ok g → Passed s c g

abbrev standing : State → Standing
standing s = record { state = s; waiting = None }

pub sound_call : SessionLaws → (s : State) (c : Call) (g : Granted) → HasSerial c → allowed s c ≡ Ok g → IsSound s → IsSound g.next
unfolding react
sound_call laws s c g small e h = grind (arith, laws.sound (standing s) (call_input c ∷ []) (small, tt) h)

pub sound_unit : SessionLaws → (s : State) (u : Meaning) → IsNumbered u → IsSound s → IsSound (respond_unit s u).next
unfolding react
sound_unit laws s u small h = grind (arith, laws.one_unit s u, laws.sound (standing s) (taken_input (alone u) ∷ []) ((small, tt), tt) h)

pub small_append : (us : List Meaning) (u : Meaning) → AllByRecursion IsNumbered us → IsNumbered u
    → AllByRecursion IsNumbered (us ++ u ∷ [])
small_append [] u h k = (k, tt)
small_append (v ∷ us) u h k = (h.0, small_append us u h.1 k)

-- ---- one side

pub call_kept : SessionLaws → (x : Party) (c : Call) (g : Granted) → HasSerial c → allowed x.session c ≡ Ok g → IsConsistent x
    → IsConsistent (party_called x c g)
call_kept laws x c g small e h =
    let q = laws.passed x.session c g e in
    let sound = sound_call laws x.session c g small e h.sound in
    grind (arith, consistent, call_lines x.session c x.view x.said x.got q.phase q.needed h.sound (lines_of x h), lines_of x h)

-- ---- both sides

pub answered_kept : SessionLaws → (w : Core) (c : Call) (a : Answer) → HasSerial c → allowed w.own.session c ≡ a → AreConsistent w
    → AreConsistent (answered w c a)
answered_kept laws w c (Ok g) small e h =
    grind (arith, small_append, call_kept laws w.own c g small e h.own, laws.sendable w.own.session c g h.own.sound small e)
answered_kept laws w c (Err d) small e h = h

-- the effect of a call that is granted
abbrev pub granted : State → Call → Granted
granted s c = record { next = after s c; sent = sends s c }

-- what is known of such a call, and of both sides after it
pub record IsGranted (w : Core) (c : Call) : Type 0 where
  pub phase : may_call w.own.session.phase c ≡ true
  pub needed : AllHold (needs w.own.session c)
  pub sized : is_sized (sends w.own.session c) ≡ true
  pub kept : AreConsistent (answered w c (Ok (granted w.own.session c)))

pub is_granted : SessionLaws → (w : Core) (c : Call) (g : Granted) → HasSerial c → allowed w.own.session c ≡ Ok g → AreConsistent w
    → IsGranted w c
is_granted laws w c g small e h =
    grind (
      arith,
      laws.passed w.own.session c g e,
      laws.sendable w.own.session c g h.own.sound small e,
      answered_kept laws w c (Ok g) small e h,
    )

-- such a call keeps the invariant of both sides
abbrev pub Keeps : Call → Type 0
Keeps c = (w : Core) → IsGranted w c → Stands w → Stands (answered w c (Ok (granted w.own.session c)))

called_kept : SessionLaws → (w : Core) (c : Call) → HasSerial c → AreConsistent w → AreConsistent (called w c)
called_kept laws w c small h = grind (arith, by_test, answered_kept)

pub taking_kept : SessionLaws → (w : Core) (us : List Meaning) → w.peer.sent ≡ us → AreConsistent w → AreConsistent (taking w us)
taking_kept laws w us e h = search (arith, consistent, sound_unit, taken_lines, lines_of)

pub turned_kept : (w : Core) → AreConsistent w → AreConsistent (turned w)
turned_kept w h = record { own = h.peer; peer = h.own; own_small = h.peer_small; peer_small = h.own_small }

side_kept : (f : Core → Core) → ((w : Core) → AreConsistent w → AreConsistent (f w)) → (side : Side) (w : Core) → AreConsistent w
    → AreConsistent (at_side side f w)
side_kept f step Left w h = step w h
side_kept f step Right w h = turned_kept (f (turned w)) (step (turned w) (turned_kept w h))

pub step_kept : SessionLaws → (w : Core) (step : CoreStep) → IsNumberedStep step → AreConsistent w → AreConsistent (core_step w step)
step_kept laws w (call_at side c) small h = side_kept (λ v. called v c) (λ v k. called_kept laws v c small k) side w h
step_kept laws w (take_at side) small h = side_kept takes (λ v k. taking_kept laws v v.peer.sent refl k) side w h

pub run_kept : SessionLaws → (w : Core) (steps : List CoreStep) → AllByRecursion IsNumberedStep steps → AreConsistent w
    → AreConsistent (core_run w steps)
run_kept laws w [] small h = h
run_kept laws w (step ∷ steps) small h = run_kept laws (core_step w step) steps small.1 (step_kept laws w step small.0 h)

-- ---- how it begins

pub starts : (o : Offer) → CanBeOffered o → AreConsistent (core_start o)
starts o h = grind arith
