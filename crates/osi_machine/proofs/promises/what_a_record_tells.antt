-- The record of a side tells what it has seen and whether it awaits the answer to a restart, after every list of steps.
-- For the law of the same name, and for the records of the machine.
use Rattle.osi_machine.proofs.Vocabulary.{append-nil, Shown, State, FunctionalUnits, Call, Accept, Data, Give, Please, Minor, MinorConfirm}
use Rattle.osi_machine.proofs.Vocabulary.{Major, MajorConfirm, Restart, RestartConfirm, Release, ReleaseRefuse, Meaning, CN, AC, DT, GT, PT}
use Rattle.osi_machine.proofs.Vocabulary.{MIP, MIA, MAP, MAA, RS, RA, FN, NF, Phase, is_over, is_connecting, is_ready, is_major_asked}
use Rattle.osi_machine.proofs.Vocabulary.{is_major_due, is_releasing, is_release_due, is_restarting, is_restart_due, becomes, shown_for}
use Rattle.osi_machine.proofs.Vocabulary.{after, may_call, Good, Item, points, seen, got_in, is_plain, view_called, speaks, stays_in_core}
use Rattle.osi_machine.proofs.Vocabulary.{is_opening, Told, told_call, told_shown, AllByRecursion, CallError, Granted, Answer, Outcome}
use Rattle.osi_machine.proofs.Vocabulary.{nothing, good, drops, allowed, respond_unit, Agree, is_acted_on, AllFit, Core, CoreStep, call_at}
use Rattle.osi_machine.proofs.Vocabulary.{take_at, Side, Left, Right, Offer, answered, taking, core_step, core_run, core_start}
use Rattle.osi_machine.proofs.Vocabulary.{IsNumberedStep, Entry, shown_at, error_of, told_entry, told_by, record_of, untold, call_entries}
use Rattle.osi_machine.proofs.Vocabulary.{take_entries, core_entries, core_journal, left_told, right_told, AreTold, takes, Party, is_side}
use Rattle.osi_machine.proofs.Vocabulary.{offers_in, call_answered, ◌&&◌, ◌==◌, eq-eqb, ◌≡◌, refl, sym, ◌∙◌, ap, ℕ, ◌+◌, Bool, true, false}
use Rattle.osi_machine.proofs.Vocabulary.{not, ◌||◌, if◌then◌else◌, List, [], ◌∷◌, ◌++◌, arith, subst, map, Option, Some, None, Ok, Err}
use Rattle.osi_machine.specs.Core.{turned, called}
use Rattle.osi_machine.proofs.basics.what_holds_in_each_phase.{implied, excluded, by_test, every}
use Rattle.osi_machine.proofs.basics.what_a_restart_leaves_of_a_history.{cut_points, points_append}
use Rattle.osi_machine.proofs.channels.a_unit_is_dropped_bad_or_acted_on.{fit_acts, no_fault}
use Rattle.osi_machine.proofs.invariant.what_holds_of_both_sides.{Stands}
use Rattle.osi_machine.proofs.invariant.each_step_keeps_one_side.{SessionLaws}
use Rattle.osi_machine.proofs.invariant.no_side_is_over.{alive}
use Rattle.osi_machine.proofs.takes.a_unit_that_cuts_nothing.{stands_at}
use Rattle.osi_machine.proofs.each_step_keeps_both_sides.{turned_stands, step_stands, run_stands}
use Rattle.osi_machine.proofs.promises.what_two_users_may_rely_on.{views_agree}

-- a connection that is open
abbrev pub is_open : Phase → Bool
is_open p = not (is_opening p || is_over p)

-- what a record tells of a side
pub record Tells (t : Told) (s : State) (v : List Item) (spoken heard : List (List ℕ)) : Type 0 where
  pub asked : is_connecting s.phase ≡ true → (t.asked_for ≡ s.units) × (t.proposed ≡ s.proposed)
  pub fresh : is_opening s.phase ≡ true → t.view ≡ []
  pub base : t.base ≡ s.base
  pub view : s.units.duplex ≡ false → t.view ≡ v
  pub asking : t.asking ≡ is_restarting s.phase
  pub duplex : is_open s.phase ≡ true → t.duplex ≡ s.units.duplex
  pub fine : t.faulted ≡ false
  -- before it is open
  pub unselected : is_opening s.phase ≡ true → t.duplex ≡ false
  -- with duplex, the data of both directions
  pub silent : is_opening s.phase ≡ true → (t.requested ≡ []) × (t.indicated ≡ [])
  pub said : s.units.duplex ≡ true → t.requested ≡ spoken
  pub got : s.units.duplex ≡ true → t.indicated ≡ heard
  -- with duplex there is none
  pub pointed : points t.view ≡ points v

abbrev pub TellsOf : Told → Party → Type 0
TellsOf t x = Tells t x.session x.view x.said x.got

-- ---- if little changes

-- phase, units and base stay, and nothing is seen
same_tells : (t : Told) (s r : State) (v w : List Item) (a a' b b' : List (List ℕ)) → r.phase ≡ s.phase → r.units ≡ s.units
    → r.proposed ≡ s.proposed → r.base ≡ s.base
    → w ≡ v → a' ≡ a → b' ≡ b → Tells t s v a b → Tells t r w a' b'
same_tells t s r v w x x' y y' p u n b e f g h = grind arith

-- from an open phase to one in which nothing is opened
calm : Phase → Bool
calm p = not (is_opening p || is_restarting p)

calm_parts : (p : Phase) → calm p ≡ true → (is_opening p ≡ false) × (is_restarting p ≡ false)
unfolding calm
calm_parts p h = grind (arith, calm)

calm_tells : (t : Told) (s : State) (v : List Item) (said got : List (List ℕ)) → calm s.phase ≡ true → t.base ≡ s.base
    → (s.units.duplex ≡ false → t.view ≡ v) → t.asking ≡ false
    → (is_open s.phase ≡ true → t.duplex ≡ s.units.duplex) → t.faulted ≡ false → (s.units.duplex ≡ true → t.requested ≡ said)
    → (s.units.duplex ≡ true → t.indicated ≡ got)
    → points t.view ≡ points v → Tells t s v said got
calm_tells t s v said got c b e a d f x y q = search (arith, calm_parts)

none_more : (t : Told) (v : List Item) (b : Bool) → (b ≡ false → t.view ≡ v) → b ≡ false → t.view ≡ v ++ []
none_more t v b f d = f d ∙ sym (append-nil v)

same_points : (t : Told) (s : State) (v : List Item) (said got : List (List ℕ)) → Tells t s v said got → points t.view ≡ points (v ++ [])
same_points t s v said got h = h.pointed ∙ ap points (sym (append-nil v))

-- ---- an accepted call

not_asking : (t : Told) (s : State) (v : List Item) (said got : List (List ℕ)) → Tells t s v said got → is_restarting s.phase ≡ false
    → t.asking ≡ false
not_asking t s v said got h e = h.asking ∙ e

-- from a phase f of an open connection, in which no restart is awaited, to one in which nothing is opened
module _ (f : Phase → Bool) (opens : every (λ p. not (f p) || is_open p) ≡ true)
    (calms : every (λ p. not (f p) || not (is_restarting p)) ≡ true) where
  open_tells : (t r : Told) (s q : State) (v v' : List Item) (said said' got got' : List (List ℕ)) → f s.phase ≡ true → calm q.phase ≡ true
      → q.units ≡ s.units → q.base ≡ s.base → r.base ≡ t.base → r.asking ≡ t.asking → r.duplex ≡ t.duplex → r.faulted ≡ t.faulted
      → Tells t s v said got → (s.units.duplex ≡ false → r.view ≡ v') → (s.units.duplex ≡ true → r.requested ≡ said')
      → (s.units.duplex ≡ true → r.indicated ≡ got') → points r.view ≡ points v' → Tells r q v' said' got'
  open_tells t r s q v v' said said' got got' p c u b b' a d e h view asked told k =
      let w : q.units.duplex ≡ s.units.duplex = ap (λ (z : FunctionalUnits). z.duplex) u in
      calm_tells r q v' said' got' c (b' ∙ h.base ∙ sym b) (λ x. view (sym w ∙ x))
      (a ∙ not_asking t s v said got h (excluded f is_restarting calms s.phase p))
      (λ o. d ∙ h.duplex (implied f is_open opens s.phase p) ∙ sym w) (e ∙ h.fine) (λ x. asked (sym w ∙ x)) (λ x. told (sym w ∙ x)) k

  -- a call that says nothing, and a unit that brings nothing
  quiet_call : (t : Told) (s q : State) (v : List Item) (said got : List (List ℕ)) → f s.phase ≡ true → calm q.phase ≡ true
      → q.units ≡ s.units
      → q.base ≡ s.base → Tells t s v said got → Tells t q (v ++ []) (said ++ []) got
  quiet_call t s q v said got p c u b h =
      open_tells t t s q v (v ++ []) said (said ++ []) got got p c u b refl refl refl refl h (none_more t v s.units.duplex h.view)
      (λ d. h.said d ∙ sym (append-nil said)) h.got (same_points t s v said got h)

  quiet_unit : (t : Told) (s q : State) (v : List Item) (said got : List (List ℕ)) → f s.phase ≡ true → calm q.phase ≡ true
      → q.units ≡ s.units
      → q.base ≡ s.base → Tells t s v said got → Tells t q v said (got ++ [])
  quiet_unit t s q v said got p c u b h =
      open_tells t t s q v v said said got (got ++ []) p c u b refl refl refl refl h h.view h.said
      (λ d. h.got d ∙ sym (append-nil got)) h.pointed

pub call_tells : (t : Told) (s : State) (c : Call) (v : List Item) (said got : List (List ℕ)) → stays_in_core c ≡ true
    → may_call s.phase c ≡ true
    → s.numbers.next ≡ s.base + points v → (is_opening s.phase ≡ true → (v ≡ []) × (said ≡ []) × (got ≡ [])) → Tells t s v said got
    → Tells (told_call t c) (after s c) (view_called s c v) (said ++ speaks s c) got
unfolding calm
call_tells t s (Accept requirements serial sides sizes octets) v said got k p n f h =
    grind (arith, implied, calm_tells, append-nil, not_asking, excluded, same_points)
call_tells t s (Data octets) v said got k p n f h = grind (arith, open_tells, implied, calm, points_append, append-nil)
call_tells t s (Minor confirm octets) v said got k p n f h = grind (arith, open_tells, implied, calm, append-nil, points_append)
call_tells t s (Major octets) v said got k p n f h = grind (arith, open_tells, append-nil, points_append)
call_tells t s (MajorConfirm octets) v said got k p n f h = quiet_call is_major_due refl refl t s _ v said got p refl refl refl h
call_tells t s (Restart m wishes octets) v said got k p n f h = grind (arith, append-nil, cut_points)
call_tells t s (RestartConfirm sides octets) v said got k p n f h = quiet_call is_restart_due refl refl t s _ v said got p refl refl refl h
call_tells t s (Release octets) v said got k p n f h = quiet_call is_ready refl refl t s _ v said got p refl refl refl h
call_tells t s (ReleaseRefuse octets) v said got k p n f h = quiet_call is_release_due refl refl t s _ v said got p refl refl refl h
call_tells t s (Give tokens) v said got k p n f h = grind (arith, same_tells, append-nil)
call_tells t s (Please tokens octets) v said got k p n f h = grind (arith, same_tells, append-nil)
call_tells t s (MinorConfirm m octets) v said got k p n f h = grind (arith, same_tells, append-nil)
call_tells t s _ v said got k p n f h = absurd (cc)

-- ---- a unit that is acted on

abbrev pub told_all : Told → List Shown → Told
told_all t [] = t
told_all t (i ∷ shown) = told_all (told_shown t i) shown

either : (P : List Shown → State → List Item → Type 0) (b : Bool) (a c : List Shown) (x y : State) (v w : List Item) → (b ≡ true → P a x v)
    → (b ≡ false → P c y w)
    → P (if b then a else c) (if b then x else y) (if b then v else w)
either P b a c x y v w h k = grind arith

either_state : (P : List Shown → State → Type 0) (b : Bool) (a c : List Shown) (x y : State) → P a x → P c y
    → P (if b then a else c) (if b then x else y)
either_state P b a c x y h k = grind arith

pub unit_tells : (t : Told) (s : State) (u : Meaning) (v : List Item) (said got : List (List ℕ)) → is_plain u ≡ true → Good s u
    → (is_opening s.phase ≡ true → (v ≡ []) × (said ≡ []) × (got ≡ [])) → Tells t s v said got
    → Tells (told_all t (shown_for s u)) (becomes s u) (seen s u v) said (got ++ got_in s u)
unfolding calm
unit_tells t s (CN w r n x from to z o) v said got p g f h =
    grind (arith, implied, either_state, not_asking, append-nil, calm_tells, excluded)
unit_tells t s (AC w r n x z o) v said got p g f h = grind (arith, implied, calm_tells, not_asking, excluded, append-nil)
unit_tells t s (DT o) v said got p g f h = grind (arith, open_tells, implied, calm, points_append)
unit_tells t s (MIP c n o) v said got p g f h = grind (arith, open_tells, implied, calm, append-nil, points_append)
unit_tells t s (MAP n o) v said got p g f h = grind (arith, open_tells, append-nil, points_append)
unit_tells t s (MAA n o) v said got p g f h = quiet_unit is_major_asked refl refl t s _ v said got g.expected refl refl refl h
unit_tells t s (RS j n w o) v said got p g f h = grind (arith, either, calm_tells, implied, append-nil, cut_points, same_tells)
unit_tells t s (RA n w o) v said got p g f h = grind (arith, calm_tells, implied, append-nil)
unit_tells t s (FN o) v said got p g f h = quiet_unit is_ready refl refl t s _ v said got g.expected refl refl refl h
unit_tells t s (NF o) v said got p g f h = quiet_unit is_releasing refl refl t s _ v said got g.expected refl refl refl h
unit_tells t s (GT k) v said got p g f h = same_tells t s _ v v said said got _ refl refl refl refl refl refl (append-nil got) h
unit_tells t s (PT k o) v said got p g f h = same_tells t s _ v v said said got _ refl refl refl refl refl refl (append-nil got) h
unit_tells t s (MIA n o) v said got p g f h = same_tells t s _ v v said said got _ refl refl refl refl refl refl (append-nil got) h
unit_tells t s _ v said got p g f h = absurd (cc)

-- ---- a record, entry by entry

pub record_append : (side : Side) (r : ℕ) (es fs : List Entry) → record_of side r (es ++ fs) ≡ record_of side r es ++ record_of side r fs
record_append side r [] fs = refl
record_append side r (e ∷ es) fs = grind (arith, record_append side r es fs)

pub told_append : (t : Told) (es fs : List Entry) → told_by t (es ++ fs) ≡ told_by (told_by t es) fs
told_append t [] fs = refl
told_append t (e ∷ es) fs = told_append (told_entry t e) es fs

abbrev pub other : Side → Side
other Left = Right
other Right = Left

pub other_side : (side : Side) (b : Bool) → (is_side (other side) side && b) ≡ false
other_side side b = grind arith

pub own_entry : (side : Side) (r : ℕ) → (is_side side side && (r == r)) ≡ true
own_entry side r = grind (arith, eq-eqb r r refl)

-- a call that was answered, to the side that made it
abbrev pub told_of_call : Told → Call → Option CallError → Told
told_of_call t c None = told_call t c
told_of_call t c (Some e) = t

-- entries of one side and one reference, which ask for no connection, and what the record of that side then tells
pub record Reports (side : Side) (r : ℕ) (es : List Entry) (f : Told → Told) : Type 0 where
  pub apart : (d : Side) (k : ℕ) → (is_side d side && (r == k)) ≡ false → record_of d k es ≡ []
  pub tells : (t : Told) → told_by t (record_of side r es) ≡ f t
  pub asks : offers_in es ≡ []

nothing_reports : (side : Side) (r : ℕ) → Reports side r [] (λ t. t)
nothing_reports side r = record { apart = λ d k n. refl; tells = λ t. refl; asks = refl }

pub call_reports : (side : Side) (r : ℕ) (c : Call) (e : Option CallError)
    → Reports side r (call_answered side r c e ∷ []) (λ t. told_of_call t c e)
call_reports side r c e = grind (arith, own_entry)

pub shown_reports : (side : Side) (r : ℕ) (shown : List Shown) → Reports side r (map (shown_at side r) shown) (λ t. told_all t shown)
shown_reports side r [] = nothing_reports side r
shown_reports side r (i ∷ shown) = grind (arith, own_entry, shown_reports side r shown)

-- ---- a call

pub answer_tells : SessionLaws → (w : Core) (c : Call) (a : Answer) (t : Told) → stays_in_core c ≡ true → allowed w.own.session c ≡ a
    → Stands w → TellsOf t w.own → TellsOf (told_of_call t c (error_of a)) (answered w c a).own
answer_tells laws w c (Ok g) t k e s h =
    let q = laws.passed w.own.session c g e in
    subst (λ (r : Granted). Tells (told_call t c) r.next (view_called w.own.session c w.own.view)
    (w.own.said ++ speaks w.own.session c) w.own.got) (sym q.gives)
    (call_tells t w.own.session c w.own.view w.own.said w.own.got k q.phase s.consistent.own.count
    (λ o. let z = s.consistent.own.fresh o in (z.view, z.said, z.got)) h)
answer_tells laws w c (Err d) t k e s h = h

called_tells : SessionLaws → (w : Core) (c : Call) (t : Told) → Stands w → TellsOf t w.own
    → TellsOf (if stays_in_core c then told_of_call t c (error_of (allowed w.own.session c)) else t) (called w c).own
called_tells laws w c t s h = by_test (stays_in_core c) (λ k. rw k (answer_tells laws w c (allowed w.own.session c) t k refl s h))
    (λ k. rw k h)

called_peer : (w : Core) (c : Call) (t : Told) → TellsOf t w.peer → TellsOf t (called w c).peer
called_peer w c t h = grind (arith, Tells)

-- ---- a unit that is taken

-- the indications of the first of these units
abbrev pub shown_of : Core → List Meaning → List Shown
shown_of w [] = []
shown_of w (u ∷ us) = (respond_unit w.own.session u).shown

abbrev Wanted : Core → Meaning → Told → Outcome → Bool → Type 0
Wanted w u t o a = Tells (told_all t o.shown) o.next (if a then seen w.own.session u w.own.view else w.own.view) w.own.said
    (if a then w.own.got ++ got_in w.own.session u else w.own.got)

pub taken_tells : (w : Core) (us : List Meaning) (t : Told) → w.peer.sent ≡ us → Stands w → TellsOf t w.own
    → TellsOf (told_all t (shown_of w us)) (taking w us).own
taken_tells w [] t e s h = h
taken_tells w (u ∷ us) t e s h =
    let f : AllFit w.own.session (u ∷ us) = (stands_at w (u ∷ us) e s).own.fits in
    let lives : is_over w.own.session.phase ≡ false = alive w.owner w.own w.peer s.own in
    let same : respond_unit w.own.session u ≡ (if drops w.own.session u then nothing w.own.session else good w.own.session u) =
    no_fault w.own.session u lives f.0 in
    let acts : is_acted_on w.own.session u ≡ not (drops w.own.session u) = fit_acts w.own.session u lives f.0 in
    by_test (drops w.own.session u)
    (grind (arith, respond_unit))
    (λ d. subst (Wanted w u t (respond_unit w.own.session u)) (sym (acts ∙ ap not d))
    (subst (λ (o : Outcome). Wanted w u t o true)
    (sym (same ∙ ap (λ (b : Bool). if b then nothing w.own.session else good w.own.session u) d))
    (unit_tells t w.own.session u w.own.view w.own.said w.own.got f.0.plain (f.0.good d)
    (λ o. let z = s.consistent.own.fresh o in (z.view, z.said, z.got)) h)))

taken_peer : (w : Core) (us : List Meaning) (t : Told) → TellsOf t w.peer → TellsOf t (taking w us).peer
taken_peer w us t h = grind arith

-- ---- a step

abbrev TellBoth : Core → Told → Told → Type 0
TellBoth w left right = TellsOf left w.own × TellsOf right w.peer

entries_of_call : (side : Side) (s : State) (c : Call)
    → Reports side 1 (call_entries side s c) (λ t. if stays_in_core c then told_of_call t c (error_of (allowed s c)) else t)
entries_of_call side s c = grind (arith, call_reports, nothing_reports)

entries_of_take : (side : Side) (w : Core) (us : List Meaning)
    → Reports side 1 (take_entries side w.own.session us) (λ t. told_all t (shown_of w us))
entries_of_take side w [] = nothing_reports side 1
entries_of_take side w (u ∷ us) = shown_reports side 1 (respond_unit w.own.session u).shown

-- of the side that acts, and of the other
acting_tells : (side : Side) (es : List Entry) (f : Told → Told) (x y : Party) (own peer : Told) → Reports side 1 es f → TellsOf (f own) x
    → TellsOf peer y → TellsOf (told_by own (record_of side 1 es)) x × TellsOf (told_by peer (record_of (other side) 1 es)) y
acting_tells side es f x y own peer r h k = (
  subst (λ (t : Told). TellsOf t x) (sym (r.tells own)) h,
  subst (λ (l : List Entry). TellsOf (told_by peer l) y) (sym (r.apart (other side) 1 (other_side side true))) k,
)

step_tells : SessionLaws → (w : Core) (step : CoreStep) (left right : Told) → Stands w → TellBoth w left right
    → TellBoth (core_step w step) (told_by left (record_of Left 1 (core_entries w step)))
    (told_by right (record_of Right 1 (core_entries w step)))
step_tells laws w (call_at Left c) left right s h = acting_tells Left _ _ (called w c).own (called w c).peer left right
    (entries_of_call Left w.own.session c)
    (called_tells laws w c left s h.0) (called_peer w c right h.1)
step_tells laws w (call_at Right c) left right s h =
    let v = turned w in
    let k = acting_tells Right _ _ (called v c).own (called v c).peer right left (entries_of_call Right v.own.session c)
    (called_tells laws v c right (turned_stands w s) h.1) (called_peer v c left h.0) in
    (k.1, k.0)
step_tells laws w (take_at Left) left right s h = acting_tells Left _ _ (takes w).own (takes w).peer left right
    (entries_of_take Left w w.peer.sent)
    (taken_tells w w.peer.sent left refl s h.0) (taken_peer w w.peer.sent right h.1)
step_tells laws w (take_at Right) left right s h =
    let v = turned w in
    let k = acting_tells Right _ _ (takes v).own (takes v).peer right left (entries_of_take Right v v.peer.sent)
    (taken_tells v v.peer.sent right refl (turned_stands w s) h.1) (taken_peer v v.peer.sent left h.0) in
    (k.1, k.0)

-- ---- a list of steps

run_tells : SessionLaws → (w : Core) (steps : List CoreStep) (left right : Told) → AllByRecursion IsNumberedStep steps → Stands w
    → TellBoth w left right
    → TellBoth (core_run w steps) (told_by left (record_of Left 1 (core_journal w steps)))
    (told_by right (record_of Right 1 (core_journal w steps)))
run_tells laws w [] left right small s h = h
run_tells laws w (step ∷ steps) left right small s h =
    let one = step_tells laws w step left right s h in
    let more = run_tells laws (core_step w step) steps (told_by left (record_of Left 1 (core_entries w step)))
    (told_by right (record_of Right 1 (core_entries w step)))
    small.1 (step_stands laws w step small.0 s) one in
    search (record_append, told_append)

starts_told : (o : Offer) → TellBoth (core_start o) (untold Left o) (untold Right o)
starts_told o = grind arith

pub are_told : SessionLaws → (o : Offer) (steps : List CoreStep) → AllByRecursion IsNumberedStep steps → Stands (core_start o)
    → AreTold o steps
are_told laws o steps small s =
    grind (arith, run_tells laws (core_start o) steps (untold Left o) (untold Right o) small s (starts_told o), starts_told o)

-- so that the views of both records agree
pub told_agree : SessionLaws → (o : Offer) (steps : List CoreStep) → AllByRecursion IsNumberedStep steps → Stands (core_start o)
    → (core_run (core_start o) steps).own.session.units.duplex ≡ false → (core_run (core_start o) steps).peer.session.units.duplex ≡ false
    → Agree (left_told o steps).view (right_told o steps).view
told_agree laws o steps small s d e = search (arith, are_told, views_agree, run_stands)
