-- What a unit of the other side does to its connection at the judge of a calling end: one that is open stays so, one that waits is
-- opened or refused. For the law on a whole end.
use Rattle.osi_blameless.proofs.transport.Vocabulary.{[], acknowledge, ap, arith, Bool, Broke, class_for, code_named, confirm, Connect}
use Rattle.osi_blameless.proofs.transport.Vocabulary.{Connection}
use Rattle.osi_blameless.proofs.transport.Vocabulary.{connection_after, Course, course_after, data0, data2, destination_of, disconnect}
use Rattle.osi_blameless.proofs.transport.Vocabulary.{disconnected}
use Rattle.osi_blameless.proofs.transport.Vocabulary.{error, false, Finding, first_failed, found, found_on, given_again, half_after}
use Rattle.osi_blameless.proofs.transport.Vocabulary.{if◌then◌else◌, inl}
use Rattle.osi_blameless.proofs.transport.Vocabulary.{inr, is_applied, is_closing, is_due, is_inside, is_named, is_of_connection}
use Rattle.osi_blameless.proofs.transport.Vocabulary.{is_offered, is_open}
use Rattle.osi_blameless.proofs.transport.Vocabulary.{is_refused, is_silent, Kept, List, nat_le, None, not, noted, NotJudged, one_told}
use Rattle.osi_blameless.proofs.transport.Vocabulary.{Outcome, Outside}
use Rattle.osi_blameless.proofs.transport.Vocabulary.{passes_over, Reach, reach_of, reached, refl, request, Right, Rule, slice_get, Some}
use Rattle.osi_blameless.proofs.transport.Vocabulary.{sym, takes, Test}
use Rattle.osi_blameless.proofs.transport.Vocabulary.{TooMany, Traffic, true, Two, uses_source, Value, Zero, ℕ, ◌==◌, ◌||◌, ◌∙◌, ◌∷◌, ◌≡◌}
use Rattle.osi_blameless.proofs.transport.Vocabulary.{◌⊎◌}
use Rattle.osi_rules.specs.declared.findings.Rule.TheVariants as rule
use Rattle.osi_blameless.proofs.transport.small_facts_that_many_lemmas_use.{and_first, and_second, differ, judged_same, open_or_closing}
use Rattle.osi_blameless.proofs.transport.connections.no_two_open_connections_have_one_peer.{left_open, right_there, there_not_silent}
use Rattle.osi_blameless.proofs.transport.connections.what_stays_of_each_connection.{is_tracked}
use Rattle.osi_blameless.proofs.transport.names.what_keeps_names_apart.{Sound}
use Rattle.osi_blameless.proofs.transport.connections.what_stays_of_each_connection.{right_judged, right_own}
use Rattle.osi_blameless.proofs.transport.requests.what_lasts_at_the_judge.{IsCalm, calm_noted}
use Rattle.osi_blameless.proofs.transport.connections.which_unit_of_the_other_side_passes.{Came, IsIdle, asks_so, came_so, for_one, lost}
use Rattle.osi_blameless.proofs.transport.connections.which_unit_of_the_other_side_passes.{not_calm}
use Rattle.osi_blameless.proofs.transport.connections.which_units_are_for_a_connection.{is_dc}

-- ---- for which connection it is

-- it names a connection, and the rules take it for this one
pub record Told (v : Value) (s : Traffic) (o : Outcome) : Type 0 where
  pub n : ℕ
  pub q : ℕ
  pub c : Connection
  pub dest : destination_of v ≡ Some n
  pub at : slice_get s.connections q ≡ Some c
  pub named : is_named Right n c ≡ true
  pub is : o ≡ one_told Right q c v s

-- the end has broken no rule
pub comes_for : (s : Traffic) → s.course.left_erred ≡ false → (v : Value) → s.course.left_stopped ≡ false →
    s.course.right_stopped ≡ false → (s.course.class ≡ None) ⊎ (s.course.class ≡ Some Two) → IsCalm (takes Right v s).state.course →
    Told v s (takes Right v s) ⊎ IsIdle Right v s (takes Right v s)
comes_for s fine v left right class calm = by (came_so Right v s (λ m cause e. fine) right class calm)
  where
    by : Came Right v s (takes Right v s) → Told v s (takes Right v s) ⊎ IsIdle Right v s (takes Right v s)
    by (asks_so x left_side is kept o) = absurd (cc left_side)
    by (for_one n q c dest at named is) = inl (record { n = n; q = q; c = c; dest = dest; at = at; named = named; is = is })
    by (lost idle) = inr idle

-- ---- what it does to its connection

form_broke : (a : Bool) (ts : List Test) → a ≡ false → first_failed ((a, Broke rule.WrongForm) ∷ ts) ≡ Broke rule.WrongForm
form_broke a ts h = grind arith

open_broke : (a : Bool) (ts : List Test) → a ≡ true → first_failed ((not a, Broke rule.UnknownReference) ∷ ts) ≡ Broke rule.UnknownReference
open_broke a ts h = grind arith

-- a DC is due, or it is not judged, or it is wrong
abbrev Fate : (due : Bool) → Finding → Type 0
Fate due f = (due ≡ true) ⊎ ((f ≡ NotJudged) ⊎ ((f ≡ Broke rule.UnknownReference) ⊎ (f ≡ Broke rule.NothingToAnswer)))

dc_or : (due told strays : Bool) → Fate due (first_failed ((due || not strays, NotJudged) ∷ (told, Broke rule.UnknownReference)
    ∷ (due, Broke rule.NothingToAnswer) ∷ []))
dc_or due told strays = grind arith

er_kept : (a erred : Bool) → a ≡ true → first_failed ((a || not erred, NotJudged) ∷ (a, Broke rule.WrongForm) ∷ []) ≡ Kept
er_kept a erred h = grind arith

-- what is found of a CC for a connection that waits
pub data Ruled (f : Finding) : Type 0 where
  fine : (f ≡ Kept) ⊎ (f ≡ Broke rule.LargerSize) → Ruled f
  wrong_answer : f ≡ Broke rule.BadAnswer → Ruled f
  wrong_reference : f ≡ Broke rule.ReferenceInUse → Ruled f
  doubtful : f ≡ TooMany → Ruled f
  outside : f ≡ Outside → Ruled f

ruled : (a b i u loose l : Bool) → a ≡ true →
    Ruled (first_failed ((a, Broke rule.WrongForm) ∷ (b, Broke rule.BadAnswer) ∷ (i, Outside) ∷ (u, given_again loose)
    ∷ (l, Broke rule.LargerSize) ∷ []))
ruled a b i u loose l h = grind arith

unused_by : (a b i used loose l : Bool) → is_applied (first_failed ((a, Broke rule.WrongForm) ∷ (b, Broke rule.BadAnswer) ∷ (i, Outside)
    ∷ (not used, given_again loose) ∷ (l, Broke rule.LargerSize) ∷ [])) ≡ true → used ≡ false
unused_by a b i used loose l h = grind arith

module _ (s : Traffic) (c : Connection) (judged : c.is_judged ≡ true) (sound : Sound c) where
  abbrev finding : Value → Finding
  finding v = found_on Right s c v

  abbrev how_far : Value → Reach
  how_far v = reach_of (class_for Right s.course) (finding v)

  abbrev next : Value → Connection
  next v = connection_after Right v (is_applied (finding v)) (how_far v) c

  abbrev course : Value → Course
  course v = noted Right (finding v) (reached Right (how_far v) (course_after Right c v (is_applied (finding v)) s.course))

  is_found : (v : Value) → finding v ≡ found Right s.course (uses_source Right s.connections v) c v
  is_found v = judged_same c.is_judged (found Right s.course (uses_source Right s.connections v) c v) judged

  right_by : (v : Value) (b : Bool) → is_applied (finding v) ≡ b → (next v).right ≡ (if b then half_after v c.right else c.right)
  right_by v b e = grind (arith, right_own, right_judged)

  broke : {A : Type 0} (v : Value) (r : Rule) → finding v ≡ Broke r → passes_over r ≡ false → is_of_connection r ≡ false →
      IsCalm (course v) → A
  broke v r e past hard h = grind (arith, not_calm, calm_noted)

  -- ---- a connection that is open stays so

  abbrev StaysOpen : Value → Type 0
  StaysOpen v = ((is_open (next v).right.phase || is_closing (next v).right.phase) ≡ true) × ((next v).right.reference ≡ c.right.reference)

  same_by : (v : Value) (b : Bool) → is_applied (finding v) ≡ b → (half_after v c.right).phase ≡ c.right.phase →
      (half_after v c.right).reference ≡ c.right.reference → is_tracked c ≡ true → StaysOpen v
  same_by v true e p r h = grind (arith, right_by v true e, right_there c h)
  same_by v false e p r h = grind (arith, right_by v false e, right_there c h)

  not_silent : is_tracked c ≡ true → is_silent c.right.phase ≡ false
  not_silent h = there_not_silent c.right.phase (right_there c h)

  dc_fate : (destination source : ℕ) → Fate (is_due Right c source) (finding (disconnected destination source))
  dc_fate destination source = grind (arith, is_found, dc_or)

  -- what has no effect
  idle_open : (v : Value) → is_applied (finding v) ≡ false → is_tracked c ≡ true → StaysOpen v
  idle_open v e h = grind (arith, right_by v false e, right_there c h)

  cc_wrong : (destination : ℕ) (x : Connect) → is_silent c.right.phase ≡ false → finding (confirm destination x) ≡ Broke rule.WrongForm
  cc_wrong destination x h = grind (arith, is_found, form_broke)

  -- a CC has an effect only on a connection that waits
  pub cc_idle : (destination : ℕ) (x : Connect) → is_silent c.right.phase ≡ false → is_applied (finding (confirm destination x)) ≡ false
  cc_idle destination x h = ap is_applied (cc_wrong destination x h)

  pub cc_lost : (destination : ℕ) (x : Connect) → is_silent c.right.phase ≡ false → IsCalm (course (confirm destination x)) →
      (next (confirm destination x)).is_judged ≡ false
  cc_lost destination x h p = grind (arith, cc_idle)

  pub cc_loose : (destination : ℕ) (x : Connect) → is_silent c.right.phase ≡ false → IsCalm (course (confirm destination x)) →
      (course (confirm destination x)).loose ≡ true
  cc_loose destination x h p = grind arith

  pub open_stays : (v : Value) (n : ℕ) → destination_of v ≡ Some n → is_tracked c ≡ true → StaysOpen v
  open_stays (request x) n e h = absurd (cc e)
  open_stays (confirm destination x) n e h = idle_open (confirm destination x) (cc_idle destination x (not_silent h)) h
  open_stays (disconnect destination source reason user) n e h = grind arith
  open_stays (disconnected destination source) n e h =
      grind (arith, idle_open, open_or_closing, and_first, and_second, left_open c h, dc_fate destination source)
  open_stays (data0 end user) n e h = absurd (cc e)
  open_stays (error destination cause) n e h = grind (arith, idle_open, is_found, not_silent)
  open_stays v n e h = grind (arith, same_by v (is_applied (finding v)) refl refl refl h)

  -- ---- a connection that waits is opened, or refused

  pub data Answered (v : Value) : Type 0 where
    opens : (destination : ℕ) (x : Connect) → v ≡ confirm destination x → (finding v ≡ Kept) ⊎ (finding v ≡ Broke rule.LargerSize) →
        (x.class == 2) ≡ true → uses_source Right s.connections v ≡ false → Answered v
    refused : is_refused (next v).right.phase ≡ true → (next v).is_judged ≡ true → ((m : ℕ) (x : Connect) → v ≡ confirm m x → ⊥) →
        Answered v
    -- a DC that is not judged
    waits_on : is_dc v ≡ true → next v ≡ c → Answered v

  fine_applied : (f : Finding) → (f ≡ Kept) ⊎ (f ≡ Broke rule.LargerSize) → is_applied f ≡ true
  fine_applied f h = grind arith

  -- a CC that takes effect selects class 2
  abbrev pub SelectsTwo : Value → Type 0
  SelectsTwo v = (m : ℕ) (x : Connect) → v ≡ confirm m x → is_applied (finding v) ≡ true → (x.class == 2) ≡ true

  -- if class 0 is not selected after it
  pub not_selected : (v : Value) → ((course v).class ≡ Some Zero → ⊥) → SelectsTwo v
  not_selected v none m x e applied = grind arith

  cc_by : (destination : ℕ) (x : Connect) → SelectsTwo (confirm destination x) → IsCalm (course (confirm destination x)) →
      Ruled (finding (confirm destination x)) → Answered (confirm destination x)
  cc_by destination x selects p (fine f) =
      let v = confirm destination x in
      let applied = fine_applied (finding v) f in
      let unused = unused_by (is_silent c.right.phase) (is_offered c.offer s.course.class x) (is_inside x)
      (uses_source Right s.connections v) s.course.loose (nat_le (code_named x.parameters.size) c.offer.size_code)
      (ap is_applied (sym (is_found v)) ∙ applied) in
      opens destination x refl f (selects destination x refl applied) unused
  cc_by destination x selects p (wrong_answer e) = broke (confirm destination x) rule.BadAnswer e refl refl p
  cc_by destination x selects p (wrong_reference e) = broke (confirm destination x) rule.ReferenceInUse e refl refl p
  cc_by destination x selects p (doubtful e) = absurd (grind (arith, differ))
  cc_by destination x selects p (outside e) = absurd (grind (arith, differ))

  pub answered : (v : Value) (n : ℕ) → destination_of v ≡ Some n → is_silent c.right.phase ≡ true → SelectsTwo v →
      IsCalm (course v) → Answered v
  answered (confirm destination x) n e h z p = cc_by destination x z p (grind (arith, is_found, ruled))
  answered (disconnect destination source reason user) n e h z p = grind (arith, is_found, right_by)
  answered (disconnected destination source) n e h z p = grind (arith, broke)
  answered (data2 destination number end user) n e h z p = grind (arith, broke, is_found, open_broke)
  answered (acknowledge credit destination number) n e h z p = grind (arith, broke, is_found, open_broke)
  answered (error destination cause) n e h z p = grind (arith, is_found, er_kept, right_by)
  answered _ n e h z p = absurd (cc e)
