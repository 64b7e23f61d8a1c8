-- Each unit of the other side, by what is found of it: it has its effect, or none, or the connection is not judged any more.
-- For the laws on a line.
use Rattle.osi_blameless.proofs.transport.Vocabulary.{arith, [], ap, Bool, false, if◌then◌else◌, inl, inr, List, Option, Some, subst, sym}
use Rattle.osi_blameless.proofs.transport.Vocabulary.{true, ℕ, ◌++◌}
use Rattle.osi_blameless.proofs.transport.Vocabulary.{◌<◌, ◌∙◌, ◌∷◌, ◌≡◌, ◌≢◌, ◌⊎◌, not, ◌&&◌, ◌||◌, acknowledge, confirm, data2}
use Rattle.osi_blameless.proofs.transport.Vocabulary.{destination_of}
use Rattle.osi_blameless.proofs.transport.Vocabulary.{disconnect, disconnected, error, HasFieldsInRange, Value, Standing, Two, is_applied}
use Rattle.osi_blameless.proofs.transport.Vocabulary.{reach_of}
use Rattle.osi_blameless.proofs.transport.Vocabulary.{first_failed, has_passed, is_due, is_tellable, keeps_credit, Test, is_closing}
use Rattle.osi_blameless.proofs.transport.Vocabulary.{is_open, is_silent}
use Rattle.osi_blameless.proofs.transport.Vocabulary.{found, sent_on, Connection, Course, Left, Right, Finding, Broke, NotJudged, Phase}
use Rattle.osi_blameless.proofs.transport.Vocabulary.{Acts}
use Rattle.osi_blameless.proofs.transport.Vocabulary.{after_finding, finding_of, Line, passes_other}
use Rattle.osi_rules.specs.declared.findings.Reach.TheVariants as reach
use Rattle.osi_rules.specs.declared.findings.Rule.TheVariants as rule
use Rattle.osi_blameless.proofs.transport.small_facts_that_many_lemmas_use.{and_first, and_second}
use Rattle.osi_blameless.proofs.transport.lines.what_holds_of_a_line.{Tally, Ordered, PutsAt, TakesAt, Holds, is_there, as_judged}
use Rattle.osi_blameless.proofs.transport.lines.what_passes_of_the_other_side.{Went, goes_same, data_goes, ack_goes, ends_goes}

-- ---- what comes of a finding

abbrev Applies : Finding → Type 0
Applies f = (is_applied f ≡ true) × (reach_of (Some Two) f ≡ reach.Nothing)

abbrev Leaves : Finding → Type 0
Leaves f = (is_applied f ≡ false) × (reach_of (Some Two) f ≡ reach.Nothing)

abbrev Loses : Finding → Type 0
Loses f = (is_applied f ≡ false) × (reach_of (Some Two) f ≡ reach.Connection)

applied_after : (f : Finding) (v : Value) (c : Connection) → Applies f → sent_on Right v c ≡ after_finding Right f v c
applied_after f v c (e, g) = sym (grind arith)

left_after : (f : Finding) (v : Value) (c : Connection) → Leaves f → c ≡ after_finding Right f v c
left_after f v c (e, g) = sym (grind arith)

lost_after : (f : Finding) (v : Value) (c : Connection) → Loses f → (after_finding Right f v c).is_judged ≡ true → ⊥
lost_after f v c h judged = grind arith

loses_as : (f g : Finding) → f ≡ g → Loses g → Loses f
loses_as f g e (a, b) = (ap is_applied e ∙ a, ap (λ (h : Finding). reach_of (Some Two) h) e ∙ b)

-- ---- what is found, by the tests of each row

abbrev data_list : (s o n t u k z : Bool) → List Test
data_list s o n t u k z = (s, Broke rule.UnknownReference) ∷ (o, Broke rule.Closed) ∷ (n, Broke rule.OutOfSequence)
    ∷ (t, Broke rule.OutOfSequence)
    ∷ (u, Broke rule.TsduTooLong) ∷ (k, Broke rule.NoCredit) ∷ (z, Broke rule.SizeExceeded) ∷ []

-- `open`: the other side has not closed the connection; `tells`: the number of the DT can be told
abbrev Fate : (live tells : Bool) → Finding → Type 0
Fate live tells f = (reach_of (Some Two) f ≡ reach.Everything) ⊎ (((live ≡ false) × Leaves f) ⊎ (Loses f ⊎ ((live ≡ true)
    × (tells ≡ true) × Applies f)))

data_fate : (s o n t u k z : Bool) → Fate o t (first_failed (data_list s o n t u k z))
data_fate s o n t u k z = grind arith

abbrev ack_list : (s o h k : Bool) → List Test
ack_list s o h k =
    (s, Broke rule.UnknownReference) ∷ (o, Broke rule.Closed) ∷ (h, Broke rule.OutOfSequence) ∷ (k, Broke rule.CreditReduced) ∷ []

ack_fate : (s o h k : Bool) → Fate o (h && k) (first_failed (ack_list s o h k))
ack_fate s o h k = grind arith

-- a DR of a side that is there
disconnect_fate : (phase : Phase) → is_there phase ≡ true →
    ((is_open phase ≡ false) × Leaves (first_failed ((is_silent phase || is_open phase, Broke rule.Closed) ∷ [])))
    ⊎ ((is_open phase ≡ true) × (is_silent phase ≡ false)
    × Applies (first_failed ((is_silent phase || is_open phase, Broke rule.Closed) ∷ [])))
disconnect_fate phase h = grind arith

disconnected_fate : (due told strays : Bool) →
    told ≡ true →
    (let f = first_failed ((due || not strays, NotJudged) ∷ (told, Broke rule.UnknownReference) ∷ (due, Broke rule.NothingToAnswer) ∷ []) in
    (Leaves f) ⊎ (Loses f ⊎ ((due ≡ true) × Applies f)))
disconnected_fate due told strays h = grind arith

-- an ER on a connection that its sender has answered is wrong, or may answer a break of the end
error_fate : (silent erred : Bool) → silent ≡ false →
    (let f = first_failed ((silent || not erred, NotJudged) ∷ (silent, Broke rule.WrongForm) ∷ []) in (Leaves f) ⊎ (Loses f))
error_fate silent erred h = grind arith

first_fails : (b : Bool) (rest : Finding) → b ≡ false → (if b then rest else Broke rule.WrongForm) ≡ Broke rule.WrongForm
first_fails b rest e = ap (λ (x : Bool). if x then rest else Broke rule.WrongForm) e

there_not_silent : (phase : Phase) → is_there phase ≡ true → is_silent phase ≡ false
there_not_silent phase h = grind arith

not_closing : (phase : Phase) → is_open phase ≡ true → is_closing phase ≡ true → ⊥
not_closing phase h k = grind arith

never : (live : Bool) → live ≡ false → live ≡ true → ⊥
never live h k = cc

-- ---- each kind of unit

module _ (r peer limit : ℕ) (x : Tally) (noted : ℕ) (judge : Connection) (put coming : List Value) (link : Option Standing)
    (o : Ordered x noted) (t : as_judged r peer limit x noted judge) (p : PutsAt r peer limit x judge.left judge.right put link)
    (k : TakesAt limit x judge.right coming link) where
  abbrev Goes : Value → Connection → Type 0
  Goes unit after = Went r peer limit x noted judge after put (coming ++ unit ∷ []) link

  closed_goes : (unit : Value) (f : Finding) → is_open judge.right.phase ≡ false → Leaves f → Goes unit (after_finding Right f unit judge)
  closed_goes unit f closed leaves = grind (arith, goes_same, never, left_after f unit judge leaves)

  data_by : (destination number : ℕ) (end : Bool) (user : List ℕ) (f : Finding) →
      Fate (is_open judge.right.phase) (is_tellable Right judge) f →
      reach_of (Some Two) f ≢ reach.Everything → (after_finding Right f (data2 destination number end user) judge).is_judged ≡ true →
      Goes (data2 destination number end user) (after_finding Right f (data2 destination number end user) judge)
  data_by destination number end user f (inl e) some judged = absurd (some e)
  data_by destination number end user f (inr (inl (closed, leaves))) some judged = grind (arith, closed_goes)
  data_by destination number end user f (inr (inr (inl loses))) some judged = grind (arith, lost_after)
  data_by destination number end user f (inr (inr (inr (live, tells, applies)))) some judged =
      subst (λ (c : Connection). Goes (data2 destination number end user) c)
      (applied_after f (data2 destination number end user) judge applies)
      (data_goes r peer limit x noted judge put coming link o t p k destination number end user tells)

  ack_by : (credit destination number : ℕ) (f : Finding) → number < 128 → credit < 16 →
      Fate (is_open judge.right.phase) (has_passed Right judge number && keeps_credit Right judge number credit) f →
      reach_of (Some Two) f ≢ reach.Everything → (after_finding Right f (acknowledge credit destination number) judge).is_judged ≡ true →
      Goes (acknowledge credit destination number) (after_finding Right f (acknowledge credit destination number) judge)
  ack_by credit destination number f small little (inl e) some judged = absurd (some e)
  ack_by credit destination number f small little (inr (inl (closed, leaves))) some judged = grind (arith, closed_goes)
  ack_by credit destination number f small little (inr (inr (inl loses))) some judged = grind (arith, lost_after)
  ack_by credit destination number f small little (inr (inr (inr (live, tells, applies)))) some judged =
      subst (λ (c : Connection). Goes (acknowledge credit destination number) c)
      (applied_after f (acknowledge credit destination number) judge applies)
      (grind (arith, ack_goes, and_first, and_second))

  -- a DR
  disconnect_goes : (destination source reason : ℕ) (user : List ℕ) → is_open judge.right.phase ≡ true →
      is_silent judge.right.phase ≡ false →
      Goes (disconnect destination source reason user) (sent_on Right (disconnect destination source reason user) judge)
  disconnect_goes destination source reason user live silent = grind (arith, ends_goes)

  -- a DC
  disconnected_by : (destination source : ℕ) (f : Finding) → (Leaves f) ⊎ (Loses f ⊎ ((is_due Right judge source ≡ true) × Applies f)) →
      (after_finding Right f (disconnected destination source) judge).is_judged ≡ true →
      Goes (disconnected destination source) (after_finding Right f (disconnected destination source) judge)
  disconnected_by destination source f (inl leaves) judged = grind (arith, left_after, goes_same)
  disconnected_by destination source f (inr (inl loses)) judged = absurd (lost_after f (disconnected destination source) judge loses judged)
  disconnected_by destination source f (inr (inr (due, applies))) judged = grind (arith, and_first, applied_after, ends_goes, not_closing)

  pub unit_goes : (course : Course) (in_use : Bool) (unit : Value) → HasFieldsInRange unit → destination_of unit ≡ Some r →
      reach_of (Some Two) (found Right course in_use judge unit) ≢ reach.Everything →
      (after_finding Right (found Right course in_use judge unit) unit judge).is_judged ≡ true →
      Goes unit (after_finding Right (found Right course in_use judge unit) unit judge)
  unit_goes course in_use (confirm destination c) range named some judged =
      grind (arith, first_fails, there_not_silent, lost_after, loses_as)
  unit_goes course in_use (error destination cause) range named some judged =
      grind (arith, left_after, goes_same, lost_after, error_fate, there_not_silent)
  unit_goes course in_use (disconnect destination source reason user) range named some judged =
      grind (arith, closed_goes, applied_after, disconnect_goes, disconnect_fate)
  unit_goes course in_use (disconnected destination source) range named some judged =
      grind (arith, disconnected_by, disconnected_fate, there_not_silent)
  unit_goes course in_use (data2 destination number end user) range named some judged = search (arith, data_by, data_fate)
  unit_goes course in_use (acknowledge credit destination number) range named some judged = grind (arith, ack_by, ack_fate)
  unit_goes course in_use _ range named some judged = absurd (cc)

judged_finding : (course : Course) (in_use : Bool) (judge : Connection) (unit : Value) → judge.is_judged ≡ true →
    finding_of Right course in_use judge unit ≡ found Right course in_use judge unit
judged_finding course in_use judge unit judged = ap (λ (b : Bool). if b then found Right course in_use judge unit else NotJudged) judged

pub passes_other_holds : (r peer : ℕ) (course : Course) (in_use : Bool) (unit : Value) (old new : Line) →
    Acts Left r peer (passes_other course in_use unit) old new → old.judge.is_judged ≡ true → new.judge.is_judged ≡ true →
    Holds r peer old →
    Holds r peer new
passes_other_holds r peer course in_use unit old new (range, named, some, new_is) was judged h =
    let f = found Right course in_use old.judge unit in
    let is = judged_finding course in_use old.judge unit was in
    let stop : reach_of (Some Two) f ≢ reach.Everything = subst (λ (g : Finding). reach_of (Some Two) g ≢ reach.Everything) is some in
    let after : new ≡ record old { judge = after_finding Right f unit old.judge; coming = old.coming ++ unit ∷ [] } = new_is
    ∙ ap (λ (g : Finding). record old { judge = after_finding Right g unit old.judge; coming = old.coming ++ unit ∷ [] }) is in
    let still : (after_finding Right f unit old.judge).is_judged ≡ true = sym (ap (λ (l : Line). l.judge.is_judged) after) ∙ judged in
    let w = unit_goes r peer h.limit h.tally h.noted old.judge old.put old.coming old.end h.ordered h.judges h.puts h.takes course in_use
    unit
    range named stop still in
    subst (λ (l : Line). Holds r peer l) (sym after)
    (record {
      limit = h.limit;
      tally = record h.tally { came = w.came; heard = w.heard; edge = w.edge };
      noted = h.noted;
      ordered = w.ordered;
      judges = w.judges;
      puts = w.puts;
      takes = w.takes;
      under_way = λ b. w.under_way (h.under_way b);
    })
