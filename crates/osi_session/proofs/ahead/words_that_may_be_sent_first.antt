-- The words that may be sent first, by what they leave: a part of Data, a minor point, and its confirmation.
use Rattle.osi_session.proofs.Vocabulary.{cases_Bool, ltb-true, lt-ltb, Phase, MajorDue, ReleaseDue, RestartDue, Aborting, Ended, State}
use Rattle.osi_session.proofs.Vocabulary.{UnitFault, Unexpected, is_over, is_ready, may_confirm_minor, Meaning, AB, FN, GT, MAP, MIA, MIP}
use Rattle.osi_session.proofs.Vocabulary.{RS, as_message, AllMet, si, first_fault, is_expected, drops, Tokens, Verdict, over, dropped}
use Rattle.osi_session.proofs.Vocabulary.{faulty, fine, by_fault, is_faulty, stands, restarted_at, respond_unit, Taker, Hearing}
use Rattle.osi_session.proofs.Vocabulary.{word_conditions, word_verdict, enacted_word, respond_word, minor_confirmed, point_sent}
use Rattle.osi_session.proofs.Vocabulary.{point_taken, united, ◌≡◌, refl, sym, subst, ℕ, Bool, true, false, not, ◌&&◌, ◌⊎◌, inl, ◌||◌, inr}
use Rattle.osi_session.proofs.Vocabulary.{if◌then◌else◌, List, Option, None, arith, Word, says, Numbers, may_hold}
use Rattle.osi_session.proofs.ahead.a_side_that_has_sent_a_word.{shifted, Goes, IsAheadBy, quiet_good}
use Rattle.osi_session.proofs.tables.what_is_true_of_each_phase.{implied, excluded}
use Rattle.osi_session.proofs.tables.the_outcomes_of_each_input.{unit_cases}
use Rattle.osi_session.proofs.runs.units_keep_the_invariant.{all_met}
use Rattle.osi_session.proofs.tables.a_word_acts_as_its_message.{word_keeps}
use Rattle.osi_session.proofs.tables.messages_act_as_the_table_says.{word_at}

-- ---- the phases to which a side that only takes TSDUs never returns

-- data and points are not sent any more
abbrev pub past_ready : Phase → Bool
past_ready MajorDue = true
past_ready ReleaseDue = true
past_ready RestartDue = true
past_ready Aborting = true
past_ready Ended = true
past_ready _ = false

-- nor are confirmations of minor points
abbrev pub past_confirming : Phase → Bool
past_confirming MajorDue = true
past_confirming RestartDue = true
past_confirming Aborting = true
past_confirming Ended = true
past_confirming _ = false

abbrev from_ready : Phase → Bool
from_ready p = is_ready p || past_ready p

neither : (b : Bool) → b ≡ true → b ≡ false → ⊥
neither b h k = grind arith

past_ready_ends : (s : State) (u : Meaning) → past_ready s.phase ≡ true → past_ready (respond_unit s u).next.phase ≡ true
past_ready_ends s u h =
    unit_cases (λ n. past_ready n.phase ≡ true) s u
    (record { same = h; ended = λ a. refl; bad = λ a e. refl; good = λ a e x m. grind (arith, neither, excluded) })

past_confirming_ends : (s : State) (u : Meaning) → past_confirming s.phase ≡ true → past_confirming (respond_unit s u).next.phase ≡ true
past_confirming_ends s u h =
    unit_cases (λ n. past_confirming n.phase ≡ true) s u
    (record { same = h; ended = λ a. refl; bad = λ a e. refl; good = λ a e x m. grind (arith, neither, excluded) })

unit_stays : (s : State) (u : Meaning) → from_ready s.phase ≡ true → from_ready (respond_unit s u).next.phase ≡ true
unit_stays s u h =
    unit_cases (λ n. from_ready n.phase ≡ true) s u
    (record { same = h; ended = λ a. refl; bad = λ a e. refl; good = λ a e x m. grind (arith, neither, excluded) })

word_stays : (t : Taker) (v : Word) → from_ready t.state.phase ≡ true → from_ready (respond_word t v).next.state.phase ≡ true
word_stays t v h = word_keeps (λ s. from_ready s.phase ≡ true) t v (λ u a. unit_stays t.state u h) (λ o. refl) h

still_ready : (p : Phase) → from_ready p ≡ true → past_ready p ≡ false → is_ready p ≡ true
still_ready p h k = grind arith

-- ---- a part: it leaves the state as it was

abbrev pub IsReady : State → Type 0
IsReady s = is_ready s.phase ≡ true

abbrev pub same_state : State → State
same_state s = s

pub part_ahead : IsAheadBy IsReady past_ready same_state
part_ahead = grind (arith, implied, past_ready_ends, cases_Bool, still_ready, word_stays)

-- ---- what is taken without an answer is discarded, or good

abbrev verdict_by : (o d x : Bool) (n : ℕ) → Option UnitFault → Verdict
verdict_by o d x n f = if o then over else if d then dropped else if not x then faulty (Unexpected n) else by_fault f

pub record Passes (t : Taker) (v : Word) : Type 0 where
  pub lives : is_over t.state.phase ≡ false
  pub acts : drops t.state (as_message v) ≡ false
  pub expected : is_expected t.state.phase (as_message v) ≡ true
  pub met : AllMet (word_conditions t v)

passed_by : (o d x : Bool) (n : ℕ) (f : Option UnitFault) → verdict_by o d x n f ≡ fine →
    (o ≡ false) × (d ≡ false) × (x ≡ true) × (f ≡ None)
passed_by o d x n f h = grind arith

pub passes : (t : Taker) (v : Word) → word_verdict t v ≡ fine → Passes t v
passes t v h = grind (arith, passed_by, all_met)

quiet_verdict : (w : Verdict) (o d x : Bool) (n : ℕ) (f : Option UnitFault) → verdict_by o d x n f ≡ w → o ≡ false → is_faulty w ≡ false →
    (w ≡ dropped) ⊎ (w ≡ fine)
quiet_verdict w o d x n f e l q = grind arith

pub quietly : (t : Taker) (v : Word) → is_over t.state.phase ≡ false → (respond_word t v).reply ≡ None →
    (word_verdict t v ≡ dropped) ⊎ (word_verdict t v ≡ fine)
quietly t v o r =
    quiet_verdict (word_verdict t v) (is_over t.state.phase) (drops t.state (as_message v)) (is_expected t.state.phase (as_message v))
    (si (as_message v))
    (first_fault (si (as_message v)) (word_conditions t v)) refl o (quiet_good t v r)

-- ---- both continue, by what each does

goes_as : (P : State → Type 0) (gone : Phase → Bool) (f : State → State) (h k i l : Hearing) → h ≡ i → k ≡ l → Goes P gone f i l →
    Goes P gone f h k
goes_as P gone f h k i l d e g = subst (λ (x : Hearing). Goes P gone f x k) (sym d) (subst (λ (x : Hearing). Goes P gone f i x) (sym e) g)

-- only the numbers change
abbrev pub renumbered : (Numbers → Numbers) → State → State
renumbered g s = record s { numbers = g s.numbers }

abbrev BothGo : (State → Type 0) → (Phase → Bool) → (Numbers → Numbers) → Taker → Word → Type 0
BothGo P gone g t v = Goes P gone (renumbered g) (respond_word t v) (respond_word (shifted (renumbered g) t) v)

-- What two such changes share: the phases in which the word may have been sent, and what a point, a confirmation and a
-- request for release do then.
record Renumbers (P : State → Type 0) (gone : Phase → Bool) (g : Numbers → Numbers) : Type 0 where
  phase : (s : State) → P s → may_confirm_minor s.phase ≡ true
  tokens : (s : State) (more : Tokens) → P s → P (record s { held = united s.held more })
  major : gone MajorDue ≡ true
  restart : gone RestartDue ≡ true
  point : (t : Taker) (c : Bool) (n : ℕ) (o : List ℕ) → P t.state → word_verdict t (says (MIP c n o)) ≡ fine →
      BothGo P gone g t (says (MIP c n o))
  confirmed : (t : Taker) (n : ℕ) (o : List ℕ) → P t.state → word_verdict t (says (MIA n o)) ≡ fine → BothGo P gone g t (says (MIA n o))
  finish : (t : Taker) (o : List ℕ) → P t.state → word_verdict t (says (FN o)) ≡ fine → BothGo P gone g t (says (FN o))

module _ (P : State → Type 0) (gone : Phase → Bool) (g : Numbers → Numbers) where
  fine_goes : (t : Taker) (v : Word) → word_verdict t v ≡ fine → word_verdict (shifted (renumbered g) t) v ≡ fine
      → Goes P gone (renumbered g) (enacted_word t v fine) (enacted_word (shifted (renumbered g) t) v fine) → BothGo P gone g t v
  fine_goes t v h k go = goes_as P gone (renumbered g) _ _ _ _ (word_at t v fine h) (word_at (shifted (renumbered g) t) v fine k) go

  fine_gone : (t : Taker) (v : Word) → word_verdict t v ≡ fine → gone (enacted_word t v fine).next.state.phase ≡ true → BothGo P gone g t v
  fine_gone t v h e = inl (subst (λ (x : Hearing). gone x.next.state.phase ≡ true) (sym (word_at t v fine h)) e)

  dropped_goes : (t : Taker) (v : Word) → P t.state → word_verdict t v ≡ dropped → BothGo P gone g t v
  dropped_goes t v p h =
      grind (arith, goes_as, word_at t v dropped h, word_at (shifted (renumbered g) t) v dropped (grind arith), shifted (renumbered g) t)

  word_good : Renumbers P gone g → (t : Taker) (v : Word) → P t.state → word_verdict t v ≡ fine → (respond_word t v).reply ≡ None →
      BothGo P gone g t v
  unfolding stands
  word_good k t (says (GT w)) p h r =
      fine_goes t _ h h (inr (k.tokens t.state w p, record { next = refl; quiet = refl; closes = refl }))
  word_good k t (says (MIP c n o)) p h r = k.point t c n o p h
  word_good k t (says (MIA n o)) p h r = k.confirmed t n o p h
  word_good k t (says (MAP n o)) p h r = fine_gone t _ h k.major
  word_good k t (says (FN o)) p h r = k.finish t o p h
  word_good k t (says (RS b n w o)) p h r =
      fine_gone t _ h (let m = k.phase t.state p in let e = k.restart in grind (arith, stands, restarted_at))
  word_good k t (says (AB b o)) p h r = absurd (grind (arith, respond_word t (says (AB b o)), word_at t (says (AB b o)) fine h))
  word_good k t v p h r = let m = k.phase t.state p in grind (arith, neither, passes, excluded, fine_goes)

  word_step : Renumbers P gone g → (t : Taker) (v : Word) → P t.state → (respond_word t v).reply ≡ None → BothGo P gone g t v
  word_step k t v p r = elim (quietly t v (excluded may_confirm_minor is_over refl t.state.phase (k.phase t.state p)) r) [
    | inl d ↦ dropped_goes t v p d
    | inr f ↦ word_good k t v p f r
  ]

  ahead_by : Renumbers P gone g → ((s : State) (u : Meaning) → gone s.phase ≡ true → gone (respond_unit s u).next.phase ≡ true) →
      gone Aborting ≡ true → IsAheadBy P gone (renumbered g)
  ahead_by k ends aborts = record {
    holds = λ s p. implied may_confirm_minor may_hold refl s.phase (k.phase s p);
    phase = λ s. refl;
    ends = ends;
    aborts = aborts;
    step = word_step k;
  }

-- ---- a minor point

-- the side has the right to a point, so it takes none
pub record MayPoint (s : State) : Type 0 where
  pub ready : is_ready s.phase ≡ true
  pub minor : s.held.minor ≡ true

-- a confirmation that is taken then, is also taken after the point
taken_conf : (s : State) (j : Option (List ℕ)) (n : ℕ) (o : List ℕ) → is_ready s.phase ≡ true →
    Passes (record { state = s; joined = j }) (says (MIA n o))
    → (s.numbers.answers ≡ false) × (Passes (record { state = renumbered point_sent s; joined = j }) (says (MIA n o)))
unfolding point_sent
taken_conf s j n o r p = grind (arith, excluded, ltb-true, lt-ltb)

still_held : (held more : Tokens) → held.minor ≡ true → (united held more).minor ≡ true
unfolding united
still_held held more h = grind arith

point_confirmed : (t : Taker) (n : ℕ) (o : List ℕ) → MayPoint t.state → word_verdict t (says (MIA n o)) ≡ fine →
    BothGo MayPoint past_ready point_sent t (says (MIA n o))
unfolding minor_confirmed point_sent
point_confirmed t n o p h =
    let q = taken_conf t.state t.joined n o p.ready (passes t (says (MIA n o)) h) in
    fine_goes MayPoint past_ready point_sent t _ h (grind arith) (grind arith)

point_taken_no : (t : Taker) (c : Bool) (n : ℕ) (o : List ℕ) → MayPoint t.state → word_verdict t (says (MIP c n o)) ≡ fine →
    BothGo MayPoint past_ready point_sent t (says (MIP c n o))
point_taken_no t c n o p h = grind (arith, passes)

pub point_ahead : IsAheadBy MayPoint past_ready (renumbered point_sent)
point_ahead = ahead_by MayPoint past_ready point_sent (record {
  phase = λ s p. implied is_ready may_confirm_minor refl s.phase p.ready;
  tokens = λ s more p. record { ready = p.ready; minor = still_held s.held more p.minor };
  major = refl;
  restart = refl;
  point = point_taken_no;
  confirmed = point_confirmed;
  finish = λ t o p h. fine_gone MayPoint past_ready point_sent t _ h refl;
}) past_ready_ends refl

-- ---- the confirmation of a minor point

-- points were taken last, so no confirmation is taken
pub record MayConfirm (s : State) : Type 0 where
  pub phase : may_confirm_minor s.phase ≡ true
  pub answers : s.numbers.answers ≡ true

same_point : (n : ℕ) (s : State) (j : Option (List ℕ)) (c : Bool) (m : ℕ) (o : List ℕ) →
    word_verdict (record { state = s; joined = j }) (says (MIP c m o)) ≡ fine
    → word_verdict (record { state = renumbered (minor_confirmed n) s; joined = j }) (says (MIP c m o)) ≡ fine
unfolding minor_confirmed
same_point n s j c m o h = h

no_ack : (answers b : Bool) → answers ≡ true → (not answers && b) ≡ true → ⊥
no_ack answers b h k = grind arith

conf_point : (m : ℕ) (t : Taker) (c : Bool) (n : ℕ) (o : List ℕ) → MayConfirm t.state → word_verdict t (says (MIP c n o)) ≡ fine →
    BothGo MayConfirm past_confirming (minor_confirmed m) t (says (MIP c n o))
unfolding minor_confirmed point_taken
conf_point m t c n o p h =
    fine_goes MayConfirm past_confirming (minor_confirmed m) t _ h (same_point m t.state t.joined c n o h)
    (grind arith)

pub conf_ahead : (m : ℕ) → IsAheadBy MayConfirm past_confirming (renumbered (minor_confirmed m))
conf_ahead m = ahead_by MayConfirm past_confirming (minor_confirmed m) (record {
  phase = λ s p. p.phase;
  tokens = λ s more p. record { phase = p.phase; answers = p.answers };
  major = refl;
  restart = refl;
  point = conf_point m;
  confirmed = λ t n o p h. absurd (no_ack t.state.numbers.answers _ p.answers (passes t (says (MIA n o)) h).met.1.0);
  finish = λ t o p h. fine_goes MayConfirm past_confirming (minor_confirmed m) t _ h h
      (inr (record { phase = refl; answers = p.answers }, record { next = refl; quiet = refl; closes = refl }));
}) past_confirming_ends refl
