-- A connection that awaits its CC opens with the first CC that comes for it, or it is over with that: no CC comes before it opens.
-- For the course of a connection.
use Rattle.osi_blameless.proofs.ends.Vocabulary.{[], ap, append_assoc, arith, Bool, false, inl, inr, List, nat_le, nat_lt, None, Option}
use Rattle.osi_blameless.proofs.ends.Vocabulary.{refl, Some}
use Rattle.osi_blameless.proofs.ends.Vocabulary.{append-nil, nat_tests, subst, sym, true, ℕ, ◌&&◌, ◌++◌, ◌∙◌, ◌∷◌, ◌≡◌, ◌≤◌, AllByRecursion}
use Rattle.osi_blameless.proofs.ends.Vocabulary.{confirm, Value, Class, Two, Zero, react_quiet, put_here, in_class, in_two, before_class}
use Rattle.osi_blameless.proofs.ends.Vocabulary.{to_connection, value_at, asked, Connection, Happening, State as Carrier, hears, to_session}
use Rattle.osi_blameless.proofs.ends.Vocabulary.{session_carried, End, Input, has_given, Answers, AreApart, Opens, Marked, Connect, react}
use Rattle.osi_blameless.proofs.ends.Vocabulary.{Carries}
use Rattle.osi_blameless.proofs.ends.Vocabulary.{closed_given, sent_given, units_rise}
use Rattle.osi_blameless.proofs.ends.at_any_time.an_end_that_is_over_does_nothing.{never_lasts}
use Rattle.osi_blameless.proofs.ends.links.the_connections_of_each_class.{IsSound, zero_asks_none}
use Rattle.osi_blameless.proofs.ends.links.units_of_each_connection.{all_of_both}
use Rattle.osi_blameless.proofs.ends.links.how_long_a_connection_is_open.{BeforeOpen, Life, Stage, WhileOpen, open_then, opens_by, Rests}
use Rattle.osi_blameless.proofs.ends.links.how_long_a_connection_is_open.{life_rests, stage_at, stays}
use Rattle.osi_blameless.proofs.ends.links.how_long_a_connection_is_open.Stage.{early, past}

-- none of these units is a CC for it
abbrev pub IsNotCc : ℕ → Value → Type 0
IsNotCc r v = (x : Connect) → v ≡ confirm r x → ⊥

abbrev pub HasNoCc : ℕ → List Marked → Type 0
HasNoCc r units = AllByRecursion (λ (m : Marked). IsNotCc r m.1) units

-- What becomes of a connection that awaits its CC: it still does, and none has come; or it is gone; or it opens, and no CC came before the
-- unit with which it does.
pub data Awaiting (is_caller : Bool) (r : ℕ) (took put : List Marked) (given : Bool) (t : Stage) : Type 0 where
  awaits : AreApart r took → AreApart r put → HasNoCc r took → given ≡ true → t ≡ early → Awaiting is_caller r took put given t
  goes : AreApart r took → AreApart r put → t ≡ past → Awaiting is_caller r took put given t
  opens_so : (peer : ℕ) (unit : Value) → Opens is_caller r peer unit → (some later : List Marked) → AreApart r some → HasNoCc r some →
      took ≡ some ++ ((0, unit) ∷ later) → (others answer put_later : List Marked) → AreApart r others → AreApart r answer →
      Answers r peer unit answer → put ≡ others ++ (answer ++ put_later) → WhileOpen r peer later put_later t →
      Awaiting is_caller r took put given t

-- ---- one unit at most

abbrev pub IsShort : List Marked → Type 0
IsShort [] = Unit {0}
IsShort (m ∷ []) = Unit {0}
IsShort (m ∷ k ∷ units) = ⊥

first_alone : (took some later : List Marked) (m : Marked) → IsShort took → took ≡ some ++ m ∷ later → some ≡ []
first_alone took [] later m short is = refl
first_alone [] (k ∷ some) later m short is = absurd (cc)
first_alone (n ∷ []) (k ∷ some) later m short is = by some (λ i. rest i)
  where
    rest : [] ≡ some ++ m ∷ later
    rest = cc

    by : (l : List Marked) → [] ≡ l ++ m ∷ later → k ∷ some ≡ []
    by [] e = absurd (cc)
    by (x ∷ l) e = absurd (cc)
first_alone (n ∷ p ∷ took) (k ∷ some) later m short is = absurd short

pub awaiting_of : (is_caller : Bool) (r : ℕ) (took put : List Marked) (given : Bool) (t : Stage) → IsShort took →
    (t ≡ early → HasNoCc r took × (given ≡ true)) → BeforeOpen is_caller r took put t → Awaiting is_caller r took put given t
awaiting_of is_caller r took put given t short none (stays a b (inl is)) = let (no_cc, has) = none is in awaits a b no_cc has is
awaiting_of is_caller r took put given t short none (stays a b (inr is)) = goes a b is
awaiting_of is_caller r took put given t short none (opens_by peer unit o some later apart is others answer put_later apart_too no_answer
    ans so w) =
    opens_so peer unit o some later apart
    (subst (HasNoCc r) (sym (first_alone took some later (0, unit) short is)) tt) is others answer put_later apart_too no_answer ans so w

-- ---- one after the other

module _ (is_caller : Bool) (r : ℕ) where
  more_first : (xs ys more puts : List Marked) (given : Bool) (u : Stage) → AreApart r xs → AreApart r ys → HasNoCc r xs →
      Awaiting is_caller r more puts given u → Awaiting is_caller r (xs ++ more) (ys ++ puts) given u
  more_first xs ys more puts given u a b n (awaits none none_put no_cc has is) = grind (arith, all_of_both)
  more_first xs ys more puts given u a b n (goes none none_put is) = grind (arith, all_of_both)
  more_first xs ys more puts given u a b n (opens_so peer unit o some later none no_cc is others answer put_later apart no_answer ans so
      w) =
      opens_so peer unit o (xs ++ some) later (grind (arith, all_of_both)) (grind (arith, all_of_both))
      (ap (λ (l : List Marked). xs ++ l) is ∙ sym (append_assoc xs some ((0, unit) ∷ later))) (ys ++ others) answer put_later
      (grind (arith, all_of_both)) no_answer ans
      (ap (λ (l : List Marked). ys ++ l) so ∙ sym (append_assoc ys others (answer ++ put_later))) w

  pub awaiting_then : (xs ys : List Marked) (given : Bool) (t : Stage) (more puts : List Marked) (then_given : Bool) (u : Stage) →
      Awaiting is_caller r xs ys given t → Life is_caller r t more puts u →
      (given ≡ true → t ≡ early → Awaiting is_caller r more puts then_given u) →
      Awaiting is_caller r (xs ++ more) (ys ++ puts) then_given u
  awaiting_then xs ys given t more puts then_given u (awaits a b none has is) life next = search (arith, more_first)
  awaiting_then xs ys given t more puts then_given u (goes a b is) life next = grind (arith, all_of_both)
  awaiting_then xs ys given t more puts then_given u (opens_so peer unit o some later none no_cc is others answer put_later apart no_answer
      ans so w) life next =
      opens_so peer unit o some (later ++ more) none no_cc
      (ap (λ (l : List Marked). l ++ more) is ∙ append_assoc some ((0, unit) ∷ later) more) others answer (put_later ++ puts) apart
      no_answer ans
      (grind (arith, append_assoc))
      (open_then is_caller r peer later put_later more puts t u w life)

-- ---- a CC for a connection that awaits one

cc_reference : {A : Type 0} (r : ℕ) (x : Connect) (s : Carrier) (o : Option Connection) → value_at r s.live ≡ Some asked → o ≡ Some asked →
    (to_connection r o (confirm r x) s).state.ended ≡ None → value_at r (to_connection r o (confirm r x) s).state.live ≡ Some asked → A
cc_reference r x s h was is lasts now = search (arith, never_lasts, put_here)

cc_before : {A : Type 0} (b : Bool) (r : ℕ) (x : Connect) (s : Carrier) → value_at r s.live ≡ Some asked →
    (before_class b (confirm r x) s).state.ended ≡ None → value_at r (before_class b (confirm r x) s).state.live ≡ Some asked → A
cc_before true r x s was lasts now = cc_reference r x s (value_at r s.live) was was lasts now
cc_before false r x s was lasts now = absurd (never_lasts (before_class false (confirm r x) s).state.ended refl lasts)

cc_two : {A : Type 0} (b : Bool) (r : ℕ) (x : Connect) (s : Carrier) → value_at r s.live ≡ Some asked →
    (in_two b (confirm r x) s).state.ended ≡ None → value_at r (in_two b (confirm r x) s).state.live ≡ Some asked → A
cc_two true r x s was lasts now = cc_reference r x s (value_at r s.live) was was lasts now
cc_two false r x s was lasts now = cc_reference r x s (value_at r s.live) was was lasts now

cc_class : {A : Type 0} (k : Option Class) (r : ℕ) (x : Connect) (s : Carrier) → (k ≡ Some Zero → ⊥) → value_at r s.live ≡ Some asked →
    (in_class k (confirm r x) s).state.ended ≡ None → value_at r (in_class k (confirm r x) s).state.live ≡ Some asked → A
cc_class None r x s not was lasts now = cc_before s.is_caller r x s was lasts now
cc_class (Some Two) r x s not was lasts now = cc_two s.is_caller r x s was lasts now
cc_class (Some Zero) r x s not was lasts now = absurd (not refl)

-- it awaits none after that
pub cc_ends_it : {A : Type 0} (r : ℕ) (x : Connect) (s : Carrier) → IsSound s → s.ended ≡ None → value_at r s.live ≡ Some asked →
    (react (confirm r x) s).ended ≡ None → value_at r (react (confirm r x) s).live ≡ Some asked → A
cc_ends_it r x s h lasted was lasts now =
    let same = react_quiet (confirm r x) s lasted in
    cc_class s.class r x s (λ zero. zero_asks_none s r h.by_class zero was) was (ap (λ (c : Carrier). c.ended) (sym same) ∙ lasts)
    (ap (λ (c : Carrier). value_at r c.live) (sym same) ∙ now)

-- ---- a connection that awaits its CC, by its stage

pub asked_so : (r : ℕ) (c : Carrier) → has_given r c ≡ true → stage_at r c ≡ early → (c.ended ≡ None) × (value_at r c.live ≡ Some asked)
asked_so r c has is = grind arith

-- a reference that was given stays so
pub given_more : (r m n : ℕ) → m ≤ n → (nat_lt 0 r && nat_le r m) ≡ true → (nat_lt 0 r && nat_le r n) ≡ true
given_more r m n less has = grind (arith, nat_tests)

-- sessions give none
carries_given : (g : ℕ) → Carries (λ (c : Carrier). c.given ≡ g)
carries_given g = grind (arith, sent_given, closed_given)

pub session_given : (q : ℕ) (input : Input) (e : End) → (to_session q input e).carrier.given ≡ e.carrier.given
session_given q input e = session_carried (λ (c : Carrier). c.given ≡ e.carrier.given) (carries_given e.carrier.given) q input e refl

pub event_given : (x : Happening) (e : End) → (hears x e).carrier.given ≡ e.carrier.given
event_given x e = grind (arith, session_given)

-- so a unit after which it still awaits its CC is none
pub unit_not_cc : (r : ℕ) (v : Value) (s : Carrier) → IsSound s → has_given r s ≡ true → stage_at r s ≡ early →
    stage_at r (react v s) ≡ early → IsNotCc r v × (has_given r (react v s) ≡ true)
unit_not_cc r v s h has was now =
    let then_has = given_more r s.given (react v s).given (units_rise (v ∷ []) s) has in
    let (lasted, here) = asked_so r s has was in
    let (lasts, still) = asked_so r (react v s) then_has now in (
      λ x is. cc_ends_it r x s h lasted here (ap (λ (u : Value). (react u s).ended) (sym is) ∙ lasts)
          (ap (λ (u : Value). value_at r (react u s).live) (sym is) ∙ still),
      then_has,
    )

-- ---- from one carrier to another

-- if the connection awaits its CC before
abbrev pub FirstOf : (is_caller : Bool) (r : ℕ) (old : Carrier) (took put : List Marked) (new : Carrier) → Type 0
FirstOf is_caller r old took put new = has_given r old ≡ true → stage_at r old ≡ early →
    Awaiting is_caller r took put (has_given r new) (stage_at r new)

abbrev pub StaysGiven : ℕ → Carrier → Carrier → Type 0
StaysGiven r old new = stage_at r new ≡ early → has_given r old ≡ true → has_given r new ≡ true

pub first_of : (is_caller : Bool) (r : ℕ) (old new : Carrier) (took put : List Marked) → IsShort took →
    Life is_caller r (stage_at r old) took put (stage_at r new) →
    (has_given r old ≡ true → stage_at r old ≡ early → stage_at r new ≡ early → HasNoCc r took × (has_given r new ≡ true)) →
    FirstOf is_caller r old took put new
first_of is_caller r old new took put short life none has was =
    awaiting_of is_caller r took put (has_given r new) (stage_at r new) short (none has was)
    (subst (λ (s : Stage). Life is_caller r s took put (stage_at r new)) was life)

pub first_rests : (is_caller : Bool) (r : ℕ) (old new : Carrier) (put : List Marked) → AreApart r put →
    Rests (stage_at r old) (stage_at r new) → StaysGiven r old new → FirstOf is_caller r old [] put new
first_rests is_caller r old new put none rest stays_given = grind (arith, first_of, life_rests, stage_at)

pub first_then : (is_caller : Bool) (r : ℕ) (old mid new : Carrier) (xs ys more puts : List Marked) → FirstOf is_caller r old xs ys mid →
    Life is_caller r (stage_at r mid) more puts (stage_at r new) → FirstOf is_caller r mid more puts new →
    FirstOf is_caller r old (xs ++ more) (ys ++ puts) new
first_then is_caller r old mid new xs ys more puts a life next has was =
    awaiting_then is_caller r xs ys (has_given r mid) (stage_at r mid) more puts (has_given r new) (stage_at r new) (a has was) life next

pub first_then_rests : (is_caller : Bool) (r : ℕ) (old mid new : Carrier) (xs ys : List Marked) → FirstOf is_caller r old xs ys mid →
    Rests (stage_at r mid) (stage_at r new) → StaysGiven r mid new → FirstOf is_caller r old xs ys new
first_then_rests is_caller r old mid new xs ys a rest stays_given =
    subst (λ (l : List Marked). FirstOf is_caller r old l ys new) (append-nil xs)
    (subst (λ (l : List Marked). FirstOf is_caller r old (xs ++ []) l new) (append-nil ys)
    (search (arith, first_then, life_rests, stage_at, first_rests)))
