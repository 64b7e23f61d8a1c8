-- What an end puts in a turn at a connection is put at one that was open before the turn or has opened in it: so in class 0 it is put at
-- its one connection, and waits there.
-- For the session of the connection of an end in class 0.
use Rattle.osi_blameless.proofs.Vocabulary.{TakesTurn, ◌≡◌, ◌∙◌, refl, sym, ap, ℕ, zero, suc, ◌<◌, Bool, true, false, List, [], ◌∷◌, ◌++◌}
use Rattle.osi_blameless.proofs.Vocabulary.{Option, arith, is_some, append_assoc, inl, inr, ◌⊎◌, ◌==◌, nat_lt, AllByRecursion, eq-eqb}
use Rattle.osi_blameless.proofs.Vocabulary.{lt-ltb, Connect, Value, confirm, request, AreApart, Answers, Opens, Deeds, Marked}
use Rattle.osi_blameless.proofs.Vocabulary.{all_units, is_of_link, Turn, Life, amid, early, opens_by, past, stage_at, stays, none_mark}
use Rattle.osi_blameless.proofs.Vocabulary.{Joint, differ, Time}
use Rattle.osi_blameless.proofs.small_facts_that_many_lemmas_use.{amid_not}
use Rattle.osi_blameless.proofs.putting.what_a_turn_puts_goes_to_its_peer.{none_for, one_of}
use Rattle.osi_blameless.proofs.putting.what_a_turn_puts_waits.{Agree}
use Rattle.osi_blameless.proofs.standing.what_stands_of_a_connection.{is_for}
use Rattle.osi_blameless.proofs.in_class_0.what_the_stage_of_a_whole_end_says.{IsDt0}
use Rattle.osi_blameless.proofs.steps.what_the_turns_among_steps_do.{TurnDoes}

-- ---- small facts

past_amid : {A : Type 0} (s : Time) (peer : ℕ) → s ≡ past → s ≡ amid peer → A
past_amid s peer e h = absurd (cc (sym e ∙ h))

-- what holds of each, by its place
each_of : {X : Type 0} (P : X → Type 0) (before xs : List X) →
    ((front rest : List X) (x : X) → before ++ xs ≡ front ++ x ∷ rest → P x) → AllByRecursion P xs
each_of P before [] f = tt
each_of P before (x ∷ xs) f = (
  f before xs x refl,
  each_of P (before ++ x ∷ []) xs (λ front rest y e. f front rest y (sym (append_assoc before (x ∷ []) xs) ∙ e)),
)

-- ---- a connection that is open in a turn

-- it was open, or takes a CC, or takes a CR and puts its CC
pub data WasOpen (calls : Bool) (q : ℕ) (s : Time) (took put : List Marked) : Type 0 where
  open_before : (peer : ℕ) → s ≡ amid peer → WasOpen calls q s took put
  takes_cc : s ≡ early → (x : Connect) (front later : List Marked) → took ≡ front ++ (0, confirm q x) ∷ later → WasOpen calls q s took put
  puts_cc : calls ≡ false → (n : ℕ) (x : Connect) (front later : List Marked) → x.source ≡ q → put ≡ front ++ (0, confirm n x) ∷ later →
      WasOpen calls q s took put

opened_so : (calls : Bool) (q peer : ℕ) (unit : Value) (took put some later others answer put_later : List Marked) →
    Opens calls q peer unit → took ≡ some ++ (0, unit) ∷ later → Answers q peer unit answer → put ≡ others ++ (answer ++ put_later) →
    WasOpen calls q early took put
opened_so calls q peer (confirm n x) took put some later others answer put_later o is a put_is =
    takes_cc refl x some later (is ∙ ap (λ (m : ℕ). some ++ (0, confirm m x) ∷ later) o.0)
opened_so calls q peer (request x) took put some later others answer put_later o is (cc_put, source, alone) put_is =
    puts_cc o.0 peer cc_put others put_later source (put_is ∙ ap (λ (l : List Marked). others ++ (l ++ put_later)) alone)
opened_so calls q peer _ took put some later others answer put_later o is a put_is = absurd o

put_so : (calls : Bool) (q : ℕ) (s t : Time) (took put : List Marked) → Life calls q s took put t →
    AreApart q put ⊎ WasOpen calls q s took put
put_so calls q early t took put (stays a b k) = inl b
put_so calls q early t took put (opens_by peer unit o some later none_some is others answer put_later apart none_answer ans put_is w) =
    inr (opened_so calls q peer unit took put some later others answer put_later o is ans put_is)
put_so calls q (amid peer) t took put w = inr (open_before peer refl)
put_so calls q past t took put w = inl w.none_put

open_so : (calls : Bool) (q peer : ℕ) (s t : Time) (took put : List Marked) → Life calls q s took put t → t ≡ amid peer →
    WasOpen calls q s took put
open_so calls q peer early t took put (stays a b (inl is)) e = amid_not t peer is e
open_so calls q peer early t took put (stays a b (inr is)) e = past_amid t peer is e
open_so calls q peer early t took put (opens_by m unit o some later none_some is others answer put_later apart none_answer ans put_is w) e =
    opened_so calls q m unit took put some later others answer put_later o is ans put_is
open_so calls q peer (amid m) t took put w e = open_before m refl
open_so calls q peer past t took put w e = past_amid t peer w.is e

-- what was gone stays so
pub still_past : (calls : Bool) (q : ℕ) (s t : Time) (took put : List Marked) → s ≡ past → Life calls q s took put t → t ≡ past
still_past calls q s t took put e w = grind (arith, past_amid)

pub past_apart : (calls : Bool) (q : ℕ) (s t : Time) (took put : List Marked) → s ≡ past → Life calls q s took put t → AreApart q put
past_apart calls q s t took put e w = grind (arith, past_amid)

-- ---- the marks of what is put

module _ (calls : Bool) (turn : Turn) (old new : Joint) (t : TakesTurn turn old new) (deeds : ℕ → Deeds)
    (does : TurnDoes calls deeds turn old new t) where
  abbrev pub WasOpenThen : ℕ → Type 0
  WasOpenThen q = WasOpen calls q (stage_at q old.end.end.carrier) does.on.took does.on.put

  pub then_open : (q peer : ℕ) → 0 < q → stage_at q new.end.end.carrier ≡ amid peer → WasOpenThen q
  then_open q peer some is =
      open_so calls q peer (stage_at q old.end.end.carrier) (stage_at q new.end.end.carrier) does.on.took does.on.put (does.life q some) is

  marked_apart : {A : Type 0} (front rest : List Marked) (m : Marked) → does.on.put ≡ front ++ m ∷ rest → AreApart m.0 does.on.put → A
  marked_apart front rest m is apart = grind (arith, differ, eq-eqb, one_of)

  put_open : (front rest : List Marked) (m : Marked) → does.on.put ≡ front ++ m ∷ rest → 0 < m.0 → WasOpenThen m.0
  put_open front rest m is some =
      by (put_so calls m.0 (stage_at m.0 old.end.end.carrier) (stage_at m.0 new.end.end.carrier) does.on.took does.on.put
      (does.life m.0 some))
    where
      by : AreApart m.0 does.on.put ⊎ WasOpenThen m.0 → WasOpenThen m.0
      by (inl apart) = marked_apart front rest m is apart
      by (inr was) = was

  -- if one alone is open in the turn
  pub all_marked : (r : ℕ) → ((q : ℕ) → 0 < q → WasOpenThen q → q ≡ r) → AllByRecursion (λ (m : Marked). (m.0 ≡ 0) ⊎ (m.0 ≡ r)) does.on.put
  all_marked r is_r = each_of (λ (m : Marked). (m.0 ≡ 0) ⊎ (m.0 ≡ r)) [] does.on.put (λ front rest m is. by front rest m is m.0 refl)
    where
      by : (front rest : List Marked) (m : Marked) → does.on.put ≡ front ++ m ∷ rest → (k : ℕ) → m.0 ≡ k → (m.0 ≡ 0) ⊎ (m.0 ≡ r)
      by front rest m is zero at = inl at
      by front rest m is (suc k) at = let some : 0 < m.0 = omega (arith, at) in inr (is_r m.0 some (put_open front rest m is some))

-- ---- so the marks agree

-- a unit of no link is for no connection
pub unmarked : (m : Marked) (r : ℕ) (o : Option ℕ) → 0 < r → m.0 ≡ 0 → is_of_link m.1 ≡ nat_lt 0 m.0 → (m.0 == r) ≡ is_for o m.1
unmarked m r o some is link = grind (arith, none_mark, none_for)

-- a unit of a link is a DT of class 0
abbrev pub IsPlainDt : Value → Type 0
IsPlainDt v = is_of_link v ≡ true → IsDt0 v

dt_so : (v : Value) → is_of_link v ≡ true → IsDt0 v → (o : Option ℕ) → is_for o v ≡ is_some o
dt_so v link w o = grind (arith, is_for)

-- those of the one connection are DTs
pub agree_one : (r : ℕ) (o : Option ℕ) → 0 < r → is_some o ≡ true → (put : List Marked) →
    AllByRecursion (λ (m : Marked). (m.0 ≡ 0) ⊎ (m.0 ≡ r)) put → AllByRecursion (λ (m : Marked). is_of_link m.1 ≡ nat_lt 0 m.0) put →
    AllByRecursion IsPlainDt (all_units put) → Agree r o put
agree_one r o some named [] marks links plain = tt
agree_one r o some named (m ∷ put) marks links plain =
    grind (arith, is_for, unmarked, lt-ltb, eq-eqb, dt_so, agree_one r o some named put marks.1 links.1 plain.1)

none_is_for : (o : Option ℕ) (v : Value) → is_some o ≡ false → is_for o v ≡ false
none_is_for o v h = grind arith

-- and nothing is put at another one, nor is it for one that has no reference of the other side
pub agree_apart : (r : ℕ) (o : Option ℕ) → is_some o ≡ false → (put : List Marked) → AreApart r put → Agree r o put
agree_apart r o none [] apart = tt
agree_apart r o none (m ∷ put) apart = grind (arith, none_is_for, agree_apart r o none put apart.1)
