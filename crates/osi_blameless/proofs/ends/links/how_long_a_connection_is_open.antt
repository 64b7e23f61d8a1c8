-- The units that arrive and those that are put, one step after the other, for one connection: it is not open yet, then its link takes
-- those that are for it and gives units for the peer, and then it takes and gives no more.
-- For the course of a connection.
use Rattle.osi_blameless.proofs.ends.Vocabulary.{[], ap, append_assoc, Bool, false, inl, inr, is_some, IsSome, List, None, Option, refl}
use Rattle.osi_blameless.proofs.ends.Vocabulary.{Some}
use Rattle.osi_blameless.proofs.ends.Vocabulary.{subst, sym, true, ℕ, ◌++◌, ◌<◌, ◌==◌, ◌∙◌, ◌∷◌, ◌≡◌, ◌⊎◌, append-nil, Standing}
use Rattle.osi_blameless.proofs.ends.Vocabulary.{AllByRecursion}
use Rattle.osi_blameless.proofs.ends.Vocabulary.{disconnect, Value, open_link, value_at, asked, closing, Connection, linked}
use Rattle.osi_blameless.proofs.ends.Vocabulary.{State as Carrier}
use Rattle.osi_blameless.proofs.ends.Vocabulary.{has_given, Answers, AreApart, GivesTo, is_for, Lives, Opens, TakesAll, is_shut, Marked}
use Rattle.osi_blameless.proofs.ends.Vocabulary.{arith}
use Rattle.osi_blameless.specs.ends.Arriving.Begins.{is_open, opens}
use Rattle.osi_blameless.proofs.ends.links.units_of_each_connection.{all_of_both, none_mark}

-- ---- how far a connection has come

-- open, with this reference of the peer
pub data Stage : Type 0 where
  early : Stage
  amid : ℕ → Stage
  past : Stage

abbrev stage_of_none : Bool → Stage
stage_of_none false = early
stage_of_none true = past

abbrev pub stage_there : Bool → Option Connection → Stage
stage_there given None = stage_of_none given
stage_there given (Some asked) = early
stage_there given (Some (linked peer link)) = amid peer
stage_there given (Some (closing peer)) = past

abbrev pub stage_by : (over given : Bool) → Option Connection → Stage
stage_by true given o = past
stage_by false given o = stage_there given o

abbrev pub stage_at : ℕ → Carrier → Stage
stage_at r c = stage_by (is_some c.ended) (has_given r c) (value_at r c.live)

pub stage_is : (r : ℕ) (c : Carrier) (o : Option Connection) (given : Bool) → c.ended ≡ None → has_given r c ≡ given →
    value_at r c.live ≡ o → stage_at r c ≡ stage_there given o
stage_is r c o given lasts has here = grind arith

pub stage_over : (r : ℕ) (c : Carrier) → IsSome c.ended → stage_at r c ≡ past
stage_over r c ended = ap (λ (b : Bool). stage_by b (has_given r c) (value_at r c.live)) ended

-- without a unit
abbrev pub Rests : Stage → Stage → Type 0
Rests s t = (t ≡ s) ⊎ (t ≡ past)

pub rests_over : (r : ℕ) (s : Stage) (c : Carrier) → IsSome c.ended → Rests s (stage_at r c)
rests_over r s c ended = inr (stage_over r c ended)

-- ---- steps

-- a DR for the connection with this reference
abbrev pub is_dr : ℕ → Value → Bool
is_dr r (disconnect destination source reason user) = destination == r
is_dr r _ = false

-- none of these units is one
abbrev pub HasNoDr : ℕ → List Marked → Type 0
HasNoDr r units = AllByRecursion (λ m. is_dr r m.1 ≡ false) units

-- While it is open with this peer, and then after: a DR ends it.
pub record WhileOpen (r peer : ℕ) (took put : List Marked) (t : Stage) : Type 0 where
  pub during : List Marked
  pub after : List Marked
  pub put_during : List Marked
  pub put_after : List Marked
  pub took_is : took ≡ during ++ after
  pub put_is : put ≡ put_during ++ put_after
  pub takes : TakesAll r during
  pub no_dr : HasNoDr r during
  pub gives : GivesTo r peer put_during
  pub none_after : AreApart r after
  pub none_put : AreApart r put_after
  pub ends : ((t ≡ amid peer) × (after ≡ []) × (put_after ≡ [])) ⊎ (t ≡ past)

-- before it is open, and then perhaps while it is
pub data BeforeOpen (is_caller : Bool) (r : ℕ) (took put : List Marked) (t : Stage) : Type 0 where
  stays : AreApart r took → AreApart r put → (t ≡ early) ⊎ (t ≡ past) → BeforeOpen is_caller r took put t
  opens_by : (peer : ℕ) (unit : Value) → Opens is_caller r peer unit → (some later : List Marked) → AreApart r some →
      took ≡ some ++ ((0, unit) ∷ later) → (others answer put_later : List Marked) → AreApart r others → AreApart r answer →
      Answers r peer unit answer → put ≡ others ++ (answer ++ put_later) → WhileOpen r peer later put_later t →
      BeforeOpen is_caller r took put t

pub record WhenPast (r : ℕ) (took put : List Marked) (t : Stage) : Type 0 where
  pub none_took : AreApart r took
  pub none_put : AreApart r put
  pub is : t ≡ past

abbrev pub Life : Bool → ℕ → Stage → List Marked → List Marked → Stage → Type 0
Life is_caller r early took put t = BeforeOpen is_caller r took put t
Life is_caller r (amid peer) took put t = WhileOpen r peer took put t
Life is_caller r past took put t = WhenPast r took put t

module _ (is_caller : Bool) (r : ℕ) where
  abbrev L : Stage → List Marked → List Marked → Stage → Type 0
  L s took put t = Life is_caller r s took put t

  both_apart : (xs ys : List Marked) → AreApart r xs → AreApart r ys → AreApart r (xs ++ ys)
  both_apart xs ys a b = all_of_both (λ (m : Marked). (m.0 == r) ≡ false) xs ys a b

  apart_gives : (peer : ℕ) (units : List Marked) → AreApart r units → GivesTo r peer units
  apart_gives peer [] all = tt
  apart_gives peer (m ∷ units) all = grind (arith, apart_gives peer units all.1)

  -- ---- one step

  -- it stays as it is
  pub life_as : (s : Stage) (took put : List Marked) → AreApart r took → AreApart r put →
      ((peer : ℕ) → s ≡ amid peer → TakesAll r took × HasNoDr r took) → L s took put s
  life_as early took put a b all = stays a b (inl refl)
  life_as past took put a b all = record { none_took = a; none_put = b; is = refl }
  life_as (amid peer) took put a b all = grind (arith, append-nil took, append-nil put, apart_gives peer put b)

  -- it is past then
  pub life_to_past : (s : Stage) (took put : List Marked) → AreApart r took → AreApart r put → L s took put past
  life_to_past early took put a b = stays a b (inr refl)
  life_to_past past took put a b = record { none_took = a; none_put = b; is = refl }
  life_to_past (amid peer) took put a b = record {
    during = [];
    after = took;
    put_during = [];
    put_after = put;
    took_is = refl;
    put_is = refl;
    takes = tt;
    no_dr = tt;
    gives = tt;
    none_after = a;
    none_put = b;
    ends = inr refl;
  }

  -- no unit arrives
  pub life_rests : (s t : Stage) (put : List Marked) → AreApart r put → Rests s t → L s [] put t
  life_rests s t put none h = grind (arith, life_as, life_to_past)

  -- its link takes and gives these
  pub life_open : (peer : ℕ) (took put : List Marked) → TakesAll r took → HasNoDr r took → GivesTo r peer put →
      L (amid peer) took put (amid peer)
  life_open peer took put takes no_dr gives = grind (arith, append-nil took, append-nil put)

  -- it opens
  pub life_opens : (peer : ℕ) (unit : Value) (others answer : List Marked) → Opens is_caller r peer unit → AreApart r others →
      AreApart r answer → Answers r peer unit answer → L early ((0, unit) ∷ []) (others ++ answer) (amid peer)
  life_opens peer unit others answer o apart none a =
      opens_by peer unit o [] [] tt refl others answer [] apart none a
      (ap (λ (l : List Marked). others ++ l) (sym (append-nil answer))) (life_open peer [] [] tt tt tt)

  -- ---- one after the other

  module _ (xs ys more puts : List Marked) (u : Stage) where
    past_then : (t : Stage) → WhenPast r xs ys t → L t more puts u → WhenPast r (xs ++ more) (ys ++ puts) u
    past_then t a h = grind (arith, both_apart)

    joined : (units others during next after : List Marked) → units ≡ during → others ≡ next ++ after →
        units ++ others ≡ (during ++ next) ++ after
    joined units others during next after is then_is = grind (arith, append_assoc)

    open_by : (peer : ℕ) (t : Stage) (a : WhileOpen r peer xs ys t) → L t more puts u →
        ((t ≡ amid peer) × (a.after ≡ []) × (a.put_after ≡ [])) ⊎ (t ≡ past) → WhileOpen r peer (xs ++ more) (ys ++ puts) u
    open_by peer t a h (inl (is, none, none_put)) =
        let b : WhileOpen r peer more puts u = subst (λ (x : Stage). L x more puts u) is h in
        record {
          during = a.during ++ b.during;
          after = b.after;
          put_during = a.put_during ++ b.put_during;
          put_after = b.put_after;
          took_is = joined xs more a.during b.during b.after (grind (arith, append-nil)) b.took_is;
          put_is = joined ys puts a.put_during b.put_during b.put_after (grind (arith, append-nil)) b.put_is;
          takes = all_of_both (λ (m : Marked). (m.0 == r) ≡ is_for r m.1) a.during b.during a.takes b.takes;
          no_dr = all_of_both (λ (m : Marked). is_dr r m.1 ≡ false) a.during b.during a.no_dr b.no_dr;
          gives = all_of_both (λ (m : Marked). (m.0 == r) ≡ true → is_for peer m.1 ≡ true) a.put_during b.put_during a.gives b.gives;
          none_after = b.none_after;
          none_put = b.none_put;
          ends = b.ends;
        }
    open_by peer t a h (inr is) =
        let b : WhenPast r more puts u = subst (λ (x : Stage). L x more puts u) is h in
        record {
          during = a.during;
          after = a.after ++ more;
          put_during = a.put_during;
          put_after = a.put_after ++ puts;
          took_is = ap (λ (l : List Marked). l ++ more) a.took_is ∙ append_assoc a.during a.after more;
          put_is = ap (λ (l : List Marked). l ++ puts) a.put_is ∙ append_assoc a.put_during a.put_after puts;
          takes = a.takes;
          no_dr = a.no_dr;
          gives = a.gives;
          none_after = both_apart a.after more a.none_after b.none_took;
          none_put = both_apart a.put_after puts a.none_put b.none_put;
          ends = inr b.is;
        }

  pub open_then : (peer : ℕ) (xs ys more puts : List Marked) (t u : Stage) → WhileOpen r peer xs ys t → L t more puts u →
      WhileOpen r peer (xs ++ more) (ys ++ puts) u
  open_then peer xs ys more puts t u a h = open_by xs ys more puts u peer t a h a.ends

  -- more before it is open
  early_more : (xs ys more puts : List Marked) (u : Stage) → AreApart r xs → AreApart r ys → BeforeOpen is_caller r more puts u →
      BeforeOpen is_caller r (xs ++ more) (ys ++ puts) u
  early_more xs ys more puts u a b (stays none none_put t) = stays (both_apart xs more a none) (both_apart ys puts b none_put) t
  early_more xs ys more puts u a b (opens_by peer unit o some later none is others answer put_later apart none_answer ans put_is w) =
      opens_by peer unit o (xs ++ some) later (both_apart xs some a none)
      (ap (λ (l : List Marked). xs ++ l) is ∙ sym (append_assoc xs some ((0, unit) ∷ later))) (ys ++ others) answer put_later
      (both_apart ys others b apart) none_answer ans
      (ap (λ (l : List Marked). ys ++ l) put_is ∙ sym (append_assoc ys others (answer ++ put_later))) w

  early_then : (xs ys more puts : List Marked) (t u : Stage) → BeforeOpen is_caller r xs ys t → L t more puts u →
      BeforeOpen is_caller r (xs ++ more) (ys ++ puts) u
  early_then xs ys more puts t u (stays a b (inl is)) h =
      early_more xs ys more puts u a b (subst (λ (x : Stage). L x more puts u) is h)
  early_then xs ys more puts t u (stays a b (inr is)) h = grind (arith, both_apart)
  early_then xs ys more puts t u (opens_by peer unit o some later none is others answer put_later apart none_answer ans put_is w) h =
      opens_by peer unit o some (later ++ more) none
      (ap (λ (l : List Marked). l ++ more) is ∙ append_assoc some ((0, unit) ∷ later) more) others answer (put_later ++ puts) apart
      none_answer ans
      (grind (arith, append_assoc))
      (open_then peer later put_later more puts t u w h)

  pub life_then : (s : Stage) (xs ys : List Marked) (t : Stage) (more puts : List Marked) (u : Stage) → L s xs ys t → L t more puts u →
      L s (xs ++ more) (ys ++ puts) u
  life_then early xs ys t more puts u a h = early_then xs ys more puts t u a h
  life_then (amid peer) xs ys t more puts u a h = open_then peer xs ys more puts t u a h
  life_then past xs ys t more puts u a h = past_then xs ys more puts u t a h

  pub life_then_rests : (s : Stage) (xs ys : List Marked) (t u : Stage) → L s xs ys t → Rests t u → L s xs ys u
  life_then_rests s xs ys t u a k =
      grind (arith, append-nil xs, append-nil ys, life_then s xs ys t [] [] u a (life_rests t u [] tt k), life_rests t u [] tt k)

-- ---- a connection is open just then

abbrev IsOpenAt : Stage → Option (ℕ × Standing) → Type 0
IsOpenAt (amid peer) o = (link : Standing) × (o ≡ Some (peer, link))
IsOpenAt _ o = o ≡ None

open_at : (r : ℕ) (c : Carrier) → IsOpenAt (stage_at r c) (open_link r c)
open_at r c = grind arith

module _ (is_caller : Bool) (r : ℕ) (some : 0 < r) (old new : Carrier) (took put : List Marked) (t : Stage)
    (now : IsOpenAt t (open_link r new)) where
  abbrev Answer : Type 0
  Answer = Lives is_caller r old took put new

  shut_new : t ≡ early ⊎ t ≡ past → open_link r new ≡ None
  shut_new h = grind arith

  never_open : {A : Type 0} (at : ℕ) (link : Standing) → open_link r new ≡ None → open_link r new ≡ Some (at, link) → A
  never_open at link none is = absurd (let both : ◌≡◌ {A = Option (ℕ × Standing)} None (Some (at, link)) = sym none ∙ is in cc)

  -- it does not open
  never : AreApart r took → AreApart r put → open_link r old ≡ None → open_link r new ≡ None → Answer
  never a b shut then_shut = record {
    peer = 0;
    arrived = record { before = took; during = []; after = []; is = sym (append-nil took); none_before = a; none_after = tt };
    left = record { before = put; during = []; after = []; is = sym (append-nil put); none_before = b; none_after = tt };
    takes = tt;
    gives = tt;
    begins = is_shut shut then_shut refl refl;
    lasts = λ at link is. never_open at link then_shut is;
  }

  lasts_by : (peer : ℕ) (later put_later : List Marked) (w : WhileOpen r peer later put_later t) (at : ℕ) (link : Standing) →
      open_link r new ≡ Some (at, link) →
      ((t ≡ amid peer) × (w.after ≡ []) × (w.put_after ≡ [])) ⊎ (t ≡ past) → (at ≡ peer) × (w.after ≡ []) × (w.put_after ≡ [])
  lasts_by peer later put_later w at link is h = grind (arith, never_open, shut_new)

  opened_by : open_link r old ≡ None → BeforeOpen is_caller r took put t → Answer
  opened_by shut (stays a b k) = never a b shut (shut_new k)
  opened_by shut (opens_by peer unit o first later none is others answer put_later apart none_answer ans put_is w) = record {
    peer = peer;
    arrived = record {
      before = first ++ (0, unit) ∷ [];
      during = w.during;
      after = w.after;
      is = is ∙ ap (λ (l : List Marked). first ++ ((0, unit) ∷ l)) w.took_is
          ∙ sym (append_assoc first ((0, unit) ∷ []) (w.during ++ w.after));
      none_before = both_apart is_caller r first ((0, unit) ∷ []) none (none_mark r some, tt);
      none_after = w.none_after;
    };
    left = record {
      before = others ++ answer;
      during = w.put_during;
      after = w.put_after;
      is = put_is ∙ ap (λ (l : List Marked). others ++ (answer ++ l)) w.put_is
          ∙ sym (append_assoc others answer (w.put_during ++ w.put_after));
      none_before = both_apart is_caller r others answer apart none_answer;
      none_after = w.none_put;
    };
    takes = w.takes;
    gives = w.gives;
    begins = opens shut unit o first refl others answer ans refl;
    lasts = λ at link here. lasts_by peer later put_later w at link here w.ends;
  }

  lives_by : (s : Stage) → IsOpenAt s (open_link r old) → Life is_caller r s took put t → Answer
  lives_by early shut h = opened_by shut h
  lives_by past shut h = never h.none_took h.none_put shut (shut_new (inr h.is))
  lives_by (amid peer) was h = record {
    peer = peer;
    arrived = record {
      before = [];
      during = h.during;
      after = h.after;
      is = h.took_is;
      none_before = tt;
      none_after = h.none_after;
    };
    left = record {
      before = [];
      during = h.put_during;
      after = h.put_after;
      is = h.put_is;
      none_before = tt;
      none_after = h.none_put;
    };
    takes = h.takes;
    gives = h.gives;
    begins = is_open was.0 was.1 refl refl;
    lasts = λ at link here. lasts_by peer took put h at link here h.ends;
  }

pub lives : (is_caller : Bool) (r : ℕ) → 0 < r → (old new : Carrier) (took put : List Marked) →
    Life is_caller r (stage_at r old) took put (stage_at r new) → Lives is_caller r old took put new
lives is_caller r some old new took put h = grind (arith, lives_by, open_at r new, open_at r old)
