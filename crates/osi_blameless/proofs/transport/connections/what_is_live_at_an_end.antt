-- As long as each DR has closed something: what the other side closes is live at an end until the end takes that unit.
-- For the law on DRs, and for the law on a whole called end.
use Rattle.osi_blameless.proofs.transport.Vocabulary.{[], AllByRecursion, arith, begins, Bool, confirm, Connect, Connection, Direction}
use Rattle.osi_blameless.proofs.transport.Vocabulary.{disconnect}
use Rattle.osi_blameless.proofs.transport.Vocabulary.{disconnected, error, Half, is_open, is_silent, is_some, Left, List, map, None, Option}
use Rattle.osi_blameless.proofs.transport.Vocabulary.{own, request}
use Rattle.osi_blameless.proofs.transport.Vocabulary.{Right, Some, State, subst, sym, theirs, true, Value, value_at, ℕ, ◌&&◌, ◌++◌, ◌<◌}
use Rattle.osi_blameless.proofs.transport.Vocabulary.{◌||◌, ◌∙◌, ◌∷◌}
use Rattle.osi_blameless.proofs.transport.Vocabulary.{◌≡◌, ◌≤◌}
use Rattle.osi_rules.specs.Traffic.{of_side}
use Rattle.osi_blameless.proofs.transport.small_facts_that_many_lemmas_use.{all_add, number_is}
use Rattle.osi_blameless.proofs.transport.names.what_holds_of_one_item.{HoldsOfEach, each_map}

-- ---- what a unit of the other side closes

-- the reference of the connection that it closes; an ER refuses a CR
abbrev pub shuts_of : Direction → Value → Option ℕ
shuts_of d (disconnect destination source reason user) = Some destination
shuts_of d (disconnected destination source) = Some destination
shuts_of d (error destination cause) = of_side d (Some destination) None
shuts_of d _ = None

abbrev pub dr_for : Value → Option ℕ
dr_for (disconnect destination source reason user) = Some destination
dr_for _ = None

abbrev pub IsLive : State → ℕ → Type 0
IsLive s m = is_some (value_at m s.live) ≡ true

-- none of these closes it
abbrev pub NoneFor : Direction → ℕ → List Value → Type 0
NoneFor d m units = AllByRecursion (λ (v : Value). shuts_of d v ≡ Some m → ⊥) units

-- the end has it, and nothing has come that closes it
abbrev pub IsHeld : Direction → State → List Value → ℕ → Type 0
IsHeld d end coming m = IsLive end m × NoneFor d m coming

-- a DR is for a reference of which this holds, and no unit before it closes that
abbrev pub Firsts : Direction → (ℕ → Type 0) → List Value → Type 0
Firsts d L [] = Unit {0}
Firsts d L (v ∷ vs) = ((n : ℕ) → dr_for v ≡ Some n → L n) × Firsts d (λ m. L m × (shuts_of d v ≡ Some m → ⊥)) vs

-- the unit by which a side gives a reference, a CR or a CC, gives one of which this holds
abbrev pub Gives : Direction → (ℕ → Type 0) → Value → Type 0
Gives Left L v = (x : Connect) → v ≡ request x → L x.source
Gives Right L v = (m : ℕ) (x : Connect) → v ≡ confirm m x → L x.source

-- it gives none
abbrev pub GivesNone : Direction → Value → Type 0
GivesNone d v = Gives d (λ m. ⊥) v

abbrev pub IsKnown : Direction → ℕ → Value → Type 0
IsKnown d given v = (m : ℕ) → shuts_of d v ≡ Some m → m ≤ given

-- it is open for this side, and the other has not closed it
abbrev pub is_there : Half → Half → Bool
is_there mine theirs = is_open mine.phase && (is_silent theirs.phase || is_open theirs.phase)

-- then, as long as the connection is judged, this holds of its reference
abbrev pub IsLively : Direction → (ℕ → Type 0) → Connection → Type 0
IsLively d L c = c.is_judged ≡ true → is_there (own d c) (theirs d c) ≡ true → L (own d c).reference

abbrev pub Less : (ℕ → Type 0) → ℕ → ℕ → Type 0
Less L n m = L m × (m ≡ n → ⊥)

pub record Timely (d : Direction) (end : State) (coming : List Value) (cs : List Connection) (put : List Value) : Type 0 where
  pub judges : HoldsOfEach (IsLively d (IsHeld d end coming)) cs
  pub gives : AllByRecursion (Gives d (IsHeld d end coming)) put
  pub firsts : Firsts d (IsLive end) coming
  pub known : AllByRecursion (IsKnown d end.given) coming

-- ---- lists

module _ (d : Direction) where
  firsts_more : (L K : ℕ → Type 0) (vs : List Value) → ((m : ℕ) → L m → K m) → Firsts d L vs → Firsts d K vs
  firsts_more L K [] h f = tt
  firsts_more L K (v ∷ vs) h (first, more) = (
    λ n e. h n (first n e),
    firsts_more (λ m. L m × (shuts_of d v ≡ Some m → ⊥)) (λ m. K m × (shuts_of d v ≡ Some m → ⊥)) vs (λ m k. (h m k.0, k.1)) more,
  )

  firsts_add : (L : ℕ → Type 0) (vs : List Value) (v : Value) → Firsts d L vs → ((n : ℕ) → dr_for v ≡ Some n → L n × NoneFor d n vs) →
      Firsts d L (vs ++ v ∷ [])
  firsts_add L [] v f h = (λ n e. (h n e).0, tt)
  firsts_add L (u ∷ vs) v (first, more) h = (
    first,
    firsts_add (λ m. L m × (shuts_of d u ≡ Some m → ⊥)) vs v more (λ n e. (((h n e).0, (h n e).1.0), (h n e).1.1)),
  )

  none_add : (m : ℕ) (vs : List Value) (v : Value) → NoneFor d m vs → (shuts_of d v ≡ Some m → ⊥) → NoneFor d m (vs ++ v ∷ [])
  none_add m [] v h k = (k, tt)
  none_add m (u ∷ vs) v (one, more) k = (one, none_add m vs v more k)

  known_more : (n k : ℕ) (vs : List Value) → n ≤ k → AllByRecursion (IsKnown d n) vs → AllByRecursion (IsKnown d k) vs
  known_more n k [] h a = tt
  known_more n k (v ∷ vs) h (one, more) = (λ m e. let x = one m e in omega arith, known_more n k vs h more)

  none_new : (n k : ℕ) (vs : List Value) → n < k → AllByRecursion (IsKnown d n) vs → NoneFor d k vs
  none_new n k [] h a = tt
  none_new n k (v ∷ vs) h (one, more) = (λ e. let x = one k e in absurd (omega arith), none_new n k vs h more)

pub gives_so : (d : Direction) (L K : ℕ → Type 0) (v : Value) → ((m : ℕ) → L m → K m) → Gives d L v → Gives d K v
gives_so Left L K v h g = λ x e. h x.source (g x e)
gives_so Right L K v h g = λ m x e. h x.source (g m x e)

gives_two : (d : Direction) (L M K : ℕ → Type 0) (v : Value) → ((m : ℕ) → L m → M m → K m) → Gives d L v → Gives d M v → Gives d K v
gives_two Left L M K v h f g = λ x e. h x.source (f x e) (g x e)
gives_two Right L M K v h f g = λ m x e. h x.source (f m x e) (g m x e)

module _ (d : Direction) where
  pub gives_more : (L K : ℕ → Type 0) (vs : List Value) → ((m : ℕ) → L m → K m) → AllByRecursion (Gives d L) vs →
      AllByRecursion (Gives d K) vs
  gives_more L K [] h a = tt
  gives_more L K (v ∷ vs) h (one, more) = (gives_so d L K v h one, gives_more L K vs h more)

  gives_join : (L : ℕ → Type 0) (xs ys : List Value) → AllByRecursion (Gives d L) xs → AllByRecursion (GivesNone d) ys →
      AllByRecursion (Gives d L) (xs ++ ys)
  gives_join L [] [] a b = tt
  gives_join L [] (y ∷ ys) a (one, more) = (gives_so d (λ m. ⊥) L y (λ m h. absurd h) one, gives_join L [] ys a more)
  gives_join L (x ∷ xs) ys (one, more) b = (one, gives_join L xs ys more b)

  gives_both : (L M K : ℕ → Type 0) (vs : List Value) → ((m : ℕ) → L m → M m → K m) → AllByRecursion (Gives d L) vs →
      AllByRecursion (Gives d M) vs → AllByRecursion (Gives d K) vs
  gives_both L M K [] h a b = tt
  gives_both L M K (v ∷ vs) h (one, more) (first, others) = (gives_two d L M K v h one first, gives_both L M K vs h more others)

lively_more : (d : Direction) (L K : ℕ → Type 0) (cs : List Connection) → ((m : ℕ) → L m → K m) → HoldsOfEach (IsLively d L) cs →
    HoldsOfEach (IsLively d K) cs
lively_more d L K cs h a i c at judged there = h (own d c).reference (a i c at judged there)

-- ---- what happens

-- the end takes the first unit
pub timely_takes : (d : Direction) (s t : State) (u : Value) (later : List Value) (cs : List Connection) (put : List Value) →
    s.given ≤ t.given → ((m : ℕ) → IsLive s m → (shuts_of d u ≡ Some m → ⊥) → IsLive t m) → Timely d s (u ∷ later) cs put →
    Timely d t later cs put
timely_takes d s t u later cs put given lives h =
    let keeps : (m : ℕ) → IsHeld d s (u ∷ later) m → IsHeld d t later m = λ m k. (lives m k.0 k.1.0, k.1.1) in
    record {
      judges = lively_more d (IsHeld d s (u ∷ later)) (IsHeld d t later) cs keeps h.judges;
      gives = gives_more d (IsHeld d s (u ∷ later)) (IsHeld d t later) put keeps h.gives;
      firsts = firsts_more d (λ m. IsLive s m × (shuts_of d u ≡ Some m → ⊥)) (IsLive t) later (λ m k. lives m k.0 k.1) h.firsts.1;
      known = known_more d s.given t.given later given h.known.1;
    }

-- its user makes a call
pub timely_calls : (d : Direction) (s t : State) (coming : List Value) (cs : List Connection) (put : List Value) → s.given ≤ t.given →
    ((m : ℕ) → IsLive s m → IsLive t m) → Timely d s coming cs put → Timely d t coming cs put
timely_calls d s t coming cs put given lives h =
    let keeps : (m : ℕ) → IsHeld d s coming m → IsHeld d t coming m = λ m k. (lives m k.0, k.1) in
    record {
      judges = lively_more d (IsHeld d s coming) (IsHeld d t coming) cs keeps h.judges;
      gives = gives_more d (IsHeld d s coming) (IsHeld d t coming) put keeps h.gives;
      firsts = firsts_more d (IsLive s) (IsLive t) coming lives h.firsts;
      known = known_more d s.given t.given coming given h.known;
    }

-- units are put that give no reference
pub timely_puts : (d : Direction) (end : State) (coming : List Value) (cs : List Connection) (put units : List Value) →
    AllByRecursion (GivesNone d) units → Timely d end coming cs put → Timely d end coming cs (put ++ units)
timely_puts d end coming cs put units none h = record {
  judges = h.judges;
  gives = gives_join d (IsHeld d end coming) put units h.gives none;
  firsts = h.firsts;
  known = h.known;
}

-- a unit is put that gives a new one
pub timely_gives : (d : Direction) (s end : State) (coming : List Value) (cs : List Connection) (put : List Value) (v : Value) →
    Gives d (λ m. IsLive end m × (s.given < m)) v → AllByRecursion (IsKnown d s.given) coming → Timely d end coming cs put →
    Timely d end coming cs (put ++ v ∷ [])
timely_gives d s end coming cs put v new known h = record {
  judges = h.judges;
  gives = all_add (Gives d (IsHeld d end coming)) put v h.gives
      (gives_so d (λ m. IsLive end m × (s.given < m)) (IsHeld d end coming) v (λ m k. (k.0, none_new d s.given m coming k.1 known)) new);
  firsts = h.firsts;
  known = h.known;
}

-- a packet begins
begun_lively : (d e : Direction) (L : ℕ → Type 0) (c : Connection) → IsLively d L c → IsLively d L (begins e c)
begun_lively Left e L c h = grind arith
begun_lively Right e L c h = grind arith

pub timely_begins : (d e : Direction) (end : State) (coming : List Value) (cs : List Connection) (put : List Value) →
    Timely d end coming cs put → Timely d end coming (map (begins e) cs) put
timely_begins d e end coming cs put h = record {
  judges = each_map (IsLively d (IsHeld d end coming)) (begins e) cs h.judges (begun_lively d e (IsHeld d end coming));
  gives = h.gives;
  firsts = h.firsts;
  known = h.known;
}

-- a unit of the other side passes that closes nothing
pub timely_comes : (d : Direction) (end : State) (coming : List Value) (cs after : List Connection) (put : List Value) (v : Value) →
    shuts_of d v ≡ None → dr_for v ≡ None → HoldsOfEach (IsLively d (IsHeld d end coming)) after → Timely d end coming cs put →
    Timely d end (coming ++ v ∷ []) after put
timely_comes d end coming cs after put v none no_dr judges h =
    let keeps : (m : ℕ) → IsHeld d end coming m → IsHeld d end (coming ++ v ∷ []) m = λ m k.
    (k.0, none_add d m coming v k.1 (λ e. absurd (cc (sym none ∙ e)))) in
    record {
      judges = lively_more d (IsHeld d end coming) (IsHeld d end (coming ++ v ∷ [])) after keeps judges;
      gives = gives_more d (IsHeld d end coming) (IsHeld d end (coming ++ v ∷ [])) put keeps h.gives;
      firsts = firsts_add d (IsLive end) coming v h.firsts (λ n e. absurd (cc (sym no_dr ∙ e)));
      known = all_add (IsKnown d end.given) coming v h.known (λ m e. absurd (cc (sym none ∙ e)));
    }

-- one that closes the connection with this reference
pub timely_closes : (d : Direction) (end : State) (coming : List Value) (cs after : List Connection) (put : List Value) (v : Value)
    (n : ℕ) → shuts_of d v ≡ Some n → ((m : ℕ) → dr_for v ≡ Some m → IsHeld d end coming m) → n ≤ end.given →
    HoldsOfEach (IsLively d (Less (IsHeld d end coming) n)) after → AllByRecursion (Gives d (λ m. m ≡ n → ⊥)) put →
    Timely d end coming cs put → Timely d end (coming ++ v ∷ []) after put
timely_closes d end coming cs after put v n shuts dr given judges others h =
    let held = IsHeld d end coming in
    let keeps : (m : ℕ) → held m → (m ≡ n → ⊥) → IsHeld d end (coming ++ v ∷ []) m = λ m k other.
    (k.0, none_add d m coming v k.1 (λ e. other (number_is m n (sym e ∙ shuts)))) in
    record {
      judges = lively_more d (Less held n) (IsHeld d end (coming ++ v ∷ [])) after (λ m k. keeps m k.0 k.1) judges;
      gives = gives_both d held (λ m. m ≡ n → ⊥) (IsHeld d end (coming ++ v ∷ [])) put keeps h.gives others;
      firsts = firsts_add d (IsLive end) coming v h.firsts (λ m e. dr m e);
      known = all_add (IsKnown d end.given) coming v h.known
          (λ m e. subst (λ (i : ℕ). i ≤ end.given) (number_is n m (sym shuts ∙ e)) given);
    }
