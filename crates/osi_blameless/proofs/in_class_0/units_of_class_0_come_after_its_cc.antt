-- What comes to an end that gets class 0 is in order: before a CC nothing for a connection, and no CC after it. So a calling end takes no
-- DT before its connection opens. For the session of the connection of an end in class 0.
use Rattle.osi_blameless.proofs.Vocabulary.{[], append_assoc, List, refl, Some, subst, sym, true, ℕ, ◌++◌, ◌∙◌, ◌∷◌, ◌≡◌, append-nil}
use Rattle.osi_blameless.proofs.Vocabulary.{AllByRecursion, acknowledge, confirm, Connect, data0, data2, disconnect, disconnected, error}
use Rattle.osi_blameless.proofs.Vocabulary.{request, Value, early, Time as Stage, all_units_more, Opens, all_units, Marked, picked_join}
use Rattle.osi_blameless.proofs.Vocabulary.{picked_rest, arith}
use Rattle.osi_blameless.proofs.small_facts_that_many_lemmas_use.{all_join as all_of_both, none_first}
use Rattle.osi_blameless.proofs.putting.what_a_turn_puts_goes_to_its_peer.{all_back, one_of}
use Rattle.osi_blameless.proofs.coming.what_an_end_takes_at_each_stage.{AreCalm, EndsEarly, opens_next, opens_not}
use Rattle.osi_blameless.proofs.standing.what_stands_of_a_connection.{is_for, waiting_for}

-- ---- units

-- a CR, a DR, a DC or an ER
abbrev pub IsQuiet : Value → Type 0
IsQuiet (request x) = Unit {0}
IsQuiet (disconnect n source reason user) = Unit {0}
IsQuiet (disconnected n source) = Unit {0}
IsQuiet (error n cause) = Unit {0}
IsQuiet _ = ⊥

-- the same, or a DT of class 0
abbrev pub IsLater : Value → Type 0
IsLater (confirm n x) = ⊥
IsLater (data2 n number end user) = ⊥
IsLater (acknowledge credit n number) = ⊥
IsLater _ = Unit {0}

-- no CC comes after a CC or a DT of class 0, and no DT or AK of class 2 at all
abbrev pub InOrder : List Value → Type 0
InOrder [] = Unit {0}
InOrder (request x ∷ vs) = InOrder vs
InOrder (confirm n x ∷ vs) = AllByRecursion IsLater vs
InOrder (data0 end user ∷ vs) = AllByRecursion IsLater vs
InOrder (disconnect n source reason user ∷ vs) = InOrder vs
InOrder (disconnected n source ∷ vs) = InOrder vs
InOrder (error n cause ∷ vs) = InOrder vs
InOrder _ = ⊥

-- a CC is for this reference
abbrev pub IsCcFor : ℕ → Value → Type 0
IsCcFor r v = (n : ℕ) (x : Connect) → v ≡ confirm n x → n ≡ r

-- ---- what is in order

later_order : (vs : List Value) → AllByRecursion IsLater vs → InOrder vs
later_order [] h = tt
later_order (request x ∷ vs) h = later_order vs h.1
later_order (disconnect n source reason user ∷ vs) h = later_order vs h.1
later_order (disconnected n source ∷ vs) h = later_order vs h.1
later_order (error n cause ∷ vs) h = later_order vs h.1
later_order (data0 end user ∷ vs) h = h.1
later_order _ h = absurd h.0

-- what is left of it
pub order_back : (xs ys : List Value) → InOrder (xs ++ ys) → InOrder ys
order_back [] ys h = h
order_back (confirm n x ∷ xs) ys h = later_order ys (all_back IsLater xs ys h)
order_back (data0 end user ∷ xs) ys h = later_order ys (all_back IsLater xs ys h)
order_back (request x ∷ xs) ys h = order_back xs ys h
order_back (disconnect n source reason user ∷ xs) ys h = order_back xs ys h
order_back (disconnected n source ∷ xs) ys h = order_back xs ys h
order_back (error n cause ∷ xs) ys h = order_back xs ys h
order_back _ ys h = absurd h

-- one more unit
pub order_more : (vs : List Value) (v : Value) → InOrder vs → IsLater v → InOrder (vs ++ v ∷ [])
order_more [] v h l = later_order (v ∷ []) (l, tt)
order_more (confirm n x ∷ vs) v h l = all_of_both IsLater vs (v ∷ []) h (l, tt)
order_more (data0 end user ∷ vs) v h l = all_of_both IsLater vs (v ∷ []) h (l, tt)
order_more (request x ∷ vs) v h l = order_more vs v h l
order_more (disconnect n source reason user ∷ vs) v h l = order_more vs v h l
order_more (disconnected n source ∷ vs) v h l = order_more vs v h l
order_more (error n cause ∷ vs) v h l = order_more vs v h l
order_more _ v h l = absurd h

-- the CC after what is quiet
pub quiet_cc : (vs : List Value) (n : ℕ) (x : Connect) → AllByRecursion IsQuiet vs → InOrder (vs ++ confirm n x ∷ [])
quiet_cc [] n x h = tt
quiet_cc (request y ∷ vs) n x h = quiet_cc vs n x h.1
quiet_cc (disconnect m source reason user ∷ vs) n x h = quiet_cc vs n x h.1
quiet_cc (disconnected m source ∷ vs) n x h = quiet_cc vs n x h.1
quiet_cc (error m cause ∷ vs) n x h = quiet_cc vs n x h.1
quiet_cc _ n x h = absurd h.0

-- what is quiet alone
pub quiet_order : (vs : List Value) → AllByRecursion IsQuiet vs → InOrder vs
quiet_order [] h = tt
quiet_order (request x ∷ vs) h = quiet_order vs h.1
quiet_order (disconnect n source reason user ∷ vs) h = quiet_order vs h.1
quiet_order (disconnected n source ∷ vs) h = quiet_order vs h.1
quiet_order (error n cause ∷ vs) h = quiet_order vs h.1
quiet_order _ h = absurd h.0

pub quiet_ccs : (r : ℕ) (vs : List Value) → AllByRecursion IsQuiet vs → AllByRecursion (IsCcFor r) vs
quiet_ccs r [] h = tt
quiet_ccs r (v ∷ vs) h = ((λ n x is. absurd (subst IsQuiet is h.0)), quiet_ccs r vs h.1)

-- ---- for a connection

pub quiet_none : (o : ℕ) (vs : List Value) → AllByRecursion IsQuiet vs → waiting_for (Some o) vs ≡ []
quiet_none o [] h = refl
quiet_none o (request x ∷ vs) h = picked_rest (is_for (Some o)) (request x) vs refl ∙ quiet_none o vs h.1
quiet_none o (disconnect m source reason user ∷ vs) h = grind (arith, picked_rest, is_for, quiet_none o vs h.1)
quiet_none o (disconnected m source ∷ vs) h = picked_rest (is_for (Some o)) (disconnected m source) vs refl ∙ quiet_none o vs h.1
quiet_none o (error m cause ∷ vs) h = picked_rest (is_for (Some o)) (error m cause) vs refl ∙ quiet_none o vs h.1
quiet_none o _ h = absurd h.0

-- nothing is for one before the CC
pub before_cc : (r : ℕ) (front rest : List Value) (n : ℕ) (x : Connect) → InOrder (front ++ confirm n x ∷ rest) →
    waiting_for (Some r) front ≡ []
before_cc r [] rest n x h = refl
before_cc r (confirm m y ∷ front) rest n x h = absurd (one_of IsLater front rest (confirm n x) h)
before_cc r (data0 end user ∷ front) rest n x h = absurd (one_of IsLater front rest (confirm n x) h)
before_cc r (request y ∷ front) rest n x h = grind (arith, picked_rest, is_for, before_cc r front rest n x h)
before_cc r (disconnect m source reason user ∷ front) rest n x h = grind (arith, picked_rest, is_for, before_cc r front rest n x h)
before_cc r (disconnected m source ∷ front) rest n x h = grind (arith, picked_rest, is_for, before_cc r front rest n x h)
before_cc r (error m cause ∷ front) rest n x h = grind (arith, picked_rest, is_for, before_cc r front rest n x h)
before_cc r _ rest n x h = absurd h

-- ---- a turn

-- a CC is among these
pub record HasCc (vs : List Value) : Type 0 where
  pub front : List Value
  pub n : ℕ
  pub x : Connect
  pub rest : List Value
  pub is : vs ≡ front ++ confirm n x ∷ rest

-- those that come right before the unit with which a connection opens
before_opening : (r peer : ℕ) (unit : Value) (front rest : List Value) → Opens true r peer unit → InOrder (front ++ unit ∷ rest) →
    waiting_for (Some r) front ≡ []
before_opening r peer (confirm n x) front rest o h = before_cc r front rest n x h
before_opening r peer (request x) front rest o h = absurd (cc o.0)
before_opening r peer _ front rest o h = absurd o

-- The end took these units, the first of those that had come. If the connection may still open afterwards, the CC is among the others.
pub order_calm : (r : ℕ) (t : Stage) (took : List Marked) (others : List Value) → InOrder (all_units took ++ others) →
    (t ≡ early → HasCc others) → AreCalm true r t took
order_calm r t took others h awaits front back parts ends = by back parts ends
  where
    by : (back : List Marked) → took ≡ front ++ back → EndsEarly true r t back → waiting_for (Some r) (all_units front) ≡ []
    by _ is (opens_not still) =
        let same : took ≡ front = is ∙ append-nil front in
        let a = awaits still in
        let all : all_units took ++ others ≡ (all_units front ++ a.front) ++ confirm a.n a.x ∷ a.rest =
        (λ i. all_units (same i) ++ a.is i) ∙ sym (append_assoc (all_units front) a.front (confirm a.n a.x ∷ a.rest)) in
        none_first (waiting_for (Some r) (all_units front)) (waiting_for (Some r) a.front)
        (sym (picked_join (is_for (Some r)) (all_units front) a.front)
        ∙ before_cc r (all_units front ++ a.front) a.rest a.n a.x (subst InOrder all h))
    by _ is (opens_next peer unit rest o) =
        let units : all_units took ++ others ≡ all_units front ++ unit ∷ (all_units rest ++ others) =
        grind (arith, all_units_more, append_assoc) in
        before_opening r peer unit (all_units front) (all_units rest ++ others) o (subst InOrder units h)
