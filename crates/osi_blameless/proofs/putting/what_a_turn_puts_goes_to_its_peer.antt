-- What an end puts in a turn for a connection goes to the peer that the connection has there, and the unit with which the connection
-- opens in the turn had come: so each DT and each AK of the turn has a home at a judge if the connection has.
-- For calling and called ends.
use Rattle.osi_blameless.proofs.Vocabulary.{◌≡◌, ◌∙◌, refl, sym, ap, subst, ℕ, suc, zero, ◌<◌, Bool, true, false, List, [], ◌∷◌, ◌++◌}
use Rattle.osi_blameless.proofs.Vocabulary.{Option, Some, None, is_some, IsSome, append_assoc, arith, ◌==◌, nat_lt, AllByRecursion, eq-eqb}
use Rattle.osi_blameless.proofs.Vocabulary.{eqb-true, append-nil, Value, data0, Standing, link_of, open_link, value_at, linked, packets}
use Rattle.osi_blameless.proofs.Vocabulary.{EndReason, Direction, State, Whole, AreApart, GivesTo, Lives, Parts, Continues, Deeds, Marked}
use Rattle.osi_blameless.proofs.Vocabulary.{all_units, is_of_link, over_acts, all_units_more, Turn, Sessions, Joint, TakesTurn, differ}
use Rattle.osi_carrier.specs.State.{Connection as Live, State as Carrier}
use Rattle.osi_blameless.specs.ends.Arriving as arriving
use Rattle.osi_blameless.proofs.keeping.a_carrier_does_events.{none_of}
use Rattle.osi_blameless.proofs.keeping.steps_are_events.{IsFollowed}
use Rattle.osi_blameless.proofs.steps.the_packets_that_an_end_took_come_first.{are_first}
use Rattle.osi_blameless.proofs.putting.each_unit_of_a_turn_has_one_connection.{IsFor, IsHomed, IsMarked, of_none, of_one}
use Rattle.osi_blameless.proofs.standing.what_stands_of_a_connection.{is_for}
use Rattle.osi_blameless.proofs.small_facts_that_many_lemmas_use.{all_front, all_join}
use Rattle.osi_blameless.proofs.transport.small_facts_that_many_lemmas_use.{units_join}

-- ---- lists

pub all_back : {X : Type 0} (P : X → Type 0) (xs ys : List X) → AllByRecursion P (xs ++ ys) → AllByRecursion P ys
all_back P [] ys h = h
all_back P (x ∷ xs) ys h = all_back P xs ys h.1

pub one_of : {X : Type 0} (P : X → Type 0) (xs ys : List X) (x : X) → AllByRecursion P (xs ++ x ∷ ys) → P x
one_of P [] ys x h = h.0
one_of P (y ∷ xs) ys x h = one_of P xs ys x h.1

pub all_so : {X : Type 0} (P Q : X → Type 0) → ((x : X) → P x → Q x) → (xs : List X) → AllByRecursion P xs → AllByRecursion Q xs
all_so P Q f [] h = tt
all_so P Q f (x ∷ xs) h = (f x h.0, all_so P Q f xs h.1)

-- ---- what holds of all that a whole end has put holds of what it puts in a turn

pub turn_puts : (d : Direction) (start : Whole) (turn : Turn) (old new : Joint) (step : TakesTurn turn old new) (units : List Value) →
    step.units ≡ units → (g : IsFollowed d start new) (P : Value → Type 0) → AllByRecursion P new.put → AllByRecursion P units
turn_puts d start turn old new step units is g P all =
    all_back P old.put units (subst (AllByRecursion P) (step.put ∙ ap (λ (l : List Value). old.put ++ l) is) all)

-- ---- what the end has done in the turn

-- a unit has come
abbrev pub IsThere : Value → List Value → Type 1
IsThere v coming = (P : Value → Type 0) → AllByRecursion P coming → P v

pub link_is : (o : Option Live) (peer : ℕ) (link : Standing) → ◌≡◌ {A = Option (ℕ × Standing)} (link_of o) (Some (peer, link)) →
    o ≡ Some (linked peer link)
link_is o peer link e = grind arith

-- no DT of class 0
abbrev pub IsNotZero : Value → Type 0
IsNotZero v = (end : Bool) (user : List ℕ) → v ≡ data0 end user → ⊥

pub for_so : (peer : ℕ) (v : Value) → arriving.is_for peer v ≡ true → IsNotZero v → IsFor peer v
for_so peer v h unlike = grind (arith, eqb-true)

pub none_for : (v : Value) → is_of_link v ≡ false → (o : Option ℕ) → is_for o v ≡ false
none_for v h o = grind arith

-- a unit of this connection is for its peer
abbrev pub GoesTo : (q peer : ℕ) → Marked → Type 0
GoesTo q peer m = (m.0 == q) ≡ true → arriving.is_for peer m.1 ≡ true

pub goes_to : (q : ℕ) (put : List Marked) (peer : ℕ) (left : Parts q put) → GivesTo q peer left.during → AllByRecursion (GoesTo q peer) put
goes_to q put peer left gives = grind (arith, all_join, all_so, differ)

pub none_put : (P : Marked → Type 0) (units : List Marked) → packets (all_units units) ≡ [] → AllByRecursion P units
none_put P [] e = tt
none_put P (m ∷ units) e = absurd (cc)

pub by_units : (P : Value → Type 0) (units : List Marked) → AllByRecursion P (all_units units) →
    AllByRecursion (λ (m : Marked). P m.1) units
by_units P [] h = tt
by_units P (m ∷ units) h = (h.0, by_units P units h.1)

module _ (d : Direction) (is_caller : Bool) (first : Whole) (deeds : ℕ → Deeds) (turn : Turn) (old new : Joint)
    (step : TakesTurn turn old new) (on : Continues is_caller deeds old.end turn new.end) (f : IsFollowed d first old) where
  abbrev carrier : Carrier
  carrier = old.end.end.carrier

  abbrev pub Lived : ℕ → Type 0
  Lived q = Lives is_caller q carrier on.took on.put new.end.end.carrier

  module _ (lasts : carrier.ended ≡ None) where
    pub whole_lasts : f.end.ended ≡ None
    whole_lasts = none_of f.end.ended (sym f.like.over ∙ ap is_some lasts)

    pub linked_so : (q peer : ℕ) (link : Standing) → ◌≡◌ {A = Option (ℕ × Standing)} (open_link q carrier) (Some (peer, link)) →
        value_at q f.end.live ≡ Some (linked peer link)
    linked_so q peer link e = grind (arith, whole_lasts, link_is)

    -- the unit with which a connection opens had come
    pub came : (x : Value) (some : List Marked) (q : ℕ) (l : Lived q) → l.arrived.before ≡ some ++ (0, x) ∷ [] → IsThere x f.come
    came x some q l is P all =
        let a = are_first on.used step.used (old.end.held.octets ++ turn.used) on.rest step.rest new.end.end.carrier.ended
        on.cut (step.cut lasts) (λ still. on.held still ∙ sym (step.held still)) (step.all lasts) in
        search (arith, append_assoc, units_join, all_front, all_units_more, one_of)

  -- a connection that did not open put nothing
  pub none_shut : (q : ℕ) (l : Lived q) → l.left.during ++ l.left.after ≡ [] → AreApart q on.put
  none_shut q l none = grind (arith, append-nil)

  -- what it put for a connection goes to this peer, and has a home there
  pub record IsPutFor (q : ℕ) (s : State) (t : Sessions) : Type 0 where
    pub peer : ℕ
    pub goes : AllByRecursion (GoesTo q peer) on.put
    pub homed : IsHomed d q peer s t

  pub put_for : (q : ℕ) (l : Lived q) (s : State) (t : Sessions) → IsHomed d q l.peer s t → IsPutFor q s t
  put_for q l s t homed = record { peer = l.peer; goes = goes_to q on.put l.peer l.left l.gives; homed = homed }

  -- ---- each unit has a home if each connection that put one has

  module _ (s : State) (t : Sessions) (class_2 : AllByRecursion IsNotZero (all_units on.put))
      (home : carrier.ended ≡ None → (q : ℕ) → 0 < q → (AreApart q on.put → ⊥) → IsPutFor q s t) where
    unit_marked : carrier.ended ≡ None → (front rest : List Marked) (m : Marked) → on.put ≡ front ++ m ∷ rest → IsMarked d s t m
    unit_marked lasts front rest m is = by m.0 refl
      where
        at : (P : Marked → Type 0) → AllByRecursion P on.put → P m
        at P all = one_of P front rest m (subst (AllByRecursion P) is all)

        by : (q : ℕ) → m.0 ≡ q → IsMarked d s t m
        by zero e = of_none e (none_for m.1 (at (λ (k : Marked). is_of_link k.1 ≡ nat_lt 0 k.0) on.by_links ∙ ap (nat_lt 0) e))
        by (suc n) e =
            let some : 0 < m.0 = omega (arith, e) in
            let mine : (m.0 == m.0) ≡ true = eq-eqb m.0 m.0 refl in
            let h = home lasts m.0 some (λ apart. differ (m.0 == m.0) mine (at (λ (k : Marked). (k.0 == m.0) ≡ false) apart)) in
            let unlike = at (λ (k : Marked). IsNotZero k.1) (by_units IsNotZero on.put class_2) in
            of_one h.peer (for_so h.peer m.1 (at (GoesTo m.0 h.peer) h.goes mine) unlike) h.homed

    all_marked : carrier.ended ≡ None → (front units : List Marked) → on.put ≡ front ++ units → AllByRecursion (IsMarked d s t) units
    all_marked lasts front [] is = tt
    all_marked lasts front (m ∷ units) is =
        (unit_marked lasts front units m is, all_marked lasts (front ++ m ∷ []) units (is ∙ sym (append_assoc front (m ∷ []) units)))

    -- an end that is over puts nothing
    pub turn_marked : AllByRecursion (IsMarked d s t) on.put
    turn_marked = by carrier.ended refl
      where
        by : (o : Option EndReason) → carrier.ended ≡ o → AllByRecursion (IsMarked d s t) on.put
        by None lasts = all_marked lasts [] on.put refl
        by (Some reason) gone =
            let done = over_acts turn old.end new.end (subst IsSome (sym gone) refl) step.takes in
            none_put (IsMarked d s t) on.put (sym on.written ∙ done.1)
