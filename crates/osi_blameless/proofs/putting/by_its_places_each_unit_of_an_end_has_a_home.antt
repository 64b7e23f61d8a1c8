-- Each DT and each AK that a called end of class 2 puts in a turn is for a connection that the judge knows by its references and that this
-- end has not closed there, or for one whose CC has not passed; each other unit is for none.
-- For all connections of an end and a judge.
use Rattle.osi_blameless.proofs.Vocabulary.{[], ap, append_assoc, false, List, None, Option, refl, Some, subst, sym, true, ℕ, ◌++◌, ◌∙◌}
use Rattle.osi_blameless.proofs.Vocabulary.{◌∷◌, ◌≡◌, AllByRecursion, slice_get, confirm, Connect, disconnect, request, Value, Standing}
use Rattle.osi_blameless.proofs.Vocabulary.{Local, value_at, linked, Carrier, is_open, is_refused, uses, silent_half, Traffic as State}
use Rattle.osi_blameless.proofs.Vocabulary.{Connection, Phase, Left, Right, Answers, Begins, is_shut, Opens, opens, Continues, Deeds}
use Rattle.osi_blameless.proofs.Vocabulary.{all_units, Marked, Turn, Joined, reference_of, Sessions, answering as answers, Asked, Called}
use Rattle.osi_blameless.proofs.Vocabulary.{comes, refuses, runs, Untagged, Placed, values, open_link, ◌<◌, Whole, Joint, TakesTurn}
use Rattle.osi_blameless.proofs.Vocabulary.{HaveSamePlaces, named_by, arith, each_sound, AreApart, differ}
use Rattle.osi_rules.specs.declared.directions.Direction.TheVariants as way
use Rattle.osi_blameless.specs.transport.Wholes.{begin}
use Rattle.osi_blameless.proofs.transport.by_place.each_connection_has_its_place.{Row, past}
use Rattle.osi_blameless.proofs.transport.connections.units_by_their_place.{units_at}
use Rattle.osi_blameless.specs.ends.Arriving.{is_open as opened}
use Rattle.osi_blameless.proofs.small_facts_that_many_lemmas_use.{all_front, over_not, not_some}
use Rattle.osi_blameless.proofs.keeping.steps_are_events.{whole_of, IsFollowed}
use Rattle.osi_blameless.proofs.putting.a_whole_end_runs_along.{HasLines}
use Rattle.osi_blameless.proofs.putting.a_called_end_of_class_2_puts_no_dt_of_class_0.{StandsAt, place_parts}
use Rattle.osi_blameless.proofs.shown.a_right_dt_has_one_place.{still_used}
use Rattle.osi_blameless.proofs.standing.all_connections_stand.{one_at, there_too}
use Rattle.osi_blameless.proofs.shown.connections_have_the_same_places.{at_same}
use Rattle.osi_blameless.proofs.putting.each_unit_of_a_turn_has_one_connection.{IsHomed, IsMarked, known, unknown}
use Rattle.osi_blameless.proofs.putting.references_of_an_end_are_distinct.{GivesNew, IsUnused}
use Rattle.osi_blameless.proofs.putting.what_a_turn_puts_goes_to_its_peer.{IsNotZero, IsThere, Lived, by_units, came, linked_so, none_shut}
use Rattle.osi_blameless.proofs.putting.what_a_turn_puts_goes_to_its_peer.{one_of, put_for, turn_marked, whole_lasts}

-- ---- small facts

pub same_number : (o : Option ℕ) (m n : ℕ) → o ≡ Some m → o ≡ Some n → m ≡ n
same_number o m n h k = let both : Some m ≡ Some n = sym h ∙ k in cc

pub same_peer : (m n : ℕ) (a b : Standing) → Some (linked m a) ≡ Some (linked n b) → m ≡ n
same_peer m n a b e = cc

-- ---- the reference of right

named_is : (p : Phase) (n q : ℕ) → named_by p n ≡ Some q → n ≡ q
named_is p n q h = grind arith

pub named_open : (p : Phase) (n : ℕ) → is_open p ≡ true → named_by p n ≡ Some n
named_open p n h = grind arith

silent_none : (c : Connection) (q : ℕ) → c.right ≡ silent_half → named_by c.right.phase c.right.reference ≡ Some q → ⊥
silent_none c q silent h = grind arith

refused_none : (p : Phase) (n q : ℕ) → is_refused p ≡ true → named_by p n ≡ Some q → ⊥
refused_none p n q r h = grind arith

-- ---- a connection that is asked for

pub used_asked : (x : Connect) (c : Connection) → Asked x c → uses way.Left x.source c ≡ true
used_asked x c a = grind arith

-- ---- what came

pub only_one : (xs ys : List Value) (u v : Value) → xs ++ v ∷ ys ≡ u ∷ [] → v ≡ u
only_one [] ys u v e = cc
only_one (x ∷ []) ys u v e = absurd (cc)
only_one (x ∷ (y ∷ xs)) ys u v e = absurd (cc)

pub not_empty : {A : Type 0} (xs ys : List Value) (v : Value) → xs ++ v ∷ ys ≡ [] → A
not_empty [] ys v e = absurd (cc)
not_empty (x ∷ xs) ys v e = absurd (cc)

module _ (local : Local) (w : Whole) (t : Sessions) (lined : HasLines local w) (places : HaveSamePlaces w.judge.connections t.live)
    (lasts : w.end.ended ≡ None) where
  abbrev f : Called local w
  f = lined.called

  -- no other connection that right has open has this reference of left
  none_open : (x : Connect) (p : ℕ) (c : Connection) → slice_get w.judge.connections p ≡ Some c → Asked x c →
      (i : ℕ) (e : Connection) (j : Joined) → slice_get w.judge.connections i ≡ Some e → slice_get t.live i ≡ Some j →
      is_open e.right.phase ≡ true → reference_of Left j ≡ Some x.source → ⊥
  none_open x p c at a i e j there here lives is =
      let used = still_used Right x.source e j (one_at w.judge.connections t.live i e j places there here)
      (each_sound way.Left w.judge.connections lined.apart lined.named i e there) lives is in
      let same : p ≡ i = lined.named.used x.source p i c e at there (used_asked x c a) used in
      grind (arith, differ)

  -- a connection that right has answered has the reference that the end gave it
  given_by : (q i : ℕ) (c : Connection) → named_by c.right.phase c.right.reference ≡ Some q → StandsAt local w f i c → f.refs i ≡ Some q
  given_by q i c is h = grind (arith, silent_none, named_is, refused_none)

  -- the CC with its reference has not passed
  none_named : (q p : ℕ) (c : Connection) → slice_get w.judge.connections p ≡ Some c → c.right ≡ silent_half → f.refs p ≡ Some q →
      (i : ℕ) (j : Joined) → slice_get t.live i ≡ Some j → reference_of Right j ≡ Some q → ⊥
  none_named q p c at silent index i j here is =
      let (e, there) = there_too w.judge.connections t.live i j places here in
      let one = one_at w.judge.connections t.live i e j places there here in
      let named = sym one.called ∙ is in
      let same : i ≡ p = sym (f.homes i q (given_by q i e named (f.stands i e there))).0 ∙ (f.homes p q index).0 in
      grind (arith, silent_none)

  -- ---- the end has the connection open

  pub row_peer : (r peer : ℕ) (link : Option Standing) (come : List Value) (m : ℕ) (l : Standing) → Row w.end w.coming r peer link come →
      value_at r w.end.live ≡ Some (linked m l) → m ≡ peer
  row_peer r peer link come m l h e = grind (arith, same_peer, over_not)

  at_home : (q peer : ℕ) (link : Standing) → value_at q w.end.live ≡ Some (linked peer link) → (p : ℕ) (c : Connection) →
      slice_get w.judge.connections p ≡ Some c → f.refs p ≡ Some q → StandsAt local w f p c → IsHomed Right q peer w.judge t
  at_home q peer link is p c at index (comes x a none ask none_given) = not_some (f.refs p) q index none_given
  at_home q peer link is p c at index (refuses x a reason put none none_given seen) = not_some (f.refs p) q index none_given
  at_home q peer link is p c at index (answers h none) =
      let name : h.r ≡ q = same_number (f.refs p) h.r q h.index index in
      let same : peer ≡ h.x.source =
      row_peer h.r h.x.source h.link h.come peer link h.row (ap (λ (n : ℕ). value_at n w.end.live) name ∙ is) in
      unknown
      (λ i e j there here lives mine.
      none_open h.x p c at h.asked i e j there here lives (mine ∙ ap (λ (n : ℕ). Some n) same))
      (none_named q p c at h.asked.right index)
  at_home q peer link is p c at index (runs h none) =
      grind (
        arith,
        row_peer,
        known,
        same_number (f.refs p) h.r q h.index index,
        at_same w.judge.connections t.live p c places at,
        named_open c.right.phase c.right.reference h.there,
      )
  at_home q peer link is p c at index (past silent up none asks un off) = absurd (un q index lasts peer link is)

  linked_homed : (q peer : ℕ) (link : Standing) → value_at q w.end.live ≡ Some (linked peer link) → IsHomed Right q peer w.judge t
  linked_homed q peer link is = by (slice_get w.judge.connections (f.home q)) refl
    where
      index : f.refs (f.home q) ≡ Some q
      index = f.linked_at lasts q peer link is

      by : (o : Option Connection) → slice_get w.judge.connections (f.home q) ≡ o → IsHomed Right q peer w.judge t
      by None e = absurd ((f.beyond (f.home q) e).2 q index lasts peer link is)
      by (Some c) e = at_home q peer link is (f.home q) c e index (f.stands (f.home q) c e)

  -- ---- its CR has come

  record AskedAt (x : Connect) : Type 0 where
    place : ℕ
    connection : Connection
    there : slice_get w.judge.connections place ≡ Some connection
    asked : Asked x connection

  abbrev IsAskedFor : Value → Type 0
  IsAskedFor v = (x : Connect) → v ≡ request x → AskedAt x

  asked_by : (v : Value) (p : ℕ) (c : Connection) (xs ys : List Value) → slice_get w.judge.connections p ≡ Some c →
      units_at p f.came ≡ xs ++ v ∷ ys → StandsAt local w f p c → IsAskedFor v
  asked_by v p c xs ys at e (comes y a none ask index) x is =
      grind (arith, sym is ∙ only_one xs ys (request y) v (sym e ∙ ask lasts))
  asked_by v p c xs ys at e (refuses y a reason put none index seen) x is = not_empty xs ys v (sym e ∙ none)
  asked_by v p c xs ys at e (answers h none) x is = not_empty xs ys v (sym e ∙ none)
  asked_by v p c xs ys at e (runs h none) x is = not_empty xs ys v (sym e ∙ none)
  asked_by v p c xs ys at e (past silent up none asks un off) x is = not_empty xs ys v (sym e ∙ asks)

  one_asked : (front rest : List Placed) (o : Option ℕ) (v : Value) → f.came ≡ front ++ (o, v) ∷ rest → IsAskedFor v
  one_asked front rest None v is =
      λ x e. absurd (one_of Untagged front rest (None, v) (subst (AllByRecursion Untagged) is f.untagged) refl x e)
  one_asked front rest (Some p) v is = by (slice_get w.judge.connections p) refl
    where
      here : units_at p f.came ≡ units_at p front ++ v ∷ units_at p rest
      here = place_parts f.came p front rest v is

      by : (o : Option Connection) → slice_get w.judge.connections p ≡ o → IsAskedFor v
      by None e = λ x same. not_empty (units_at p front) (units_at p rest) v (sym here ∙ (f.beyond p e).1)
      by (Some c) e = asked_by v p c (units_at p front) (units_at p rest) e here (f.stands p c e)

  all_asked : (front rest : List Placed) → f.came ≡ front ++ rest → AllByRecursion IsAskedFor (values rest)
  all_asked front [] is = tt
  all_asked front (m ∷ rest) is =
      (one_asked front rest m.0 m.1 is, all_asked (front ++ m ∷ []) rest (is ∙ sym (append_assoc front (m ∷ []) rest)))

  asked_homed : (q : ℕ) (x : Connect) → IsThere (request x) w.coming → IsUnused Right q t → IsHomed Right q x.source w.judge t
  asked_homed q x come unused =
      let a = come IsAskedFor (subst (AllByRecursion IsAskedFor) (sym f.come) (all_asked [] f.came refl)) x refl in
      unknown (λ i e j there here lives mine. none_open x a.place a.connection a.there a.asked i e j there here lives mine)
      (λ i j here is. unused.live i j here is)

-- ---- a turn

-- no connection opens by a CC that has come
abbrev pub OpensByNoCc : (local : Local) (deeds : ℕ → Deeds) (turn : Turn) (old new : Joint) (step : TakesTurn turn old new)
    (on : Continues false deeds old.end turn new.end) → IsFollowed Right (begin false local) old → Type 1
OpensByNoCc local deeds turn old new step on f = old.end.end.carrier.ended ≡ None → (q : ℕ) → 0 < q →
    open_link q old.end.end.carrier ≡ None → (n : ℕ) (x : Connect) → n ≡ q → IsThere (confirm n x) f.come → AreApart q on.put

module _ (local : Local) (deeds : ℕ → Deeds) (turn : Turn) (old new : Joint) (step : TakesTurn turn old new)
    (on : Continues false deeds old.end turn new.end) (f : IsFollowed Right (begin false local) old)
    (h : HasLines local (whole_of f))
    (places : HaveSamePlaces old.judge.traffic.connections old.judge.sessions.live)
    (news : AllByRecursion (λ (v : Value). GivesNew Right v old.judge.sessions) (all_units on.put))
    (class_2 : AllByRecursion IsNotZero (all_units on.put))
    (no_cc : OpensByNoCc local deeds turn old new step on f) where
  abbrev s : State
  s = old.judge.traffic

  abbrev t : Sessions
  t = old.judge.sessions

  abbrev carrier : Carrier
  carrier = old.end.end.carrier

  abbrev LivedSo : ℕ → Type 0
  LivedSo q = Lived Right false (begin false local) deeds turn old new step on f q

  -- a CC that is put gives a new reference
  new_reference : (q : ℕ) (l : LivedSo q) (others answer : List Marked) → l.left.before ≡ others ++ answer → (cc_is : Connect) →
      cc_is.source ≡ q → answer ≡ (0, confirm l.peer cc_is) ∷ [] → IsUnused Right q t
  new_reference q l others answer parts cc_is source is =
      let all = subst (AllByRecursion (λ (m : Marked). GivesNew Right m.1 t)) l.left.is
      (by_units (λ (v : Value). GivesNew Right v t) on.put news) in
      let before = all_front (λ (m : Marked). GivesNew Right m.1 t) l.left.before (l.left.during ++ l.left.after) all in
      subst (λ (n : ℕ). IsUnused Right n t) source
      (one_of (λ (m : Marked). GivesNew Right m.1 t) others [] (0, confirm l.peer cc_is)
      (subst (AllByRecursion (λ (m : Marked). GivesNew Right m.1 t)) (parts ∙ ap (λ (x : List Marked). others ++ x) is) before))

  home_by : (lasts : carrier.ended ≡ None) (q : ℕ) → 0 < q → (l : LivedSo q) →
      Begins false q l.peer carrier new.end.end.carrier l.arrived l.left → (AreApart q on.put → ⊥) →
      IsHomed Right q l.peer s t
  home_by lasts q positive l (opened link there none none_left) some =
      linked_homed local (whole_of f) t h (grind arith)
      (whole_lasts Right false (begin false local) deeds turn old new step on f lasts) q l.peer link
      (linked_so Right false (begin false local) deeds turn old new step on f lasts q l.peer link there)
  home_by lasts q positive l (opens shut unit opening front is others answer gives put) some = by unit opening gives is
    where
      by : (u : Value) → Opens false q l.peer u → Answers q l.peer u answer → l.arrived.before ≡ front ++ (0, u) ∷ [] →
          IsHomed Right q l.peer s t
      by (confirm n x) opening gives come =
          absurd (search (arith, came Right false (begin false local) deeds turn old new step on f lasts (confirm n x) front q l come))
      by (request x) (called, theirs) (cc_is, source, one) come =
          subst (λ (k : ℕ). IsHomed Right q k s t) theirs
          (asked_homed local (whole_of f) t h (grind arith)
          (whole_lasts Right false (begin false local) deeds turn old new step on f lasts) q x
          (came Right false (begin false local) deeds turn old new step on f lasts (request x) front q l come)
          (new_reference q l others answer put cc_is source one))
      by (disconnect n source reason user) h gives come = absurd h
      by _ h gives come = absurd h
  home_by lasts q positive l (is_shut shut then_shut none none_left) some = search (arith, none_shut)

  pub units_marked : AllByRecursion (IsMarked Right s t) on.put
  units_marked =
      turn_marked Right false (begin false local) deeds turn old new step on f s t class_2
      (λ lasts q positive some.
      let l = on.lives q positive in
      put_for Right false (begin false local) deeds turn old new step on f q l s t
      (home_by lasts q positive l l.begins some))
