-- At a judge each CR of a calling end that passes gives a new reference, and so does each CC of a called end; and this stays so with each
-- step. For all connections of an end and a judge.
use Rattle.osi_blameless.proofs.Vocabulary.{◌≡◌, ◌∙◌, ◌⊎◌, inl, inr, refl, sym, ap, subst, ℕ, ◌<◌, ◌≤◌, Bool, false, List, [], ◌∷◌, Holding}
use Rattle.osi_blameless.proofs.Vocabulary.{IsFresh, Local, begin, calls_from, length, Option, Some, None, arith, slice_get, AllByRecursion}
use Rattle.osi_blameless.proofs.Vocabulary.{Connect, Value, confirm, request, Direction, Left, Right, other, State, meaning_if, meant}
use Rattle.osi_blameless.proofs.Vocabulary.{takes, Whole, after_add, after_set, Turn, Room, Joined, Sessions, all_begin, asked}
use Rattle.osi_blameless.proofs.Vocabulary.{reference_of, taken, Course, unit_passes, units_pass, way_of, Joint, Step, Steps, TakesTurn}
use Rattle.osi_blameless.proofs.Vocabulary.{begins_other, begins_own, passes_other, passes_own, turns, HaveSamePlaces}
use Rattle.osi_blameless.specs.transport.Wholes as wholes
use Rattle.osi_judge.specs.Connections.{packet_begins}
use Rattle.osi_judge.specs.Connections as joined
use Rattle.osi_blameless.proofs.keeping.steps_are_events.{whole_of, IsFollowed, begin_followed, step_followed}
use Rattle.osi_blameless.proofs.standing.all_connections_stand.{map_of}
use Rattle.osi_blameless.proofs.shown.connections_have_the_same_places.{unit_agrees, unit_joins}
use Rattle.osi_blameless.proofs.transport.requests.units_that_wait_give_references_above_those_that_passed.{AreAbove, above_along, gives}
use Rattle.osi_blameless.proofs.transport.requests.units_that_wait_give_references_above_those_that_passed.{passes_given}
use Rattle.osi_blameless.proofs.putting.references_of_an_end_are_distinct.{GivesNew, IsUnused}
use Rattle.osi_blameless.proofs.standing.what_a_unit_does_at_its_place.{Does, asks_again, asks_more, nowhere, somewhere, unit_does}
use Rattle.osi_blameless.proofs.standing.what_stands_of_a_connection.{named_begun}
use Rattle.osi_blameless.proofs.keeping.steps_are_events.{seen, then_happens, unit_traffic}

-- ---- references at a judge

-- from 1 up to this one
abbrev pub IsWithin : (b r : ℕ) → Type 0
IsWithin b r = (0 < r) × (r ≤ b)

-- this end gave such references to what is joined
pub record AreUpTo (d : Direction) (b : ℕ) (t : Sessions) : Type 0 where
  pub live : (i : ℕ) (j : Joined) (r : ℕ) → slice_get t.live i ≡ Some j → reference_of d j ≡ Some r → IsWithin b r
  pub done : (i : ℕ) (j : Joined) (r : ℕ) → slice_get t.done i ≡ Some j → reference_of d j ≡ Some r → IsWithin b r

-- a CR of left and a CC of right give such a reference
abbrev pub IsUpTo : Direction → ℕ → Value → Type 0
IsUpTo Left b (request x) = IsWithin b x.source
IsUpTo Right b (confirm n x) = IsWithin b x.source
IsUpTo d b v = Unit {0}

pub up_higher : (d : Direction) (b n : ℕ) (t : Sessions) → b ≤ n → AreUpTo d b t → AreUpTo d n t
up_higher d b n t h u = grind arith

module _ (d : Direction) (b : ℕ) where
  abbrev IsLow : Joined → Type 0
  IsLow j = (r : ℕ) → reference_of d j ≡ Some r → IsWithin b r

  low_same : (j k : Joined) → reference_of d k ≡ reference_of d j → IsLow j → IsLow k
  low_same j k same low r is = low r (sym same ∙ is)

asked_low : (d : Direction) (b : ℕ) (x : Connect) (number : ℕ) (room : Room) → IsUpTo d b (request x) →
    IsLow d b (asked number x.source room)
asked_low d b x number room up r is = grind arith

meant_low : (d : Direction) (b : ℕ) (e : Direction) (at : ℕ) (v : Value) (x : Bool) (j : Joined) → IsUpTo d b v → IsLow d b j →
    IsLow d b (joined.meant e at v (meaning_if x (meant v)) j)
meant_low d b e at v x j up low = search (arith, low_same)

module _ (d : Direction) (b : ℕ) (t : Sessions) (h : AreUpTo d b t) where
  low_of : (p i : ℕ) (new j : Joined) → IsLow d b new → ((i ≡ p) × (j ≡ new)) ⊎ (slice_get t.live i ≡ Some j) → IsLow d b j
  low_of p i new j low (inl (a, same)) = low_same d b new j (ap (reference_of d) same) low
  low_of p i new j low (inr there) = λ r is. h.live i j r there is

  low_done : (i : ℕ) (old j : Joined) → IsLow d b old → ((i ≡ length t.done) × (j ≡ old)) ⊎ (slice_get t.done i ≡ Some j) → IsLow d b j
  low_done i old j low (inl (a, same)) = low_same d b old j (ap (reference_of d) same) low
  low_done i old j low (inr there) = λ r is. h.done i j r there is

  up_by : (e : Direction) (at : ℕ) (v : Value) (s : State) → IsUpTo d b v → Does e at v s t (takes (way_of e) v s) →
      AreUpTo d b (taken e at v (takes (way_of e) v s).told.meaning (takes (way_of e) v s).told.place t)
  up_by e at v s up (nowhere place cs ts) = subst (AreUpTo d b) (sym ts) h
  up_by e at v s up (somewhere p c k x r place there here one finding is far cs ts) =
      let new : Joined = joined.meant e at v (meaning_if x (meant v)) k in
      let low : IsLow d b new = meant_low d b e at v x k up (λ q named. h.live p k q here named) in
      subst (AreUpTo d b) (sym ts) (record {
        live = λ i j q at_i named. low_of p i new j low (after_set t.live p i new j at_i) q named;
        done = h.done;
      })
  up_by e at v s up (asks_more x is number cs ts) = search (arith, asked_low, low_of, after_add)
  up_by e at v s up (asks_again x is number p k here free cs ts) =
      let new : Joined = asked number x.source t.room in
      let low : IsLow d b new = asked_low d b x number t.room (subst (IsUpTo d b) is up) in
      subst (AreUpTo d b) (sym ts) (record {
        live = λ i j q at_i named. low_of p i new j low (after_set t.live p i new j at_i) q named;
        done = λ i j q at_i named. low_done i k j (λ m is_m. h.live p k m here is_m) (after_add t.done i k j at_i) q named;
      })

pub begins_up : (d e : Direction) (b : ℕ) (t : Sessions) → AreUpTo d b t → AreUpTo d b (all_begin e t)
begins_up d e b t h = grind (arith, map_of, named_begun)

pub unit_up : (d e : Direction) (b at : ℕ) (v : Value) (c : Course) → HaveSamePlaces c.traffic.connections c.sessions.live →
    IsUpTo d b v → AreUpTo d b c.sessions → AreUpTo d b (unit_passes e at v c).sessions
unit_up d e b at v c places up h =
    subst (AreUpTo d b) (sym (unit_joins e at v c))
    (up_by d b c.sessions h e at v c.traffic up (unit_does e at v c.traffic c.sessions places))

pub units_up : (d e : Direction) (b at : ℕ) (vs : List Value) (c : Course) → HaveSamePlaces c.traffic.connections c.sessions.live →
    AllByRecursion (IsUpTo d b) vs → AreUpTo d b c.sessions → AreUpTo d b (units_pass e at vs c).sessions
units_up d e b at [] c places up h = h
units_up d e b at (v ∷ vs) c places up h =
    units_up d e b at vs (unit_passes e at v c) (unit_agrees e at v c places) up.1 (unit_up d e b at v c places up.0 h)

-- ---- what gives a reference

none_up : (d : Direction) (b : ℕ) (v : Value) → gives (way_of d) v ≡ None → IsUpTo d b v
none_up d b v none = grind arith

some_up : (d : Direction) (b r : ℕ) (v : Value) → gives (way_of d) v ≡ Some r → 0 < r → r ≤ b → IsUpTo d b v
some_up d b r v given some up = grind arith

none_new : (d : Direction) (v : Value) (t : Sessions) → gives (way_of d) v ≡ None → GivesNew d v t
none_new d v t none = grind arith

some_new : (d : Direction) (v : Value) (r : ℕ) (t : Sessions) → gives (way_of d) v ≡ Some r → IsUnused d r t → GivesNew d v t
some_new d v r t given unused = grind arith

-- no connection has a reference above all of the judge
pub above_unused : (d : Direction) (b r : ℕ) (t : Sessions) → AreUpTo d b t → b < r → IsUnused d r t
above_unused d b r t up less = grind arith

-- ---- an end and a judge

-- All references at the judge are up to this one, and those of the units that have not passed are above it.
pub record IsAhead (d : Direction) (first : Whole) (j : Joint) : Type 0 where
  pub followed : IsFollowed d first j
  pub bound : ℕ
  pub above : AreAbove (way_of d) bound (whole_of followed)
  pub below : AreUpTo d bound j.judge.sessions

first_above : (d : Direction) (local : Local) → AreAbove (way_of d) 0 (wholes.begin (calls_from d) local)
first_above d local = record { rise = tt; up = tt; given = omega arith }

pub first_ahead : (d : Direction) (local : Local) (h : Holding) → IsFresh (calls_from d) local h →
    IsAhead d (wholes.begin (calls_from d) local) (begin h)
first_ahead d local h fresh =
    let f = begin_followed d (calls_from d) local h fresh in
    record {
      followed = f;
      bound = 0;
      above = above_along (way_of d) 0 f.events (wholes.begin (calls_from d) local) (whole_of f) f.along (first_above d local);
      below = record { live = λ i j r here named. absurd (cc here); done = λ i j r here named. absurd (cc here) };
    }

-- so after a step, with a reference that is as high
pub record GoesOn (d : Direction) (first : Whole) (b : ℕ) (j : Joint) : Type 0 where
  pub ahead : IsAhead d first j
  pub rises : b ≤ ahead.bound

-- and when a unit of the end has passed, its reference is among those of the judge
pub record PassesOn (d : Direction) (first : Whole) (b : ℕ) (v : Value) (j : Joint) : Type 0 where
  pub on : GoesOn d first b j
  pub up : IsUpTo d on.ahead.bound v

-- the reference that it gives is the highest then
pub record GivesHighest (d : Direction) (first : Whole) (b r : ℕ) (j : Joint) : Type 0 where
  pub higher : b < r
  pub ahead : IsAhead d first j
  pub bound : ahead.bound ≡ r

module _ (d : Direction) (first : Whole) where
  -- a whole end from here on
  from_here : (j : Joint) (f : IsFollowed d first j) → IsFollowed d (whole_of f) j
  from_here j f = record { end = f.end; come = f.come; events = []; along = refl; coming = f.coming; like = f.like }

  -- ---- each step

  goes_on : (step : Step) (old new : Joint) → Steps d step old new → (h : IsAhead d first old) →
      AreUpTo d h.bound new.judge.sessions → GoesOn d first h.bound new
  goes_on step old new does h up =
      let f = h.followed in
      let g : IsFollowed d (whole_of f) new = step_followed d (whole_of f) step old new does (from_here old f) in
      let ahead : IsAhead d first new = record {
        followed = then_happens d first old new f g.end g.come g.events g.along g.coming g.like;
        bound = h.bound;
        above = above_along (way_of d) h.bound g.events (whole_of f) (whole_of g) g.along h.above;
        below = up;
      } in
      record { ahead = ahead; rises = omega arith }

  -- a turn leaves all references at the judge
  pub turns_ahead : (turn : Turn) (old new : Joint) → (t : TakesTurn turn old new) → (h : IsAhead d first old) →
      GoesOn d first h.bound new
  turns_ahead turn old new t h =
      goes_on (turns turn) old new t h (subst (λ (c : Course). AreUpTo d h.bound c.sessions) (sym t.course) h.below)

  pub begins_own_ahead : (old new : Joint) → Steps d begins_own old new → (h : IsAhead d first old) →
      GoesOn d first h.bound new
  begins_own_ahead old new step h =
      goes_on begins_own old new step h
      (subst (λ (j : Joint). AreUpTo d h.bound j.judge.sessions) (sym step.2) (begins_up d d h.bound old.judge.sessions h.below))

  pub begins_other_ahead : (old new : Joint) → Steps d begins_other old new → (h : IsAhead d first old) →
      GoesOn d first h.bound new
  begins_other_ahead old new step h =
      goes_on begins_other old new step h
      (subst (λ (j : Joint). AreUpTo d h.bound j.judge.sessions) (sym step) (begins_up d (other d) h.bound old.judge.sessions h.below))

  -- the units of the other side give no reference
  pub passes_other_ahead : (at : ℕ) (packet : List ℕ) (units : List Value) (old new : Joint) →
      Steps d (passes_other at packet units) old new → (h : IsAhead d first old) → AreUpTo d h.bound new.judge.sessions →
      GoesOn d first h.bound new
  passes_other_ahead at packet units old new step h up = goes_on (passes_other at packet units) old new step h up

  pub other_up : (at b : ℕ) (packet : List ℕ) (units : List Value) (old new : Joint) → Steps d (passes_other at packet units) old new →
      HaveSamePlaces old.judge.traffic.connections old.judge.sessions.live → AllByRecursion (IsUpTo d b) units →
      AreUpTo d b old.judge.sessions → AreUpTo d b new.judge.sessions
  other_up at b packet units old new step places none h =
      subst (λ (j : Joint). AreUpTo d b j.judge.sessions) (sym step.2) (units_up d (other d) b at units old.judge places none h)

  -- ---- a unit of the end

  -- the reference of one that passes is above
  pub passes_above : (at : ℕ) (v : Value) (r : ℕ) → gives (way_of d) v ≡ Some r → (old new : Joint) → Steps d (passes_own at v) old new →
      (h : IsAhead d first old) → h.bound < r
  passes_above at v r given old new (read, octets, (put, begun, is)) h =
      let w = whole_of h.followed in
      (passes_given (way_of d) h.bound r v new.put w (record w { put = new.put }) given put refl refl h.above).new_is

  pub gives_new : (at : ℕ) (v : Value) (old new : Joint) → Steps d (passes_own at v) old new → IsAhead d first old →
      GivesNew d v old.judge.sessions
  gives_new at v old new step h = by (gives (way_of d) v) refl
    where
      by : (o : Option ℕ) → gives (way_of d) v ≡ o → GivesNew d v old.judge.sessions
      by None none = none_new d v old.judge.sessions none
      by (Some r) given = some_new d v r old.judge.sessions given
          (above_unused d h.bound r old.judge.sessions h.below (passes_above at v r given old new step h))

  pub passes_highest : (at : ℕ) (v : Value) (r : ℕ) → gives (way_of d) v ≡ Some r → (old new : Joint) → Steps d (passes_own at v) old new →
      HaveSamePlaces old.judge.traffic.connections old.judge.sessions.live → (h : IsAhead d first old) →
      GivesHighest d first h.bound r new
  passes_highest at v r given old new (read, octets, (put, begun, is)) places h =
      let f = h.followed in
      let mid : Joint = record old { put = new.put; begun = false; judge = units_pass d at (v ∷ []) old.judge } in
      let next = ap (λ (t : State). record (whole_of f) { put = new.put; begun = false; judge = t }) (unit_traffic d at v old.judge) in
      let g = then_happens d first old mid f f.end f.come (wholes.passes_own ∷ [])
      (seen mid f.end f.come, (v, (put, begun, next)), refl) f.coming f.like in
      let k = passes_given (way_of d) h.bound r v new.put (whole_of f) (whole_of g) given put refl refl h.above in
      let less = k.new_is in
      let ahead : IsAhead d first mid = record {
        followed = g;
        bound = r;
        above = k.above;
        below = unit_up d d r at v old.judge places (some_up d r r v given (omega (arith, less)) (omega arith))
            (up_higher d h.bound r old.judge.sessions (omega (arith, less)) h.below);
      } in
      subst (GivesHighest d first h.bound r) (sym is) (record { higher = less; ahead = ahead; bound = refl })

  passes_another : (at : ℕ) (v : Value) (old new : Joint) → Steps d (passes_own at v) old new →
      HaveSamePlaces old.judge.traffic.connections old.judge.sessions.live → (h : IsAhead d first old) → gives (way_of d) v ≡ None →
      PassesOn d first h.bound v new
  passes_another at v old new step places h none =
      let g = goes_on (passes_own at v) old new step h
      (subst (λ (j : Joint). AreUpTo d h.bound j.judge.sessions) (sym step.2.2)
      (unit_up d d h.bound at v old.judge places (none_up d h.bound v none) h.below)) in
      record { on = g; up = none_up d g.ahead.bound v none }

  pub passes_own_ahead : (at : ℕ) (v : Value) (old new : Joint) → Steps d (passes_own at v) old new →
      HaveSamePlaces old.judge.traffic.connections old.judge.sessions.live → (h : IsAhead d first old) → PassesOn d first h.bound v new
  passes_own_ahead at v old new step places h = by (gives (way_of d) v) refl
    where
      by : (o : Option ℕ) → gives (way_of d) v ≡ o → PassesOn d first h.bound v new
      by None none = passes_another at v old new step places h none
      by (Some r) given =
          let k = passes_highest at v r given old new step places h in
          let less = k.higher in
          let same = k.bound in
          record {
            on = record { ahead = k.ahead; rises = omega (arith, less, same) };
            up = some_up d k.ahead.bound r v given (omega (arith, less)) (omega (arith, same));
          }
