-- How the state of a connection changes at each end.
-- For connections of class 2, joined carriers, class 0 and the invariant.
use Rattle.osi_between.specs.Meeting.{Carries}
use Rattle.osi_between.proofs.Vocabulary.{◌≡◌, ℕ, ◌≤◌, Bool, true, false, List, [], ◌∷◌, ◌++◌, Option, Some, refl, sym, ap, subst, ◌∙◌}
use Rattle.osi_between.proofs.Vocabulary.{arith, nat_lt, flat_map, AllByRecursion, le-ltb, ltb-false, Value, AreOfClass, Given, Class, Two}
use Rattle.osi_between.proofs.Vocabulary.{Local, references, Place, never, was_given, place_at, Happening, value_at, Connection, State}
use Rattle.osi_between.proofs.Vocabulary.{AreFor, reference_of, asked_by, requests, met, told_opening, CourseCarries, Acts, CourseMoves}
use Rattle.osi_between.proofs.Vocabulary.{Meeting, talking, left_here, left_there, left_both, waiting_there, mirror, here, addressed}
use Rattle.osi_between.proofs.Vocabulary.{farewell, out, Stands, Changes, told_at, Moves, Message, ask, agree, deny, message, bye, over}
use Rattle.osi_between.proofs.Vocabulary.{Progress, not_yet, awaiting, in_use, shutting, gone, progress_in, may_arrive, asks_in}
use Rattle.osi_between.proofs.Vocabulary.{class_behind_all, put_named, drop_named, if◌then◌else◌, inl, HoldsAt, called_local, leaving}
use Rattle.osi_between.proofs.meeting.a_connection_after_each_unit_and_call.{mirror_twice, mirror_stands}
use Rattle.osi_between.proofs.between.an_acting_end_keeps_the_invariant.{Each}
use Rattle.osi_between.proofs.unit.the_units_of_one_connection.{all_join, all_rest}

-- ---- places

pub given_place : (n : ℕ) (s : State) → n ≤ s.given → place_at n s ≡ was_given (value_at n s.live)
given_place n s le = ap (λ (b : Bool). if◌then◌else◌ {A = Place} b never (was_given (value_at n s.live))) (le-ltb s.given n le)

pub record IsGiven (n given : ℕ) (v o : Option Connection) : Type 0 where
  pub within : n ≤ given
  pub is : v ≡ o

pub is_given : (n : ℕ) (s : State) (o : Option Connection) → place_at n s ≡ was_given o → IsGiven n s.given (value_at n s.live) o
is_given n s o h = grind (arith, ltb-false)

-- what changed at one reference
pub acts_changed : (n : ℕ) (s t : State) (after : Option Connection) (us : List Value) (es : List Happening) → Changes n s t after us es →
    AreFor n us → Acts n s t us es
acts_changed n s t after us es c all = grind (arith, nat_lt)

-- ---- the references that are live

-- for this connection, and no CR
abbrev pub IsPlain : ℕ → Value → Type 0
IsPlain n u = (reference_of u ≡ n) × (asked_by u ≡ [])

abbrev pub IsOneAtMost : List Value → Type 0
IsOneAtMost [] = Unit {0}
IsOneAtMost (u ∷ []) = Unit {0}
IsOneAtMost (u ∷ v ∷ us) = ⊥

-- the units of open links, and those that close a connection
plain_units : (n : ℕ) (gs : List Given) → AreOfClass true gs → AllByRecursion (IsPlain n) (addressed n gs)
plain_units n [] h = tt
plain_units n (x ∷ gs) h = grind (arith, plain_units n gs h.1)

plain_requests : (n : ℕ) (us : List Value) → AllByRecursion (IsPlain n) us → requests us ≡ []
plain_requests n [] h = refl
plain_requests n (u ∷ us) h = ap (λ (l : List ℕ). l ++ requests us) h.0.1 ∙ plain_requests n us h.1

pub plain_out : (n : ℕ) (m : Meeting) → Stands m → AllByRecursion (IsPlain n) (out n m)
plain_out n (talking p) h = plain_units n p.rightward h.agree.agree.class
plain_out n (left_here p us reason) h =
    all_join (IsPlain n) (addressed n p.rightward) (leaving n reason ∷ []) (plain_units n p.rightward h.0.agree.agree.class) (grind arith)
plain_out n (left_there p us reason) h = plain_units n us h.1
plain_out n (left_both us reason vs other) h =
    all_join (IsPlain n) (addressed n us) (leaving n reason ∷ []) (plain_units n us h.0) (grind arith)
plain_out n (waiting_there us last) h =
    all_join (IsPlain n) (addressed n us) (farewell n last ∷ []) (plain_units n us h) (grind arith)
plain_out n m h = tt

-- ---- both have had it open

told_met : (n : ℕ) (m : Meeting) (ms : List Message) →
    flat_map (told_at n (here n m)) ms ≡ flat_map (told_opening n (was_given (here n m))) ms
told_met n m ms = grind arith

-- the meeting, seen from an end
abbrev pub seen_from : Bool → Meeting → Meeting
seen_from true m = m
seen_from false m = mirror m

seen_twice : (end : Bool) (m : Meeting) → seen_from end (seen_from end m) ≡ m
seen_twice end m = grind (arith, mirror_twice)

abbrev carries_met : (end : Bool) → Each → (n : ℕ) (called : Local) (m new : Meeting) (es : List Happening) (put : List Message) →
    Carries n (seen_from end m) new es put → CourseCarries end n called (met m) (met (seen_from end new)) es put
carries_met true (inl none) n called m new es put c = absurd none
carries_met end each n called m new es put c = record {
  arrived = c.arrived;
  stays = c.stays;
  lost = c.lost;
  told = c.told ∙ told_met n (seen_from end m) c.arrived;
  came = rw (seen_twice end new) (rw (seen_twice end m) at c.leftward);
  before = rw (seen_twice end m) at c.before;
  after = rw (seen_twice end new) c.after;
}

-- to one that both have had open neither a CR nor a CC comes
abbrev pub is_met : Progress → Bool
is_met not_yet = false
is_met awaiting = false
is_met in_use = true
is_met shutting = true
is_met gone = true

abbrev is_opening : Message → Bool
is_opening ask = true
is_opening agree = true
is_opening (deny reason) = false
is_opening (message octets) = false
is_opening (bye reason) = false
is_opening over = false

-- it asks for nothing and settles no class
pub record IsIdle (ms : List Message) : Type 0 where
  pub asks : asks_in ms ≡ 0
  pub class : (settled held : Option Class) → class_behind_all settled held ms ≡ held

idle_first : (m : Message) (ms : List Message) → is_opening m ≡ false → IsIdle ms → IsIdle (m ∷ ms)
idle_first m ms e h = grind arith

pub idle_all : (p : Progress) (ms : List Message) → is_met p ≡ true → AllByRecursion (λ m. may_arrive p m ≡ true) ms → IsIdle ms
idle_all p [] e h = record { asks = refl; class = λ settled held. refl }
idle_all p (m ∷ ms) e h = idle_first m ms (grind arith) (idle_all p ms e h.1)

pub met_stands : (end : Bool) (n : ℕ) (this other : State) (m : Meeting) → HoldsAt end n this other (met m) →
    (this.class ≡ Some Two) × Stands (seen_from end m)
met_stands end n this other m h = grind (arith, mirror_stands)

-- what an end does for it, seen from there, is what it does for the connection of the two
pub met_moves : (end : Bool) → Each → (n : ℕ) (m : Meeting) (this other next : State) (taken : List Value) (put : List Message) →
    HoldsAt end n this other (met m) → n ≤ this.given → IsOneAtMost taken → asks_in put ≡ 0 →
    Moves n (seen_from end m) this next taken put → CourseMoves end n (met m) this other next taken 0 put
met_moves true (inl none) n m this other next taken put h le one asks mv = absurd none
met_moves end each n m this other next taken put h le one asks mv =
    let old = seen_from end m in
    let units_are = all_rest (IsPlain n) (out n old) mv.units
    (subst (λ (l : List Value). AllByRecursion (IsPlain n) l) mv.out (plain_out n mv.new mv.stands)) in
    let back_is = plain_out n (mirror old) (mirror_stands old (met_stands end n this other m h).1) in
    let taken_are : AllByRecursion (IsPlain n) taken = grind arith in
    let idle = idle_all (progress_in (here n old)) mv.carries.arrived (grind arith) mv.brings.may in
    record {
      new = met (seen_from end mv.new);
      units = mv.units;
      events = mv.events;
      acts = acts_changed n this next (here n mv.new) mv.units mv.events mv.changes mv.all_for;
      sendable = mv.sendable;
      place = grind (arith, given_place);
      there = grind (arith, mirror_twice);
      out = grind (arith, mirror_twice);
      back = grind (arith, mirror_twice);
      holds = grind (arith, mirror_stands);
      given = omega (arith, mv.changes.given);
      numbers = grind (arith, plain_requests);
      places = grind (arith, put_named, drop_named, ap references mv.changes.live);
      carries = carries_met end each n (called_local end this other) m mv.new mv.events put mv.carries;
      brings = rw (seen_twice end mv.new) mv.brings;
      keeps = rw (seen_twice end mv.new) mv.keeps;
      gives = omega (arith, idle.asks, asks);
      settles = mv.changes.class ∙ sym (idle.class (Some Two) this.class);
    }
