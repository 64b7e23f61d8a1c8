-- What is reported at one end of two carriers is a prefix of what was handed in at the other.
-- For the invariant.
use Rattle.osi_between.specs.Between.{under_way}
use Rattle.osi_between.proofs.Vocabulary.{◌≡◌, ◌≢◌, ℕ, ◌==◌, ◌||◌, Bool, true, false, not, List, [], ◌∷◌, ◌++◌, Some, None, is_some, refl}
use Rattle.osi_between.proofs.Vocabulary.{sym, ap, subst, ◌∙◌, append_assoc, nat_lt, if◌then◌else◌, arith, flat_map, AllByRecursion, eq-eqb}
use Rattle.osi_between.proofs.Vocabulary.{eqb-true, append-nil, Value, Standing, Place, place_at, connection_in, Happening, value_at}
use Rattle.osi_between.proofs.Vocabulary.{linked, State, AreFor, units_of, Both, side, Between, last_of, units_from, told_of, answers_in}
use Rattle.osi_between.proofs.Vocabulary.{put_in, is_cut, to_come, Carries, tsdus_told, tsdus_in, AreFirstOf, progress_of, Message, message}
use Rattle.osi_between.proofs.Vocabulary.{begun_at, AreLike, Progress, not_yet, awaiting, in_use, shutting, gone, may_arrive}
use Rattle.osi_between.proofs.Vocabulary.{behind_arrival, behind_arrivals, behind_put, behind_puts, Terms, by_two, by_zero, refusing, inl}
use Rattle.osi_between.proofs.Vocabulary.{inr, ◌⊎◌}
use Rattle.osi_between.proofs.unit.the_units_of_one_connection.{units_join, units_same}
use Rattle.osi_between.proofs.unit.units_are_read_as_messages.{messages_front}

-- ---- lists

pub first_none : (ys : List (List ℕ)) → AreFirstOf [] ys
first_none ys = record { more = ys; is = refl }

pub first_more : (xs ys zs : List (List ℕ)) → AreFirstOf xs ys → AreFirstOf xs (ys ++ zs)
first_more xs ys zs h = record { more = h.more ++ zs; is = ap (λ (l : List (List ℕ)). l ++ zs) h.is ∙ append_assoc xs h.more zs }

tsdus_join : (ms ns : List Message) → tsdus_in (ms ++ ns) ≡ tsdus_in ms ++ tsdus_in ns
tsdus_join [] ns = refl
tsdus_join (x ∷ ms) ns = grind (arith, tsdus_join ms ns)

-- ---- a connection that takes nothing more

abbrev pub is_over : Progress → Bool
is_over not_yet = false
is_over awaiting = false
is_over in_use = false
is_over shutting = true
is_over gone = true

stays_over : (accepts : Bool) (p : Progress) (ms : List Message) → is_over p ≡ true → is_over (behind_arrivals accepts p ms) ≡ true
stays_over accepts p [] e = e
stays_over accepts p (m ∷ ms) e = stays_over accepts (behind_arrival accepts p m) ms (grind arith)

stays_over_puts : (p : Progress) (ms : List Message) → is_over p ≡ true → is_over (behind_puts p ms) ≡ true
stays_over_puts p [] e = e
stays_over_puts p (m ∷ ms) e = stays_over_puts (behind_put p m) ms (grind arith)

-- ---- what is reported

told_join : (n : ℕ) (es fs : List Happening) → tsdus_told n (es ++ fs) ≡ tsdus_told n es ++ tsdus_told n fs
told_join n [] fs = refl
told_join n (x ∷ es) fs = grind (arith, told_join n es fs)

record OneTold (n q : ℕ) (p : Place) (es : List Happening) : Type 0 where
  shut : is_over (progress_of p) ≡ true → tsdus_told n es ≡ []
  other : q ≢ n → tsdus_told n es ≡ []

told_all : (terms : Terms) (n q : ℕ) (p : Place) (ms : List Message) → OneTold n q p (flat_map (told_of terms q p) ms)
told_all terms n q p [] = record { shut = λ h. refl; other = λ h. refl }
told_all terms n q p (m ∷ ms) = grind (arith, told_join, told_all terms n q p ms)

-- ---- each TSDU that arrives is reported, unless the connection takes nothing more

-- if CRs are refused, no connection is open
abbrev pub MayBeOpen : Terms → Place → Type 0
MayBeOpen by_two p = Unit {0}
MayBeOpen by_zero p = Unit {0}
MayBeOpen (refusing reason) p = progress_of p ≡ in_use → ⊥

tells_one : (terms : Terms) (n : ℕ) (p : Place) (m : Message) → MayBeOpen terms p → is_over (progress_of p) ≡ false →
    may_arrive (progress_of p) m ≡ true → tsdus_told n (told_of terms n p m) ≡ tsdus_in (m ∷ [])
tells_one terms n p m closed_off e h = search arith

tells_all : (terms : Terms) (n : ℕ) (p : Place) (ms : List Message) → MayBeOpen terms p → is_over (progress_of p) ≡ false →
    AllByRecursion (λ m. may_arrive (progress_of p) m ≡ true) ms → tsdus_told n (flat_map (told_of terms n p) ms) ≡ tsdus_in ms
tells_all terms n p [] closed_off e h = refl
tells_all terms n p (m ∷ ms) closed_off e h = grind (arith, told_join, tells_one, tsdus_join, tells_all terms n p ms closed_off e h.1)

pub answers_none : (terms : Terms) (p : Place) (u : Value) → tsdus_in (answers_in terms p u) ≡ []
answers_none terms p u = grind arith

-- ---- one step, for a connection and from one end to the other

-- an end takes nothing more for the connection
abbrev pub is_done : Bool → ℕ → Between → Bool
is_done end n b = is_over (progress_of (place_at n (last_of end b)))

-- nothing that is put arrives any more
abbrev pub is_sealed : Bool → ℕ → Both → Between → Bool
is_sealed from n both b = is_cut from both || is_done from n b

-- the TSDUs that are in flight
abbrev pub tsdus_under : Bool → ℕ → Both → Between → List (List ℕ)
tsdus_under from n both b = tsdus_in (under_way from n both b)

-- A step from one end to the other (`x`), in which these TSDUs were reported and those put. Afterwards, what was
-- reported, followed by what is in flight, is what was in flight, followed by what was put; or, if nothing that is put
-- arrives any more, a prefix of what was in flight.
pub record Fact (from x : Bool) (n : ℕ) (old new : Both) (b c : Between) (told put : List (List ℕ)) : Type 0 where
  pub shut : is_done x n b ≡ true → (told ≡ []) × (is_done x n c ≡ true)
  pub last : is_done x n b ≡ false → AreFirstOf told (tsdus_under from n old b)
  pub whole : is_done x n b ≡ false → is_done x n c ≡ false → is_sealed from n new c ≡ false →
      (is_sealed from n old b ≡ false) × (told ++ tsdus_under from n new c ≡ tsdus_under from n old b ++ put)
  pub sealed : is_done x n b ≡ false → is_done x n c ≡ false → is_sealed from n new c ≡ true →
      AreFirstOf (told ++ tsdus_under from n new c) (tsdus_under from n old b)

pub sealed_same : (from : Bool) (n : ℕ) (old new : Both) (b c : Between) → is_cut from old ≡ is_cut from new →
    place_at n (last_of from c) ≡ place_at n (last_of from b) → is_sealed from n old b ≡ is_sealed from n new c
sealed_same from n old new b c cut place = grind arith

-- if nothing arrives and nothing is put
pub fact_lost : (from x : Bool) (n : ℕ) (old new : Both) (b c : Between) (lost : List Message) →
    under_way from n old b ≡ under_way from n new c ++ lost → place_at n (last_of x c) ≡ place_at n (last_of x b) →
    (is_sealed from n new c ≡ false → under_way from n old b ≡ under_way from n new c) →
    (is_sealed from n old b ≡ true → is_sealed from n new c ≡ true) → Fact from x n old new b c [] []
fact_lost from x n old new b c lost all place kept still = grind (arith, tsdus_join, first_none, first_more, append-nil)

-- if nothing happens
pub fact_still : (from x : Bool) (n : ℕ) (old new : Both) (b c : Between) → under_way from n old b ≡ under_way from n new c →
    place_at n (last_of x c) ≡ place_at n (last_of x b) → is_sealed from n old b ≡ is_sealed from n new c → Fact from x n old new b c [] []
fact_still from x n old new b c same place sealed = grind (arith, fact_lost, append-nil)

like_equal : (p : Place) (some others : List Message) → is_over (progress_of p) ≡ false → AreLike (connection_in p) some others →
    some ≡ others
like_equal p some others e h = grind arith

put_none : (both : Both) (put : List Message) (broken : Bool) → is_some both.reach ≡ broken → tsdus_in put ≡ [] →
    tsdus_in (put_in both put) ≡ []
put_none both put broken e k = grind arith

-- an acting end lasts, before and after
pub record Acts (end : Bool) (old new : Both) : Type 0 where
  pub was : is_cut end old ≡ is_some old.reach
  pub is : is_cut end new ≡ is_some old.reach
  pub there : is_cut (not end) old ≡ is_cut (not end) new

-- the connection is open at the end, and stays so
pub record StaysOpen (end : Bool) (n : ℕ) (b c : Between) : Type 0 where
  pub was : is_done end n b ≡ false
  pub is : is_done end n c ≡ false

-- what is put has no TSDU, or the connection stays open
abbrev pub MayPut : Bool → ℕ → Between → Between → List Message → Type 0
MayPut end n b c put = (tsdus_in put ≡ []) ⊎ StaysOpen end n b c

not_same : (q n : ℕ) → (q == n) ≡ false → q ≢ n
not_same q n e same = let yes = eq-eqb q n same in let no : true ≡ false = sym yes ∙ e in cc

module _ (terms : Terms) (end : Bool) (q : ℕ) (old new : Both) (b c : Between) (taken : List Value) (put : List Message)
    (k : Carries terms end q old new b c taken put) (w : Acts end old new) where
  -- from the end that acts: of that connection, and of another
  sent_here : MayPut end q b c put → Fact end (not end) q old new b c [] (tsdus_in put)
  sent_here (inl none) = grind (arith, like_equal, tsdus_join, put_none, append-nil, stays_over_puts, stays_over)
  sent_here (inr o) = grind (arith, tsdus_join, like_equal, append-nil)

  sent_other : (n : ℕ) → n ≢ q → Fact end (not end) n old new b c [] []
  sent_other n apart = grind (arith, fact_still, not, sealed_same)

  sent_by : (n : ℕ) (t : Bool) → (q == n) ≡ t → MayPut end q b c put → Fact end (not end) n old new b c [] (if t then tsdus_in put else [])
  sent_by n true e may = subst (λ (m : ℕ). Fact end (not end) m old new b c [] (tsdus_in put)) (eqb-true q n e) (sent_here may)
  sent_by n false e may = sent_other n (λ same. not_same q n e (sym same))

  pub fact_put : (n : ℕ) → MayPut end q b c put → Fact end (not end) n old new b c [] (if q == n then tsdus_in put else [])
  fact_put n may = sent_by n (q == n) refl may

  -- to the end that acts
  arrived_first : AreFor q taken → (more : List Message) × (under_way (not end) q old b ≡ k.arrived ++ more)
  arrived_first all =
      let o = connection_in (place_at q (last_of end b)) in
      let tail = to_come (is_cut (not end) old) (connection_in (place_at q (last_of (not end) b))) in
      let rest = units_of q (units_from (not end) c) ++ tail in
      grind (arith, units_join, units_same, append_assoc, messages_front taken (begun_at o) rest)

  -- this was reported
  abbrev pub IsTold : ℕ → List (List ℕ) → Type 0
  IsTold n told = told ≡ tsdus_told n (flat_map (told_of terms q (place_at q (last_of end b))) k.arrived)

  taken_here : (told : List (List ℕ)) → AreFor q taken → MayBeOpen terms (place_at q (last_of end b)) → IsTold q told →
      Fact (not end) end q old new b c told []
  taken_here told all may is =
      let p = place_at q (last_of end b) in
      let t = told_all terms q q p k.arrived in
      let each : is_done end q b ≡ false → told ≡ tsdus_in k.arrived = λ d. is ∙ tells_all terms q p k.arrived may d k.brings.may in
      let same : is_done end q b ≡ false → is_done end q c ≡ false →
      told ++ tsdus_under (not end) q new c ≡ tsdus_under (not end) q old b = grind (arith, tsdus_join, like_equal) in
      let sealed = sealed_same (not end) q old new b c w.there (ap (λ (s : State). place_at q s) k.there) in
      record {
        shut = grind (arith, stays_over_puts, stays_over);
        last = grind (arith, tsdus_join, arrived_first all);
        whole = λ d e s. (sealed ∙ s, same d e ∙ sym (append-nil (tsdus_under (not end) q old b)));
        sealed = grind (arith, append-nil);
      }

  taken_by : (n : ℕ) (told : List (List ℕ)) (t : Bool) → (q == n) ≡ t → AreFor q taken → MayBeOpen terms (place_at q (last_of end b)) →
      IsTold n told → Fact (not end) end n old new b c told []
  taken_by n told true e all may is =
      subst (λ (m : ℕ). IsTold m told → Fact (not end) end m old new b c told []) (eqb-true q n e) (taken_here told all may) is
  taken_by n told false e all may is =
      grind (arith, fact_still, not_same q n e, told_all terms n q (place_at q (last_of end b)) k.arrived)

  pub fact_taken : (n : ℕ) (told : List (List ℕ)) → AreFor q taken → MayBeOpen terms (place_at q (last_of end b)) → IsTold n told →
      Fact (not end) end n old new b c told []
  fact_taken n told all may is = taken_by n told (q == n) refl all may is

-- ---- the end that acts

-- an end that lasts, before and after
pub acts_at : (end : Bool) (old new : Both) → (side end old).state.ended ≡ None → (side end new).state.ended ≡ None →
    new.reach ≡ old.reach → (side (not end) new).state.ended ≡ (side (not end) old).state.ended → Acts end old new
acts_at end old new was is reach there = grind (arith, is_some)

pub stays_open : (terms : Terms) (end : Bool) (q : ℕ) (old new : Both) (b c : Between) (octets : List ℕ) (peer : ℕ) (link : Standing) →
    Carries terms end q old new b c [] (message octets ∷ []) → value_at q (last_of end b).live ≡ Some (linked peer link) →
    StaysOpen end q b c
stays_open terms end q old new b c octets peer link k at = grind (arith, nat_lt)
