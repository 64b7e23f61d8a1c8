-- Each CR that a whole calling end has put, and each CC that a called one has put, and that has not passed gives a reference above those
-- of all that have passed. So the one that passes gives a new one. For the law on requests, and for all connections of an end and a judge.
use Rattle.osi_blameless.proofs.transport.Vocabulary.{[], ap, append-nil, arith, Bool, false, flat_map, flat_map-append, if◌then◌else◌}
use Rattle.osi_blameless.proofs.transport.Vocabulary.{is_some, List, None, Option, refl, Some, subst, sym, true, ℕ, ◌++◌, ◌+◌, ◌<◌, ◌∙◌}
use Rattle.osi_blameless.proofs.transport.Vocabulary.{◌∷◌, ◌≡◌, ◌≤◌, AllByRecursion, confirm, Connect, disconnect, error, request, Value}
use Rattle.osi_blameless.proofs.transport.Vocabulary.{accept, refuse, selected_by, Selection, Class, Two, Zero, before_class, denies}
use Rattle.osi_blameless.proofs.transport.Vocabulary.{in_class, in_two, react_by, to_connection, to_only, Rows, Live, State, connects}
use Rattle.osi_blameless.proofs.transport.Vocabulary.{user_does, UserCall, outcome, put_by, put_for, react, state_is, Event, HappenAlong}
use Rattle.osi_blameless.proofs.transport.Vocabulary.{Happens, Whole, asked_in, Direction, Left, Right}
use Rattle.osi_carrier.specs.React.{answers}
use Rattle.osi_carrier.specs.State.{Outcome}
use Rattle.osi_blameless.specs.transport.Wholes as wholes
use Rattle.std.proofs.Common.{option_to_list}
use Rattle.osi_blameless.proofs.transport.requests.what_a_carrier_puts.{alone, connected}
use Rattle.osi_blameless.proofs.transport.requests.a_cc_is_put_only_for_a_cr.{IsNoCc, closing_no_cc, confirms_no_cc, given_no_cc}
use Rattle.osi_blameless.proofs.transport.requests.a_cc_is_put_only_for_a_cr.{none_by_call}
use Rattle.osi_blameless.proofs.transport.what_each_thing_keeps_all_of_them_keep.{along_keeps}
use Rattle.osi_blameless.proofs.transport.requests.references_of_requests_rise.{Rise, all_gives, closed_gives, ended_gives, not_less}
use Rattle.osi_blameless.proofs.transport.requests.references_of_requests_rise.{rise_from, sent_gives, unit_gives}
use Rattle.osi_blameless.proofs.transport.requests.which_requests_are_put.{asked_among, call_asks, unit_asks}

-- ---- which references units give

-- a CR of left gives this one, and a CC of right
abbrev pub gives : Direction → Value → Option ℕ
gives Left (request x) = Some x.source
gives Right (confirm n x) = Some x.source
gives d v = None

abbrev given_in : Direction → Value → List ℕ
given_in d v = option_to_list (gives d v)

abbrev pub given_among : Direction → List Value → List ℕ
given_among d units = flat_map (given_in d) units

asked_one : (v : Value) → given_in Left v ≡ asked_in v
asked_one (request x) = refl
asked_one v = refl

asked_same : (units : List Value) → given_among Left units ≡ asked_among units
asked_same [] = refl
asked_same (v ∷ units) = λ i. asked_one v i ++ asked_same units i

no_cc : (v : Value) → IsNoCc v → given_in Right v ≡ []
no_cc (confirm n x) h = absurd (h n x refl)
no_cc v h = refl

no_ccs : (units : List Value) → AllByRecursion IsNoCc units → given_among Right units ≡ []
no_ccs [] all = refl
no_ccs (v ∷ units) all = λ i. no_cc v all.0 i ++ no_ccs units all.1 i

-- ---- what a carrier gives as it takes a unit: a called end gives no reference, or the next one

for_connection : (r : ℕ) (o : Option Live) (unit : Value) (s : State) → AllByRecursion IsNoCc (to_connection r o unit s).put
for_connection r o unit s = connected IsNoCc given_no_cc closing_no_cc s r o unit (confirms_no_cc unit)

data Puts (s : State) (x : Outcome) : Type 0 where
  puts_none : AllByRecursion IsNoCc x.put → Puts s x
  puts_one : given_among Right x.put ≡ (s.given + 1) ∷ [] → x.state.given ≡ s.given + 1 → Puts s x

by_selection : (c : Connect) (selection : Selection) (held : Option Class) (s : State) → Puts s (answers c selection held s)
by_selection c (refuse reason) held s = grind arith
by_selection c (accept Two size) held s = puts_one refl refl
by_selection c (accept Zero size) None s = puts_one refl refl
by_selection c (accept Zero size) (Some class) s = grind arith

by_room : (c : Connect) (in_use full : Bool) (s : State) →
    Puts s (if in_use then denies 131 c.source s else (if full then denies 1 c.source s else answers c (selected_by c s.local) s.class s))
by_room c true full s = grind arith
by_room c false true s = grind arith
by_room c false false s = by_selection c (selected_by c s.local) s.class s

before : (is_caller : Bool) (unit : Value) (s : State) → Puts s (before_class is_caller unit s)
before true (confirm destination c) s = grind (arith, for_connection)
before true (disconnect destination source reason user) s = grind (arith, for_connection)
before true (error destination cause) s = grind (arith, for_connection)
before true _ s = puts_none tt
before false (request c) s = search (arith, by_room)
before false _ s = puts_none tt

only : (live : Rows Live) (unit : Value) (s : State) → AllByRecursion IsNoCc (to_only live unit s).put
only live unit s = alone IsNoCc given_no_cc closing_no_cc s live unit (confirms_no_cc unit)

two_by : (is_caller : Bool) (unit : Value) (s : State) → Puts s (in_two is_caller unit s)
two_by true (request c) s = puts_none tt
two_by false (request c) s = search (arith, by_room)
two_by b (confirm destination c) s = puts_none (grind (arith, for_connection))
two_by b v s = puts_none (grind (arith, for_connection))

by_class : (held : Option Class) (unit : Value) (s : State) → Puts s (in_class held unit s)
by_class None unit s = before s.is_caller unit s
by_class (Some Zero) unit s = puts_none (grind (arith, only))
by_class (Some Two) unit s = two_by s.is_caller unit s

by_end : (over : Bool) (unit : Value) (s : State) → Puts s (react_by over unit s)
by_end true unit s = puts_none tt
by_end false unit s = by_class s.class unit s

-- ---- what either end gives

-- none, or the next one
data Gives (d : Direction) (s t : State) (units : List Value) : Type 0 where
  gives_none : given_among d units ≡ [] → s.given ≤ t.given → Gives d s t units
  gives_next : given_among d units ≡ (s.given + 1) ∷ [] → t.given ≡ s.given + 1 → Gives d s t units

call_gives : (call : UserCall) (s : State) → s.given ≤ (user_does call s).given
call_gives call s = grind (arith, not_less, sent_gives, all_gives, closed_gives, ended_gives)

by_call : (d : Direction) (call : UserCall) (s : State) → Gives d s (user_does call s) (put_by call s)
by_call Left (connects calling called) s =
    gives_next (asked_same (put_by (connects calling called) s) ∙ call_asks (connects calling called) s) refl
by_call Left call s = gives_none (asked_same (put_by call s) ∙ call_asks call s) (call_gives call s)
by_call Right call s = gives_none (no_ccs (put_by call s) (none_by_call call s)) (call_gives call s)

by_unit : (d : Direction) (unit : Value) (s : State) → Gives d s (react unit s) (put_for unit s)
by_unit Left unit s = gives_none (asked_same (put_for unit s) ∙ unit_asks unit s) (unit_gives unit s)
by_unit Right unit s = by (by_end (is_some s.ended) unit s)
  where
    by : Puts s (outcome unit s) → Gives Right s (react unit s) (put_for unit s)
    by (puts_none none) = gives_none (no_ccs (put_for unit s) none) (unit_gives unit s)
    by (puts_one is given) = gives_next is (ap (λ (t : State). t.given) (state_is unit s) ∙ given)

-- ---- references that rise

abbrev UpTo : ℕ → List ℕ → Type 0
UpTo n rs = AllByRecursion (λ (r : ℕ). r ≤ n) rs

up_more : (n m : ℕ) (rs : List ℕ) → n ≤ m → UpTo n rs → UpTo m rs
up_more n m [] h u = tt
up_more n m (r ∷ rs) h (one, more) = (omega arith, up_more n m rs h more)

up_next : (n m : ℕ) (rs : List ℕ) → m ≡ n + 1 → UpTo n rs → UpTo m (rs ++ (n + 1) ∷ [])
up_next n m [] h u = (omega (arith, h), tt)
up_next n m (r ∷ rs) h (one, more) = (omega (arith, h, one), up_next n m rs h more)

rise_next : (k n : ℕ) (rs : List ℕ) → Rise k rs → UpTo n rs → k ≤ n → Rise k (rs ++ (n + 1) ∷ [])
rise_next k n [] a b h = (omega arith, tt)
rise_next k n (r ∷ rs) (above, rise) (one, more) h = (above, rise_next r n rs rise more one)

-- ---- a whole end

-- The references of the units that have not passed are above this one, and rise.
pub record AreAbove (d : Direction) (b : ℕ) (w : Whole) : Type 0 where
  pub rise : Rise b (given_among d w.put)
  pub up : UpTo w.end.given (given_among d w.put)
  pub given : b ≤ w.end.given

-- the reference of one that passes is above, and below those of the others
pub record Passes (d : Direction) (b r : ℕ) (new : Whole) : Type 0 where
  pub new_is : b < r
  pub above : AreAbove d r new

module _ (d : Direction) (b : ℕ) where
  grows : (w : Whole) (end : State) (more coming : List Value) → Gives d w.end end more → AreAbove d b w →
      AreAbove d b (record w { end = end; put = w.put ++ more; coming = coming })
  grows w end more coming (gives_none none up) a =
      let same : given_among d (w.put ++ more) ≡ given_among d w.put =
      flat_map-append (given_in d) w.put more ∙ ap (λ (l : List ℕ). given_among d w.put ++ l) none ∙ append-nil (given_among d w.put) in
      record {
        rise = subst (Rise b) (sym same) a.rise;
        up = subst (UpTo end.given) (sym same) (up_more w.end.given end.given (given_among d w.put) up a.up);
        given = let low = a.given in omega (arith, low, up);
      }
  grows w end more coming (gives_next next is) a =
      let same : given_among d (w.put ++ more) ≡ given_among d w.put ++ (w.end.given + 1) ∷ [] =
      flat_map-append (given_in d) w.put more ∙ ap (λ (l : List ℕ). given_among d w.put ++ l) next in
      record {
        rise = subst (Rise b) (sym same) (rise_next b w.end.given (given_among d w.put) a.rise a.up a.given);
        up = subst (UpTo end.given) (sym same) (up_next w.end.given end.given (given_among d w.put) is a.up);
        given = let low = a.given in omega (arith, low, is);
      }

  -- a unit passes that gives none, or one
  pub passes_another : (v : Value) (put : List Value) (w new : Whole) → gives d v ≡ None → w.put ≡ v ∷ put → new.put ≡ put →
      new.end ≡ w.end → AreAbove d b w → AreAbove d b new
  passes_another v put w new none e p same a =
      let all : given_among d w.put ≡ given_among d new.put =
      ap (given_among d) e ∙ ap (λ (o : Option ℕ). option_to_list o ++ given_among d put) none ∙ ap (given_among d) (sym p) in
      record {
        rise = subst (Rise b) all a.rise;
        up = subst (λ (x : State). UpTo x.given (given_among d new.put)) (sym same) (subst (UpTo w.end.given) all a.up);
        given = subst (λ (x : State). b ≤ x.given) (sym same) a.given;
      }

  pub passes_given : (r : ℕ) (v : Value) (put : List Value) (w new : Whole) → gives d v ≡ Some r → w.put ≡ v ∷ put → new.put ≡ put →
      new.end ≡ w.end → AreAbove d b w → Passes d b r new
  passes_given r v put w new some e p same a =
      let all : given_among d w.put ≡ r ∷ given_among d new.put =
      ap (given_among d) e ∙ ap (λ (o : Option ℕ). option_to_list o ++ given_among d put) some
      ∙ ap (λ (l : List Value). r ∷ given_among d l) (sym p) in
      let (less, rise) = subst (Rise b) all a.rise in
      let (one, more) = subst (UpTo w.end.given) all a.up in
      record {
        new_is = less;
        above = record {
          rise = rise;
          up = subst (λ (x : State). UpTo x.given (given_among d new.put)) (sym same) more;
          given = subst (λ (x : State). r ≤ x.given) (sym same) one;
        };
      }

  lower : (r : ℕ) (w : Whole) → b < r → AreAbove d r w → AreAbove d b w
  lower r w less a = record {
    rise = rise_from b r (given_among d w.put) (omega (arith, less)) a.rise;
    up = a.up;
    given = let low = a.given in omega (arith, low, less);
  }

  passes : (o : Option ℕ) (v : Value) (old new : Whole) → gives d v ≡ o → old.put ≡ v ∷ new.put → new.end ≡ old.end → AreAbove d b old →
      AreAbove d b new
  passes None v old new none put same a = passes_another v new.put old new none put refl same a
  passes (Some r) v old new some put same a =
      let k = passes_given r v new.put old new some put refl same a in lower r new k.new_is k.above

  pub above_happens : (event : Event) (old new : Whole) → Happens d event old new → AreAbove d b old → AreAbove d b new
  above_happens wholes.arrives old new (unit, coming, is) a =
      subst (AreAbove d b) (sym is) (grows old (react unit old.end) (put_for unit old.end) new.coming (by_unit d unit old.end) a)
  above_happens (wholes.calls call) old new (may, is) a =
      subst (AreAbove d b) (sym is) (grows old (user_does call old.end) (put_by call old.end) old.coming (by_call d call old.end) a)
  above_happens wholes.begins_own old new (some, none, is) a = grind arith
  above_happens wholes.passes_own old new (v, (put, begun, is)) a =
      passes (gives d v) v old new refl put (ap (λ (w : Whole). w.end) is) a
  above_happens wholes.begins_other old new is a = grind arith
  above_happens (wholes.passes_other v) old new (ranges, is) a = grind arith
  above_happens wholes.passes_rubbish old new is a = grind arith

  pub above_along : (events : List Event) (old new : Whole) → HappenAlong d old events new → AreAbove d b old → AreAbove d b new
  above_along = along_keeps (Happens d) (AreAbove d b) above_happens
