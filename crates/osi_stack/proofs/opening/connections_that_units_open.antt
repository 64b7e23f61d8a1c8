-- The connections that units open: those that were requested, and new ones at a called end. A connection stays requested
-- until its user is told that it is accepted or refused.
use Rattle.osi_stack.proofs.Vocabulary.{eqb-true, eq-eqb, or_left, append-nil, AllByRecursion, Value, request, confirm, disconnect, error}
use Rattle.osi_stack.proofs.Vocabulary.{Standing, Class, Zero, Two, Happening, closed, faulted, RiseFrom, told_of, IsOrderly}
use Rattle.osi_stack.proofs.Vocabulary.{answers_request, to_asked, taking, leaves, to_closing, to_connection, to_only, reacts, Rows}
use Rattle.osi_stack.proofs.Vocabulary.{value_at, without, Connection, asked, closing, State, EndReason, without_here, beyond, push_here}
use Rattle.osi_stack.proofs.Vocabulary.{put_other, without_other, push_other, stays_gone, orderly_unit, react_over, told_opened as opened}
use Rattle.osi_stack.proofs.Vocabulary.{carrier_ends as ends, nat_tests, ◌≡◌, ◌≢◌, ℕ, ◌+◌, ◌<◌, ◌≤◌, true, false, List, [], ◌∷◌, ◌++◌}
use Rattle.osi_stack.proofs.Vocabulary.{Option, Some, None, Result, Ok, Err, is_some, IsSome, refl, sym, ap, subst, ◌∙◌, inl, inr, ◌⊎◌}
use Rattle.osi_stack.proofs.Vocabulary.{arith, append_assoc, Selection, accept, refuse, LinkFault}
use Rattle.osi_tpdu.specs.Value.{Connect}
use Rattle.osi_carrier.specs.React.{answers, opens, react}
use Rattle.osi_stack.proofs.opening.which_requests_are_answered.{answered, answered_front, answered_behind}
use Rattle.osi_stack.proofs.sound.the_invariant_is_kept.{units_rise}
use Rattle.osi_stack.proofs.carried.packets_without_events.{both}
use Rattle.osi_stack.proofs.carried.what_sessions_leave_of_the_carrier.{AwaitedBefore, awaited_put}

-- ---- connections that await a CC

awaited_without : (r : ℕ) (rows : Rows Connection) → RiseFrom 0 rows → AwaitedBefore rows (without r rows)
awaited_without r rows rise = λ q h. grind (arith, eq-eqb, without_other, asked, without_here, value_at, without, eqb-true)

awaited_push : (n : ℕ) (c : Connection) (rows : Rows Connection) → (c ≡ asked → ⊥) → value_at n rows ≡ None →
    AwaitedBefore rows (rows ++ (n, c) ∷ [])
awaited_push n c rows other none = λ q h. grind (arith, eqb-true, push_here, eq-eqb, push_other)

-- ---- what is opened

-- one that was requested
record Agreed (old new : State) (told : List Happening) : Type 0 where
  reference : ℕ
  event : told ≡ opened reference ∷ []
  here : value_at reference old.live ≡ Some asked
  given : new.given ≡ old.given

-- a new one
record Accepted (old new : State) (told : List Happening) : Type 0 where
  event : told ≡ opened (old.given + 1) ∷ []
  given : new.given ≡ old.given + 1
  called : old.is_caller ≡ false

-- none is opened, and this is of a connection that is there
abbrev IsAbout : State → Happening → Type 0
IsAbout s (opened r) = ⊥
IsAbout s event = IsSome (value_at (told_of event) s.live)

record Unopened (old new : State) (told : List Happening) : Type 0 where
  about : AllByRecursion (IsAbout old) told
  given : new.given ≡ old.given

-- how a unit opens a connection, if it does
abbrev How : State → State → List Happening → Type 0
How old new told = Unopened old new told ⊎ (Agreed old new told ⊎ Accepted old new told)

-- one that was requested is so still, or that is answered, while the carrier lasts
abbrev pub StaysAsked : State → State → List Happening → Type 0
StaysAsked old new told = (q : ℕ) → value_at q old.live ≡ Some asked → new.ended ≡ None →
    (value_at q new.live ≡ Some asked) ⊎ (answered q told ≡ true)

record Opens (old new : State) : Type 0 where
  told : List Happening
  events : new.events ≡ old.events ++ told
  how : How old new told
  side : new.is_caller ≡ old.is_caller
  awaited : AwaitedBefore old.live new.live
  stays : StaysAsked old new told

silent : (old new : State) → new.events ≡ old.events → new.given ≡ old.given → new.is_caller ≡ old.is_caller →
    AwaitedBefore old.live new.live → StaysAsked old new [] → Opens old new
silent old new same given side awaited stays = grind (arith, append-nil)

telling : (old new : State) (event : Happening) → IsAbout old event →
    new.events ≡ old.events ++ event ∷ [] → new.given ≡ old.given → new.is_caller ≡ old.is_caller →
    AwaitedBefore old.live new.live → StaysAsked old new (event ∷ []) → Opens old new
telling old new event about same given side awaited stays = grind arith

opens_none : (s : State) → Opens s s
opens_none s = silent s s refl refl refl (λ q h. h) (λ q h over. inl h)

opens_end : (reason : EndReason) (s : State) → Opens s (ends reason s)
opens_end reason s = silent s (ends reason s) refl refl refl (λ q h. cc) (λ q h over. cc)

-- ---- a CR

opens_answers : (c : Connect) (selection : Selection) (held : Option Class) (s : State) → IsOrderly s → s.is_caller ≡ false →
    Opens s (answers c selection held s).state
opens_answers c (refuse reason) held s o called = grind (arith, silent)
opens_answers c (accept Two size) held s o called = grind (arith, opened, awaited_push, asked, beyond, value_at, push_other)
opens_answers c (accept Zero size) None s o called = grind (arith, opened, awaited_push, asked, beyond, value_at, push_other)
opens_answers c (accept Zero size) (Some class) s o called = grind (arith, silent)

opens_request : (c : Connect) (s : State) → IsOrderly s → s.is_caller ≡ false → Opens s (answers_request c s).state
opens_request c s o called = grind (arith, silent, opens_answers)

-- ---- a unit for a connection

opens_confirm : (r : ℕ) (c : Connect) (class : Option Class) (s : State) → value_at r s.live ≡ Some asked →
    Opens s (opens r c class s).state
opens_confirm r c class s here = grind (arith, opens_end, opened, awaited_put, or_left, put_other)

opens_asked : (r : ℕ) (unit : Value) (s : State) → IsOrderly s → value_at r s.live ≡ Some asked → Opens s (to_asked r unit s).state
opens_asked r (confirm destination c) s o here = grind (arith, opens_confirm)
opens_asked r (disconnect destination source reason user) s o here = grind (arith, telling, awaited_without, or_left, without_other)
opens_asked r (error destination cause) s o here = grind (arith, telling, awaited_without, or_left, without_other)
opens_asked r unit s o here = search (arith, silent, opens_none, opens_end)

-- a connection that is there, and was not asked for
record IsThere (r : ℕ) (s : State) : Type 0 where
  here : IsSome (value_at r s.live)
  apart : (q : ℕ) → value_at q s.live ≡ Some asked → q ≢ r

opens_taking : (r peer : ℕ) (result : Result Standing LinkFault) (s : State) → IsThere r s → Opens s (taking r peer result s).state
opens_taking r peer (Ok link) s here = grind (arith, silent, append-nil, awaited_put, put_other, telling)
opens_taking r peer (Err fault) s here = search (arith, telling, faulted, awaited_put, closing, put_other, opens_end)

opens_leaves : (r peer reason : ℕ) (held : Option Class) (s : State) → IsOrderly s → IsThere r s →
    Opens s (leaves r peer reason held s).state
opens_leaves r peer reason held s o here = grind (arith, telling, leaves, closed, awaited_without, without_other)

opens_closing : (r : ℕ) (unit : Value) (s : State) → IsOrderly s → IsThere r s → Opens s (to_closing r unit s).state
opens_closing r unit s o here = search (arith, silent, awaited_without, without_other, opens_none)

opens_connection : (r : ℕ) (o : Option Connection) (unit : Value) (s : State) → IsOrderly s → value_at r s.live ≡ o →
    Opens s (to_connection r o unit s).state
opens_connection r o unit s o2 here = search (arith, silent, opens_none, opens_end, opens_asked, opens_leaves, opens_taking, opens_closing)

-- ---- by class

pub first_here : (r : ℕ) (x : Connection) (rows : Rows Connection) → value_at r ((r, x) ∷ rows) ≡ Some x
first_here r x rows = let e = eq-eqb r r refl in rw e refl

only_by : (live : Rows Connection) (unit : Value) (s : State) → IsOrderly s → s.live ≡ live → Opens s (to_only live unit s).state
only_by [] unit s o is = opens_none s
only_by ((r, connection) ∷ rows) unit s o is =
    opens_connection r (Some connection) unit s o (ap (value_at r) is ∙ first_here r connection rows)

opens_unit : (unit : Value) (s : State) → IsOrderly s → Opens s (react unit s)
unfolding react
opens_unit unit s o = search (arith, opens_none, confirm, opens_connection, disconnect, error, request, opens_request, opens_end, only_by)

-- ---- units one after the other

-- none awaits a CC
abbrev pub NoneAwaited : Rows Connection → Type 0
NoneAwaited live = (q : ℕ) → value_at q live ≡ Some asked → ⊥

-- ---- which connections events are of

all_join : {X : Type 0} (P : X → Type 0) (a b : List X) → AllByRecursion P a → AllByRecursion P b → AllByRecursion P (a ++ b)
all_join P [] b all more = more
all_join P (x ∷ a) b all more = (all.0, all_join P a b all.1 more)

pub all_still : {X : Type 0} (P Q : X → Type 0) (l : List X) → ((x : X) → P x → Q x) → AllByRecursion P l → AllByRecursion Q l
all_still P Q [] still all = tt
all_still P Q (x ∷ l) still all = (still x all.0, all_still P Q l still all.1)

-- one that is there, and awaited a CC if it is opened; or one that is new
abbrev pub IsOf : State → Happening → Type 0
IsOf s (opened r) = (value_at r s.live ≡ Some asked) ⊎ (s.given < r)
IsOf s event = IsSome (value_at (told_of event) s.live) ⊎ (s.given < told_of event)

-- one that was given
abbrev pub IsGiven : ℕ → Happening → Type 0
IsGiven g event = told_of event ≤ g

-- at a called end: each is new when it is opened, and was given before otherwise
abbrev pub Comes : ℕ → List Happening → ℕ → Type 0
Comes g [] h = h ≡ g
Comes g (opened r ∷ more) h = (g < r) × Comes r more h
Comes g (event ∷ more) h = (told_of event ≤ g) × Comes g more h

comes_join : (g : ℕ) (a : List Happening) (h : ℕ) (b : List Happening) (k : ℕ) → Comes g a h → Comes h b k → Comes g (a ++ b) k
comes_join g [] h b k first second = subst (λ n. Comes n b k) first second
comes_join g (opened r ∷ a) h b k first second = (first.0, comes_join r a h b k first.1 second)
comes_join g (event ∷ a) h b k first second = (first.0, comes_join g a h b k first.1 second)

-- what is there was given
there_given : (r : ℕ) (s : State) → IsOrderly s → IsSome (value_at r s.live) → r ≤ s.given
there_given r s o here = grind (arith, nat_tests, beyond, is_some)

about_of : (s : State) (event : Happening) → IsAbout s event → IsOf s event
about_of s (opened r) about = absurd about
about_of s event about = inl about

about_given : (s : State) → IsOrderly s → (event : Happening) → IsAbout s event → IsGiven s.given event
about_given s o (opened r) about = absurd about
about_given s o event about = there_given (told_of event) s o about

comes_quiet : (s : State) → IsOrderly s → (l : List Happening) (h : ℕ) → h ≡ s.given → AllByRecursion (IsAbout s) l → Comes s.given l h
comes_quiet s o [] h same all = same
comes_quiet s o (opened r ∷ more) h same all = absurd all.0
comes_quiet s o (event ∷ more) h same all = (about_given s o event all.0, comes_quiet s o more h same all.1)

-- what was reported opens what a caller asked for, and at a called end what is new
pub record OpensAlong (old new : State) : Type 0 where
  pub told : List Happening
  pub events : new.events ≡ old.events ++ told
  pub side : new.is_caller ≡ old.is_caller
  pub awaited : AwaitedBefore old.live new.live
  pub about : AllByRecursion (IsOf old) told
  pub known : old.is_caller ≡ true → (new.given ≡ old.given) × AllByRecursion (IsGiven old.given) told
  pub comes : old.is_caller ≡ false → NoneAwaited old.live → Comes old.given told new.given
  pub rises : old.given ≤ new.given
  pub gone : (q : ℕ) → q ≤ old.given → value_at q old.live ≡ None → value_at q new.live ≡ None
  pub stays : StaysAsked old new told
  pub lasts : new.ended ≡ None → old.ended ≡ None

known_by : (old new : State) (told : List Happening) → IsOrderly old → How old new told → old.is_caller ≡ true →
    (new.given ≡ old.given) × AllByRecursion (IsGiven old.given) told
known_by old new told o (inl h) caller = (h.given, all_still (IsAbout old) (IsGiven old.given) told (about_given old o) h.about)
known_by old new told o (inr (inl h)) caller = grind (arith, there_given h.reference old o)
known_by old new told o (inr (inr h)) caller = both old.is_caller caller h.called

comes_by : (old new : State) (told : List Happening) → IsOrderly old → How old new told → NoneAwaited old.live →
    Comes old.given told new.given
comes_by old new told o h none = grind (arith, comes_quiet)

along_unit : (unit : Value) (s : State) → IsOrderly s → OpensAlong s (react unit s)
along_unit unit s orderly =
    let o = opens_unit unit s orderly in
    record {
      told = o.told;
      events = o.events;
      side = o.side;
      awaited = o.awaited;
      about = grind (arith, all_still, about_of);
      known = λ caller. known_by s (react unit s) o.told orderly o.how caller;
      comes = λ called none. comes_by s (react unit s) o.told orderly o.how none;
      rises = units_rise (unit ∷ []) s;
      gone = λ q up none. stays_gone unit s q up none;
      stays = o.stays;
      lasts = grind (arith, react_over);
    }

known_join : (old mid new : State) (a : OpensAlong old mid) (b : OpensAlong mid new) → old.is_caller ≡ true →
    (new.given ≡ old.given) × AllByRecursion (IsGiven old.given) (a.told ++ b.told)
known_join old mid new a b caller = grind (arith, all_join)

of_before : (old mid : State) → OpensAlong old mid → (event : Happening) → IsOf mid event → IsOf old event
of_before old mid a (opened r) is = grind arith
of_before old mid a event is = grind arith

along_join : (old mid new : State) → OpensAlong old mid → OpensAlong mid new → OpensAlong old new
along_join old mid new a b = record {
  told = a.told ++ b.told;
  events = b.events ∙ ap (λ l. l ++ b.told) a.events ∙ append_assoc old.events a.told b.told;
  side = b.side ∙ a.side;
  awaited = λ q h. a.awaited q (b.awaited q h);
  about = all_join (IsOf old) a.told b.told a.about (all_still (IsOf mid) (IsOf old) b.told (of_before old mid a) b.about);
  known = λ caller. known_join old mid new a b caller;
  comes = grind (arith, comes_join);
  rises = let first = a.rises in let second = b.rises in omega arith;
  gone = grind arith;
  stays = grind (arith, answered_front, answered_behind);
  lasts = λ over. a.lasts (b.lasts over);
}

along_none : (s : State) → OpensAlong s s
along_none s = record {
  told = [];
  events = sym (append-nil s.events);
  side = refl;
  awaited = λ q h. h;
  about = tt;
  known = λ caller. (refl, tt);
  comes = λ called none. refl;
  rises = omega arith;
  gone = λ q up none. none;
  stays = λ q h over. inl h;
  lasts = λ over. over;
}

pub along_units : (units : List Value) (s : State) → IsOrderly s → OpensAlong s (reacts units s)
along_units [] s orderly = along_none s
along_units (unit ∷ units) s orderly =
    along_join s (react unit s) (reacts units (react unit s)) (along_unit unit s orderly)
    (along_units units (react unit s) (orderly_unit unit s orderly))

pub along_end : (old mid : State) (reason : EndReason) → OpensAlong old mid → OpensAlong old (ends reason mid)
along_end old mid reason a = grind arith

pub along_over : (s : State) (reason : EndReason) → OpensAlong s (ends reason s)
along_over s reason = along_end s s reason (along_none s)
