-- Sessions keep their open transport connections, whatever event is handled.
use Rattle.std.proofs.Common.{◌≡◌, ◌≢◌, ℕ, ◌==◌, Bool, true, false, not, ◌&&◌, ◌||◌, List, ◌∷◌, ◌++◌, length, Option, Some, None, IsSome}
use Rattle.std.proofs.Common.{option_map, refl, sym, ap, subst, ◌∙◌, inl, inr, ◌⊎◌, [], arith}
use Rattle.osi_carrier.specs.Happenings as told
use Rattle.osi_stack.proofs.Vocabulary.{eqb-true, eq-eqb, or_right, and-true, sent, closes, sent_all, Happening, Rows, value_at, put}
use Rattle.osi_stack.proofs.Vocabulary.{Connection, State as Carrier, is_open, open_after, put_here, push_here, put_other, push_other}
use Rattle.osi_stack.proofs.Vocabulary.{put_none, put_same, told_of, sent_opens, closed_opens, Input, Listener, opened, refused, broken}
use Rattle.osi_stack.proofs.Vocabulary.{came, react, is_ended, awaits, Phase, opens, hears, hears_first, hears_next, hears_times}
use Rattle.osi_stack.proofs.Vocabulary.{with_events, loses, all_lost, needs_link, AreApart, kept_at, to_session, Line, End, used_lines}
use Rattle.osi_stack.proofs.Vocabulary.{joins, fresh_line, answers_by, input_of}
use Rattle.osi_stack.proofs.carried.what_sessions_leave_of_the_carrier.{hears_keep, times_leave}
use Rattle.osi_stack.proofs.carried.packets_without_events.{both}
use Rattle.osi_stack.proofs.carried.what_a_move_leaves.{lost_at, used_keep}
pub use Rattle.osi_stack.proofs.carried.what_a_move_leaves.{used_by}
use Rattle.osi_stack.proofs.carried.what_each_step_preserves.{event_heard, events_heard, Hears}

-- what the tables of sessions say
pub record SessionLaws : Type 0 where
  pub closed : (s : Listener) (input : Input) → (react s input).closes ≡ true → is_ended (react s input).next.state.phase ≡ true
  pub ended : (s : Listener) (input : Input) → is_ended s.state.phase ≡ true → is_ended (react s input).next.state.phase ≡ true
  pub linked : (s : Listener) (input : Input) → (input ≡ opened → ⊥) → needs_link (react s input).next.state.phase ≡ true →
      needs_link s.state.phase ≡ true
  -- once it is open
  pub begun : (s : Listener) → needs_link (react s opened).next.state.phase ≡ true → needs_link s.state.phase ≡ false →
      is_ended s.state.phase ≡ false
  pub unneeded : (p : Phase) → is_ended p ≡ true → needs_link p ≡ false

-- ---- what a session does to the carrier

pub put_some : {X : Type 0} (r q : ℕ) (x : X) (rows : Rows X) → IsSome (value_at r rows) → IsSome (value_at r (put q x rows))
put_some r q x rows some = grind (arith, eqb-true, put_here, both, eq-eqb, put_other)

-- after the answer of a session that closes its connection, or not
pub record Answered (q : ℕ) (closes : Bool) (c d : Carrier) : Type 0 where
  pub others : d.ended ≡ None → (r : ℕ) → r ≢ q → is_open r d ≡ is_open r c
  pub stays : d.ended ≡ None → (r : ℕ) → IsSome (value_at r c.live) → IsSome (value_at r d.live)
  pub here : closes ≡ false → is_open q d ≡ is_open q c
  pub closing_here : closes ≡ true → d.ended ≡ None → (is_open q d ≡ is_open q c) ⊎ IsSome (value_at q d.live)

all_open : (q r : ℕ) (tsdus : List (List ℕ)) (c : Carrier) → is_open r (sent_all q tsdus c) ≡ is_open r c
all_open q r [] c = refl
all_open q r (tsdu ∷ tsdus) c = all_open q r tsdus (sent q tsdu c) ∙ sent_opens q r tsdu c

all_stay : (q r : ℕ) (tsdus : List (List ℕ)) (c : Carrier) → IsSome (value_at r c.live) → IsSome (value_at r (sent_all q tsdus c).live)
all_stay q r [] c some = some
all_stay q r (tsdu ∷ tsdus) c some = all_stay q r tsdus (sent q tsdu c) (grind (arith, put_some))

answered_by : (q : ℕ) (closes : Bool) (tsdus : List (List ℕ)) (c : Carrier) → Answered q closes c (answers_by closes q tsdus c)
answered_by q closes tsdus c = grind (arith, closed_opens, and-true, put_some, all_open, all_stay)

-- ---- the events that are still to be handled

pub mono : (r : ℕ) (events : List Happening) (a b : Bool) → (a ≡ true → b ≡ true) → open_after r a events ≡ true →
    open_after r b events ≡ true
mono r [] a b imp h = imp h
mono r (told.opened q ∷ events) a b imp h = mono r events (a || (q == r)) (b || (q == r)) (grind (arith, or_right)) h
mono r (told.closed q reason ∷ events) a b imp h = mono r events (a && not (q == r)) (b && not (q == r)) (grind arith) h
mono r (told.faulted q fault ∷ events) a b imp h = mono r events (a && not (q == r)) (b && not (q == r)) (grind arith) h
mono r (event ∷ events) a b imp h = mono r events a b imp h

-- ---- what is true of one reference while events wait

pub record HasClosed (r : ℕ) (o : Option Listener) (c : Carrier) : Type 0 where
  pub live : IsSome (value_at r c.live)
  pub session : Listener
  pub is : o ≡ Some session
  pub ended : is_ended session.state.phase ≡ true

pub record IsLinked (r : ℕ) (o : Option Listener) (events : List Happening) (c : Carrier) : Type 0 where
  pub needed : (s : Listener) → o ≡ Some s → needs_link s.state.phase ≡ true → open_after r true events ≡ true → is_open r c ≡ true
  pub fresh : (open_after r false events ≡ true → is_open r c ≡ true) ⊎ HasClosed r o c

-- an event for another connection
event_other : (event : Happening) (r : ℕ) (b : Bool) (rest : List Happening) → r ≢ told_of event →
    open_after r b (event ∷ rest) ≡ open_after r b rest
event_other event r b rest ne = grind arith

other_linked : (event : Happening) (rest : List Happening) (r : ℕ) (o : Option Listener) (c d : Carrier) → r ≢ told_of event →
    is_open r d ≡ is_open r c →
    (IsSome (value_at r c.live) → IsSome (value_at r d.live)) → IsLinked r o (event ∷ rest) c → IsLinked r o rest d
other_linked event rest r o c d ne same stays l = search (arith, event_other)

-- no session is there
none_linked : (event : Happening) (rest : List Happening) (r : ℕ) (o : Option Listener) (c : Carrier) → o ≡ None →
    IsLinked r o (event ∷ rest) c → IsLinked r o rest c
none_linked event rest r o c none l = search (arith, mono)

-- the session there made its move
here_linked : SessionLaws → (q : ℕ) (s : Listener) (input : Input) (event : Happening) (rest : List Happening) (c d : Carrier) (b : Bool) →
    (react s input).closes ≡ b →
    Answered q (react s input).closes c d → d.ended ≡ None →
    (needs_link (react s input).next.state.phase ≡ true → open_after q true rest ≡ true → is_open q c ≡ true) →
    IsLinked q (Some s) (event ∷ rest) c → IsLinked q (Some (react s input).next) rest d
here_linked laws q s input event rest c d false e a over needs l = record {
  needed = grind (arith, react);
  fresh = elim l.fresh [
    | inl f ↦ inl (λ h. a.here e ∙ f (grind (arith, mono)))
    | inr k ↦ search (arith, react)
  ];
}
here_linked laws q s input event rest c d true e a over needs l = record {
  needed = search (arith, react, both);
  fresh = elim (a.closing_here e over) [
    | inr live ↦ inr (record { live = live; session = (react s input).next; is = refl; ended = laws.closed s input e })
    | inl still ↦ elim l.fresh [
      | inl f ↦ inl (λ h. still ∙ f (grind (arith, mono)))
      | inr k ↦ inr (record { live = a.stays over q k.live; session = (react s input).next; is = refl; ended = laws.closed s input e })
    ]
  ];
}

-- ---- what an event does to the session of a reference

pub record HasMoved (q : ℕ) (input : Input) (old new : End) : Type 0 where
  pub session : Listener
  pub was : kept_at q old.lines ≡ Some session
  pub is : kept_at q new.lines ≡ Some (react session input).next
  pub others : (r : ℕ) → r ≢ q → kept_at r new.lines ≡ kept_at r old.lines
  pub answered : Answered q (react session input).closes old.carrier new.carrier

pub record HasRested (q : ℕ) (old new : End) : Type 0 where
  pub none : kept_at q old.lines ≡ None
  pub same : new ≡ old

abbrev pub Hearing : ℕ → Input → End → End → Type 0
Hearing q input old new = HasMoved q input old new ⊎ HasRested q old new

pub session_hears : (q : ℕ) (input : Input) (e : End) → Hearing q input e (to_session q input e)
session_hears q input e = grind (arith, put_same, put_here, put_other, answered_by)

-- what is true of all references
abbrev pub AllLinked : List Happening → End → Type 0
AllLinked events e = (r : ℕ) → IsLinked r (kept_at r e.lines) events e.carrier

moved_linked : SessionLaws → (q : ℕ) (input : Input) (event : Happening) (rest : List Happening) (e d : End) → told_of event ≡ q →
    HasMoved q input e d → d.carrier.ended ≡ None →
    ((s : Listener) → kept_at q e.lines ≡ Some s → needs_link (react s input).next.state.phase ≡ true → open_after q true rest ≡ true →
    is_open q e.carrier ≡ true) →
    AllLinked (event ∷ rest) e → (r : ℕ) (b : Bool) → (r == q) ≡ b → IsLinked r (kept_at r d.lines) rest d.carrier
moved_linked laws q input event rest e d of m over needs l r true at =
    let same = eqb-true r q at in
    let before : IsLinked q (Some m.session) (event ∷ rest) e.carrier =
    subst (λ (o : Option Listener). IsLinked q o (event ∷ rest) e.carrier) m.was (l q) in
    let after = here_linked laws q m.session input event rest e.carrier d.carrier (react m.session input).closes refl m.answered over
    (needs m.session m.was) before in
    grind arith
moved_linked laws q input event rest e d of m over needs l r false at =
    let ne : r ≢ q = (λ same. both (r == q) (eq-eqb r q same) at) in
    grind (
      arith,
      m.others r ne,
      other_linked event rest r (kept_at r e.lines) e.carrier d.carrier,
      m.answered.others over r ne,
      m.answered.stays over r,
      l r,
    )

rested_linked : (q : ℕ) (event : Happening) (rest : List Happening) (e : End) → told_of event ≡ q → kept_at q e.lines ≡ None →
    AllLinked (event ∷ rest) e →
    (r : ℕ) (b : Bool) → (r == q) ≡ b → IsLinked r (kept_at r e.lines) rest e.carrier
rested_linked q event rest e of none l r b at = search (arith, eqb-true, none_linked, kept_at, told_of, both, eq-eqb, other_linked)

pub session_linked : SessionLaws → (q : ℕ) (input : Input) (event : Happening) (rest : List Happening) (e d : End) → told_of event ≡ q →
    Hearing q input e d → d.carrier.ended ≡ None →
    ((s : Listener) → kept_at q e.lines ≡ Some s → needs_link (react s input).next.state.phase ≡ true → open_after q true rest ≡ true →
    is_open q e.carrier ≡ true) →
    AllLinked (event ∷ rest) e → AllLinked rest d
session_linked laws q input event rest e d of (inl m) over needs l =
    λ r. moved_linked laws q input event rest e d of m over needs l r (r == q) refl
session_linked laws q input event rest e d of (inr m) over needs l =
    subst (λ (x : End). AllLinked rest x) (sym m.same) (λ r. rested_linked q event rest e of m.none l r (r == q) refl)

-- ---- lines stay apart

pub apart_put : (r : ℕ) (x : Line) (rows : Rows Line) → AreApart rows → AreApart (put r x rows)
apart_put r x [] apart = tt
apart_put r x ((q, y) ∷ rows) apart = grind (arith, put_none, apart_put r x rows apart.1)

pub apart_push : (r : ℕ) (x : Line) (rows : Rows Line) → value_at r rows ≡ None → AreApart rows → AreApart (rows ++ (r, x) ∷ [])
apart_push r x [] none apart = (refl, tt)
apart_push r x ((q, y) ∷ rows) none apart = grind (arith, value_at, both, eq-eqb, push_other, apart_push r x rows)

-- ---- lines that are of use

-- a line stays, or its connection is gone
abbrev pub Stays : ℕ → Rows Connection → Rows Line → Type 0
Stays r live lines = (value_at r (used_lines live lines) ≡ value_at r lines) ⊎
    ((value_at r (used_lines live lines) ≡ None) × (value_at r live ≡ None))

pub used_at : (r : ℕ) (live : Rows Connection) (lines : Rows Line) → AreApart lines → Stays r live lines
used_at r live [] apart = inl refl
used_at r live ((p, y) ∷ lines) apart = grind (arith, used_at r live lines apart.1)

pub apart_used : (live : Rows Connection) (lines : Rows Line) → AreApart lines → AreApart (used_lines live lines)
apart_used live [] apart = tt
apart_used live ((p, y) ∷ lines) apart = grind (arith, used_keep, used_at, apart_used live lines apart.1)

pub apart_joins : (r : ℕ) (s : Listener) (e : End) → value_at r e.lines ≡ None → AreApart e.lines → AreApart (joins r s e).lines
apart_joins r s e none apart = apart_used e.carrier.live _ (apart_push r (fresh_line s) e.lines none apart)

pub apart_lost : (lines : Rows Line) → AreApart lines → AreApart (all_lost lines)
apart_lost [] apart = tt
apart_lost ((r, line) ∷ lines) apart = (lost_at r lines ∙ ap (option_map loses) apart.0, apart_lost lines apart.1)

-- ---- a new session

abbrev pub joined_lines : ℕ → Listener → Rows Line → Rows Line
joined_lines q s lines = lines ++ (q, fresh_line s) ∷ []

joined_by : (q : ℕ) (rest : List Happening) (e : End) → value_at q e.lines ≡ None → AllLinked (told.opened q ∷ rest) e →
    (r : ℕ) (b : Bool) → (r == q) ≡ b →
    Stays r e.carrier.live (joined_lines q awaits e.lines) → IsLinked r (kept_at r (joins q awaits e).lines) rest e.carrier
joined_by q rest e none l r true at (inl same) = grind (arith, eqb-true, push_here, mono)
joined_by q rest e none l r true at (inr gone) = grind (arith, eqb-true, none_linked (told.opened q) rest r (kept_at r e.lines) e.carrier)
joined_by q rest e none l r false at (inl same) = grind (arith, both, eq-eqb, push_other, other_linked)
joined_by q rest e none l r false at (inr gone) = grind (arith, both, eq-eqb, other_linked)

joined_linked : (q : ℕ) (rest : List Happening) (e : End) → AreApart e.lines → value_at q e.lines ≡ None →
    AllLinked (told.opened q ∷ rest) e → AllLinked rest (joins q awaits e)
joined_linked q rest e apart none l = λ r. search (arith, joined_by q rest e none l r (r == q) refl, used_at, apart_push)

-- ---- one event

pub broken_needs_none : (s : Listener) → needs_link (react s broken).next.state.phase ≡ false
unfolding react
broken_needs_none s = refl

-- a session that needs its connection once it is open
opened_needs : SessionLaws → (q : ℕ) (rest : List Happening) (e : End) (s : Listener) (b : Bool) → needs_link s.state.phase ≡ b →
    kept_at q e.lines ≡ Some s →
    IsLinked q (kept_at q e.lines) (told.opened q ∷ rest) e.carrier → needs_link (react s opened).next.state.phase ≡ true →
    open_after q true rest ≡ true → is_open q e.carrier ≡ true
opened_needs laws q rest e s b needs is l n h = search (arith, mono, eq-eqb, both, is_ended)

opened_linked : SessionLaws → (q : ℕ) (rest : List Happening) (e : End) (o : Option Line) → value_at q e.lines ≡ o → AreApart e.lines →
    (opens q o e).carrier.ended ≡ None →
    AllLinked (told.opened q ∷ rest) e → AllLinked rest (opens q o e)
opened_linked laws q rest e None here apart over l = joined_linked q rest e apart here l
opened_linked laws q rest e (Some line) here apart over l =
    session_linked laws q opened (told.opened q) rest e (to_session q opened e) refl (session_hears q opened e) over
    (λ s is n h. opened_needs laws q rest e s (needs_link s.state.phase) refl is (l q) n h) l

hears_linked : SessionLaws → (event : Happening) (rest : List Happening) (e : End) → AreApart e.lines →
    (hears event e).carrier.ended ≡ None →
    AllLinked (event ∷ rest) e → AllLinked rest (hears event e)
hears_linked laws (told.opened q) rest e apart over l = opened_linked laws q rest e (value_at q e.lines) refl apart over l
hears_linked laws (told.refused q reason) rest e apart over l =
    session_linked laws q (refused reason) (told.refused q reason) rest e _ refl (session_hears q (refused reason) e) over
    (λ s is n h. (l q).needed s is (laws.linked s (refused reason) (λ no. cc) n) h) l
hears_linked laws (told.tsdu q octets) rest e apart over l =
    session_linked laws q (came octets) (told.tsdu q octets) rest e _ refl (session_hears q (came octets) e) over
    (λ s is n h. (l q).needed s is (laws.linked s (came octets) (grind arith) n) h) l
hears_linked laws event rest e apart over l =
    session_linked laws (told_of event) broken event rest e _ refl (session_hears (told_of event) broken e) over
    (λ s is n h. both (needs_link (react s broken).next.state.phase) n (broken_needs_none s)) l

pub session_apart : (q : ℕ) (input : Input) (e : End) → AreApart e.lines → AreApart (to_session q input e).lines
session_apart q input e apart = grind (arith, apart_put)

heard_apart : Hears (λ x. AreApart x.lines)
heard_apart = grind (arith, apart_joins, awaits, session_apart, told_of, input_of)

pub hears_apart : (event : Happening) (e : End) → AreApart e.lines → AreApart (hears event e).lines
hears_apart event e apart = event_heard (λ x. AreApart x.lines) heard_apart event e apart

-- ---- all events

pub first_is : (event : Happening) (rest : List Happening) (e : End) → e.carrier.events ≡ event ∷ rest →
    hears_next e ≡ hears event (with_events rest e)
first_is event rest e h = ap (λ (l : List Happening). hears_first l e) h

pub rest_is : (event : Happening) (rest : List Happening) (e : End) → e.carrier.events ≡ event ∷ rest → (hears_next e).carrier.events ≡ rest
rest_is event rest e h = ap (λ (x : End). x.carrier.events) (first_is event rest e h) ∙ (hears_keep event (with_events rest e)).events

pub times_last : (n : ℕ) (e : End) → (hears_times n e).carrier.ended ≡ None → e.carrier.ended ≡ None
times_last n e h = (times_leave n e).lasts h

pub times_apart : (n : ℕ) (e : End) → AreApart e.lines → AreApart (hears_times n e).lines
times_apart n e apart = events_heard (λ x. AreApart x.lines) (λ events x apart. apart) heard_apart n e apart

-- what a carrier has still to report does not matter
untold_linked : (rest : List Happening) (r : ℕ) (o : Option Listener) (events : List Happening) (c : Carrier) → IsLinked r o events c →
    IsLinked r o events (record c { events = rest })
untold_linked rest r o events c l = grind arith

pub times_linked : SessionLaws → (l : List Happening) (e : End) → e.carrier.events ≡ l → AreApart e.lines →
    (hears_times (length l) e).carrier.ended ≡ None → AllLinked l e →
    AllLinked [] (hears_times (length l) e)
times_linked laws [] e h apart over l = l
times_linked laws (event ∷ rest) e h apart over l =
    let here = with_events rest e in
    let is = first_is event rest e h in
    let lasts : (hears event here).carrier.ended ≡ None = grind (arith, times_last) in
    let next : AllLinked rest (hears_next e) =
    subst (λ (x : End). AllLinked rest x) (sym is)
    (hears_linked laws event rest here apart lasts (λ r. untold_linked rest r (kept_at r e.lines) (event ∷ rest) e.carrier (l r))) in
    let still : AreApart (hears_next e).lines = subst (λ (x : End). AreApart x.lines) (sym is) (hears_apart event here apart) in
    times_linked laws rest (hears_next e) (rest_is event rest e h) still over next
