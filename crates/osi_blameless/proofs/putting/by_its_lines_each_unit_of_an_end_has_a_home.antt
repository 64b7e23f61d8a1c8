-- Each DT and each AK that a calling end puts in a turn is for a connection that the judge knows by its references and that this end has
-- not closed there; each other unit is for none.
-- For all connections of an end and a judge.
use Rattle.osi_blameless.proofs.Vocabulary.{[], ap, append_assoc, arith, Bool, false, is_some, List, None, Option, refl, Some, subst, sym}
use Rattle.osi_blameless.proofs.Vocabulary.{true, ℕ, ◌++◌, ◌<◌, ◌==◌, ◌∙◌, ◌∷◌, ◌≡◌, eq-eqb, AllByRecursion, slice_get, confirm, Connect}
use Rattle.osi_blameless.proofs.Vocabulary.{disconnect, request, Value, Standing, Local, value_at, closing, Live, linked, Carrier}
use Rattle.osi_blameless.proofs.Vocabulary.{has_given, Traffic as State, Connection, Left, amid, early, Life, opens_by, past, Time as Stage}
use Rattle.osi_blameless.proofs.Vocabulary.{stage_at, stays, all_units_more, Opens, Deeds, all_units, Marked, Turn, Sessions, Followed}
use Rattle.osi_blameless.proofs.Vocabulary.{is_tracked, IsOwned, Row, Tracked, each_picked, first_kept, is_dc, IsDc, IsOngoing, names}
use Rattle.osi_blameless.proofs.Vocabulary.{those, those_join, Line, Whole, Joint, TakesTurn, HaveSamePlaces, AreGiven, AreApart}
use Rattle.osi_blameless.proofs.Vocabulary.{BeforeOpen, WhileOpen, stage_by, Awaiting, HasNoCc, asked_so, goes, le-leb, lt-ltb, awaits}
use Rattle.osi_carrier.specs.State.{asked}
use Rattle.osi_blameless.specs.transport.Wholes.{begin}
use Rattle.osi_blameless.proofs.ends.links.the_first_cc_opens_a_connection.{opens_so}
use Rattle.osi_judge.specs.Courses.{Course as Passed}
use Rattle.osi_blameless.proofs.small_facts_that_many_lemmas_use.{and_both, over_not, all_join as all_of_both}
use Rattle.osi_blameless.proofs.keeping.steps_are_events.{whole_of, IsFollowed}
use Rattle.osi_blameless.proofs.putting.a_turn_does_what_its_deeds_say.{turn_uses}
use Rattle.osi_blameless.proofs.putting.a_whole_end_runs_along.{whole_followed}
use Rattle.osi_blameless.proofs.shown.connections_have_the_same_places.{at_same}
use Rattle.osi_blameless.proofs.putting.each_unit_of_a_turn_has_one_connection.{HasHome, IsMarked, known}
use Rattle.osi_blameless.proofs.putting.nothing_is_done_before_a_cr_passes.{IsNotCc}
use Rattle.osi_blameless.proofs.putting.what_a_turn_puts_goes_to_its_peer.{GoesTo, IsPutFor, all_so, goes_to, one_of, turn_puts}
use Rattle.osi_blameless.proofs.putting.what_a_turn_puts_goes_to_its_peer.{IsNotZero, turn_marked, whole_lasts}
use Rattle.osi_blameless.proofs.steps.what_the_turns_among_steps_do.{TurnDoes}

-- ---- a connection that is open at the judge has a home there

home_of : (s : State) (t : Sessions) → HaveSamePlaces s.connections t.live → (p : ℕ) (c : Connection) → slice_get s.connections p ≡ Some c →
    is_tracked c ≡ true → HasHome Left c.left.reference c.right.reference s t
home_of s t places p c at tracked = grind (arith, at_same, and_both)

-- ---- the end has the connection open

linked_home : (local : Local) (w : Whole) (t : Sessions) (f : Followed local w) → HaveSamePlaces w.judge.connections t.live →
    w.end.ended ≡ None → (q peer : ℕ) (link : Standing) → value_at q w.end.live ≡ Some (linked peer link) → HasHome Left q peer w.judge t
linked_home local w t f places lasts q peer link is =
    let (p, c, at, so, mine) = (f.linked lasts q peer link is).0 in
    let g = f.lines p c at so in
    let same : peer ≡ g.peer = grind arith in
    grind (arith, home_of w.judge t places p c at so)

-- ---- its CC has come

-- DCs, and then a CC of this reference of the other side
record HasFirst (r peer : ℕ) (coming : List Value) : Type 0 where
  x : Connect
  firsts : List Value
  later : List Value
  is : those r coming ≡ firsts ++ confirm r x ∷ later
  dcs : AllByRecursion IsDc firsts
  source : x.source ≡ peer

row_first : (local : Local) (end : Carrier) (coming : List Value) (r peer : ℕ) (line : Line) → Row local end coming r peer line →
    end.ended ≡ None → value_at r end.live ≡ Some asked → HasFirst r peer coming
row_first local end coming r peer line h lasts e = grind (arith, over_not)

-- the first CC of a list is one
first_cc : (r : ℕ) (x y : Connect) (xs ys us vs : List Value) → xs ++ confirm r x ∷ ys ≡ us ++ confirm r y ∷ vs →
    AllByRecursion (IsNotCc r) xs → AllByRecursion (IsNotCc r) us → x ≡ y
first_cc r x y [] ys [] vs e a b = cc
first_cc r x y [] ys (u ∷ us) vs e a b = grind arith
first_cc r x y (v ∷ xs) ys [] vs e a b = grind arith
first_cc r x y (v ∷ xs) ys (u ∷ us) vs e a b =
    let more : xs ++ confirm r x ∷ ys ≡ us ++ confirm r y ∷ vs = cc in
    first_cc r x y xs ys us vs more a.1 b.1

dc_not_cc : (r : ℕ) (v : Value) → IsDc v → IsNotCc r v
dc_not_cc r v dc x is = let no : true ≡ false = sym dc ∙ ap is_dc is in absurd (cc)

-- as the first CC that comes for it says
module _ (local : Local) (w : Whole) (t : Sessions) (f : Followed local w) (places : HaveSamePlaces w.judge.connections t.live)
    (lasts : w.end.ended ≡ None) (q : ℕ) (x : Connect) (front rest : List Value) (come : w.coming ≡ front ++ confirm q x ∷ rest)
    (first : AllByRecursion (IsNotCc q) front) (waits : value_at q w.end.live ≡ Some asked) where
  tracked_so : Tracked w.judge.connections q
  tracked_so = grind (arith, one_of)

  those_first : AllByRecursion (IsNotCc q) (those q front)
  those_first = grind (arith, each_picked, names, all_so)

  asked_home : HasHome Left q x.source w.judge t
  asked_home =
      let (p, c, at, so, mine) = tracked_so in
      let g = f.lines p c at so in
      let name : g.r ≡ q = sym g.left ∙ mine in
      let h : HasFirst q g.peer w.coming =
      row_first local w.end w.coming q g.peer g.line (subst (λ (n : ℕ). Row local w.end w.coming n g.peer g.line) name g.row) lasts waits in
      let both : those q front ++ confirm q x ∷ those q rest ≡ h.firsts ++ confirm q h.x ∷ h.later =
      ◌∙◌ {c = h.firsts ++ confirm q h.x ∷ h.later} (sym (grind (arith, those, those_join, first_kept, eq-eqb))) h.is in
      let same : x ≡ h.x = grind (arith, first_cc, those, those_first, all_so, dc_not_cc) in
      grind (arith, home_of w.judge t places p c at so)

-- ---- no DT of class 0 is put

owned_two : (s : State) (u : Value) → IsOwned s u → IsNotZero u
owned_two s u h end user e = grind arith

-- ---- a turn

linked_by : (over given : Bool) (o : Option Live) (peer : ℕ) → stage_by over given o ≡ amid peer →
    (link : Standing) × (o ≡ Some (linked peer link))
linked_by true given o peer is = absurd (cc)
linked_by false true None peer is = absurd (cc)
linked_by false false None peer is = absurd (cc)
linked_by false given (Some asked) peer is = absurd (cc)
linked_by false given (Some (closing q)) peer is = absurd (cc)
linked_by false given (Some (linked q link)) peer is =
    let same : q ≡ peer = amid_same q peer is in (link, ap (λ (n : ℕ). Some (linked n link)) same)
  where
    amid_same : (m n : ℕ) → amid m ≡ amid n → m ≡ n
    amid_same m n e = cc

module _ (local : Local) (two : local.class2 ≡ true) (deeds : ℕ → Deeds) (turn : Turn) (old new : Joint) (step : TakesTurn turn old new)
    (does : TurnDoes true deeds turn old new step) (f : IsFollowed Left (begin true local) old)
    (g : IsFollowed Left (begin true local) new) (clear : IsOngoing old.judge.traffic.course)
    (places : HaveSamePlaces old.judge.traffic.connections old.judge.sessions.live) where
  abbrev s : State
  s = old.judge.traffic

  abbrev t : Sessions
  t = old.judge.sessions

  abbrev carrier : Carrier
  carrier = old.end.end.carrier

  abbrev IsPut : ℕ → Type 0
  IsPut q = IsPutFor Left true (begin true local) deeds turn old new step does.on f q s t

  followed : Followed local (whole_of f)
  followed = whole_followed local two old f clear

  no_zero : AllByRecursion IsNotZero (all_units does.on.put)
  no_zero =
      let all = (whole_followed local two new g (subst (λ (c : Passed). IsOngoing c.traffic.course) (sym step.course) clear)).owned in
      turn_puts Left (begin true local) turn old new step (all_units does.on.put) does.units g IsNotZero
      (all_so (IsOwned new.judge.traffic) IsNotZero (owned_two new.judge.traffic) new.put all)

  -- ---- the connection that a unit is put for

  module _ (lasts : carrier.ended ≡ None) (q : ℕ) (positive : 0 < q) (some : AreApart q does.on.put → ⊥) where
    wholes : f.end.ended ≡ None
    wholes = whole_lasts Left true (begin true local) deeds turn old new step does.on f lasts

    -- what it put while it was open
    gives_so : (peer : ℕ) (before put_later later : List Marked) (t : Stage) (w : WhileOpen q peer later put_later t) → AreApart q before →
        does.on.put ≡ before ++ put_later → AllByRecursion (GoesTo q peer) does.on.put
    gives_so peer before put_later later t w apart is =
        goes_to q does.on.put peer (grind arith) w.gives

    -- all that the end took, and what is left
    comes_so : (front : List Marked) (unit : Value) (later : List Marked) → does.on.took ≡ front ++ (0, unit) ∷ later →
        (rest : List Value) × (f.come ≡ all_units front ++ unit ∷ rest)
    comes_so front unit later is =
        grind (
          arith,
          append_assoc,
          turn_uses turn old new step true deeds does.on lasts,
          all_units_more front ((0, unit) ∷ later),
        )

    units_not_cc : (front : List Marked) → HasNoCc q front → AllByRecursion (IsNotCc q) (all_units front)
    units_not_cc [] h = tt
    units_not_cc (m ∷ front) h = (h.0, units_not_cc front h.1)

    opens_home : (peer : ℕ) (unit : Value) → Opens true q peer unit → (front later : List Marked) → HasNoCc q front →
        does.on.took ≡ front ++ (0, unit) ∷ later → value_at q carrier.live ≡ Some asked → HasHome Left q peer s t
    opens_home peer (confirm n x) (mine, theirs) front later none is waits =
        let (rest, come) = comes_so front (confirm n x) later is in
        subst (λ (k : ℕ). HasHome Left q k s t) theirs
        (asked_home local (whole_of f) t followed places wholes q x (all_units front) rest
        (subst (λ (k : ℕ). f.come ≡ all_units front ++ confirm k x ∷ rest) mine come) (units_not_cc front none)
        ((grind (arith, wholes)) ∙ waits))
    opens_home peer (request x) (caller, theirs) front later none is waits = absurd (cc)
    opens_home peer (disconnect n source reason user) o front later none is waits = absurd o
    opens_home peer _ o front later none is waits = absurd o

    by_opening : (given : Bool) (u : Stage) → value_at q carrier.live ≡ Some asked → Awaiting true q does.on.took does.on.put given u →
        IsPut q
    by_opening given u waits (awaits a b none has is) = absurd (some b)
    by_opening given u waits (goes a b is) = absurd (some b)
    by_opening given u waits (opens_so peer unit o front later apart none is others answer put_later apart_too no_answer ans so w) =
        record {
          peer = peer;
          goes = gives_so peer (others ++ answer) put_later later u w
              (all_of_both (λ (m : Marked). (m.0 == q) ≡ false) others answer apart_too no_answer)
              (so ∙ sym (append_assoc others answer put_later));
          homed = known (opens_home peer unit o front later none is waits);
        }

    -- no CC has come for a reference that was not given
    not_given : {A : Type 0} (peer : ℕ) (unit : Value) → Opens true q peer unit → (front later : List Marked) →
        does.on.took ≡ front ++ (0, unit) ∷ later → has_given q carrier ≡ false → A
    not_given peer (confirm n x) (mine, theirs) front later is free =
        let (rest, come) = comes_so front (confirm n x) later is in
        let few = one_of (AreGiven f.end.given) (all_units front) rest (confirm n x)
        (subst (AllByRecursion (AreGiven f.end.given)) come followed.few) in
        let up = few refl n refl in
        grind (arith, lt-ltb, le-leb, wholes)
    not_given peer (request x) (caller, theirs) front later is free = absurd (cc)
    not_given peer (disconnect n source reason user) o front later is free = absurd o
    not_given peer _ o front later is free = absurd o

    by_free : (u : Stage) → has_given q carrier ≡ false → BeforeOpen true q does.on.took does.on.put u → IsPut q
    by_free u free (stays a b is) = absurd (some b)
    by_free u free (opens_by peer unit o front later apart is others answer put_later apart_too no_answer ans so w) =
        not_given peer unit o front later is free

    by_stage : (x : Stage) → stage_at q carrier ≡ x → Life true q x does.on.took does.on.put (stage_at q new.end.end.carrier) → IsPut q
    by_stage past is w = absurd (some w.none_put)
    by_stage (amid peer) is w =
        let (link, here) = linked_by (is_some carrier.ended) (has_given q carrier) (value_at q carrier.live) peer is in
        record {
          peer = peer;
          goes = gives_so peer [] does.on.put does.on.took (stage_at q new.end.end.carrier) w tt refl;
          homed = known (linked_home local (whole_of f) t followed places wholes q peer link ((grind (arith, wholes)) ∙ here));
        }
    by_stage early is w = by (has_given q carrier) refl
      where
        by : (b : Bool) → has_given q carrier ≡ b → IsPut q
        by true has =
            by_opening (has_given q new.end.end.carrier) (stage_at q new.end.end.carrier) (asked_so q carrier has is).1
            (does.first q positive has is)
        by false free = by_free (stage_at q new.end.end.carrier) free w

    is_put : IsPut q
    is_put = by_stage (stage_at q carrier) refl (does.life q positive)

  pub units_marked : AllByRecursion (IsMarked Left s t) does.on.put
  units_marked =
      turn_marked Left true (begin true local) deeds turn old new step does.on f s t no_zero (grind (arith, is_put, goes))
