-- A line since its connection was opened, at either side: what happens goes on, and a unit of the end passes, be the connection judged or
-- not. For the laws on whole ends.
use Rattle.osi_blameless.proofs.transport.Vocabulary.{[], Act, ActsAlong, after_finding, ap, arith, Bool, class_for, Connection}
use Rattle.osi_blameless.proofs.transport.Vocabulary.{course_after}
use Rattle.osi_blameless.proofs.transport.Vocabulary.{destination_of, Direction, eq-eqb, false, Finding, finding_of, found, found_on}
use Rattle.osi_blameless.proofs.transport.Vocabulary.{if◌then◌else◌}
use Rattle.osi_blameless.proofs.transport.Vocabulary.{is_named, is_open, is_silent, is_stopped, IsAtPlace, IsOpened, IsRight, Kept, Left}
use Rattle.osi_blameless.proofs.transport.Vocabulary.{Line, List, None}
use Rattle.osi_blameless.proofs.transport.Vocabulary.{NotJudged, one_told, other, Outcome, own, passes_own, position, position_or_len, refl}
use Rattle.osi_blameless.proofs.transport.Vocabulary.{Right, seen}
use Rattle.osi_blameless.proofs.transport.Vocabulary.{sent_on, set, slice_get, Some, Standing, subst, sym, takes, Traffic, true, Two}
use Rattle.osi_blameless.proofs.transport.Vocabulary.{uses_source, Value}
use Rattle.osi_blameless.proofs.transport.Vocabulary.{ℕ, ◌++◌, ◌∙◌, ◌∷◌, ◌≡◌, ◌≢◌}
use Rattle.osi_blameless.proofs.transport.small_facts_that_many_lemmas_use.{differ, judged_same, no_list, name_so}
use Rattle.osi_blameless.proofs.transport.names.a_right_unit_is_not_blamed.{first_there, is_first, named_of}
use Rattle.osi_blameless.proofs.transport.lines.a_unit_is_an_act_of_its_line.{after_is, found_is, takes_is}
use Rattle.osi_blameless.proofs.transport.lines.an_end_closes_last.{left_holds, right_holds, waits_open}
use Rattle.osi_blameless.proofs.transport.lines.an_open_end_is_fair.{open_is_fair, sent_judged, turned_line}
use Rattle.osi_blameless.proofs.transport.names.names_stay_apart_though_one_is_lost.{AreNamedApart, only_named}
use Rattle.osi_blameless.proofs.transport.connections.what_a_line_keeps_though_it_is_lost.{Keeps, line_keeps}
use Rattle.osi_blameless.proofs.transport.lines.what_holds_of_a_line.{Holds}
use Rattle.osi_blameless.proofs.transport.names.what_holds_of_one_item.{first_true}
use Rattle.osi_blameless.proofs.transport.connections.which_units_are_for_a_connection.{AllOurs, closes_with_none, open_with_link}
use Rattle.osi_blameless.proofs.transport.requests.while_no_class_is_selected.{set_same}
use Rattle.osi_blameless.proofs.transport.what_each_thing_keeps_all_of_them_keep.{along_join}
use Rattle.osi_blameless.proofs.transport.Vocabulary.{Acts}

pub record Tracks (d : Direction) (r peer : ℕ) (line : Line) : Type 0 where
  pub first : Line
  pub acts : List Act
  pub opened : IsOpened d r peer first
  pub along : ActsAlong d r peer first acts line

pub tracks_on : (d : Direction) (r peer : ℕ) (line after : Line) (more : List Act) → Tracks d r peer line →
    ActsAlong d r peer line more after → Tracks d r peer after
tracks_on d r peer line after more t h = record {
  first = t.first;
  acts = t.acts ++ more;
  opened = t.opened;
  along = along_join (Acts d r peer) t.acts more t.first line after t.along h;
}

-- be its connection judged or not
pub tracks_keep : (d : Direction) (r peer : ℕ) (line : Line) → Tracks d r peer line → Keeps d r peer line
tracks_keep d r peer line t = line_keeps d r peer t.first line t.acts t.opened t.along

-- seen from the side of the end
abbrev pub own_line : Direction → Line → Line
own_line Left line = line
own_line Right line = turned_line line

pub tracks_hold : (d : Direction) (r peer : ℕ) (line : Line) → Tracks d r peer line → line.judge.is_judged ≡ true →
    Holds r peer (own_line d line)
tracks_hold Left r peer line t judged = left_holds r peer t.first line t.acts t.opened t.along judged
tracks_hold Right r peer line t judged = right_holds r peer t.first line t.acts t.opened t.along judged

-- as long as the end has its link, it has not closed the connection
pub link_open : (d : Direction) (r peer : ℕ) (line : Line) → Tracks d r peer line → line.judge.is_judged ≡ true → (l : Standing) →
    line.end ≡ Some l → is_open (own d line.judge).phase ≡ true
link_open Left r peer line t judged l is = open_with_link r peer line (tracks_hold Left r peer line t judged) l is
link_open Right r peer line t judged l is = open_with_link r peer (turned_line line) (tracks_hold Right r peer line t judged) l is

-- if the end has closed the connection, and the judge has not seen that, the unit that closes it is to pass
pub close_waits : (d : Direction) (r peer : ℕ) (line : Line) → Tracks d r peer line → line.judge.is_judged ≡ true → line.end ≡ None →
    is_open (own d line.judge).phase ≡ true → line.put ≢ []
close_waits Left r peer line t judged gone up none =
    closes_with_none r peer line (tracks_hold Left r peer line t judged) gone up none
close_waits Right r peer line t judged gone up none =
    closes_with_none r peer (turned_line line) (tracks_hold Right r peer line t judged) gone up none

-- ---- a unit of the end passes

-- a reference of the other side names one connection
pub name_first : (d : Direction) (cs : List Connection) → AreNamedApart (other d) cs → (n p : ℕ) (c : Connection) →
    slice_get cs p ≡ Some c → is_named d n c ≡ true → position (is_named d n) cs ≡ Some p
name_first Left cs named n p c at is =
    let q = position_or_len (is_named Left n) cs in
    let first = is_first (is_named Left n) cs p c at is in
    let (e, there) = first_there (is_named Left n) cs p q c first in
    let so = first_true (is_named Left n) cs q e first there in
    grind (arith, only_named Right cs n named p q c e at there is so)
name_first Right cs named n p c at is =
    let q = position_or_len (is_named Right n) cs in
    let first = is_first (is_named Right n) cs p c at is in
    let (e, there) = first_there (is_named Right n) cs p q c first in
    let so = first_true (is_named Right n) cs q e first there in
    grind (arith, only_named Left cs n named p q c e at there is so)

-- of a connection that is judged: it is right
pub record RightPassed (d : Direction) (s : Traffic) (r peer : ℕ) (line : Line) (u : Value) (still : List Value) (p : ℕ) (c : Connection) :
    Type 0 where
  pub right : IsRight d c u
  pub found : found_on d s c u ≡ Kept
  pub kept : (takes d u s).told.finding ≡ Kept
  pub conns : (takes d u s).state.connections ≡ set s.connections p (sent_on d u c)
  pub course : (takes d u s).state.course ≡ course_after d c u true s.course
  pub tracks : Tracks d r peer (record line { put = still; begun = false; judge = sent_on d u c })
  pub judged : (sent_on d u c).is_judged ≡ true
  -- the end puts nothing after it has closed the connection, and has no link then
  pub none_left : is_open (own d (sent_on d u c)).phase ≡ false → still ≡ []
  pub linked : (l : Standing) → line.end ≡ Some l → is_open (own d (sent_on d u c)).phase ≡ true

-- of one that has lost its judgement
pub record LostPassed (d : Direction) (s : Traffic) (r peer : ℕ) (line : Line) (u : Value) (still : List Value) (p : ℕ) (c : Connection) :
    Type 0 where
  pub found : (takes d u s).told.finding ≡ NotJudged
  pub conns : (takes d u s).state.connections ≡ s.connections
  pub course : (takes d u s).state.course ≡ course_after d c u false s.course
  pub tracks : Tracks d r peer (record line { put = still; begun = false; judge = c })

module _ (d : Direction) (s : Traffic) (named : AreNamedApart (other d) s.connections) (r peer : ℕ) (line : Line) (t : Tracks d r peer line)
    (u : Value) (still : List Value) (put : line.put ≡ u ∷ still) (begun : line.begun ≡ true) (p : ℕ) (c : Connection)
    (at : slice_get s.connections p ≡ Some c) (judge : line.judge ≡ c) where
  keeps : Keeps d r peer line
  keeps = tracks_keep d r peer line t

  pub dest : destination_of u ≡ Some peer
  dest = (subst (AllOurs r peer) put keeps.ours).0.named

  right_now : c.is_judged ≡ true → IsRight d c u
  right_now judged =
      let fair = open_is_fair d r peer t.first line t.acts t.opened t.along begun (ap (λ (x : Connection). x.is_judged) judge ∙ judged) in
      grind (arith, put)

  named_by : (b : Bool) → c.is_judged ≡ b → is_named d peer c ≡ true
  named_by true judged = named_of (destination_of u) peer d c dest (right_now judged).named
  named_by false lost =
      let (known, is) = keeps.seen_so begun in
      grind (arith, name_so, eq-eqb)

  pub named_here : is_named d peer c ≡ true
  named_here = named_by c.is_judged refl

  pub known : is_silent (seen d c).phase ≡ false
  known = grind (arith, keeps.seen_so begun)

  module _ (going : is_stopped d s.course ≡ false) (class : class_for d s.course ≡ Some Two) where
    place : IsAtPlace d s peer p c
    place = record {
      judged = going;
      class = class;
      first = name_first d s.connections named peer p c at named_here;
      is = at;
    }

    abbrev finding : Connection → Finding
    finding x = finding_of d s.course (uses_source d s.connections u) x u

    course_so : (takes d u s).state.course ≡ (one_told d p c u s).state.course
    course_so = ap (λ (o : Outcome). o.state.course) (takes_is d u s peer p c place dest)

    -- the line, if this is found of the unit
    module _ (f : Finding) (is : finding c ≡ f) where
      conns_by : (takes d u s).state.connections ≡ set s.connections p (after_finding d f u c)
      conns_by = after_is d u s peer p c place dest ∙ ap (λ (x : Finding). set s.connections p (after_finding d x u c)) is

      tracks_by : Tracks d r peer (record line { put = still; begun = false; judge = after_finding d f u c })
      tracks_by =
          let after = record line { put = still; begun = false; judge = after_finding d (finding line.judge) u line.judge } in
          subst (λ (x : Connection). Tracks d r peer (record line { put = still; begun = false; judge = x }))
          (ap (λ (x : Connection). after_finding d (finding x) u x) judge ∙ ap (λ (x : Finding). after_finding d x u c) is)
          (tracks_on d r peer line after (passes_own s.course (uses_source d s.connections u) ∷ []) t
          (after, (u, (put, begun, refl)), refl))

    -- of a connection that is judged it is right
    module _ (judged : c.is_judged ≡ true) where
      kept : finding c ≡ Kept
      kept = judged_same c.is_judged (found d s.course (uses_source d s.connections u) c u) judged
          ∙ (right_now judged).kept s.course (uses_source d s.connections u)

      abbrev next : Connection
      next = sent_on d u c

      abbrev after : Line
      after = record line { put = still; begun = false; judge = next }

      next_judged : next.is_judged ≡ true
      next_judged = sent_judged d u c ∙ judged

      -- the end puts nothing after it has closed the connection
      none_by : (l : List Value) → still ≡ l → is_open (own d next).phase ≡ false → l ≡ []
      none_by [] e shut = refl
      none_by (v ∷ vs) e shut =
          let a = tracks_by Kept kept in
          differ (is_open (own d next).phase)
          (waits_open d r peer a.first after a.acts a.opened a.along next_judged (λ none. no_list v vs (sym e ∙ none))) shut

      pub right_passes : RightPassed d s r peer line u still p c
      right_passes = record {
        right = right_now judged;
        found = kept;
        kept = found_is d u s peer p c place dest ∙ kept;
        conns = conns_by Kept kept;
        course = course_so ∙ (grind (arith, kept));
        tracks = tracks_by Kept kept;
        judged = next_judged;
        none_left = λ shut. none_by still refl shut;
        linked = λ l is. link_open d r peer after (tracks_by Kept kept) next_judged l is;
      }

    module _ (lost : c.is_judged ≡ false) where
      not_judged : finding c ≡ NotJudged
      not_judged = ap (λ (b : Bool). if b then found d s.course (uses_source d s.connections u) c u else NotJudged) lost

      pub lost_passes : LostPassed d s r peer line u still p c
      lost_passes = record {
        found = found_is d u s peer p c place dest ∙ not_judged;
        conns = conns_by NotJudged not_judged ∙ set_same s.connections p c at;
        course = course_so ∙ (grind (arith, not_judged));
        tracks = tracks_by NotJudged not_judged;
      }
