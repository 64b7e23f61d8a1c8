-- A unit of a whole calling end passes that is not judged: it changes no connection at the judge, and if it is of a line, that of a
-- connection which has lost its judgement. For the law on a whole end.
use Rattle.osi_blameless.proofs.transport.Vocabulary.{[], AllByRecursion, ap, arith, Bool, Class, Connect, Connection, Course, disconnected}
use Rattle.osi_blameless.proofs.transport.Vocabulary.{false, inl}
use Rattle.osi_blameless.proofs.transport.Vocabulary.{inr, Kept, Left, List, Local, None, NotJudged, Option, refl, request, Right}
use Rattle.osi_blameless.proofs.transport.Vocabulary.{slice_get, Some, subst}
use Rattle.osi_blameless.proofs.transport.Vocabulary.{sym, takes, Traffic, true, Two, unit as passing, Value, Whole, ℕ, ◌&&◌, ◌++◌, ◌∙◌}
use Rattle.osi_blameless.proofs.transport.Vocabulary.{◌∷◌, ◌≡◌, ◌⊎◌}
use Rattle.osi_blameless.proofs.transport.small_facts_that_many_lemmas_use.{and_false, both, no_list}
use Rattle.osi_blameless.proofs.transport.by_line.a_unit_of_the_end_passes.{own_kept, own_passes, own_peers, put_first}
use Rattle.osi_blameless.proofs.transport.by_line.each_connection_has_its_line.{followed_at, followed_on, AreSettled, Followed}
use Rattle.osi_blameless.proofs.transport.by_line.each_connection_has_its_line.{Following, IsAnswer, IsAsking}
use Rattle.osi_blameless.proofs.transport.by_line.each_connection_has_its_line.{IsOwned}
use Rattle.osi_blameless.proofs.transport.by_line.each_connection_has_its_line.{IsSpare, all_so, asking, idle_line, is_tracked, of}
use Rattle.osi_blameless.proofs.transport.by_line.each_connection_has_its_line.{put_some, stray}
use Rattle.osi_blameless.proofs.transport.by_line.each_connection_has_its_line.{why_before}
use Rattle.osi_blameless.proofs.transport.requests.left_selects_no_class.{left_class}
use Rattle.osi_blameless.proofs.transport.names.names_stay_apart_though_one_is_lost.{AreNamedApart}
use Rattle.osi_blameless.proofs.transport.names.what_belongs_to_no_open_connection.{strays_last}
use Rattle.osi_blameless.proofs.transport.requests.what_lasts_at_the_judge.{lasts_passing}
use Rattle.osi_blameless.proofs.transport.connections.what_the_other_side_closes.{IsSane}
use Rattle.osi_blameless.proofs.transport.connections.which_units_are_for_a_connection.{IsOf, picked_first, picked_rest, is_ours, leads}
use Rattle.osi_blameless.proofs.transport.connections.which_units_are_for_a_connection.{ours, ours_is}
use Rattle.osi_blameless.proofs.transport.connections.a_line_since_its_connection_opened.{LostPassed, known as known_here, lost_passes}

-- ---- what the judge finds of a unit of a connection that has lost its judgement

-- it is not judged, and changes no connection
pub record IsIgnored (u : Value) (s : Traffic) : Type 0 where
  pub found : (takes Left u s).told.finding ≡ NotJudged
  pub same : (takes Left u s).state.connections ≡ s.connections

-- ---- at the end

module _ (local : Local) (w : Whole) (f : Followed local w) (sane : IsSane w.judge) (peers : AreNamedApart Right w.judge.connections)
    (u : Value) (rest : List Value) (e : w.put ≡ u ∷ rest) (begun : w.begun ≡ true) (left : w.judge.course.left_stopped ≡ false) where
  abbrev cs : List Connection
  cs = w.judge.connections

  abbrev course : Course
  course = (takes Left u w.judge).state.course

  abbrev strays : Bool
  strays = w.judge.course.disconnects.strays

  strays_on : strays ≡ true → course.disconnects.strays ≡ true
  strays_on h = strays_last (passing Left u) w.judge h

  -- ---- the unit is of the line of this connection, which has lost its judgement

  module _ (p : ℕ) (c : Connection) (at : slice_get cs p ≡ Some c) (tracked : is_tracked c ≡ true)
      (g : Following local w.put w.begun strays w.end w.coming c) (mine : is_ours g.r g.peer u ≡ true) (lost : c.is_judged ≡ false) where
    ours_so_far : u ∷ ours g.r g.peer rest ≡ g.line.put ++ g.spare
    ours_so_far = sym (picked_first (is_ours g.r g.peer) u rest mine) ∙ ap (λ (l : List Value). ours g.r g.peer l) (sym e) ∙ g.put_is

    spares_on : (spare : List Value) → AllByRecursion (IsSpare strays g.r g.peer) spare →
        AllByRecursion (IsSpare course.disconnects.strays g.r g.peer) spare
    spares_on spare h = grind (arith, all_so, strays_on)

    -- a spare DC
    module _ (none : g.line.put ≡ []) where
      spare_so : g.spare ≡ u ∷ ours g.r g.peer rest
      spare_so = sym (ours_so_far ∙ ap (λ (l : List Value). l ++ g.spare) none)

      spare_head : IsSpare strays g.r g.peer u × AllByRecursion (IsSpare strays g.r g.peer) (ours g.r g.peer rest)
      spare_head = subst (AllByRecursion (IsSpare strays g.r g.peer)) spare_so g.spares

      pop_spare : Following local rest false course.disconnects.strays w.end w.coming c
      pop_spare = record {
        r = g.r;
        peer = g.peer;
        line = g.line;
        left = g.left;
        right = g.right;
        tracks = g.tracks;
        judge = g.judge;
        spare = ours g.r g.peer rest;
        put_is = ap (λ (l : List Value). l ++ ours g.r g.peer rest) (sym none);
        spares = spares_on (ours g.r g.peer rest) spare_head.1;
        gone = λ some. g.gone (λ h. no_list u (ours g.r g.peer rest) (sym spare_so ∙ h));
        begun_is = λ first. idle_line g.r g.peer g.line g.tracks none;
        row = g.row;
        calm = g.calm;
      }

    -- the first unit that the line has put
    module _ (v : Value) (vs : List Value) (some : g.line.put ≡ v ∷ vs) where
      parts : (us : List Value) × ((g.line.put ≡ u ∷ us) × (ours g.r g.peer rest ≡ us ++ g.spare))
      parts = put_first local w f sane peers u (ours g.r g.peer rest) g.line.put g.spare ours_so_far (put_some v vs g.spare g.line.put some)

      line_begun : g.line.begun ≡ true
      line_begun = grind (arith, put_some, leads, is_ours, both)

      seen_so : w.judge.course.class_seen ≡ Some Two
      seen_so =
          f.seen p c at tracked (known_here Left w.judge peers g.r g.peer g.line g.tracks u parts.0 parts.1.0 line_begun p c at g.judge)

      passes : LostPassed Left w.judge g.r g.peer g.line u parts.0 p c
      passes =
          lost_passes Left w.judge peers g.r g.peer g.line g.tracks u parts.0 parts.1.0 line_begun p c at g.judge left seen_so lost

      pop_put : Following local rest false course.disconnects.strays w.end w.coming c
      pop_put = followed_on g (record g.line { put = parts.0; begun = false; judge = c }) passes.tracks refl refl refl refl refl parts.1.1
          (spares_on g.spare g.spares) (λ first. refl) (λ j. j)

      put_ignored : IsIgnored u w.judge
      put_ignored = record { found = passes.found; same = passes.conns }

    pop_by : (l : List Value) → g.line.put ≡ l → Following local rest false course.disconnects.strays w.end w.coming c
    pop_by [] none = pop_spare none
    pop_by (v ∷ vs) some = pop_put v vs some

    -- such a unit is not judged, or a DC for a DR that closed nothing
    pub lost_by : (l : List Value) → g.line.put ≡ l → IsIgnored u w.judge ⊎ ((u ≡ disconnected g.peer g.r) × (strays ≡ true))
    lost_by [] none = let k = (spare_head none).0 in inr (k.is, k.strays)
    lost_by (v ∷ vs) some = inl (put_ignored v vs some)

  -- ---- all lines

  module _ (ignored : IsIgnored u w.judge) where
    judged_not : (p : ℕ) (c : Connection) → slice_get cs p ≡ Some c → is_tracked c ≡ true →
        (g : Following local w.put w.begun strays w.end w.coming c) → is_ours g.r g.peer u ≡ true → (b : Bool) → c.is_judged ≡ b →
        c.is_judged ≡ false
    judged_not p c at tracked g mine false j = j
    judged_not p c at tracked g mine true j =
        let own = subst (λ (i : ℕ). IsOf i c.right.reference u) (sym g.left)
        (subst (λ (i : ℕ). IsOf g.r i u) (sym g.right) (ours_is g.r g.peer u mine)) in
        absurd (cc (sym (own_kept local w f sane peers u rest p c e begun left at tracked own j) ∙ ignored.found))

    line_by : (p : ℕ) (c : Connection) → slice_get cs p ≡ Some c → is_tracked c ≡ true →
        (g : Following local w.put w.begun strays w.end w.coming c) → (b : Bool) → is_ours g.r g.peer u ≡ b →
        Following local rest false course.disconnects.strays w.end w.coming c
    line_by p c at tracked g false other = followed_at g
        (sym (picked_rest (is_ours g.r g.peer) u rest other) ∙ ap (λ (l : List Value). ours g.r g.peer l) (sym e))
        (grind (arith, all_so, strays_on))
        (ap (λ (l : List Value). w.begun && leads (is_ours g.r g.peer) l) e ∙ ap (λ (b : Bool). w.begun && b) other ∙ and_false w.begun)
        g.row
    line_by p c at tracked g true mine =
        pop_by p c at tracked g mine (judged_not p c at tracked g mine c.is_judged refl) g.line.put refl

    owned_on : (v : Value) → IsOwned w.judge v → IsOwned (record { connections = cs; course = course }) v
    owned_on v (asking x is) = asking x is
    owned_on v (of p c at tracked own) = of p c at tracked own
    owned_on v (stray m source is k) = stray m source is (strays_on k)

    ignored_so : Followed local (record w { put = rest; begun = false; judge = record { connections = cs; course = course } })
    ignored_so =
        let (first, owned) = subst (AllByRecursion (λ (v : Value). IsOwned w.judge v)) e f.owned in
        let (none, requests) = subst (AllByRecursion (λ (v : Value). (y : Connect) → v ≡ request y → IsAsking local w.end w.coming y)) e
        f.requests in
        let (alone, settled) = subst (AllByRecursion (AreSettled cs w.put w.end.given)) e f.settled in
        let lasts = lasts_passing (passing Left u) w.judge in
        record {
          lines = λ i c at tracked.
              let g = f.lines i c at tracked in line_by i c at tracked g (is_ours g.r g.peer u) refl;
          waiting = f.waiting;
          owned = all_so (λ v. IsOwned w.judge v) (λ v. IsOwned (record { connections = cs; course = course }) v) rest
              (λ v k. owned_on v k) owned;
          linked = f.linked;
          answers = all_so (λ v. IsAnswer w.judge.course.loose cs w.end v) (λ v. IsAnswer course.loose cs w.end v) w.coming
              (λ v h m y k last why. h m y k last (why_before w.judge.course.loose course.loose lasts.firm why)) f.answers;
          requests = requests;
          two = λ r t. lasts.two (f.two r t);
          silent = f.silent;
          zero = subst (λ (k : Option Class). (k ≡ None) ⊎ (k ≡ Some Two)) (sym (left_class u w.judge)) f.zero;
          some = λ h. absurd (cc h);
          few = f.few;
          seen = λ i c at tracked known. lasts.seen (f.two c.left.reference (i, c, at, tracked, refl)) (f.seen i c at tracked known);
          settled = all_so (AreSettled cs w.put w.end.given) (AreSettled cs rest w.end.given) rest (grind arith) settled;
          lost = f.lost;
          shut = f.shut;
        }

    pub ignored_passes : Followed local (record w { put = rest; begun = false; judge = (takes Left u w.judge).state })
    ignored_passes = subst (λ (l : List Connection). Followed local (record w {
      put = rest;
      begun = false;
      judge = record { connections = l; course = course };
    })) (sym ignored.same) ignored_so

    pub ignored_peers : AreNamedApart Right (takes Left u w.judge).state.connections
    ignored_peers = subst (AreNamedApart Right) (sym ignored.same) peers

-- ---- the unit that passes

-- It is right, or not judged: a DR has passed that closed nothing, or a connection has lost its judgement. All holds after it.
pub record Passed (local : Local) (w : Whole) (u : Value) (rest : List Value) : Type 0 where
  pub fine : ((takes Left u w.judge).told.finding ≡ Kept) ⊎ (((takes Left u w.judge).told.finding ≡ NotJudged)
      × ((w.judge.course.disconnects.strays ≡ true) ⊎ (w.judge.course.loose ≡ true)))
  pub followed : Followed local (record w { put = rest; begun = false; judge = (takes Left u w.judge).state })
  pub peers : AreNamedApart Right (takes Left u w.judge).state.connections

pub own_goes : (local : Local) (w : Whole) (f : Followed local w) (sane : IsSane w.judge) (peers : AreNamedApart Right w.judge.connections)
    (u : Value) (rest : List Value) (p : ℕ) (c : Connection) (e : w.put ≡ u ∷ rest) (begun : w.begun ≡ true)
    (left : w.judge.course.left_stopped ≡ false) (at : slice_get w.judge.connections p ≡ Some c) (tracked : is_tracked c ≡ true)
    (own : IsOf c.left.reference c.right.reference u) → c.is_judged ≡ true → Passed local w u rest
own_goes local w f sane peers u rest p c e begun left at tracked own judged = record {
  fine = inl (own_kept local w f sane peers u rest p c e begun left at tracked own judged);
  followed = own_passes local w f sane peers u rest p c e begun left at tracked own judged;
  peers = own_peers local w f sane peers u rest p c e begun left at tracked own judged;
}
