-- A DC of the other side passes that answers nothing: the lines of its connection may take it, and nothing else changes.
-- For the law on a whole end.
use Rattle.osi_blameless.proofs.transport.Vocabulary.{[], after_finding, ap, arith, Bool, Connect, Connection, eqb-true, false, Finding}
use Rattle.osi_blameless.proofs.transport.Vocabulary.{finding_of}
use Rattle.osi_blameless.proofs.transport.Vocabulary.{HasFieldsInRange, Left, Line, List, Local, NotJudged, passes_other, reach_of, refl}
use Rattle.osi_blameless.proofs.transport.Vocabulary.{request, Right}
use Rattle.osi_blameless.proofs.transport.Vocabulary.{Some, subst, sym, takes, Traffic, true, Two, Value, Whole, ◌++◌, ◌∙◌, ◌∷◌, ◌≡◌, ◌≢◌}
use Rattle.osi_rules.specs.declared.findings.Reach.TheVariants as reach
use Rattle.osi_blameless.proofs.transport.small_facts_that_many_lemmas_use.{and_first, and_second, differ, is_false, judged_same}
use Rattle.osi_blameless.proofs.transport.small_facts_that_many_lemmas_use.{open_or_closing}
use Rattle.osi_blameless.proofs.transport.by_line.a_dc_for_a_stray_dr_passes.{not_due}
use Rattle.osi_blameless.proofs.transport.connections.no_two_open_connections_have_one_peer.{left_open}
use Rattle.osi_blameless.proofs.transport.by_line.a_unit_of_the_other_side_passes.{dc_no_cc}
use Rattle.osi_blameless.proofs.transport.by_line.what_has_come_with_one_unit_more.{following_other, row_add, waiting_dc, early_other}
use Rattle.osi_blameless.proofs.transport.by_line.each_connection_has_its_line.{AreGiven, Followed, Following, IsAnswer, IsAsking}
use Rattle.osi_blameless.proofs.transport.by_line.each_connection_has_its_line.{IsNoCc, all_so, is_tracked}
use Rattle.osi_blameless.proofs.transport.connections.which_unit_of_the_other_side_passes.{IsIdle}
use Rattle.osi_blameless.proofs.transport.names.what_keeps_names_apart.{Sound}
use Rattle.osi_blameless.proofs.transport.names.names_stay_apart_though_one_is_lost.{AreNamedApart, each_sound}
use Rattle.osi_blameless.proofs.transport.connections.what_the_other_side_closes.{IsSane}
use Rattle.osi_blameless.proofs.transport.connections.which_units_are_for_a_connection.{is_dc, names, picked_more}
use Rattle.osi_blameless.proofs.transport.small_facts_that_many_lemmas_use.{all_add}
use Rattle.osi_blameless.proofs.transport.connections.a_line_since_its_connection_opened.{tracks_on}

module _ (local : Local) (w : Whole) (f : Followed local w) (sane : IsSane w.judge) (peers : AreNamedApart Right w.judge.connections)
    (v : Value) (ranges : HasFieldsInRange v) (t : IsIdle Right v w.judge (takes Right v w.judge)) where
  abbrev more : List Value
  more = w.coming ++ v ∷ []

  -- it is not due on a connection that left has not closed, nor judged on one that has lost its judgement
  spared : (c : Connection) → Sound c → is_tracked c ≡ true → (j : Bool) → c.is_judged ≡ j →
      finding_of Right w.judge.course false c v ≡ NotJudged
  spared c sound tracked j lost = grind (arith, is_false, open_or_closing, left_open, and_first, and_second, judged_same, not_due)

  not_all : (g : Finding) → g ≡ NotJudged → reach_of (Some Two) g ≢ reach.Everything
  not_all g e h = cc (sym (ap (λ (x : Finding). reach_of (Some Two) x) e) ∙ h)

  line_takes : (c : Connection) → Sound c → is_tracked c ≡ true →
      (g : Following local w.put w.begun w.judge.course.disconnects.strays w.end w.coming c) → names g.r v ≡ true →
      Following local w.put w.begun w.judge.course.disconnects.strays w.end more c
  line_takes c sound tracked g named =
      let line : Line = record g.line { coming = g.line.coming ++ v ∷ [] } in
      let is : finding_of Right w.judge.course false g.line.judge v ≡ NotJudged =
      ap (λ (x : Connection). finding_of Right w.judge.course false x v) g.judge ∙ spared c sound tracked c.is_judged refl in
      record {
        r = g.r;
        peer = g.peer;
        line = line;
        left = g.left;
        right = g.right;
        tracks = tracks_on Left g.r g.peer g.line line (passes_other w.judge.course false v ∷ []) g.tracks (
          line,
          (
            ranges,
            grind (arith, eqb-true),
            not_all (finding_of Right w.judge.course false g.line.judge v) is,
            ap (λ (x : Finding). record g.line { judge = after_finding Right x v g.line.judge; coming = g.line.coming ++ v ∷ [] }) (sym is),
          ),
          refl,
        );
        judge = g.judge;
        spare = g.spare;
        put_is = g.put_is;
        spares = g.spares;
        gone = g.gone;
        begun_is = g.begun_is;
        row = row_add local w.end w.coming g.r g.peer g.line line v named refl refl g.row;
        calm = λ j. all_add IsNoCc g.line.coming v (g.calm j) (dc_no_cc v (grind (arith, is_dc)));
      }

  line_idle : (c : Connection) → Sound c → is_tracked c ≡ true →
      (g : Following local w.put w.begun w.judge.course.disconnects.strays w.end w.coming c) → (b : Bool) → names g.r v ≡ b →
      Following local w.put w.begun w.judge.course.disconnects.strays w.end more c
  line_idle c sound tracked g true e = line_takes c sound tracked g e
  line_idle c sound tracked g false e =
      following_other local w.put w.begun w.judge.course.disconnects.strays w.judge.course.disconnects.strays w.end w.coming c v
      (λ h. h) g e

  still_asking : (x : Connect) → IsAsking local w.end w.coming x → IsAsking local w.end more x
  still_asking x a = grind (arith, early_other, picked_more, all_add, is_dc)

  idle_so : Followed local (record w { coming = more })
  idle_so = record {
    lines = λ i c at tracked.
        let g = f.lines i c at tracked in
        line_idle c (each_sound Right w.judge.connections sane.apart peers i c at) tracked g (names g.r v) refl;
    waiting = λ i c at waits. waiting_dc local w.end w.coming c v (grind (arith, is_dc)) (f.waiting i c at waits);
    owned = f.owned;
    linked = f.linked;
    answers = all_add (λ u. IsAnswer w.judge.course.loose w.judge.connections w.end u) w.coming v f.answers
        (λ m x e lasts why. absurd (dc_no_cc v (grind (arith, is_dc)) m x e));
    requests = all_so (λ u. (x : Connect) → u ≡ request x → IsAsking local w.end w.coming x)
        (λ u. (x : Connect) → u ≡ request x → IsAsking local w.end more x) w.put (λ u h x e. still_asking x (h x e)) f.requests;
    two = f.two;
    silent = f.silent;
    zero = f.zero;
    some = f.some;
    few = all_add (AreGiven w.end.given) w.coming v f.few (λ none m e. differ (is_dc v) (grind (arith, is_dc)) none);
    seen = f.seen;
    settled = f.settled;
    lost = f.lost;
    shut = f.shut;
  }

  pub idle_passes : Followed local (record w { judge = (takes Right v w.judge).state; coming = more })
  idle_passes = subst (λ (s : Traffic). Followed local (record w { judge = s; coming = more })) (sym t.same) idle_so

  pub idle_peers : AreNamedApart Right (takes Right v w.judge).state.connections
  idle_peers = subst (λ (s : Traffic). AreNamedApart Right s.connections) (sym t.same) peers
