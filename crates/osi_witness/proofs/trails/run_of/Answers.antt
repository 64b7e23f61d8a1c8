use Rattle.std.proofs.Common.{◌≡◌, ◌∙◌, ◌≤◌, ◌+◌, ◌-◌, List, Some, ap, arith, drop, min, reverse, subst, sym, take, ℕ}
use Rattle.osi_side.proofs.walked.a_walk_loses_no_explanation.{at_none, at_some}
use Rattle.osi_side.specs.Onward.{IsAmong}
use Rattle.osi_side.specs.Sides.{observed}
use Rattle.osi_side.specs.declared.members.Member.{Member}
use Rattle.osi_witness.specs.Backwards.{HasRoom, StepsTo, last_before}
use Rattle.osi_witness.specs.Found.{ComesFrom}
use Rattle.osi_witness.specs.Linked.{AreLinked, Passed, last_kept}
use Rattle.osi_witness.specs.Streams.{tsdus_of}
use Rattle.osi_witness.specs.Trails.{Runs, remark_of}
use Rattle.osi_witness.specs.Whole.{units_kept}
use Rattle.osi_witness.specs.declared.streams.Kept.{Kept}
use Rattle.osi_witness.specs.declared.streams.Said.{Said}
use Rattle.osi_witness.proofs.a_run_is_read_off_backwards.{less_room, one_before}
use Rattle.osi_witness.proofs.the_sessions_that_are_kept_are_linked.{comes_at, outlines_passed}
use Rattle.osi_witness.proofs.trails.run_of.Goals as goal

pub returns-in_default-2-clause-found : goal.returns-in_default-2-clause-found
returns-in_default-2-clause-found c begin follows =
    let us = tsdus_of c.args.heard.now in
    let own = tsdus_of c.args.own.now in
    let b = c.args.own.now.begin.items in
    let ks = c.kept-kept.result.now in
    let i = c.units.number - 1 in
    let k = c.index-kept-number.result in
    let after = c.units.after in
    let up = c.units.invariant.up in
    let more = c.units-test.true in
    let passed : Passed (observed c.args.own.now.side).heard us =
    subst (λ (heard : List (List ℕ)). Passed heard us) (sym follows.1) (outlines_passed us) in
    let linked : AreLinked us b (units_kept own ks) ks =
    subst (λ (xs : List Kept). AreLinked us b (units_kept own xs) xs) (sym c.kept-kept.ensures) (follows.0.linked us passed) in
    let at : c.units.number ≡ i + 1 = omega (arith, more) in
    let here : IsAmong after (last_kept b (take (i + 1) ks)) =
    subst (λ (n : ℕ). IsAmong after (last_kept b (take n ks))) at c.units.invariant.here in
    let comes = comes_at us own b ks i k after linked (omega (arith, up, more)) c.index-kept-number.is here in
    let members : last_kept b (take i ks) ≡ c.kept_before-in-units.result.now =
    ap (λ (xs : List Kept). last_kept b (take i xs)) c.kept-kept.ensures ∙ sym c.kept_before-in-units.ensures in
    at_none (after.taken ≤ k.before → ComesFrom us (remark_of own k) c.kept_before-in-units.result.now after → ⊥) c.in_ok-before.field-0
    c.in_default-2.not-Some c.in_ok-before.ensures.none comes.1
    (subst (λ (ms : List Member). ComesFrom us (remark_of own k) ms after) members comes.0)

pub units-preserved : goal.units-preserved
units-preserved c =
    let us = tsdus_of c.args.heard.now in
    let own = tsdus_of c.args.own.now in
    let b = c.args.own.now.begin.items in
    let ks = c.kept-kept.result.now in
    let i = c.units.number - 1 in
    let k = c.index-kept-number.result in
    let after = c.units.after in
    let from = c.in-Some-2.before in
    let x = c.in-Some-2.step in
    let xs = c.units.said.items in
    let up = c.units.invariant.up in
    let more = c.units-test.true in
    let at : c.units.number ≡ i + 1 = omega (arith, more) in
    let is : c.in_ok-before.field-0 ≡ Some (from, x) = grind arith in
    let step = at_some (λ (s : Member × Said). IsAmong s.0 c.kept_before-in-units.result.now × StepsTo own us c.units.most k s.0 s.1 after)
    c.in_ok-before.field-0 (from, x) is c.in_ok-before.ensures.some in
    let members : c.kept_before-in-units.result.now ≡ last_kept b (take i ks) =
    c.kept_before-in-units.ensures ∙ ap (λ (zs : List Kept). last_kept b (take i zs)) (sym c.kept-kept.ensures) in
    let lower : c.min-most.result ≡ min c.units.most c.most_before.result = c.min-most.ensures in
    let top : c.most_before.result ≡ last_before x = c.most_before.ensures in
    let room : c.min-most.result ≤ last_before x = omega (arith, lower, top) in
    let runs : Runs own us (drop (i + 1) ks) (reverse xs) after.taken after.standing =
    subst (λ (n : ℕ). Runs own us (drop n ks) (reverse xs) after.taken after.standing) at c.units.invariant.runs in
    record {
      up = omega (arith, up);
      here = subst (IsAmong from) members step.0;
      room = subst (λ (ys : List Said). HasRoom c.min-most.result (reverse ys)) (sym c.in_ok-push.ensures.items)
          (less_room xs x c.min-most.result room);
      runs = subst (λ (ys : List Said). Runs own us (drop i ks) (reverse ys) from.taken from.standing) (sym c.in_ok-push.ensures.items)
          (one_before own us ks xs i c.units.most k x from after (omega (arith, up, more)) c.index-kept-number.is step.1.is step.1.sends
          step.1.meets c.units.invariant.room runs);
    }
