use Rattle.std.proofs.Common.{◌≡◌, ◌∙◌, List, None, ap, arith, length, refl, subst, sym, take}
use Rattle.std.specs.List.{slice_get}
use Rattle.osi_message.specs.Reading.{word}
use Rattle.osi_spdu.specs.Units.{said_by}
use Rattle.osi_side.specs.Kept.{after_word}
use Rattle.osi_side.specs.Sides.{observed}
use Rattle.osi_side.specs.declared.members.Member.{Member}
use Rattle.osi_witness.specs.Linked.{AreAfter, last_kept}
use Rattle.osi_witness.specs.Units.{words_of}
use Rattle.osi_witness.specs.declared.streams.Kept.{Kept}
use Rattle.osi_witness.proofs.all_units_of_a_side_are_kept.{AreFirstOf, all_kept, one_kept}
use Rattle.osi_witness.proofs.the_sessions_that_are_kept_are_linked.{words_all, words_more}
use Rattle.osi_witness.proofs.streams.kept_after.Goals as goal

pub units-preserved : goal.units-preserved
units-preserved c =
    let ks = c.units.kept in
    let side = observed c.args.side.now in
    let words = words_of c.args.tsdu.now in
    let w = word (said_by c.in-Some.unit) in
    let from : c.last_members-from.result.now ≡ last_kept side.members ks.items =
    c.last_members-from.ensures ∙ ap (λ (ms : List Member). last_kept ms c.as_slice.result.now) c.members.ensures.value
    ∙ ap (λ (x : List Kept). last_kept side.members x) c.as_slice.ensures.value in
    record {
      first = subst (AreFirstOf c.args.tsdu.now c.args.number c.args.before) (sym c.in_ok-push.ensures.items)
          (one_kept c.args.tsdu.now c.args.number c.args.before c.len.result c.len-place.result ks.items _ w (c.len.ensures ∙ ks.ok.0)
          (c.len-place.ensures ∙ ks.ok.0) refl refl refl c.in-Some.ensures c.units.invariant.first);
      after = λ l.
          subst (λ (x : List Kept).
          AreAfter side.heard (length c.args.tsdu.now) c.args.before side.members (take (length x) words) x) (sym c.in_ok-push.ensures.items)
          (words_more side.heard (length c.args.tsdu.now) c.args.before c.len.result side.members words ks.items w _ (c.len.ensures ∙ ks.ok.0)
          c.in-Some.ensures (c.units.invariant.after l)
          (c.in_ok-members.ensures l ∙ ap (λ (ms : List Member). after_word side.heard (length c.args.tsdu.now) c.args.before ms w) from));
    }

pub returns-clause-units : goal.returns-clause-units
returns-clause-units c =
    let ks = c.units.kept in
    let none : None ≡ slice_get (words_of c.args.tsdu.now) c.len.result = grind arith in
    all_kept c.args.tsdu.now c.args.number c.args.before c.len.result ks.items (c.len.ensures ∙ ks.ok.0) none c.units.invariant.first

pub returns-clause-after : goal.returns-clause-after
returns-clause-after c l =
    let ks = c.units.kept in
    let side = observed c.args.side.now in
    let none : None ≡ slice_get (words_of c.args.tsdu.now) c.len.result = grind arith in
    words_all side.heard (length c.args.tsdu.now) c.args.before c.len.result side.members (words_of c.args.tsdu.now) ks.items
    (c.len.ensures ∙ ks.ok.0) none (c.units.invariant.after l)
