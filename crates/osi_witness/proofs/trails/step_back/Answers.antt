use Rattle.std.proofs.Common.{◌≡◌, ◌∙◌, List, None, Some, ℕ, ap, arith, refl, sym}
use Rattle.std.specs.List.{slice_get}
use Rattle.osi_witness.specs.Streams.{tsdus_of}
use Rattle.osi_witness.specs.Trails.{remark_of}
use Rattle.osi_witness.specs.Units.{words_of}
use Rattle.osi_witness.proofs.a_run_is_read_off_backwards.{found_step, goes_read, step_to}
use Rattle.osi_witness.proofs.trails.step_back.Goals as goal

pub returns-in_default-clause-none : goal.returns-in_default-clause-none
returns-in_default-clause-none c up comes =
    let k = c.args.kept.now in
    let none : None ≡ slice_get (words_of c.tsdu-tsdu.result.now) k.place = grind arith in
    let unread : (remark_of (tsdus_of c.args.own.now) k).word ≡ None =
    ap (λ (u : List ℕ). slice_get (words_of u) k.place) (sym c.tsdu-tsdu.ensures) ∙ sym none in
    goes_read (tsdus_of c.args.heard.now) (remark_of (tsdus_of c.args.own.now) k) c.args.after.now comes.0.taken comes.0.standing unread comes.2

pub returns-clause-some : goal.returns-clause-some
returns-clause-some c =
    let k = c.args.kept.now in
    let is : c.in_ok-before.field-0 ≡ Some (c.in-Some-2.before, c.in-Some-2.step) = grind arith in
    let found = found_step _ c.args.members.now c.in_ok-before.field-0 c.in-Some-2.before c.in-Some-2.step is c.in_ok-before.ensures.some in (
      found.0,
      step_to _ c.in-Some-2.before c.in-Some-2.step found.1 (tsdus_of c.args.own.now) k c.tsdu-tsdu.result.now c.args.most
          c.in_ok-latest.latest _ c.in_ok-latest.ensures c.tsdu-tsdu.ensures c.in-Some.ensures refl refl
          (record { tsdu = refl; place = refl }) refl c.if-after-kept.false,
    )
