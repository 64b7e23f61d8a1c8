use Rattle.std.proofs.Common.{arith}
use Rattle.osi_side.proofs.Vocabulary.{◌∙◌, refl, sym, subst, ◌≡◌, ◌<◌, ℕ, false, List, length, Run, is_same, last_in}
use Rattle.osi_side.proofs.outlined.equal_tsdus_in_a_row_are_kept_once.{a_run_more, added_in, last_goes_on, once_more, room_more}
use Rattle.osi_side.proofs.heard.Heard.push.Goals as goal

pub invariant_of-self : goal.invariant_of-self
invariant_of-self c = grind (arith, last_goes_on)

pub returns-then-ends_with-clause-ok : goal.returns-then-ends_with-clause-ok
returns-then-ends_with-clause-ok c = grind (arith, once_more)

pub invariant_of-self-2 : goal.invariant_of-self-2
invariant_of-self-2 c =
    let runs = c.self.inside.runs.items in
    let x : Run = record { tsdu = c.args.tsdu; from = c.self.inside.count } in
    let more = a_run_more runs c.push.new.self.items x c.self.inside.count c.self.invariant.0 c.self.invariant.1 refl
    (λ l. subst (λ (t : List ℕ). is_same (last_in runs) t ≡ false) c.as_slice.ensures
    (subst (λ (r : List Run). is_same (last_in r) c.as_slice.result.now ≡ false) c.deref.ensures.value
    (sym (c.ends_with.ensures.same (subst (λ (r : List Run). 0 < length r) (sym c.deref.ensures.value) l)) ∙ c.if-ends_with.false)))
    c.in_ok-push.ensures.items in
    (more.0, more.1, grind (arith, room_more runs x, c.self.invariant.2))

pub returns-clause-ok : goal.returns-clause-ok
returns-clause-ok c =
    let x : Run = record { tsdu = c.args.tsdu; from = c.self.inside.count } in
    added_in c.self.inside.runs.items c.push.new.self.items x c.self.inside.count c.args.self.now refl c.in_ok-push.ensures.items
    c.self.view_is
