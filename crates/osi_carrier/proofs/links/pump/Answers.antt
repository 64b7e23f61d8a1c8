use Rattle.osi_carrier.proofs.Vocabulary.{any_standing, drained, ◌∷◌, ◌≡◌, next, given, Gives, written_by, ℕ, take, ap, subst, ◌∙◌, arith}
use Rattle.osi_carrier.proofs.written.all_that_a_link_gives.{pumping_next, pumping_full, pumping_room, pumping_short}
use Rattle.osi_carrier.proofs.written.what_needs_memory_does_something.{some_written}
use Rattle.osi_carrier.proofs.links.pump.Goals.{In-Some}
use Rattle.osi_carrier.proofs.links.pump.Goals as goal

-- the link gives this unit, and then the others
gives_here : (c : In-Some) →
    drained (any_standing c.units.link)
    ≡ record {
      units = given c.in-Some.unit ∷ (drained (any_standing c.next_out.follows.lender-at-none)).units;
      link = (drained (any_standing c.next_out.follows.lender-at-none)).link;
    }
gives_here c =
    let now = any_standing c.units.link in
    let then = any_standing c.next_out.follows.lender-at-none in
    c.all_is_given.ensures.some now then (given c.in-Some.unit) (omega arith)
    (subst (λ r. Gives r (next now) now then) c.in-Some.is c.next_out.follows.holds-at-none)

pub units-preserved : goal.units-preserved
units-preserved c =
    let e = gives_here (goal.at.units-preserved c).In-Some in
    let took = c.in-Ok.ensures.spare in
    let less = pumping_room c.args.peer _ _ (given c.in-Some.unit) e in (
      pumping_next _ _ _ _ _ _ _ (given c.in-Some.unit) c.units.invariant.0 e c.in-Ok.ensures.ok,
      λ enough. (let before = c.units.invariant.1 enough in omega arith),
    )

pub returns-in_default-put_given : goal.returns-in_default-put_given
returns-in_default-put_given c =
    let first = any_standing c.args.link.now in
    let short = pumping_short c.args.peer first _ _ (given c.in-Some.unit) _ _
    (gives_here (goal.at.returns-in_default-put_given c).In-Some) c.units.invariant.1 c.in_default-put_given.ensures.full in
    record {
      link = tt;
      ok = tt;
      pumped = tt;
      err = c.truncate.ensures.items ∙ ap (λ (n : ℕ). take n c.put_given.new.out.items) c.len-before.ensures.value
          ∙ pumping_full _ _ _ _ _ _ c.units.invariant.0 c.in_default-put_given.ensures.err;
      needs = some_written (written_by c.args.peer first) c.args.out.now.spare (λ enough. omega arith);
      enough = λ enough. absurd (omega arith);
    }
