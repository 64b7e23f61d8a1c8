use Rattle.std.proofs.Common.{arith}
use Rattle.osi_side.proofs.Vocabulary.{refl, sym, subst, ℕ, ◌<◌, IfSome, Seen, Goes, stays}
use Rattle.osi_side.specs.Still.{LeavesAsItIs}
use Rattle.osi_side.proofs.told.how_a_session_comes_on.{comes_next, stands_stop}
use Rattle.osi_side.proofs.told.the_nearest_of_all_sessions_is_told.{goes_next}
use Rattle.osi_side.proofs.standings.stands_behind.Goals as goal

pub takes-init : goal.takes-init
takes-init c = grind (arith, stays)

pub takes-preserved : goal.takes-preserved
takes-preserved c = grind (arith, comes_next, goes_next)

pub takes-preserved-in-Some : goal.takes-preserved-in-Some
takes-preserved-in-Some c =
    let us = c.args.heard.now in
    let next = c.in-Some.next in record {
      comes = comes_next us c.args.member c.takes.at next (Goes next) refl c.takes.invariant.comes c.in-Some.ensures.0;
      goes = goes_next us c.takes.at next c.args.member (Goes next)
          (subst (λ (n : ℕ). c.takes.at.taken < n) c.len.ensures c.takes-test.true) refl c.in-Some.ensures.0 c.takes.invariant.goes;
      still = subst (λ (s : Seen). IfSome c.takes.still (λ place. LeavesAsItIs us place s)) (sym c.in-Some.ensures.1)
          c.takes.invariant.still;
    }

pub returns-in-Stops : goal.returns-in-Stops
returns-in-Stops c =
    stands_stop c.args.heard.now c.args.member c.takes.at c.stands_at.result c.in-Stops.owes c.in_ok-next.field-0 c.stands_at.ensures
    (subst (λ (n : ℕ). c.takes.at.taken < n) c.len.ensures c.takes-test.true)
    c.in-Stops.is c.in_ok-next.ensures c.takes.invariant.comes c.takes.invariant.goes
