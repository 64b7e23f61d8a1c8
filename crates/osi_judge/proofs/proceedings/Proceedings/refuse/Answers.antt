use Rattle.std.proofs.Common.{arith}
use Rattle.osi_judge.proofs.Vocabulary.{◌≡◌, ◌∙◌, ap, sym, subst, Bool, false, if◌then◌else◌, is_some, Reach, refused, refused_reach, Marks}
use Rattle.osi_judge.proofs.Vocabulary.{Course, way_of, marked, marks_of, moved, unread_mark, unread_moment, HoldsCourse}
use Rattle.osi_judge.proofs.no_break_was_before_the_first.{unread_earliest}
use Rattle.osi_judge.proofs.proceedings.Proceedings.refuse.Goals as goal

pub returns-clause-holds : goal.returns-clause-holds
returns-clause-holds c k h =
    let d = c.args.direction in
    let t = c.args.self.now.traffic in
    let m = unread_mark d c.args.at c.args.cause in
    let now : Course = record k { traffic = refused (way_of d) k.traffic } in
    let next : Course = moved (unread_moment d c.args.at c.args.cause k.sessions) now in
    let reach : c.refuse-reach.result ≡ refused_reach (way_of d) k.traffic = grind arith in
    let none : is_some (marks_of d k).halted ≡ false =
    ap (λ (z : Marks). is_some z.halted) (sym (c.marks.ensures k h)) ∙ sym c.is_some.ensures ∙ c.if-is_some.false in
    let p = c.mark.ensures.holds next (grind arith) in
    subst (λ (b : Bool). HoldsCourse c.mark.new.self (if b then k else marked m (refused_reach (way_of d) k.traffic) next)) (sym none)
    (subst (λ (r : Reach). HoldsCourse c.mark.new.self (marked m r next)) reach
    (record {
      traffic = p.traffic;
      sessions = p.sessions;
      left = p.left;
      right = p.right;
      first = p.first;
      order = unread_earliest d c.args.at c.args.cause c.refuse-reach.result now c.args.self.now.first c.mark.new.self.first
          c.mark.ensures.first h.order;
    }))
