use Rattle.std.proofs.Common.{◌≡◌, ◌∙◌, List, None, ℕ, arith, length, subst, sym}
use Rattle.osi_side.specs.Sides.{observed}
use Rattle.osi_witness.specs.Linked.{AreAfter, Leads}
use Rattle.osi_witness.specs.Units.{words_of}
use Rattle.osi_witness.specs.Whole.{AreUnitsOf, IsWhole}
use Rattle.osi_witness.proofs.all_units_of_a_side_are_kept.{stopped_whole, told_whole}
use Rattle.osi_witness.proofs.the_sessions_that_are_kept_are_linked.{stopped_leads, told_leads}
use Rattle.osi_witness.proofs.streams.Stream.judge.Goals.{in-Kept+in_ok-append-in-Kept, in-Broke, in-TooMany}
use Rattle.osi_witness.proofs.streams.Stream.judge.Goals as goal

pub returns-clause-whole : goal.returns-clause-whole
returns-clause-whole c h =
    let s = c.args.self.now in
    let tells = c.in_ok-tell.ensures.tells in
    let none : s.limit ≡ None = grind arith in
    elim c.match-finding.branch [
      | in-Kept+in_ok-append-in-Kept w ↦ subst IsWhole (sym w.self-is)
          (told_whole s _ c.args.number c.in_ok-kept.kept.items _ tells c.requires none (sym c.finding.ensures.value ∙ w.in-Kept.is)
          (subst (λ (u : List ℕ). AreUnitsOf u c.args.number s.before c.in_ok-kept.kept.items) c.tsdu.ensures
          c.in_ok-kept.ensures.units) w.in_ok-append-in-Kept.ensures.items h)
      | in-Broke w ↦ subst IsWhole (sym w.self-is)
          (stopped_whole s _ w.stop_at.new.self c.args.number tells w.stop_at.ensures.keeps w.stop_at.ensures.limit h)
      | in-TooMany w ↦ subst IsWhole (sym w.self-is)
          (stopped_whole s _ w.stop_at-in-TooMany.new.self c.args.number tells w.stop_at-in-TooMany.ensures.keeps
          w.stop_at-in-TooMany.ensures.limit h)
    ]

pub returns-clause-leads : goal.returns-clause-leads
returns-clause-leads c begin whole h =
    let s = c.args.self.now in
    let tells = c.in_ok-tell.ensures.tells in
    let none : s.limit ≡ None = grind arith in
    elim c.match-finding.branch [
      | in-Kept+in_ok-append-in-Kept w ↦ subst (Leads begin) (sym w.self-is)
          (told_leads begin s _ c.args.number c.in_ok-kept.kept.items _ tells none (sym c.finding.ensures.value ∙ w.in-Kept.is)
          (subst (λ (u : List ℕ). AreUnitsOf u c.args.number s.before c.in_ok-kept.kept.items) c.tsdu.ensures
          c.in_ok-kept.ensures.units)
          (subst (λ (u : List ℕ). AreAfter (observed s.side).heard (length u) s.before (observed s.side).members (words_of u)
          c.in_ok-kept.kept.items) c.tsdu.ensures (c.in_ok-kept.ensures.after tells.passed))
          w.in_ok-append-in-Kept.ensures.items whole h)
      | in-Broke w ↦ subst (Leads begin) (sym w.self-is)
          (stopped_leads begin s _ w.stop_at.new.self c.args.number tells w.stop_at.ensures.keeps w.stop_at.ensures.side
          w.stop_at.ensures.limit (λ k. let is = w.in-Broke.is in let v = c.finding.ensures.value in grind (arith, k, v, is)) h)
      | in-TooMany w ↦ subst (Leads begin) (sym w.self-is)
          (stopped_leads begin s _ w.stop_at-in-TooMany.new.self c.args.number tells w.stop_at-in-TooMany.ensures.keeps
          w.stop_at-in-TooMany.ensures.side
          w.stop_at-in-TooMany.ensures.limit (λ k. let is = w.in-TooMany.is in let v = c.finding.ensures.value in grind (arith, k, v, is)) h)
    ]
