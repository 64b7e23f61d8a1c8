use Rattle.std.proofs.Common.{refl, subst, take, ℕ, List, ◌++◌}
use Rattle.osi_side.specs.Captures.{Capture, piece, stream}
use Rattle.osi_side.specs.declared.directions.Direction.TheVariants.{Left}
use Rattle.osi_report.specs.Openings.{Opens}
use Rattle.osi_c.proofs.a_piece_passes_to_a_judge.{none_passes, octets_known, on_err, still_known}
use Rattle.osi_c.proofs.judges.pass.Goals as goal

pub returns-clause-passes : goal.returns-clause-passes
returns-clause-passes c = record {
  knows = octets_known c.args.side (take c.in_ok-used.used c.args.octets.now) c.args.held.now _ c.in_ok-used.ensures.ok
      (subst (λ (z : List ℕ). (capture : Capture) → Opens c.args.held.now.opening (stream Left capture)
      → Opens c.pass.new.self (stream Left (capture ++ piece c.args.side z))) c.split_at.ensures.front c.pass.ensures)
      refl refl;
  told = refl;
  text = refl;
}

pub returns-in_err-used-clause-err : goal.returns-in_err-used-clause-err
returns-in_err-used-clause-err c =
    on_err c.from_residual.result _
    (none_passes c.args.side c.args.held.now _ (still_known c.args.held.now _ c.in_err-used.ensures.err refl refl refl) refl refl)
