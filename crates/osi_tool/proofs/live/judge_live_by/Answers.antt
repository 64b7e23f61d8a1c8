use Rattle.std.proofs.Common.{◌≡◌, List, ℕ, true, subst, arith}
use Rattle.osi_tool.specs.Show.{BeginsToAppend}
use Rattle.osi_tool.proofs.what_is_certain_is_written.{found_in_part, if_write_fails}
use Rattle.osi_tool.proofs.live.judge_live_by.Goals as goal

pub returns-in_err-write_text-clause-write : goal.returns-in_err-write_text-clause-write
returns-in_err-write_text-clause-write g c =
    let contents = g.W.Write.contents in
    let all = g.R.Read.remaining c.args.reader.now in
    let old = contents c.args.writer.now in
    let mid = contents c.judgement_live.new.writer in
    let new = contents c.write_text.new.writer in
    let judgement = c.in_ok-judgement.judgement in
    if_write_fails c.from_residual-in_err-write_text.result _ (
      grind (arith, c.in_err-write_text.ensures.failed),
      found_in_part all old mid new judgement.lines.items judgement.status c.in_ok-judgement.ensures.told c.in_ok-judgement.ensures.judged
          (subst (λ (t : List ℕ). BeginsToAppend mid new t) c.as_slice.ensures.value c.in_err-write_text.ensures.begun),
    )
