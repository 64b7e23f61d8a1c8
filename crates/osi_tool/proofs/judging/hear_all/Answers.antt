use Rattle.std.proofs.Common.{List, ℕ, ◌++◌, take, subst, arith}
use Rattle.std.proofs.lemmas.Grind.{common_steps}
use Rattle.osi_report.specs.Hearing.{IsHeard}
use Rattle.osi_tool.proofs.what_is_read_is_heard.{heard_piece, reading_more}
use Rattle.osi_tool.proofs.judging.hear_all.Goals as goal

pub pieces-preserved : goal.pieces-preserved
pieces-preserved g c =
    let remaining = g.R.Read.remaining in
    let count = c.in_ok-count.count in
    record {
      reading = reading_more (remaining c.args.reader.now) (remaining c.pieces.reader) (remaining c.read.new.reader) c.pieces.turns count
          c.read.new.buf (omega (arith, c.if-count-eq0.false)) c.in_ok-count.ensures.bound c.pieces.invariant.reading
          c.in_ok-count.ensures.bytes;
      heard = heard_piece c.args.hearing.now c.pieces.hearing c.hear.new.hearing (remaining c.args.reader.now) (remaining c.pieces.reader)
          (remaining c.read.new.reader) (take count c.read.new.buf) c.pieces.invariant.heard c.in_ok-count.ensures.bytes
          (λ whole more k. c.in_ok-hear.ensures.ok whole more
          (subst (λ (piece : List ℕ). IsHeard c.pieces.hearing whole (piece ++ more)) (grind (arith, common_steps)) k));
    }
