use Rattle.std.proofs.Common.{List, ℕ, ◌++◌, take, subst, arith}
use Rattle.std.proofs.lemmas.Grind.{common_steps}
use Rattle.osi_report.specs.Hearing.{IsHeard}
use Rattle.osi_tool.proofs.what_is_read_is_heard.{heard_piece, reading_more}
use Rattle.osi_tool.proofs.what_is_certain_is_written.{heard_on, if_write_fails, part_so_far, told_more}
use Rattle.osi_tool.proofs.live.hear_live.Goals as goal

pub pieces-preserved : goal.pieces-preserved
pieces-preserved g c =
    let remaining = g.R.Read.remaining in
    let contents = g.W.Write.contents in
    let count = c.in_ok-count.count in
    let all = remaining c.args.reader.now in
    let later = remaining c.read.new.reader in
    let heard = heard_piece c.args.hearing.now c.pieces.hearing c.hear.new.hearing all (remaining c.pieces.reader) later
    (take count c.read.new.buf) c.pieces.invariant.heard c.in_ok-count.ensures.bytes
    (λ whole more k. c.in_ok-hear.ensures.ok whole more
    (subst (λ (piece : List ℕ). IsHeard c.pieces.hearing whole (piece ++ more)) (grind (arith, common_steps)) k)) in
    record {
      reading = reading_more all (remaining c.pieces.reader) later c.pieces.turns count c.read.new.buf
          (omega (arith, c.if-count-eq0.false)) c.in_ok-count.ensures.bound c.pieces.invariant.reading c.in_ok-count.ensures.bytes;
      heard = heard_on c.args.hearing.now c.hear.new.hearing c.announce.new.hearing all later heard c.in_ok-announce.ensures.kept;
      told = told_more c.args.hearing.now c.hear.new.hearing all later (contents c.args.writer.now) (contents c.pieces.writer)
          (contents c.announce.new.writer) heard c.pieces.invariant.told c.in_ok-announce.ensures.told;
    }

pub returns-in_err-announce-clause-part : goal.returns-in_err-announce-clause-part
returns-in_err-announce-clause-part g c =
    let remaining = g.R.Read.remaining in
    let contents = g.W.Write.contents in
    let all = remaining c.args.reader.now in
    let later = remaining c.read.new.reader in
    let heard = heard_piece c.args.hearing.now c.pieces.hearing c.hear.new.hearing all (remaining c.pieces.reader) later
    (take c.in_ok-count.count c.read.new.buf) c.pieces.invariant.heard c.in_ok-count.ensures.bytes
    (λ whole more k. c.in_ok-hear.ensures.ok whole more
    (subst (λ (piece : List ℕ). IsHeard c.pieces.hearing whole (piece ++ more)) (grind (arith, common_steps)) k)) in
    if_write_fails c.from_residual-in_err-announce.result _
    (part_so_far c.args.hearing.now c.hear.new.hearing all later (contents c.args.writer.now) (contents c.pieces.writer)
    (contents c.announce.new.writer) heard c.pieces.invariant.told c.in_err-announce.ensures.part)
