use Rattle.std.proofs.Common.{◌++◌, take, arith}
use Rattle.std.proofs.lemmas.List.{length-append, length-take}
use Rattle.osi_tool.proofs.reads_one_after_the_other_read_all.{consumes-append}
use Rattle.osi_tool.proofs.showing.read_input.Goals as goal

pub returns-in_err-keep-clause-most : goal.returns-in_err-keep-clause-most
returns-in_err-keep-clause-most g c =
    let remaining = g.R.Read.remaining in (
      c.reads.input.items ++ take c.in_ok-count.count c.read.new.buf,
      consumes-append (remaining c.args.reader.now) (remaining c.reads.reader)
          (remaining c.read.new.reader) c.reads.input.items
          (take c.in_ok-count.count c.read.new.buf) c.reads.invariant.1 c.in_ok-count.ensures.bytes,
      omega (
        arith,
        length-append c.reads.input.items (take c.in_ok-count.count c.read.new.buf),
        length-take c.in_ok-count.count c.read.new.buf,
        length-take c.min-room.result c.reads.piece,
        c.in_ok-count.ensures.bound,
        c.min-room.ensures,
        c.len.ensures,
        c.read.auto.buf,
        c.reads.invariant.0,
        c.reads.input.ok.0,
      ),
    )
