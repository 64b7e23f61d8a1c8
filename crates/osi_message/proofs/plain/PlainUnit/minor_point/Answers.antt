use Rattle.osi_message.proofs.Vocabulary.{◌∙◌, sym}
use Rattle.osi_message.specs.declared.plain.PlainUnit.TheVariants as plain
use Rattle.osi_message.proofs.units_of_the_fast_path.{point_written, said_plain}
use Rattle.osi_message.proofs.plain.PlainUnit.minor_point.Goals as goal

pub returns-clause-said : goal.returns-clause-said
returns-clause-said c =
    let n = c.in_ok-serial.serial in
    said_plain c.what_is_sent_is_read.ensures.read c.what_is_sent_is_read.ensures.said c.what_a_part_says.ensures (plain.MinorPoint n)
    c.args.tsdu.now (c.in_ok-serial.ensures ∙ sym (point_written n.number))
