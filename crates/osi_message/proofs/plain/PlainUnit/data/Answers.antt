use Rattle.osi_message.proofs.Vocabulary.{◌≡◌, arith, common_steps, data_octets}
use Rattle.osi_message.proofs.units_of_the_fast_path.{data_parts, data_said}
use Rattle.osi_message.proofs.plain.PlainUnit.data.Goals as goal

pub returns-clause-said : goal.returns-clause-said
returns-clause-said c =
    let e : c.args.tsdu.now ≡ data_octets c.split_at.result.1.now = grind (arith, common_steps, data_parts) in
    data_said c.what_is_sent_is_read.ensures.read c.what_is_sent_is_read.ensures.said c.split_at.result.1.now c.args.tsdu.now e
