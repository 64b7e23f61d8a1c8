use Rattle.osi_spdu.proofs.Vocabulary.{IsOctets, units_of, tsdu_octets, ◌∙◌, subst}
use Rattle.osi_spdu.proofs.form.values_in_memory_are_in_their_form.{group_spelled, group_read}
use Rattle.osi_spdu.proofs.basics.length_indicators.{octets-behind}
use Rattle.osi_spdu.proofs.writing.write_tsdu.Goals as goal

pub returns-in_err-reserve-clause-read : goal.returns-in_err-reserve-clause-read
returns-in_err-reserve-clause-read c = group_read c.args.group.now c.requires

pub returns-clause-spelled : goal.returns-clause-spelled
returns-clause-spelled c =
    let octets = tsdu_octets (units_of c.args.group.now) in
    group_spelled c.args.group.now c.requires
    (octets-behind c.reserve.new.self.items octets (subst IsOctets (c.as_slice.ensures ∙ c.put_group.ensures.items) c.are_octets.ensures))

pub returns-clause-read : goal.returns-clause-read
returns-clause-read c = group_read c.args.group.now c.requires
