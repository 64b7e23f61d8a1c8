use Rattle.osi_spdu.specs.Sizes.{size_of}
use Rattle.osi_message.proofs.the_tsdus_of_a_message.{message_alone}
use Rattle.osi_message.proofs.sent.Sent.within.Goals as goal

pub returns-in_default-clause-written : goal.returns-in_default-clause-written
returns-in_default-clause-written c =
    rw (message_alone (size_of c.args.limit) c.args.message.now c.in_default.not-Data) c.of.ensures.written
