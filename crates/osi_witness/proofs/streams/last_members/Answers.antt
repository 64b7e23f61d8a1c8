use Rattle.std.proofs.Common.{◌∙◌, sym}
use Rattle.osi_witness.proofs.the_sessions_that_are_kept_are_linked.{last_is}
use Rattle.osi_witness.proofs.streams.last_members.Goals as goal

pub returns-in-Some : goal.returns-in-Some
returns-in-Some c =
    c.as_slice.ensures.value ∙ sym (last_is c.args.members.now c.args.kept.now c.in-Some.last.now c.in-Some.ensures.value)
