use Rattle.std.proofs.Common.{arith}
use Rattle.osi_session.proofs.sent.what_an_accepted_call_sends.{limit_sized}
use Rattle.osi_session.proofs.sizes.size_limit.Goals as goal

-- of a sound state the limit is a size
pub unreachable-requires : goal.unreachable-requires
unreachable-requires c = grind (arith, limit_sized)
