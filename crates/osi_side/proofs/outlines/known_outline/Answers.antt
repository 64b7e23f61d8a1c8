use Rattle.osi_side.proofs.outlined.an_outline_is_taken_alike.{plain_outline}
use Rattle.osi_side.proofs.outlines.known_outline.Goals as goal

pub returns-in-Some : goal.returns-in-Some
returns-in-Some c =
    plain_outline c.args.tsdu.now c.in-Some._user_data.now c.data_head.result.now c.in-Some.ensures.said c.in-Some.ensures.written
    c.data_head.ensures.octets
