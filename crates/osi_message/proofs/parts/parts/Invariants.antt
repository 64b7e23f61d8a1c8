use Rattle.std.proofs.Common.{◌<◌, length, map}
use Rattle.osi_message.proofs.how_pieces_follow_one_another.{IsParting}
use Rattle.osi_message.proofs.parts.parts.Given as goal

abbrev pub invariant-pieces : goal.invariant-pieces
invariant-pieces l = IsParting l.size l.user_data l.rest (map (λ v. v.items) l.tsdus.items) × (0 < length l.tsdus.items)

abbrev pub decreases-pieces : goal.decreases-pieces
decreases-pieces l = length l.rest
