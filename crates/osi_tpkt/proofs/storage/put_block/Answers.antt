use Rattle.std.proofs.Common.{◌≡◌, ℕ, ◌≤◌, List, ◌++◌, length, take, refl, subst, arith}
use Rattle.osi_tpkt.proofs.Vocabulary.{take-take, take-append-le, length-append, length-take-le, IsFront, IsFull}
use Rattle.osi_tpkt.proofs.storage.put_block.Goals as goal

-- the first octets of a block are those of the piece that begins with it
of_block : (used size : ℕ) (block piece : List ℕ) → used ≤ length block → size ≤ length piece → block ≡ take size piece →
    take used block ≡ take used piece
of_block used size block piece within enough is = grind (arith, length-take-le, take-take)

-- the same of a list that begins with the block, and is cut after it
of_storage : (used size room : ℕ) (block behind more piece : List ℕ) → used ≤ length block → size ≤ room → size ≤ length piece →
    block ≡ take size piece →
    take used (take room ((block ++ behind) ++ more)) ≡ take used piece
of_storage used size room block behind more piece within fits enough is =
    grind (arith, length-take-le, length-append, take-take, take-append-le, of_block)

pub returns-clause-front : goal.returns-clause-front
returns-clause-front c =
    let first = c.in_ok-block.ensures.cases in
    subst IsFront
    (of_block c.in_ok-used.used 32 c.in_ok-block.block.now c.args.piece.now c.in_ok-used.ensures.within first.enough first.same)
    c.in_ok-used.ensures.front

pub returns-clause-full : goal.returns-clause-full
returns-clause-full c =
    let first = c.in_ok-block.ensures.cases in
    subst IsFull (of_block c.in_ok-used.used 32 c.in_ok-block.block.now c.args.piece.now c.in_ok-used.ensures.within first.enough
    first.same) c.in_ok-used.ensures.full

pub returns-clause-octets : goal.returns-clause-octets
returns-clause-octets c =
    let first = c.in_ok-block.ensures.cases in
    let whole : 32 ≤ length c.as_mut_slice.result.now = c.in_ok-room.ensures.variant.0 refl in
    of_storage c.in_ok-used.used 32 c.args.storage.now.len c.in_ok-block.block.now _ _ c.args.piece.now c.in_ok-used.ensures.within
    (omega arith) first.enough first.same
