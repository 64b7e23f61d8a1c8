use Rattle.osi_message.proofs.Vocabulary.{First, part_octets, arith, ◌∙◌, ◌++◌, [], ◌∷◌, ap, map}
use Rattle.osi_message.proofs.how_pieces_follow_one_another.{parting_begins, parting_goes_on, some_put}
use Rattle.osi_message.proofs.parts.parts.Goals as goal

pub pieces-init : goal.pieces-init
pieces-init c =
    let put = c.in_ok-put_part.ensures ∙ ap (λ l. map (λ v. v.items) l ++ part_octets First c.split_at.result.0.now ∷ [])
    c.new-tsdus.ensures.items in (
      parting_begins c.args.size c.args.user_data.now c.split_at.result.0.now c.split_at.result.1.now
          (map (λ v. v.items) c.put_part.new.tsdus.items)
          c.requires.some c.requires.long c.split_at.ensures.front c.split_at.ensures.back put,
      some_put (λ v. v.items) c.put_part.new.tsdus.items [] (part_octets First c.split_at.result.0.now) put,
    )

pub pieces-preserved : goal.pieces-preserved
pieces-preserved c =
    let put = c.in_ok-put_part-2.ensures in (
      parting_goes_on c.args.size c.args.user_data.now c.pieces.rest.now c.split_at-in-pieces.result.0.now c.split_at-in-pieces.result.1.now
          (map (λ v. v.items) c.pieces.tsdus.items) (map (λ v. v.items) c.put_part-in-pieces.new.tsdus.items)
          c.requires.some c.pieces-test.true c.split_at-in-pieces.ensures.front c.split_at-in-pieces.ensures.back put c.pieces.invariant.0,
      search (arith, some_put),
    )
