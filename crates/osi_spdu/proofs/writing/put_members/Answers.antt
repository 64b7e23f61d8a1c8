use Rattle.osi_spdu.proofs.Vocabulary.{ConnectionIdentifier, known_of, member_octets, arith}
use Rattle.osi_spdu.proofs.form.parameters_are_written_in_order.{piece_len, tail_less}
use Rattle.osi_spdu.proofs.writing.put_members.Goals as goal

pub put_member-requires-clause-small : goal.put_member-requires-clause-small
put_member-requires-clause-small c =
    let p = piece_len (λ x. member_octets x (known_of c.args.params.now x)) c.args.codes.now c.codes.code-index ConnectionIdentifier
    c.codes-test.true in
    grind (arith, tail_less, known_of)
