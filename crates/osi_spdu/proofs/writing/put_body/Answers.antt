use Rattle.osi_spdu.proofs.Vocabulary.{Code, ConnectionIdentifier, known_of, parameter_octets, body_octets, true, arith}
use Rattle.osi_spdu.proofs.parameters.a_group_is_counted_once.{among_at}
use Rattle.osi_spdu.proofs.form.parameters_are_written_in_order.{piece_len, tail_less}
use Rattle.osi_spdu.proofs.writing.put_body.Goals as goal

pub put_parameter-requires-clause-held : goal.put_parameter-requires-clause-held
put_parameter-requires-clause-held c = grind (arith, among_at)

pub put_parameter-requires-clause-small : goal.put_parameter-requires-clause-small
unfolding body_octets
put_parameter-requires-clause-small c =
    let f = λ (x : Code). parameter_octets c.args.groups.kind (known_of c.args.params.now) x (known_of c.args.params.now x) in
    let codes = c.codes-codes.result.now in
    grind (arith, piece_len f codes c.codes.code-index ConnectionIdentifier c.codes-test.true, tail_less f codes c.codes.code-index)
