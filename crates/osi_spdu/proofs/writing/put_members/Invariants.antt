use Rattle.osi_spdu.proofs.Vocabulary.{known_of, member_octets}
use Rattle.osi_spdu.proofs.form.parameters_are_written_in_order.{IsPutting}
use Rattle.osi_spdu.proofs.writing.put_members.Given as goal

abbrev pub invariant-codes : goal.invariant-codes
invariant-codes l = IsPutting (λ x. member_octets x (known_of l.params x)) l.codes l.code-index l.out.items l.out.spare l.fn.out.items
    l.fn.out.spare
