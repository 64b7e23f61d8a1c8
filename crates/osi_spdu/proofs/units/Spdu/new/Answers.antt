use Rattle.osi_spdu.proofs.Vocabulary.{Known, Contents, known_of, is_formed, arith, ◌≡◌, true, sym, subst, []}
use Rattle.osi_spdu.proofs.form.few_octets_fit.{made_fits}
use Rattle.osi_spdu.proofs.units.Spdu.new.Goals as goal

pub invariant_of-result-clause-formed : goal.invariant_of-result-clause-formed
invariant_of-result-clause-formed c = subst (λ (k : Known). is_formed c.args.kind k ≡ true) (sym c.settle.ensures.value) c.requires

pub returns-clause-value : goal.returns-clause-value
returns-clause-value c = grind arith

pub returns-clause-fits : goal.returns-clause-fits
returns-clause-fits c =
    let unit : Contents = record { kind = c.args.kind; known = known_of c.settle.new.self; information = [] } in
    λ few. made_fits unit c.args.params c.settle.ensures.value few
