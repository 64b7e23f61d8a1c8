use Rattle.osi_spdu.proofs.Vocabulary.{Zero, Known, Units, SpduFault, Gives, category_of, is_formed, known_of, placed_of, units_of, arith}
use Rattle.osi_spdu.proofs.Vocabulary.{◌≡◌, ◌∙◌, true, length, Result, sym, subst, rules}
use Rattle.osi_spdu.proofs.tsdu.how_reading_goes_on.{tsdu_goes, tsdu_followed, continued_trailing}
use Rattle.osi_spdu.proofs.reading.read_kept.Goals as goal

pub read_followed-requires-clause-zero : goal.read_followed-requires-clause-zero
read_followed-requires-clause-zero c = sym c.category.ensures ∙ c.in-Zero.is

pub read_followed-requires-clause-formed : goal.read_followed-requires-clause-formed
read_followed-requires-clause-formed c = grind (arith, is_formed)

pub settled-requires-clause-formed : goal.settled-requires-clause-formed
settled-requires-clause-formed c =
    subst (λ (k : Known). is_formed c.in_ok-found.found.kind k ≡ true) (sym c.settle.ensures.value) c.in_ok-found.ensures.formed

pub returns-then-not-is_empty : goal.returns-then-not-is_empty
returns-then-not-is_empty c =
    let p = placed_of c.found_at.new.params c.in_ok-found.found in
    let some : length p.rest ≡ 0 → ⊥ = search rules in
    tsdu_goes c.args.octets.now p c.in_ok-found.ensures.value ∙
    continued_trailing (category_of p.kind) p (λ z. c.in_default.not-Zero (c.category.ensures ∙ z)) some

pub returns-in-Zero : goal.returns-in-Zero
returns-in-Zero c =
    let p = placed_of c.found_at.new.params c.in_ok-found.found in
    let zero : category_of p.kind ≡ Zero = sym c.category.ensures ∙ c.in-Zero.is in
    subst (λ (r : Result Units SpduFault). Gives units_of c.read_followed.result r)
    (sym (tsdu_followed c.args.octets.now p (known_of c.settle.new.self) c.in_ok-found.ensures.value zero c.settle.ensures.value))
    c.read_followed.ensures
