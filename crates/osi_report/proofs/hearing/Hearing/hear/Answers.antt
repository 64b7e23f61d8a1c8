use Rattle.std.proofs.Common.{arith}
use Rattle.osi_report.proofs.Vocabulary.{◌≡◌, ◌∷◌, ◌++◌, ℕ, List, subst}
use Rattle.osi_report.specs.Hearing.{IsHeard}
use Rattle.osi_report.proofs.hearing.Hearing.hear.Goals as goal

pub returns-in-Err-clause-bad_hex : goal.returns-in-Err-clause-bad_hex
returns-in-Err-clause-bad_hex c = λ is whole more k.
    let e : c.text.rest.now ≡ c.in-Some.character.now ∷ c.in-Some.behind.now = search (arith, c.in-Some.ensures.cases) in
    c.in-Err.ensures.bad_hex is whole (c.in-Some.behind.now ++ more)
    (subst (λ (xs : List ℕ). IsHeard c.text.self whole (xs ++ more)) e (c.text.invariant whole more k))
