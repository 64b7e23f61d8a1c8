use Rattle.osi_message.proofs.Vocabulary.{GiveTokens, nothing, codes_of, body_octets, UnitFits, unit_with, ◌∙◌, [], ◌∷◌, arith, said_by}
use Rattle.osi_message.proofs.a_unit_is_made_of_its_meaning.{none_known}
use Rattle.osi_message.proofs.writing.behind.Goals as goal

token_fits : UnitFits (unit_with GiveTokens nothing)
unfolding body_octets codes_of
token_fits = omega arith

pub returns-clause-units : goal.returns-clause-units
returns-clause-units c = c.behind_give_tokens.ensures ∙ (λ i. unit_with GiveTokens (none_known i) ∷ said_by c.args.unit ∷ [])

pub returns-clause-fits : goal.returns-clause-fits
returns-clause-fits c = grind (arith, returns-clause-units, token_fits)
