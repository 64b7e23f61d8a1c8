use Rattle.osi_session.proofs.moves.what_gives_a_token.{given, call_held, unit_held}
use Rattle.osi_session.proofs.laws.a_token_is_not_given_and_kept.Goals as goal

pub returns : goal.returns
returns c = record { given = given; call = call_held; unit = unit_held }
