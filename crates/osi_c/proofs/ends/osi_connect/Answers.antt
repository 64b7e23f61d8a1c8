use Rattle.std.proofs.Common.{refl}
use Rattle.osi_c.specs.Codes.{asked_of}
use Rattle.osi_c.proofs.a_connection_is_the_one_named.{asks_by}
use Rattle.osi_c.proofs.ends.osi_connect.Goals as goal

pub returns-in-None-clause-value : goal.returns-in-None-clause-value
returns-in-None-clause-value c = (c.in-None.ensures.none, refl)

pub returns-in-Some-clause-value : goal.returns-in-Some-clause-value
returns-in-Some-clause-value c =
    asks_by c.args.asked.now c.in-Some.connect (asked_of c.ask.result) c.args.end.now.inner.value c.ask.new.reference
    c.ask.new.end.inner.value c.in-Some.ensures.some c.ask.ensures.value

pub returns-in-Some-clause-reference : goal.returns-in-Some-clause-reference
returns-in-Some-clause-reference c = c.ask.ensures.reference
