use Rattle.std.proofs.Common.{Result, OnErr, arith}
use Rattle.osi_class.proofs.giving.some_have_no_more_than_all.{some_have_no_more}
use Rattle.osi_class.proofs.sending.octets_of.Goals as goal

on_err : {A E P : Type 0} (result : Result A E) → P → OnErr result P
on_err h h2 = grind arith

pub returns-in_err-octets-clause-err : goal.returns-in_err-octets-clause-err
returns-in_err-octets-clause-err c = grind (arith, some_have_no_more, on_err)
