use Rattle.osi_tool.proofs.judging.hear.Goals as goal

pub returns-in-Err-BadHex-clause-bad_hex : goal.returns-in-Err-BadHex-clause-bad_hex
returns-in-Err-BadHex-clause-bad_hex c = λ is. c.in-Err-BadHex.ensures.bad_hex (cc)
