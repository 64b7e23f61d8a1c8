use Rattle.osi_session.proofs.sent.what_an_accepted_call_sends.{sent_alone, data_alone, data_full, data_short}
use Rattle.osi_session.proofs.laws.what_a_call_sends.Goals as goal

pub returns-clause-alone : goal.returns-clause-alone
returns-clause-alone c = sent_alone c.what_leaves_in_parts.ensures.whole

pub returns-clause-whole : goal.returns-clause-whole
returns-clause-whole c = data_alone c.what_leaves_in_parts.ensures.whole

pub returns-clause-full : goal.returns-clause-full
returns-clause-full c = data_full c.what_leaves_in_parts.ensures.full

pub returns-clause-short : goal.returns-clause-short
returns-clause-short c = data_short c.what_leaves_in_parts.ensures.short
