use Rattle.osi_tpdu.proofs.what_is_written_reads_back.{unit_spelled, unit_read}
use Rattle.osi_tpdu.proofs.writing.write.Goals as goal

pub returns-in-Cr-clause-spelled : goal.returns-in-Cr-clause-spelled
returns-in-Cr-clause-spelled c = unit_spelled _ _ c.in-Cr.is c.put_request.ensures.in_range c.requires

pub returns-in-Cr-clause-again : goal.returns-in-Cr-clause-again
returns-in-Cr-clause-again c = unit_read _ _ c.in-Cr.is c.put_request.ensures.in_range c.requires

pub returns-in-Cc-clause-spelled : goal.returns-in-Cc-clause-spelled
returns-in-Cc-clause-spelled c = unit_spelled _ _ c.in-Cc.is c.put_confirm.ensures.in_range c.requires

pub returns-in-Cc-clause-again : goal.returns-in-Cc-clause-again
returns-in-Cc-clause-again c = unit_read _ _ c.in-Cc.is c.put_confirm.ensures.in_range c.requires

pub returns-in-Dr-clause-again : goal.returns-in-Dr-clause-again
returns-in-Dr-clause-again c = unit_read _ _ c.in-Dr.is c.put_disconnect.ensures.in_range c.requires

pub returns-in-Dc-clause-again : goal.returns-in-Dc-clause-again
returns-in-Dc-clause-again c = unit_read _ _ c.in-Dc.is c.put_disconnected.ensures.in_range c.requires

pub returns-in-Dt0-clause-again : goal.returns-in-Dt0-clause-again
returns-in-Dt0-clause-again c = unit_read _ _ c.in-Dt0.is c.put_data0.ensures.in_range c.requires

pub returns-in-Dt2-clause-again : goal.returns-in-Dt2-clause-again
returns-in-Dt2-clause-again c = unit_read _ _ c.in-Dt2.is c.put_data2.ensures.in_range c.requires

pub returns-in-Ak-clause-again : goal.returns-in-Ak-clause-again
returns-in-Ak-clause-again c = unit_read _ _ c.in-Ak.is c.put_acknowledge.ensures.in_range c.requires

pub returns-in-Er-clause-again : goal.returns-in-Er-clause-again
returns-in-Er-clause-again c = unit_read _ _ c.in-Er.is c.put_error.ensures.in_range c.requires
