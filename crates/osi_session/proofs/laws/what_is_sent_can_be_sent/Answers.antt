use Rattle.osi_session.proofs.sent.what_is_sent_can_be_written.{sent_sendable, reply_can_be_sent, words_answer, asked_sendable}
use Rattle.osi_session.proofs.laws.what_is_sent_can_be_sent.Goals as goal

pub returns : goal.returns
returns c = record { called = sent_sendable; replied = reply_can_be_sent; heard = words_answer; asked = asked_sendable }
