use Rattle.osi_report.proofs.what_is_told_is_of_the_report.{told_of}
use Rattle.osi_tool.proofs.what_is_certain_is_written.{not_failed}
use Rattle.osi_listing.specs.declared.capture.CaptureFault.TheVariants as fault
use Rattle.osi_tool.proofs.live.news_of.Goals as goal

pub returns-in-Ok-clause-told : goal.returns-in-Ok-clause-told
returns-in-Ok-clause-told c = λ whole rest k.
    told_of c.args.hearing.now whole rest k c.new-text.result.items c.news.new.text.items c.new-text.ensures.items
    (c.in-Ok.ensures.told whole rest k)

pub returns-in-Err-BadHex-clause-bad_hex : goal.returns-in-Err-BadHex-clause-bad_hex
returns-in-Err-BadHex-clause-bad_hex c = λ is whole rest k. not_failed c.args.hearing.now whole rest
    (c.news.ensures.sound fault.BadHex (cc)) k
