use Rattle.osi_report.proofs.Vocabulary.{◌∙◌, ap, Direction, carried}
use Rattle.osi_report.proofs.what_is_told_is_of_the_report.{rest_news}
use Rattle.osi_report.proofs.news.push_rest.Goals as goal

pub returns : goal.returns
returns c = λ s h k.
    rest_news s c.args.direction c.transport_of-own.result c.transport_of-beside.result c.halt_told.result c.args.text.now.items
    c.push_rest_line.new.text.items (c.transport_of-own.ensures s h k)
    (c.transport_of-beside.ensures s h k ∙ ap (λ (d : Direction). carried d s) c.other.ensures) c.halt_told.ensures
    c.in_ok-push_rest_line.ensures
