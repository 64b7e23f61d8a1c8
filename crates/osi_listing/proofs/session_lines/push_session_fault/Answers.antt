use Rattle.std.proofs.Common.{OnOk, arith}
use Rattle.osi_listing.proofs.Vocabulary.{◌≡◌, ◌++◌, List, ℕ, subst}
use Rattle.osi_listing.proofs.fields_one_after_the_other.{line_of_no_tsdu}
use Rattle.osi_listing.proofs.session_lines.push_session_fault.Goals as goal

pub returns-in-LengthPastEnd-eq0 : goal.returns-in-LengthPastEnd-eq0
returns-in-LengthPastEnd-eq0 c =
    subst (λ (words : List ℕ). OnOk c.push_words.result (c.push_words.new.text.items ≡ c.args.text.now.items ++ words))
    (line_of_no_tsdu c.args.fault c.in-LengthPastEnd-eq0.field-0 c.in-LengthPastEnd-eq0.is (search (arith, c.in-LengthPastEnd-eq0.field-0-test)))
    c.push_words.ensures
