use Rattle.osi_listing.proofs.Vocabulary.{◌≡◌, ◌++◌, drop, flat_map, Code, said_by, parameter_field}
use Rattle.osi_listing.proofs.session_lines.push_each.Given as goal

abbrev pub invariant-codes : goal.invariant-codes
invariant-codes l =
    let field = λ (c : Code). parameter_field (said_by l.unit) c ((said_by l.unit).known c) in
    l.text.items ++ flat_map field (drop l.code-index l.codes) ≡ l.fn.text.items ++ flat_map field l.codes
