use Rattle.std.proofs.Common.{◌≡◌, ◌≤◌, drop}
use Rattle.osi_script.specs.Words.{number_behind}
use Rattle.osi_script.proofs.words.number.Given as goal

abbrev pub invariant-digits : goal.invariant-digits
invariant-digits l =
    (l.number ≤ l.most) × (number_behind l.most l.number (drop l.digit-index l.word) ≡ number_behind l.most 0 l.word)
