use Rattle.std.proofs.Common.{◌≡◌, drop}
use Rattle.osi_script.specs.Words.{first_named}
use Rattle.osi_script.proofs.words.verb.Given as goal

abbrev pub invariant-verbs : goal.invariant-verbs
invariant-verbs l = first_named l.word (drop l.verb-index l.verbs) ≡ first_named l.word l.verbs
