use Rattle.std.proofs.Common.{◌≡◌, ◌-◌, ◌≤◌, drop, length}
use Rattle.osi_script.specs.Words.{is}
use Rattle.osi_script.proofs.words.is.Given as goal

abbrev pub invariant-letters : goal.invariant-letters
invariant-letters l =
    (l.index ≤ length l.letters) × (length l.word ≡ length l.letters)
    × (is (drop l.index l.word) (drop l.index l.letters) ≡ is l.word l.letters)

abbrev pub decreases-letters : goal.decreases-letters
decreases-letters l = length l.letters - l.index
