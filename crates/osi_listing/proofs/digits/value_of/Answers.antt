-- The table is held against the definition at each of the 256 characters, by computing.
use Rattle.osi_listing.proofs.Vocabulary.{refl, arith, sym, subst, ◌≤◌, ℕ}
use Rattle.osi_listing.specs.declared.digits.TheConstants.{VALUES}
use Rattle.osi_listing.proofs.two_digits_make_an_octet.{agrees_below, from_table, value_most}
use Rattle.osi_listing.proofs.digits.value_of.Goals as goal

pub returns-clause-value : goal.returns-clause-value
unfolding agrees_below
returns-clause-value c = from_table VALUES c.args.character (omega arith) refl

pub returns-clause-most : goal.returns-clause-most
unfolding agrees_below
returns-clause-most c =
    subst (λ (n : ℕ). n ≤ 65536) (sym (from_table VALUES c.args.character (omega arith) refl)) (value_most c.args.character)
