-- The receiving side: the unfinished TSDU, and the complete ones.
use Rattle.std.specs.Prelude.{◌≡◌, ℕ, ◌+◌, Bool, true, false, List, [], ◌∷◌, ◌++◌, length, nat_lt, Option, option_to_list, Result, Ok, Err, if◌then◌else◌}
use Rattle.osi_class.specs.declared.faults.LinkFault.{LinkFault}
use Rattle.osi_class.specs.declared.faults.LinkFault.TheVariants.{TsduTooLong}
use Rattle.osi_class.specs.Limits.{longest_tsdu}

pub record Joining : Type 0 where
  pub begun : List ℕ
  pub whole : List (List ℕ)

abbrev pub joining : List ℕ → List (List ℕ) → Joining
joining begun whole = record { begun = begun; whole = whole }

abbrev pub with_part : Joining → Bool → List ℕ → Joining
with_part j false octets = record j { begun = j.begun ++ octets }
with_part j true octets = record { begun = []; whole = j.whole ++ (j.begun ++ octets) ∷ [] }

-- before the first complete TSDU, if there is one, was handed out
abbrev pub before_handing : Option (List ℕ) → Joining → Joining
before_handing tsdu j = record j { whole = option_to_list tsdu ++ j.whole }

-- a TSDU has at most 1,048,576 octets
abbrev pub joined : Joining → Bool → List ℕ → Result Joining LinkFault
joined j last octets = if nat_lt longest_tsdu (length j.begun + length octets) then Err TsduTooLong else Ok (with_part j last octets)

-- one part joined to a TSDU of which `taken` was received
abbrev pub joined_to : List ℕ → Bool → List ℕ → Result Joining LinkFault
joined_to begun last octets = joined (joining begun []) last octets
