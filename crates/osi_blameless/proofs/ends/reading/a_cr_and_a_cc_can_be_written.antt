-- A CR that an end puts can be written, and so can a CC, if the CR that it answers was in range.
-- For the course of a connection.
use Rattle.osi_blameless.proofs.ends.Vocabulary.{arith, Bool, length, min, Option, option_map, take, ℕ, ◌≤◌, length-take, IfSome, size_code}
use Rattle.osi_blameless.proofs.ends.Vocabulary.{tsap_octets, IsConnect, Tsap, accept, refuse, selected_by, Selection, Class, Local}
use Rattle.osi_blameless.proofs.ends.Vocabulary.{acceptance}
use Rattle.osi_blameless.proofs.ends.Vocabulary.{proposal_by, IsPlain, Connect}

-- ---- a CC

pub size_in_range : (o : Option ℕ) (local : Local) → IfSome o (λ code. (7 ≤ code) × (code ≤ 13)) →
    IfSome (option_map (λ code. min code (size_code local.size)) o) (λ code. (7 ≤ code) × (code ≤ 13))
size_in_range o local h = grind arith

pub cc_plain : (class : Class) (size : Option ℕ) (c : Connect) (local : Local) (r : ℕ) → IsConnect c →
    IfSome size (λ code. (7 ≤ code) × (code ≤ 13)) → IsPlain (acceptance class size c local r)
cc_plain class size c local r h range = search arith

-- the size that is selected for a CR in range
abbrev pub HasSizeInRange : Selection → Type 0
HasSizeInRange (accept class size) = IfSome size (λ code. (7 ≤ code) × (code ≤ 13))
HasSizeInRange (refuse reason) = Unit {0}

pub selected_in_range : (c : Connect) (local : Local) → IsConnect c → HasSizeInRange (selected_by c local)
selected_in_range c local h = search (arith, size_in_range)

-- ---- a CR

tsap_short : (t : Tsap) → length (take t.len t.octets) ≤ 32
tsap_short t = grind (arith, length-take)

pub cr_by : (two : Bool) (local : Local) (held : Option Class) (calling called : Option Tsap) (r : ℕ) →
    IsPlain (proposal_by two local held (option_map tsap_octets calling) (option_map tsap_octets called) r)
cr_by two local held calling called r = grind (arith, tsap_short)
