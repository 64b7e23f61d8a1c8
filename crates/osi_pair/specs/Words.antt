-- The words in which the messages of a connection are sent: a whole message, or a part of one Data.
use Rattle.std.specs.Prelude.{◌≡◌, ℕ, ◌≤◌, List, [], ◌∷◌, ◌++◌, length, Option, Some, None, unwrap_or}
use Rattle.osi_machine.specs.Worlds.{Message, unit, ask, agree, deny, bye, over}
use Rattle.osi_message.specs.Meanings.{DT}
use Rattle.osi_message.specs.declared.places.Place.{Place}
use Rattle.osi_message.specs.declared.places.Place.TheVariants.{First, Middle, Last}

pub data Word : Type 0 where
  whole : Message → Word
  part : Place → List ℕ → Word

-- the octets of an unfinished Data
abbrev pub begun_octets : Option (List ℕ) → List ℕ
begun_octets begun = unwrap_or begun []

-- The messages that words make, if the first part continues what was begun. Parts without their last one make none.
abbrev pub joins : Option (List ℕ) → List Word → List Message
joins begun [] = []
joins begun (whole m ∷ words) = m ∷ joins None words
joins begun (part First octets ∷ words) = joins (Some octets) words
joins begun (part Middle octets ∷ words) = joins (Some (begun_octets begun ++ octets)) words
joins begun (part Last octets ∷ words) = unit (DT (begun_octets begun ++ octets)) ∷ joins None words

-- what is unfinished after them
abbrev pub left_of : Option (List ℕ) → List Word → Option (List ℕ)
left_of begun [] = begun
left_of begun (whole m ∷ words) = left_of None words
left_of begun (part First octets ∷ words) = left_of (Some octets) words
left_of begun (part Middle octets ∷ words) = left_of (Some (begun_octets begun ++ octets)) words
left_of begun (part Last octets ∷ words) = left_of None words

-- Nothing is unfinished before a whole message; except for one by which its sender leaves, which may have discarded the
-- rest of a Data.
abbrev pub MayFollow : Option (List ℕ) → Message → Type 0
MayFollow begun (bye r) = Unit {0}
MayFollow begun over = Unit {0}
MayFollow begun (deny r) = begun ≡ None
MayFollow begun ask = begun ≡ None
MayFollow begun agree = begun ≡ None
MayFollow begun (unit m) = begun ≡ None

abbrev pub IsBegun : Option (List ℕ) → Type 0
IsBegun None = ⊥
IsBegun (Some octets) = Unit {0}

-- the most octets of one Data
abbrev pub most_data : ℕ
most_data = 1048572

-- each part has its place, and what is joined is no longer than a Data may be
abbrev pub AreInOrder : Option (List ℕ) → List Word → Type 0
AreInOrder begun [] = Unit {0}
AreInOrder begun (whole m ∷ words) = MayFollow begun m × AreInOrder None words
AreInOrder begun (part First octets ∷ words) = (begun ≡ None) × (length octets ≤ most_data) × AreInOrder (Some octets) words
AreInOrder begun (part Middle octets ∷ words) =
    IsBegun begun × (length (begun_octets begun ++ octets) ≤ most_data) × AreInOrder (Some (begun_octets begun ++ octets)) words
AreInOrder begun (part Last octets ∷ words) = IsBegun begun × (length (begun_octets begun ++ octets) ≤ most_data) × AreInOrder None words
