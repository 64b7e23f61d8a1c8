-- The effect of `show`, for a reader and a writer that give access to their octets.
use Rattle.std.specs.Prelude.{◌≡◌, ℕ, ◌<◌, ◌≤◌, ◌⊎◌, Bool, true, List, length, take, Option, IfSome}
use Rattle.std.specs.Io.KnownBytes.{Appends, Consumes, IsAtEnd}
use Rattle.osi_listing.specs.Capture.{Captures}
use Rattle.osi_listing.specs.Listing.{IsListing}

-- a text of at most 16,777,216 octets is a capture, and these lines are the listing of what it captures
pub record Lists (text lines : List ℕ) (status : ℕ) : Type 0 where
  pub octets : List ℕ
  pub short : length text ≤ 16777216
  pub captured : Captures text octets
  pub listed : IsListing octets lines status

-- the listing of the text is written, and nothing else
pub record Shows (text : List ℕ) (old new : Option (List ℕ)) (status : ℕ) : Type 0 where
  pub lines : List ℕ
  pub lists : Lists text lines status
  pub written : Appends old new lines

-- a prefix of these octets is written
abbrev pub BeginsToAppend : Option (List ℕ) → Option (List ℕ) → List ℕ → Type 0
BeginsToAppend old new octets = (count : ℕ) × Appends old new (take count octets)

-- the text has a listing, of which a prefix is written, and nothing else
pub record ShowsPart (text : List ℕ) (old new : Option (List ℕ)) : Type 0 where
  pub lines : List ℕ
  pub status : ℕ
  pub lists : Lists text lines status
  pub begun : BeginsToAppend old new lines

-- reading came to the end, or to more octets than are listed
abbrev pub IsRead : Option (List ℕ) → List ℕ → Type 0
IsRead left input = IsAtEnd left ⊎ (16777216 < length input)

-- a read failed, or there were more than 16,777,216 octets to read
abbrev pub FailsToRead : Bool → Option (List ℕ) → Type 0
FailsToRead has_failed known = (has_failed ≡ true) ⊎ IfSome known (λ text. 16777216 < length text)

-- at most this many octets are taken from the reader
abbrev pub TakesAtMost : ℕ → Option (List ℕ) → Option (List ℕ) → Type 0
TakesAtMost most old new = (taken : List ℕ) × Consumes old new taken × (length taken ≤ most)
