-- Reading a TSDU from left to right, up to the first fault and its offset.
use Rattle.std.specs.Prelude.{◌≡◌, ℕ, zero, suc, ◌+◌, ◌*◌, ◌==◌, Bool, true, false, List, [], ◌∷◌, length, take, drop, nat_lt, Option, Some, None, Result, Ok, Err, is_some, if◌then◌else◌}
use Rattle.std.specs.List.{find}
use Rattle.osi_spdu.specs.declared.faults.SpduFault.{SpduFault}
use Rattle.osi_spdu.specs.declared.faults.SpduFault.TheVariants.{UnknownSi, LengthPastEnd, MissingParameter, DuplicateParameter, BadValue, BadConcatenation, TrailingOctets}
use Rattle.osi_spdu.specs.declared.codes.Code.{Code}
use Rattle.osi_spdu.specs.declared.kinds.Kind.{Kind}
use Rattle.osi_spdu.specs.declared.kinds.Kind.TheVariants.{DataTransfer}
use Rattle.osi_spdu.specs.declared.kinds.Category.{Category}
use Rattle.osi_spdu.specs.declared.kinds.Category.TheVariants.{Zero, One, Two}
use Rattle.osi_spdu.specs.Codes.{number_of, is_group, slot_of}
use Rattle.osi_spdu.specs.Kinds.{category_of, codes_of, members_of, required_of, kind_named, may_stand}
use Rattle.osi_spdu.specs.Values.{canonical_in}
use Rattle.osi_spdu.specs.Known.{Known, nothing, put, settled, Contents, Units}

infixl 10 ◌>>=◌
abbrev pub ◌>>=◌ : {A B : Type 0} → Result A SpduFault → (A → Result B SpduFault) → Result B SpduFault
(Ok x) >>= f = f x
(Err e) >>= f = Err e

-- the result of a function, seen through `view`, is that of reading
abbrev pub Gives : {X Y : Type 0} → (X → Y) → Result X SpduFault → Result Y SpduFault → Type 0
Gives view (Ok x) read = read ≡ Ok (view x)
Gives view (Err e) read = read ≡ Err e

-- the octets that a length indicator counts, those after them, and the octets of the indicator
pub record Measured : Type 0 where
  pub used : ℕ
  pub value : List ℕ
  pub rest : List ℕ

abbrev pub counted_at : ℕ → ℕ → ℕ → List ℕ → Result Measured SpduFault
counted_at at used n octets =
    if nat_lt (length octets) n then Err (LengthPastEnd at)
    else Ok (record { used = used; value = take n octets; rest = drop n octets })

-- a length of two octets, after FF
unfoldable pub long_at : ℕ → List ℕ → Result Measured SpduFault
long_at at [] = Err (LengthPastEnd at)
long_at at (high ∷ []) = Err (LengthPastEnd at)
long_at at (high ∷ low ∷ octets) = counted_at at 3 (256 * high + low) octets

unfoldable pub measured_at : ℕ → List ℕ → Result Measured SpduFault
measured_at at [] = Err (LengthPastEnd at)
measured_at at (n ∷ octets) = if n == 255 then long_at at octets else counted_at at 1 n octets

-- the code of a parameter, and the octets after it
unfoldable pub parameter_at : ℕ → List ℕ → Result (ℕ × Measured) SpduFault
parameter_at at [] = Err (LengthPastEnd at)
parameter_at at (code ∷ octets) = measured_at at octets >>= λ m. Ok (code, m)

-- the effect of one parameter: the offsets of its code and of its value, its code, its value, and what was known before
abbrev pub Taking : Type 0
Taking = ℕ → ℕ → ℕ → List ℕ → Known → Result Known SpduFault

-- the second argument is fuel: at least as many as there are octets
unfoldable pub params_at : Taking → ℕ → ℕ → Known → List ℕ → Result Known SpduFault
params_at taking n at known [] = Ok known
params_at taking zero at known (code ∷ octets) = Ok known
params_at taking (suc n) at known (code ∷ octets) = do
  m ← measured_at at octets
  more ← taking at (at + (1 + m.used)) code m.value known
  params_at taking n (at + (1 + m.used + length m.value)) more m.rest

abbrev pub params_of : Taking → ℕ → Known → List ℕ → Result Known SpduFault
params_of taking at known octets = params_at taking (length octets) at known octets

-- the code with this number among those known at a level
abbrev pub code_among : List Code → ℕ → Option Code
code_among codes code = find (λ c. number_of c == code) codes

abbrev pub judged : ℕ → Code → Known → Option (List ℕ) → Result Known SpduFault
judged at c known None = Err (BadValue (number_of c) at)
judged at c known (Some value) = Ok (put (slot_of c) value known)

-- the value goes into its slot, which must be free
unfoldable pub stored : Kind → ℕ → Code → List ℕ → Known → Result Known SpduFault
stored kind at c value known =
    if is_some (known (slot_of c)) then Err (DuplicateParameter (number_of c) at)
    else judged at c known (canonical_in kind c value)

abbrev pub member_taken : Kind → ℕ → List ℕ → Known → Option Code → Result Known SpduFault
member_taken kind at value known None = Ok known
member_taken kind at value known (Some c) = stored kind at c value known

-- a parameter within a group
unfoldable pub in_group : Kind → List Code → Taking
in_group kind members at body code value known = member_taken kind at value known (code_among members code)

abbrev pub opened : Kind → ℕ → Code → List ℕ → Known → Result Known SpduFault
opened kind body c value known = if is_group c then params_of (in_group kind (members_of kind c)) body known value else Ok known

abbrev pub parameter_taken : Kind → ℕ → ℕ → List ℕ → Known → Option Code → Result Known SpduFault
parameter_taken kind at body value known None = Ok known
parameter_taken kind at body value known (Some c) = stored kind at c value known >>= opened kind body c value

-- a parameter or a group of a unit
unfoldable pub in_unit : Kind → Taking
in_unit kind at body code value known = parameter_taken kind at body value known (code_among (codes_of kind) code)

-- the mandatory codes of a unit are there
unfoldable pub all_there : ℕ → List Code → Known → Result Known SpduFault
all_there at [] known = Ok known
all_there at (c ∷ codes) known = if is_some (known c) then all_there at codes known else Err (MissingParameter (number_of c) at)

-- a unit, the offset of its end, and the octets after it
pub record Placed : Type 0 where
  pub kind : Kind
  pub known : Known
  pub end : ℕ
  pub rest : List ℕ

abbrev pub placed_kind : Bool → ℕ → Option Kind → Result Kind SpduFault
placed_kind second at None = Err (UnknownSi at)
placed_kind second at (Some kind) = if may_stand second (category_of kind) then Ok kind else Err (BadConcatenation at)

unfoldable pub unit_at : Bool → ℕ → List ℕ → Result Placed SpduFault
unit_at second at [] = Err (LengthPastEnd at)
unit_at second at (si ∷ octets) = do
  kind ← placed_kind second at (kind_named second si)
  m ← measured_at at octets
  raw ← params_of (in_unit kind) (at + (1 + m.used)) nothing m.value
  whole ← all_there at (required_of kind) raw
  Ok (record { kind = kind; known = settled whole; end = at + (1 + m.used + length m.value); rest = m.rest })

abbrev pub contents_of : Placed → List ℕ → Contents
contents_of unit information = record { kind = unit.kind; known = unit.known; information = information }

-- the octets after a DT are its user information
abbrev pub takes_rest : Kind → Bool
takes_rest DataTransfer = true
takes_rest _ = false

-- a unit that follows another, the end of its user information, and the octets after that
pub record Next : Type 0 where
  pub unit : Contents
  pub end : ℕ
  pub rest : List ℕ

abbrev pub next_if : Bool → Placed → Next
next_if true unit = record { unit = contents_of unit unit.rest; end = unit.end + length unit.rest; rest = [] }
next_if false unit = record { unit = contents_of unit []; end = unit.end; rest = unit.rest }

unfoldable pub next_at : ℕ → List ℕ → Result Next SpduFault
next_at at octets = unit_at true at octets >>= λ unit. Ok (next_if (takes_rest unit.kind) unit)

-- the fault of a unit that would be one too many
abbrev pub crowded : ℕ → Option Kind → SpduFault
crowded at None = UnknownSi at
crowded at (Some kind) = BadConcatenation at

-- the units after the first one; the first argument is how many there may be
unfoldable pub behind_at : ℕ → ℕ → List ℕ → Result Units SpduFault
behind_at room at [] = Ok []
behind_at zero at (si ∷ octets) = Err (crowded at (kind_named true si))
behind_at (suc room) at (si ∷ octets) = do
  next ← next_at at (si ∷ octets)
  others ← behind_at room next.end next.rest
  Ok (next.unit ∷ others)

-- nothing follows a unit of category 1
abbrev pub ended : ℕ → List ℕ → Contents → Result Units SpduFault
ended at [] unit = Ok (unit ∷ [])
ended at (b ∷ octets) unit = Err (TrailingOctets at)

-- at most 16 units follow a unit of category 0
abbrev pub continued : Category → Placed → Result Units SpduFault
continued Zero unit = behind_at 16 unit.end unit.rest >>= λ behind. Ok (contents_of unit [] ∷ behind)
continued One unit = ended unit.end unit.rest (contents_of unit [])
continued Two unit = ended unit.end unit.rest (contents_of unit [])

-- all of a TSDU
unfoldable pub tsdu_at : List ℕ → Result Units SpduFault
tsdu_at octets = unit_at false 0 octets >>= λ unit. continued (category_of unit.kind) unit
