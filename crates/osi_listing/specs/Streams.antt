-- The TSDUs of a capture: the user data of the data units of each stream, joined up to each EOT.
use Rattle.std.specs.Prelude.{ℕ, ◌==◌, Bool, true, false, if◌then◌else◌, List, [], ◌∷◌, ◌++◌, filter, Option, Some, None, Result, Ok, Err, option_to_list}
use Rattle.osi_class.specs.declared.faults.LinkFault.{LinkFault}
use Rattle.osi_class.specs.Joining.{Joining, joined_to}
use Rattle.osi_tpdu.specs.Value.{Value, request, confirm, disconnect, disconnected, data0, data2, acknowledge, error}

-- a data unit: its stream, which is one for class 0 and one for each DST-REF in class 2, its EOT and its user data
pub record Part : Type 0 where
  pub stream : Option ℕ
  pub end : Bool
  pub octets : List ℕ

abbrev pub part_of : Value → Option Part
part_of (request c) = None
part_of (confirm destination c) = None
part_of (disconnect destination source reason user) = None
part_of (disconnected destination source) = None
part_of (data0 end user) = Some (record { stream = None; end = end; octets = user })
part_of (data2 destination number end user) = Some (record { stream = Some destination; end = end; octets = user })
part_of (acknowledge credit destination number) = None
part_of (error destination cause) = None

-- the data units among units
abbrev pub parts_of : List Value → List Part
parts_of [] = []
parts_of (v ∷ vs) = option_to_list (part_of v) ++ parts_of vs

-- the joined octets of the unfinished TSDU; or its parts are dropped up to the next EOT, because it is too long
pub data Join : Type 0 where
  Begun : List ℕ → Join
  Dropping : Join

-- the outcome of a part: nothing yet, a complete TSDU, or one that became too long
pub data Outcome : Type 0 where
  Nothing : Outcome
  Whole : List ℕ → Outcome
  TooLong : Outcome

-- parts are joined as a link joins them; those after one that is too long are dropped
abbrev pub join_after : Bool → Result Joining LinkFault → Join
join_after end (Ok joining) = Begun joining.begun
join_after end (Err fault) = if end then Begun [] else Dropping

abbrev pub joined : Join → Bool → List ℕ → Join
joined Dropping end octets = if end then Begun [] else Dropping
joined (Begun begun) end octets = join_after end (joined_to begun end octets)

abbrev pub first_whole : List (List ℕ) → Outcome
first_whole [] = Nothing
first_whole (tsdu ∷ more) = Whole tsdu

abbrev pub outcome_after : Result Joining LinkFault → Outcome
outcome_after (Ok joining) = first_whole joining.whole
outcome_after (Err fault) = TooLong

abbrev pub brought : Join → Bool → List ℕ → Outcome
brought Dropping end octets = Nothing
brought (Begun begun) end octets = outcome_after (joined_to begun end octets)

abbrev pub is_same_stream : Option ℕ → Option ℕ → Bool
is_same_stream None None = true
is_same_stream None (Some b) = false
is_same_stream (Some a) None = false
is_same_stream (Some a) (Some b) = a == b

abbrev pub after_parts : Join → List Part → Join
after_parts join [] = join
after_parts join (p ∷ parts) = after_parts (joined join p.end p.octets) parts

-- what is joined of a stream after all these parts
unfoldable pub join_of : Option ℕ → List Part → Join
join_of stream parts = after_parts (Begun []) (filter (λ p. is_same_stream stream p.stream) parts)
