-- What a piece of a side adds: TSDUs of this side. What passed before, and what the other side sent, stay as they are.
use Rattle.std.specs.Prelude.{◌≡◌, ◌++◌, ◌∷◌, ℕ, List, []}
use Rattle.osi_script.specs.declared.sides.Side.{Side}
use Rattle.osi_witness.specs.declared.conversations.Conversation.{Conversation}
use Rattle.osi_witness.specs.Conversations.{stream_of}
use Rattle.osi_witness.specs.Places.{other_side}
use Rattle.osi_witness.specs.Streams.{tsdus_of, unfinished}

-- on a connection: this side may have sent TSDUs more, the other side has not
pub record SaysMore (side : Side) (old new : Conversation) : Type 0 where
  pub more : List (List ℕ)
  pub own : tsdus_of (stream_of new side) ≡ tsdus_of (stream_of old side) ++ more
  pub other : tsdus_of (stream_of new (other_side side)) ≡ tsdus_of (stream_of old (other_side side))
  pub rest : unfinished (stream_of new (other_side side)) ≡ unfinished (stream_of old (other_side side))

-- on those that begin the other side has sent nothing
abbrev pub AllBegin : Side → List Conversation → Type 0
AllBegin side [] = Unit {0}
AllBegin side (c ∷ conversations) = (tsdus_of (stream_of c (other_side side)) ≡ []) × AllBegin side conversations

-- on all connections
abbrev pub AllSayMore : Side → (old new : List Conversation) → Type 0
AllSayMore side [] new = AllBegin side new
AllSayMore side (c ∷ old) (d ∷ new) = SaysMore side c d × AllSayMore side old new
AllSayMore side (c ∷ old) [] = ⊥
