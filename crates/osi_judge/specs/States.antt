-- What a capture comes to, octet by octet.
use Rattle.std.specs.Prelude.{◌≡◌, ℕ, ◌∷◌, [], ◌++◌, List, if◌then◌else◌, length}
use Rattle.osi_side.specs.Captures.{Capture, Passed, of}
use Rattle.osi_side.specs.declared.directions.Direction.{Direction}
use Rattle.osi_side.specs.declared.directions.Direction.TheVariants.{Left, Right}
use Rattle.osi_judge.specs.declared.marks.Cause.TheVariants.{BadPacket}
use Rattle.osi_judge.specs.declared.rooms.Room.{Room}
use Rattle.osi_judge.specs.Courses.{Course, fresh, fresh_within, packet_begins, packet_passes, unread}
use Rattle.osi_judge.specs.Streams.{Front, partial, faulty, whole, front_of, Streamed, untouched, counted, gathered, advanced, ended}

-- both directions, and what has passed
pub record State : Type 0 where
  pub left : Streamed
  pub right : Streamed
  pub course : Course

abbrev pub begin : State
begin = record { left = untouched; right = untouched; course = fresh }

-- of each connection so much may be kept
abbrev pub begin_within : Room → State
begin_within room = record begin { course = fresh_within room }

abbrev pub stream_of : Direction → State → Streamed
stream_of Left s = s.left
stream_of Right s = s.right

abbrev pub with_stream : Direction → Streamed → State → State
with_stream Left t s = record s { left = t }
with_stream Right t s = record s { right = t }

-- the octets that are held of the current packet are looked at
abbrev pub looked_at : Direction → Streamed → Front → State → State
looked_at d t partial s = with_stream d t s
looked_at d t (faulty fault) s = with_stream d (ended t) (record s { course = unread d t.at (BadPacket fault) s.course })
looked_at d t (whole unit) s = with_stream d (advanced t) (record s { course = packet_passes d t.at unit s.course })

-- a packet begins with its first octet
abbrev pub begun : Direction → List ℕ → State → State
begun d [] s = record s { course = packet_begins d s.course }
begun d (octet ∷ held) s = s

-- octets of the current packet pass, or octets of which no packet begins
abbrev pub octets_pass : Direction → List ℕ → State → State
octets_pass d octets s =
    if (stream_of d s).spent then with_stream d (counted (length octets) (stream_of d s)) s
    else (let t = gathered octets (stream_of d s) in looked_at d t (front_of t.held) (begun d (stream_of d s).held s))

abbrev pub octet_passes : Passed → State → State
octet_passes (of d octet) s = octets_pass d (octet ∷ []) s

-- after a capture, in this state before it
abbrev pub after : Capture → State → State
after [] s = s
after (o ∷ capture) s = after capture (octet_passes o s)

-- what a capture comes to
abbrev pub comes_to : Capture → State
comes_to capture = after capture begin

-- of these octets of a packet none but the last completes it, or shows that no packet begins
abbrev pub GoesOn : List ℕ → List ℕ → Type 0
GoesOn held [] = Unit {0}
GoesOn held (o ∷ []) = Unit {0}
GoesOn held (o ∷ p ∷ os) = (front_of (held ++ o ∷ []) ≡ partial) × GoesOn (held ++ o ∷ []) (p ∷ os)
