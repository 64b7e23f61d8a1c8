-- What an octet that passes does to the judge's state, while packets are read in its direction.
-- For the law that a capture of an end is steps.
use Rattle.osi_blameless.proofs.Vocabulary.{[], false, List, ℕ, ◌++◌, ◌∷◌, ◌≡◌, of, Direction, going, looks, Front, front_of, gathered}
use Rattle.osi_blameless.proofs.Vocabulary.{looked_at, octet_passes, stream_of, arith, Course, packet_begins}
use Rattle.osi_judge.specs.States.{State}

-- what the course comes to once an octet has passed after these of the same packet
abbrev pub begins : Direction → List ℕ → Course → Course
begins d [] c = packet_begins d c
begins d (octet ∷ held) c = c

pub passes_so : (d : Direction) (x : ℕ) (s : State) (f : Front) → (stream_of d s).spent ≡ false →
    front_of ((stream_of d s).held ++ x ∷ []) ≡ f → octet_passes (of d x) s ≡ looked_at d (gathered (x ∷ []) (stream_of d s)) f
    (record s { course = begins d (stream_of d s).held s.course })
passes_so d x s f reads is = grind (arith, going, looks)
