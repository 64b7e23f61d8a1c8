-- Octets that are taken of a piece at once come to the same as one after the other: up to the end of the header or of the packet
-- none but the last completes it; or no packet begins with the first, and the others are counted.
use Rattle.osi_judge.proofs.Vocabulary.{◌≡◌, ◌∙◌, refl, sym, ap, ℕ, ◌+◌, ◌<◌, ◌≤◌, ◌==◌, ◌⊎◌, Bool, true, false, if◌then◌else◌, List, []}
use Rattle.osi_judge.proofs.Vocabulary.{◌∷◌, ◌++◌, length, take, arith, le-ltb, lt-ltb, length-append, BadVersion, BadLength, of, piece}
use Rattle.osi_judge.proofs.Vocabulary.{Direction, BadPacket, Proceedings, Course, unread, HoldsAll, IsPart, HoldsOpen, HoldsStream}
use Rattle.osi_judge.proofs.Vocabulary.{partial, faulty, whole, front_of, Streamed, counted, gathered, ended, are_none, begins_at, wanted}
use Rattle.osi_judge.proofs.Vocabulary.{used_of, State, stream_of, with_stream, looked_at, begun, octets_pass, octet_passes, after, GoesOn}
use Rattle.osi_judge.specs.Courses.{packet_begins}
use Rattle.osi_judge.proofs.a_piece_comes_to_what_its_octets_do.{piece_passes, counted_more, offset_more, same_stream}
use Rattle.osi_judge.proofs.a_piece_comes_to_what_its_octets_do.{stream_again, looks, going}

-- ---- a part of a packet, and one octet more

lengths_of : (a b : Bool) (u : List ℕ) → (if a then faulty (BadLength 0) else (if b then partial else whole u)) ≡ partial
    → (a ≡ false) × (b ≡ true)
lengths_of a b u h = grind arith

one_more : (held : List ℕ) (o : ℕ) → 0 < length held → front_of held ≡ partial → 2 ≤ wanted held
    → (front_of (held ++ o ∷ []) ≡ partial) × (wanted held ≤ wanted (held ++ o ∷ []) + 1)
one_more held o some e w = grind (arith, le-ltb, length-append, lengths_of, lt-ltb)

goes_on : (held : List ℕ) (o : ℕ) (os : List ℕ) → 0 < length held → front_of held ≡ partial → length (o ∷ os) ≤ wanted held
    → GoesOn held (o ∷ os)
goes_on held o [] some part h = tt
goes_on held o (p ∷ os) some part h =
    let m = one_more held o some part (omega arith) in
    (m.0, goes_on (held ++ o ∷ []) p os (grind (arith, length-append)) m.0 (omega (arith, m.1)))

-- ---- the first octets

start : (o : ℕ) (os : List ℕ) → length (o ∷ os) ≤ 4 → GoesOn [] (o ∷ os) ⊎ (front_of (o ∷ []) ≡ faulty (BadVersion 0))
start o os h = grind arith

bad_front : (o : ℕ) (os : List ℕ) → front_of (o ∷ []) ≡ faulty (BadVersion 0) → front_of (o ∷ os) ≡ faulty (BadVersion 0)
bad_front o os h = grind arith

-- ---- octets that are only counted

spent_at : (d : Direction) (os : List ℕ) (s : State) → (stream_of d s).spent ≡ true
    → octets_pass d os s ≡ with_stream d (counted (length os) (stream_of d s)) s
spent_at d os s e = grind (arith, looks)

spent_still : (d : Direction) (x s : State) (u : Streamed) → x ≡ with_stream d u s → u.spent ≡ true → (stream_of d x).spent ≡ true
spent_still d x s u e spent = ap (λ (z : State). (stream_of d z).spent) e ∙ ap (λ (z : Streamed). z.spent) (same_stream d u s) ∙ spent

spent_passes : (d : Direction) (o : ℕ) (os : List ℕ) (s : State) → (stream_of d s).spent ≡ true
    → octets_pass d (o ∷ os) s ≡ after (piece d (o ∷ os)) s
spent_passes d o [] s e = refl
spent_passes d o (p ∷ os) s e =
    let t = stream_of d s in
    let x = octet_passes (of d o) s in
    let first : x ≡ with_stream d (counted 1 t) s = spent_at d (o ∷ []) s e in
    spent_at d (o ∷ p ∷ os) s e ∙ ap (λ (u : Streamed). with_stream d u s) (sym (counted_more (length (p ∷ os)) t))
    ∙ sym (grind (arith, same_stream, spent_at, stream_again))
    ∙ spent_passes d p os x (spent_still d x s (counted 1 t) first e)

-- ---- octets with which no packet begins

-- what comes to pass then
abbrev failed : Direction → List ℕ → State → State
failed d os s = with_stream d (ended (gathered os (stream_of d s))) (record (begun d (stream_of d s).held s) {
  course = unread d (stream_of d s).at (BadPacket (BadVersion 0)) (begun d (stream_of d s).held s).course;
})

fails : (d : Direction) (o : ℕ) (os : List ℕ) (s : State) → (stream_of d s).held ≡ [] → (stream_of d s).spent ≡ false
    → front_of (o ∷ []) ≡ faulty (BadVersion 0) → octets_pass d (o ∷ os) s ≡ failed d (o ∷ os) s
fails d o os s e reads bad = grind (arith, going, bad_front)

bad_passes : (d : Direction) (o : ℕ) (os : List ℕ) (s : State) → (stream_of d s).held ≡ [] → (stream_of d s).spent ≡ false
    → front_of (o ∷ []) ≡ faulty (BadVersion 0) → octets_pass d (o ∷ os) s ≡ after (piece d (o ∷ os)) s
bad_passes d o [] s e reads bad = refl
bad_passes d o (p ∷ os) s e reads bad =
    let t = stream_of d s in
    let x = octet_passes (of d o) s in
    let b : State = record (begun d t.held s) { course = unread d t.at (BadPacket (BadVersion 0)) (begun d t.held s).course } in
    let u : Streamed = ended (gathered (o ∷ []) t) in
    let first : x ≡ with_stream d u b = fails d o [] s e reads bad in
    let count : counted (length (p ∷ os)) u ≡ ended (gathered (o ∷ p ∷ os) t) =
    ap (λ (k : ℕ). record t { octets = k; held = []; spent = true }) (offset_more t.octets (length (p ∷ os))) in
    fails d o (p ∷ os) s e reads bad ∙ ap (λ (z : Streamed). with_stream d z b) (sym count)
    ∙ sym (grind (arith, same_stream, spent_at, stream_again)) ∙ spent_passes d p os x (spent_still d x b u first refl)

-- ---- octets up to the end of the header, or of the packet

start_passes : (d : Direction) (o : ℕ) (os : List ℕ) (s : State) → (stream_of d s).held ≡ [] → (stream_of d s).spent ≡ false
    → GoesOn [] (o ∷ os) ⊎ (front_of (o ∷ []) ≡ faulty (BadVersion 0)) → octets_pass d (o ∷ os) s ≡ after (piece d (o ∷ os)) s
start_passes d o os s e reads h = grind (arith, piece_passes, bad_passes)

part_passes : (d : Direction) (o : ℕ) (os : List ℕ) (s : State) (held : List ℕ) → (stream_of d s).held ≡ held
    → (stream_of d s).spent ≡ false → front_of held ≡ partial → length (o ∷ os) ≤ wanted held
    → octets_pass d (o ∷ os) s ≡ after (piece d (o ∷ os)) s
part_passes d o os s [] e reads part h = start_passes d o os s e reads (start o os h)
part_passes d o os s (x ∷ held) e reads part h = grind (arith, piece_passes, goes_on)

taken_by : (b : Bool) (d : Direction) (o : ℕ) (os : List ℕ) (s : State) → (stream_of d s).spent ≡ b → IsPart (stream_of d s)
    → ((stream_of d s).spent ≡ false → length (o ∷ os) ≤ wanted (stream_of d s).held)
    → octets_pass d (o ∷ os) s ≡ after (piece d (o ∷ os)) s
taken_by b d o os s e part h = grind (arith, spent_passes, part_passes)

-- ---- what is taken of a piece, as it is held

begun_as : (d : Direction) (held : List ℕ) (s : State)
    → record s { course = if are_none held then packet_begins d s.course else s.course } ≡ begun d held s
begun_as d held s = grind arith

-- it begins a packet, or not
abbrev begun_if : Bool → Direction → State → State
begun_if b d s = record s { course = if b then packet_begins d s.course else s.course }

came_by : (b : Bool) (d : Direction) (o : ℕ) (os : List ℕ) (t : Streamed) (s : State) → (stream_of d s).spent ≡ b
    → IsPart (stream_of d s) → ((stream_of d s).spent ≡ true → t ≡ counted (length (o ∷ os)) (stream_of d s))
    → ((stream_of d s).spent ≡ false → t ≡ gathered (o ∷ os) (stream_of d s))
    → looked_at d t (front_of t.held) (begun_if (begins_at (stream_of d s)) d s) ≡ octets_pass d (o ∷ os) s
came_by b d o os t s e part spent reads = grind (arith, spent_at, begun_as, looks, going)

-- what is said of octets that are taken: of a stream before and after them
pub record Takes (os : List ℕ) (old new : Streamed) : Type 0 where
  pub spent : old.spent ≡ true → new ≡ counted (length os) old
  pub reads : old.spent ≡ false → new ≡ gathered os old
  pub up_to : old.spent ≡ false → length os ≤ wanted old.held

came_at : (d : Direction) (os : List ℕ) (t : Streamed) (s : State) → 0 < length os → IsPart (stream_of d s) → Takes os (stream_of d s) t
    → looked_at d t (front_of t.held) (begun_if (begins_at (stream_of d s)) d s) ≡ after (piece d os) s
came_at d [] t s some part h = absurd (omega arith)
came_at d (o ∷ os) t s some part h =
    came_by (stream_of d s).spent d o os t s refl part h.spent h.reads ∙ taken_by (stream_of d s).spent d o os s refl part h.up_to

pub taken_looked : (b begins : Bool) (d : Direction) (os : List ℕ) (w v n : Proceedings) (old mid new : Streamed) (s : State)
    → HoldsOpen d w old s → 0 < length os → Takes os old mid → begins ≡ begins_at old
    → ((c : Course) → HoldsAll w c → HoldsAll v (if begins then packet_begins d c else c))
    → ((z : State) → HoldsAll v z.course → (mid.spent ≡ true → mid.held ≡ []) →
    HoldsStream b d n new (looked_at d mid (front_of mid.held) z))
    → HoldsStream b d n new (after (piece d os) s)
taken_looked b begins d os w v n old mid new s h some takes begins_is begin look = grind (arith, came_at)

-- how many are taken of a piece
pub takes_of : (n : ℕ) (octets : List ℕ) (old new : Streamed) → n ≡ used_of old octets → n ≤ length octets
    → (old.spent ≡ true → new ≡ counted n old) → (old.spent ≡ false → new ≡ gathered (take n octets) old)
    → length (take n octets) ≡ n → Takes (take n octets) old new
takes_of n octets old new used within spent reads count = grind arith

-- of a piece that is not empty some are taken
pub some_of : (n : ℕ) (octets : List ℕ) → (length octets == 0) ≡ false → (0 < length octets → 0 < n) → length (take n octets) ≡ n
    → 0 < length (take n octets)
some_of n octets e some count = grind arith
