-- What a judge holds of both directions and of what has passed: for the calls of a judge.
use Rattle.std.proofs.Common.{arith}
use Rattle.osi_judge.proofs.Vocabulary.{◌≡◌, ◌∙◌, refl, sym, ℕ, Bool, true, false, if◌then◌else◌, List, [], ◌∷◌, length, Capture, of, other}
use Rattle.osi_judge.proofs.Vocabulary.{piece, Direction, Left, Right, Judge, Proceedings, HoldsPart, HoldsOpen, HoldsStream, HoldsNow}
use Rattle.osi_judge.proofs.Vocabulary.{HoldsBy, due_if, HoldsState, IsFed, unfed, fed, Streamed, counted, gathered, State, stream_of}
use Rattle.osi_judge.proofs.Vocabulary.{with_stream, begun, octet_passes, after, comes_to}
use Rattle.osi_judge.proofs.a_piece_comes_to_what_its_octets_do.{looks, after_more}

-- ---- the other direction

other_begun : (d : Direction) (held : List ℕ) (s : State) → stream_of (other d) (begun d held s) ≡ stream_of (other d) s
other_begun d held s = grind arith

other_by : (b : Bool) (d : Direction) (os : List ℕ) (s : State)
    → stream_of (other d) (if b then with_stream d (counted (length os) (stream_of d s)) s
    else looks d (gathered os (stream_of d s)) (begun d (stream_of d s).held s)) ≡ stream_of (other d) s
other_by b d os s = search (arith, other_begun)

other_stays : (d : Direction) (os : List ℕ) (s : State) → stream_of (other d) (after (piece d os) s) ≡ stream_of (other d) s
other_stays d [] s = refl
other_stays d (o ∷ os) s = grind (arith, other_by, other_stays d os (octet_passes (of d o) s))

pub beside : (d : Direction) (os : List ℕ) (t : Streamed) (s : State) → HoldsPart (other d) t s
    → HoldsPart (other d) t (after (piece d os) s)
beside d os t s h = record { stream = h.stream ∙ sym (other_stays d os s); part = h.part }

-- ---- octets of a side are taken

left_taken : (b : Bool) (os : List ℕ) (v : Proceedings) (m r : Streamed) (s : State) → HoldsPart Right r s
    → HoldsStream b Left v m (after (piece Left os) s) → HoldsBy (due_if b Left) v m r (after (piece Left os) s)
left_taken false os v m r s h k = record { left = k.stream; right = beside Left os r s h; course = k.course }
left_taken true os v m r s h k = record { own = k; beside = beside Left os r s h }

right_taken : (b : Bool) (os : List ℕ) (v : Proceedings) (l m : Streamed) (s : State) → HoldsPart Left l s
    → HoldsStream b Right v m (after (piece Right os) s) → HoldsBy (due_if b Right) v l m (after (piece Right os) s)
right_taken false os v l m s h k = record { left = beside Right os l s h; right = k.stream; course = k.course }
right_taken true os v l m s h k = record { own = k; beside = beside Right os l s h }

pub taken_left : (b : Bool) (d : Direction) (os : List ℕ) (w v : Proceedings) (l m r : Streamed) (s : State) → d ≡ Left
    → (HoldsOpen d w l s → HoldsStream b d v m (after (piece d os) s)) → HoldsNow w l r s
    → HoldsBy (due_if b d) v m r (after (piece d os) s)
taken_left b d os w v l m r s e takes h = grind (arith, left_taken)

pub taken_right : (b : Bool) (d : Direction) (os : List ℕ) (w v : Proceedings) (l r m : Streamed) (s : State) → d ≡ Right
    → (HoldsOpen d w r s → HoldsStream b d v m (after (piece d os) s)) → HoldsNow w l r s
    → HoldsBy (due_if b d) v l m (after (piece d os) s)
taken_right b d os w v l r m s e takes h = grind (arith, right_taken)

-- ---- a capture is fed

pub fed_holds : (capture : Capture) (t : Judge) → IsFed capture t → HoldsState t (comes_to capture)
fed_holds _ _ (unfed t h) = h
fed_holds _ _ (fed capture d octets old new r f) = grind (arith, after_more, fed_holds capture old r)
