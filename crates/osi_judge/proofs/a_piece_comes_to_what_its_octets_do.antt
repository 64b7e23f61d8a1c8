-- A piece of one direction comes to the same as its octets one after the other: for the law that pieces don't matter.
use Rattle.osi_judge.proofs.Vocabulary.{◌≡◌, ◌∙◌, refl, sym, ap, subst, ℕ, suc, ◌+◌, false, List, [], ◌∷◌, ◌++◌, append_assoc}
use Rattle.osi_judge.proofs.Vocabulary.{arith, offset_of, Capture, of, piece, Direction, Front, partial, front_of, Streamed, counted}
use Rattle.osi_judge.proofs.Vocabulary.{gathered, State, stream_of, with_stream, looked_at, begun, octets_pass, octet_passes, after, GoesOn}

pub after_more : (a b : Capture) (s : State) → after (a ++ b) s ≡ after b (after a s)
after_more [] b s = refl
after_more (o ∷ a) b s = after_more a b (octet_passes o s)

-- ---- counts

pub offset_more : (a n : ℕ) → offset_of (offset_of (a + 1) + n) ≡ offset_of (a + suc n)
offset_more a n = omega arith

pub counted_more : (n : ℕ) (t : Streamed) → counted n (counted 1 t) ≡ counted (suc n) t
counted_more n t = ap (λ (k : ℕ). record t { octets = k }) (offset_more t.octets n)

gathered_more : (o : ℕ) (os : List ℕ) (t : Streamed) → gathered os (gathered (o ∷ []) t) ≡ gathered (o ∷ os) t
gathered_more o os t = grind (arith, offset_more, append_assoc)

-- ---- one stream

pub same_stream : (d : Direction) (t : Streamed) (s : State) → stream_of d (with_stream d t s) ≡ t
same_stream d t s = grind arith

pub stream_again : (d : Direction) (t u : Streamed) (s : State) → with_stream d u (with_stream d t s) ≡ with_stream d u s
stream_again d t u s = grind arith

look_again : (d : Direction) (t u : Streamed) (f : Front) (s : State) → looked_at d u f (with_stream d t s) ≡ looked_at d u f s
look_again d t u f s = grind arith

begun_on : (d : Direction) (o : ℕ) (held : List ℕ) (s : State) → begun d (held ++ o ∷ []) s ≡ s
begun_on d o [] s = refl
begun_on d o (x ∷ held) s = refl

-- what passes if packets are still read
abbrev pub looks : Direction → Streamed → State → State
looks d t s = looked_at d t (front_of t.held) s

pub going : (d : Direction) (os : List ℕ) (s : State) → (stream_of d s).spent ≡ false
    → octets_pass d os s ≡ looks d (gathered os (stream_of d s)) (begun d (stream_of d s).held s)
going d os s e = grind arith

-- an octet that completes no packet, and then others
pub octet_first : (d : Direction) (o : ℕ) (os : List ℕ) (s : State) → (stream_of d s).spent ≡ false
    → front_of ((stream_of d s).held ++ o ∷ []) ≡ partial → octets_pass d os (octet_passes (of d o) s) ≡ octets_pass d (o ∷ os) s
octet_first d o os s e part = grind (arith, going, begun_on, look_again, gathered_more)

still : (d : Direction) (o : ℕ) (s : State) → (stream_of d s).spent ≡ false → front_of ((stream_of d s).held ++ o ∷ []) ≡ partial
    → stream_of d (octet_passes (of d o) s) ≡ gathered (o ∷ []) (stream_of d s)
still d o s e part = grind (arith, going, same_stream)

pub piece_passes : (d : Direction) (o : ℕ) (os : List ℕ) (s : State) → (stream_of d s).spent ≡ false → GoesOn (stream_of d s).held (o ∷ os)
    → octets_pass d (o ∷ os) s ≡ after (piece d (o ∷ os)) s
piece_passes d o [] s e on = refl
piece_passes d o (p ∷ os) s e on =
    let then_on = still d o s e on.0 in
    let open_still : (stream_of d (octet_passes (of d o) s)).spent ≡ false = ap (λ (u : Streamed). u.spent) then_on ∙ e in
    let goes : GoesOn (stream_of d (octet_passes (of d o) s)).held (p ∷ os) =
    subst (λ (u : Streamed). GoesOn u.held (p ∷ os)) (sym then_on) on.1 in
    sym (octet_first d o (p ∷ os) s e on.0) ∙ piece_passes d p os (octet_passes (of d o) s) open_still goes
