-- The line of a connection's state in memory.
-- For `push_side`, which writes the states of one end.
use Rattle.osi_transcript.proofs.Vocabulary.{◌≡◌, ◌∙◌, ◌+◌, ◌-◌, ◌<◌, ◌++◌, ◌&&◌, Bool, false, List, [], ℕ, zero, suc, refl, sym, ap}
use Rattle.osi_transcript.proofs.Vocabulary.{add-one, arith, Some, None, nat_lt, nat_le, if◌then◌else◌, nat_tests, append-nil, bits_of}
use Rattle.osi_transcript.proofs.Vocabulary.{standing_line, Standing, Phase, phase_at, phase_of, End, session_at, Side, phase_text, text_by}
use Rattle.osi_transcript.specs.Standings.{stand, standing_text, standing_texts}

pub stand_of : (s : Standing) →
    standing_line s ≡ stand s.side s.reference s.phase (bits_of s.held) s.next_serial s.confirmed_below s.lowest_restart
unfolding stand
stand_of s = refl

pub no_standings : (side : Side) (e : End) → standing_texts side e 0 ≡ []
unfolding standing_texts
no_standings side e = refl

-- one connection more
pub standings_more : (side : Side) (e : End) (n : ℕ) → standing_texts side e (n + 1) ≡ standing_texts side e n ++
    standing_text side (n + 1) e
unfolding standing_texts
standings_more side e n = grind (arith, add-one)

-- ---- references that were never given

not_given : (r given : ℕ) → given < r → (nat_lt 0 r && nat_le r given) ≡ false
not_given r given h = grind (arith, nat_tests)

no_phase : (r : ℕ) (e : End) → e.carrier.given < r → phase_at r e ≡ None
no_phase r e h = ap (λ (b : Bool). if b then Some (phase_of (session_at r e)) else None) (not_given r e.carrier.given h)

no_standing : (side : Side) (r : ℕ) (e : End) → e.carrier.given < r → standing_text side r e ≡ []
unfolding standing_text
no_standing side r e h = ap (text_by side r e) (no_phase r e h)

none_behind : (side : Side) (e : End) (n k m : ℕ) → e.carrier.given < n + 1 → m ≡ n + k → standing_texts side e m ≡ standing_texts side e n
none_behind side e n zero m few same = ap (standing_texts side e) (omega arith)
none_behind side e n (suc k) m few same =
    let p : ℕ = n + k in
    let next : m ≡ p + 1 = omega arith in
    ap (standing_texts side e) next ∙ standings_more side e p
    ∙ ap (λ (t : List ℕ). standing_texts side e p ++ t) (no_standing side (p + 1) e (omega arith))
    ∙ append-nil (standing_texts side e p) ∙ none_behind side e n k p few refl

-- no connection has the first reference that was not given, or one above it
pub standings_end : (side : Side) (e : End) (n : ℕ) (before after : List ℕ) → phase_at (n + 1) e ≡ None → n < 65535 →
    after ≡ before ++ standing_texts side e n → after ≡ before ++ standing_texts side e 65535
standings_end side e n before after none within h =
    h ∙ ap (λ (t : List ℕ). before ++ t)
    (sym (none_behind side e n (65535 - n) 65535 (grind arith) (omega arith)))

-- the line of one that was given
pub standing_here : (side : Side) (e : End) (r : ℕ) (p : Phase) → phase_at r e ≡ Some p → standing_text side r e ≡ phase_text side r e p
unfolding standing_text
standing_here side e r p h = ap (text_by side r e) h
