-- A connection begins: an end has a new line, for the CN that it sends or awaits.
-- For calls, packets and carries.
use Rattle.osi_pair.proofs.Vocabulary.{◌≡◌, ◌≢◌, ℕ, List, [], ◌∷◌, ◌++◌, Some, None, refl, ap, ◌∙◌, arith, Value, Rows, value_at}
use Rattle.osi_pair.proofs.Vocabulary.{Connection, push_other, Listener, AreApart, told_all, kept_at, used_lines, fresh_line, used_at}
use Rattle.osi_pair.proofs.Vocabulary.{apart_push, TwoEnds, end_at, waiting_in, Side, awaits_cn as awaits, EndLine as Line, Shown, map}
use Rattle.osi_pair.proofs.session.an_end_with_nothing_pending.{none_second}

-- ---- the lines with a new one; unused lines are dropped

abbrev pub joined : ℕ → Listener → Rows Line → Rows Line
joined n session lines = lines ++ (n, fresh_line session) ∷ []

joined_waits : (n : ℕ) (session : Listener) (lines : Rows Line) → waiting_in (joined n session lines) ≡ waiting_in lines
joined_waits n session [] = refl
joined_waits n session ((r, line) ∷ lines) =
    ap (λ (w : List (ℕ × Shown)). map (λ shown. (r, shown)) line.waiting ++ w) (joined_waits n session lines)

used_waits : (live : Rows Connection) (lines : Rows Line) → waiting_in lines ≡ [] → waiting_in (used_lines live lines) ≡ []
used_waits live [] e = refl
used_waits live ((r, line) ∷ lines) e =
    grind (arith, none_second, used_waits live lines (none_second (λ shown. (r, shown)) line.waiting (waiting_in lines) e))

pub begun_waits : (n : ℕ) (session : Listener) (live : Rows Connection) (lines : Rows Line) → waiting_in lines ≡ [] →
    waiting_in (used_lines live (joined n session lines)) ≡ []
begun_waits n session live lines e = used_waits live (joined n session lines) (joined_waits n session lines ∙ e)

pub begun_kept : (n q : ℕ) (session : Listener) (live : Rows Connection) (lines : Rows Line) (x : Listener) → q ≢ n →
    value_at n lines ≡ None → AreApart lines → kept_at q (used_lines live (joined n session lines)) ≡ Some x → kept_at q lines ≡ Some x
begun_kept n q session live lines x apart none all h = grind (arith, push_other, used_at, apart_push)

-- ---- at an end that a CR reaches

abbrev pub begun_lines : Side → TwoEnds → Value → ℕ → Rows Line
begun_lines s p u n = used_lines (told_all u (end_at s p).end).carrier.live (joined n awaits (end_at s p).end.lines)
