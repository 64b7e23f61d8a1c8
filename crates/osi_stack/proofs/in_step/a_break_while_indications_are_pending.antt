-- A break while indications are pending: of each reference the same is reported.
use Rattle.std.proofs.Common.{arith, ◌≡◌, ℕ, ◌==◌, Bool, true, false, List, [], ◌∷◌, ◌++◌, None, is_some, refl, sym, ap, ◌∙◌, append_assoc}
use Rattle.std.proofs.Common.{if◌then◌else◌}
use Rattle.osi_stack.specs.Runs.{Call, told_of}
use Rattle.osi_stack.proofs.Vocabulary.{eqb-true, append-nil, filter-append, flat_map, Rows, Broken, Shown, breaks, ends, shown_at_loss}
use Rattle.osi_stack.proofs.Vocabulary.{all_lost, AreApart, kept_at, waiting_at, shown_of, all_waiting, quieted, hushed, put_back}
use Rattle.osi_stack.proofs.Vocabulary.{carried_in, AreAlike, AreAlikeByReference, IsSettled, Line, End, Holding, none_of}
use Rattle.osi_stack.proofs.in_step.what_is_seen_is_the_same.{quieted_at}
use Rattle.osi_stack.proofs.carried.open_connections_stay_open.{apart_lost}
use Rattle.osi_stack.proofs.carried.what_a_move_leaves.{are_lost}

-- ---- the indications of one reference

told_here : (r q : ℕ) (w : List Shown) → (q == r) ≡ true → told_of r (shown_of q w) ≡ shown_of q w
told_here r q [] e = refl
told_here r q (shown ∷ w) e = rw e (ap (λ (l : List (ℕ × Shown)). (q, shown) ∷ l) (told_here r q w e))

told_other : (r q : ℕ) (w : List Shown) → (q == r) ≡ false → told_of r (shown_of q w) ≡ []
told_other r q [] e = refl
told_other r q (shown ∷ w) e = rw e (told_other r q w e)

-- if each reference has one line
told_at : (r : ℕ) (lines : Rows Line) → AreApart lines → told_of r (all_waiting lines) ≡ shown_of r (waiting_at r lines)
told_at r [] apart = refl
told_at r ((q, line) ∷ lines) apart = grind (arith, filter-append, eqb-true, told_here, append-nil, told_other, told_at r lines apart.1)

shown_join : (r : ℕ) (a b : List Shown) → shown_of r (a ++ b) ≡ shown_of r a ++ shown_of r b
shown_join r [] b = refl
shown_join r (x ∷ a) b = ap (λ (l : List (ℕ × Shown)). (r, x) ∷ l) (shown_join r a b)

-- the loss is indicated last
pub lost_told : (r : ℕ) (t : List (ℕ × Shown)) (lines : Rows Line) → AreApart lines →
    told_of r (t ++ all_waiting (all_lost lines)) ≡ told_of r (t ++ all_waiting lines) ++ shown_of r (shown_at_loss (kept_at r lines))
lost_told r t lines apart = grind (arith, filter-append, told_at, apart_lost, are_lost lines, shown_join, append_assoc)

-- ---- two ends that are alike

lost_quieted : (lines : Rows Line) → quieted (all_lost lines) ≡ quieted (all_lost (quieted lines))
lost_quieted [] = refl
lost_quieted ((q, line) ∷ lines) = ap (λ (l : Rows Line). (q, record line { session = None; waiting = [] }) ∷ l) (lost_quieted lines)

ends_hushed : (o : List ℕ) (e : End) → put_back o (hushed (ends Broken e)) ≡ put_back o (hushed (ends Broken (hushed e)))
ends_hushed o e = ap (λ (l : Rows Line). put_back o (record (ends Broken e) { lines = l })) (lost_quieted e.lines)

kept_alike : (a b : Holding) (xs ys : List Call) → AreAlike a xs b ys → (r : ℕ) → kept_at r a.end.lines ≡ kept_at r b.end.lines
kept_alike a b xs ys h r = grind (arith, quieted_at r a.end.lines, quieted_at r b.end.lines)

pub broken_apart : (a b : Holding) (xs ys : List Call) → AreApart a.end.lines → AreApart b.end.lines → AreAlike a xs b ys →
    AreAlikeByReference (record a { end = ends Broken a.end }) xs (record b { end = ends Broken b.end }) ys
broken_apart a b xs ys apart others h =
    grind (arith, lost_told, kept_alike, ends_hushed (flat_map carried_in xs) a.end, ends_hushed (flat_map carried_in ys) b.end)

abbrev broken_by : Bool → Holding → Holding
broken_by over h = record h { end = if over then h.end else ends Broken h.end }

breaks_by : (over : Bool) (a b : Holding) (xs ys : List Call) → is_some a.end.carrier.ended ≡ over → IsSettled a.end → IsSettled b.end →
    AreAlike a xs b ys →
    AreAlikeByReference (broken_by over a) xs (broken_by over b) ys
breaks_by true a b xs ys over s t h = record { octets = h.octets; end = h.end; told = λ r. ap (told_of r) h.told }
breaks_by false a b xs ys over s t h =
    let same = ap (λ (e : End). is_some e.carrier.ended) h.end in
    broken_apart a b xs ys (s.sound (none_of a.end.carrier.ended over)).apart
    (t.sound (none_of b.end.carrier.ended (sym same ∙ over))).apart h

-- if a break is found, whatever is pending
pub breaks_alike : (a b : Holding) (xs ys : List Call) → IsSettled a.end → IsSettled b.end → AreAlike a xs b ys →
    AreAlikeByReference (record a { end = breaks a.end }) xs (record b { end = breaks b.end }) ys
breaks_alike a b xs ys s t h = grind (arith, breaks_by (is_some a.end.carrier.ended) a b xs ys refl s t h)
