-- The text of a report is added one part after the other, and one connection after the other: for the functions of `report_texts`.
use Rattle.osi_report.proofs.Vocabulary.{◌≡◌, ◌∙◌, refl, sym, ap, ℕ, ◌+◌, Bool, true, false, ◌&&◌, ◌||◌, List, [], ◌∷◌, ◌++◌, length, arith}
use Rattle.osi_report.proofs.Vocabulary.{subst, flat_map, append-nil, append_assoc, flat_map-append, Sessions, numbered, count, State}
use Rattle.osi_report.proofs.Vocabulary.{offset_of, Pair, Last, Transport, AddsPair, AddsPairs, AddsReport, Report, IsLast, all_keep}
use Rattle.osi_report.proofs.Vocabulary.{carried, pair_lines, read_lines, transport_lines, last_line, last_status, some_over, Together}
use Rattle.osi_report.specs.Adding.{AddsUnjudged}
use Rattle.osi_report.specs.Quiet.{lines_if, unjudged_text}
use Rattle.osi_side.specs.declared.directions.Direction.TheVariants as side
use Rattle.osi_report.specs.ReportTexts.{report_front, report_text}
use Rattle.osi_report.proofs.a_report_says_what_a_judge_holds.{more_pairs}

-- ---- connections

pub none_added : (judged : Bool) (ss : Sessions) (old : List ℕ) → AddsPairs judged ss 0 old old (record { keeps = true; over = false })
none_added judged ss old = record { pairs = []; as_many = refl; each = tt; added = sym (append-nil old); kept = refl; over = refl }

one_longer : (ps : List Pair) (p : Pair) → length (ps ++ p ∷ []) ≡ length ps + 1
one_longer [] p = refl
one_longer (q ∷ ps) p = let h = one_longer ps p in omega (arith, h)

one_keeps : (ps : List Pair) (p : Pair) → all_keep (ps ++ p ∷ []) ≡ (all_keep ps && p.keeps)
one_keeps [] p = sym (grind arith)
one_keeps (q ∷ ps) p = ap (λ (b : Bool). q.keeps && b) (one_keeps ps p) ∙ (grind arith)

one_over : (ps : List Pair) (p : Pair) → some_over (ps ++ p ∷ []) ≡ (some_over ps || p.over)
one_over [] p = sym (grind arith)
one_over (q ∷ ps) p = ap (λ (b : Bool). q.over || b) (one_over ps p) ∙ (grind arith)

place_of : (n m : ℕ) → m ≡ n → n ≡ 0 + m
place_of n m e = omega (arith, e)

pub more_added : (judged : Bool) (ss : Sessions) (n : ℕ) (old mid new : List ℕ) (some all : Together) (p : Pair)
    → AddsPairs judged ss n old mid some → AddsPair judged (numbered n ss) mid new p → all.keeps ≡ (some.keeps && p.keeps) →
    all.over ≡ (some.over || p.over)
    → AddsPairs judged ss (n + 1) old new all
more_added judged ss n old mid new some all p h k e o = let place : n ≡ 0 + length h.pairs = place_of n (length h.pairs) h.as_many in
    record {
      pairs = h.pairs ++ p ∷ [];
      as_many = one_longer h.pairs p ∙ ap (λ (z : ℕ). z + 1) h.as_many;
      each = grind (arith, more_pairs);
      added = grind (arith, append-nil, append_assoc, flat_map-append);
      kept = e ∙ (λ i. h.kept i && p.keeps) ∙ sym (one_keeps h.pairs p);
      over = o ∙ (λ i. h.over i || p.over) ∙ sym (one_over h.pairs p);
    }

pub all_added : (judged : Bool) (ss : Sessions) (n m : ℕ) (old new : List ℕ) (all : Together) → n ≡ m → AddsPairs judged ss n old new all
    → AddsPairs judged ss m old new all
all_added judged ss n m old new all e h = subst (λ (z : ℕ). AddsPairs judged ss z old new all) e h

-- ---- the report

text_of : (r : Report) → report_text r ≡ (read_lines r.left r.right ++ flat_map pair_lines r.pairs ++ transport_lines r.left r.right)
    ++ last_line r.last
unfolding report_text report_front
text_of r = refl

pub report_added : (s : State) (left right : Transport) (last : Last) (t read pairs carries whole : List ℕ) (all : Together) (status : ℕ)
    → left ≡ carried side.Left s → right ≡ carried side.Right s → read ≡ t ++ read_lines left right
    → AddsPairs true s.course.sessions (offset_of (count s.course.sessions)) read pairs all → carries ≡ pairs ++ transport_lines left right
    → ((ps : List Pair) → all.keeps ≡ all_keep ps → all.over ≡ some_over ps → IsLast s ps last) → whole ≡ carries ++ last_line last
    → status ≡ last_status last → AddsReport s t whole status
report_added s left right last t read pairs carries whole all status l r e h g is f a =
    let report : Report = record { left = left; right = right; pairs = h.pairs; last = last } in
    grind (arith, append_assoc, text_of report)

-- ---- why nothing is judged

unjudged_of : (left right : Transport) (ps : List Pair) (why : Last) → unjudged_text left right ps why
    ≡ read_lines left right ++ flat_map (lines_if false) ps ++ last_line why
unfolding unjudged_text
unjudged_of left right ps why = refl

pub why_added : (s : State) (left right : Transport) (why : Last) (t read pairs whole : List ℕ) (all : Together) (status : ℕ)
    → left ≡ carried side.Left s → right ≡ carried side.Right s → read ≡ t ++ read_lines left right
    → AddsPairs false s.course.sessions (offset_of (count s.course.sessions)) read pairs all → whole ≡ pairs ++ last_line why
    → status ≡ last_status why → AddsUnjudged s why t whole status
why_added s left right why t read pairs whole all status l r e h f a = record {
  pairs = h.pairs;
  are = record { count = h.as_many; each = h.each };
  added = grind (arith, append_assoc, unjudged_of left right h.pairs why, h.added);
  answered = a;
}
