-- What a capture comes to has one report: for the law that a text has one judgement.
use Rattle.std.proofs.Common.{arith}
use Rattle.osi_report.proofs.Vocabulary.{◌≡◌, ◌∙◌, refl, sym, ap, subst, ℕ, ◌+◌, List, [], ◌∷◌, length, Option, Some, Direction, Violation}
use Rattle.osi_report.proofs.Vocabulary.{Stands, foremost, Observed, StandsBehind, one_stands, First, Layer, Mark, Joined, Sessions, spoken}
use Rattle.osi_report.proofs.Vocabulary.{place_in, State, one_first, Last, Pair, Outcome, Connection, IsSession, Strayed, SaysSo, Tells}
use Rattle.osi_report.proofs.Vocabulary.{state_of, IsPair, IsPairOf, ArePairs, IsFirstLast, IsLast, Report, IsReport, None, Capture}
use Rattle.osi_report.proofs.Vocabulary.{carried, comes_to, Judges, IsJudgement, last_status, unjudged}
use Rattle.osi_report.specs.ReportTexts.{report_text}
use Rattle.osi_report.specs.Quiet.{unjudged_text}
use Rattle.osi_side.specs.declared.directions.Direction.TheVariants as side
use Rattle.osi_judge.specs.Lines.{told}
use Rattle.osi_judge.specs.declared.outcomes.Outcome.TheVariants as what
use Rattle.osi_report.proofs.a_session_is_told_in_one_way.{IsOne, one_session}
use Rattle.osi_report.proofs.a_text_is_one_capture.{one_text}

-- ---- of the session of a side

some_same : (n m : ℕ) → Some n ≡ Some m → n ≡ m
some_same n m e = cc

same_session : (d : Direction) (j : Joined) (w v : Observed) → IsSession d j w → IsSession d j v
    → IsOne w.finding v.finding w.members v.members w.by v.by
same_session d j w v h k = one_session d w v (told (spoken d j)) h.begins k.begins (h.hears ∙ sym k.hears) h.says k.says

kept_alike : (w v : Observed) (s t : Stands) → w.heard ≡ v.heard → w.members ≡ v.members → StandsBehind w.heard (foremost w.members) s
    → StandsBehind v.heard (foremost v.members) t → s ≡ t
kept_alike w v s t u m h k = grind (arith, one_stands)

place_alike : (d : Direction) (j : Joined) (w v : Observed) (i l o p : ℕ) (b e : Violation) → i ≡ l → Strayed d j w i o b →
    Strayed d j v l p e
    → o ≡ p
place_alike d j w v i l o p b e same h k = some_same o p (sym h.place ∙ ap (place_in (spoken d j).said) same ∙ k.place)

one_told : (d : Direction) (j : Joined) (w v : Observed) (t u : Outcome) → IsSession d j w → IsSession d j v → SaysSo d j w t →
    SaysSo d j v u
    → t ≡ u
one_told d j w v (what.Kept n s p) (what.Kept m r q) h k (f, a, x) (g, b, y) =
    let one = same_session d j w v h k in
    let same = kept_alike w v x.stands y.stands (h.hears ∙ sym k.hears) (one.sessions f) x.stands_for.behind y.stands_for.behind in
    let states : s ≡ r = x.state_is ∙ ap (λ (z : Stands). state_of z.standing) same ∙ sym y.state_is in
    let owes : p ≡ q = x.owes_is ∙ ap (λ (z : Stands). z.owes) same ∙ sym y.owes_is in
    let tsdus : n ≡ m = a ∙ sym b in
    λ i. what.Kept (tsdus i) (states i) (owes i)
one_told d j w v (what.Broke o b) (what.Broke p e) h k (i, f, x) (l, g, y) = grind (arith, place_alike, same_session d j w v h k)
one_told d j w v (what.Left o b) (what.Left p e) h k (i, f, x) (l, g, y) = grind (arith, place_alike, same_session d j w v h k)
one_told d j w v what.TooMany what.TooMany h k f g = refl
one_told d j w v (what.Kept n s q) (what.Broke p e) h k (f, a, x) (l, g, y) = grind (arith, same_session d j w v h k)
one_told d j w v (what.Kept n s q) (what.Left p e) h k (f, a, x) (l, g, y) = grind (arith, same_session d j w v h k)
one_told d j w v (what.Kept n s q) what.TooMany h k (f, a, x) g = grind (arith, same_session d j w v h k)
one_told d j w v (what.Broke o b) (what.Kept m r q) h k (i, f, x) (g, c, y) = grind (arith, same_session d j w v h k)
one_told d j w v (what.Broke o b) (what.Left p e) h k (i, f, x) (l, g, y) = grind (arith, same_session d j w v h k)
one_told d j w v (what.Broke o b) what.TooMany h k (i, f, x) g = grind (arith, same_session d j w v h k)
one_told d j w v (what.Left o b) (what.Kept m r q) h k (i, f, x) (g, c, y) = grind (arith, same_session d j w v h k)
one_told d j w v (what.Left o b) (what.Broke p e) h k (i, f, x) (l, g, y) = grind (arith, same_session d j w v h k)
one_told d j w v (what.Left o b) what.TooMany h k (i, f, x) g = grind (arith, same_session d j w v h k)
one_told d j w v what.TooMany (what.Kept m r q) h k f (g, c, y) = grind (arith, same_session d j w v h k)
one_told d j w v what.TooMany (what.Broke p e) h k f (l, g, y) = grind (arith, same_session d j w v h k)
one_told d j w v what.TooMany (what.Left p e) h k f (l, g, y) = grind (arith, same_session d j w v h k)

-- ---- of a connection

one_connection : (d : Direction) (j : Joined) (w x v y : Observed) (c e : Connection) → IsSession d j w → IsSession d j v
    → x.finding ≡ y.finding → Tells d j w x c → Tells d j v y e → c ≡ e
one_connection d j w x v y c e h k beside a b = grind (arith, same_session, one_told)

one_pair : (j : Joined) (p q : Pair) → IsPair j p → IsPair j q → p ≡ q
one_pair j p q h k =
    let left = (same_session side.Left j h.left k.left h.of_left k.of_left).found in
    let right = (same_session side.Right j h.right k.right h.of_right k.of_right).found in
    let of_left =
    one_connection side.Left j h.left h.right k.left k.right p.left q.left h.of_left k.of_left right h.tells_left k.tells_left in
    let of_right =
    one_connection side.Right j h.right h.left k.right k.left p.right q.right h.of_right k.of_right left h.tells_right k.tells_right in
    grind arith

pub one_pair_of : (o : Option Joined) (p q : Pair) → IsPairOf o p → IsPairOf o q → p ≡ q
one_pair_of o p q h k = grind (arith, one_pair)

all_pairs : (ss : Sessions) (n : ℕ) (ps qs : List Pair) → length ps ≡ length qs → ArePairs ss n ps → ArePairs ss n qs → ps ≡ qs
all_pairs ss n [] [] e h k = refl
all_pairs ss n (p ∷ ps) (q ∷ qs) e h k = grind (arith, one_pair_of, all_pairs ss (n + 1) ps qs (grind arith) h.1 k.1)
all_pairs ss n [] (q ∷ qs) e h k = absurd (cc)
all_pairs ss n (p ∷ ps) [] e h k = absurd (cc)

-- ---- of the last line

same_last : (a b : Last) → Some a ≡ Some b → a ≡ b
same_last a b e = cc

same_joined : (o : Option Joined) (i j : Joined) → o ≡ Some i → o ≡ Some j → i ≡ j
same_joined o i j e f = let both : Some i ≡ Some j = sym e ∙ f in cc

same_mark : (o : Option Mark) (m k : Mark) → o ≡ Some m → o ≡ Some k → m ≡ k
same_mark o m k e f = let both : Some m ≡ Some k = sym e ∙ f in cc

one_of_first : (l : Layer) (s : State) (f : First) (a b : Last) → IsFirstLast l s f a → IsFirstLast l s f b → a ≡ b
one_of_first l s f a b h k = search (arith, same_joined, one_told, same_last, some_same, same_mark)

one_last : (s : State) (ps : List Pair) (a b : Last) → IsLast s ps a → IsLast s ps b → a ≡ b
one_last s ps a b h k = grind (arith, one_of_first, one_first)

-- ---- of a report

pub one_report : (s : State) (r q : Report) → IsReport s r → IsReport s q → r ≡ q
one_report s r q h k =
    let left = h.left ∙ sym k.left in
    let right = h.right ∙ sym k.right in
    let pairs = all_pairs s.course.sessions 0 r.pairs q.pairs (h.pairs.count ∙ sym k.pairs.count) h.pairs.each k.pairs.each in
    let last = one_last s q.pairs r.last q.last (subst (λ (ps : List Pair). IsLast s ps r.last) pairs h.last) k.last in
    λ i. record { left = left i; right = right i; pairs = pairs i; last = last i }

-- ---- of a text

pub one_finding : (d : Direction) (j : Joined) (w v : Observed) → IsSession d j w → IsSession d j v → w.finding ≡ v.finding
one_finding d j w v h k = (same_session d j w v h k).found

one_of_both : (why : Option Last) (s : State) (lines others : List ℕ) (status other : ℕ) → Judges why s lines status
    → Judges why s others other → (lines ≡ others) × (status ≡ other)
one_of_both None s lines others status other h k =
    let same = one_report s h.report k.report h.reported k.reported in
    (h.told ∙ ap report_text same ∙ sym k.told, h.answered ∙ ap (λ (r : Report). last_status r.last) same ∙ sym k.answered)
one_of_both (Some last) s lines others status other h k =
    let same = all_pairs s.course.sessions 0 h.pairs k.pairs (h.are.count ∙ sym k.are.count) h.are.each k.are.each in (
      h.told ∙ ap (λ (ps : List Pair). unjudged_text (carried side.Left s) (carried side.Right s) ps last) same ∙ sym k.told,
      h.answered ∙ sym k.answered,
    )

pub one_judgement : (text lines others : List ℕ) (status other : ℕ) → IsJudgement text lines status → IsJudgement text others other
    → (lines ≡ others) × (status ≡ other)
one_judgement text lines others status other h k =
    let same = one_text text h.capture k.capture h.reads k.reads in
    one_of_both (unjudged k.capture) (comes_to k.capture) lines others status other
    (subst (λ (x : Capture). Judges (unjudged x) (comes_to x) lines status) same h.judged) k.judged
