-- What is told of a capture while it is heard are lines of the report of what has passed: for the functions of `news`, for a hearing,
-- and for the law.
use Rattle.std.proofs.Common.{arith, is_some}
use Rattle.osi_report.proofs.Vocabulary.{◌≡◌, ◌∙◌, ap, refl, sym, subst, ℕ, zero, suc, ◌+◌, ◌<◌, ◌&&◌, not, Bool, true, false, List, []}
use Rattle.osi_report.proofs.Vocabulary.{◌∷◌, ◌++◌, length, if◌then◌else◌, append-nil, append_assoc, flat_map}
use Rattle.osi_report.proofs.Vocabulary.{Option, Some, None, offset_of, Capture, Direction, other, stream, Mark, Sessions, count, numbered}
use Rattle.osi_report.proofs.Vocabulary.{marks_of, State, comes_to, Pair, Transport, Connection, ArePairs, IsPairOf, IsReport, Report}
use Rattle.osi_report.proofs.Vocabulary.{carried, last_line, pair_lines, read_lines}
use Rattle.osi_side.specs.declared.directions.Direction.TheVariants as side
use Rattle.osi_report.specs.ToldTexts.{connection_lines}
use Rattle.osi_listing.specs.Capture.{is_line_feed}
use Rattle.osi_report.specs.Blaming.{told_on}
use Rattle.osi_report.specs.Hearing.{IsHeard}
use Rattle.osi_report.specs.declared.hearing.Hearing.{Hearing}
use Rattle.osi_report.specs.News.{AddsIf, AddsNews, Announces, AreNews, AreToldOf, IsLineOf, IsNews, IsPartOf, IsSessionLine, IsTold}
use Rattle.osi_report.specs.News.{connection_line, joined}
use Rattle.osi_report.specs.News.{front_line, is_certain, is_decided, is_too_many, rest_line}
use Rattle.osi_report.specs.Openings.{has_no_octets, lacks_a_side, begins_late, may_be_late, unjudged_by}
use Rattle.osi_report.specs.ReportTexts.{halt_line, halt_lines, halt_told, mark_lines, over_lines, report_front, report_text}
use Rattle.osi_report.specs.ReportTexts.{transport_lines}
use Rattle.osi_report.specs.declared.news.Subject.{Subject}
use Rattle.osi_report.specs.declared.news.Subject.TheVariants as subject
use Rattle.osi_report.proofs.reports_are_alike.{one_pair_of}
use Rattle.osi_report.proofs.what_passed_of_a_side_is_counted.{lacks_of}

-- ---- one line after the other

are_both : (s : State) (ls ks : List (List ℕ)) → AreNews s ls → AreNews s ks → AreNews s (ls ++ ks)
are_both s [] ks h k = k
are_both s (l ∷ ls) ks h k = (h.0, are_both s ls ks h.1 k)

pub joined_both : (ls ks : List (List ℕ)) → joined (ls ++ ks) ≡ joined ls ++ joined ks
joined_both [] ks = refl
joined_both (l ∷ ls) ks = ap (λ (x : List ℕ). l ++ x) (joined_both ls ks) ∙ sym (append_assoc l (joined ls) (joined ks))

pub no_news : (s : State) (old new : List ℕ) → new ≡ old → AddsNews s old new
no_news s old new e = record { lines = []; are = tt; added = e ∙ sym (append-nil old) }

pub one_news : (s : State) (k : Subject) (line old new : List ℕ) → IsLineOf s k line → new ≡ old ++ line → AddsNews s old new
one_news s k line old new h e = record {
  lines = line ∷ [];
  are = (record { subject = k; is = h }, tt);
  added = e ∙ ap (λ (x : List ℕ). old ++ x) (sym (append-nil line));
}

pub more_news : (s : State) (old mid new : List ℕ) → AddsNews s old mid → AddsNews s mid new → AddsNews s old new
more_news s old mid new h k = record {
  lines = h.lines ++ k.lines;
  are = are_both s h.lines k.lines h.are k.are;
  added = k.added ∙ ap (λ (x : List ℕ). x ++ joined k.lines) h.added ∙ append_assoc old (joined h.lines) (joined k.lines)
      ∙ ap (λ (x : List ℕ). old ++ x) (sym (joined_both h.lines k.lines));
}

-- ---- the line of a subject

pub broken_news : (s : State) (d : Direction) (o : Option Mark) (old new : List ℕ) → o ≡ (marks_of d s.course).broke
    → new ≡ old ++ mark_lines d o → AddsNews s old new
broken_news s d o old new e h = one_news s (subject.Transport d) (mark_lines d o) old new (ap (mark_lines d) e) h

pub rest_news : (s : State) (d : Direction) (own beside : Transport) (o : Option Mark) (old new : List ℕ) → own ≡ carried d s
    → beside ≡ carried (other d) s → o ≡ halt_told d own beside → new ≡ old ++ rest_line d o → AddsNews s old new
rest_news s d own beside o old new e f g h =
    one_news s (subject.Rest d) (rest_line d o) old new (ap (rest_line d) (g ∙ (λ i. halt_told d (e i) (f i)))) h

pub session_news : (s : State) (d : Direction) (number n : ℕ) (p : Pair) (c : Connection) (old new : List ℕ)
    → IsPairOf (numbered number s.course.sessions) p → n ≡ offset_of (count s.course.sessions) → number < n → c ≡ told_on d p
    → new ≡ old ++ connection_line d c → AddsNews s old new
session_news s d number n p c old new h e lt f g =
    one_news s (subject.OfSession d number) (connection_line d c) old new
    (record { pair = p; is_pair = h; few = subst (λ (x : ℕ). number < x) e lt; is = ap (connection_line d) f }) g

-- ---- parts of a text

pub whole_part : (line : List ℕ) → IsPartOf line line
whole_part line = record { front = []; back = []; is = sym (append-nil line) }

pub no_part : (text : List ℕ) → IsPartOf [] text
no_part text = record { front = []; back = text; is = refl }

in_first : (line a b : List ℕ) → IsPartOf line a → IsPartOf line (a ++ b)
in_first line a b h = record {
  front = h.front;
  back = h.back ++ b;
  is = ap (λ (x : List ℕ). x ++ b) h.is ∙ append_assoc (h.front ++ line) h.back b;
}

in_second : (line a b : List ℕ) → IsPartOf line b → IsPartOf line (a ++ b)
in_second line a b h = record {
  front = a ++ h.front;
  back = h.back;
  is = ap (λ (x : List ℕ). a ++ x) h.is ∙ sym (append_assoc a (h.front ++ line) h.back)
      ∙ ap (λ (x : List ℕ). x ++ h.back) (sym (append_assoc a h.front line));
}

as_part : (line some text : List ℕ) → line ≡ some → IsPartOf some text → IsPartOf line text
as_part line some text e h = subst (λ (x : List ℕ). IsPartOf x text) (sym e) h

in_text : (line some text : List ℕ) → text ≡ some → IsPartOf line some → IsPartOf line text
in_text line some text e h = subst (IsPartOf line) (sym e) h

-- ---- a connection

abbrev after_line : List ℕ → List ℕ
after_line [] = []
after_line (c ∷ text) = if is_line_feed c then text else after_line text

line_by : (b : Bool) (c : ℕ) (text : List ℕ) → text ≡ front_line text ++ after_line text
    → c ∷ text ≡ (if b then c ∷ [] else c ∷ front_line text) ++ (if b then text else after_line text)
line_by true c text e = refl
line_by false c text e = ap (λ (x : List ℕ). c ∷ x) e

line_and_rest : (text : List ℕ) → text ≡ front_line text ++ after_line text
line_and_rest [] = refl
line_and_rest (c ∷ text) = line_by (is_line_feed c) c text (line_and_rest text)

front_part : (text : List ℕ) → IsPartOf (front_line text) text
front_part text = record { front = []; back = after_line text; is = line_and_rest text }

part_if : (b : Bool) (text : List ℕ) → IsPartOf (if b then front_line text else []) text
part_if true text = front_part text
part_if false text = no_part text

connection_part : (d : Direction) (c : Connection) → IsPartOf (connection_line d c) (connection_lines d c)
connection_part d c = part_if (is_certain c) (connection_lines d c)

pair_part : (d : Direction) (p : Pair) → IsPartOf (connection_line d (told_on d p)) (pair_lines p)
pair_part side.Left p =
    let left = connection_lines side.Left p.left in
    let right = connection_lines side.Right p.right in
    let line = connection_line side.Left p.left in
    in_first line (left ++ right) (over_lines p.over p.left p.right) (in_first line left right (connection_part side.Left p.left))
pair_part side.Right p =
    let left = connection_lines side.Left p.left in
    let right = connection_lines side.Right p.right in
    let line = connection_line side.Right p.right in
    in_first line (left ++ right) (over_lines p.over p.left p.right) (in_second line left right (connection_part side.Right p.right))

next_number : (n i : ℕ) → n + suc i ≡ n + 1 + i
next_number n i = omega arith

pairs_part : (ss : Sessions) (line : List ℕ) (p : Pair) (n i : ℕ) (ps : List Pair) → ArePairs ss n ps → i < length ps
    → IsPairOf (numbered (n + i) ss) p → IsPartOf line (pair_lines p) → IsPartOf line (flat_map pair_lines ps)
pairs_part ss line p n i [] h lt is part = absurd (omega arith)
pairs_part ss line p n zero (q ∷ qs) h lt is part =
    let same : p ≡ q = one_pair_of (numbered n ss) p q (subst (λ (x : ℕ). IsPairOf (numbered x ss) p) (omega arith) is) h.0 in
    in_first line (pair_lines q) (flat_map pair_lines qs) (subst (λ (x : Pair). IsPartOf line (pair_lines x)) same part)
pairs_part ss line p n (suc i) (q ∷ qs) h lt is part =
    in_second line (pair_lines q) (flat_map pair_lines qs)
    (pairs_part ss line p (n + 1) i qs h.1 (omega arith) (subst (λ (x : ℕ). IsPairOf (numbered x ss) p) (next_number n i) is) part)

-- ---- transport

rest_if : (b : Bool) (text : List ℕ) → IsPartOf (if b then text else []) text
rest_if true text = whole_part text
rest_if false text = no_part text

rest_part : (d : Direction) (o : Option Mark) → IsPartOf (rest_line d o) (halt_lines d o)
rest_part d None = no_part []
rest_part d (Some m) = rest_if (is_too_many m.cause) (halt_line d m)

transport_is : (l r : Transport) → transport_lines l r
    ≡ mark_lines side.Left l.broke ++ mark_lines side.Right r.broke ++ halt_lines side.Left (halt_told side.Left l r)
    ++ halt_lines side.Right (halt_told side.Right r l)
unfolding transport_lines
transport_is l r = refl

module _ (l r : Transport) where
  abbrev left_breaks : List ℕ
  left_breaks = mark_lines side.Left l.broke

  abbrev right_breaks : List ℕ
  right_breaks = mark_lines side.Right r.broke

  abbrev left_halts : List ℕ
  left_halts = halt_lines side.Left (halt_told side.Left l r)

  abbrev right_halts : List ℕ
  right_halts = halt_lines side.Right (halt_told side.Right r l)

  left_broke : IsPartOf (mark_lines side.Left l.broke) (transport_lines l r)
  left_broke =
      in_text (mark_lines side.Left l.broke) _ _ (transport_is l r)
      (in_first _ (left_breaks ++ right_breaks ++ left_halts) right_halts
      (in_first _ (left_breaks ++ right_breaks) left_halts (in_first _ left_breaks right_breaks (whole_part left_breaks))))

  right_broke : IsPartOf (mark_lines side.Right r.broke) (transport_lines l r)
  right_broke =
      in_text (mark_lines side.Right r.broke) _ _ (transport_is l r)
      (in_first _ (left_breaks ++ right_breaks ++ left_halts) right_halts
      (in_first _ (left_breaks ++ right_breaks) left_halts (in_second _ left_breaks right_breaks (whole_part right_breaks))))

  left_rests : IsPartOf (rest_line side.Left (halt_told side.Left l r)) (transport_lines l r)
  left_rests =
      in_text (rest_line side.Left (halt_told side.Left l r)) _ _ (transport_is l r)
      (in_first _ (left_breaks ++ right_breaks ++ left_halts) right_halts
      (in_second _ (left_breaks ++ right_breaks) left_halts (rest_part side.Left (halt_told side.Left l r))))

  right_rests : IsPartOf (rest_line side.Right (halt_told side.Right r l)) (transport_lines l r)
  right_rests =
      in_text (rest_line side.Right (halt_told side.Right r l)) _ _ (transport_is l r)
      (in_second _ (left_breaks ++ right_breaks ++ left_halts) right_halts (rest_part side.Right (halt_told side.Right r l)))

-- ---- a report

report_is : (r : Report) → report_text r
    ≡ (read_lines r.left r.right ++ flat_map pair_lines r.pairs ++ transport_lines r.left r.right) ++ last_line r.last
unfolding report_text report_front
report_is r = refl

pairs_in : (r : Report) (line : List ℕ) → IsPartOf line (flat_map pair_lines r.pairs) → IsPartOf line (report_text r)
pairs_in r line h =
    let read = read_lines r.left r.right in
    let pairs = flat_map pair_lines r.pairs in
    let carries = transport_lines r.left r.right in
    in_text line _ _ (report_is r)
    (in_first line (read ++ pairs ++ carries) (last_line r.last) (in_first line (read ++ pairs) carries (in_second line read pairs h)))

transport_in : (r : Report) (line : List ℕ) → IsPartOf line (transport_lines r.left r.right) → IsPartOf line (report_text r)
transport_in r line h =
    let read = read_lines r.left r.right in
    let pairs = flat_map pair_lines r.pairs in
    let carries = transport_lines r.left r.right in
    in_text line _ _ (report_is r)
    (in_first line (read ++ pairs ++ carries) (last_line r.last) (in_second line (read ++ pairs) carries h))

from_zero : (n : ℕ) → n ≡ 0 + n
from_zero n = omega arith

module _ (s : State) (r : Report) (h : IsReport s r) where
  -- what is told of the transport of the sides of what passed, as of those of the report
  as_told : (P : (left right : Transport) → Type 0) → P r.left r.right → P (carried side.Left s) (carried side.Right s)
  as_told P p =
      subst (λ (x : Transport). P (carried side.Left s) x) h.right (subst (λ (x : Transport). P x r.right) h.left p)

  session_in : (d : Direction) (number : ℕ) (line : List ℕ) → IsSessionLine s number d line → IsPartOf line (report_text r)
  session_in d number line k =
      as_part line _ _ k.is
      (pairs_in r _
      (pairs_part s.course.sessions _ k.pair 0 number r.pairs h.pairs.each (subst (λ (x : ℕ). number < x) (sym h.pairs.count) k.few)
      (subst (λ (x : ℕ). IsPairOf (numbered x s.course.sessions) k.pair) (from_zero number) k.is_pair) (pair_part d k.pair)))

  line_in : (k : Subject) (line : List ℕ) → IsLineOf s k line → IsPartOf line (report_text r)
  line_in (subject.Transport side.Left) line e =
      as_part line _ _ e
      (as_told (λ a b. IsPartOf (mark_lines side.Left a.broke) (report_text r)) (transport_in r _ (left_broke r.left r.right)))
  line_in (subject.Transport side.Right) line e =
      as_part line _ _ e
      (as_told (λ a b. IsPartOf (mark_lines side.Right b.broke) (report_text r)) (transport_in r _ (right_broke r.left r.right)))
  line_in (subject.Rest side.Left) line e =
      as_part line _ _ e
      (as_told (λ a b. IsPartOf (rest_line side.Left (halt_told side.Left a b)) (report_text r))
      (transport_in r _ (left_rests r.left r.right)))
  line_in (subject.Rest side.Right) line e =
      as_part line _ _ e
      (as_told (λ a b. IsPartOf (rest_line side.Right (halt_told side.Right b a)) (report_text r))
      (transport_in r _ (right_rests r.left r.right)))
  line_in (subject.OfSession d number) line k = session_in d number line k

pub news_in : (s : State) (r : Report) (line : List ℕ) → IsNews s line → IsReport s r → IsPartOf line (report_text r)
news_in s r line n h = line_in s r h n.subject line n.is

-- ---- what is not told

undecided_by : (empty lacking late may : Bool) → lacking ≡ true → (not (is_some (unjudged_by empty lacking late)) && not may) ≡ false
undecided_by empty lacking late may e = grind arith

-- of one direction alone
pub one_is_silent : (e : Direction) (capture : Capture) (old new : List ℕ) → stream e capture ≡ [] → Announces capture old new → new ≡ old
one_is_silent e capture old new none h =
    subst (λ (b : Bool). AddsIf b (comes_to capture) old new)
    (undecided_by (has_no_octets (comes_to capture)) (lacks_a_side (comes_to capture))
    (begins_late (comes_to capture) (stream side.Left capture)) (may_be_late (comes_to capture) (stream side.Left capture))
    (lacks_of e capture none))
    h

-- ---- what is told while a text is read

module _ (h : Hearing) (whole rest : List ℕ) (k : IsHeard h whole rest) where
  told_lines : (lines : List (List ℕ)) → is_decided (comes_to k.capture) (stream side.Left k.capture) ≡ true
      → AreNews (comes_to k.capture) lines → AreToldOf whole lines
  told_lines [] e a = tt
  told_lines (line ∷ lines) e a = (
    record { capture = k.capture; place = h.place; rest = rest; passed = k.passed; decided = e; news = a.0 },
    told_lines lines e a.1,
  )

  told_by : (b : Bool) (old new : List ℕ) → is_decided (comes_to k.capture) (stream side.Left k.capture) ≡ b → old ≡ []
      → AddsIf b (comes_to k.capture) old new → IsTold whole new
  told_by true old new e none a = record {
    lines = a.lines;
    are = told_lines a.lines e a.are;
    is = a.added ∙ ap (λ (x : List ℕ). x ++ joined a.lines) none;
  }
  told_by false old new e none a = record { lines = []; are = tt; is = a ∙ none }

  pub told_of : (old new : List ℕ) → old ≡ [] → Announces k.capture old new → IsTold whole new
  told_of old new none a = told_by (is_decided (comes_to k.capture) (stream side.Left k.capture)) old new refl none a
