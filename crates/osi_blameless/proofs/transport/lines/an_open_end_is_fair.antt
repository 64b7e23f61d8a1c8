-- An open end of class 2 is fair, over every list of what happens to it and to the judge: at left, and then at right, which is left
-- with the sides of the judge exchanged.
-- For the law of that name.
use Rattle.osi_blameless.proofs.transport.Vocabulary.{[], Act, Acts, ActsAlong, after_finding, answers, ap, arith, begins_elsewhere, Bool}
use Rattle.osi_blameless.proofs.transport.Vocabulary.{Broke}
use Rattle.osi_blameless.proofs.transport.Vocabulary.{closes_with as closes, Connection, Course, Direction, Disconnects, false, Finding}
use Rattle.osi_blameless.proofs.transport.Vocabulary.{finding_of, found}
use Rattle.osi_blameless.proofs.transport.Vocabulary.{fresh_two, Half, ignores, inl, inr, is_open, IsFair, IsOpened, IsRightNow, Kept, Left}
use Rattle.osi_blameless.proofs.transport.Vocabulary.{Line, List}
use Rattle.osi_blameless.proofs.transport.Vocabulary.{moves, other, Right, sent_on, sym, true, two_standing, Value, ℕ, ◌-◌, ◌∙◌, ◌∷◌}
use Rattle.osi_blameless.proofs.transport.Vocabulary.{◌≡◌}
use Rattle.osi_blameless.proofs.transport.Vocabulary.{◌⊎◌}
use Rattle.osi_rules.specs.declared.findings.Rule.TheVariants as rule
use Rattle.osi_blameless.specs.transport.Lines.{begins_own, passes_own, begins_other, passes_other}
use Rattle.osi_blameless.proofs.transport.lines.what_holds_of_a_line.{Holds, Tally, is_there}
use Rattle.osi_blameless.proofs.transport.lines.what_an_end_does_to_a_line.{moves_hold, closes_hold, answers_hold}
use Rattle.osi_blameless.proofs.transport.lines.what_passes_of_an_end.{begins_other_holds, first_is as line_first, is_kept}
use Rattle.osi_blameless.proofs.transport.lines.what_passes_of_an_end.{passes_own_holds}
use Rattle.osi_blameless.proofs.transport.small_facts_that_many_lemmas_use.{judged_same}
use Rattle.osi_blameless.proofs.transport.lines.what_each_unit_of_the_other_side_does.{passes_other_holds}
use Rattle.osi_blameless.proofs.transport.lines.what_begins_to_pass_is_right.{first_right}
use Rattle.osi_blameless.proofs.transport.what_each_thing_keeps_all_of_them_keep.{along_keeps}

-- ---- a connection that is judged was judged before

pub sent_judged : (d : Direction) (v : Value) (c : Connection) → (sent_on d v c).is_judged ≡ c.is_judged
sent_judged d v c = grind arith

was_judged : (d : Direction) (f : Finding) (v : Value) (c : Connection) → (after_finding d f v c).is_judged ≡ true → c.is_judged ≡ true
was_judged d f v c h = grind (arith, sent_judged)

-- ---- at left

abbrev pub Keeps : (r peer : ℕ) → Line → Type 0
Keeps r peer line = line.judge.is_judged ≡ true → Holds r peer line

act_keeps : (r peer : ℕ) (act : Act) (old new : Line) → Acts Left r peer act old new → Keeps r peer old → Keeps r peer new
act_keeps r peer (moves move) old new (link, after, is, e, short, coming, new_is) h judged =
    moves_hold r peer move old new (link, after, is, e, short, coming, new_is)
    (h (sym (ap (λ (l : Line). l.judge.is_judged) new_is) ∙ judged))
act_keeps r peer (closes reason units) old new (link, is, coming, new_is) h judged =
    closes_hold r peer reason units old new (link, is, coming, new_is) (h (sym (ap (λ (l : Line). l.judge.is_judged) new_is) ∙ judged))
act_keeps r peer (ignores units) old new (none, coming, new_is) h judged = grind arith
act_keeps r peer (answers unit) old new (link, is, dr, coming, new_is) h judged =
    answers_hold r peer unit old new (link, is, dr, coming, new_is) (h (sym (ap (λ (l : Line). l.judge.is_judged) new_is) ∙ judged))
act_keeps r peer begins_own old new (some, idle, new_is) h judged = grind (arith, first_right)
act_keeps r peer (passes_own course in_use) old new (unit, (first, begun, new_is)) h judged =
    let still = sym (ap (λ (l : Line). l.judge.is_judged) new_is) ∙ judged in
    let was = was_judged Left (finding_of Left course in_use old.judge unit) unit old.judge still in
    passes_own_holds r peer course in_use old new (unit, (first, begun, new_is)) was (h was)
act_keeps r peer begins_elsewhere old new (idle, new_is) h judged = grind arith
act_keeps r peer begins_other old new new_is h judged = grind (arith, begins_other_holds)
act_keeps r peer (passes_other course in_use unit) old new (range, named, some, new_is) h judged =
    grind (arith, was_judged, passes_other_holds)

pub all_keep : (r peer : ℕ) (acts : List Act) (old new : Line) → ActsAlong Left r peer old acts new → Keeps r peer old → Keeps r peer new
all_keep r peer = along_keeps (Acts Left r peer) (Keeps r peer) (act_keeps r peer)

-- ---- as it begins

pub opened_holds : (r peer : ℕ) (line : Line) → IsOpened Left r peer line → Holds r peer line
opened_holds r peer line o =
    let two = fresh_two o.size o.window o.credit in
    let begun_link = two_standing two.ends two.flow in
    let x : Tally = record { sent = 0; passed = 0; acked = 0; shown = 0; came = 0; heard = 0; edge = o.credit; window = o.window } in
    let live : is_open line.judge.left.phase ≡ true = ap (λ (h : Half). is_open h.phase) o.sent in
    let open_there : is_open line.judge.right.phase ≡ true = ap (λ (h : Half). is_open h.phase) o.came in
    let credit : line.judge.right.credit ≡ o.credit = ap (λ (h : Half). h.credit) o.came in
    let some = o.some in
    record {
      limit = o.size - 5;
      tally = x;
      noted = 0;
      ordered = omega arith;
      judges = grind (arith, is_there);
      puts = grind arith;
      takes = grind arith;
      under_way = λ b. absurd (cc (b, o.begun));
    }

left_is_fair : (r peer : ℕ) (begin line : Line) (acts : List Act) → IsOpened Left r peer begin → ActsAlong Left r peer begin acts line →
    IsFair Left line
left_is_fair r peer begin line acts o along begun judged =
    (all_keep r peer acts begin line along (λ _. opened_holds r peer begin o) judged).under_way begun

-- ---- at right

abbrev pub turned : Connection → Connection
turned c = record c { left = c.right; right = c.left; seen_by_left = c.seen_by_right; seen_by_right = c.seen_by_left }

abbrev pub turned_line : Line → Line
turned_line line = record line { judge = turned line.judge }

finding_turned : (d : Direction) (f : Finding) (v : Value) (c : Connection) →
    turned (after_finding d f v c) ≡ after_finding (other d) f v (turned c)
finding_turned d f v c = grind arith

-- what is found of this side's units but a CC, of which nothing is claimed here
kept_turned : (course : Course) (in_use : Bool) (c : Connection) (v : Value) → found Left course in_use (turned c) v ≡ Kept →
    found Right course in_use c v ≡ Kept
kept_turned course in_use c v e = grind arith

right_turned : (c : Connection) (put : List Value) → IsRightNow Left (turned c) put → IsRightNow Right c put
right_turned c [] h = h
right_turned c (unit ∷ units) h = record {
  named = h.named;
  kept = λ course in_use. kept_turned course in_use c unit (h.kept course in_use);
}

-- what each side has broken is of the other one then
abbrev turned_disconnects : Disconnects → Disconnects
turned_disconnects k =
    record { strays = k.strays; left = k.right; right = k.left; seen_by_left = k.seen_by_right; seen_by_right = k.seen_by_left }

abbrev turned_course : Course → Course
turned_course course = record course {
  disconnects = turned_disconnects course.disconnects;
  left_erred = course.right_erred;
  right_erred = course.left_erred;
}

found_other : (course : Course) (in_use : Bool) (c : Connection) (v : Value) →
    (found Left course in_use c v ≡ found Right (turned_course course) in_use (turned c) v)
    ⊎ (found Left course in_use c v ≡ Broke rule.WrongForm)
found_other course in_use c v = grind arith

own_turned : (r peer : ℕ) (course : Course) (in_use : Bool) (old new : Line) → Acts Right r peer (passes_own course in_use) old new →
    old.judge.is_judged ≡ true → Holds r peer (turned_line old) →
    Acts Left r peer (passes_own course in_use) (turned_line old) (turned_line new)
own_turned r peer course in_use old new (unit, (first, begun, new_is)) was h =
    let right = line_first (turned old.judge) old.put new.put unit first (h.under_way begun) in
    let turned_kept = is_kept course in_use (turned old.judge) unit was right in
    let kept : finding_of Right course in_use old.judge unit ≡ Kept =
    judged_same old.judge.is_judged (found Right course in_use old.judge unit) was
    ∙ kept_turned course in_use old.judge unit (right.kept course in_use) in
    let judge_is = finding_turned Right (finding_of Right course in_use old.judge unit) unit old.judge
    ∙ ap (λ (f : Finding). after_finding Left f unit (turned old.judge)) (kept ∙ sym turned_kept) in (
      unit,
      (
        first,
        begun,
        ap turned_line new_is ∙ ap (λ (c : Connection). record (turned_line old) { put = new.put; begun = false; judge = c }) judge_is,
      ),
    )

other_keeps : (r peer : ℕ) (course : Course) (in_use : Bool) (unit : Value) (old new : Line) →
    Acts Right r peer (passes_other course in_use unit) old new → Keeps r peer (turned_line old) →
    (found Left course in_use old.judge unit ≡ found Right (turned_course course) in_use (turned old.judge) unit)
    ⊎ (found Left course in_use old.judge unit ≡ Broke rule.WrongForm) → Keeps r peer (turned_line new)
other_keeps r peer course in_use unit old new a h (inl e) judged =
    act_keeps r peer (passes_other (turned_course course) in_use unit) (turned_line old) (turned_line new)
    (grind (arith, finding_turned)) h judged
other_keeps r peer course in_use unit old new (range, named, some, new_is) h (inr e) judged = grind (arith, was_judged)

act_turned : (r peer : ℕ) (act : Act) (old new : Line) → Acts Right r peer act old new → Keeps r peer (turned_line old) →
    Keeps r peer (turned_line new)
act_turned r peer (moves move) old new (link, after, is, e, short, coming, new_is) h judged =
    act_keeps r peer (moves move) (turned_line old) (turned_line new) (link, after, is, e, short, coming, ap turned_line new_is) h judged
act_turned r peer (closes reason units) old new (link, is, coming, new_is) h judged =
    act_keeps r peer (closes reason units) (turned_line old) (turned_line new) (link, is, coming, ap turned_line new_is) h judged
act_turned r peer (ignores units) old new (none, coming, new_is) h judged = grind (arith, act_keeps)
act_turned r peer (answers unit) old new (link, is, dr, coming, new_is) h judged =
    act_keeps r peer (answers unit) (turned_line old) (turned_line new) (link, is, dr, coming, ap turned_line new_is) h judged
act_turned r peer begins_own old new (some, idle, new_is) h judged =
    act_keeps r peer begins_own (turned_line old) (turned_line new) (some, idle, ap turned_line new_is) h judged
act_turned r peer (passes_own course in_use) old new (unit, (first, begun, new_is)) h judged =
    let still = sym (ap (λ (l : Line). l.judge.is_judged) new_is) ∙ judged in
    let was = was_judged Right (finding_of Right course in_use old.judge unit) unit old.judge still in
    act_keeps r peer (passes_own course in_use) (turned_line old) (turned_line new)
    (own_turned r peer course in_use old new (unit, (first, begun, new_is)) was (h was)) h judged
act_turned r peer begins_elsewhere old new (idle, new_is) h judged = grind (arith, act_keeps)
act_turned r peer begins_other old new new_is h judged =
    act_keeps r peer begins_other (turned_line old) (turned_line new) (ap turned_line new_is) h judged
act_turned r peer (passes_other course in_use unit) old new a h judged = search (arith, other_keeps, found_other)

pub all_turned : (r peer : ℕ) (acts : List Act) (old new : Line) → ActsAlong Right r peer old acts new → Keeps r peer (turned_line old) →
    Keeps r peer (turned_line new)
all_turned r peer = along_keeps (Acts Right r peer) (λ line. Keeps r peer (turned_line line)) (act_turned r peer)

right_is_fair : (r peer : ℕ) (begin line : Line) (acts : List Act) → IsOpened Right r peer begin → ActsAlong Right r peer begin acts line →
    IsFair Right line
right_is_fair r peer begin line acts o along begun judged =
    let h = all_turned r peer acts begin line along (λ _. opened_holds r peer (turned_line begin) (grind arith)) judged in
    right_turned line.judge line.put (h.under_way begun)

pub open_is_fair : (d : Direction) (r peer : ℕ) (begin line : Line) (acts : List Act) → IsOpened d r peer begin →
    ActsAlong d r peer begin acts line → IsFair d line
open_is_fair Left r peer begin line acts o along = left_is_fair r peer begin line acts o along
open_is_fair Right r peer begin line acts o along = right_is_fair r peer begin line acts o along
