-- A unit of an end begins to pass and passes, and a packet of the other side begins: each keeps what holds of the line.
-- For the laws on a line.
use Rattle.osi_blameless.proofs.transport.Vocabulary.{[], ap, arith, Bool, false, List, None, Option, subst, sym, true, ℕ, ◌+◌, ◌<◌, ◌∙◌}
use Rattle.osi_blameless.proofs.transport.Vocabulary.{◌∷◌, ◌≡◌, ◌≤◌, acknowledge, data2, Value, longest_tsdu, Standing, begins, is_open}
use Rattle.osi_blameless.proofs.transport.Vocabulary.{begun_after}
use Rattle.osi_blameless.proofs.transport.Vocabulary.{half_after, sent_on, Connection, Course, Left, Right, Finding, Kept, Half, Phase}
use Rattle.osi_blameless.proofs.transport.Vocabulary.{Acts}
use Rattle.osi_blameless.proofs.transport.Vocabulary.{after_finding, finding_of, IsRight, IsRightNow, Line}
use Rattle.osi_blameless.specs.transport.Lines.{passes_own, begins_other}
use Rattle.osi_blameless.proofs.transport.lines.what_a_link_does.{begun_by}
use Rattle.osi_blameless.proofs.transport.lines.what_holds_of_a_line.{Tally, Ordered, OpenIfAny, PutsAt, TakesAt, Holds, as_judged}

-- ---- a packet begins

right_still : (judge : Connection) (put : List Value) → IsRightNow Left judge put → IsRightNow Left (begins Right judge) put
right_still judge put h = grind arith

pub begins_other_holds : (r peer : ℕ) (old new : Line) → Acts Left r peer begins_other old new → Holds r peer old → Holds r peer new
begins_other_holds r peer old new new_is h = grind (arith, right_still)

-- ---- a unit passes

-- the line after it
pub record Passed (r peer limit : ℕ) (x : Tally) (noted : ℕ) (units : List Value) (link : Option Standing)
    (after : Connection) : Type 0 where
  pub passed : ℕ
  pub shown : ℕ
  pub ordered : Ordered (record x { passed = passed; shown = shown }) noted
  pub judges : as_judged r peer limit (record x { passed = passed; shown = shown }) noted after
  pub puts : PutsAt r peer limit (record x { passed = passed; shown = shown }) after.left after.right units link

begun_same : (half : Half) (end : Bool) (octets : ℕ) → half.begun + octets ≤ longest_tsdu →
    begun_by half.begun end octets ≡ begun_after half end octets
begun_same half end octets h = grind arith

open_if : (put : List Value) (phase : Phase) → is_open phase ≡ true → OpenIfAny put phase
open_if put phase h = grind arith

module _ (r peer limit : ℕ) (x : Tally) (noted : ℕ) (judge : Connection) (o : Ordered x noted)
    (t : as_judged r peer limit x noted judge) where
  -- a DT
  data_puts : (link : Option Standing) (destination number : ℕ) (end : Bool) (user : List ℕ) (units : List Value) →
      PutsAt r peer limit x judge.left judge.right (data2 destination number end user ∷ units) link →
      (x.passed < x.sent) ×
      PutsAt r peer limit (record x { passed = x.passed + 1 })
      (half_after (data2 destination number end user) judge.left) judge.right units link
  data_puts link destination number end user units h = grind (arith, begun_same, open_if)

  data_passes : (link : Option Standing) (destination number : ℕ) (end : Bool) (user : List ℕ) (units : List Value) →
      PutsAt r peer limit x judge.left judge.right (data2 destination number end user ∷ units) link →
      Passed r peer limit x noted units link (sent_on Left (data2 destination number end user) judge)
  data_passes link destination number end user units p =
      let (more, puts) = data_puts link destination number end user units p in
      let n = t.next in
      record {
        passed = x.passed + 1;
        shown = x.shown;
        ordered = omega (arith, o);
        judges = record {
          next = omega arith;
          awaited = t.awaited;
          credit = t.credit;
          their_next = t.their_next;
          their_awaited = t.their_awaited;
          their_edge = t.their_edge;
          known_next = t.known_next;
          own_reference = t.own_reference;
          reference = t.reference;
          there = t.there;
          fits = t.fits;
        };
        puts = puts;
      }

  ack_passes : (link : Option Standing) (credit destination number : ℕ) (units : List Value) →
      PutsAt r peer limit x judge.left judge.right (acknowledge credit destination number ∷ units) link →
      Passed r peer limit x noted units link (sent_on Left (acknowledge credit destination number) judge)
  ack_passes link credit destination number units p = grind arith

  -- a DR or a DC is the last
  last_passes : (mine : Half) (units : List Value) → mine.next ≡ judge.left.next → mine.awaited ≡ judge.left.awaited →
      mine.credit ≡ judge.left.credit → mine.reference ≡ judge.left.reference → is_open mine.phase ≡ false → units ≡ [] →
      Passed r peer limit x noted units None (record judge { left = mine })
  last_passes mine units next awaited credit reference closed none = search (arith)

  pub unit_passes : (link : Option Standing) (unit : Value) (units : List Value) →
      PutsAt r peer limit x judge.left judge.right (unit ∷ units) link → Passed r peer limit x noted units link (sent_on Left unit judge)
  unit_passes link unit units p = search (arith, data_passes, ack_passes, last_passes)

pub is_kept : (course : Course) (in_use : Bool) (judge : Connection) (unit : Value) → judge.is_judged ≡ true → IsRight Left judge unit →
    finding_of Left course in_use judge unit ≡ Kept
is_kept course in_use judge unit judged h = grind (arith, h.kept course in_use)

pub first_is : (judge : Connection) (put units : List Value) (unit : Value) → put ≡ unit ∷ units → IsRightNow Left judge put →
    IsRight Left judge unit
first_is judge put units unit e h = let f : IsRightNow Left judge (unit ∷ units) =
    subst (λ (l : List Value). IsRightNow Left judge l) e h in f

theirs_same : (unit : Value) (judge : Connection) → (sent_on Left unit judge).right ≡ judge.right
theirs_same unit judge = grind arith

pub passes_own_holds : (r peer : ℕ) (course : Course) (in_use : Bool) (old new : Line) →
    Acts Left r peer (passes_own course in_use) old new →
    old.judge.is_judged ≡ true → Holds r peer old → Holds r peer new
passes_own_holds r peer course in_use old new (unit, (first, begun, new_is)) judged h =
    let right = first_is old.judge old.put new.put unit first (h.under_way begun) in
    let puts = subst (λ (l : List Value). PutsAt r peer h.limit h.tally old.judge.left old.judge.right l old.end) first h.puts in
    let p = unit_passes r peer h.limit h.tally h.noted old.judge h.ordered h.judges old.end unit new.put puts in
    let after : new ≡ record old { put = new.put; begun = false; judge = sent_on Left unit old.judge } = new_is
    ∙ ap (λ (f : Finding). record old { put = new.put; begun = false; judge = after_finding Left f unit old.judge })
    (is_kept course in_use old.judge unit judged right) in
    subst (λ (l : Line). Holds r peer l) (sym after)
    (record {
      limit = h.limit;
      tally = record h.tally { passed = p.passed; shown = p.shown };
      noted = h.noted;
      ordered = p.ordered;
      judges = p.judges;
      puts = p.puts;
      takes = subst (λ (half : Half). TakesAt h.limit (record h.tally { passed = p.passed; shown = p.shown }) half old.coming old.end)
          (sym (theirs_same unit old.judge)) (grind arith);
      under_way = λ b. absurd (cc);
    })
