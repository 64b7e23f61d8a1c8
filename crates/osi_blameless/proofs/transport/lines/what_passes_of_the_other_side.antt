-- A unit of the other side passes, whatever it is: either what holds of the line still holds, or its connection is not judged
-- any more.
-- For the laws on a line.
use Rattle.osi_blameless.proofs.transport.Vocabulary.{[], arith, Bool, List, None, Option, Some, true, ℕ, ◌%◌, ◌++◌, ◌+◌, ◌<◌, ◌∷◌, ◌≡◌}
use Rattle.osi_blameless.proofs.transport.Vocabulary.{◌≤◌, leb-true}
use Rattle.osi_blameless.proofs.transport.Vocabulary.{ltb-true, acknowledge, data2, Value, Standing, has_passed, is_tellable, keeps_credit}
use Rattle.osi_blameless.proofs.transport.Vocabulary.{steps_from}
use Rattle.osi_blameless.proofs.transport.Vocabulary.{is_closing, is_open, half_after, sent_on, Connection, Left, Right, Half, Phase}
use Rattle.osi_blameless.proofs.transport.Vocabulary.{IsLater, IsRightNow}
use Rattle.osi_blameless.proofs.transport.lines.what_was_right_stays_right.{passed_stays}
use Rattle.osi_blameless.proofs.transport.lines.units_in_flight.{Came, Comes, HasMoreCome, comes_more, puts_still}
use Rattle.osi_blameless.proofs.transport.lines.what_holds_of_a_line.{Tally, Ordered, PutsAt, TakesAt, came_of, is_there, as_judged}

-- the line after it, with this record of the judge
pub record Went (r peer limit : ℕ) (x : Tally) (noted : ℕ) (judge after : Connection) (put coming : List Value)
    (link : Option Standing) : Type 0 where
  pub came : ℕ
  pub heard : ℕ
  pub edge : ℕ
  pub ordered : Ordered (record x { came = came; heard = heard; edge = edge }) noted
  pub judges : as_judged r peer limit (record x { came = came; heard = heard; edge = edge }) noted after
  pub puts : PutsAt r peer limit (record x { came = came; heard = heard; edge = edge }) after.left after.right put link
  pub takes : TakesAt limit (record x { came = came; heard = heard; edge = edge }) after.right coming link
  pub under_way : IsRightNow Left judge put → IsRightNow Left after put

right_later : (judge : Connection) (later : Half) (put : List Value) → IsLater judge.left judge.right later → IsRightNow Left judge put →
    IsRightNow Left (record judge { right = later }) put
right_later judge later [] l h = h
right_later judge later (unit ∷ units) l h = record {
  named = h.named;
  kept = λ course in_use. passed_stays Left course in_use judge later unit l (h.kept course in_use);
}

module _ (r peer limit : ℕ) (x : Tally) (noted : ℕ) (judge : Connection) (put coming : List Value) (link : Option Standing)
    (o : Ordered x noted) (t : as_judged r peer limit x noted judge) (p : PutsAt r peer limit x judge.left judge.right put link)
    (k : TakesAt limit x judge.right coming link) where
  abbrev Base : Came → Value → Type 0
  Base s unit = (taken known : ℕ) → taken ≤ x.came → known ≤ x.heard → is_open judge.right.phase ≡ true → Comes s taken known (unit ∷ [])

  -- ---- more of the other side has its effect, or nothing has

  takes_later : (came heard edge : ℕ) (later : Half) (unit : Value) (l : Option Standing) →
      HasMoreCome (came_of x judge.right) (came_of (record x { came = came; heard = heard; edge = edge }) later) →
      Base (came_of (record x { came = came; heard = heard; edge = edge }) later) unit → TakesAt limit x judge.right coming l →
      TakesAt limit (record x { came = came; heard = heard; edge = edge }) later (coming ++ unit ∷ []) l
  takes_later came heard edge later unit None more base h = tt
  takes_later came heard edge later unit (Some link) more base h =
      let up = more.edge in
      record {
        flow = h.flow;
        taken = h.taken;
        known = h.known;
        is = h.is;
        size = h.size;
        next = h.next;
        unacknowledged = h.unacknowledged;
        few = h.few;
        edge = omega arith;
        expected = h.expected;
        waiting = h.waiting;
        credit = h.credit;
        comes = search (arith, comes_more, came_of);
      }

  goes_later : (came heard edge : ℕ) (later : Half) (unit : Value) → IsLater judge.left judge.right later →
      Ordered (record x { came = came; heard = heard; edge = edge }) noted →
      as_judged r peer limit (record x { came = came; heard = heard; edge = edge }) noted (record judge { right = later }) →
      HasMoreCome (came_of x judge.right) (came_of (record x { came = came; heard = heard; edge = edge }) later) →
      Base (came_of (record x { came = came; heard = heard; edge = edge }) later) unit →
      Went r peer limit x noted judge (record judge { right = later }) put (coming ++ unit ∷ []) link
  goes_later came heard edge later unit is ordered judges more base = grind (arith, puts_still, takes_later, right_later)

  pub goes_same : (unit : Value) → Base (came_of x judge.right) unit → Went r peer limit x noted judge judge put (coming ++ unit ∷ []) link
  goes_same unit base = grind (arith, takes_later)

  -- ---- a DT

  pub data_goes : (destination number : ℕ) (end : Bool) (user : List ℕ) → is_tellable Right judge ≡ true →
      Went r peer limit x noted judge (sent_on Right (data2 destination number end user) judge) put
      (coming ++ data2 destination number end user ∷ []) link
  data_goes destination number end user tells =
      let a = t.awaited in
      let n = t.their_next in
      let few = ltb-true (steps_from judge.left.awaited judge.right.next) 127 tells in
      goes_later (x.came + 1) x.heard x.edge (half_after (data2 destination number end user) judge.right)
      (data2 destination number end user)
      (record { next = omega arith; awaited = omega arith; credit = omega arith; closing = λ c. c })
      (omega (arith, o))
      (grind arith)
      (record { came = omega arith; heard = omega arith; edge = omega arith; closing = λ c. c })
      (λ taken known c h live. (omega arith, h, live))

  -- ---- an AK

  pub ack_goes : (credit destination number : ℕ) → number < 128 → credit < 16 → has_passed Right judge number ≡ true →
      keeps_credit Right judge number credit ≡ true →
      Went r peer limit x noted judge (sent_on Right (acknowledge credit destination number) judge) put
      (coming ++ acknowledge credit destination number ∷ []) link
  ack_goes credit destination number small little had keeps =
      let a = t.their_awaited in
      let n = t.known_next in
      let m = t.next in
      let e = t.their_edge in
      let up = leb-true (steps_from judge.right.awaited number) (steps_from judge.right.awaited judge.seen_by_right.next) had in
      let room = leb-true judge.right.credit (steps_from judge.right.awaited number + credit) keeps in
      let ways : steps_from judge.right.awaited judge.seen_by_right.next + x.heard ≡ noted = omega arith in
      let heard : ℕ = x.heard + steps_from judge.right.awaited number in
      let is : number ≡ heard % 128 = omega arith in
      let later : steps_from judge.right.awaited number ≤ steps_from judge.right.awaited judge.left.next = omega arith in
      goes_later x.came heard (heard + credit) (half_after (acknowledge credit destination number) judge.right)
      (acknowledge credit destination number)
      (record { next = omega arith; awaited = later; credit = room; closing = λ c. c })
      (omega (arith, o))
      (grind arith)
      (record { came = omega arith; heard = omega arith; edge = omega arith; closing = λ c. c })
      (λ taken known c h live. (heard, is, little, omega arith, omega arith, (c, omega arith, live)))

  -- ---- a DR or a DC

  pub ends_goes : (phase : Phase) (unit : Value) → is_there phase ≡ true → (is_closing judge.right.phase ≡ true → is_closing phase ≡ true) →
      Base (came_of x (record judge.right { phase = phase })) unit →
      Went r peer limit x noted judge (record judge { right = record judge.right { phase = phase } }) put (coming ++ unit ∷ []) link
  ends_goes phase unit there closing base =
      goes_later x.came x.heard x.edge (record judge.right { phase = phase }) unit
      (record { next = omega arith; awaited = omega arith; credit = omega arith; closing = closing })
      (omega (arith, o))
      (grind arith)
      (record { came = omega arith; heard = omega arith; edge = omega arith; closing = closing })
      base
