-- As long as no break ends any judging, both sides are judged and every connection is; and after one that ends all, nobody is judged any
-- more. For the laws that an end is blamed nowhere.
use Rattle.osi_blameless.proofs.Vocabulary.{ap, arith, Bool, false, if◌then◌else◌, is_some, None, true, ℕ, ◌≡◌, Reach, Direction, changes}
use Rattle.osi_blameless.proofs.Vocabulary.{first_by, marked, marks_of, moved, unread, unread_mark, unread_moment, way_of, Cause, Mark}
use Rattle.osi_blameless.proofs.Vocabulary.{Marks, Course}
use Rattle.osi_rules.specs.Traffic as traffic

-- both sides are judged, and each connection
pub record IsJudged (c : Course) : Type 0 where
  pub left : c.traffic.course.left_stopped ≡ false
  pub right : c.traffic.course.right_stopped ≡ false
  pub firm : c.traffic.course.loose ≡ false
  pub left_goes : c.left.halted ≡ None
  pub right_goes : c.right.halted ≡ None

-- nobody is judged any more
pub record IsOver (c : Course) : Type 0 where
  pub left : c.traffic.course.left_stopped ≡ true
  pub right : c.traffic.course.right_stopped ≡ true
  pub left_halts : is_some c.left.halted ≡ true
  pub right_halts : is_some c.right.halted ≡ true

pub marked_first : (m : Mark) (r : Reach) (c : Course) → (marked m r c).first ≡ first_by m c.first
marked_first m r c = grind arith

pub changes_traffic : (d : Direction) (f : Marks → Marks) (c : Course) → (changes d f c).traffic ≡ c.traffic
changes_traffic d f c = grind arith

-- ---- what can't be read

abbrev unread_if : Bool → Direction → (at : ℕ) → Cause → Course → Course
unread_if b d at k c = if b then c else marked (unread_mark d at k) (traffic.refused_reach (way_of d) c.traffic)
    (moved (unread_moment d at k c.sessions) (record c { traffic = traffic.refused (way_of d) c.traffic }))

halted_so : (d : Direction) (c : Course) → IsOver c → is_some (marks_of d c).halted ≡ true
halted_so d c over = grind arith

-- after the end of all judging it changes nothing
pub unread_over : (d : Direction) (at : ℕ) (k : Cause) (c : Course) → IsOver c → unread d at k c ≡ c
unread_over d at k c over = ap (λ (b : Bool). unread_if b d at k c) (halted_so d c over)
