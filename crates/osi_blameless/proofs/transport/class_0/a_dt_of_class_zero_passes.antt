-- A DT of class 0 passes: it is for the one connection that is not over, it is right if it is not too long, and only what its sender
-- has sent of a TSDU changes. For the laws on whole ends.
use Rattle.osi_blameless.proofs.transport.Vocabulary.{ap, arith, Bool, false, IfSome, length, List, Option, set, Some, true, ℕ, ◌+◌}
use Rattle.osi_blameless.proofs.transport.Vocabulary.{◌∙◌, ◌≡◌, ◌≤◌}
use Rattle.osi_blameless.proofs.transport.Vocabulary.{le-leb, position_or_len, position, slice_get, data0, Value}
use Rattle.osi_blameless.proofs.transport.Vocabulary.{longest_tsdu, Zero}
use Rattle.osi_blameless.proofs.transport.Vocabulary.{data0_tests, first_failed, fits_size, is_live, is_over, own, begun_after, class_for}
use Rattle.osi_blameless.proofs.transport.Vocabulary.{found}
use Rattle.osi_blameless.proofs.transport.Vocabulary.{is_stopped, one_told, Outcome, route_zero, sent_on, Traffic, takes, Connection}
use Rattle.osi_blameless.proofs.transport.Vocabulary.{Course, Direction}
use Rattle.osi_blameless.proofs.transport.Vocabulary.{Kept, Half, Only}
use Rattle.osi_blameless.proofs.transport.small_facts_that_many_lemmas_use.{judged_so}
use Rattle.osi_blameless.proofs.transport.names.a_right_unit_is_not_blamed.{first_there, is_first}
use Rattle.osi_blameless.proofs.transport.lines.what_a_link_does.{begun_by}
use Rattle.osi_blameless.proofs.transport.names.what_holds_of_one_item.{first_true}
use Rattle.osi_blameless.proofs.transport.lines.what_is_right_passes_each_test.{is_right}
pub use Rattle.osi_blameless.proofs.transport.small_facts_that_many_lemmas_use.{unlike}

-- ---- its connection

-- the only one that is not over for its sender
module _ (d : Direction) (cs : List Connection) (p : ℕ) (c : Connection) (at : slice_get cs p ≡ Some c) (live : is_live d c ≡ true)
    (others : (i : ℕ) (e : Connection) → slice_get cs i ≡ Some e → (i ≡ p → ⊥) → is_over d e ≡ true) where
  pub only_first : position (is_live d) cs ≡ Some p
  only_first =
      let q = position_or_len (is_live d) cs in
      let first = is_first (is_live d) cs p c at live in
      grind (arith, first_true, first_there (is_live d) cs p q c first)

-- ---- what is found of it

route_data : (d : Direction) (stopped end : Bool) (user : List ℕ) → route_zero d stopped (data0 end user) ≡ Only
route_data d stopped end user = grind arith

found_data : (d : Direction) (course : Course) (in_use : Bool) (c : Connection) (end : Bool) (user : List ℕ) →
    found d course in_use c (data0 end user) ≡ first_failed (data0_tests d c (length user))
found_data d course in_use c end user = grind arith

fits_by : (size : Option ℕ) (limit octets : ℕ) → IfSome size (λ most. limit + 3 ≤ most) → octets ≤ limit →
    fits_size size (octets + 3) ≡ true
fits_by size limit octets h k = grind (arith, le-leb)

pub begun_so : (half : Half) (end : Bool) (octets : ℕ) → half.begun + octets ≤ longest_tsdu →
    begun_after half end octets ≡ begun_by half.begun end octets
begun_so half end octets h = grind arith

-- ---- it passes

module _ (d : Direction) (s : Traffic) (p : ℕ) (c : Connection) (at : slice_get s.connections p ≡ Some c) (judged : c.is_judged ≡ true)
    (goes : is_stopped d s.course ≡ false) (class : class_for d s.course ≡ Some Zero) (first : position (is_live d) s.connections ≡ Some p)
    (limit : ℕ) (fits : IfSome c.size (λ most. limit + 3 ≤ most)) (end : Bool) (user : List ℕ) (short : length user ≤ limit)
    (room : (own d c).begun + length user ≤ longest_tsdu) where
  abbrev dt : Value
  dt = data0 end user

  dt_takes : takes d dt s ≡ one_told d p c dt s
  dt_takes = grind (arith, route_data)

  pub dt_kept : (takes d dt s).told.finding ≡ Kept
  dt_kept = ap (λ (o : Outcome). o.told.finding) dt_takes ∙ (grind (arith, judged_so, found_data, is_right, le-leb, fits_by))

  pub dt_conns : (takes d dt s).state.connections ≡ set s.connections p (sent_on d dt c)
  dt_conns = grind (arith, dt_takes)

  pub dt_course : (takes d dt s).state.course ≡ s.course
  dt_course = search (arith, dt_takes)
