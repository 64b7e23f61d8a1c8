-- After a DR no DC is blamed, unless the DR just closes an open connection that is judged.
-- For the law on answers without an open connection.
use Rattle.osi_blameless.proofs.transport.Vocabulary.{arith, Bool, false, List, Option, Some, true, ℕ, ◌≡◌, ◌⊎◌, eqb-true, not, position}
use Rattle.osi_blameless.proofs.transport.Vocabulary.{slice_get, ◌||◌}
use Rattle.osi_blameless.proofs.transport.Vocabulary.{disconnect, Two, is_applied, is_named, at_found, class_for, found_on, is_stopped}
use Rattle.osi_blameless.proofs.transport.Vocabulary.{is_stray, Outcome}
use Rattle.osi_blameless.proofs.transport.Vocabulary.{Traffic as State, takes, Connection, Direction, JustCloses}
use Rattle.osi_blameless.proofs.transport.names.a_reference_names_one_connection.{applied_judged}
use Rattle.osi_blameless.proofs.transport.names.what_belongs_to_no_open_connection.{Strays, reached_strays}

not_any : (a b c : Bool) → (a || (not b || c)) ≡ false → (b ≡ true) × (c ≡ false)
not_any a b c h = grind arith

not_stray : (a b c : Bool) → (not a || (not b || c)) ≡ false → (a ≡ true) × (b ≡ true) × (c ≡ false)
not_stray a b c h = grind arith

module _ (d : Direction) (s : State) (n source reason : ℕ) (user : List ℕ) (judged : is_stopped d s.course ≡ false)
    (two : class_for d s.course ≡ Some Two) where
  abbrev Either : Outcome → Type 0
  Either o = Strays o ⊎ JustCloses d s n source

  by_stray : (p : ℕ) (c : Connection) (b : Bool) → position (is_named d n) s.connections ≡ Some p → slice_get s.connections p ≡ Some c →
      (s.course.disconnects.strays || (not (is_applied (found_on d s c (disconnect n source reason user))) || is_stray d c source)) ≡ b →
      Either (at_found d (disconnect n source reason user) s p (Some c))
  by_stray p c true first at h = grind (arith, reached_strays)
  by_stray p c false first at h = search (arith, not_any, not_stray, applied_judged, eqb-true)

  by_item : (p : ℕ) (c : Option Connection) → position (is_named d n) s.connections ≡ Some p → slice_get s.connections p ≡ c →
      Either (at_found d (disconnect n source reason user) s p c)
  by_item p c first at = search (arith, by_stray)

  pub strays_or_closes : Either (takes d (disconnect n source reason user) s)
  strays_or_closes = grind (arith, by_item)

pub dr_closes : (d : Direction) (s : State) (n source reason : ℕ) (user : List ℕ) → is_stopped d s.course ≡ false →
    class_for d s.course ≡ Some Two →
    ((takes d (disconnect n source reason user) s).state.course.disconnects.strays ≡ true) ⊎ JustCloses d s n source
dr_closes d s n source reason user judged two = strays_or_closes d s n source reason user judged two
