-- A DT or an AK that the other side sends on a connection that it has closed leaves what is left over for the end: the unit comes after the
-- DR of that side, which is in flight.
-- For the sessions of an end after such a unit of the other side.
use Rattle.osi_blameless.proofs.Vocabulary.{[], Bool, false, List, refl, subst, true, ℕ, ◌++◌, ◌==◌, ◌∷◌, ◌≡◌, eqb-true, Value, Part, other}
use Rattle.osi_blameless.proofs.Vocabulary.{Direction, HaveSamePlaces, picked_rest, arith, Course, number_is}
use Rattle.osi_blameless.proofs.standing.a_unit_after_a_dr_is_for_a_closing_connection.{IsAfterDr, is_there}
use Rattle.osi_blameless.proofs.standing.right_units_leave_all_standing.{IsLink}
use Rattle.osi_blameless.proofs.coming.the_dr_of_the_other_side_is_in_flight.{AreShut}
use Rattle.osi_blameless.proofs.standing.what_is_in_flight_to_an_end.{in_flight}
use Rattle.osi_blameless.proofs.standing.what_is_left_for_an_end.{has_dr, known_left, left_after, left_still}
use Rattle.osi_blameless.proofs.standing.what_stands_of_a_connection.{is_for}

-- ---- what is left over

link_none : (r n : ℕ) (v : Value) → IsLink v n → (n == r) ≡ false → in_flight r (v ∷ []) ≡ []
link_none r n v h e = grind (arith, in_flight, picked_rest, is_for)

link_keeps : (is_live : ℕ → Bool) (coming : List Value) (v : Value) (n : ℕ) → IsLink v n → (is_live n ≡ true → has_dr n coming ≡ true) →
    (r : ℕ) (later : List Part) → known_left is_live coming r later → known_left is_live (coming ++ v ∷ []) r later
link_keeps is_live coming v n link some r later = by (n == r) refl
  where
    by : (b : Bool) → (n == r) ≡ b → known_left is_live coming r later → known_left is_live (coming ++ v ∷ []) r later
    by true e =
        left_after is_live coming v r later (subst (λ (m : ℕ). is_live m ≡ true → has_dr m coming ≡ true) (eqb-true n r e) some)
    by false e = left_still is_live coming v r later (link_none r n v link e)

-- ---- all connections, while the DR is in flight

module _ (d : Direction) (is_live : ℕ → Bool) (coming : List Value) (at : ℕ) (v : Value) (c : Course) (a : IsAfterDr (other d) v c)
    (h : AreShut d is_live coming c.traffic c.sessions) where
  came_after : HaveSamePlaces c.traffic.connections c.sessions.live → is_live a.n ≡ true → has_dr a.n coming ≡ true
  came_after places =
      let p = is_there (other d) at v c a places in
      let k = h.each p.place p.connection p.joined p.there p.here p.judged p.closing in
      grind (arith, has_dr, number_is)

  -- so what is known of the parts that are left over stays
  pub after_keeps : HaveSamePlaces c.traffic.connections c.sessions.live → (r : ℕ) (later : List Part) →
      known_left is_live coming r later → known_left is_live (coming ++ v ∷ []) r later
  after_keeps places r later sure = link_keeps is_live coming v a.n a.link (came_after places) r later sure
