-- If one end of two joined carriers acts, each connection is in a state that both share.
-- For joined carriers.
use Rattle.osi_between.proofs.Vocabulary.{◌≡◌, ◌≢◌, ℕ, ◌+◌, ◌<◌, ◌==◌, Bool, true, false, not, List, ◌++◌, refl, ap, ◌∙◌, arith, eq-eqb}
use Rattle.osi_between.proofs.Vocabulary.{append-nil, append_cancel_left, Value, Happening, State, units_of, AreFor, from_end, called_local}
use Rattle.osi_between.proofs.Vocabulary.{Acts, CourseMoves, StandsBetween, ActsFor, Message}
use Rattle.osi_between.proofs.unit.the_units_of_one_connection.{units_join, units_same, units_other}

-- ---- from the other end

pub stands_turned : (end : Bool) (n : ℕ) (this other : State) (going coming : List Value) → StandsBetween end n this other going coming →
    StandsBetween (not end) n other this coming going
stands_turned end n this other going coming h = grind arith

-- ---- the connections that do not act

stands_still : (end : Bool) (q n : ℕ) (this other next : State) (going coming rest taken units : List Value) (told : List Happening) →
    q ≢ n → StandsBetween end q this other going coming → coming ≡ taken ++ rest → AreFor n taken → Acts n this next units told →
    StandsBetween end q next other (going ++ units) rest
stands_still end q n this other next going coming rest taken units told apart s cut all a =
    grind (arith, units_join, units_other, append-nil, not)

-- ---- the connection that acts

module _ (end : Bool) (n asked : ℕ) (this other next : State) (going coming rest taken : List Value) (put : List Message)
    (s : StandsBetween end n this other going coming) (cut : coming ≡ taken ++ rest) (all : AreFor n taken)
    (mv : CourseMoves end n s.course this other next taken asked put) where
  out_after : units_of n (going ++ mv.units) ≡ from_end end n (called_local end this other) mv.new
  out_after = grind (arith, units_join, units_same)

  back_after : units_of n rest ≡ from_end (not end) n (called_local end this other) mv.new
  back_after = grind (arith, append_cancel_left, units_same, units_join)

  stands_after : StandsBetween end n next other (going ++ mv.units) rest
  stands_after = grind (arith, out_after, back_after)

  stands_by : (q : ℕ) (b : Bool) → (q == n) ≡ b → StandsBetween end q this other going coming →
      StandsBetween end q next other (going ++ mv.units) rest
  stands_by q true e own = grind (arith, stands_after)
  stands_by q false e own =
      stands_still end q n this other next going coming rest taken mv.units mv.events (grind (arith, eq-eqb)) own cut all mv.acts

  -- each connection is in a state that both share
  pub all_stand : ((q : ℕ) → 0 < q → StandsBetween end q this other going coming) → (q : ℕ) → 0 < q →
      StandsBetween end q next other (going ++ mv.units) rest
  all_stand every q some = stands_by q (q == n) refl (every q some)

  -- what is in flight
  pub acts_for : ActsFor n this other next going coming (going ++ mv.units) rest put
  acts_for =
      let c = mv.carries in
      let local = called_local end this other in
      let out = out_after in
      let back = back_after in
      record {
        takes = record {
          units = taken;
          arrived = c.arrived;
          cut = cut;
          all_for = all;
          told = grind arith;
          came = grind arith;
          brings = grind arith;
        };
        writes = grind arith;
        others = grind (arith, units_join, units_other, append-nil);
        given = mv.given ∙ ap (λ (k : ℕ). this.given + k) mv.gives;
        class = mv.settles;
        local = mv.acts.local;
      }
