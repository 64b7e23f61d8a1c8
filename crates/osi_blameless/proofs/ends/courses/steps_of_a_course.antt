-- Steps of all connections of an end, one after the other, each with the calls of their links and with what was put and taken.
-- For the course of a connection.
use Rattle.osi_blameless.proofs.ends.Vocabulary.{[], Bool, inl, IsSome, List, map, refl, subst, sym, ℕ, ◌++◌, ◌<◌, ◌∙◌, ◌≡◌}
use Rattle.osi_blameless.proofs.ends.Vocabulary.{append-nil, Value, unit_of, Move, State as Carrier, End, all_did, Deeds, no_deeds, Makes}
use Rattle.osi_blameless.proofs.ends.Vocabulary.{has_given, then_did, units_given, units_taken, all_units, Marked, units_at, arith}
use Rattle.osi_blameless.specs.ends.Doing as doing
use Rattle.osi_blameless.proofs.ends.links.what_is_put_is_written.{makes_after, makes_before}
use Rattle.osi_blameless.proofs.ends.links.how_long_a_connection_is_open.{Life, Rests, Stage, life_rests, life_then, life_then_rests}
use Rattle.osi_blameless.proofs.ends.links.how_long_a_connection_is_open.{life_to_past, stage_at, stage_over}
use Rattle.osi_blameless.proofs.ends.links.how_long_a_connection_is_open.Stage.{early, past}
use Rattle.osi_blameless.proofs.ends.links.the_first_cc_opens_a_connection.{FirstOf, StaysGiven, first_rests, first_then}
use Rattle.osi_blameless.proofs.ends.links.the_first_cc_opens_a_connection.{first_then_rests}
use Rattle.osi_blameless.proofs.ends.links.units_of_each_connection.{AreAccounted, all_units_more, marked, marked_all, none_marked}
use Rattle.osi_blameless.proofs.ends.links.units_of_each_connection.{nowhere}
use Rattle.osi_blameless.proofs.ends.links.units_of_each_connection.{units_more, all_of_both}
use Rattle.osi_blameless.proofs.ends.links.what_calls_of_a_link_say.{taken_more, then_joined, then_none}

-- ---- one connection

-- More is done at the connection, after which this holds: of the units that were put, and of those that were taken, its link gave and
-- took those of this connection.
pub record StepAt (r : ℕ) (put took : List Marked) (T : Deeds → End → Type 0) (deeds : Deeds) (e : End) : Type 0 where
  pub more : Deeds
  pub there : T (then_did deeds more) e
  pub own : 0 < r → more.put ≡ units_at r put
  pub taken : 0 < r → units_taken more.calls ≡ units_at r took

-- none of these units is of this connection
abbrev pub HasNone : ℕ → List Marked → Type 0
HasNone r units = 0 < r → units_at r units ≡ []

-- nothing is done there
pub step_idle : (r : ℕ) (put took : List Marked) (T : Deeds → End → Type 0) (deeds : Deeds) (e : End) → HasNone r put → HasNone r took →
    T deeds e → StepAt r put took T deeds e
step_idle r put took T deeds e none_put none_taken there = record {
  more = no_deeds;
  there = subst (λ (d : Deeds). T d e) (sym (then_none deeds)) there;
  own = λ some. sym (none_put some);
  taken = λ some. sym (none_taken some);
}

-- what is done with these calls: what the link gave is put for the connection
abbrev pub done_by : (peer : ℕ) → List Move → Deeds
done_by peer calls = record { calls = calls; put = map (unit_of peer) (units_given calls) }

-- the same with another end
pub step_on : (r : ℕ) (put took : List Marked) (S T : Deeds → End → Type 0) (deeds : Deeds) (e new : End) → StepAt r put took S deeds e →
    ((after : Deeds) → S after e → T after new) → StepAt r put took T deeds new
step_on r put took S T deeds e new a next = grind arith

-- ---- all connections

-- what holds of each connection and what was done there
abbrev pub States : Type 1
States = ℕ → Deeds → End → Type 0

abbrev pub HoldEach : States → (ℕ → Deeds) → End → Type 0
HoldEach T deeds e = (r : ℕ) → T r (deeds r) e

-- More is done at each connection, after which this holds. The carrier put the units of `put`, and the units that it used are those of
-- `took`; each connection gave and took those of its reference.
pub record StepsBy (is_caller : Bool) (used : List Value) (T : States) (deeds : ℕ → Deeds) (before : Carrier) (e : End) : Type 0 where
  pub more : ℕ → Deeds
  pub there : HoldEach T (all_did deeds more) e
  pub put : List Marked
  pub makes : Makes before used (all_units put) e.carrier
  pub accounted : AreAccounted put
  pub own : (r : ℕ) → 0 < r → (more r).put ≡ units_at r put
  pub took : List Marked
  pub all : all_units took ≡ used
  pub taken : (r : ℕ) → 0 < r → units_taken (more r).calls ≡ units_at r took
  pub life : (r : ℕ) → 0 < r → Life is_caller r (stage_at r before) took put (stage_at r e.carrier)
  -- if the connection awaits its CC
  pub first : (r : ℕ) → 0 < r → FirstOf is_caller r before took put e.carrier

-- each connection is as open as it was, or past; and a reference that was given stays so while it may open
abbrev pub AllRest : Carrier → Carrier → Type 0
AllRest old new = (r : ℕ) → Rests (stage_at r old) (stage_at r new) × StaysGiven r old new

pub same_rest : (c : Carrier) → AllRest c c
same_rest c = λ r. (inl refl, λ now has. has)

-- no unit arrives
abbrev pub Steps : Bool → States → (ℕ → Deeds) → Carrier → End → Type 0
Steps is_caller T deeds before e = StepsBy is_caller [] T deeds before e

pub step_each : (is_caller : Bool) (used : List Value) (T : States) (deeds : ℕ → Deeds) (before : Carrier) (e : End)
    (put took : List Marked) → Makes before used (all_units put) e.carrier → AreAccounted put → all_units took ≡ used →
    ((r : ℕ) → 0 < r → Life is_caller r (stage_at r before) took put (stage_at r e.carrier)) →
    ((r : ℕ) → 0 < r → FirstOf is_caller r before took put e.carrier) →
    ((r : ℕ) → StepAt r put took (T r) (deeds r) e) → StepsBy is_caller used T deeds before e
step_each is_caller used T deeds before e put took makes accounted all life first each = record {
  more = λ r. (each r).more;
  there = λ r. (each r).there;
  put = put;
  makes = makes;
  accounted = accounted;
  own = λ r. (each r).own;
  took = took;
  all = all;
  taken = λ r. (each r).taken;
  life = life;
  first = first;
}

-- nothing is done at any, and nothing is put
pub step_none : (is_caller : Bool) (T : States) (deeds : ℕ → Deeds) (before : Carrier) (e : End) →
    Makes before [] [] e.carrier → AllRest before e.carrier → HoldEach T deeds e → Steps is_caller T deeds before e
step_none is_caller T deeds before e makes rest there =
    step_each is_caller [] T deeds before e [] [] makes tt refl
    (λ r some. life_rests is_caller r (stage_at r before) (stage_at r e.carrier) [] tt (rest r).0)
    (λ r some. first_rests is_caller r before e.carrier [] tt (rest r).0 (rest r).1)
    (λ r. step_idle r [] [] (T r) (deeds r) e (λ some. refl) (λ some. refl) (there r))

pub step_then : (is_caller : Bool) (used others : List Value) (S T : States) (deeds : ℕ → Deeds) (before : Carrier) (mid new : End) →
    StepsBy is_caller used S deeds before mid →
    ((after : ℕ → Deeds) → HoldEach S after mid → StepsBy is_caller others T after mid.carrier new) →
    StepsBy is_caller (used ++ others) T deeds before new
step_then is_caller used others S T deeds before mid new a next =
    let b = next (all_did deeds a.more) a.there in
    record {
      more = all_did a.more b.more;
      there = λ r. subst (λ (d : Deeds). T r d new) (then_joined (deeds r) (a.more r) (b.more r)) (b.there r);
      put = a.put ++ b.put;
      makes = subst (λ (l : List Value). Makes before (used ++ others) l new.carrier) (sym (all_units_more a.put b.put))
          (doing.and_then before mid.carrier new.carrier used others (all_units a.put) (all_units b.put) a.makes b.makes);
      accounted = grind (arith, all_of_both);
      own = grind (arith, units_more);
      took = a.took ++ b.took;
      all = grind (arith, all_units_more);
      taken = grind (arith, taken_more, units_more);
      life = grind (arith, life_then, stage_at);
      first = λ r some. first_then is_caller r before mid.carrier new.carrier a.took a.put b.took b.put (a.first r some) (b.life r some)
          (b.first r some);
    }

-- units arrived before
pub step_after : (is_caller : Bool) (used : List Value) (S T : States) (deeds : ℕ → Deeds) (before : Carrier) (mid new : End) →
    StepsBy is_caller used S deeds before mid → ((after : ℕ → Deeds) → HoldEach S after mid → Steps is_caller T after mid.carrier new) →
    StepsBy is_caller used T deeds before new
step_after is_caller used S T deeds before mid new a next =
    grind (arith, append-nil used, step_then is_caller used [] S T deeds before mid new a next)

-- the carrier has ended, and more units had arrived
pub step_more : (is_caller : Bool) (used others : List Value) (T : States) (deeds : ℕ → Deeds) (before : Carrier) (e : End) →
    IsSome e.carrier.ended → StepsBy is_caller used T deeds before e → StepsBy is_caller (used ++ others) T deeds before e
step_more is_caller used others T deeds before e ended a = record {
  more = a.more;
  there = a.there;
  put = a.put;
  makes = subst (λ (l : List Value). Makes before (used ++ others) l e.carrier) (append-nil (all_units a.put))
      (doing.and_then before e.carrier e.carrier used others (all_units a.put) [] a.makes (doing.leaves others e.carrier ended));
  accounted = a.accounted;
  own = a.own;
  took = a.took ++ marked 0 others;
  all = grind (arith, all_units_more, marked, marked_all);
  taken = grind (arith, append-nil, nowhere, units_more, marked);
  life = λ r some. subst (λ (l : List Marked). Life is_caller r (stage_at r before) (a.took ++ marked 0 others) l (stage_at r e.carrier))
      (append-nil a.put)
      (life_then is_caller r (stage_at r before) a.took a.put (stage_at r e.carrier) (marked 0 others) [] (stage_at r e.carrier)
      (a.life r some)
      (subst (λ (s : Stage). Life is_caller r s (marked 0 others) [] s) (sym (stage_over r e.carrier ended))
      (life_to_past is_caller r past (marked 0 others) [] (none_marked r others some) tt)));
  first = λ r some.
      subst (λ (l : List Marked). FirstOf is_caller r before (a.took ++ marked 0 others) l e.carrier) (append-nil a.put)
      (first_then is_caller r before e.carrier e.carrier a.took a.put (marked 0 others) [] (a.first r some)
      (subst (λ (s : Stage). Life is_caller r s (marked 0 others) [] (stage_at r e.carrier)) (sym (stage_over r e.carrier ended))
      (grind (arith, past, marked, stage_over, life_to_past, none_marked)))
      (λ has now. absurd (let both : past ≡ early = sym (stage_over r e.carrier ended) ∙ now in cc)));
}

-- the same with another end, for which nothing was put
pub step_as : (is_caller : Bool) (used : List Value) (S T : States) (deeds : ℕ → Deeds) (before : Carrier) (e new : End) →
    StepsBy is_caller used S deeds before e → Makes e.carrier [] [] new.carrier → AllRest e.carrier new.carrier →
    ((r : ℕ) (after : Deeds) → S r after e → T r after new) → StepsBy is_caller used T deeds before new
step_as is_caller used S T deeds before e new a makes rest next = record {
  more = a.more;
  there = λ r. next r (then_did (deeds r) (a.more r)) (a.there r);
  put = a.put;
  makes = makes_after before e.carrier new.carrier used (all_units a.put) a.makes makes;
  accounted = a.accounted;
  own = a.own;
  took = a.took;
  all = a.all;
  taken = a.taken;
  life = grind (arith, life_then_rests, stage_at);
  first = λ r some. first_then_rests is_caller r before e.carrier new.carrier a.took a.put (a.first r some) (rest r).0 (rest r).1;
}

-- the same since another carrier, from which nothing was put
pub step_since : (is_caller : Bool) (used : List Value) (T : States) (deeds : ℕ → Deeds) (before other : Carrier) (e : End) →
    Makes before [] [] other → ((r : ℕ) → (stage_at r other ≡ stage_at r before) × (has_given r other ≡ has_given r before)) →
    StepsBy is_caller used T deeds other e →
    StepsBy is_caller used T deeds before e
step_since is_caller used T deeds before other e makes as_open a = record {
  more = a.more;
  there = a.there;
  put = a.put;
  makes = makes_before before other e.carrier used (all_units a.put) makes a.makes;
  accounted = a.accounted;
  own = a.own;
  took = a.took;
  all = a.all;
  taken = a.taken;
  life = λ r some. subst (λ (s : Stage). Life is_caller r s a.took a.put (stage_at r e.carrier)) (as_open r).0 (a.life r some);
  first = λ r some has now. a.first r some ((as_open r).1 ∙ has) ((as_open r).0 ∙ now);
}
