-- An end of class 2 is ready for each CR of it that passes: nothing is done at its connection, nothing in flight is for it, and its
-- reference is new. And what passes and turns keep it so, as long as both sides are judged.
-- For all connections of an end and a judge.
use Rattle.osi_blameless.proofs.Vocabulary.{◌≡◌, refl, sym, subst, ℕ, true, AllByRecursion, Value, acknowledge, confirm, data0, data2}
use Rattle.osi_blameless.proofs.Vocabulary.{disconnect, disconnected, error, request, Local, Left, IsOngoing, Deeds, then_did}
use Rattle.osi_blameless.proofs.Vocabulary.{units_in, Turn, Joint, Steps, TakesTurn, passes_own, HaveSamePlaces}
use Rattle.osi_blameless.proofs.putting.a_whole_end_runs_along.{first, whole_followed}
use Rattle.osi_blameless.proofs.putting.a_turn_does_what_its_deeds_say.{turn_leaves}
use Rattle.osi_blameless.proofs.putting.what_a_turn_puts_goes_to_its_peer.{all_back}
use Rattle.osi_blameless.proofs.in_class_2.an_end_of_class_2_goes_on.{AsksInTwo, OwnInTwo, in_higher}
use Rattle.osi_blameless.proofs.transport.requests.units_that_wait_give_references_above_those_that_passed.{passes_given}
use Rattle.osi_blameless.proofs.putting.each_reference_of_an_end_is_new.{passes_own_ahead, turns_ahead}
use Rattle.osi_blameless.proofs.putting.nothing_is_done_before_a_cr_passes.{IsNoZero, cr_calm, cr_ready, known_from, none_come}
use Rattle.osi_blameless.proofs.putting.nothing_is_done_before_a_cr_passes.{may_take, turn_undone}
use Rattle.osi_blameless.proofs.standing.what_passes_leaves_all_standing.{IsReady}
use Rattle.osi_blameless.proofs.steps.what_the_turns_among_steps_do.{TurnDoes}
use Rattle.osi_blameless.proofs.keeping.steps_are_events.{whole_of}
use Rattle.osi_rules.specs.declared.directions.Direction.TheVariants as way

module _ (local : Local) (two : local.class2 ≡ true) where
  -- ---- a unit that passes

  pub is_ready : (deeds : ℕ → Deeds) (at : ℕ) (unit : Value) (old new : Joint) → Steps Left (passes_own at unit) old new →
      IsOngoing old.judge.traffic.course → OwnInTwo Left local deeds old →
      IsReady Left deeds (known_from (may_take old.end.end.carrier) (units_in old.coming)) unit new.put old.judge.traffic
      old.judge.sessions
  is_ready deeds at (request x) old new (read, octets, (put, begun, is)) clear h =
      let f = h.ahead.followed in
      let k = passes_given way.Left h.ahead.bound x.source (request x) new.put (whole_of f)
      (record (whole_of f) { put = new.put }) refl put refl refl
      h.ahead.above in
      cr_ready h.ahead.bound deeds old.end.end.carrier x (units_in old.coming) new.put old.judge.traffic old.judge.sessions k.new_is
      h.holds.undone
      (λ lasts. cr_calm local (first local two) old f (whole_followed local two old f clear) x new.put put h.holds.zero lasts)
  is_ready deeds at (confirm n x) old new step clear h = tt
  is_ready deeds at (disconnect n source reason user) old new step clear h = tt
  is_ready deeds at (disconnected n source) old new step clear h = tt
  is_ready deeds at (data0 end user) old new step clear h = tt
  is_ready deeds at (data2 n number end user) old new step clear h = tt
  is_ready deeds at (acknowledge credit n number) old new step clear h = tt
  is_ready deeds at (error n cause) old new step clear h = tt

  pub own_passes : (deeds : ℕ → Deeds) (at : ℕ) (unit : Value) (old new : Joint) → Steps Left (passes_own at unit) old new →
      HaveSamePlaces old.judge.traffic.connections old.judge.sessions.live → OwnInTwo Left local deeds old → OwnInTwo Left local deeds new
  own_passes deeds at unit old new step places h =
      let g = (passes_own_ahead Left (first local two) at unit old new step places h.ahead).on in
      record {
        ahead = g.ahead;
        holds = in_higher Left h.ahead.bound g.ahead.bound deeds new.end.end.carrier new.put (units_in new.coming) g.rises
            (subst (λ (j : Joint). AsksInTwo h.ahead.bound deeds j.end.end.carrier (units_in j.coming)) (sym step.2.2) h.holds);
      }

  -- a turn, with what was done at each connection
  pub turns_own : (turn : Turn) (old new : Joint) (t : TakesTurn turn old new) (deeds : ℕ → Deeds)
      (does : TurnDoes true deeds turn old new t) →
      HaveSamePlaces old.judge.traffic.connections old.judge.sessions.live → IsOngoing old.judge.traffic.course →
      OwnInTwo Left local deeds old → OwnInTwo Left local (λ r. then_did (deeds r) (does.on.more r)) new
  turns_own turn old new t deeds does places clear h =
      let g = turns_ahead Left (first local two) turn old new t h.ahead in
      let f = h.ahead.followed in
      record {
        ahead = g.ahead;
        holds = in_higher Left h.ahead.bound g.ahead.bound (λ r. then_did (deeds r) (does.on.more r)) new.end.end.carrier new.put
            (units_in new.coming) g.rises (record {
              undone = turn_undone h.ahead.bound turn old new t deeds does
                  (none_come h.ahead.bound local (first local two) old f (whole_followed local two old f clear) places h.ahead.below)
                  h.holds.undone;
              zero = all_back IsNoZero (units_in t.used) (units_in new.coming)
                  (subst (AllByRecursion IsNoZero) (turn_leaves turn old new t) h.holds.zero);
            });
      }
