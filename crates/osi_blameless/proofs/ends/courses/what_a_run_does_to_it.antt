-- Each turn of an end, and a run: what becomes of the course of one connection.
-- For the laws of an end and its connections.
use Rattle.osi_blameless.proofs.ends.Vocabulary.{[], ap, Bool, List, None, refl, subst, sym, ℕ, ◌++◌, ◌<◌, ◌==◌, ◌∙◌, ◌∷◌, ◌≡◌, append-nil}
use Rattle.osi_blameless.proofs.ends.Vocabulary.{append_cancel_left, ArePackets, Local, orderly_fresh, Rows, value_at, packets}
use Rattle.osi_blameless.proofs.ends.Vocabulary.{State as Carrier}
use Rattle.osi_blameless.proofs.ends.Vocabulary.{called, breaks_attended, connect_attended, feeds_attended, session_attended, first_keep}
use Rattle.osi_blameless.proofs.ends.Vocabulary.{kept_first, disconnect_attended, without_first, user_does, UserCall, breaking, calling}
use Rattle.osi_blameless.proofs.ends.Vocabulary.{connecting}
use Rattle.osi_blameless.proofs.ends.Vocabulary.{disconnecting, Call, Calls, carried_in, put_back, used_in, carrying, feeding, telling, End}
use Rattle.osi_blameless.proofs.ends.Vocabulary.{fresh_end, Holding, IsAttended, Line, all_did, Continues, ContinuesAlong, Course, Deeds}
use Rattle.osi_blameless.proofs.ends.Vocabulary.{no_deeds}
use Rattle.osi_blameless.proofs.ends.Vocabulary.{SoFar, units_in, units_taken, unknown, all_units, Marked, units_at, IsFresh, Act, Acts}
use Rattle.osi_blameless.proofs.ends.Vocabulary.{carried_by}
use Rattle.osi_blameless.proofs.ends.Vocabulary.{Run, Takes, Turn, used_by, serving, using, arith, nat_tests}
use Rattle.osi_blameless.specs.ends.Doing as doing
use Rattle.osi_blameless.proofs.ends.courses.steps_of_a_course.{AllRest, HoldEach, Steps}
use Rattle.osi_blameless.proofs.ends.links.the_first_cc_opens_a_connection.{FirstOf, first_rests}
use Rattle.osi_blameless.proofs.ends.links.the_connections_of_each_class.{IsSound, sound_same}
use Rattle.osi_blameless.proofs.ends.links.the_connections_of_each_class.ByClass.{none as no_connection}
use Rattle.osi_blameless.proofs.ends.courses.what_a_call_does_to_it.{user_steps}
use Rattle.osi_blameless.proofs.ends.courses.what_a_packet_does_to_it.{Between, FeedSteps, feeds_steps, sound_kept}
use Rattle.osi_blameless.proofs.ends.links.what_another_connection_leaves.{Beside, course_beside, none_before, none_behind}
use Rattle.osi_blameless.proofs.ends.links.how_long_a_connection_is_open.{Life, life_rests, life_then, lives, stage_at}
use Rattle.osi_blameless.proofs.ends.links.units_of_each_connection.{by_links, units_more}
use Rattle.osi_blameless.proofs.ends.links.what_calls_of_a_link_say.{taken_more, then_none}
use Rattle.osi_blameless.proofs.ends.links.what_is_put_in_a_turn_can_be_written.{turn_written}
use Rattle.osi_blameless.proofs.ends.links.what_is_put_is_written.{makes_written}
use Rattle.osi_blameless.proofs.ends.courses.what_sessions_hear_of_it.{CourseAll, Known}
use Rattle.osi_blameless.proofs.ends.links.what_a_unit_keeps_a_turn_keeps.{makes_kept}

-- ---- between two turns

call_attended : (call : Call) (old new : Holding) → IsAttended old.end → Calls old call new → IsAttended new.end
call_attended (feeding piece fed) old new attended c = feeds_attended old new piece fed c attended
call_attended (telling shown) old new attended c = grind arith
call_attended (carrying octets) old new attended c = grind arith

user_attended : (call : UserCall) (e : End) → IsAttended e → IsAttended (user_does call e)
user_attended (connecting c) e h = connect_attended c e h
user_attended (calling q call) e h = session_attended q (called call) e h
user_attended (disconnecting q) e h = disconnect_attended q e h
user_attended breaking e h = breaks_attended e h

act_attended : (act : Act) (old new : Holding) → IsAttended old.end → Acts old act new → IsAttended new.end
act_attended (serving call) old new attended acts = call_attended call old new attended acts
act_attended (using call) old new attended acts =
    subst (λ (h : Holding). IsAttended h.end) (sym acts.3) (user_attended call old.end attended)

pub turn_between : (is_caller : Bool) (moves : ℕ → Deeds) (turn : Turn) (old new : Holding) → Continues is_caller moves old turn new →
    Takes old turn new → Between old.end → Between new.end
turn_between is_caller moves turn old new on takes b = record {
  sound = subst IsSound (sym on.same)
      (sound_same on.there new.end.carrier.outgoing
      (makes_kept IsSound sound_kept old.end.carrier on.there (units_in on.used) (all_units on.put) on.makes b.sound));
  attended = act_attended takes.act old new b.attended takes.acts;
}

pub fresh_between : (is_caller : Bool) (local : Local) → Between (fresh_end is_caller local)
fresh_between is_caller local = grind (arith, orderly_fresh, no_connection)

-- ---- indications and octets are fetched

first_unlined : (r : ℕ) (lines : Rows Line) → value_at r lines ≡ None → value_at r (without_first lines) ≡ None
first_unlined r [] h = refl
first_unlined r ((p, y) ∷ lines) h =
    let k = none_behind r p y lines (p == r) refl h in
    first_keep (λ (l : Rows Line). value_at r l ≡ None) p y lines
    (none_before r p y (without_first lines) k.1 (first_unlined r lines k.0))
    (λ left. none_before r p (record y { waiting = left }) lines k.1 k.0)

told_beside : (r : ℕ) (e : End) → Beside r e (record e { lines = without_first e.lines })
told_beside r e = grind (arith, first_unlined, kept_first)

carried_beside : (r : ℕ) (octets : List ℕ) (e : End) → Beside r (put_back octets e) e
carried_beside r octets e = grind arith

-- ---- a turn

-- a turn, and what it is for each connection
pub record TurnOf (is_caller : Bool) (moves : ℕ → Deeds) (turn : Turn) (old new : Holding) : Type 0 where
  pub on : Continues is_caller moves old turn new
  pub life : (r : ℕ) → 0 < r → Life is_caller r (stage_at r old.end.carrier) on.took on.put (stage_at r new.end.carrier)
  -- if the connection awaits its CC
  pub first : (r : ℕ) → 0 < r → FirstOf is_caller r old.end.carrier on.took on.put new.end.carrier

module _ (known : Known) (is_caller : Bool) (moves : ℕ → Deeds) where
  abbrev Courses : (ℕ → Deeds) → End → Type 0
  Courses moves e = HoldEach (CourseAll is_caller) moves e

  -- nothing was used
  as_turn : (turn : Turn) (old new : Holding) → turn.used ≡ [] → new.held.octets ≡ old.held.octets →
      Steps is_caller (CourseAll is_caller) moves old.end.carrier new.end →
      new.end.carrier.outgoing ≡ old.end.carrier.outgoing ++ turn.put → TurnOf is_caller moves turn old new
  as_turn turn old new none same s is = record {
    on = record {
      more = s.more;
      course = s.there;
      put = s.put;
      written = append_cancel_left old.end.carrier.outgoing turn.put (packets (all_units s.put))
          (sym is ∙ makes_written old.end.carrier new.end.carrier [] (all_units s.put) s.makes);
      can = turn_written is_caller moves s.more new.end s.put s.there s.own s.accounted;
      by_links = by_links s.put s.accounted;
      own = s.own;
      used = [];
      rest = old.held.octets ++ turn.used;
      cut = refl;
      held = λ lasts. ap (λ (l : List ℕ). old.held.octets ++ l) none ∙ append-nil old.held.octets ∙ sym same;
      took = s.took;
      all = s.all;
      taken = s.taken;
      lives = λ r some. lives is_caller r some old.end.carrier new.end.carrier s.took s.put (s.life r some);
      there = new.end.carrier;
      makes = s.makes;
      same = refl;
    };
    life = s.life;
    first = s.first;
  }

  -- a piece was fed
  fed_turn : (turn : Turn) (octets : List ℕ) (old new : Holding) → turn.used ≡ octets → FeedSteps known is_caller moves octets old new →
      new.end.carrier.outgoing ≡ old.end.carrier.outgoing ++ turn.put → TurnOf is_caller moves turn old new
  fed_turn turn octets old new used f is = record {
    on = record {
      more = f.steps.more;
      course = f.steps.there;
      put = f.steps.put;
      written = append_cancel_left old.end.carrier.outgoing turn.put (packets (all_units f.steps.put))
          (sym is ∙ makes_written old.end.carrier new.end.carrier (units_in f.used) (all_units f.steps.put) f.steps.makes);
      can = turn_written is_caller moves f.steps.more new.end f.steps.put f.steps.there f.steps.own f.steps.accounted;
      by_links = by_links f.steps.put f.steps.accounted;
      own = f.steps.own;
      used = f.used;
      rest = f.rest;
      cut = subst (λ (l : List ℕ). ArePackets f.used (old.held.octets ++ l) f.rest) (sym used) f.cut;
      held = f.held;
      took = f.steps.took;
      all = f.steps.all;
      taken = f.steps.taken;
      lives = λ r some. lives is_caller r some old.end.carrier new.end.carrier f.steps.took f.steps.put (f.steps.life r some);
      there = new.end.carrier;
      makes = f.steps.makes;
      same = refl;
    };
    life = f.steps.life;
    first = f.steps.first;
  }

  -- nothing was used or put
  quiet_turn : (turn : Turn) (old new : Holding) → turn.used ≡ [] → turn.put ≡ [] → new.held.octets ≡ old.held.octets →
      new.end.carrier ≡ record old.end.carrier { outgoing = new.end.carrier.outgoing } → Courses moves new.end →
      AllRest old.end.carrier new.end.carrier → TurnOf is_caller moves turn old new
  quiet_turn turn old new none nothing same carrier course rest = record {
    on = record {
      more = λ r. no_deeds;
      course = λ r. subst (λ (d : Deeds). Course is_caller r d new.end) (sym (then_none (moves r))) (course r);
      put = [];
      written = nothing;
      can = tt;
      by_links = tt;
      own = λ r some. refl;
      used = [];
      rest = old.held.octets ++ turn.used;
      cut = refl;
      held = λ lasts. ap (λ (l : List ℕ). old.held.octets ++ l) none ∙ append-nil old.held.octets ∙ sym same;
      took = [];
      all = refl;
      taken = λ r some. refl;
      lives = λ r some. search (arith, lives, life_rests, stage_at);
      there = old.end.carrier;
      makes = doing.rests old.end.carrier;
      same = carrier;
    };
    life = λ r some. life_rests is_caller r (stage_at r old.end.carrier) (stage_at r new.end.carrier) [] tt (rest r).0;
    first = λ r some. first_rests is_caller r old.end.carrier new.end.carrier [] tt (rest r).0 (rest r).1;
  }

  nothing_put : (old new put : List ℕ) → new ≡ old ++ put → new ≡ old → put ≡ []
  nothing_put old new put is same = append_cancel_left old put [] (sym is ∙ same ∙ sym (append-nil old))

  serving_turn : (turn : Turn) (call : Call) (old new : Holding) → turn.used ≡ used_in call → Between old.end →
      Courses moves old.end → Calls old call new →
      carried_in call ++ new.end.carrier.outgoing ≡ old.end.carrier.outgoing ++ turn.put → TurnOf is_caller moves turn old new
  serving_turn turn (feeding piece fed) old new used b course c is = grind (arith, fed_turn, feeds_steps)
  serving_turn turn (telling shown) old new used b course c is =
      quiet_turn turn old new used
      (nothing_put old.end.carrier.outgoing new.end.carrier.outgoing turn.put is (ap (λ (x : Holding). x.end.carrier.outgoing) c.1))
      (ap (λ (x : Holding). x.held.octets) c.1)
      (subst (λ (x : Holding). x.end.carrier ≡ record old.end.carrier { outgoing = x.end.carrier.outgoing }) (sym c.1) refl)
      (subst (λ (x : Holding). Courses moves x.end) (sym c.1)
      (λ r. course_beside is_caller r (moves r) old.end (record old.end { lines = without_first old.end.lines }) (told_beside r old.end)
      (course r)))
      (grind (arith, stage_at))
  serving_turn turn (carrying octets) old new used b course c is =
      quiet_turn turn old new used
      (grind (arith, nothing_put))
      (sym (ap (λ (x : Holding). x.held.octets) c))
      (subst (λ (x : Holding). new.end.carrier ≡ record x.end.carrier { outgoing = new.end.carrier.outgoing }) (sym c) refl)
      (λ r. course_beside is_caller r (moves r) (put_back octets new.end) new.end (carried_beside r octets new.end)
      (subst (λ (x : Holding). Course is_caller r (moves r) x.end) c (course r)))
      (grind (arith, stage_at))

  act_turn : (turn : Turn) (act : Act) (old new : Holding) → turn.used ≡ used_by act → Between old.end → Courses moves old.end →
      Acts old act new → carried_by act ++ new.end.carrier.outgoing ≡ old.end.carrier.outgoing ++ turn.put →
      TurnOf is_caller moves turn old new
  act_turn turn (serving call) old new used b course acts is = serving_turn turn call old new used b course acts is
  act_turn turn (using call) old new used b course acts is = search (arith, as_turn, user_steps)

  pub turn_continues : (turn : Turn) (old new : Holding) → Between old.end → Courses moves old.end → Takes old turn new →
      TurnOf is_caller moves turn old new
  turn_continues turn old new b course takes = act_turn turn takes.act old new takes.used b course takes.acts takes.put

-- ---- a run

-- what was done since this carrier
pub record Since (is_caller : Bool) (first : Carrier) (moves : ℕ → Deeds) (took put : List Marked) (e : End) : Type 0 where
  pub own : (r : ℕ) → 0 < r → (moves r).put ≡ units_at r put
  pub taken : (r : ℕ) → 0 < r → units_taken (moves r).calls ≡ units_at r took
  pub life : (r : ℕ) → 0 < r → Life is_caller r (stage_at r first) took put (stage_at r e.carrier)

since_then : (is_caller : Bool) (first : Carrier) (moves : ℕ → Deeds) (took put : List Marked) (turn : Turn)
    (old mid : Holding) → Since is_caller first moves took put old.end → (at : TurnOf is_caller moves turn old mid) →
    Since is_caller first (all_did moves at.on.more) (took ++ at.on.took) (put ++ at.on.put) mid.end
since_then is_caller first moves took put turn old mid s at = grind (arith, units_more, taken_more, life_then, stage_at)

so_far : (is_caller : Bool) (first : Carrier) (moves : ℕ → Deeds) (took put : List Marked) (new : Holding) →
    Since is_caller first moves took put new.end → SoFar is_caller first moves took put new
so_far is_caller first moves took put new s = grind (arith, lives)

-- turns one after the other, and what each is for each connection of an end at which this was done before
abbrev pub TurnsOf : Bool → (ℕ → Deeds) → Holding → List Turn → Holding → Type 0
TurnsOf is_caller moves old [] new = new ≡ old
TurnsOf is_caller moves old (turn ∷ turns) new = (mid : Holding) × Takes old turn mid × (at : TurnOf is_caller moves turn old mid)
    × TurnsOf is_caller (all_did moves at.on.more) mid turns new

run_turns : Known → (is_caller : Bool) (moves : ℕ → Deeds) (turns : List Turn) (old new : Holding) → Between old.end →
    HoldEach (CourseAll is_caller) moves old.end → Run old turns new → TurnsOf is_caller moves old turns new
run_turns known is_caller moves [] old new b course run = run
run_turns known is_caller moves (turn ∷ turns) old new b course run =
    let mid = run.0 in
    let at = turn_continues known is_caller moves turn old mid b course run.1 in search (
      arith,
      run_turns known is_caller (all_did moves at.on.more) turns mid new (turn_between is_caller moves turn old mid at.on run.1 b)
          at.on.course run.2,
    )

pub fresh_course : (is_caller : Bool) (local : Local) (r : ℕ) → Course is_caller r no_deeds (fresh_end is_caller local)
fresh_course is_caller local r = unknown refl refl (grind (arith, nat_tests)) refl refl

-- all turns of an end
pub fresh_turns : Known → (is_caller : Bool) (local : Local) (begin end : Holding) (turns : List Turn) → IsFresh is_caller local begin →
    Run begin turns end → TurnsOf is_caller (λ r. no_deeds) begin turns end
fresh_turns known is_caller local begin end turns fresh run = search (arith, run_turns, fresh_between, fresh_course)

pub turns_continue : (is_caller : Bool) (first : Carrier) (moves : ℕ → Deeds) (took put : List Marked) (turns : List Turn)
    (old new : Holding) → Since is_caller first moves took put old.end → TurnsOf is_caller moves old turns new →
    ContinuesAlong is_caller first moves took put old turns new
turns_continue is_caller first moves took put [] old new s run = run
turns_continue is_caller first moves took put (turn ∷ turns) old new s (mid, takes, at, more) =
    let on = at.on in
    let then_since = since_then is_caller first moves took put turn old mid s at in (
      mid,
      takes,
      on,
      so_far is_caller first (all_did moves on.more) (took ++ on.took) (put ++ on.put) mid then_since,
      turns_continue is_caller first (all_did moves on.more) (took ++ on.took) (put ++ on.put) turns mid new then_since more,
    )

pub nothing_since : (is_caller : Bool) (e : End) → Since is_caller e.carrier (λ r. no_deeds) [] [] e
nothing_since is_caller e = grind (arith, life_rests, stage_at)
