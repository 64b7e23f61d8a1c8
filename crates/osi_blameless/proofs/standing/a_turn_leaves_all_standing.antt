-- A turn of an end leaves all its connections standing at a judge; and while they stand, no session of the end is to blame.
-- For the session of each connection of an end.
use Rattle.osi_blameless.proofs.Vocabulary.{[], Bool, false, List, refl, Some, true, ℕ, ◌++◌, ◌≡◌, slice_get, Value, Part, End, is_open}
use Rattle.osi_blameless.proofs.Vocabulary.{own, Traffic as State, Connection, other, Direction, Deeds, then_did, IsToBlame, Joined}
use Rattle.osi_blameless.proofs.Vocabulary.{reference_of, Sessions, way_of, calls_from, IsShownNow, arith}
use Rattle.osi_blameless.specs.ends.Courses.{Course}
use Rattle.osi_blameless.proofs.shown.a_session_that_is_shown_is_not_to_blame.{SessionLaws, none_broken, not_both, not_to_blame}
use Rattle.osi_blameless.proofs.standing.all_connections_stand.{AllStand, Rests, quiet, rests, there_too}
use Rattle.osi_blameless.proofs.shown.what_a_judge_shows_goes_on.{end_turns}
use Rattle.osi_blameless.proofs.standing.what_stands_of_a_connection.{Known, Stands, Takes, lives, past, stands_turns, unnamed, waiting_for}

-- a connection that is judged has this reference, or one that is done
pub data IsOfOne (d : Direction) (r : ℕ) (s : State) (t : Sessions) : Type 0 where
  of_live : (i : ℕ) (c : Connection) (j : Joined) → slice_get s.connections i ≡ Some c → slice_get t.live i ≡ Some j →
      c.is_judged ≡ true → reference_of d j ≡ Some r → IsOfOne d r s t
  of_done : (i : ℕ) (j : Joined) → slice_get t.done i ≡ Some j → reference_of d j ≡ Some r → IsOfOne d r s t

-- What the end did in a turn, and the units that it put in all. At each connection that it has not closed it put those of them that are
-- for it; and its link took the first of what is in flight to it, if any.
pub record Turns (d : Direction) (more : ℕ → Deeds) (known then_known : Known) (units : List Value) (s : State)
    (t : Sessions) : Type 0 where
  pub puts : (i : ℕ) (c : Connection) (j : Joined) (r : ℕ) → slice_get s.connections i ≡ Some c → slice_get t.live i ≡ Some j →
      reference_of d j ≡ Some r → is_open (own (way_of d) c).phase ≡ true → (more r).put ≡ waiting_for (reference_of (other d) j) units
  pub takes : (r : ℕ) → IsOfOne d r s t → (later : List Part) → known r later → Takes (more r) later (then_known r)

rests_turns : (d : Direction) (deeds more : ℕ → Deeds) (known then_known : Known) (j : Joined) →
    ((r : ℕ) → reference_of d j ≡ Some r → (later : List Part) → known r later → Takes (more r) later (then_known r)) →
    Rests d deeds known j →
    Rests d (λ r. then_did (deeds r) (more r)) then_known j
rests_turns d deeds more known then_known j takes (quiet none mine theirs) = quiet none mine theirs
rests_turns d deeds more known then_known j takes (rests r waiting later sure h) =
    let t = takes r h.shown.named later sure in
    rests r (waiting ++ (more r).put) t.rest t.sure (end_turns d r (deeds r) waiting later (more r) t.rest false j t.first h)

pub all_turn : (d : Direction) (deeds more : ℕ → Deeds) (known then_known : Known) (put units : List Value) (b : Bool) (s : State)
    (t : Sessions) → (b ≡ true → put ≡ [] → ⊥) → Turns d more known then_known units s t → AllStand d deeds known put b s t →
    AllStand d (λ r. then_did (deeds r) (more r)) then_known (put ++ units) b s t
all_turn d deeds more known then_known put units b s t some turns a = record {
  places = a.places;
  apart = a.apart;
  judged = a.judged;
  room = a.room;
  live = λ i c j there here judged.
      stands_turns d deeds more known then_known put units b c j some (λ r named live. turns.puts i c j r there here named live)
      (λ r later named sure. turns.takes r (of_live i c j there here judged named) later sure) (a.live i c j there here judged);
  lost = a.lost;
  done = λ i j here. rests_turns d deeds more known then_known j
      (λ r named later sure. turns.takes r (of_done i j here named) later sure) (a.done i j here);
}

-- ---- nobody is to blame

module _ (laws : SessionLaws) (d : Direction) (deeds : ℕ → Deeds) (known : Known) (put : List Value) (b : Bool) (e : End)
    (courses : (r : ℕ) → Course (calls_from d) r (deeds r) e) where
  shown_so : (r : ℕ) (waiting : List Value) (later : List Part) (x : Bool) (j : Joined) →
      IsShownNow d r (deeds r) waiting later x j → IsToBlame d j → ⊥
  shown_so r waiting later x j h blame =
      not_to_blame laws.sent laws.parts laws.caller laws.called d r (deeds r) e j (courses r) h.shown blame

  pub stands_blameless : (c : Connection) (j : Joined) → Stands d deeds known put b c j → IsToBlame d j → ⊥
  stands_blameless c j (unnamed none mine theirs room) blame = grind (arith, not_both, none_broken)
  stands_blameless c j (lives r o is live later sure h) blame = shown_so r _ later _ j h blame
  stands_blameless c j (past r closed waiting later sure h) blame = shown_so r waiting later false j h blame

  pub rests_blameless : (j : Joined) → Rests d deeds known j → IsToBlame d j → ⊥
  rests_blameless j (quiet none mine theirs) blame = grind (arith, not_both, none_broken)
  rests_blameless j (rests r waiting later sure h) blame = shown_so r waiting later false j h blame

  either_blameless : (s : State) (t : Sessions) → AllStand d deeds known put b s t → (i : ℕ) (c : Connection) (j : Joined) →
      slice_get s.connections i ≡ Some c → slice_get t.live i ≡ Some j → (x : Bool) → c.is_judged ≡ x → IsToBlame d j → ⊥
  either_blameless s t a i c j there here true judged blame = stands_blameless c j (a.live i c j there here judged) blame
  either_blameless s t a i c j there here false lost blame = (a.lost i c j there here lost).none blame

  -- of all connections
  pub all_blameless : (s : State) (t : Sessions) → AllStand d deeds known put b s t →
      ((i : ℕ) (j : Joined) → slice_get t.live i ≡ Some j → IsToBlame d j → ⊥)
      × ((i : ℕ) (j : Joined) → slice_get t.done i ≡ Some j → IsToBlame d j → ⊥)
  all_blameless s t a = (
    λ i j here blame. let (c, there) = there_too s.connections t.live i j a.places here in
        either_blameless s t a i c j there here c.is_judged refl blame,
    λ i j here blame. rests_blameless j (a.done i j here) blame,
  )
