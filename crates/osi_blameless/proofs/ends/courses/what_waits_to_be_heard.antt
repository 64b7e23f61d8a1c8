-- The course of a connection while events of its carrier wait to be handled: at most one of them is of this connection.
-- For the course of a connection.
use Rattle.osi_blameless.proofs.ends.Vocabulary.{[], Bool, false, inl, inr, IsSome, List, map, None, refl, Some, true, ℕ, ◌++◌, ◌∙◌, ◌∷◌}
use Rattle.osi_blameless.proofs.ends.Vocabulary.{◌≡◌, ◌≢◌}
use Rattle.osi_blameless.proofs.ends.Vocabulary.{◌⊎◌, Standing, unit_of, Move, MovesAlong, tsdus_in, tsdus_out, Happening}
use Rattle.osi_blameless.proofs.ends.Vocabulary.{told_opened as opened}
use Rattle.osi_blameless.proofs.ends.Vocabulary.{tsdu, value_at, linked, Listener, is_wait_transport, calls_with, has_given, terms_error}
use Rattle.osi_blameless.proofs.ends.Vocabulary.{kept_at}
use Rattle.osi_blameless.proofs.ends.Vocabulary.{End, Request as Connect, Course, Deeds, Gone, IsFreshLink, no_deeds, Speaks, units_given}
use Rattle.osi_blameless.proofs.ends.Vocabulary.{never}
use Rattle.osi_blameless.proofs.ends.Vocabulary.{is_gone, arith, over}
use Rattle.osi_carrier.specs.Orderly.{told_of}
use Rattle.osi_blameless.proofs.ends.links.what_a_unit_does_to_a_connection.{NoneOf}
use Rattle.osi_blameless.proofs.ends.links.what_another_connection_leaves.{Beside, course_beside, course_over, gone_beside, gone_over}
use Rattle.osi_blameless.proofs.ends.links.what_another_connection_leaves.{some_there}

-- ---- one event that is due

-- this event is among these, and no other of its connection
abbrev pub Due : ℕ → Happening → List Happening → Type 0
Due r event [] = ⊥
Due r event (x ∷ events) = ((told_of x ≢ r) × Due r event events) ⊎ ((x ≡ event) × NoneOf r events)

pub due_last : (r : ℕ) (event : Happening) (events : List Happening) → NoneOf r events → Due r event (events ++ event ∷ [])
due_last r event [] none = inr (refl, tt)
due_last r event (x ∷ events) none = inl (none.0, due_last r event events none.1)

-- ---- a connection that was opened just now

-- no call of its link was made; at a called end it has no session yet
pub record JustOpened (r : ℕ) (moves : Deeds) (e : End) : Type 0 where
  pub none : moves ≡ no_deeds
  pub peer : ℕ
  pub first : Standing
  pub lasts : e.carrier.ended ≡ None
  pub given : has_given r e.carrier ≡ true
  pub here : value_at r e.carrier.live ≡ Some (linked peer first)
  pub fresh : IsFreshLink first

-- ---- a connection whose link handed out a TSDU just now

pub record HasCome (is_caller : Bool) (r : ℕ) (octets : List ℕ) (moves : Deeds) (e : End) : Type 0 where
  pub peer : ℕ
  pub first : Standing
  pub link : Standing
  pub session : Listener
  pub before : List Move
  pub now : List Move
  pub parts : moves.calls ≡ before ++ now
  pub into : tsdus_in now ≡ []
  pub out : tsdus_out now ≡ octets ∷ []
  pub lasts : e.carrier.ended ≡ None
  pub given : has_given r e.carrier ≡ true
  pub here : value_at r e.carrier.live ≡ Some (linked peer link)
  pub fresh : IsFreshLink first
  pub along : MovesAlong first moves.calls link
  pub put : moves.put ≡ map (unit_of peer) (units_given moves.calls)
  pub handed : link.ends.joining.whole ≡ []
  pub kept : kept_at r e.lines ≡ Some session
  pub speaks : Speaks is_caller before false session
  pub begun : is_wait_transport session.state.phase ≡ false

-- ---- while events wait

pub data Waits (is_caller : Bool) (r : ℕ) (events : List Happening) (moves : Deeds) (e : End) : Type 0 where
  still : NoneOf r events → Course is_caller r moves e → Waits is_caller r events moves e
  away : Gone is_caller r moves e → Waits is_caller r events moves e
  called : Due r (opened r) events → is_caller ≡ false → value_at r e.lines ≡ None → JustOpened r moves e →
      Waits is_caller r events moves e
  answered : Due r (opened r) events → is_caller ≡ true → (c : Connect) → terms_error c ≡ None → kept_at r e.lines ≡ Some (calls_with c) →
      JustOpened r moves e → Waits is_caller r events moves e
  came : (octets : List ℕ) → Due r (tsdu r octets) events → HasCome is_caller r octets moves e → Waits is_caller r events moves e

-- no event waits
pub waits_none : (is_caller : Bool) (r : ℕ) (moves : Deeds) (e : End) → Waits is_caller r [] moves e → Course is_caller r moves e
waits_none is_caller r moves e (still none course) = course
waits_none is_caller r moves e (away g) = is_gone g
waits_none is_caller r moves e (called due side none just) = absurd due
waits_none is_caller r moves e (answered due side c terms kept just) = absurd due
waits_none is_caller r moves e (came octets due h) = absurd due

module _ (is_caller : Bool) (r : ℕ) (moves : Deeds) (old new : End) where
  just_beside : Beside r old new → JustOpened r moves old → JustOpened r moves new
  just_beside b j = grind arith

  -- the same events wait at another end that left the connection as it is
  pub waits_as : (events : List Happening) → Beside r old new → Waits is_caller r events moves old → Waits is_caller r events moves new
  waits_as events b (still none course) = still none (course_beside is_caller r moves old new b course)
  waits_as events b (away g) = away (gone_beside is_caller r moves old new b g)
  waits_as events b (called due side none just) = called due side (b.unlined none) (just_beside b just)
  waits_as events b (answered due side c terms kept just) =
      answered due side c terms (b.kept (some_there (value_at r old.carrier.live) _ just.here) ∙ kept) (just_beside b just)
  waits_as events b (came octets due h) = came octets due (grind (arith, some_there))

  pub waits_beside : (x : Happening) (rest : List Happening) → told_of x ≢ r → Beside r old new → Waits is_caller r (x ∷ rest) moves old →
      Waits is_caller r rest moves new
  waits_beside x rest ne b (still none course) = still none.1 (course_beside is_caller r moves old new b course)
  waits_beside x rest ne b (away g) = away (gone_beside is_caller r moves old new b g)
  waits_beside x rest ne b (called due side none just) = grind (arith, just_beside)
  waits_beside x rest ne b (answered due side c terms kept just) =
      answered (grind arith) side c terms
      (b.kept (some_there (value_at r old.carrier.live) _ just.here) ∙ kept) (just_beside b just)
  waits_beside x rest ne b (came octets due h) = came octets (grind arith) (grind (arith, some_there))

  -- the carrier ends
  pub waits_over : (events : List Happening) → Waits is_caller r events moves old → IsSome new.carrier.ended → Gone is_caller r moves new
  waits_over events (still none course) ended = course_over is_caller r moves old new course ended
  waits_over events (away g) ended = gone_over is_caller r moves old new g ended
  waits_over events (called due side none just) ended = never just.none ended
  waits_over events (answered due side c terms kept just) ended = never just.none ended
  waits_over events (came octets due h) ended =
      over h.peer (record { first = h.first; link = h.link; fresh = h.fresh; along = h.along; handed = h.handed; put = h.put })
      h.before h.now false h.session
      h.speaks h.parts h.into ended
