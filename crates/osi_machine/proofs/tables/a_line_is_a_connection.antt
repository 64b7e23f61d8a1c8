-- A connection of the machine as its two sides keep it: every move of it is the same in the tables.
-- For the_tables_are_the_machine.
use Rattle.osi_machine.proofs.Vocabulary.{called, taken, react, said_of, State, WaitTransport, Ended, Meaning, Token, Call, HasSerial}
use Rattle.osi_machine.proofs.Vocabulary.{Answer, Granted, CallError, without_tokens, allowed, respond, respond_unit, awaiting, is_own}
use Rattle.osi_machine.proofs.Vocabulary.{given_up, left_by, offering, offer_sent, Message, unit, Transport, not_yet, waiting, linked}
use Rattle.osi_machine.proofs.Vocabulary.{kept_of, World, turned, session_of, after_call, after_answer, Taking, unit_taken, error_of}
use Rattle.osi_machine.proofs.Vocabulary.{without_first, Seat, Line, Turn, Told, opened, refused, broken as broken_off, RefusedByTransport}
use Rattle.osi_machine.proofs.Vocabulary.{is_wait_transport, lost, Offer, ask, agree, deny, bye, over, closing, gone, Kept, asked_with, put}
use Rattle.osi_machine.proofs.Vocabulary.{unchanged, moves, moved, Terms, accepts, denies, asked_at, message_taken, shortened, closed}
use Rattle.osi_machine.proofs.Vocabulary.{ended_at, shown_at_end, ◌≡◌, refl, sym, ◌∙◌, ap, Bool, true, false, List, ◌∷◌, take, Option, Some}
use Rattle.osi_machine.proofs.Vocabulary.{Ok, Err, arith, ℕ, if◌then◌else◌, [], None}
use Rattle.osi_machine.proofs.basics.what_holds_in_each_phase.{by_test}
use Rattle.osi_machine.proofs.invariant.each_step_keeps_one_side.{SessionLaws}
use Rattle.osi_machine.proofs.calls.a_restart_is_requested.{given_theirs}
use Rattle.osi_machine.proofs.whole.how_a_core_simulates_a_connection.{is_begun, not_both, stopped}
use Rattle.osi_machine.proofs.whole.a_call.{own_gone, left_theirs}
use Rattle.osi_machine.proofs.whole.a_unit_is_taken.{put_nothing}
use Rattle.osi_machine.proofs.whole.every_step_is_simulated.{Repeats, call_followed, take_unit}
use Rattle.osi_machine.proofs.whole.before_it_is_agreed_to.{Refuses}
use Rattle.osi_machine.proofs.whole.every_stage_of_a_connection.{turned_back}
use Rattle.osi_machine.proofs.whole.each_side_has_the_same_session.{state_from, Disowned, owned_none, owned_as, called_disowned}
use Rattle.osi_machine.proofs.whole.each_side_has_the_same_session.{taken_disowned, Followed}
use Rattle.osi_machine.specs.Tables as tables

-- ---- a connection as tables; a and b are the CNs that may wait

abbrev pub seat_of : World → Option Meaning → Seat
seat_of w a = record { transport = w.own.transport; session = record { state = session_of w; waiting = a }; channel = w.own.channel }

abbrev pub line_of : World → Option Meaning → Option Meaning → Line
line_of w a b = record { own = seat_of w a; peer = seat_of (turned w) b }

-- also true of a side: until the connection is accepted it is in its first state and owns nothing
pub record IsSeated (w : World) (a : Option Meaning) : Type 0 where
  pub calls : w.own.transport ≡ waiting → a ≡ Some (offer_sent w.offer)
  pub called : w.own.transport ≡ waiting → w.own.kept ≡ kept_of (without_tokens WaitTransport (offering w.offer))
  pub idle : w.own.transport ≡ not_yet → w.own.kept ≡ kept_of awaiting
  pub bare : is_begun w.own.transport ≡ false → (t : Token) → is_own (w.owner t) ≡ false
  pub disowned : Disowned w

pub record AreSeated (w : World) (a b : Option Meaning) : Type 0 where
  pub own : IsSeated w a
  pub peer : IsSeated (turned w) b

-- a line is this connection
pub record Tabled (l : Line) (w : World) : Type 0 where
  pub first : Option Meaning
  pub second : Option Meaning
  pub same : l ≡ line_of w first second
  pub seated : AreSeated w first second

abbrev pub turn_of : Taking → Option Meaning → Option Meaning → Turn
turn_of k a b = record { line = line_of k.world a b; shown = k.shown; closes = k.closes }

pub record TurnTabled (x : Turn) (k : Taking) : Type 0 where
  pub first : Option Meaning
  pub second : Option Meaning
  pub same : x ≡ turn_of k first second
  pub seated : AreSeated k.world first second

pub begun_seated : (w : World) (a : Option Meaning) → is_begun w.own.transport ≡ true → Disowned w → IsSeated w a
begun_seated w a b d = grind (arith, not_both, is_begun)

pub turned_tabled : (l : Line) (w : World) → Tabled l w → Tabled (tables.turned l) (turned w)
turned_tabled l w h = grind (arith, turned_back w)

-- ---- what a session that is over leaves of its tokens

pub theirs_stay : (s : State) (w : World) → session_of (turned (record w { owner = left_by s w.owner })) ≡ session_of (turned w)
theirs_stay s w = search (arith, owned_as, left_theirs)

-- a side that is lost or denied
pub gone_state : (w : World) → session_of (record w
    { owner = given_up w.owner; own = record w.own { kept = kept_of (without_tokens Ended (session_of w)) } }) ≡ without_tokens Ended
    (session_of w)
gone_state w = grind (arith, state_from, owned_none, own_gone)

pub gone_seated : (w : World) (tr : Transport) (ms : List Message) (a b : Option Meaning) → is_begun tr ≡ true → AreSeated w a b
    → AreSeated (record w {
      owner = given_up w.owner;
      own = record w.own
          { transport = tr; kept = kept_of (without_tokens Ended (session_of w)); channel = ms };
    }) a b
gone_seated w tr ms a b e h = search (arith, begun_seated, own_gone, given_theirs)

-- ---- a call

pub error_as : (s : State) (a : Option Meaning) (c : Call)
    → (react (record { state = s; waiting = a }) (called c)).error ≡ error_of (allowed s c)
unfolding react
error_as s a c = search arith

-- the message of a TSDU that has one unit
abbrev pub SaysItsUnit : Type 0
SaysItsUnit = (s : State) (u : Meaning) → respond s (said_of u) ≡ respond_unit s u

waits_now : (w : World) → w.own.kept ≡ kept_of (without_tokens WaitTransport (offering w.offer)) → is_wait_transport w.own.kept.phase ≡ true
waits_now w e = ap (λ (k : Kept). is_wait_transport k.phase) e

-- a unit that is taken if the transport connection is open
abbrev pub is_heard : Transport → Message → Bool
is_heard linked (unit u) = true
is_heard tr m = false

module _ (broken : Bool) (w : World) (a b : Option Meaning) where
  refused_call : (c : Call) (e : CallError) → allowed (session_of w) c ≡ Err e → tables.after_call broken c (line_of w a b) ≡ line_of w a b
  unfolding react
  refused_call c e h = search (arith, put_nothing)

  accepted_call : (c : Call) (g : Granted) → allowed (session_of w) c ≡ Ok g → Followed w (after_call broken (session_of w) c g w) g.next
      → tables.after_call broken c (line_of w a b) ≡ line_of (after_call broken (session_of w) c g w) a b
  unfolding react
  accepted_call c g h f = search arith

  pub call_tabled : SessionLaws → (t u : Told) (c : Call) → HasSerial c → Repeats broken w t u → AreSeated w a b
      → Tabled (tables.after_call broken c (line_of w a b)) (after_answer broken c w (allowed (session_of w) c))
  call_tabled laws t u c small h s = by (allowed (session_of w) c) refl
    where
      by : (x : Answer) → allowed (session_of w) c ≡ x → Tabled (tables.after_call broken c (line_of w a b)) (after_answer broken c w x)
      by (Ok g) e =
          let none = called_disowned broken (session_of w) c g w s.peer.disowned in
          record {
            first = a;
            second = b;
            same = accepted_call c g e (call_followed broken w t u h laws s.peer.disowned c g small e);
            seated = grind (arith, begun_seated);
          }
      by (Err e) q = record { first = a; second = b; same = refused_call c e q; seated = s }

  pub refused_tabled : (c : Call) → Refuses (session_of w) c → AreSeated w a b
      → Tabled (tables.after_call broken c (line_of w a b)) (after_answer broken c w (allowed (session_of w) c))
  refused_tabled c r s = search (arith, refused_call)

  -- ---- a unit is taken

  unit_turn : SaysItsUnit → (ms : List Message) (u : Meaning) → w.own.transport ≡ linked
      → Followed w (unit_taken broken (without_first w ms) u).world (respond_unit (session_of w) u).next
      → tables.hears broken linked (taken (said_of u)) (line_of (without_first w ms) a b)
      ≡ turn_of (unit_taken broken (without_first w ms) u) a b
  unfolding react
  unit_turn says ms u e f = search arith

  pub unit_tabled : SessionLaws → SaysItsUnit → (t u : Told) (m : Meaning) (ms : List Message) → Repeats broken w t u
      → w.peer.channel ≡ unit m ∷ ms → w.own.transport ≡ linked → AreSeated w a b
      → TurnTabled (tables.hears broken linked (taken (said_of m)) (line_of (without_first w ms) a b))
      (unit_taken broken (without_first w ms) m)
  unit_tabled laws says t u m ms h e l s =
      grind (
        arith,
        begun_seated,
        taken_disowned broken (session_of w) m (without_first w ms) s.peer.disowned,
        unit_turn says ms m l ((take_unit broken w t u h laws m ms e).followed s.own.disowned s.peer.disowned),
        (take_unit broken w t u h laws m ms e).followed s.own.disowned s.peer.disowned,
      )

  -- ---- the other has asked

  asked_tabled : (terms : Terms) → w.own.transport ≡ not_yet → AreSeated w a b
      → TurnTabled (tables.unseen (tables.asked_at broken terms (line_of w a b))) (unchanged (asked_at broken terms w))
  asked_tabled (accepts class) e h = grind (arith, state_from, begun_seated)
  asked_tabled (denies reason) e h = grind arith

  agreed_tabled : w.own.transport ≡ waiting → AreSeated w a b
      → TurnTabled (tables.hears broken linked opened (line_of w a b))
      (unchanged (moved broken linked (offering w.offer) (unit (offer_sent w.offer) ∷ []) w))
  unfolding react
  agreed_tabled e h = grind arith

  denied_tabled : (reason : ℕ) → w.own.transport ≡ waiting → AreSeated w a b
      → TurnTabled (tables.hears broken gone (refused reason) (line_of w a b))
      (moves (moved broken gone (without_tokens Ended (session_of w)) [] w) (RefusedByTransport reason ∷ []))
  unfolding react
  denied_tabled reason e h =
      grind (
        arith,
        gone_state w,
        theirs_stay (without_tokens Ended (session_of w)) w,
        waits_now w (h.own.called e),
        h.own.called e,
        gone_seated w gone (put broken [] w.own.channel) a b refl h,
      )

  -- ---- the other has closed

  lost_tabled : (keep reason : ℕ) → AreSeated w a b
      → TurnTabled (tables.message_taken broken (denies 0) keep linked (line_of w a b) (bye reason))
      (moves (moved broken gone (lost (session_of w)).next (over ∷ []) (shortened keep w)) (lost (session_of w)).shown)
  unfolding react
  lost_tabled keep reason h =
      grind (
        arith,
        gone_state w,
        theirs_stay (without_tokens Ended (session_of w)) w,
        put_nothing broken (take keep w.own.channel),
        gone_seated w gone (put broken (over ∷ []) (take keep w.own.channel)) a b refl h,
      )

  -- ---- any message but a session unit

  pub message_tabled : (terms : Terms) (keep : ℕ) (tr : Transport) (m : Message) → w.own.transport ≡ tr → is_heard tr m ≡ false
      → AreSeated w a b → TurnTabled (tables.message_taken broken terms keep tr (line_of w a b) m) (message_taken broken terms keep tr w m)
  message_tabled terms keep not_yet ask e q h = asked_tabled terms e h
  message_tabled terms keep waiting agree e q h = agreed_tabled e h
  message_tabled terms keep waiting (deny r) e q h = denied_tabled r e h
  message_tabled terms keep linked (unit u) e q h = absurd (cc)
  message_tabled terms keep linked (bye r) e q h = lost_tabled keep r h
  message_tabled terms keep closing (bye r) e q h = grind arith
  message_tabled terms keep closing over e q h = grind arith
  message_tabled terms keep gone (bye r) e q h = grind arith
  message_tabled terms keep _ _ e q h = record { first = a; second = b; same = refl; seated = h }

  -- ---- a close, an end, a break

  pub close_tabled : (keep : ℕ) → AreSeated w a b → Tabled (tables.closed broken keep (line_of w a b)) (closed broken keep w)
  close_tabled keep h =
      let held = owned_as w.owner (left_by (session_of w) w.owner)
      (λ t. sym (by_test (stopped w.own) (λ o. rw o (own_gone (w.owner t) ∙ sym (h.own.disowned o t))) (λ o. rw o))) in
      let peer = sym (theirs_stay (session_of w) w) in
      record {
        first = a;
        second = b;
        same = grind (arith, state_from);
        seated = record {
          own = grind (arith, begun_seated, by_test, stopped, own_gone);
          peer = record {
            calls = h.peer.calls;
            called = h.peer.called;
            idle = h.peer.idle;
            bare = λ q t. left_theirs (session_of w) w.owner t ∙ h.peer.bare q t;
            disowned = λ q t. left_theirs (session_of w) w.owner t ∙ h.peer.disowned q t;
          };
        };
      }

-- what the end of a side shows
pub shown_as : (w : World) (a : Option Meaning) → (react (record { state = session_of w; waiting = a }) broken_off).shown ≡ shown_at_end w
unfolding react
shown_as w a = refl

pub end_tabled : (keep : ℕ) (w : World) (a b : Option Meaning) → AreSeated w a b
    → Tabled (tables.ended_at keep (line_of w a b)).line (ended_at keep w)
unfolding react
end_tabled keep w a b h =
    grind (
      arith,
      gone_state w,
      theirs_stay (without_tokens Ended (session_of w)) w,
      gone_seated w gone (take keep w.own.channel) a b refl h,
    )

-- ---- a new connection

pub new_tabled : (broken : Bool) (o : Offer)
    → Tabled (tables.asked_with broken o) (if broken then record (asked_with o) { own = record (asked_with o).own { channel = [] } }
    else asked_with o)
new_tabled true o = record { first = Some (offer_sent o); second = None; same = refl; seated = (grind arith) }
new_tabled false o = record { first = Some (offer_sent o); second = None; same = refl; seated = (grind arith) }
