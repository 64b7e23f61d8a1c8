-- The session of an open connection makes a move: what it sends is handed in at its link, or the connection is closed.
-- For the course of a connection.
use Rattle.osi_blameless.proofs.ends.Vocabulary.{[], ap, arith, Bool, false, is_some, length, map, nat_le, nat_lt, None, Option, refl, Some}
use Rattle.osi_blameless.proofs.ends.Vocabulary.{subst}
use Rattle.osi_blameless.proofs.ends.Vocabulary.{sym, true, ℕ, ◌&&◌, ◌++◌, ◌∙◌, ◌≡◌, append-nil, Joining, Standing, unit_of, MovesAlong}
use Rattle.osi_blameless.proofs.ends.Vocabulary.{tsdus_out}
use Rattle.osi_blameless.proofs.ends.Vocabulary.{closed_with, open_link, sent_all, value_at, linked, State as Carrier, EndReason}
use Rattle.osi_blameless.proofs.ends.Vocabulary.{after_input}
use Rattle.osi_blameless.proofs.ends.Vocabulary.{Input, Listener, session_react as react, is_wait_transport, handed, lengths_fit}
use Rattle.osi_blameless.proofs.ends.Vocabulary.{closed_given}
use Rattle.osi_blameless.proofs.ends.Vocabulary.{has_given, kept_at, to_session, End, sends, AreCalls, Course, Deeds, Gone, IsFreshLink}
use Rattle.osi_blameless.proofs.ends.Vocabulary.{IsNew}
use Rattle.osi_blameless.proofs.ends.Vocabulary.{IsShut, said_in, units_given, is_gone, is_open, closed, units_at, History, said_after}
use Rattle.osi_blameless.proofs.ends.Vocabulary.{over}
use Rattle.osi_blameless.proofs.ends.Vocabulary.{put_closing, put_together}
use Rattle.osi_blameless.proofs.ends.at_any_time.what_a_session_sends_fits.{HasLine, IsProper, kept_then, line_there, moved_by}
use Rattle.osi_blameless.proofs.ends.courses.steps_of_a_course.{HasNone, StepAt, done_by, step_idle}
use Rattle.osi_blameless.proofs.ends.links.units_of_each_connection.{marked, marked_own, nowhere}
use Rattle.osi_blameless.proofs.ends.courses.what_a_session_puts.{answer_puts, session_puts}
use Rattle.osi_blameless.proofs.ends.links.what_a_link_takes_and_is_handed.{Sends, closed_shut, sends_all}
use Rattle.osi_blameless.proofs.ends.links.what_calls_of_a_link_say.{along_more, out_more, put_more, said_more}

-- The connection is open, and this would be said by its session with an input.
pub record CanSpeak (is_caller : Bool) (r : ℕ) (moves : Deeds) (session : Listener) (input : Input) (e : End) : Type 0 where
  pub peer : ℕ
  pub first : Standing
  pub link : Standing
  pub lasts : e.carrier.ended ≡ None
  pub given : has_given r e.carrier ≡ true
  pub here : value_at r e.carrier.live ≡ Some (linked peer link)
  pub fresh : IsFreshLink first
  pub along : MovesAlong first moves.calls link
  pub handed : link.ends.joining.whole ≡ []
  pub put : moves.put ≡ map (unit_of peer) (units_given moves.calls)
  pub kept : kept_at r e.lines ≡ Some session
  pub proper : IsProper session input
  pub begun : is_wait_transport (after_input session input).state.phase ≡ false
  pub begin : Listener
  pub new : IsNew is_caller begin
  pub history : History begin (tsdus_out moves.calls)
      (said_in 0 moves.calls ++ said_after (length (tsdus_out moves.calls)) (sends session input))
      (react session input).closes (after_input session input)

module _ (is_caller : Bool) (r : ℕ) (moves : Deeds) (session : Listener) (input : Input) (e : End)
    (t : CanSpeak is_caller r moves session input e) where
  abbrev there : End
  there = to_session r input e

  closed_is : (react session input).closes ≡ true → HasLine r session e.lines → there.carrier ≡ closed_with r 128 e.carrier
  closed_is closes h = grind (arith, moved_by)

  these_calls : AreCalls t.peer moves
  these_calls = record { first = t.first; link = t.link; fresh = t.fresh; along = t.along; handed = t.handed; put = t.put }

  closes_by : (o : Option EndReason) → there.carrier.ended ≡ o → (react session input).closes ≡ true → HasLine r session e.lines →
      Gone is_caller r moves there
  closes_by (Some reason) ended closes h =
      over t.peer these_calls moves.calls [] (react session input).closes (after_input session input)
      (grind (arith, append-nil)) (sym (append-nil moves.calls)) refl (ap is_some ended)
  closes_by None lasts closes h =
      let is = closed_is closes h in
      let shut = closed_shut r t.peer t.link e.carrier t.lasts t.here (sym (ap (λ (c : Carrier). c.ended) is) ∙ lasts) in
      closed t.peer these_calls (react session input).closes (after_input session input)
      (grind (arith, append-nil))
      (ap (has_given r) is ∙ ap (λ (n : ℕ). nat_lt 0 r && nat_le r n) (closed_given r 128 (open_link r e.carrier) e.carrier) ∙ t.given)
      (subst IsShut (sym (ap (λ (c : Carrier). value_at r c.live) is ∙ shut)) tt)

  sent_is : (react session input).closes ≡ false → HasLine r session e.lines → there.carrier ≡ sent_all r (sends session input) e.carrier
  sent_is closes h = grind (arith, moved_by, handed)

  none_put : (react session input).closes ≡ true → HasLine r session e.lines → HasNone r (session_puts r input e)
  none_put closes h = grind (arith, answer_puts, nowhere, put_closing)

  all_sent : (react session input).closes ≡ false → HasLine r session e.lines →
      session_puts r input e ≡ marked r (put_together r (sends session input) e.carrier)
  all_sent closes h = grind (arith, lengths_fit)

  speaks_by : (b : Bool) → (react session input).closes ≡ b → HasLine r session e.lines →
      StepAt r (session_puts r input e) [] (Course is_caller r) moves there
  speaks_by true closes h =
      step_idle r (session_puts r input e) [] (Course is_caller r) moves there (none_put closes h) (λ some. refl)
      (is_gone (closes_by there.carrier.ended refl closes h))
  speaks_by false closes h =
      let is = sent_is closes h in
      let s : Sends r t.peer t.link (sends session input) e.carrier (sent_all r (sends session input) e.carrier) =
      sends_all r t.peer t.link (sends session input) e.carrier t.lasts t.here in
      record {
        more = done_by t.peer s.moves;
        own = λ some. s.put ∙ sym (ap (units_at r) (all_sent closes h) ∙ marked_own r (put_together r (sends session input) e.carrier));
        taken = λ some. s.hands.taken;
        there = is_open (ap (has_given r) is ∙ ap (λ (n : ℕ). nat_lt 0 r && nat_le r n) s.same.given ∙ t.given) (record {
          peer = t.peer;
          calls = record {
            first = t.first;
            link = s.after;
            fresh = t.fresh;
            along = along_more moves.calls s.moves t.first t.link s.after t.along s.hands.along;
            handed = ap (λ (j : Joining). j.whole) s.hands.joining ∙ t.handed;
            put = put_more t.peer moves.calls s.moves moves.put t.put;
          };
          session = after_input session input;
          lasts = ap (λ (c : Carrier). c.ended) is ∙ s.same.ended ∙ t.lasts;
          here = ap (λ (c : Carrier). value_at r c.live) is ∙ s.here;
          kept = ap (λ (x : End). kept_at r x.lines) (moved_by r session input e h) ∙ kept_then r session input e.lines h;
          speaks = grind (arith, out_more, append-nil, said_more);
          begun = t.begun;
        });
      }

  pub session_speaks : StepAt r (session_puts r input e) [] (Course is_caller r) moves there
  session_speaks = speaks_by (react session input).closes refl (line_there r session e.lines t.kept)
