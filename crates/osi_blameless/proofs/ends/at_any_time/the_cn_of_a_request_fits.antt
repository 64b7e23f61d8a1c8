-- The session of a request that was accepted begins with a CN that fits.
-- For the course of a connection.
use Rattle.osi_blameless.proofs.ends.Vocabulary.{false, None, ◌≡◌, after_input, Listener, linked_up as opened, session_react}
use Rattle.osi_blameless.proofs.ends.Vocabulary.{is_wait_transport}
use Rattle.osi_blameless.proofs.ends.Vocabulary.{arith, length, refl, ◌≤◌, leb-true, not-false, sent_alone, IsSendable, asked_sendable}
use Rattle.osi_blameless.proofs.ends.Vocabulary.{sent_short}
use Rattle.osi_blameless.proofs.ends.Vocabulary.{SpduLaws, or_first, or_second, asked_for, calls_with, terms_error, Request as Connect}
use Rattle.osi_message.specs.Written.{written}
unfoldable use Rattle.osi_message.specs.Written.{unit_of, user_data_of}
unfoldable use Rattle.osi_session.specs.Listening.{react}
use Rattle.osi_blameless.proofs.ends.at_any_time.what_a_session_sends_fits.{IsProper}

-- what has to be known of the session that asks
pub record CanBegin (session : Listener) : Type 0 where
  pub proper : IsProper session opened
  pub then_begun : is_wait_transport (after_input session opened).state.phase ≡ false
  pub stays : (session_react session opened).closes ≡ false

cn_sendable : (c : Connect) → terms_error c ≡ None → IsSendable (asked_for c)
unfolding user_data_of
cn_sendable c h = search (arith, or_second, leb-true, not-false, asked_sendable, or_first)

cn_short : SpduLaws → (c : Connect) → terms_error c ≡ None → length (written (asked_for c)) ≤ 1048576
unfolding unit_of
cn_short law c h = sent_short law (asked_for c) (cn_sendable c h) refl

pub can_begin : SpduLaws → (c : Connect) → terms_error c ≡ None → CanBegin (calls_with c)
unfolding react
can_begin law c h = grind (arith, sent_alone, cn_short)
