-- The effects on a carrier don't depend on queued events and octets to send: they are the same with others in front.
use Rattle.std.proofs.Common.{arith, ◌≡◌, ℕ, ◌+◌, List, [], ◌∷◌, ◌++◌, Option, Some, refl, ap, ◌∙◌, append_assoc}
use Rattle.osi_carrier.specs.Runs.UserCall.{closes as closing_call, breaks as breaking_call}
use Rattle.osi_carrier.proofs.Vocabulary.{Value, Connect, request, disconnect, disconnected, Standing, Class, Zero, sent_on, open_link}
use Rattle.osi_carrier.proofs.Vocabulary.{closes, Happening, proposal, after_packet, answers_request, to_unknown, to_asked, to_linked}
use Rattle.osi_carrier.proofs.Vocabulary.{to_reference, to_only, react, reacts, Rows, UserCall, Act, user_does, does, all_done, put_back}
use Rattle.osi_carrier.proofs.Vocabulary.{connects, sends, Connection, asked, closing, State, writes, joins, moves, packets, sent_all}
use Rattle.osi_carrier.proofs.Vocabulary.{sends_all, sent}

-- with these events and octets in front
module _ (e : List Happening) (o : List ℕ) where
  apart_writes : (units : List Value) (s : State) → writes units (put_back e o s) ≡ put_back e o (writes units s)
  apart_writes units s = ap (λ out. record s { events = e ++ s.events; outgoing = out }) (append_assoc o s.outgoing (packets units))

  -- ---- a CR

  apart_request : (c : Connect) (s : State) → (answers_request c (put_back e o s)).state ≡ put_back e o (answers_request c s).state
  apart_request c s = grind (arith, apart_writes, append_assoc)

  -- ---- a unit for a connection

  apart_unknown : (unit : Value) (s : State) → (to_unknown unit (put_back e o s)).state ≡ put_back e o (to_unknown unit s).state
  apart_unknown (disconnect destination source reason octets) s = apart_writes (disconnected source destination ∷ []) s
  apart_unknown unit s = refl

  apart_asked : (r : ℕ) (unit : Value) (s : State) → (to_asked r unit (put_back e o s)).state ≡ put_back e o (to_asked r unit s).state
  apart_asked r unit s = search (arith, append_assoc, apart_unknown)

  apart_linked : (r peer : ℕ) (link : Standing) (unit : Value) (s : State) →
      (to_linked r peer link unit (put_back e o s)).state ≡ put_back e o (to_linked r peer link unit s).state
  apart_linked r peer link unit s = search (arith, append_assoc, apart_writes)

  apart_reference : (r : ℕ) (unit : Value) (s : State) →
      (to_reference r unit (put_back e o s)).state ≡ put_back e o (to_reference r unit s).state
  apart_reference r unit s = grind (arith, apart_unknown, apart_asked, apart_linked)

  -- ---- by class

  apart_only : (live : Rows Connection) (unit : Value) (s : State) →
      (to_only live unit (put_back e o s)).state ≡ put_back e o (to_only live unit s).state
  apart_only [] unit s = refl
  apart_only ((r, connection) ∷ rows) unit s = grind (arith, apart_unknown, apart_asked, apart_linked)

  apart_react : (unit : Value) (s : State) → react unit (put_back e o s) ≡ put_back e o (react unit s)
  unfolding react
  apart_react unit s = grind (arith, apart_reference, apart_request, apart_only)

  -- ---- packets and calls

  apart_reacts : (units : List Value) (s : State) → reacts units (put_back e o s) ≡ put_back e o (reacts units s)
  apart_reacts [] s = refl
  apart_reacts (unit ∷ units) s = ap (reacts units) (apart_react unit s) ∙ apart_reacts units (react unit s)

  apart_packet : (unit : List ℕ) (s : State) → after_packet (put_back e o s) unit ≡ put_back e o (after_packet s unit)
  unfolding after_packet
  apart_packet unit s = grind (arith, apart_reacts)

  apart_sent : (r : ℕ) (octets : List ℕ) (link : Option (ℕ × Standing)) (s : State) →
      sent_on r octets link (put_back e o s) ≡ put_back e o (sent_on r octets link s)
  apart_sent r octets h s = grind (arith, apart_writes)

  apart_sent_all : (r : ℕ) (tsdus : List (List ℕ)) (s : State) → sent_all r tsdus (put_back e o s) ≡ put_back e o (sent_all r tsdus s)
  apart_sent_all r [] s = refl
  apart_sent_all r (octets ∷ tsdus) s = grind (arith, apart_sent, apart_sent_all r tsdus (sent r octets s))

  apart_closes : (r peer reason : ℕ) (held : Option Class) (s : State) →
      closes r peer reason held (put_back e o s) ≡ put_back e o (closes r peer reason held s)
  apart_closes r peer reason (Some Zero) s = refl
  apart_closes r peer reason held s = apart_writes (disconnect peer r reason [] ∷ []) (moves r (closing peer) s)

  apart_user : (call : UserCall) (s : State) → user_does call (put_back e o s) ≡ put_back e o (user_does call s)
  apart_user (connects calling called) s =
      apart_writes (request (proposal s.local s.class calling called (s.given + 1)) ∷ [])
      (joins (s.given + 1) asked (record { calling = calling; called = called }) (record s { given = s.given + 1 }))
  apart_user (sends r octets) s = apart_sent r octets (open_link r s) s
  apart_user (sends_all r tsdus) s = apart_sent_all r tsdus s
  apart_user (closing_call r reason) s = grind (arith, apart_closes)
  apart_user (breaking_call reason) s = grind arith

  pub apart_all : (acts : List Act) (s : State) → all_done acts (put_back e o s) ≡ put_back e o (all_done acts s)
  apart_all [] s = refl
  apart_all (act ∷ acts) s = ap (all_done acts) (grind (arith, apart_packet, apart_user)) ∙ apart_all acts (does act s)
