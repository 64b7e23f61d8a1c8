-- What an end does does not depend on the octets to send: it is the same with others in front.
use Rattle.osi_stack.proofs.Vocabulary.{apart_all, sent, closed_with, sent_all, Happening, packet, user, sends, State as Carrier, Input}
use Rattle.osi_stack.proofs.Vocabulary.{react, hears, hears_first, hears_next, hears_times, with_events, with_carrier, attends}
use Rattle.osi_stack.proofs.Vocabulary.{after_packet, to_session, put_back, End, arith, ◌≡◌, ℕ, zero, suc, List, [], ◌∷◌, refl, ap, ◌∙◌}
use Rattle.osi_carrier.specs.Happenings as told
use Rattle.osi_carrier.specs.Packets as carriers
use Rattle.osi_carrier.specs.Runs as runs
use Rattle.osi_carrier.specs.Runs.UserCall.{closes}
use Rattle.osi_stack.proofs.carried.packets_without_events.{packet_is}

-- with these octets in front
module _ (o : List ℕ) where
  -- ---- what sessions do to the carrier

  abbrev behind : Carrier → Carrier
  behind c = runs.put_back [] o c

  apart_sent : (r : ℕ) (tsdu : List ℕ) (c : Carrier) → sent r tsdu (behind c) ≡ behind (sent r tsdu c)
  apart_sent r tsdu c = apart_all [] o (user (sends r tsdu) ∷ []) c

  apart_closed : (r reason : ℕ) (c : Carrier) → closed_with r reason (behind c) ≡ behind (closed_with r reason c)
  apart_closed r reason c = apart_all [] o (user (closes r reason) ∷ []) c

  apart_sends : (r : ℕ) (tsdus : List (List ℕ)) (c : Carrier) → sent_all r tsdus (behind c) ≡ behind (sent_all r tsdus c)
  apart_sends r [] c = refl
  apart_sends r (tsdu ∷ tsdus) c = ap (sent_all r tsdus) (apart_sent r tsdu c) ∙ apart_sends r tsdus (sent r tsdu c)

  -- ---- events

  pub apart_session : (r : ℕ) (input : Input) (e : End) → to_session r input (put_back o e) ≡ put_back o (to_session r input e)
  apart_session r input e = grind (arith, apart_closed, apart_sends, react)

  apart_hears : (event : Happening) (e : End) → hears event (put_back o e) ≡ put_back o (hears event e)
  apart_hears event e = grind (arith, apart_session)

  apart_first : (events : List Happening) (e : End) → hears_first events (put_back o e) ≡ put_back o (hears_first events e)
  apart_first [] e = refl
  apart_first (event ∷ events) e = apart_hears event (with_events events e)

  apart_times : (n : ℕ) (e : End) → hears_times n (put_back o e) ≡ put_back o (hears_times n e)
  apart_times zero e = refl
  apart_times (suc n) e = ap (hears_times n) (apart_first e.carrier.events e) ∙ apart_times n (hears_next e)

  -- ---- packets

  apart_attends : (e : End) → attends (put_back o e) ≡ put_back o (attends e)
  apart_attends e = grind (arith, apart_times)

  pub apart_packet : (e : End) (unit : List ℕ) → after_packet (put_back o e) unit ≡ put_back o (after_packet e unit)
  apart_packet e unit =
      grind (
        arith,
        packet_is (put_back o e) unit,
        packet_is e unit,
        apart_all [] o (packet unit ∷ []) e.carrier,
        apart_attends (with_carrier (carriers.after_packet e.carrier unit) e),
      )
