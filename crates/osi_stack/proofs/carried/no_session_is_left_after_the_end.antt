-- Once the carrier has ended no session is left.
use Rattle.std.proofs.Common.{arith, ◌≡◌, ℕ, Bool, true, false, List, Option, refl, ap, ◌∙◌}
use Rattle.osi_carrier.specs.Packets as carriers
use Rattle.osi_stack.proofs.Vocabulary.{Fed, open_link, sent_on, send_all_error, State as Carrier, put_same, Standing as Link, Call}
use Rattle.osi_stack.proofs.Vocabulary.{Listener, called, react, breaks, without_first, Feeds, concludes, after_packet, ends, all_lost}
use Rattle.osi_stack.proofs.Vocabulary.{Starves, kept_at, to_session, IsGone, End, Holding, answers_by}
use Rattle.osi_stack.proofs.carried.packets_without_events.{packet_is}
use Rattle.osi_stack.proofs.carried.what_a_move_leaves.{are_lost, kept_first}
use Rattle.osi_stack.proofs.carried.what_each_step_preserves.{unless_sent}
use Rattle.osi_stack.proofs.stream.what_feeding_keeps.{IsKept, feeds_kept, breaks_kept}

-- if all connections are lost, none remains
lost_gone : (e new : End) → new.lines ≡ all_lost e.lines → IsGone new
lost_gone e new is over r = ap (kept_at r) is ∙ (are_lost e.lines).none r

-- ---- calls

sent_lasts_by : (r : ℕ) (tsdu : List ℕ) (o : Option (ℕ × Link)) (c : Carrier) → (sent_on r tsdu o c).ended ≡ c.ended
sent_lasts_by r tsdu h c = grind arith

-- what a call sends does not end the carrier
answers_last : (closes : Bool) (r : ℕ) (tsdus : List (List ℕ)) (c : Carrier) → closes ≡ false →
    (answers_by closes r tsdus c).ended ≡ c.ended
answers_last true r tsdus c still = cc
answers_last false r tsdus c still =
    unless_sent (λ x. x.ended ≡ c.ended) (λ q tsdu x same. sent_lasts_by q tsdu (open_link q x) x ∙ same)
    (send_all_error tsdus (open_link r c)) r tsdus c refl

pub call_gone : ((s : Listener) (call : Call) → (react s (called call)).closes ≡ false) → (r : ℕ) (call : Call) (e : End) → IsGone e →
    IsGone (to_session r (called call) e)
call_gone law r call e gone over q = grind (arith, answers_last, react, put_same)

pub first_gone : (e : End) → IsGone e → IsGone (record e { lines = without_first e.lines })
first_gone e gone over r = kept_first r e.lines ∙ gone over r

-- ---- packets

pub concluded_gone : (e : End) → IsGone (concludes e)
concluded_gone e = grind (arith, lost_gone)

starved_gone : (e new : End) (packet : List ℕ) → Starves e packet new → IsGone new
starved_gone e new packet h = grind (arith, lost_gone)

gone_kept : IsKept IsGone
gone_kept = record {
  each = λ packet e lasts gone. grind (arith, lost_gone, after_packet e packet, packet_is e packet);
  over = λ reason e gone. lost_gone e (ends reason e) refl;
  starved = λ packet e new lasts h gone. starved_gone e new packet h;
}

pub breaks_gone : (e : End) → IsGone e → IsGone (breaks e)
breaks_gone e gone = breaks_kept IsGone gone_kept e gone

pub feeds_gone : (old new : Holding) (piece : List ℕ) (fed : Fed) → Feeds old piece fed new → IsGone old.end → IsGone new.end
feeds_gone old new piece fed h gone = feeds_kept IsGone gone_kept old new piece fed h gone
