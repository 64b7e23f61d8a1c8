-- An end takes a packet, and handles the events of its carrier.
-- For sessions, packets and carries.
use Rattle.osi_carrier.specs.Packets as carriers
use Rattle.osi_carrier.specs.React.{react as carrier_react}
use Rattle.osi_machine.specs.Worlds as worlds
use Rattle.osi_pair.proofs.Vocabulary.{◌≡◌, ℕ, true, List, [], ◌∷◌, Some, None, is_some, IfSome, ap, ◌∙◌, arith, Value, Happening, Rows}
use Rattle.osi_pair.proofs.Vocabulary.{value_at, State as Carrier, Progress, IsInOctets, Input, Standing, react, is_ended, listening}
use Rattle.osi_pair.proofs.Vocabulary.{awaits, carries_out, after_packet, attends, concludes, hears, with_carrier, told_all, kept_at}
use Rattle.osi_pair.proofs.Vocabulary.{line_after, End, put_here, quiet_attends, packet_is, is_parting, quieted, put_row as put}
use Rattle.osi_pair.proofs.Vocabulary.{EndLine as Line, quieted_at, one_heard, Option, joining, sym}
use Rattle.osi_pair.proofs.session.an_end_moves_as_the_tables_do.{as_made}
use Rattle.osi_pair.proofs.packet.a_unit_at_rest_keeps_the_match.{acted_end}
use Rattle.osi_pair.proofs.session.a_seat_is_its_progress_and_session.{transport_by, HasSession}

-- ---- the carrier acted

pub carried_out : (e : End) (packet : List ℕ) (u : Value) → carriers.after_packet e.carrier packet ≡ carrier_react u e.carrier →
    after_packet e packet ≡ attends (carries_out u e)
carried_out e packet u acts = packet_is e packet ∙ ap (λ (c : Carrier). attends (with_carrier c e)) acts

-- it reported no event
pub nothing_heard : (e : End) (packet : List ℕ) (u : Value) → carriers.after_packet e.carrier packet ≡ carrier_react u e.carrier →
    (carrier_react u e.carrier).events ≡ [] → (carrier_react u e.carrier).ended ≡ None → after_packet e packet ≡ acted_end u e.lines e
nothing_heard e packet u acts none lasts =
    grind (arith, carried_out e packet u acts, quiet_attends (carries_out u e) (record { lasts = ap is_some lasts; events = none }))

-- it reported one event
pub one_told : (e : End) (packet : List ℕ) (u : Value) (event : Happening) →
    carriers.after_packet e.carrier packet ≡ carrier_react u e.carrier → (carrier_react u e.carrier).events ≡ event ∷ [] →
    after_packet e packet ≡ concludes (hears event (told_all u e))
one_told e packet u event acts one = carried_out e packet u acts ∙ ap concludes (one_heard (carries_out u e) event one)

-- ---- a session of it acts

-- what it leaves
abbrev pub lines_then : ℕ → Line → Standing → Input → Rows Line → Rows Line
lines_then n line x input lines = put n (line_after line (as_made (react x input))) lines

pub lasting : (e : End) → e.carrier.ended ≡ None → concludes e ≡ e
lasting e h = grind arith

-- ---- the session then

pub kept_then : (n : ℕ) (line was : Line) (x : Standing) (input : Input) (lines : Rows Line) → value_at n lines ≡ Some was →
    kept_at n (quieted (lines_then n line x input lines)) ≡ Some (listening (react x input).next)
kept_then n line was x input lines here = grind (arith, quieted_at, put_here, as_made)

pub has_session : (n : ℕ) (lines : Rows Line) (g : Progress) (x : Standing) (joined : Option (List ℕ)) →
    kept_at n lines ≡ Some (joining joined x) → (is_parting (transport_by g) ≡ true → is_ended x.state.phase ≡ true) →
    (transport_by g ≡ worlds.not_yet → x ≡ awaits) → IfSome x.waiting IsInOctets → HasSession n lines g x
has_session n lines g x joined here ended waits octets = record {
  joined = joined;
  live = λ e. here;
  kept = λ y at. (let same : Some (joining joined x) ≡ Some y = sym here ∙ at in cc);
  over_now = ended;
  awaiting = waits;
  octets = octets;
}
