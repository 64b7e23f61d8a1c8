-- An end that lasts takes a packet: however it is handled, two ends match the machine with what arrived.
-- For the laws of `standing`.
use Rattle.osi_pair.proofs.Vocabulary.{◌≡◌, ℕ, Bool, true, false, List, ◌++◌, refl, ◌⊎◌, inl, inr, arith, Held, IsPacket, NoMemory, Between}
use Rattle.osi_pair.proofs.Vocabulary.{IsTableRun, Step, Tables, after_packet, Starves, End, TwoEnds, end_at, StandsAtArrivals, Stands}
use Rattle.osi_pair.proofs.Vocabulary.{StandsAt, Side, ends_end}
use Rattle.osi_pair.proofs.packet.when_a_session_replies_or_closes.{AnswerLaws, moving_packet}
use Rattle.osi_pair.proofs.turn.what_remains_when_a_unit_was_taken.{PacketAt}
use Rattle.osi_pair.proofs.packet.a_session_that_moved.{leaving_packet, MovingLaws, has_moved, arriving, part_shown}
use Rattle.osi_pair.proofs.packet.a_session_makes_its_move.{is_move}
use Rattle.osi_pair.proofs.packet.a_packet_is_one_delivery_or_none.{is_heard}
use Rattle.osi_pair.proofs.carry.packets_are_taken_in_turn.{PacketStands}
use Rattle.osi_pair.proofs.flight.what_may_arrive_row_by_row.{leaves, Row}
use Rattle.osi_pair.proofs.turn.all_is_shown.{shown_pair, StandsShown}
use Rattle.osi_pair.proofs.ending.memory_runs_out_for_an_event.{StarveLaws, starved_shown}
use Rattle.osi_pair.proofs.packet.a_packet_is_taken.{unheard_shown, tables_at, is_run, arrivals_at, packet_at}
use Rattle.osi_pair.proofs.flight.who_receives_what_is_in_flight.{takes_from}
use Rattle.osi_pair.proofs.ending.want_of_memory_is_an_end.{ended_shown}
use Rattle.osi_pair.proofs.flight.whether_something_is_cut_off.{Lasts}

-- what a session receives: it moves, or is lost
heard_row : (row : Row) → is_heard row ≡ true → (is_move row ≡ true) ⊎ ((reason : ℕ) × (row ≡ leaves reason))
heard_row row e = grind arith

shown_by : MovingLaws → AnswerLaws → (s : Side) (p : TwoEnds) (b : Between) (t : Tables) (packet : List ℕ) (h : Held) →
    (old : Stands p b t) → IsTableRun t → (alive : Lasts s p) → (pa : PacketAt s p b packet h) → (heard : Bool) →
    is_heard pa.did.row ≡ heard → StandsShown s p t (after_packet (end_at s p).end packet) h
shown_by laws answers s p b t packet h old run alive pa false e = unheard_shown laws.packet s p b t packet h old alive pa e
shown_by laws answers s p b t packet h old run alive pa true e =
    elim (arriving laws s p b t packet h old run alive pa e) [
      | inl v ↦ elim (heard_row pa.did.row e) [
        | inl move ↦ moving_packet laws.packet.two answers s p t packet h (has_moved laws s p b t packet h old run alive pa e v move)
        | inr left ↦ leaving_packet laws s p b t packet h old run alive pa e v left.0 left.1
      ]
      | inr v ↦ part_shown laws s p b t packet h old run alive pa e v
    ]

-- at a list of steps
pub told_at : MovingLaws → AnswerLaws → (p : TwoEnds) (steps : List Step) (s : Side) (packet octets : List ℕ) (h : Held) →
    StandsAt p steps → Lasts s p → IsPacket packet octets → (end_at s p).held.octets ≡ octets ++ h.octets →
    StandsAtArrivals s (shown_pair s (after_packet (end_at s p).end packet) h p) steps
told_at laws answers p steps s packet octets h at alive is cut =
    let pa = packet_at laws.packet s p steps packet octets h at alive is cut in
    arrivals_at s p steps (after_packet (end_at s p).end packet) h at
    (shown_by laws answers s p at.now (tables_at p steps) packet h at.stands (is_run p steps at) alive pa (is_heard pa.did.row) refl)

-- ---- the laws of one packet

starved_at : StarveLaws → (p : TwoEnds) (steps : List Step) (s : Side) (packet octets : List ℕ) (new : End) (h : Held) → StandsAt p steps →
    Lasts s p → IsPacket packet octets → (end_at s p).held.octets ≡ octets ++ h.octets → Starves (end_at s p).end packet new →
    StandsAtArrivals s (shown_pair s new h p) steps
starved_at laws p steps s packet octets new h at alive is cut starved = search (arith, arrivals_at, starved_shown, is_run)

ended_at : StarveLaws → (p : TwoEnds) (steps : List Step) (s : Side) (h : Held) → StandsAt p steps → Lasts s p →
    StandsAtArrivals s (shown_pair s (ends_end NoMemory (end_at s p).end) h p) steps
ended_at laws p steps s h at alive = search (arith, arrivals_at, ended_shown, takes_from, is_run)

pub packet_stands : MovingLaws → AnswerLaws → StarveLaws → PacketStands
packet_stands laws answers starve = search (arith, told_at, starved_at, ended_at)
