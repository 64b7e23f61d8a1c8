-- The class of a connection at a message that a session receives.
-- For breaks and ends and packets.
use Rattle.osi_between.specs.Messages as carrier
use Rattle.osi_machine.specs.Worlds as worlds
use Rattle.osi_pair.proofs.Vocabulary.{◌≡◌, ℕ, ◌≤◌, None, option_map, sym, ap, subst, ◌∙◌, inl, inr, arith, Held, Value, place_at, Between}
use Rattle.osi_pair.proofs.Vocabulary.{last_of, in_use, Terms, class_of, learns, Line, Tables, Message, End, TwoEnds, is_caller, class_in}
use Rattle.osi_pair.proofs.Vocabulary.{terms_in, message_in, Stands, Side}
use Rattle.osi_pair.proofs.flight.which_unit_arrives_first.{IsFirstFor}
use Rattle.osi_pair.proofs.turn.what_remains_when_a_unit_was_taken.{terms_at, DidAt, is_agree, last_is, known_then}
use Rattle.osi_pair.proofs.packet.what_a_session_hears_row_by_row.{AsMove, got_in}
use Rattle.osi_pair.proofs.packet.a_unit_with_which_no_session_acts.{is_awaited, learns_row}
use Rattle.osi_pair.proofs.flight.what_may_arrive_row_by_row.{Row, agrees, denies, before, after, arrived_in, is_row}
use Rattle.osi_pair.proofs.session.a_seat_is_its_progress_and_session.{transport_by}
use Rattle.osi_pair.proofs.turn.a_turn_keeps_the_match.{with_holding}
use Rattle.osi_pair.proofs.flight.whether_something_is_cut_off.{Lasts}
use Rattle.osi_pair.proofs.flight.what_a_closing_receiver_has_dropped.{kind_of}

-- ---- a CC

-- and the tables learn it
learned : (t : Tables) (l : Line) (m : Message) (terms : Terms) → t.terms ≡ terms_in terms → l.own.transport ≡ worlds.waiting →
    is_row terms agrees → kind_of (message_in m) ≡ carrier.agree →
    learns t.terms l.own.transport m t.known ≡ option_map class_in (class_of terms)
learned t l m terms e tr is alike = grind arith

-- ---- all three

-- if the connection is open then, it is the class on which the two agree
pub moved_class : (s : Side) (p : TwoEnds) (b : Between) (t : Tables) (e : End) (h : Held) (n : ℕ) (l : Line) (m : Message) (u : Value)
    (row : Row) → Stands p b t → (d : DidAt s p b e h n) →
    IsFirstFor (terms_at p) (is_caller s) b.caller (place_at n (last_of (is_caller s) b)) u → d.row ≡ row → AsMove row →
    l.own.transport ≡ transport_by (before row) → kind_of (message_in m) ≡ kind_of (got_in row) → after row ≡ in_use →
    learns t.terms l.own.transport m t.known ≡ option_map class_in (class_of (terms_at p))
moved_class s p b t e h n l m u row old d first same (inl is) tr alike open_now =
    let row_is : is_row (terms_at p) agrees = subst (λ (r : Row). is_row (terms_at p) r) (same ∙ is) d.is in
    learned t l m (terms_at p) old.terms (tr ∙ ap (λ (r : Row). transport_by (before r)) is) row_is
    (subst (λ (r : Row). kind_of (message_in m) ≡ kind_of (got_in r)) is alike)
moved_class s p b t e h n l m u row old d first same (inr (inl is)) tr alike open_now = grind (arith, after)
moved_class s p b t e h n l m u row old d first same (inr (inr is)) tr alike open_now = grind (arith, learns_row, is_awaited, before)

-- what the tables have then is what the caller has
pub moved_known : (s : Side) (p : TwoEnds) (b : Between) (t : Tables) (e : End) (h : Held) (n : ℕ) (l : Line) (m : Message) (u : Value)
    (row : Row) → Stands p b t → Lasts s p → (d : DidAt s p b e h n) → e.carrier.ended ≡ None →
    IsFirstFor (terms_at p) (is_caller s) b.caller (place_at n (last_of (is_caller s) b)) u → n ≤ b.caller.given → d.row ≡ row →
    AsMove row → l.own.transport ≡ transport_by (before row) → kind_of (message_in m) ≡ kind_of (got_in row) →
    learns t.terms l.own.transport m t.known ≡ option_map class_in (with_holding s e h p).left.end.carrier.class
moved_known s p b t e h n l m u row old alive d lasts first given same (inl is) tr alike =
    let one : d.row ≡ agrees = same ∙ is in
    moved_class s p b t e h n l m u row old d first same (inl is) tr alike (ap after is)
    ∙ ap (option_map class_in) (sym (grind (arith, last_is, terms_at, arrived_in, is_row)))
moved_known s p b t e h n l m u row old alive d lasts first given same (inr (inl is)) tr alike =
    let one : d.row ≡ denies is.0 = same ∙ is.1 in
    grind (arith, is_row, is_agree, terms_at p, known_then s p b t e h n old alive d lasts given (ap is_agree one))
moved_known s p b t e h n l m u row old alive d lasts first given same (inr (inr is)) tr alike =
    learns_row row l.own.transport t.terms m t.known tr (ap is_awaited is.1)
    ∙ known_then s p b t e h n old alive d lasts given (ap is_agree (same ∙ is.1))
