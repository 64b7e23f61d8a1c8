-- The invariant of every end is kept, whatever is called and fed.
use Rattle.osi_stack.proofs.Vocabulary.{eqb-true, eq-eqb, nat_tests, Value, Standing as Link, may_connect, asks, sent_on, closed_on}
use Rattle.osi_stack.proofs.Vocabulary.{AreUpTo, IsOrderly, reacts, Rows, value_at, Connection, State as Carrier, is_open, EndReason}
use Rattle.osi_stack.proofs.Vocabulary.{OpenError, beyond, push_here, put_up, push_other, effect, orderly_packet, orderly_asks}
use Rattle.osi_stack.proofs.Vocabulary.{orderly_same, packet_opens, asks_opens, Call, Input, Listener, called, connects, connect_error}
use Rattle.osi_stack.proofs.Vocabulary.{after_open, terms_error, calls_with, breaks, carried, without_first, Feeds, Connect, ConnectError}
use Rattle.osi_stack.proofs.Vocabulary.{tsap_octets, Fed, Local, hears_times, hears_all, with_carrier, after_packet, all_lost, needs_link}
use Rattle.osi_stack.proofs.Vocabulary.{AreApart, HasLinks, Soundness, IsSound, kept_at, to_session, Line, End, Holding, IsAttended}
use Rattle.osi_stack.proofs.Vocabulary.{fresh_end, used_lines, joins, fresh_line, ◌≡◌, ℕ, ◌+◌, ◌==◌, ◌≤◌, Bool, false, List, ◌∷◌, length}
use Rattle.osi_stack.proofs.Vocabulary.{Option, None, is_some, option_map, refl, sym, subst, ◌∙◌, inl, arith, if◌then◌else◌, []}
use Rattle.osi_carrier.specs.Happenings as told
use Rattle.osi_carrier.specs.Packets as carriers
use Rattle.osi_carrier.specs.React.{react as carrier_react}
use Rattle.osi_stack.proofs.carried.events_one_after_the_other.{concluded_carrier}
use Rattle.osi_stack.proofs.carried.what_a_move_leaves.{kept_first, used_keep, first_keep}
use Rattle.osi_stack.proofs.carried.what_sessions_leave_of_the_carrier.{session_keeps, session_orderly}
use Rattle.osi_stack.proofs.carried.packets_without_events.{both, packet_is, never}
use Rattle.osi_stack.proofs.carried.open_connections_stay_open.{SessionLaws, IsLinked, AllLinked, times_linked, times_apart, times_last}
use Rattle.osi_stack.proofs.carried.open_connections_stay_open.{apart_joins, session_linked, session_hears, session_apart, used_at, Stays}
use Rattle.osi_stack.proofs.carried.open_connections_stay_open.{apart_push, mono, joined_lines}
use Rattle.osi_stack.proofs.carried.what_each_step_preserves.{events_heard}
use Rattle.osi_stack.proofs.stream.what_feeding_keeps.{IsKept, feeds_kept, over_beside, both_kept}
use Rattle.osi_stack.proofs.stream.what_was_written_is_read.{attended_kept}

-- ---- how many references were given

pub units_rise : (units : List Value) (c : Carrier) → c.given ≤ (reacts units c).given
units_rise [] c = omega arith
units_rise (unit ∷ units) c = grind (arith, effect unit c, units_rise units (carrier_react unit c))

pub packet_rises : (packet : List ℕ) (c : Carrier) → c.given ≤ (carriers.after_packet c packet).given
unfolding carriers.after_packet
packet_rises packet c = grind (arith, units_rise)

-- ---- references of lines

pub up_more : (m n : ℕ) (lines : Rows Line) → m ≤ n → AreUpTo m lines → AreUpTo n lines
up_more m n [] less up = tt
up_more m n ((r, line) ∷ lines) less up = ((let here = up.0 in omega arith), up_more m n lines less up.1)

-- a new line is kept only if its connection is live
up_joined : (n r : ℕ) (s : Listener) (live : Rows Connection) (lines : Rows Line) → AreUpTo n live → AreUpTo n lines →
    AreUpTo n (used_lines live (joined_lines r s lines))
up_joined n r s live [] up known = grind (arith, used_keep, nat_tests, beyond, is_some)
up_joined n r s live ((p, y) ∷ lines) up known = grind (arith, used_keep, joined_lines, up_joined n r s live lines up known.1)

-- ---- what a session leaves of its carrier

pub sent_given : (r : ℕ) (tsdu : List ℕ) (o : Option (ℕ × Link)) (c : Carrier) → (sent_on r tsdu o c).given ≡ c.given
sent_given r tsdu o c = grind arith

pub closed_given : (r reason : ℕ) (o : Option (ℕ × Link)) (c : Carrier) → (closed_on r reason o c).given ≡ c.given
closed_given r reason o c = grind arith

-- the carrier is orderly, and lines have references that were given
pub record Fits (e : End) : Type 0 where
  pub orderly : IsOrderly e.carrier
  pub known : AreUpTo e.carrier.given e.lines

-- what happens to a session keeps them
pub session_fits : (r : ℕ) (input : Input) (e : End) → Fits e → Fits (to_session r input e)
session_fits r input e f = grind (arith, session_orderly r input e f.orderly, session_keeps r input e, put_up)

pub joins_fits : (r : ℕ) (s : Listener) (e : End) → Fits e → Fits (joins r s e)
joins_fits r s e f = record { orderly = f.orderly; known = up_joined e.carrier.given r s e.carrier.live e.lines f.orderly.up_to f.known }

pub times_fits : (n : ℕ) (e : End) → Fits e → Fits (hears_times n e)
times_fits n e f =
    events_heard Fits (λ events x f. record { orderly = orderly_same x.carrier x.carrier.outgoing events f.orderly; known = f.known })
    (search (arith, joins_fits, session_fits)) n e f

-- ---- links

-- if no event is still to be handled
links_linked : (e : End) → HasLinks e → e.carrier.ended ≡ None → AllLinked [] e
links_linked e links over = λ r. record { needed = λ s is n h. links over r s is n; fresh = inl (λ h. cc) }

linked_links : (e : End) → (e.carrier.ended ≡ None → AllLinked [] e) → HasLinks e
linked_links e l over r s is n = (l over r).needed s is n refl

-- ---- a packet

-- the events of its carrier are still to be handled
packet_linked : (e : End) (packet : List ℕ) → IsOrderly e.carrier → e.carrier.events ≡ [] → AllLinked [] e →
    (carriers.after_packet e.carrier packet).ended ≡ None →
    AllLinked (carriers.after_packet e.carrier packet).events (with_carrier (carriers.after_packet e.carrier packet) e)
packet_linked e packet orderly none l over =
    λ r. grind (arith, mono, packet_opens packet e.carrier r orderly over)

pub concludes_lasting : (o : Option EndReason) (e : End) → o ≡ None → (if is_some o then record e { lines = all_lost e.lines } else e) ≡ e
concludes_lasting o e h = grind arith

pub packet_sound : SessionLaws → (packet : List ℕ) (e : End) → e.carrier.ended ≡ None → e.carrier.events ≡ [] → IsSound e →
    IsSound (after_packet e packet)
packet_sound laws packet e lasts none sound over =
    let s = sound lasts in
    let c = carriers.after_packet e.carrier packet in
    let mid = with_carrier c e in
    let heard = hears_all mid in
    let is = packet_is e packet in
    let heard_lasts : heard.carrier.ended ≡ None = grind (arith, concluded_carrier) in
    let told_lasts : c.ended ≡ None = times_last (length c.events) mid heard_lasts in
    let all : AllLinked [] heard = search (arith, times_linked, packet_linked, links_linked) in
    let f = times_fits (length c.events) mid
    (search (arith, orderly_packet, up_more, packet_rises)) in
    let same : heard ≡ after_packet e packet = sym (concludes_lasting heard.carrier.ended heard heard_lasts) ∙ sym is in
    subst Soundness same (grind (arith, times_apart, linked_links))

-- ---- calls

pub fresh_sound : (is_caller : Bool) (local : Local) → IsSound (fresh_end is_caller local)
fresh_sound is_caller local over = grind arith

pub call_sound : SessionLaws → (r : ℕ) (call : Call) (e : End) → IsSound e → IsSound (to_session r (called call) e)
call_sound laws r call e sound over =
    let lasts = (session_keeps r (called call) e).leaves.lasts over in
    let s = sound lasts in
    let f = session_fits r (called call) e (record { orderly = s.orderly; known = s.known }) in
    let l = links_linked e s.links lasts in
    let before : AllLinked (told.refused r 0 ∷ []) e = (λ q. record { needed = (l q).needed; fresh = (l q).fresh }) in
    let all = session_linked laws r (called call) (told.refused r 0) [] e (to_session r (called call) e) refl
    (session_hears r (called call) e) over
    (λ t is n h. (l r).needed t is (laws.linked t (called call) (grind arith) n) h) before in
    search (session_apart r (called call) e s.apart, linked_links (to_session r (called call) e) (λ x. all))

pub open_none : (o : Option OpenError) (error : Option ConnectError) → after_open o error ≡ None → o ≡ None
open_none o error h = grind arith

-- a caller's session waits for its connection
asked_linked : (q : ℕ) (s : Listener) (e : End) (c : Carrier) → value_at q e.lines ≡ None → AreApart e.lines →
    needs_link s.state.phase ≡ false → AllLinked [] e →
    ((r : ℕ) → is_open r c ≡ is_open r e.carrier) → (r : ℕ) (b : Bool) → (r == q) ≡ b → Stays r c.live (joined_lines q s e.lines) →
    IsLinked r (kept_at r (used_lines c.live (joined_lines q s e.lines))) [] c
asked_linked q s e c none apart unneeded l same r b at h = grind (arith, eqb-true, joined_lines, push_here, both, eq-eqb, push_other)

pub connect_sound : (c : Connect) (e : End) → connect_error c e ≡ None → IsSound e → IsSound (connects c e)
connect_sound c e allowed sound over =
    let s = sound over in
    let calling = option_map tsap_octets c.calling_tsap in
    let to = option_map tsap_octets c.called_tsap in
    let may = open_none (may_connect e.carrier) (terms_error c) allowed in
    let asked = asks calling to e.carrier in
    let orderly = orderly_asks calling to e.carrier may s.orderly in
    let q = e.carrier.given + 1 in
    let none = beyond q e.carrier.given e.lines s.known (omega arith) in
    let apart = apart_joins q (calls_with c) (record e { carrier = asked }) none s.apart in
    let l = asked_linked q (calls_with c) e asked none s.apart refl (links_linked e s.links over)
    (λ r. asks_opens calling to e.carrier r s.orderly) in
    let stays = (λ (r : ℕ). used_at r asked.live (joined_lines q (calls_with c) e.lines)
    (apart_push q (fresh_line (calls_with c)) e.lines none s.apart)) in
    search (
      (joins_fits q (calls_with c) (record e { carrier = asked })
          (record { orderly = orderly; known = up_more e.carrier.given q e.lines (omega arith) s.known })).known,
      linked_links (connects c e) (λ x r. l r (r == q) refl (stays r)),
    )

-- ---- indications and octets that go

first_up : (n : ℕ) (lines : Rows Line) → AreUpTo n lines → AreUpTo n (without_first lines)
first_up n [] up = tt
first_up n ((r, line) ∷ lines) up = first_keep (AreUpTo n) r line lines (up.0, first_up n lines up.1) (λ left. up)

first_gone : (q : ℕ) (lines : Rows Line) → value_at q lines ≡ None → value_at q (without_first lines) ≡ None
first_gone q [] none = refl
first_gone q ((r, line) ∷ lines) none = grind (arith, first_keep, first_gone q lines)

first_apart : (lines : Rows Line) → AreApart lines → AreApart (without_first lines)
first_apart [] apart = tt
first_apart ((r, line) ∷ lines) apart = grind (arith, first_keep, first_gone, first_apart lines apart.1)

pub first_sound : (e : End) → IsSound e → IsSound (record e { lines = without_first e.lines })
first_sound e sound over = grind (arith, first_apart, first_up, kept_first)

pub carried_sound : (octets : ℕ) (e : End) → IsSound e → IsSound (carried octets e)
carried_sound octets e sound over = grind arith

pub breaks_sound : (e : End) → IsSound (breaks e)
breaks_sound e = grind arith

-- ---- feeding

-- while it lasts, an end has handled all events of its carrier
abbrev pub IsHale : End → Type 0
IsHale e = IsAttended e × IsSound e

pub hale_kept : SessionLaws → IsKept IsHale
hale_kept laws = search (arith, both_kept, attended_kept, over_beside, packet_sound, never)

pub feeds_sound : SessionLaws → (old new : Holding) (piece : List ℕ) (fed : Fed) → Feeds old piece fed new → IsAttended old.end →
    IsSound old.end → IsSound new.end
feeds_sound laws old new piece fed h attended sound = (feeds_kept IsHale (hale_kept laws) old new piece fed h (attended, sound)).1
