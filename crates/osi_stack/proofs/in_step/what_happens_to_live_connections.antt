-- What happens to an end happens to live connections and to new ones alone: it is the same without the lines of
-- connections that are gone.
use Rattle.osi_stack.proofs.Vocabulary.{AllByRecursion, length, with_carrier, Happening, AreUpTo, IsOrderly, Rows, value_at}
use Rattle.osi_stack.proofs.Vocabulary.{State as Carrier, EndReason, Input, after_packet, ends, all_waiting, to_session, live_lines, pruned}
use Rattle.osi_stack.proofs.Vocabulary.{Line, End, ◌≡◌, ℕ, ◌≤◌, Bool, true, ◌||◌, nat_lt, List, [], ◌∷◌, None, is_some, refl, ap, arith}
use Rattle.osi_carrier.specs.Packets as carriers
use Rattle.osi_stack.proofs.carried.events_one_after_the_other.{concluded_carrier}
use Rattle.osi_stack.proofs.carried.packets_without_events.{packet_is}
use Rattle.osi_stack.proofs.opening.connections_that_units_open.{IsOf}
use Rattle.osi_stack.proofs.each_line.lines_stay_in_order.{packet_along}
use Rattle.osi_stack.proofs.in_step.the_other_lines_may_be_dropped.{only, only_end, only_session, only_packet, only_lost, only_told, AreOf}
use Rattle.osi_stack.proofs.in_step.the_other_lines_may_be_dropped.{AreStill, still_session, still_packet, still_lost}
use Rattle.osi_stack.proofs.carried.what_sessions_leave_of_the_carrier.{times_leave, session_keeps}

-- ---- which connections are reached

abbrev pub is_live : Carrier → ℕ → Bool
is_live c r = is_some (value_at r c.live)

-- a live connection, and one that is new
abbrev pub reached : Carrier → ℕ → Bool
reached c r = is_live c r || nat_lt c.given r

pub reached_live : (c : Carrier) (r : ℕ) → is_live c r ≡ true → reached c r ≡ true
reached_live c r h = ap (λ (b : Bool). b || nat_lt c.given r) h

-- one that is gone
pub record IsGone (c : Carrier) (r : ℕ) : Type 0 where
  pub none : value_at r c.live ≡ None
  pub given : r ≤ c.given

reached_all : (c : Carrier) (events : List Happening) → AllByRecursion (IsOf c) events → AreOf (reached c) events
reached_all c [] all = tt
reached_all c (event ∷ events) all = (grind (arith, reached_live), reached_all c events all.1)

-- what a packet tells is of these
pub packet_reaches : (c : Carrier) (unit : List ℕ) → IsOrderly c → c.events ≡ [] → AreOf (reached c) (carriers.after_packet c unit).events
packet_reaches c unit orderly none = grind (arith, reached_all, packet_along unit c orderly)

-- ---- a connection that is gone stays so

gone_packet : (e : End) (unit : List ℕ) (q : ℕ) → IsOrderly e.carrier → IsGone e.carrier q →
    value_at q (after_packet e unit).carrier.live ≡ None
gone_packet e unit q orderly gone =
    let c = carriers.after_packet e.carrier unit in
    let heard = times_leave (length c.events) (with_carrier c e) in
    grind (arith, concluded_carrier, heard.gone q, packet_is e unit, packet_along unit e.carrier orderly)

-- each reference of the one kind is of the other
abbrev pub Within : (ℕ → Bool) → (ℕ → Bool) → Type 0
Within K L = (q : ℕ) → K q ≡ true → L q ≡ true

pub session_within : (r : ℕ) (input : Input) (e : End) → Within (is_live (to_session r input e).carrier) (reached e.carrier)
session_within r input e q here = grind (arith, session_keeps r input e)

-- ---- lines of fewer references

pub only_less : (K L : ℕ → Bool) → Within K L → (lines : Rows Line) → only K (only L lines) ≡ only K lines
only_less K L within [] = refl
only_less K L within ((q, y) ∷ lines) = grind (arith, only_less K L within lines)

-- if no line is new
pub known_live : (c : Carrier) (lines : Rows Line) → AreUpTo c.given lines → only (reached c) lines ≡ live_lines c.live lines
known_live c [] up = refl
known_live c ((q, y) ∷ lines) up = grind (arith, known_live c lines up.1)

-- ---- an end without the lines of connections that are gone

pub pruned_is : (e : End) → AreUpTo e.carrier.given e.lines → only_end (reached e.carrier) e ≡ pruned e
pruned_is e known = ap (λ (l : Rows Line). record e { lines = l }) (known_live e.carrier e.lines known)

-- two ends that are the same but for these lines, for which nothing is pending
pub record SameInLive (a b : End) : Type 0 where
  pub end : pruned a ≡ pruned b
  pub told : all_waiting a.lines ≡ all_waiting b.lines

-- what does the same without them
pub acts_alike : (e new : End) → Within (is_live new.carrier) (reached e.carrier) → AreStill (reached e.carrier) new.lines →
    SameInLive (only_end (reached e.carrier) new) new
acts_alike e new within still =
    grind (arith, only_less (is_live new.carrier) (reached e.carrier) within new.lines, only_told (reached e.carrier) new.lines still)

pub packet_alike : (e : End) (unit : List ℕ) → IsOrderly e.carrier → e.carrier.events ≡ [] → AreUpTo e.carrier.given e.lines →
    AreStill (reached e.carrier) e.lines →
    SameInLive (after_packet (pruned e) unit) (after_packet e unit)
packet_alike e unit orderly none known still =
    search (arith, packet_reaches, after_packet, only_packet, pruned_is, acts_alike, gone_packet, still_packet)

pub session_alike : (r : ℕ) (input : Input) (e : End) → is_live e.carrier r ≡ true → AreUpTo e.carrier.given e.lines →
    AreStill (reached e.carrier) e.lines →
    SameInLive (to_session r input (pruned e)) (to_session r input e)
session_alike r input e here known still =
    grind (
      arith,
      only_session (reached e.carrier) r input e,
      reached_live e.carrier r here,
      pruned_is e known,
      acts_alike e (to_session r input e) (session_within r input e),
      still_session (reached e.carrier) r input e,
    )

pub ends_alike : (reason : EndReason) (e : End) → AreUpTo e.carrier.given e.lines → AreStill (reached e.carrier) e.lines →
    SameInLive (ends reason (pruned e)) (ends reason e)
ends_alike reason e known still = grind (arith, only_lost, pruned_is, acts_alike e (ends reason e), still_lost)
